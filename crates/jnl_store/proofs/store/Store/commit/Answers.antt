use Rattle.std.proofs.Common.{refl}
use Rattle.jnl_store.specs.Store.{plan_of, slots_of}
use Rattle.jnl_store.proofs.Slots.{each_same}
use Rattle.jnl_store.proofs.store.Store.commit.Goals as goal

pub returns-then-self-gt0-clause-slots : goal.returns-then-self-gt0-clause-slots
returns-then-self-gt0-clause-slots g c = each_same (plan_of c.args.self.now) (slots_of c.args.self.now) (slots_of c.args.self.now) refl
