use Rattle.std.proofs.Common.{refl}
use Rattle.jnl_store.proofs.Slots.{each_same}
use Rattle.jnl_store.proofs.store.Store.reread_slots.Goals as goal

pub returns-then-idle-clause-slots : goal.returns-then-idle-clause-slots
returns-then-idle-clause-slots g c = each_same c.args.self.now.plan c.args.self.now.cache c.args.self.now.cache refl
