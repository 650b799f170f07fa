use Rattle.std.proofs.Common.{inl, refl}
use Rattle.jnl_store.proofs.Settling.{begun_batch, keeps_batch}
use Rattle.jnl_store.proofs.Slots.{keeps_over}
use Rattle.jnl_store.proofs.store.Store.begin.Goals as goal

pub returns-clause-keeps : goal.returns-clause-keeps
returns-clause-keeps c sectors candidates k =
    let b = begun_batch c.begin.result c.args.self.now.batch c.begin.new.self c.begin.ensures.kept c.begin.ensures.same in
    keeps_over c.args.self.now _ sectors candidates (keeps_batch c.args.self.now _ sectors candidates refl refl b.0 (inl b.1) b.2 k.ring) refl b.1 refl k
