use Rattle.std.proofs.Common.{ap, inl, refl}
use Rattle.jnl_store.specs.Batch.{Staged}
use Rattle.jnl_store.proofs.Settling.{keeps_batch}
use Rattle.jnl_store.proofs.Slots.{keeps_over}
use Rattle.jnl_store.proofs.store.Store.keep.Goals as goal

pub returns-clause-keeps : goal.returns-clause-keeps
returns-clause-keeps c sectors candidates k =
    keeps_over c.args.self.now _ sectors candidates (keeps_batch c.args.self.now _ sectors candidates refl refl (ap (λ (b : Staged). b.live) c.keep.ensures) (inl (ap (λ (b : Staged). b.all) c.keep.ensures)) (inl (ap (λ (b : Staged). b.kept) c.keep.ensures)) k.ring) refl (ap (λ (b : Staged). b.all) c.keep.ensures) refl k
