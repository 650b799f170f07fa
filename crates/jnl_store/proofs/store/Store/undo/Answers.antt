use Rattle.std.proofs.Common.{ap, inr, refl}
use Rattle.jnl_store.specs.Batch.{Staged}
use Rattle.jnl_store.proofs.Settling.{keeps_batch}
use Rattle.jnl_store.proofs.Slots.{keeps_undone}
use Rattle.jnl_store.proofs.store.Store.undo.Goals as goal

pub returns-clause-keeps : goal.returns-clause-keeps
returns-clause-keeps c sectors candidates k =
    keeps_undone c.args.self.now _ sectors candidates (keeps_batch c.args.self.now _ sectors candidates refl refl (ap (λ (b : Staged). b.live) c.undo.ensures.dropped) (inr (ap (λ (b : Staged). b.all) c.undo.ensures.dropped)) (inr (ap (λ (b : Staged). b.kept) c.undo.ensures.dropped)) k.ring) refl (ap (λ (b : Staged). b.all) c.undo.ensures.dropped) c.undo.ensures.once c.empty_dropped.ensures k
