-- What a store keeps, from what holds of its journal and its puts.
use Rattle.std.proofs.Common.{◌≡◌, ℕ, ◌&&◌, [], sym, ◌∙◌, ap}
use Rattle.std.specs.Prelude.{IsTrue}
use Rattle.std.proofs.lemmas.Bool.{and_from}
use Rattle.sector_disk.specs.Lists.{Content}
use Rattle.sector_disk.specs.Disk.{only}
use Rattle.sector_disk.proofs.Candidates.{content_of-only}
use Rattle.jnl_replay.specs.declared.plan.Plan.{Plan}
use Rattle.jnl_store.specs.InUse.{keeps_lists}
use Rattle.jnl_store.specs.Journal.{are_open}
use Rattle.jnl_store.specs.Store.{KeepsRing, is_kept}
use Rattle.jnl_store.specs.declared.store.Store.{Store}

pub keeps_new : (plan : Plan) (c : Content) (sectors : ℕ) (store : Store) → store.plan ≡ plan → store.batch.all ≡ [] → store.batch.kept ≡ [] → store.batch.live ≡ [] → IsTrue (keeps_lists plan (only c) []) → KeepsRing store sectors (only c)
unfolding is_kept
keeps_new plan c sectors store same none none_kept none_live k =
    let e : IsTrue (keeps_lists store.plan (only c) store.batch.live) = ap (λ (p : Plan). keeps_lists p (only c) store.batch.live) same ∙ ap (keeps_lists plan (only c)) none_live ∙ k in
    record {
      kept =
          and_from (keeps_lists store.plan (only c) store.batch.live && are_open store.plan sectors store.batch.all) (are_open store.plan sectors store.batch.kept)
          (and_from (keeps_lists store.plan (only c) store.batch.live) (are_open store.plan sectors store.batch.all) e (ap (are_open store.plan sectors) none))
          (ap (are_open store.plan sectors) none_kept);
      settled = λ u. ap only (sym (content_of-only c));
    }
