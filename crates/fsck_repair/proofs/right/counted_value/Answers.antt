use Rattle.std.proofs.Common.{◌≡◌, ◌++◌, ℕ, List, length, take, drop, IsTrue, sym, ◌∙◌, ap, subst, arith}
use Rattle.std.proofs.lemmas.List.{take_at}
use Rattle.cat_records.specs.Records.{is_catalog}
use Rattle.hfs_volume.specs.Records.{placed_of}
use Rattle.volume_repair.specs.Recount.{value_recounted}
use Rattle.fsck_repair.proofs.right.counted_value.Goals as goal

pub returns : goal.returns
returns c records are long is =
    let new = c.mend_value.new.value in
    let bytes = c.in_ok-counted.counted in
    let size = c.mend_value.ensures.size in
    let least = c.deref_mut.ensures.len in
    let kept : take bytes.len (new ++ drop (length new) bytes.items) ≡ new = take_at new (drop (length new) bytes.items) bytes.len (omega (arith, size, least)) in
    let old : c.deref_mut.result.now ≡ c.args.value.now = c.deref_mut.ensures.value ∙ c.in_ok-counted.ensures.items in
    kept ∙ c.in_ok-mend_value.ensures.counted records are long (subst (λ (l : List ℕ). IsTrue (is_catalog l)) (sym old) is) ∙ ap (λ (l : List ℕ). value_recounted records (placed_of (c.args.key.now, l)) l) old
