-- The list of records after all of them moved to the end of the descriptor.
use Rattle.std.proofs.Common.{◌≡◌, ℕ, ◌+◌, ◌-◌, ◌<◌, ◌≤◌, List, [], length, get_or, sym, ◌∙◌, ap, arith}
use Rattle.std.proofs.lemmas.List.{ext_get_or}
use Rattle.std.specs.List.{slice_range}
use Rattle.btree_node.specs.Node.{offset, record_count, items, IsNode}
use Rattle.btree_node.specs.Bytes.{MovesDown, ChangesOffsets, Packs}
use Rattle.btree_node.proofs.Offsets.{same_offset}
use Rattle.btree_node.proofs.Places.{same_two}
use Rattle.btree_node.proofs.Items.{length-items, item-is, offsets_rise, same_range}
use Rattle.btree_node.proofs.Inserting.{same_head}

module _ (old mid new : List ℕ) (cut : IsNode old)
    (moved : MovesDown 14 (offset old (record_count old)) (offset old 0 - 14) old mid)
    (lower : ChangesOffsets 0 (record_count old + 1) (λ a b. b + (offset old 0 - 14) ≡ a) mid new)
  where
    kept_offset : (j : ℕ) → j ≤ record_count old → offset mid j ≡ offset old j
    kept_offset j within =
        let whole = cut.inside in
        same_offset old mid j moved.size (omega arith) (λ k here. moved.above k (omega arith))

    offset_lower : (j : ℕ) → j ≤ record_count old → offset new j + (offset old 0 - 14) ≡ offset old j
    offset_lower j within = lower.changed j (omega arith) (omega arith) ∙ kept_offset j within

    byte_kept : (k : ℕ) → k < offset old (record_count old) → get_or new k 0 ≡ get_or mid k 0
    byte_kept k to = lower.below k (omega (arith, moved.size, cut.inside))

    long : length new ≡ length old
    long = lower.size ∙ moved.size

    end_is : offset old 0 ≤ offset old (record_count old)
    end_is = offsets_rise old cut 0 (record_count old) (omega arith) (omega arith)

    byte_front : (k : ℕ) → k < 14 → get_or new k 0 ≡ get_or old k 0
    byte_front k front = byte_kept k (omega (arith, end_is, cut.first)) ∙ moved.below k front

    same_count : record_count new ≡ record_count old
    unfolding record_count
    same_count = same_two old new 10 10 (byte_front 10 (omega arith)) (byte_front 11 (omega arith))

    record_same : (k : ℕ) → k < record_count old → slice_range new (offset new k) (offset new (k + 1)) ≡ slice_range old (offset old k) (offset old (k + 1))
    record_same k inside =
        let start = offset_lower k (omega arith) in
        let stop = offset_lower (k + 1) (omega arith) in
        let low = offsets_rise old cut 0 k (omega arith) (omega arith) in
        let high = offsets_rise old cut (k + 1) (record_count old) (omega arith) (omega arith) in
        let first = cut.first in
        let whole = cut.inside in
        let size = long in
        same_range old new (offset old k) (offset old (k + 1)) (offset new k) (offset new (k + 1)) (omega arith) (omega arith) (omega arith)
        (λ m within. byte_kept (offset new k + m) (omega arith) ∙ moved.moved (offset new k + m) (omega arith) (omega arith) ∙ ap (λ n. get_or old n 0) (omega arith))

    packed_items : items new ≡ items old
    packed_items =
        let old_long = length-items old in
        let new_long = length-items new in
        let count = same_count in
        ext_get_or [] (items new) (items old) (omega arith) (λ k low. item-is new k (omega arith) ∙ record_same k (omega arith) ∙ sym (item-is old k (omega arith)))

    packed_cut : IsNode new
    packed_cut =
        let count = same_count in
        let size = long in
        let last : offset new (record_count new) + (offset old 0 - 14) ≡ offset old (record_count old) = ap (λ n. offset new n + (offset old 0 - 14)) count ∙ offset_lower (record_count old) (omega arith) in
        record {
          first = omega (arith, offset_lower 0 (omega arith), cut.first);
          rising = λ k low. omega (arith, offset_lower k (omega arith), offset_lower (k + 1) (omega arith), cut.rising k (omega arith));
          inside = omega (arith, last, cut.inside);
        }

    pub packs : Packs old new
    packs = record {
      items = packed_items;
      well_formed = packed_cut;
      head = same_head old new long (λ k low. byte_front k (omega arith));
      count = same_count;
      first = omega (arith, offset_lower 0 (omega arith), cut.first);
    }
