-- The list of records after one of them went.
use Rattle.std.proofs.Common.{◌≡◌, ℕ, ◌+◌, ◌-◌, ◌<◌, ◌≤◌, List, [], length, get_or, inl, inr, sym, ◌∙◌, ap, arith}
use Rattle.std.proofs.lemmas.Bool.{cases_lt}
use Rattle.std.proofs.lemmas.List.{ext_get_or}
use Rattle.std.proofs.lemmas.List.Edits.{length-remove, get_or-remove_below, get_or-remove_above}
use Rattle.std.specs.List.{slice_range, remove}
use Rattle.btree_node.specs.Node.{offset, record_count, items, IsNode}
use Rattle.btree_node.specs.Bytes.{MovesDown, ClosesSlot, RemovesRecord}
use Rattle.btree_node.proofs.Offsets.{same_offset}
use Rattle.btree_node.proofs.Items.{length-items, item-is, offsets_rise, same_range}
use Rattle.btree_node.proofs.Inserting.{same_head}

module _ (i : ℕ) (old mid new : List ℕ) (cut : IsNode old) (inside : i < record_count old)
    (moved : MovesDown (offset old i) (offset old (record_count old)) (offset old (i + 1) - offset old i) old mid)
    (slot : ClosesSlot i (record_count old) (offset old (i + 1) - offset old i) mid new)
  where
    kept_offset : (j : ℕ) → j ≤ record_count old → offset mid j ≡ offset old j
    kept_offset j within =
        let whole = cut.inside in
        same_offset old mid j moved.size (omega arith) (λ k here. moved.above k (omega arith))

    offset_behind : (j : ℕ) → i ≤ j → j < record_count old → offset new j + (offset old (i + 1) - offset old i) ≡ offset old (j + 1)
    offset_behind j from to = slot.behind j from to ∙ kept_offset (j + 1) (omega arith)

    offset_before : (j : ℕ) → j ≤ i → offset new j ≡ offset old j
    offset_before j front = elim (cases_lt j i) [
      | inl below ↦ slot.before j below ∙ kept_offset j (omega arith)
      | inr past ↦
          let is : j ≡ i = omega arith in
          ap (λ k. offset new k) is ∙ omega (arith, offset_behind i (omega arith) inside, cut.rising i inside) ∙ ap (λ k. offset old k) (sym is)
    ]

    byte_kept : (k : ℕ) → 12 ≤ k → k < offset old (record_count old) → get_or new k 0 ≡ get_or mid k 0
    byte_kept k from to = slot.below k (omega (arith, moved.size, cut.inside)) (omega arith) (omega arith)

    long : length new ≡ length old
    long = slot.size ∙ moved.size

    front_is : 14 ≤ offset old i
    front_is = omega (arith, cut.first, offsets_rise old cut 0 i (omega arith) (omega arith))

    record_before : (k : ℕ) → k < i → slice_range new (offset new k) (offset new (k + 1)) ≡ slice_range old (offset old k) (offset old (k + 1))
    record_before k front =
        let from = offset_before k (omega arith) in
        let to = offset_before (k + 1) (omega arith) in
        let low = offsets_rise old cut 0 k (omega arith) (omega arith) in
        let high = offsets_rise old cut (k + 1) i (omega arith) (omega arith) in
        let past = offsets_rise old cut i (record_count old) (omega arith) (omega arith) in
        let first = cut.first in
        let whole = cut.inside in
        let size = long in
        same_range old new (offset old k) (offset old (k + 1)) (offset new k) (offset new (k + 1)) (omega arith) (omega arith) (omega arith)
        (λ m within. ap (λ at. get_or new (at + m) 0) from ∙ byte_kept (offset old k + m) (omega arith) (omega arith) ∙ moved.below (offset old k + m) (omega arith))

    record_behind : (k : ℕ) → i ≤ k → k + 1 < record_count old → slice_range new (offset new k) (offset new (k + 1)) ≡ slice_range old (offset old (k + 1)) (offset old (k + 1 + 1))
    record_behind k from to =
        let start = offset_behind k from (omega arith) in
        let stop = offset_behind (k + 1) (omega arith) to in
        let low = offsets_rise old cut (i + 1) (k + 1) (omega arith) (omega arith) in
        let next = cut.rising i inside in
        let high = offsets_rise old cut (k + 1 + 1) (record_count old) (omega arith) (omega arith) in
        let first = front_is in
        let whole = cut.inside in
        let size = long in
        same_range old new (offset old (k + 1)) (offset old (k + 1 + 1)) (offset new k) (offset new (k + 1)) (omega arith) (omega arith) (omega arith)
        (λ m within. byte_kept (offset new k + m) (omega arith) (omega arith) ∙ moved.moved (offset new k + m) (omega arith) (omega arith) ∙ ap (λ n. get_or old n 0) (omega arith))

    removed_items : items new ≡ remove (items old) i
    removed_items =
        let old_long = length-items old in
        let new_long = length-items new in
        let count = slot.count in
        let fits : i < length (items old) = omega arith in
        let less = length-remove (items old) i fits in
        ext_get_or [] (items new) (remove (items old) i) (omega arith) (λ k low. elim (cases_lt k i) [
          | inl front ↦ item-is new k (omega arith) ∙ record_before k front ∙ sym (item-is old k (omega arith)) ∙ sym (get_or-remove_below (items old) i [] k front fits)
          | inr past ↦ item-is new k (omega arith) ∙ record_behind k past (omega arith) ∙ sym (item-is old (k + 1) (omega arith)) ∙ sym (get_or-remove_above (items old) i [] k past fits)
        ])

    removed_cut : IsNode new
    removed_cut =
        let count = slot.count in
        let size = long in
        let last : offset new (record_count new) + (offset old (i + 1) - offset old i) ≡ offset old (record_count old) = offset_behind (record_count new) (omega arith) (omega arith) ∙ ap (λ n. offset old n) count in
        record {
          first = omega (arith, offset_before 0 (omega arith), cut.first);
          rising = λ k low. elim (cases_lt k i) [
            | inl front ↦ omega (arith, offset_before k (omega arith), offset_before (k + 1) (omega arith), cut.rising k (omega arith))
            | inr past ↦ omega (arith, offset_behind k past (omega arith), offset_behind (k + 1) (omega arith) (omega arith), cut.rising (k + 1) (omega arith))
          ];
          inside = omega (arith, last, cut.inside);
        }

    pub removes_record : RemovesRecord i old new
    removes_record = record {
      items = removed_items;
      well_formed = removed_cut;
      head = same_head old new long (λ k low. slot.below k (omega (arith, moved.size, cut.inside, front_is, offsets_rise old cut i (record_count old) (omega arith) (omega arith))) (omega arith) (omega arith) ∙ moved.below k (omega (arith, front_is)));
    }
