-- The list of records after an edit of one of them.
use Rattle.std.proofs.Common.{◌≡◌, ℕ, ◌+◌, ◌-◌, ◌*◌, ◌<◌, ◌≤◌, List, [], length, get_or, inl, inr, sym, ◌∙◌, ap, arith}
use Rattle.std.proofs.lemmas.Bool.{cases_lt}
use Rattle.std.proofs.lemmas.List.{ext_get_or}
use Rattle.std.proofs.lemmas.List.Edits.{length-insert, get_or-insert_below, get_or-insert_at, get_or-insert_above}
use Rattle.std.specs.Int.{cast_signed, w8}
use Rattle.std.specs.List.{slice_range, insert}
use Rattle.btree_node.specs.Node.{offset, record_count, items, IsNode, SameHead, kind_of, height_of, next_of, back_of}
use Rattle.btree_node.specs.Bytes.{OpensData, OpensSlot, InsertsRecord}
use Rattle.btree_node.proofs.Offsets.{same_offset}
use Rattle.btree_node.proofs.Places.{same_four}
use Rattle.btree_node.proofs.Items.{length-items, item-is, offsets_rise, same_range}

-- the descriptor's first ten bytes are the same
pub same_head : (old new : List ℕ) → length new ≡ length old → ((k : ℕ) → k < 10 → get_or new k 0 ≡ get_or old k 0) → SameHead old new
unfolding kind_of height_of next_of back_of
same_head old new size same = record {
  size = size;
  kind = ap (λ n. cast_signed w8 n) (same 8 (omega arith));
  height = same 9 (omega arith);
  next = same_four old new 0 (λ k low. same (0 + k) (omega arith));
  back = same_four old new 4 (λ k low. same (4 + k) (omega arith));
}

-- the offsets after a record came
module _ (i : ℕ) (bytes old mid new : List ℕ) (cut : IsNode old) (inside : i ≤ record_count old)
    (room : offset old (record_count old) + length bytes + 2 * (record_count old + 2) ≤ length old)
    (opened : OpensData (offset old i) (offset old (record_count old)) bytes old mid)
    (slot : OpensSlot i (record_count old) (offset old i) (length bytes) mid new)
  where
    kept_offset : (j : ℕ) → j ≤ record_count old → offset mid j ≡ offset old j
    kept_offset j within = same_offset old mid j opened.size (omega arith) (λ k here. opened.above k (omega arith))

    offset_before : (j : ℕ) → j ≤ i → offset new j ≡ offset old j
    offset_before j front = elim (cases_lt j i) [
      | inl below ↦ slot.before j below ∙ kept_offset j (omega arith)
      | inr past ↦ ap (λ k. offset new k) (omega arith) ∙ slot.here ∙ ap (λ k. offset old k) (omega arith)
    ]

    offset_behind : (j : ℕ) → i ≤ j → j ≤ record_count old → offset new (j + 1) ≡ offset old j + length bytes
    offset_behind j from to = omega (arith, slot.behind j from to, kept_offset j to)

    byte_kept : (k : ℕ) → 12 ≤ k → k < offset old (record_count old) + length bytes → get_or new k 0 ≡ get_or mid k 0
    byte_kept k from to = slot.below k (omega (arith, opened.size)) (omega arith) (omega arith)

    front_is : 14 ≤ offset old i
    front_is = omega (arith, cut.first, offsets_rise old cut 0 i (omega arith) inside)

    end_is : offset old i ≤ offset old (record_count old)
    end_is = offsets_rise old cut i (record_count old) inside (omega arith)

    long : length new ≡ length old
    long = slot.size ∙ opened.size

    record_before : (k : ℕ) → k < i → slice_range new (offset new k) (offset new (k + 1)) ≡ slice_range old (offset old k) (offset old (k + 1))
    record_before k front =
        let from = offset_before k (omega arith) in
        let to = offset_before (k + 1) (omega arith) in
        let low = offsets_rise old cut 0 k (omega arith) (omega arith) in
        let high = offsets_rise old cut (k + 1) i (omega arith) inside in
        let first = cut.first in
        let past = end_is in
        let whole = cut.inside in
        let size = long in
        same_range old new (offset old k) (offset old (k + 1)) (offset new k) (offset new (k + 1)) (omega arith) (omega arith) (omega arith)
        (λ m within. ap (λ at. get_or new (at + m) 0) from ∙ byte_kept (offset old k + m) (omega arith) (omega arith) ∙ opened.below (offset old k + m) (omega arith))

    record_here : slice_range new (offset new i) (offset new (i + 1)) ≡ bytes
    record_here =
        let from = offset_before i (omega arith) in
        let to = offset_behind i (omega arith) inside in
        let first = front_is in
        let past = end_is in
        let size = long in
        let still = opened.size in
        same_range mid new (offset old i) (offset old i + length bytes) (offset new i) (offset new (i + 1)) (omega arith) (omega arith) (omega arith)
        (λ m within. ap (λ at. get_or new (at + m) 0) from ∙ byte_kept (offset old i + m) (omega arith) (omega arith))
        ∙ opened.put

    record_behind : (k : ℕ) → i ≤ k → k < record_count old → slice_range new (offset new (k + 1)) (offset new (k + 1 + 1)) ≡ slice_range old (offset old k) (offset old (k + 1))
    record_behind k from to =
        let start = offset_behind k from (omega arith) in
        let stop = offset_behind (k + 1) (omega arith) (omega arith) in
        let low = offsets_rise old cut i k from (omega arith) in
        let high = offsets_rise old cut (k + 1) (record_count old) (omega arith) (omega arith) in
        let first = front_is in
        let whole = cut.inside in
        let size = long in
        same_range old new (offset old k) (offset old (k + 1)) (offset new (k + 1)) (offset new (k + 1 + 1)) (omega arith) (omega arith) (omega arith)
        (λ m within.
        let at : offset new (k + 1) + m ≡ offset old k + m + length bytes = omega arith in
        ap (λ n. get_or new n 0) at ∙ byte_kept (offset old k + m + length bytes) (omega arith) (omega arith) ∙ opened.moved (offset old k + m) (omega arith) (omega arith))

    record_count_more : length (items new) ≡ length (insert (items old) i bytes)
    record_count_more = omega (arith, length-items new, length-items old, slot.count, length-insert (items old) i bytes (omega (arith, length-items old)))

    inserted_items : items new ≡ insert (items old) i bytes
    inserted_items =
        let old_long = length-items old in
        let new_long = length-items new in
        let count = slot.count in
        let fits : i ≤ length (items old) = omega arith in
        ext_get_or [] (items new) (insert (items old) i bytes) record_count_more (λ k low. elim (cases_lt k i) [
          | inl front ↦ item-is new k (omega arith) ∙ record_before k front ∙ sym (item-is old k (omega arith)) ∙ sym (get_or-insert_below (items old) i bytes [] k front fits)
          | inr past ↦ elim (cases_lt i k) [
            | inl behind ↦
                let is : k ≡ k - 1 + 1 = omega arith in
                item-is new k (omega arith)
                ∙ ap (λ n. slice_range new (offset new n) (offset new (n + 1))) is
                ∙ record_behind (k - 1) (omega arith) (omega arith)
                ∙ sym (item-is old (k - 1) (omega arith))
                ∙ sym (get_or-insert_above (items old) i bytes [] (k - 1) (omega arith) fits)
                ∙ ap (λ n. get_or (insert (items old) i bytes) n []) (sym is)
            | inr here ↦
                let is : k ≡ i = omega arith in
                item-is new k (omega arith)
                ∙ ap (λ n. slice_range new (offset new n) (offset new (n + 1))) is
                ∙ record_here
                ∙ sym (get_or-insert_at (items old) i bytes [] fits)
                ∙ ap (λ n. get_or (insert (items old) i bytes) n []) (sym is)
          ]
        ])

    inserted_cut : IsNode new
    inserted_cut =
        let count = slot.count in
        let size = long in
        record {
          first = omega (arith, offset_before 0 (omega arith), cut.first);
          rising = λ k low. elim (cases_lt k i) [
            | inl front ↦ omega (arith, offset_before k (omega arith), offset_before (k + 1) (omega arith), cut.rising k (omega arith))
            | inr past ↦ elim (cases_lt i k) [
              | inl behind ↦
                  let is : offset new k ≡ offset old (k - 1) + length bytes = ap (λ n. offset new n) (omega arith) ∙ offset_behind (k - 1) (omega arith) (omega arith) in
                  let old_k : offset old k ≡ offset old (k - 1 + 1) = ap (λ n. offset old n) (omega arith) in
                  omega (arith, is, old_k, offset_behind k (omega arith) (omega arith), cut.rising (k - 1) (omega arith))
              | inr here ↦
                  let from : offset new k ≡ offset old k = offset_before k (omega arith) in
                  omega (arith, from, offset_behind k (omega arith) (omega arith))
            ]
          ];
          inside = omega (arith, offset_behind (record_count old) inside (omega arith), ap (λ n. offset new n) count);
        }

    pub inserts_record : InsertsRecord i bytes old new
    inserts_record = record {
      items = inserted_items;
      well_formed = inserted_cut;
      head = same_head old new long (λ k low. slot.below k (omega (arith, opened.size, cut.first, offsets_rise old cut 0 (record_count old) (omega arith) (omega arith))) (omega arith) (omega arith) ∙ opened.below k (omega (arith, front_is)));
    }
