-- The list of records after another of its length was put over one of them.
use Rattle.std.proofs.Common.{◌≡◌, ℕ, ◌+◌, ◌-◌, ◌<◌, ◌≤◌, List, [], length, get_or, set, inl, inr, sym, ◌∙◌, ap, arith}
use Rattle.std.proofs.lemmas.Bool.{cases_lt}
use Rattle.std.proofs.lemmas.List.Edits.{length-between}
use Rattle.std.proofs.lemmas.List.{ext_get_or, length-set, get_or-set_same, get_or-set_other}
use Rattle.std.specs.List.{slice_range}
use Rattle.hx_bytes.specs.Field.{put_at}
use Rattle.hx_bytes.proofs.Laws.{length-put_at}
use Rattle.btree_node.specs.Node.{offset, record_count, items, IsNode}
use Rattle.btree_node.specs.Bytes.{OverwritesRecord}
use Rattle.btree_node.proofs.Offsets.{same_offset}
use Rattle.btree_node.proofs.Places.{same_two, put-below, put-above}
use Rattle.btree_node.proofs.Records.{put-here}
use Rattle.btree_node.proofs.Items.{length-items, item-is, offsets_rise, same_range}
use Rattle.btree_node.proofs.Inserting.{same_head}

-- a record ends where the next offset says
pub ends_at : (node : List ℕ) (i n : ℕ) → IsNode node → i < length (items node) → n ≡ length (get_or (items node) i []) → offset node i + n ≡ offset node (i + 1)
ends_at node i n cut inside is =
    let before : i < record_count node = omega (arith, length-items node) in
    let high = offsets_rise node cut (i + 1) (record_count node) (omega arith) (omega arith) in
    let whole = cut.inside in
    let long : length (get_or (items node) i []) ≡ offset node (i + 1) - offset node i = ap length (item-is node i before) ∙ length-between node (offset node i) (offset node (i + 1)) (omega arith) in
    omega (arith, long, cut.rising i before)

-- and within its node
pub ends_within : (node : List ℕ) (i n : ℕ) → IsNode node → i < length (items node) → n ≡ length (get_or (items node) i []) → offset node i + n ≤ length node
ends_within node i n cut inside is =
    omega (arith, length-items node, ends_at node i n cut inside is, offsets_rise node cut (i + 1) (record_count node) (omega (arith, length-items node)) (omega arith), cut.inside)

module _ (i : ℕ) (bytes old new : List ℕ) (cut : IsNode old) (inside : i < record_count old)
    (fits : offset old i + length bytes ≡ offset old (i + 1)) (puts : new ≡ put_at old (offset old i) bytes)
  where
    front_is : 14 ≤ offset old i
    front_is = omega (arith, cut.first, offsets_rise old cut 0 i (omega arith) (omega arith))

    end_is : offset old (i + 1) ≤ offset old (record_count old)
    end_is = offsets_rise old cut (i + 1) (record_count old) (omega arith) (omega arith)

    within : offset old i + length bytes ≤ length old
    within = omega (arith, fits, end_is, cut.inside)

    long : length new ≡ length old
    long = ap length puts ∙ length-put_at old bytes (offset old i) within

    below : (k : ℕ) → k < offset old i → get_or new k 0 ≡ get_or old k 0
    below k low = ap (λ (l : List ℕ). get_or l k 0) puts ∙ put-below old bytes (offset old i) k (omega (arith, within)) low

    above : (k : ℕ) → offset old (i + 1) ≤ k → get_or new k 0 ≡ get_or old k 0
    above k high = ap (λ (l : List ℕ). get_or l k 0) puts ∙ put-above old bytes (offset old i) k within (omega (arith, fits))

    kept_offset : (j : ℕ) → j ≤ record_count old → offset new j ≡ offset old j
    kept_offset j before = same_offset old new j long (omega (arith, cut.inside)) (λ k here. above k (omega (arith, end_is, cut.inside)))

    same_count : record_count new ≡ record_count old
    unfolding record_count
    same_count = same_two old new 10 10 (below 10 (omega (arith, front_is))) (below 11 (omega (arith, front_is)))

    record_same : (k : ℕ) → k < record_count old → ((m : ℕ) → offset old k ≤ m → m < offset old (k + 1) → get_or new m 0 ≡ get_or old m 0)
        → slice_range new (offset new k) (offset new (k + 1)) ≡ slice_range old (offset old k) (offset old (k + 1))
    record_same k before same =
        let from = kept_offset k (omega arith) in
        let to = kept_offset (k + 1) (omega arith) in
        let high = offsets_rise old cut (k + 1) (record_count old) (omega arith) (omega arith) in
        let whole = cut.inside in
        let size = long in
        same_range old new (offset old k) (offset old (k + 1)) (offset new k) (offset new (k + 1)) (omega arith) (omega arith) (omega arith)
        (λ m low. ap (λ at. get_or new (at + m) 0) from ∙ same (offset old k + m) (omega arith) (omega arith))

    record_before : (k : ℕ) → k < i → slice_range new (offset new k) (offset new (k + 1)) ≡ slice_range old (offset old k) (offset old (k + 1))
    record_before k front = record_same k (omega arith) (λ m from to. below m (omega (arith, offsets_rise old cut (k + 1) i (omega arith) (omega arith))))

    record_behind : (k : ℕ) → i < k → k < record_count old → slice_range new (offset new k) (offset new (k + 1)) ≡ slice_range old (offset old k) (offset old (k + 1))
    record_behind k behind before = record_same k before (λ m from to. above m (omega (arith, offsets_rise old cut (i + 1) k (omega arith) (omega arith))))

    record_here : slice_range new (offset new i) (offset new (i + 1)) ≡ bytes
    record_here =
        ap (λ at. slice_range new at (offset new (i + 1))) (kept_offset i (omega arith))
        ∙ ap (λ to. slice_range new (offset old i) to) (kept_offset (i + 1) (omega arith) ∙ sym fits)
        ∙ ap (λ (l : List ℕ). slice_range l (offset old i) (offset old i + length bytes)) puts
        ∙ put-here old bytes (offset old i) (omega (arith, within))

    overwritten_items : items new ≡ set (items old) i bytes
    overwritten_items =
        let old_long = length-items old in
        let new_long = length-items new in
        let count = same_count in
        ext_get_or [] (items new) (set (items old) i bytes) (omega (arith, length-set (items old) i bytes)) (λ k low. elim (cases_lt k i) [
          | inl front ↦ item-is new k (omega arith) ∙ record_before k front ∙ sym (item-is old k (omega arith)) ∙ sym (get_or-set_other (items old) i k bytes [] (omega arith))
          | inr past ↦ elim (cases_lt i k) [
            | inl behind ↦ item-is new k (omega arith) ∙ record_behind k behind (omega arith) ∙ sym (item-is old k (omega arith)) ∙ sym (get_or-set_other (items old) i k bytes [] (omega arith))
            | inr here ↦
                let is : k ≡ i = omega arith in
                ap (λ n. get_or (items new) n []) is
                ∙ item-is new i (omega arith)
                ∙ record_here
                ∙ sym (get_or-set_same (items old) i bytes [] (omega arith))
                ∙ ap (λ n. get_or (set (items old) i bytes) n []) (sym is)
          ]
        ])

    overwritten_cut : IsNode new
    overwritten_cut =
        let count = same_count in
        let size = long in
        let last : offset new (record_count new) ≡ offset old (record_count old) = ap (λ n. offset new n) count ∙ kept_offset (record_count old) (omega arith) in
        record {
          first = omega (arith, kept_offset 0 (omega arith), cut.first);
          rising = λ k low. omega (arith, kept_offset k (omega arith), kept_offset (k + 1) (omega arith), cut.rising k (omega arith));
          inside = omega (arith, last, cut.inside);
        }

    pub overwrites_record : OverwritesRecord i bytes old new
    overwrites_record = record {
      items = overwritten_items;
      well_formed = overwritten_cut;
      head = same_head old new long (λ k low. below k (omega (arith, front_is)));
    }
