-- The list of a node's records, record by record.
use Rattle.std.proofs.Common.{◌≡◌, ℕ, zero, suc, add-one, ◌+◌, ◌-◌, ◌*◌, ◌<◌, ◌≤◌, List, [], map, length, get_or, sym, ◌∙◌, subst, arith}
use Rattle.std.proofs.lemmas.List.{ext_get_or}
use Rattle.std.proofs.lemmas.List.Edits.{length-between, get_or-between}
use Rattle.std.proofs.lemmas.List.FromFn.{length-map-range_with_len, get_or-map-range_with_len, sum_by-map-range_with_len_more}
use Rattle.std.specs.List.{slice_range, range_with_len, sum_by}
use Rattle.btree_node.specs.Node.{offset, record_count, items, IsNode}

pub length-items : (node : List ℕ) → length (items node) ≡ record_count node
unfolding items
length-items node = length-map-range_with_len (λ i. slice_range node (offset node i) (offset node (i + 1))) 0 (record_count node)

pub item-is : (node : List ℕ) (i : ℕ) → i < record_count node → get_or (items node) i [] ≡ slice_range node (offset node i) (offset node (i + 1))
unfolding items
item-is node i inside = get_or-map-range_with_len (λ k. slice_range node (offset node k) (offset node (k + 1))) 0 (record_count node) i i [] inside (omega arith)

-- offsets rise over any distance
rises : (node : List ℕ) → IsNode node → (i d : ℕ) → i + d ≤ record_count node → offset node i ≤ offset node (i + d)
rises node cut i zero within = subst (λ k. offset node i ≤ offset node k) {x = i} (omega arith) (omega arith)
rises node cut i (suc d) within =
    let first = rises node cut i d (omega arith) in
    let next = cut.rising (i + d) (omega arith) in
    subst (λ k. offset node i ≤ offset node k) {x = i + d + 1} (omega arith) (omega arith)

pub offsets_rise : (node : List ℕ) → IsNode node → (i j : ℕ) → i ≤ j → j ≤ record_count node → offset node i ≤ offset node j
offsets_rise node cut i j ordered within = subst (λ k. offset node i ≤ offset node k) {x = i + (j - i)} (omega arith) (rises node cut i (j - i) (omega arith))

pub same_range : (old new : List ℕ) (a b c d : ℕ) → d - c ≡ b - a → b ≤ length old → d ≤ length new → ((k : ℕ) → k < b - a → get_or new (c + k) 0 ≡ get_or old (a + k) 0) → slice_range new c d ≡ slice_range old a b
same_range old new a b c d long within inside same =
    let first = length-between new c d inside in
    let second = length-between old a b within in
    ext_get_or 0 (slice_range new c d) (slice_range old a b) (omega arith) (λ k low.
    get_or-between new c d k 0 (omega arith) ∙ same k (omega arith) ∙ sym (get_or-between old a b k 0 (omega arith)))

sum_to : (node : List ℕ) → IsNode node → (k : ℕ) → k ≤ record_count node
    → offset node 0 + sum_by (λ bytes. length bytes + 2) (map (λ i. slice_range node (offset node i) (offset node (i + 1))) (range_with_len 0 k)) ≡ offset node k + 2 * k
sum_to node cut zero within = omega arith
sum_to node cut (suc k) within =
    let cutter : ℕ → List ℕ = λ i. slice_range node (offset node i) (offset node (i + 1)) in
    let before = sum_to node cut k (omega arith) in
    let more : sum_by (λ bytes. length bytes + 2) (map cutter (range_with_len 0 (k + 1))) ≡ sum_by (λ bytes. length bytes + 2) (map cutter (range_with_len 0 k)) + (length (cutter k) + 2) = sum_by-map-range_with_len_more (λ bytes. length bytes + 2) cutter 0 k k (omega arith) in
    let high = offsets_rise node cut (k + 1) (record_count node) (omega arith) (omega arith) in
    let whole = cut.inside in
    let size : length (cutter k) ≡ offset node (k + 1) - offset node k = length-between node (offset node k) (offset node (k + 1)) (omega arith) in
    let next = cut.rising k (omega arith) in
    subst (λ n. offset node 0 + sum_by (λ bytes. length bytes + 2) (map cutter (range_with_len 0 n)) ≡ offset node n + 2 * n) {x = k + 1} (add-one k) (omega (arith, before, more, size, next))

-- the records take the bytes between the first offset and the last
pub records_take : (node : List ℕ) → IsNode node → offset node 0 + sum_by (λ bytes. length bytes + 2) (items node) ≡ offset node (record_count node) + 2 * record_count node
unfolding items
records_take node cut = sum_to node cut (record_count node) (omega arith)
