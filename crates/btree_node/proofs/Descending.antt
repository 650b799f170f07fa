-- The offsets of a node as a table that is read from its front: no number in it is higher than the one before.
use Rattle.std.proofs.Common.{◌≡◌, ◌↔◌, Bool, ◌&&◌, IsTrue, ℕ, add-zero, ◌+◌, ◌-◌, ◌*◌, ◌<◌, ◌≤◌, List, length, get_or, drop, slice_range, inl, inr, sym, ◌∙◌, ap, arith}
use Rattle.std.proofs.lemmas.Bool.{cases_lt, and_from, and_parts, leb-true, le-leb}
use Rattle.std.proofs.lemmas.List.Edits.{length-between}
use Rattle.std.proofs.lemmas.List.{get_or-take, get_or-drop}
use Rattle.std.specs.Prelude.{leb}
use Rattle.hx_bytes.specs.Field.{big_at}
use Rattle.btree_node.specs.Node.{offset, record_count, IsNode}
use Rattle.btree_node.proofs.Offsets.{offset_at}
use Rattle.btree_node.proofs.Places.{same_two}

-- no one of the first numbers is higher than the one before it
abbrev pub DescendTo : List ℕ → ℕ → Type 0
DescendTo bytes n = (k : ℕ) → k + 1 < n → big_at 2 bytes (2 * (k + 1)) ≤ big_at 2 bytes (2 * k)

pub descend_more : (bytes : List ℕ) (n number before : ℕ) (was : Bool) → number ≡ big_at 2 bytes (2 * n) → before ≡ big_at 2 bytes (2 * (n - 1)) → (IsTrue was ↔ DescendTo bytes n)
    → IsTrue (was && leb number before) ↔ DescendTo bytes (n + 1)
descend_more bytes n number before was here last so_far = (
  (λ both k low.
      let parts = and_parts was (leb number before) both in
      elim (cases_lt (k + 1) n) [
        | inl front ↦ so_far.0 parts.0 k front
        | inr past ↦
            let is : k + 1 ≡ n = omega arith in
            let above : big_at 2 bytes (2 * (k + 1)) ≡ number = ap (λ m. big_at 2 bytes (2 * m)) is ∙ sym here in
            let below : big_at 2 bytes (2 * k) ≡ before = ap (λ m. big_at 2 bytes (2 * m)) {x = k} {y = n - 1} (omega arith) ∙ sym last in
            omega (arith, above, below, leb-true number before parts.1)
      ]),
  (λ all. and_from was (leb number before) (so_far.1 (λ k low. all k (omega (arith, low))))
      (le-leb number before (elim (cases_lt 0 n) [
        | inl some ↦
            let above : big_at 2 bytes (2 * (n - 1 + 1)) ≡ number = ap (λ m. big_at 2 bytes (2 * m)) {x = n - 1 + 1} {y = n} (omega arith) ∙ sym here in
            omega (arith, above, last, all (n - 1) (omega arith))
        | inr none ↦
            let same : big_at 2 bytes (2 * n) ≡ big_at 2 bytes (2 * (n - 1)) = ap (λ m. big_at 2 bytes (2 * m)) {x = n} {y = n - 1} (omega arith) in
            omega (arith, same, here, last)
      ]))),
)

-- the table of a node's offsets begins with that of free space
pub table_at : (node : List ℕ) (n k : ℕ) → 2 * (n + 1) ≤ length node → k ≤ n → big_at 2 (slice_range node (length node - 2 * (n + 1)) (length node)) (2 * k) ≡ offset node (n - k)
table_at node n k within low =
    let start : ℕ = length node - 2 * (n + 1) in
    let each : (m : ℕ) → m < 2 → get_or (slice_range node start (length node)) (2 * k + m) 0 ≡ get_or node (start + 2 * k + m) 0 =
    λ m small. get_or-take (length node - start) (drop start node) (2 * k + m) 0 (omega arith) ∙ get_or-drop start node (2 * k + m) 0 ∙ ap (λ i. get_or node i 0) (omega arith) in
    same_two node (slice_range node start (length node)) (start + 2 * k) (2 * k)
    (ap (λ i. get_or (slice_range node start (length node)) i 0) (sym (add-zero (2 * k))) ∙ each 0 (omega arith) ∙ ap (λ i. get_or node i 0) (add-zero (start + 2 * k)))
    (each 1 (omega arith))
    ∙ sym (offset_at node (n - k) (start + 2 * k) (omega arith))

-- the offsets rise where the table descends
module _ (node : List ℕ) (n : ℕ) (within : 2 * (n + 1) ≤ length node) where
  abbrev table : List ℕ
  table = slice_range node (length node - 2 * (n + 1)) (length node)

  table_long : length table ≡ 2 * (n + 1)
  table_long = omega (arith, length-between node (length node - 2 * (n + 1)) (length node) (omega arith))

  rising : ((k : ℕ) → 2 * (k + 2) ≤ length table → big_at 2 table (2 * (k + 1)) ≤ big_at 2 table (2 * k)) → (i : ℕ) → i < n → offset node i ≤ offset node (i + 1)
  rising falls i low =
      let k : ℕ = n - 1 - i in
      let above : big_at 2 table (2 * (k + 1)) ≡ offset node i = table_at node n (k + 1) within (omega arith) ∙ ap (λ j. offset node j) {x = n - (k + 1)} {y = i} (omega arith) in
      let below : big_at 2 table (2 * k) ≡ offset node (i + 1) = table_at node n k within (omega arith) ∙ ap (λ j. offset node j) {x = n - k} {y = i + 1} (omega arith) in
      omega (arith, above, below, falls k (omega (arith, table_long)))

  falling : ((i : ℕ) → i < n → offset node i ≤ offset node (i + 1)) → (k : ℕ) → 2 * (k + 2) ≤ length table → big_at 2 table (2 * (k + 1)) ≤ big_at 2 table (2 * k)
  falling rises k low =
      let inside : k + 1 ≤ n = omega (arith, table_long) in
      let i : ℕ = n - (k + 1) in
      let above : big_at 2 table (2 * (k + 1)) ≡ offset node i = table_at node n (k + 1) within (omega arith) in
      let below : big_at 2 table (2 * k) ≡ offset node (i + 1) = table_at node n k within (omega arith) ∙ ap (λ j. offset node j) {x = n - k} {y = i + 1} (omega arith) in
      omega (arith, above, below, rises i (omega arith))

  pub cut_where_it_descends : (first last : ℕ) (result : Bool) → n ≡ record_count node → first ≡ offset node 0 → 14 ≤ first → last ≡ offset node n → last + 2 * (n + 1) ≤ length node
      → (IsTrue result ↔ ((k : ℕ) → 2 * (k + 2) ≤ length table → big_at 2 table (2 * (k + 1)) ≤ big_at 2 table (2 * k))) → IsTrue result ↔ IsNode node
  cut_where_it_descends first last result count first_is high last_is fits tells =
      let end : offset node n ≡ offset node (record_count node) = ap (λ j. offset node j) count in (
        (λ yes. record {
          first = omega (arith, first_is);
          rising = λ i low. rising (tells.0 yes) i (omega (arith, count));
          inside = omega (arith, end, last_is, count);
        }),
        (λ cut. tells.1 (falling (λ i low. cut.rising i (omega (arith, count))))),
      )
