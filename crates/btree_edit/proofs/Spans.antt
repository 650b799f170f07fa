-- How many leaves a walk comes to.
use Rattle.std.proofs.Common.{◌≡◌, ℕ, zero, suc, ◌+◌, ◌-◌, ◌<◌, ◌≤◌, Bool, true, List, [], ◌∷◌, ◌++◌, length, map, get_or, refl, sym, ◌∙◌, ap, subst, arith, append_assoc, inl, inr}
use Rattle.std.specs.Prelude.{IsTrue, ◌||◌, if◌then◌else◌}
use Rattle.std.specs.List.{list_any}
use Rattle.std.proofs.lemmas.Bool.{cases_lt}
use Rattle.std.proofs.lemmas.List.{length-append, append-nil, length-map, get_or-map, get_or_append_left, get_or-append_right}
use Rattle.btree_node.specs.Node.{items}
use Rattle.btree_node.specs.Levels.{Nodes, Pair, entries, level, leaves, pair_of}
use Rattle.btree_node.specs.Store.{Store}
use Rattle.btree_node.specs.Tree.{pairs_of}
use Rattle.btree_node.proofs.Levels.{entries-append}
use Rattle.btree_edit.specs.Reading.{ReadsNodes}
use Rattle.btree_edit.specs.Walking.{StandsAt, leaf_nodes, leaves_of, one_if_both, leaves_with, leaves_until, leaves_having, leaves_where}
use Rattle.btree_edit.specs.declared.desk.Desk.{Desk}

-- ---- of more records

one_more : (m n long : ℕ) → m ≤ n → one_if_both m long ≤ one_if_both n long
one_more zero n long most = omega arith
one_more (suc m) zero long most = absurd (omega (arith, most))
one_more (suc m) (suc n) zero most = omega arith
one_more (suc m) (suc n) (suc long) most = omega arith

with_more : (nodes : Nodes) (ls : List ℕ) (m n : ℕ) → m ≤ n → leaves_with nodes ls m ≤ leaves_with nodes ls n
with_more nodes [] m n most = omega arith
with_more nodes (leaf ∷ rest) m n most =
    omega (arith, one_more m n (length (items (nodes leaf))) most, with_more nodes rest (m - length (items (nodes leaf))) (n - length (items (nodes leaf))) (omega (arith, most)))

with_none : (nodes : Nodes) (ls : List ℕ) → leaves_with nodes ls 0 ≡ 0
with_none nodes [] = refl
with_none nodes (leaf ∷ rest) =
    let left = ap (leaves_with nodes rest) {x = 0 - length (items (nodes leaf))} {y = 0} (omega arith) in
    omega (arith, left, with_none nodes rest)

most_one : (m n : ℕ) → one_if_both m n ≤ 1
most_one zero n = omega arith
most_one (suc m) zero = omega arith
most_one (suc m) (suc n) = omega arith

of_none : (many : ℕ) → one_if_both many 0 ≡ 0
of_none zero = refl
of_none (suc many) = refl

one_of : (long : ℕ) → 0 < long → one_if_both 1 long ≡ 1
one_of zero some = absurd (omega (arith, some))
one_of (suc long) some = refl

-- the first record of a leaf comes to one leaf more
with_next : (nodes : Nodes) (front : List ℕ) (leaf : ℕ) (back : List ℕ) → 0 < length (items (nodes leaf))
    → leaves_with nodes (front ++ leaf ∷ back) (length (entries nodes front)) + 1 ≤ leaves_with nodes (front ++ leaf ∷ back) (length (entries nodes front) + 1)
with_next nodes [] leaf back some = omega (arith, with_none nodes (leaf ∷ back), one_of (length (items (nodes leaf))) some)
with_next nodes (first ∷ front) leaf back some =
    let long = length (items (nodes first)) in
    let all : length (entries nodes (first ∷ front)) ≡ long + length (entries nodes front) = length-append (items (nodes first)) (entries nodes front) in
    let here = one_more (length (entries nodes (first ∷ front))) (length (entries nodes (first ∷ front)) + 1) long (omega arith) in
    let old = ap (leaves_with nodes (front ++ leaf ∷ back)) {x = length (entries nodes (first ∷ front)) - long} {y = length (entries nodes front)} (omega (arith, all)) in
    let new = ap (leaves_with nodes (front ++ leaf ∷ back)) {x = length (entries nodes (first ∷ front)) + 1 - long} {y = length (entries nodes front) + 1} (omega (arith, all)) in
    omega (arith, here, old, new, with_next nodes front leaf back some)

-- ---- a step of the walk

leaves_are : (nodes : Nodes) (root depth : ℕ) → 0 < depth → leaf_nodes nodes root depth ≡ level nodes root (depth - 1)
leaves_are nodes root zero some = absurd (omega (arith, some))
leaves_are nodes root (suc below) some = ap (level nodes root) {x = below} {y = suc below - 1} (omega arith)

pub until_more : (store : Store) (place : ℕ) → leaves_until store place ≤ leaves_until store (place + 1)
until_more store place = with_more store.nodes (leaves_of store) place (place + 1) (omega arith)

-- the pair behind the last one of a leaf comes to one leaf more
pub until_next : (store : Store) (desk : Desk) (at place n : ℕ) (ns : List ℕ) (stands : StandsAt store desk at place) → at ≡ length (items (store.nodes stands.leaf)) → stands.back ≡ n ∷ ns → 0 < length (items (store.nodes n))
    → leaves_until store place + 1 ≤ leaves_until store (place + 1)
until_next store desk at place n ns stands at_end back some =
    subst (λ l. leaves_with store.nodes l place + 1 ≤ leaves_with store.nodes l (place + 1)) (sym whole)
    (subst (λ p. leaves_with store.nodes (before ++ n ∷ ns) p + 1 ≤ leaves_with store.nodes (before ++ n ∷ ns) (p + 1)) (sym passed) (with_next store.nodes before n ns some))
  where
    before : List ℕ
    before = stands.front ++ stands.leaf ∷ []

    whole : leaves_of store ≡ before ++ n ∷ ns
    whole = leaves_are store.nodes store.shape.root store.shape.depth stands.some ∙ stands.is ∙ ap (λ l. stands.front ++ stands.leaf ∷ l) back ∙ sym (append_assoc stands.front (stands.leaf ∷ []) (n ∷ ns))

    passed : place ≡ length (entries store.nodes before)
    passed = omega (arith, stands.passed, at_end, ap length (entries-append store.nodes stands.front (stands.leaf ∷ [])), length-append (entries store.nodes stands.front) (entries store.nodes (stands.leaf ∷ [])), ap length (append-nil (items (store.nodes stands.leaf))))

-- ---- the leaves of a stretch of pairs that pass a test

first_passes : (test : Pair → Bool) (records : List (List ℕ)) → 0 < length records → test (pair_of (get_or records 0 [])) ≡ true → list_any test (map pair_of records) ≡ true
first_passes test [] some passes = absurd (omega (arith, some))
first_passes test (item ∷ rest) some passes = ap (λ b. b || list_any test (map pair_of rest)) passes

module _ (test : Pair → Bool) (nodes : Nodes) where
  abbrev own : ℕ → ℕ
  own leaf = if list_any test (map pair_of (items (nodes leaf))) then 1 else 0

  -- a leaf counts for the stretch only where it counts before it, or its first record is in the stretch
  one_leaf : (leaf s n : ℕ) → (s ≡ 0 → 0 < n → 0 < length (items (nodes leaf)) → test (pair_of (get_or (items (nodes leaf)) 0 [])) ≡ true)
      → one_if_both (s + n) (length (items (nodes leaf))) ≤ one_if_both s (length (items (nodes leaf))) + own leaf
  one_leaf leaf (suc s) n passes =
      let long = length (items (nodes leaf)) in
      let up = ap (λ m. one_if_both m long) {x = suc s + n} {y = suc (s + n)} (omega arith) in
      omega (arith, same_one (s + n) s long, up)
    where
      same_one : (m k long : ℕ) → one_if_both (suc m) long ≡ one_if_both (suc k) long
      same_one m k zero = refl
      same_one m k (suc long) = refl
  one_leaf leaf zero zero passes = omega arith
  one_leaf leaf zero (suc n) passes = by_long (length (items (nodes leaf))) refl
    where
      by_long : (long : ℕ) → length (items (nodes leaf)) ≡ long → one_if_both (0 + suc n) long ≤ one_if_both 0 long + own leaf
      by_long zero is = omega (arith, of_none (0 + suc n))
      by_long (suc long) is =
          let some : 0 < length (items (nodes leaf)) = omega (arith, is) in
          let counts : own leaf ≡ 1 = ap (λ b. if b then 1 else 0) (first_passes test (items (nodes leaf)) some (passes refl (omega arith) some)) in
          omega (arith, counts, most_one (0 + suc n) (suc long))

  spanned : (ls : List ℕ) (s n : ℕ) → ((k : ℕ) → s ≤ k → k < s + n → k < length (entries nodes ls) → test (pair_of (get_or (entries nodes ls) k [])) ≡ true)
      → leaves_with nodes ls (s + n) ≤ leaves_with nodes ls s + leaves_having test nodes ls
  spanned [] s n passes = omega arith
  spanned (leaf ∷ rest) s n passes =
      let long = length (items (nodes leaf)) in
      let all : length (entries nodes (leaf ∷ rest)) ≡ long + length (entries nodes rest) = length-append (items (nodes leaf)) (entries nodes rest) in
      let left = (s + n - long) - (s - long) in
      let here = one_leaf leaf s n (λ none more some.
      ap (λ r. test (pair_of r)) (sym (get_or_append_left (items (nodes leaf)) (entries nodes rest) [] 0 some)) ∙ passes 0 (omega (arith, none)) (omega (arith, more)) (omega (arith, all, some))) in
      let behind = spanned rest (s - long) left (λ k from to inside.
      ap (λ r. test (pair_of r)) (sym (get_or-append_right (items (nodes leaf)) (entries nodes rest) long (long + k) [] refl (omega arith) ∙ ap (λ i. get_or (entries nodes rest) i []) {x = long + k - long} {y = k} (omega arith)))
      ∙ passes (long + k) (omega (arith, from)) (omega (arith, to)) (omega (arith, all, inside))) in
      let to = ap (leaves_with nodes rest) {x = s + n - long} {y = (s - long) + left} (omega arith) in
      omega (arith, here, behind, to)

-- the leaves of a stretch of pairs that pass a test are among those with such a pair
pub until_spanned : (test : Pair → Bool) (store : Store) (s n : ℕ) → ((k : ℕ) → s ≤ k → k < s + n → k < length (pairs_of store) → test (get_or (pairs_of store) k ([], [])) ≡ true)
    → leaves_until store (s + n) ≤ leaves_until store s + leaves_where test store
until_spanned test store s n passes = by_depth store.shape.depth passes
  where
    by_depth : (depth : ℕ) → ((k : ℕ) → s ≤ k → k < s + n → k < length (leaves store.nodes store.shape.root depth) → test (get_or (leaves store.nodes store.shape.root depth) k ([], [])) ≡ true)
        → leaves_with store.nodes (leaf_nodes store.nodes store.shape.root depth) (s + n)
        ≤ leaves_with store.nodes (leaf_nodes store.nodes store.shape.root depth) s + leaves_having test store.nodes (leaf_nodes store.nodes store.shape.root depth)
    by_depth zero own = omega arith
    by_depth (suc below) own = spanned test store.nodes (level store.nodes store.shape.root below) s n (λ k from to inside.
        let all = length-map (entries store.nodes (level store.nodes store.shape.root below)) pair_of in
        ap test (sym (get_or-map pair_of (entries store.nodes (level store.nodes store.shape.root below)) k [] ([], []) inside)) ∙ own k from to (omega (arith, all, inside)))

-- ---- a walk over such a stretch

-- What a walk has loaded that came from one place to another over pairs that pass a test: the nodes of the way down, and the leaves between both.
pub record HasSpanned (test : Pair → Bool) (whole now : Store) (begin place : ℕ) : Type 0 where
  pub own : (k : ℕ) → begin ≤ k → k < place → k < length (pairs_of whole) → test (get_or (pairs_of whole) k ([], [])) ≡ true
  pub loads : now.loads + leaves_until whole begin ≤ whole.loads + whole.shape.depth + leaves_until whole place

until_read : (most : ℕ) (a b : Store) → ReadsNodes most a b → IsTrue a.tells → (place : ℕ) → leaves_until b place ≡ leaves_until a place
until_read most a b reads tells place = λ i. leaves_with (same i) (leaf_nodes (same i) (reads.shape i).root (reads.shape i).depth) place
  where
    same : b.nodes ≡ a.nodes
    same = λ i. λ n. (reads.tree tells).nodes n i

module _ (test : Pair → Bool) (whole now : Store) (begin : ℕ) where
  pub span_begins : now.loads ≤ whole.loads + whole.shape.depth → HasSpanned test whole now begin begin
  span_begins most = record { own = λ k from to inside. absurd (omega (arith, from, to)); loads = omega (arith, most) }

  module _ (place : ℕ) (spanned : HasSpanned test whole now begin place) where
    pub span_goes_on : (next : Store) (most : ℕ) → ReadsNodes most whole now → IsTrue whole.tells → test (get_or (pairs_of whole) place ([], [])) ≡ true → next.loads + leaves_until now place ≤ now.loads + leaves_until now (place + 1)
        → HasSpanned test whole next begin (place + 1)
    span_goes_on next most reads tells passes loads = record {
      own = λ k from to inside. elim (cases_lt k place) [
        | inl before ↦ spanned.own k from before inside
        | inr last ↦ ap (λ i. test (get_or (pairs_of whole) i ([], []))) {x = k} {y = place} (omega (arith, to, last)) ∙ passes
      ];
      loads = omega (arith, spanned.loads, loads, until_read most whole now reads tells place, until_read most whole now reads tells (place + 1));
    }

    pub span_ends : (next : Store) → begin ≤ place → next.loads ≤ now.loads + 1 → next.loads ≤ whole.loads + whole.shape.depth + leaves_where test whole + 1
    span_ends next from last =
        let there = until_spanned test whole begin (place - begin) (λ k low high inside. spanned.own k low (omega (arith, from, high)) inside) in
        let at = ap (leaves_until whole) {x = begin + (place - begin)} {y = place} (omega (arith, from)) in
        omega (arith, there, at, spanned.loads, last)
