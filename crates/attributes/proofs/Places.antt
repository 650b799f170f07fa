-- The records of one name in the order of keys: they stand together, from the first block of the value on.
use Rattle.std.proofs.Common.{◌≡◌, inl, inr, ℕ, zero, suc, ◌<◌, ◌≤◌, Bool, true, false, List, [], ◌∷◌, length, map, refl, sym, ◌∙◌, ap, subst, arith}
use Rattle.std.specs.Prelude.{slice_index_or, ◌==◌}
use Rattle.std.specs.List.{AllByRecursion}
use Rattle.std.specs.Str.{bytes_eq}
use Rattle.std.specs.declared.cmp.Ordering.{Ordering}
use Rattle.std.specs.declared.cmp.Ordering.TheVariants.{Less, Equal, Greater}
use Rattle.std.specs.Ordering.{is_lt, nat_cmp, ordering_then, ordering_reverse, MatchOrdering}
use Rattle.std.specs.Cmp.{IsTotalOrder}
use Rattle.std.specs.Cmp.Lexicographic.{slice_cmp}
use Rattle.std.specs.FinMap.{nat_cmp-IsAntisymmetric, slice_cmp-IsAntisymmetric}
use Rattle.std.proofs.lemmas.Bool.{cases_lt, eq-eqb, eqb-true, and_from, and_parts}
use Rattle.std.proofs.lemmas.Cmp.{alike_right, nat_cmp_total, nat_list_cmp_total, ranked}
use Rattle.std.proofs.lemmas.Slice.Eq.{bytes_eq-Decides}
use Rattle.std.proofs.lemmas.List.{get_or-map, length-map}
use Rattle.btree_node.specs.Keys.{IsAttrKey, attr_cmp, attr_file, attr_units, attr_start}
use Rattle.btree_node.specs.KeyLaws.{attr_total}
use Rattle.btree_node.specs.Levels.{Pair, Ascends, pair_of, key_of, entries, level, leaves}
use Rattle.btree_node.specs.Store.{Store}
use Rattle.btree_node.specs.Tree.{IsTree, pairs_of}
use Rattle.btree_edit.specs.Desk.{HasKey, IsAbove}
use Rattle.hfs_volume.specs.Changes.{AreSortedAttributes, attribute_before}
use Rattle.hfs_volume.specs.Records.{attribute_of}
use Rattle.attributes.specs.Dropping.{IsFirstAt, is_named}
use Rattle.attributes.proofs.Lists.{false_so}

-- the keys of the pairs rise strictly
abbrev pub AscendByKey : List Pair → Type 0
AscendByKey pairs = (i j : ℕ) → i < j → j < length pairs → attr_cmp (slice_index_or pairs i ([], [])).0 (slice_index_or pairs j ([], [])).0 ≡ Less

-- the pair is a record of the attribute that a key names
abbrev pub is_under : List ℕ → Pair → Bool
is_under key pair = is_named (attr_file key) (attr_units key) pair

less_or_equal : Less ≡ Equal → ⊥
less_or_equal same = cc

then_first : (o p : Ordering) → ordering_then o p ≡ Equal → o ≡ Equal
then_first Less p e = cc
then_first Equal p e = refl
then_first Greater p e = cc

then_second : (o p : Ordering) → ordering_then o p ≡ Equal → p ≡ Equal
then_second Less p e = cc
then_second Equal p e = e
then_second Greater p e = cc

-- one order is above and below: it ties
pub clash : (o p q : Ordering) → ordering_then o p ≡ Greater → ordering_then o q ≡ Less → o ≡ Equal
clash Less p q e f = cc
clash Equal p q e f = refl
clash Greater p q e f = cc

pub cmp_same : {K : Type 0} {R : K → K → Ordering} → IsTotalOrder R → (x : K) → R x x ≡ Equal
cmp_same {K} {R} total x = of_reverse (R x x) (total.antisymm x x)
  where
    of_reverse : (o : Ordering) → o ≡ ordering_reverse o → o ≡ Equal
    of_reverse Less same = cc
    of_reverse Equal same = refl
    of_reverse Greater same = cc

-- ---- one name

-- a record of the name has its file and its units
pub under_parts : (key : List ℕ) (pair : Pair) → is_under key pair ≡ true → (attr_file pair.0 ≡ attr_file key) × (attr_units pair.0 ≡ attr_units key)
unfolding attribute_of
under_parts key pair under =
    let parts = and_parts (attr_file pair.0 == attr_file key) (bytes_eq (attr_units pair.0) (attr_units key)) under in
    (eqb-true (attr_file pair.0) (attr_file key) parts.0, (bytes_eq-Decides (attr_units pair.0) (attr_units key)).0 parts.1)

pub under_from : (key : List ℕ) (pair : Pair) → attr_file pair.0 ≡ attr_file key → attr_units pair.0 ≡ attr_units key → is_under key pair ≡ true
unfolding attribute_of
under_from key pair files names = and_from _ _ (eq-eqb (attr_file pair.0) (attr_file key) files) ((bytes_eq-Decides (attr_units pair.0) (attr_units key)).1 names)

-- two keys that tie name one attribute
pub tied_is_under : (pair : Pair) (key : List ℕ) → attr_cmp pair.0 key ≡ Equal → is_under key pair ≡ true
tied_is_under pair key ties =
    let files = nat_cmp (attr_file pair.0) (attr_file key) in
    let names = slice_cmp nat_cmp (attr_units pair.0) (attr_units key) in
    let starts = nat_cmp (attr_start pair.0) (attr_start key) in
    under_from key pair (nat_cmp-IsAntisymmetric (attr_file pair.0) (attr_file key) (then_first files (ordering_then names starts) ties))
    (slice_cmp-IsAntisymmetric nat_cmp-IsAntisymmetric (attr_units pair.0) (attr_units key) (then_first names starts (then_second files (ordering_then names starts) ties)))

-- and begin with one block
pub tied_starts : (one other : List ℕ) → attr_cmp one other ≡ Equal → attr_start one ≡ attr_start other
tied_starts one other ties =
    let files = nat_cmp (attr_file one) (attr_file other) in
    let names = slice_cmp nat_cmp (attr_units one) (attr_units other) in
    let starts = nat_cmp (attr_start one) (attr_start other) in
    nat_cmp-IsAntisymmetric (attr_start one) (attr_start other) (then_second names starts (then_second files (ordering_then names starts) ties))

-- keys of one attribute stand in the order of their blocks
pub by_start : (one other : List ℕ) → attr_file one ≡ attr_file other → attr_units one ≡ attr_units other → attr_cmp one other ≡ nat_cmp (attr_start one) (attr_start other)
by_start one other files names =
    let starts = nat_cmp (attr_start one) (attr_start other) in
    ap (λ n. ordering_then (nat_cmp n (attr_file other)) (ordering_then (slice_cmp nat_cmp (attr_units one) (attr_units other)) starts)) files
    ∙ ap (λ l. ordering_then (nat_cmp (attr_file other) (attr_file other)) (ordering_then (slice_cmp nat_cmp l (attr_units other)) starts)) names
    ∙ ap (λ o. ordering_then o (ordering_then (slice_cmp nat_cmp (attr_units other) (attr_units other)) starts)) (cmp_same nat_cmp_total (attr_file other))
    ∙ ap (λ o. ordering_then o starts) (cmp_same nat_list_cmp_total (attr_units other))

less_is : (m n : ℕ) (o : Ordering) → nat_cmp m n ≡ o → o ≡ Less → m < n
less_is m n o is less = subst (λ p. MatchOrdering p (m < n) (m ≡ n) (n < m)) (is ∙ less) (ranked m n (nat_cmp m n) refl)

pub is_less : (m n : ℕ) → nat_cmp m n ≡ Less → m < n
is_less m n less = less_is m n (nat_cmp m n) refl less

pub is_greater : (m n : ℕ) → nat_cmp m n ≡ Greater → n < m
is_greater m n greater = subst (λ p. MatchOrdering p (m < n) (m ≡ n) (n < m)) greater (ranked m n (nat_cmp m n) refl)

-- no record of a name stands before the key of its first block
pub none_below : (key : List ℕ) (pair : Pair) → attr_start key ≡ 0 → is_under key pair ≡ true → attr_cmp pair.0 key ≡ Less → ⊥
none_below key pair start under less =
    let parts = under_parts key pair under in
    let low = is_less (attr_start pair.0) (attr_start key) (sym (by_start pair.0 key parts.0 parts.1) ∙ less) in
    absurd (omega (arith, low, start))

-- what stands above the key of a name and below one of its records is a record of it
pub between : (key one other : List ℕ) → attr_cmp one key ≡ Greater → attr_cmp one other ≡ Less → attr_file other ≡ attr_file key → attr_units other ≡ attr_units key
    → (attr_file one ≡ attr_file key) × (attr_units one ≡ attr_units key)
between key one other above below files names =
    let fo = nat_cmp (attr_file one) (attr_file key) in
    let no = slice_cmp nat_cmp (attr_units one) (attr_units key) in
    let sk = nat_cmp (attr_start one) (attr_start key) in
    let so = nat_cmp (attr_start one) (attr_start other) in
    let down : ordering_then fo (ordering_then no so) ≡ Less = (λ i. ordering_then (nat_cmp (attr_file one) (sym files i)) (ordering_then (slice_cmp nat_cmp (attr_units one) (sym names i)) so)) ∙ below in
    let file_ties = clash fo (ordering_then no sk) (ordering_then no so) above down in
    let above_names : ordering_then no sk ≡ Greater = sym (ap (λ o. ordering_then o (ordering_then no sk)) file_ties) ∙ above in
    let below_names : ordering_then no so ≡ Less = sym (ap (λ o. ordering_then o (ordering_then no so)) file_ties) ∙ down in (
      nat_cmp-IsAntisymmetric (attr_file one) (attr_file key) file_ties,
      slice_cmp-IsAntisymmetric nat_cmp-IsAntisymmetric (attr_units one) (attr_units key) (clash no sk so above_names below_names),
    )

-- ---- in ascending order

-- one key alone ties
pub one_ties : (key : List ℕ) (pairs : List Pair) (i j : ℕ) → AscendByKey pairs → i < length pairs → j < length pairs → attr_cmp (slice_index_or pairs i ([], [])).0 key ≡ Equal
    → attr_cmp (slice_index_or pairs j ([], [])).0 key ≡ Equal → i ≡ j
one_ties key pairs i j rises first second ties also = elim (cases_lt i j) [
  | inl less ↦ absurd (apart i j less second ties also)
  | inr from ↦ elim (cases_lt j i) [
    | inl less ↦ absurd (apart j i less first also ties)
    | inr most ↦ omega (arith, from, most)
  ]
]
  where
    key_at : ℕ → List ℕ
    key_at k = (slice_index_or pairs k ([], [])).0

    apart : (a b : ℕ) → a < b → b < length pairs → attr_cmp (key_at a) key ≡ Equal → attr_cmp (key_at b) key ≡ Equal → ⊥
    apart a b less inside one other =
        less_or_equal (sym (rises a b less inside) ∙ attr_total.congr (key_at a) key (key_at b) one ∙ attr_total.antisymm key (key_at b) ∙ ap ordering_reverse other)

module _ (key : List ℕ) (pairs : List Pair) (rises : AscendByKey pairs) (start : attr_start key ≡ 0) where
  abbrev at : ℕ → Pair
  at k = slice_index_or pairs k ([], [])

  -- the record with the key is the first of the name
  pub first_by_key : (k : ℕ) → k < length pairs → attr_cmp (at k).0 key ≡ Equal → IsFirstAt (is_under key) pairs k
  first_by_key k inside ties = record {
    inside = inside;
    passes = tied_is_under (at k) key ties;
    before = λ i low. false_so (is_under key (at i)) (λ under. none_below key (at i) start under (sym (alike_right attr_total (at k).0 key (at i).0 ties) ∙ rises i k low inside));
  }

  -- where no record has the key, none of the name stands before the least pair above it
  pub none_under_below : (HasKey attr_cmp key pairs → ⊥) → (place : ℕ) → place ≤ length pairs → IsAbove attr_cmp key pairs place → (i : ℕ) → i < place → is_under key (at i) ≡ false
  none_under_below absent place within above i low = false_so (is_under key (at i)) (λ under. by_order under (attr_cmp (at i).0 key) refl)
    where
      by_order : is_under key (at i) ≡ true → (o : Ordering) → attr_cmp (at i).0 key ≡ o → ⊥
      by_order under Less is = none_below key (at i) start under is
      by_order under Equal is = absent (i, omega (arith, low, within), is)
      by_order under Greater is = above.before i low is

  -- from a pair above the key on that isn't of the name, none is
  pub none_under_behind : (k : ℕ) → k < length pairs → attr_cmp (at k).0 key ≡ Greater → is_under key (at k) ≡ false → (i : ℕ) → k ≤ i → i < length pairs → is_under key (at i) ≡ false
  none_under_behind k inside above other i from fits = elim (cases_lt k i) [
    | inl behind ↦ false_so (is_under key (at i)) (λ under.
        let parts = under_parts key (at i) under in
        let same = between key (at k).0 (at i).0 above (rises k i behind fits) parts.0 parts.1 in
        absurd (not_so (sym (under_from key (at k) same.0 same.1) ∙ other)))
    | inr most ↦ ap (λ n. is_under key (at n)) (omega (arith, from, most)) ∙ other
  ]
    where
      not_so : true ≡ false → ⊥
      not_so same = cc

-- ---- the pairs of a tree

ascending : (xs : List (List ℕ)) → Ascends attr_cmp xs → AscendByKey (map pair_of xs)
ascending xs rises i j before fits =
    let inside : j < length xs = omega (arith, fits, length-map xs pair_of) in
    ap (λ (pair : Pair). attr_cmp pair.0 (slice_index_or (map pair_of xs) j ([], [])).0) (get_or-map pair_of xs i [] ([], []) (omega (arith, before, inside)))
    ∙ ap (λ (pair : Pair). attr_cmp (key_of (slice_index_or xs i [])) pair.0) (get_or-map pair_of xs j [] ([], []) inside)
    ∙ rises i j before inside

-- they rise by their keys
pub tree_ascends : (store : Store) → IsTree IsAttrKey attr_cmp store → AscendByKey (pairs_of store)
tree_ascends store tree = by_depth store.shape.depth refl
  where
    by_depth : (depth : ℕ) → store.shape.depth ≡ depth → AscendByKey (leaves store.nodes store.shape.root depth)
    by_depth zero is = λ i j before fits. absurd (omega (arith, fits))
    by_depth (suc below) is = ascending (entries store.nodes (level store.nodes store.shape.root below)) (tree.ordered.ascends below (omega (arith, is)))

-- each key of a tree is one
pub tree_keys : (store : Store) → IsTree IsAttrKey attr_cmp store → (k : ℕ) → k < length (pairs_of store) → IsAttrKey (slice_index_or (pairs_of store) k ([], [])).0
tree_keys store tree = by_depth store.shape.depth refl
  where
    by_depth : (depth : ℕ) → store.shape.depth ≡ depth → (k : ℕ) → k < length (leaves store.nodes store.shape.root depth) → IsAttrKey (slice_index_or (leaves store.nodes store.shape.root depth) k ([], [])).0
    by_depth zero is = λ k inside. absurd (omega (arith, inside))
    by_depth (suc below) is = λ k inside.
        let records = entries store.nodes (level store.nodes store.shape.root below) in
        let fits : k < length records = omega (arith, inside, length-map records pair_of) in
        subst (λ (pair : Pair). IsAttrKey pair.0) (sym (get_or-map pair_of records k [] ([], []) fits)) (tree.levels.keys below k (omega (arith, is)) fits)

-- pairs whose keys rise are attributes in order
pub rising_sorted : (pairs : List Pair) → AscendByKey pairs → AreSortedAttributes pairs
unfolding attribute_of
rising_sorted [] rises = tt
rising_sorted (x ∷ xs) rises = (first_before xs (λ j inside. rises 0 (suc j) (omega arith) (omega (arith, inside))), rising_sorted xs (λ i j before fits. rises (suc i) (suc j) (omega (arith, before)) (omega (arith, fits))))
  where
    first_before : (ys : List Pair) → ((j : ℕ) → j < length ys → attr_cmp x.0 (slice_index_or ys j ([], [])).0 ≡ Less) → AllByRecursion (λ later. attribute_before (attribute_of x) later ≡ true) (map attribute_of ys)
    first_before [] before = tt
    first_before (y ∷ ys) before = (ap is_lt (before 0 (omega arith)), first_before ys (λ j inside. before (suc j) (omega (arith, inside))))
