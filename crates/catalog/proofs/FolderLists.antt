-- The entries of a folder stand together behind the key of its thread.
use Rattle.std.proofs.Common.{◌≡◌, ◌≢◌, ◌⊎◌, inl, inr, ℕ, zero, suc, ◌+◌, ◌-◌, ◌<◌, ◌≤◌, Bool, true, false, List, [], ◌∷◌, ◌++◌, length, map, take, drop, refl, sym, ◌∙◌, ap, subst, arith, append_assoc}
use Rattle.std.specs.Prelude.{slice_index_or, IsTrue, T, not, ◌==◌, ◌&&◌, Option, None, Some, if◌then◌else◌}
use Rattle.std.specs.Ordering.{nat_cmp, ordering_then}
use Rattle.std.specs.Cmp.{nat_cmp_is}
use Rattle.std.specs.Cmp.Lexicographic.{slice_cmp}
use Rattle.std.specs.declared.cmp.Ordering.{Ordering}
use Rattle.std.specs.declared.cmp.Ordering.TheVariants.{Less, Equal, Greater}
use Rattle.std.proofs.lemmas.Bool.{cases_lt, eq-eqb, eqb-true, true≢false}
use Rattle.std.proofs.lemmas.Grind.{flat_map-append}
use Rattle.std.proofs.lemmas.List.{map-append, append-nil, take_all, take_more, take-append-drop, length-take, length-drop, get_or-take, get_or-drop}
use Rattle.btree_node.specs.Keys.{IsCatalogKey, catalog_cmp, catalog_parent, catalog_units}
use Rattle.btree_node.specs.Levels.{Pair}
use Rattle.btree_node.specs.Store.{Store}
use Rattle.btree_node.specs.KeyLaws.{catalog_total}
use Rattle.btree_node.specs.Tree.{IsTree, pairs_of, entries_of as tree_entries}
use Rattle.btree_edit.specs.Desk.{IsAbove, HoldsPair}
use Rattle.btree_edit.specs.Reading.{ReadsNodes}
use Rattle.btree_edit.specs.Walking.{Seeks, StandsAt, StepsOn, leaves_until, leaves_where}
use Rattle.btree_edit.proofs.Spans.{HasSpanned, span_begins, span_goes_on, span_ends}
use Rattle.btree_edit.proofs.Descent.{pair_at, pairs_long}
use Rattle.btree_edit.specs.declared.desk.Desk.{Desk}
use Rattle.cat_records.specs.Records.{catalog_of, is_catalog}
use Rattle.hfs_volume.specs.Entries.{AreSpelled}
use Rattle.hfs_model.specs.Sorted.{kept}
use Rattle.hfs_volume.specs.Records.{Placed, placed_of, placed_in, entries_of, is_empty}
use Rattle.catalog.specs.Children.{as_child, children_in, child_under, is_child}
use Rattle.catalog.specs.Pairs.{IsKeyOf}
use Rattle.catalog.specs.declared.folder.Child.{Child}
use Rattle.catalog.proofs.Places.{AscendByKey, tree_ascends}

abbrev is_there : {X : Type 0} → Option X → Type 0
is_there None = ⊥
is_there (Some x) = Unit {0}

none_or_some : {X : Type 0} (a : X) → None ≡ Some a → ⊥
none_or_some a same = subst is_there (sym same) tt

abbrev child_or : Child → Option Child → Child
child_or child None = child
child_or child (Some other) = other

-- ---- lists

kept_append : {X : Type 0} (test : X → Bool) (xs ys : List X) → kept test (xs ++ ys) ≡ kept test xs ++ kept test ys
kept_append test xs ys = flat_map-append (λ x. if test x then x ∷ [] else []) xs ys

abbrev is_in : ℕ → Placed → Bool
is_in parent placed = placed.parent == parent

children_append : (parent : ℕ) (xs ys : List Pair) → children_in parent (xs ++ ys) ≡ children_in parent xs ++ children_in parent ys
children_append parent xs ys =
    ap (λ l. map as_child (kept (is_in parent) (entries_of l))) (map-append placed_of xs ys)
    ∙ ap (λ l. map as_child (kept (is_in parent) l)) (kept_append (λ (placed : Placed). not (is_empty placed.name)) (placed_in xs) (placed_in ys))
    ∙ ap (λ l. map as_child l) (kept_append (is_in parent) (entries_of (placed_in xs)) (entries_of (placed_in ys)))
    ∙ map-append as_child (kept (is_in parent) (entries_of (placed_in xs))) (kept (is_in parent) (entries_of (placed_in ys)))

-- a pair that is no entry of the folder: another's, or a thread's
abbrev IsNone : ℕ → Pair → Type 0
IsNone parent pair = ((placed_of pair).parent == parent) ≡ false ⊎ (is_empty (placed_of pair).name ≡ true)

abbrev of_one : ℕ → Placed → Bool → List Child
of_one parent placed empty = map as_child (kept (is_in parent) ((if not empty then placed ∷ [] else []) ++ []))

abbrev if_in : Placed → Bool → List Child
if_in placed here = map as_child ((if here then placed ∷ [] else []) ++ [])

no_child : (parent : ℕ) (pair : Pair) → IsNone parent pair → children_in parent (pair ∷ []) ≡ []
no_child parent pair (inr empty) = ap (of_one parent (placed_of pair)) empty
no_child parent pair (inl other) = by_name (is_empty (placed_of pair).name) refl
  where
    by_name : (empty : Bool) → is_empty (placed_of pair).name ≡ empty → children_in parent (pair ∷ []) ≡ []
    by_name true is = ap (of_one parent (placed_of pair)) is
    by_name false is = ap (of_one parent (placed_of pair)) is ∙ ap (if_in (placed_of pair)) other

one_child : (parent : ℕ) (pair : Pair) → ((placed_of pair).parent == parent) ≡ true → is_empty (placed_of pair).name ≡ false → children_in parent (pair ∷ []) ≡ as_child (placed_of pair) ∷ []
one_child parent pair here named = ap (of_one parent (placed_of pair)) named ∙ ap (if_in (placed_of pair)) here

no_children : (parent : ℕ) (pairs : List Pair) → ((k : ℕ) → k < length pairs → IsNone parent (slice_index_or pairs k ([], []))) → children_in parent pairs ≡ []
no_children parent [] none = refl
no_children parent (pair ∷ rest) none =
    children_append parent (pair ∷ []) rest
    ∙ ap (λ l. l ++ children_in parent rest) (no_child parent pair (none 0 (omega arith)))
    ∙ no_children parent rest (λ k inside. none (suc k) (omega (arith, inside)))

-- ---- orders

less_or_greater : Less ≡ Greater → ⊥
less_or_greater same = cc

equal_or_greater : Equal ≡ Greater → ⊥
equal_or_greater same = cc

greater_or_less : Greater ≡ Less → ⊥
greater_or_less same = cc

-- a name in the folder is above the key of the thread
named_above : (m n : ℕ) (name : List ℕ) → m ≡ n → is_empty name ≡ false → ordering_then (nat_cmp m n) (slice_cmp nat_cmp name []) ≡ Greater
named_above m n [] same named = absurd (true≢false named)
named_above m n (unit ∷ units) same named = ap (λ o. ordering_then o Greater) (sym (nat_cmp_is m n Equal same))

-- what is above the key of the thread is a name in the folder, or in a folder behind it
above_named : (m n : ℕ) (name : List ℕ) → m ≡ n → ordering_then (nat_cmp m n) (slice_cmp nat_cmp name []) ≡ Greater → is_empty name ≡ false
above_named m n [] same above = absurd (equal_or_greater (sym (ap (λ o. ordering_then o Equal) (sym (nat_cmp_is m n Equal same))) ∙ above))
above_named m n (unit ∷ units) same above = refl

above_is_behind : (m n : ℕ) (o : Ordering) → (m ≡ n → ⊥) → ordering_then (nat_cmp m n) o ≡ Greater → n < m
above_is_behind m n o other above = elim (cases_lt n m) [
  | inl behind ↦ behind
  | inr most ↦ elim (cases_lt m n) [
    | inl before ↦ absurd (less_or_greater (sym (ap (λ p. ordering_then p o) (sym (nat_cmp_is m n Less before))) ∙ above))
    | inr least ↦ absurd (other (omega (arith, most, least)))
  ]
]

before_is_most : (m n : ℕ) (o : Ordering) → ordering_then (nat_cmp m n) o ≡ Less → m ≤ n
before_is_most m n o before = elim (cases_lt n m) [
  | inl behind ↦ absurd (greater_or_less (sym (ap (λ p. ordering_then p o) (sym (nat_cmp_is m n Greater behind))) ∙ before))
  | inr most ↦ most
]

-- ---- the pairs behind the thread's key

module _ (parent : ℕ) (key : List ℕ) (pairs : List Pair) (is_key : IsKeyOf parent [] key) (rises : AscendByKey pairs) (start : ℕ) (above : IsAbove catalog_cmp key pairs start) where
  abbrev at : ℕ → Pair
  at k = slice_index_or pairs k ([], [])

  -- the order of a pair and the key, in plain words
  order_is : (k : ℕ) → catalog_cmp (at k).0 key ≡ ordering_then (nat_cmp (placed_of (at k)).parent parent) (slice_cmp nat_cmp (placed_of (at k)).name [])
  unfolding placed_of
  order_is k = λ i. ordering_then (nat_cmp (catalog_parent (at k).0) (is_key.parent_is i)) (slice_cmp nat_cmp (catalog_units (at k).0) (is_key.name_is i))

  none_before : (k : ℕ) → k < start → IsNone parent (at k)
  none_before k low = by_parent ((placed_of (at k)).parent == parent) refl
    where
      by_name : ((placed_of (at k)).parent == parent) ≡ true → (empty : Bool) → is_empty (placed_of (at k)).name ≡ empty → IsNone parent (at k)
      by_name here true is = inr is
      by_name here false is = absurd (above.before k low (order_is k ∙ named_above (placed_of (at k)).parent parent (placed_of (at k)).name (eqb-true (placed_of (at k)).parent parent here) is))

      by_parent : (here : Bool) → ((placed_of (at k)).parent == parent) ≡ here → IsNone parent (at k)
      by_parent false is = inl is
      by_parent true is = by_name is (is_empty (placed_of (at k)).name) refl

  -- before the walk's place nothing was passed
  pub none_passed : children_in parent (take start pairs) ≡ []
  none_passed = no_children parent (take start pairs) (λ k inside.
      let low : k < start = omega (arith, inside, length-take start pairs) in
      subst (λ pair. IsNone parent pair) (sym (get_or-take start pairs k ([], []) low)) (none_before k low))

  -- the next pair is an entry of the folder
  pub one_more : (place : ℕ) → start ≤ place → place < length pairs → ((placed_of (at place)).parent == parent) ≡ true → children_in parent (take (place + 1) pairs) ≡ children_in parent (take place pairs) ++ as_child (placed_of (at place)) ∷ []
  one_more place from inside here =
      ap (children_in parent) (take_more pairs place ([], []) inside)
      ∙ children_append parent (take place pairs) (at place ∷ [])
      ∙ ap (λ l. children_in parent (take place pairs) ++ l)
      (one_child parent (at place) here (above_named (placed_of (at place)).parent parent (placed_of (at place)).name (eqb-true (placed_of (at place)).parent parent here) (sym (order_is place) ∙ above.behind place from inside)))

  pub own_is_child : (place : ℕ) → start ≤ place → place < length pairs → ((placed_of (at place)).parent == parent) ≡ true → is_child parent (at place) ≡ true
  own_is_child place from inside here =
      let named : is_empty (placed_of (at place)).name ≡ false =
      above_named (placed_of (at place)).parent parent (placed_of (at place)).name (eqb-true (placed_of (at place)).parent parent here) (sym (order_is place) ∙ above.behind place from inside) in
      λ i. here i && not (named i)

  -- a pair of another folder: from there on no pair is an entry of this one
  pub all_passed : (place : ℕ) → start ≤ place → place < length pairs → ((placed_of (at place)).parent == parent) ≡ false → children_in parent (take place pairs) ≡ children_in parent pairs
  unfolding placed_of
  all_passed place from inside other =
      sym (ap (children_in parent) (sym (take-append-drop place pairs)) ∙ children_append parent (take place pairs) (drop place pairs)
      ∙ ap (λ l. children_in parent (take place pairs) ++ l) (no_children parent (drop place pairs) (λ k low. subst (λ pair. IsNone parent pair) (sym (get_or-drop place pairs k ([], []))) (none_behind (place + k) (omega arith) (omega (arith, low, length-drop place pairs, inside)))))
      ∙ append-nil (children_in parent (take place pairs)))
    where
      behind : parent < (placed_of (at place)).parent
      behind = above_is_behind (placed_of (at place)).parent parent (slice_cmp nat_cmp (placed_of (at place)).name []) (λ same. true≢false (sym (eq-eqb (placed_of (at place)).parent parent same) ∙ other)) (sym (order_is place) ∙ above.behind place from inside)

      later : (k : ℕ) → place < k → k < length pairs → (placed_of (at place)).parent ≤ (placed_of (at k)).parent
      later k after fits = before_is_most (catalog_parent (at place).0) (catalog_parent (at k).0) (slice_cmp nat_cmp (catalog_units (at place).0) (catalog_units (at k).0)) (rises place k after fits)

      at_least : (k : ℕ) → place ≤ k → k < length pairs → (placed_of (at place)).parent ≤ (placed_of (at k)).parent
      at_least k low fits = elim (cases_lt place k) [
        | inl after ↦ later k after fits
        | inr most ↦ omega (arith, ap (λ n. (placed_of (at n)).parent) {x = place} {y = k} (omega (arith, low, most)))
      ]

      none_behind : (k : ℕ) → place ≤ k → k < length pairs → IsNone parent (at k)
      none_behind k low fits = by_parent ((placed_of (at k)).parent == parent) refl
        where
          by_parent : (here : Bool) → ((placed_of (at k)).parent == parent) ≡ here → IsNone parent (at k)
          by_parent false is = inl is
          by_parent true is = absurd (omega (arith, behind, at_least k low fits, eqb-true (placed_of (at k)).parent parent is))

-- ---- the walk

-- What a walk knows that has gathered these entries: it stands behind so many pairs above the key of the folder's thread, and has the entries of the folder among those that it passed.
pub record Gathers (parent : ℕ) (whole store : Store) (desk : Desk) (at passed : ℕ) (list : List Child) : Type 0 where
  pub key : List ℕ
  pub is_key : IsKeyOf parent [] key
  pub same : pairs_of store ≡ pairs_of whole
  pub tree : IsTree IsCatalogKey catalog_cmp store
  pub start : ℕ
  pub above : IsAbove catalog_cmp key (pairs_of whole) start
  pub stands : StandsAt store desk at (start + passed)
  pub got : list ≡ children_in parent (take (start + passed) (pairs_of whole))
  pub spanned : HasSpanned (is_child parent) whole store start (start + passed)

pub begins : (parent : ℕ) (key : List ℕ) (whole store : Store) (desk : Desk) (at : ℕ) → IsKeyOf parent [] key → pairs_of store ≡ pairs_of whole → IsTree IsCatalogKey catalog_cmp store
    → store.loads ≤ whole.loads + whole.shape.depth → Seeks catalog_cmp key store desk (Some at) → Gathers parent whole store desk at 0 []
begins parent key whole store desk at is_key same tree loads seeks = record {
  key = key;
  is_key = is_key;
  same = same;
  tree = tree;
  start = start;
  above = above;
  stands = subst (λ n. StandsAt store desk at n) none_more seeks.1;
  got = sym (ap (λ n. children_in parent (take n (pairs_of whole))) (sym none_more) ∙ none_passed parent key (pairs_of whole) is_key rises start above);
  spanned = subst (HasSpanned (is_child parent) whole store start) none_more (span_begins (is_child parent) whole store start loads);
}
  where
    start : ℕ
    start = seeks.0

    none_more : start ≡ start + 0
    none_more = omega arith

    rises : AscendByKey (pairs_of whole)
    rises = subst AscendByKey same (tree_ascends store tree)

    above : IsAbove catalog_cmp key (pairs_of whole) start
    above = subst (λ l. IsAbove catalog_cmp key l start) same seeks.2

-- no pair, no entry
pub lists_none : (parent : ℕ) (pairs : List Pair) → length pairs ≡ 0 → [] ≡ children_in parent pairs
lists_none parent [] none = refl
lists_none parent (pair ∷ rest) none = absurd (omega (arith, none))

if_some : (b : Bool) (x child : Child) → (if b then Some x else None) ≡ Some child → (b ≡ true) × (x ≡ child)
if_some true x child is = (refl, ap (child_or x) is)
if_some false x child is = absurd (none_or_some child is)

if_none : (b : Bool) (x : Child) → (if b then Some x else None) ≡ None → b ≡ false
if_none true x is = absurd (none_or_some x (sym is))
if_none false x is = refl

module _ (parent : ℕ) (whole store : Store) (desk : Desk) (at passed : ℕ) (list : List Child) (gathers : Gathers parent whole store desk at passed list) where
  abbrev pairs : List Pair
  pairs = pairs_of whole

  rises : AscendByKey pairs
  rises = subst AscendByKey gathers.same (tree_ascends store gathers.tree)

  abbrev place : ℕ
  place = gathers.start + passed

  -- all pairs are passed
  pub gathered_all : length pairs ≤ place → list ≡ children_in parent pairs
  gathered_all past = gathers.got ∙ ap (children_in parent) (take_all place pairs past)

  -- what the walk has loaded where its last step loads one node at most
  pub ends_loaded : (next : Store) → next.loads ≤ store.loads + 1 → next.loads ≤ whole.loads + whole.shape.depth + leaves_where (is_child parent) whole + 1
  ends_loaded next last = span_ends (is_child parent) whole store gathers.start place gathers.spanned next (omega arith) last

  pub ends : (next : Store) (to : Desk) → pairs_of next ≡ pairs_of store → StepsOn next to place None → list ≡ children_in parent pairs
  ends next to kept steps = gathered_all (omega (arith, steps, ap (λ (l : List Pair). length l) (kept ∙ gathers.same)))

  module _ (next : Store) (to : Desk) (on : ℕ) (kept : pairs_of next ≡ pairs_of store) (tree : IsTree IsCatalogKey catalog_cmp next) (steps : StepsOn next to place (Some on)) where
    now_same : pairs_of next ≡ pairs
    now_same = kept ∙ gathers.same

    abbrev pair : Pair
    pair = slice_index_or pairs place ([], [])

    inside : place < length pairs
    inside = subst (λ (l : List Pair). place < length l) now_same steps.0.inside

    held_key : to.held.key ≡ pair.0
    held_key = steps.0.key ∙ ap (λ (l : List Pair). (slice_index_or l place ([], [])).0) now_same

    held_value : to.held.value ≡ pair.1
    held_value = steps.0.value ∙ ap (λ (l : List Pair). (slice_index_or l place ([], [])).1) now_same

    -- the pair that the desk holds has a key of the catalog, and spells a record
    pub held_is_key : IsCatalogKey to.held.key
    held_is_key =
        let some : 0 < next.shape.depth = steps.1.some in
        let many = pairs_long IsCatalogKey catalog_cmp catalog_total (λ _ key. key.size) next tree.levels tree.ordered some in
        let within : place < length (tree_entries next (next.shape.depth - 1)) = omega (arith, many, steps.0.inside) in
        let is = pair_at IsCatalogKey catalog_cmp catalog_total (λ _ key. key.size) next tree.levels tree.ordered some place within in
        subst IsCatalogKey (sym (steps.0.key ∙ ap (λ (p : Pair). p.0) is)) (tree.levels.keys (next.shape.depth - 1) place (omega (arith, some)) within)

    pub held_is_spelled : AreSpelled pairs → IsTrue (is_catalog to.held.value)
    held_is_spelled spelled = subst (λ v. IsTrue (is_catalog v)) (sym held_value) (spelled place ([], []) inside)

    own_parent : (catalog_parent to.held.key == parent) ≡ ((placed_of pair).parent == parent)
    unfolding placed_of
    own_parent = ap (λ k. catalog_parent k == parent) held_key

    own_child : as_child (placed_of pair) ≡ record { name = catalog_units to.held.key; rec = catalog_of to.held.value }
    unfolding placed_of
    own_child = λ i. record { name = catalog_units (sym held_key i); rec = catalog_of (sym held_value i) }

    pub stops : child_under parent to.held.key to.held.value ≡ None → list ≡ children_in parent pairs
    stops none =
        gathers.got ∙ all_passed parent gathers.key pairs gathers.is_key rises gathers.start gathers.above place (omega arith) inside
        (sym own_parent ∙ if_none (catalog_parent to.held.key == parent) (record { name = catalog_units to.held.key; rec = catalog_of to.held.value }) none)

    pub goes_on : (child : Child) → child_under parent to.held.key to.held.value ≡ Some child → (most : ℕ) → ReadsNodes most whole store → IsTrue whole.tells
        → next.loads + leaves_until store place ≤ store.loads + leaves_until store (place + 1) → Gathers parent whole next to on (passed + 1) (list ++ child ∷ [])
    goes_on child is most reads tells loads =
        let found = if_some (catalog_parent to.held.key == parent) (record { name = catalog_units to.held.key; rec = catalog_of to.held.value }) child is in
        let on_is : place + 1 ≡ gathers.start + (passed + 1) = omega arith in
        record {
          key = gathers.key;
          is_key = gathers.is_key;
          same = now_same;
          tree = tree;
          start = gathers.start;
          above = gathers.above;
          stands = subst (λ n. StandsAt next to on n) on_is steps.1;
          got = ap (λ l. l ++ child ∷ []) gathers.got
              ∙ ap (λ c. children_in parent (take place pairs) ++ c ∷ []) (sym (own_child ∙ found.1))
              ∙ sym (one_more parent gathers.key pairs gathers.is_key rises gathers.start gathers.above place (omega arith) inside (sym own_parent ∙ found.0))
              ∙ ap (λ n. children_in parent (take n pairs)) on_is;
          spanned = subst (HasSpanned (is_child parent) whole next gathers.start) on_is
              (span_goes_on (is_child parent) whole store gathers.start place gathers.spanned next most reads tells
              (own_is_child parent gathers.key pairs gathers.is_key rises gathers.start gathers.above place (omega arith) inside (sym own_parent ∙ found.0)) loads);
        }
