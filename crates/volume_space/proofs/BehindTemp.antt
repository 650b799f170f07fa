-- The files of a folder that wait stand together behind the key of the name `temp`.
use Rattle.std.proofs.Common.{◌≡◌, ◌≢◌, inl, inr, ℕ, suc, ◌+◌, ◌-◌, ◌<◌, ◌≤◌, Bool, true, false, List, [], ◌∷◌, ◌++◌, length, map, take, drop, refl, sym, ◌∙◌, ap, subst, arith}
use Rattle.std.specs.Prelude.{slice_index_or, codes, not, IsTrue, ◌==◌, ◌&&◌, Option, None, Some, if◌then◌else◌}
use Rattle.std.specs.Ordering.{nat_cmp, ordering_then}
use Rattle.std.specs.Cmp.{nat_cmp_is}
use Rattle.std.specs.Cmp.Lexicographic.{slice_cmp}
use Rattle.std.specs.declared.cmp.Ordering.{Ordering}
use Rattle.std.specs.declared.cmp.Ordering.TheVariants.{Less, Equal, Greater}
use Rattle.std.proofs.lemmas.Bool.{cases_lt, eq-eqb, eqb-true, true≢false}
use Rattle.std.proofs.lemmas.Grind.{flat_map-append}
use Rattle.std.proofs.lemmas.List.{map-append, take_all, take_more, take-append-drop, length-take, length-drop, get_or-take, get_or-drop}
use Rattle.btree_node.specs.KeyLaws.{catalog_total}
use Rattle.btree_node.specs.Keys.{IsCatalogKey, catalog_cmp, catalog_parent, catalog_units}
use Rattle.btree_node.specs.Levels.{Pair}
use Rattle.btree_node.specs.Store.{Store}
use Rattle.btree_node.specs.Tree.{IsTree, pairs_of, entries_of as tree_entries}
use Rattle.btree_edit.specs.Desk.{IsAbove}
use Rattle.btree_edit.specs.Walking.{Seeks, StandsAt, StepsOn}
use Rattle.btree_edit.proofs.Descent.{pair_at, pairs_long}
use Rattle.btree_edit.specs.declared.desk.Desk.{Desk}
use Rattle.cat_records.specs.Records.{catalog_of, is_catalog}
use Rattle.catalog.specs.Children.{as_child, child_under, children_in}
use Rattle.catalog.specs.declared.folder.Child.{Child}
use Rattle.catalog.specs.Pairs.{IsKeyOf}
use Rattle.catalog.proofs.Places.{AscendByKey, tree_ascends}
use Rattle.hfs_model.specs.Sorted.{kept}
use Rattle.hfs_volume.proofs.Flat.{none_or_some}
use Rattle.hfs_volume.specs.Entries.{AreSpelled}
use Rattle.hfs_volume.specs.Records.{Placed, entries_of, id_in, is_empty, placed_in, placed_of}
use Rattle.volume_space.specs.Orphans.{begins_temp, found_among, found_next, is_number, is_own_record, is_temp, lesser}
use Rattle.volume_space.proofs.Waiting.{four_long}

-- ---- names behind the word

abbrev then_number : Bool → Bool → Bool
then_number begins number = if not begins then false else number

temp_behind : (name : List ℕ) → is_temp name ≡ true → slice_cmp nat_cmp name (codes "temp") ≡ Greater
temp_behind name is = by (begins_temp name) refl is
  where
    behind : (digits : List ℕ) → is_number digits ≡ true → slice_cmp nat_cmp (codes "temp" ++ digits) (codes "temp") ≡ Greater
    behind [] number = absurd (true≢false (sym number))
    behind (d ∷ rest) number = refl

    by : (b : Bool) → begins_temp name ≡ b → then_number b (is_number (drop 4 name)) ≡ true → slice_cmp nat_cmp name (codes "temp") ≡ Greater
    by false begins number = absurd (true≢false (sym number))
    by true begins number = ap (λ (l : List ℕ). slice_cmp nat_cmp l (codes "temp")) (four_long name begins) ∙ behind (drop 4 name) number

not_temp : (name : List ℕ) → (slice_cmp nat_cmp name (codes "temp") ≡ Greater → ⊥) → is_temp name ≡ false
not_temp name most = by (is_temp name) refl
  where
    by : (b : Bool) → is_temp name ≡ b → b ≡ false
    by false is = refl
    by true is = absurd (most (temp_behind name is))

-- ---- orders

less_or_greater : Less ≡ Greater → ⊥
less_or_greater same = cc

greater_or_less : Greater ≡ Less → ⊥
greater_or_less same = cc

above_is_behind : (m n : ℕ) (o : Ordering) → (m ≡ n → ⊥) → ordering_then (nat_cmp m n) o ≡ Greater → n < m
above_is_behind m n o other above = elim (cases_lt n m) [
  | inl behind ↦ behind
  | inr most ↦ elim (cases_lt m n) [
    | inl before ↦ absurd (less_or_greater (sym (ap (λ p. ordering_then p o) (sym (nat_cmp_is m n Less before))) ∙ above))
    | inr least ↦ absurd (other (omega (arith, most, least)))
  ]
]

before_is_most : (m n : ℕ) (o : Ordering) → ordering_then (nat_cmp m n) o ≡ Less → m ≤ n
before_is_most m n o before = elim (cases_lt n m) [
  | inl behind ↦ absurd (greater_or_less (sym (ap (λ p. ordering_then p o) (sym (nat_cmp_is m n Greater behind))) ∙ before))
  | inr most ↦ most
]

-- ---- lists

kept_append : {X : Type 0} (test : X → Bool) (xs ys : List X) → kept test (xs ++ ys) ≡ kept test xs ++ kept test ys
kept_append test xs ys = flat_map-append (λ x. if test x then x ∷ [] else []) xs ys

abbrev is_in : ℕ → Placed → Bool
is_in folder placed = placed.parent == folder

children_append : (folder : ℕ) (xs ys : List Pair) → children_in folder (xs ++ ys) ≡ children_in folder xs ++ children_in folder ys
children_append folder xs ys =
    ap (λ l. map as_child (kept (is_in folder) (entries_of l))) (map-append placed_of xs ys)
    ∙ ap (λ l. map as_child (kept (is_in folder) l)) (kept_append (λ (placed : Placed). not (is_empty placed.name)) (placed_in xs) (placed_in ys))
    ∙ ap (λ l. map as_child l) (kept_append (is_in folder) (entries_of (placed_in xs)) (entries_of (placed_in ys)))
    ∙ map-append as_child (kept (is_in folder) (entries_of (placed_in xs))) (kept (is_in folder) (entries_of (placed_in ys)))

found_append : (found : Option ℕ) (xs ys : List Child) → found_among found (xs ++ ys) ≡ found_among (found_among found xs) ys
found_append found [] ys = refl
found_append found (x ∷ xs) ys = found_append (found_next found x) xs ys

abbrev of_one : ℕ → Placed → Bool → List Child
of_one folder placed empty = map as_child (kept (is_in folder) ((if not empty then placed ∷ [] else []) ++ []))

abbrev if_in : Placed → Bool → List Child
if_in placed here = map as_child ((if here then placed ∷ [] else []) ++ [])

one_child : (folder : ℕ) (pair : Pair) → ((placed_of pair).parent == folder) ≡ true → is_empty (placed_of pair).name ≡ false → children_in folder (pair ∷ []) ≡ as_child (placed_of pair) ∷ []
one_child folder pair here named = ap (of_one folder (placed_of pair)) named ∙ ap (if_in (placed_of pair)) here

-- ---- none is found

and_false : (b : Bool) → (b && false) ≡ false
and_false true = refl
and_false false = refl

found_none : (folder : ℕ) (found : Option ℕ) (pairs : List Pair) → ((k : ℕ) → k < length pairs → (placed_of (slice_index_or pairs k ([], []))).parent ≡ folder → is_temp (placed_of (slice_index_or pairs k ([], []))).name ≡ false) → found_among found (children_in folder pairs) ≡ found
found_none folder found [] none = refl
found_none folder found (pair ∷ rest) none =
    by (placed_of pair) (not (is_empty (placed_of pair).name)) (entries_of (placed_in rest)) (found_none folder found rest (λ k inside. none (suc k) (omega (arith, inside)))) (none 0 (omega arith))
  where
    named : (p : Placed) (others : List Placed) → found_among found (map as_child (kept (λ (q : Placed). q.parent == folder) others)) ≡ found → (p.parent ≡ folder → is_temp p.name ≡ false) → (here : Bool) → (p.parent == folder) ≡ here
        → found_among found (map as_child ((if here then p ∷ [] else []) ++ kept (λ (q : Placed). q.parent == folder) others)) ≡ found
    named p others later own false is = later
    named p others later own true is =
        ap (λ b. found_among (if b then Some (lesser found (id_in p.value)) else found) (map as_child (kept (λ (q : Placed). q.parent == folder) others))) (ap (λ b. is_own_record p.value && b) (own (eqb-true p.parent folder is)) ∙ and_false (is_own_record p.value))
        ∙ later

    by : (p : Placed) (some : Bool) (others : List Placed) → found_among found (map as_child (kept (λ (q : Placed). q.parent == folder) others)) ≡ found → (p.parent ≡ folder → is_temp p.name ≡ false)
        → found_among found (map as_child (kept (λ (q : Placed). q.parent == folder) ((if some then p ∷ [] else []) ++ others))) ≡ found
    by p false others later own = later
    by p true others later own = named p others later own (p.parent == folder) refl

-- ---- the pairs behind the word's key

module _ (folder : ℕ) (key : List ℕ) (pairs : List Pair) (is_key : IsKeyOf folder (codes "temp") key) (rises : AscendByKey pairs) (start : ℕ) (above : IsAbove catalog_cmp key pairs start) where
  abbrev at : ℕ → Pair
  at k = slice_index_or pairs k ([], [])

  -- the order of a pair and the key, in plain words
  order_is : (k : ℕ) → catalog_cmp (at k).0 key ≡ ordering_then (nat_cmp (catalog_parent (at k).0) folder) (slice_cmp nat_cmp (catalog_units (at k).0) (codes "temp"))
  order_is k = λ i. ordering_then (nat_cmp (catalog_parent (at k).0) (is_key.parent_is i)) (slice_cmp nat_cmp (catalog_units (at k).0) (is_key.name_is i))

  none_before : (k : ℕ) → k < start → (placed_of (at k)).parent ≡ folder → is_temp (placed_of (at k)).name ≡ false
  unfolding placed_of
  none_before k low here =
      not_temp (catalog_units (at k).0)
      (λ greater. above.before k low (order_is k ∙ ap (λ o. ordering_then o (slice_cmp nat_cmp (catalog_units (at k).0) (codes "temp"))) (sym (nat_cmp_is (catalog_parent (at k).0) folder Equal here)) ∙ greater))

  -- what is behind the word's key in the folder has a name
  named_behind : (k : ℕ) → start ≤ k → k < length pairs → (placed_of (at k)).parent ≡ folder → is_empty (placed_of (at k)).name ≡ false
  unfolding placed_of
  named_behind k low fits here = by (catalog_units (at k).0) (sym (ap (λ o. ordering_then o (slice_cmp nat_cmp (catalog_units (at k).0) (codes "temp"))) (sym (nat_cmp_is (catalog_parent (at k).0) folder Equal here))) ∙ sym (order_is k) ∙ above.behind k low fits)
    where
      by : (name : List ℕ) → slice_cmp nat_cmp name (codes "temp") ≡ Greater → is_empty name ≡ false
      by [] greater = absurd (less_or_greater greater)
      by (unit ∷ units) greater = refl

  -- from a pair of another folder on there is none of this one
  none_behind : (place : ℕ) → start ≤ place → place < length pairs → ((placed_of (at place)).parent == folder) ≡ false → (k : ℕ) → place ≤ k → k < length pairs → (placed_of (at k)).parent ≡ folder → ⊥
  unfolding placed_of
  none_behind place from inside other k low fits here = omega (arith, behind, at_least, here)
    where
      behind : folder < catalog_parent (at place).0
      behind = above_is_behind (catalog_parent (at place).0) folder (slice_cmp nat_cmp (catalog_units (at place).0) (codes "temp")) (λ same. true≢false (sym (eq-eqb (catalog_parent (at place).0) folder same) ∙ other)) (sym (order_is place) ∙ above.behind place from inside)

      at_least : catalog_parent (at place).0 ≤ catalog_parent (at k).0
      at_least = elim (cases_lt place k) [
        | inl after ↦ before_is_most (catalog_parent (at place).0) (catalog_parent (at k).0) (slice_cmp nat_cmp (catalog_units (at place).0) (catalog_units (at k).0)) (rises place k after fits)
        | inr most ↦ omega (arith, ap (λ n. catalog_parent (at n).0) {x = place} {y = k} (omega (arith, low, most)))
      ]

  abbrev found_to : ℕ → Option ℕ
  found_to n = found_among None (children_in folder (take n pairs))

  -- before the walk's place none waits
  pub none_passed : found_to start ≡ None
  none_passed = found_none folder None (take start pairs) (λ k inside.
      let low : k < start = omega (arith, inside, length-take start pairs) in
      subst (λ (pair : Pair). (placed_of pair).parent ≡ folder → is_temp (placed_of pair).name ≡ false) (sym (get_or-take start pairs k ([], []) low)) (none_before k low))

  -- the next pair is an entry of the folder
  pub one_more : (place : ℕ) → start ≤ place → place < length pairs → ((placed_of (at place)).parent == folder) ≡ true → found_to (place + 1) ≡ found_next (found_to place) (as_child (placed_of (at place)))
  one_more place from inside here =
      ap (λ (l : List Pair). found_among None (children_in folder l)) (take_more pairs place ([], []) inside)
      ∙ ap (found_among None) (children_append folder (take place pairs) (at place ∷ []))
      ∙ found_append None (children_in folder (take place pairs)) (children_in folder (at place ∷ []))
      ∙ ap (found_among (found_to place)) (one_child folder (at place) here (named_behind place from inside (eqb-true (placed_of (at place)).parent folder here)))

  -- a pair of another folder: from there on no pair is an entry of this one
  pub all_passed : (place : ℕ) → start ≤ place → place < length pairs → ((placed_of (at place)).parent == folder) ≡ false → found_to place ≡ found_among None (children_in folder pairs)
  all_passed place from inside other =
      sym (ap (λ (l : List Pair). found_among None (children_in folder l)) (sym (take-append-drop place pairs))
      ∙ ap (found_among None) (children_append folder (take place pairs) (drop place pairs))
      ∙ found_append None (children_in folder (take place pairs)) (children_in folder (drop place pairs))
      ∙ found_none folder (found_to place) (drop place pairs) (λ k low here.
      absurd (none_behind place from inside other (place + k) (omega arith) (omega (arith, low, length-drop place pairs, inside)) (ap (λ (pair : Pair). (placed_of pair).parent) (sym (get_or-drop place pairs k ([], []))) ∙ here))))

-- ---- the walk

-- What a walk knows that has found this among what it passed: it stands behind so many pairs above the key of the word.
pub record Searches (folder : ℕ) (whole store : Store) (desk : Desk) (at passed : ℕ) (found : Option ℕ) : Type 0 where
  pub key : List ℕ
  pub is_key : IsKeyOf folder (codes "temp") key
  pub same : pairs_of store ≡ pairs_of whole
  pub tree : IsTree IsCatalogKey catalog_cmp store
  pub start : ℕ
  pub above : IsAbove catalog_cmp key (pairs_of whole) start
  pub stands : StandsAt store desk at (start + passed)
  pub got : found ≡ found_among None (children_in folder (take (start + passed) (pairs_of whole)))

pub begins : (folder : ℕ) (key : List ℕ) (whole store : Store) (desk : Desk) (at : ℕ) → IsKeyOf folder (codes "temp") key → pairs_of store ≡ pairs_of whole → IsTree IsCatalogKey catalog_cmp store
    → Seeks catalog_cmp key store desk (Some at) → Searches folder whole store desk at 0 None
begins folder key whole store desk at is_key same tree seeks = record {
  key = key;
  is_key = is_key;
  same = same;
  tree = tree;
  start = start;
  above = above;
  stands = subst (λ n. StandsAt store desk at n) none_more seeks.1;
  got = sym (ap (λ n. found_among None (children_in folder (take n (pairs_of whole)))) (sym none_more) ∙ none_passed folder key (pairs_of whole) is_key rises start above);
}
  where
    start : ℕ
    start = seeks.0

    none_more : start ≡ start + 0
    none_more = omega arith

    rises : AscendByKey (pairs_of whole)
    rises = subst AscendByKey same (tree_ascends store tree)

    above : IsAbove catalog_cmp key (pairs_of whole) start
    above = subst (λ l. IsAbove catalog_cmp key l start) same seeks.2

-- no pair, no entry
pub found_in_none : (folder : ℕ) (pairs : List Pair) → length pairs ≡ 0 → None ≡ found_among None (children_in folder pairs)
found_in_none folder [] none = refl
found_in_none folder (pair ∷ rest) none = absurd (omega (arith, none))

abbrev child_or : Child → Option Child → Child
child_or child None = child
child_or child (Some other) = other

if_some : (b : Bool) (x child : Child) → (if b then Some x else None) ≡ Some child → (b ≡ true) × (x ≡ child)
if_some true x child is = (refl, ap (child_or x) is)
if_some false x child is = absurd (none_or_some child is)

if_none : (b : Bool) (x : Child) → (if b then Some x else None) ≡ None → b ≡ false
if_none true x is = absurd (none_or_some x (sym is))
if_none false x is = refl

module _ (folder : ℕ) (whole store : Store) (desk : Desk) (at passed : ℕ) (found : Option ℕ) (searches : Searches folder whole store desk at passed found) where
  abbrev pairs : List Pair
  pairs = pairs_of whole

  rises : AscendByKey pairs
  rises = subst AscendByKey searches.same (tree_ascends store searches.tree)

  abbrev place : ℕ
  place = searches.start + passed

  -- all pairs are passed
  pub found_all : length pairs ≤ place → found ≡ found_among None (children_in folder pairs)
  found_all past = searches.got ∙ ap (λ (l : List Pair). found_among None (children_in folder l)) (take_all place pairs past)

  pub ends : (next : Store) (to : Desk) → pairs_of next ≡ pairs_of store → StepsOn next to place None → found ≡ found_among None (children_in folder pairs)
  ends next to kept steps = found_all (omega (arith, steps, ap (λ (l : List Pair). length l) (kept ∙ searches.same)))

  module _ (next : Store) (to : Desk) (on : ℕ) (kept : pairs_of next ≡ pairs_of store) (tree : IsTree IsCatalogKey catalog_cmp next) (steps : StepsOn next to place (Some on)) where
    now_same : pairs_of next ≡ pairs
    now_same = kept ∙ searches.same

    abbrev pair : Pair
    pair = slice_index_or pairs place ([], [])

    inside : place < length pairs
    inside = subst (λ (l : List Pair). place < length l) now_same steps.0.inside

    held_key : to.held.key ≡ pair.0
    held_key = steps.0.key ∙ ap (λ (l : List Pair). (slice_index_or l place ([], [])).0) now_same

    held_value : to.held.value ≡ pair.1
    held_value = steps.0.value ∙ ap (λ (l : List Pair). (slice_index_or l place ([], [])).1) now_same

    -- the pair that the desk holds has a key of the catalog, and spells a record
    pub held_is_key : IsCatalogKey to.held.key
    held_is_key =
        let some : 0 < next.shape.depth = steps.1.some in
        let many = pairs_long IsCatalogKey catalog_cmp catalog_total (λ _ key. key.size) next tree.levels tree.ordered some in
        let within : place < length (tree_entries next (next.shape.depth - 1)) = omega (arith, many, steps.0.inside) in
        let is = pair_at IsCatalogKey catalog_cmp catalog_total (λ _ key. key.size) next tree.levels tree.ordered some place within in
        subst IsCatalogKey (sym (steps.0.key ∙ ap (λ (p : Pair). p.0) is)) (tree.levels.keys (next.shape.depth - 1) place (omega (arith, some)) within)

    pub held_is_spelled : AreSpelled pairs → IsTrue (is_catalog to.held.value)
    held_is_spelled spelled = subst (λ v. IsTrue (is_catalog v)) (sym held_value) (spelled place ([], []) inside)

    own_parent : (catalog_parent to.held.key == folder) ≡ ((placed_of pair).parent == folder)
    unfolding placed_of
    own_parent = ap (λ k. catalog_parent k == folder) held_key

    own_child : as_child (placed_of pair) ≡ record { name = catalog_units to.held.key; rec = catalog_of to.held.value }
    unfolding placed_of
    own_child = λ i. record { name = catalog_units (sym held_key i); rec = catalog_of (sym held_value i) }

    pub stops : child_under folder to.held.key to.held.value ≡ None → found ≡ found_among None (children_in folder pairs)
    stops none =
        searches.got ∙ all_passed folder searches.key pairs searches.is_key rises searches.start searches.above place (omega arith) inside
        (sym own_parent ∙ if_none (catalog_parent to.held.key == folder) (record { name = catalog_units to.held.key; rec = catalog_of to.held.value }) none)

    pub goes_on : (child : Child) → child_under folder to.held.key to.held.value ≡ Some child → Searches folder whole next to on (passed + 1) (found_next found child)
    goes_on child is =
        let it = if_some (catalog_parent to.held.key == folder) (record { name = catalog_units to.held.key; rec = catalog_of to.held.value }) child is in
        let on_is : place + 1 ≡ searches.start + (passed + 1) = omega arith in
        record {
          key = searches.key;
          is_key = searches.is_key;
          same = now_same;
          tree = tree;
          start = searches.start;
          above = searches.above;
          stands = subst (λ n. StandsAt next to on n) on_is steps.1;
          got = (λ i. found_next (searches.got i) (sym (own_child ∙ it.1) i))
              ∙ sym (one_more folder searches.key pairs searches.is_key rises searches.start searches.above place (omega arith) inside (sym own_parent ∙ it.0))
              ∙ ap (λ n. found_among None (children_in folder (take n pairs))) on_is;
        }
