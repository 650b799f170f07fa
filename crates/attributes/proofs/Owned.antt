-- The records of one folder or file: they stand together behind the key of the empty name.
use Rattle.std.proofs.Common.{◌≡◌, inl, inr, ℕ, ◌<◌, ◌≤◌, Bool, true, false, List, [], ◌∷◌, length, refl, sym, ◌∙◌, ap, subst, arith}
use Rattle.std.specs.Prelude.{slice_index_or, T}
use Rattle.std.specs.Ordering.{nat_cmp, ordering_then}
use Rattle.std.specs.Cmp.Lexicographic.{slice_cmp}
use Rattle.std.specs.FinMap.{nat_cmp-IsAntisymmetric}
use Rattle.std.specs.declared.cmp.Ordering.TheVariants.{Less, Greater}
use Rattle.std.proofs.lemmas.Cmp.{nat_cmp_total}
use Rattle.std.proofs.lemmas.Bool.{cases_lt, eq-eqb, eqb-true}
use Rattle.btree_node.specs.Keys.{attr_cmp, attr_file, attr_units, attr_start}
use Rattle.btree_node.specs.Levels.{Pair}
use Rattle.btree_node.specs.Store.{Store}
use Rattle.btree_node.specs.Tree.{pairs_of}
use Rattle.btree_edit.specs.Desk.{HoldsPair, FindsNext, IsAbove}
use Rattle.btree_edit.specs.declared.desk.Desk.{Desk}
use Rattle.hfs_model.specs.Sorted.{kept}
use Rattle.hfs_volume.specs.Records.{attribute_of}
use Rattle.attributes.specs.Dropping.{IsFirstAt}
use Rattle.attributes.specs.Owned.{is_of}
use Rattle.attributes.specs.Values.{AreSpelled}
use Rattle.attributes.proofs.Lists.{false_so, none_kept}
use Rattle.attributes.proofs.Places.{AscendByKey, clash, cmp_same}

above_empty : (name : List ℕ) → 0 < length name → slice_cmp nat_cmp name [] ≡ Greater
above_empty [] some = absurd (omega (arith, some))
above_empty (unit ∷ units) some = refl

-- a record of a folder or file stands behind the key of the empty name
pub owned_above : (id : ℕ) (pair : Pair) (start : List ℕ) → attr_file start ≡ id → attr_units start ≡ [] → 0 < length (attribute_of pair).name → is_of id pair ≡ true → attr_cmp pair.0 start ≡ Greater
unfolding attribute_of
owned_above id pair start file units named is =
    let starts = nat_cmp (attr_start pair.0) (attr_start start) in
    let names = slice_cmp nat_cmp (attr_units pair.0) (attr_units start) in
    let files : attr_file pair.0 ≡ attr_file start = eqb-true (attr_file pair.0) id is ∙ sym file in
    ap (λ n. ordering_then (nat_cmp n (attr_file start)) (ordering_then names starts)) files
    ∙ ap (λ o. ordering_then o (ordering_then names starts)) (cmp_same nat_cmp_total (attr_file start))
    ∙ ap (λ l. ordering_then (slice_cmp nat_cmp (attr_units pair.0) l) starts) units
    ∙ ap (λ o. ordering_then o starts) (above_empty (attr_units pair.0) named)

-- a pair belongs to the folder or file that its key names
pub of_file : (id : ℕ) (pair : Pair) → attr_file pair.0 ≡ id → is_of id pair ≡ true
unfolding attribute_of
of_file id pair file = eq-eqb (attr_file pair.0) id file

pub file_of : (id : ℕ) (pair : Pair) → is_of id pair ≡ true → attr_file pair.0 ≡ id
unfolding attribute_of
file_of id pair is = eqb-true (attr_file pair.0) id is

module _ (id : ℕ) (start : List ℕ) (pairs : List Pair) (rises : AscendByKey pairs) (spelled : AreSpelled pairs) (file : attr_file start ≡ id) (units : attr_units start ≡ []) where
  abbrev at : ℕ → Pair
  at k = slice_index_or pairs k ([], [])

  -- none stands before the least pair above the key of the empty name
  pub none_owned_below : (place : ℕ) → IsAbove attr_cmp start pairs place → (i : ℕ) → i < place → i < length pairs → is_of id (at i) ≡ false
  none_owned_below place above i low fits = false_so (is_of id (at i)) (λ is. above.before i low (owned_above id (at i) start file units (spelled i ([], []) fits).named is))

  -- from a pair above the key that is of another folder or file, none is of this one
  pub none_owned_behind : (k : ℕ) → k < length pairs → attr_cmp (at k).0 start ≡ Greater → is_of id (at k) ≡ false → (i : ℕ) → k ≤ i → i < length pairs → is_of id (at i) ≡ false
  none_owned_behind k inside above other i from fits = elim (cases_lt k i) [
    | inl behind ↦ false_so (is_of id (at i)) (λ is.
        let key = (at k).0 in
        let later = (at i).0 in
        let later_file : attr_file later ≡ id = file_of id (at i) is in
        let up : ordering_then (nat_cmp (attr_file key) id) (ordering_then (slice_cmp nat_cmp (attr_units key) (attr_units start)) (nat_cmp (attr_start key) (attr_start start))) ≡ Greater =
        ap (λ n. ordering_then (nat_cmp (attr_file key) n) (ordering_then (slice_cmp nat_cmp (attr_units key) (attr_units start)) (nat_cmp (attr_start key) (attr_start start)))) (sym file) ∙ above in
        let down : ordering_then (nat_cmp (attr_file key) id) (ordering_then (slice_cmp nat_cmp (attr_units key) (attr_units later)) (nat_cmp (attr_start key) (attr_start later))) ≡ Less =
        ap (λ n. ordering_then (nat_cmp (attr_file key) n) (ordering_then (slice_cmp nat_cmp (attr_units key) (attr_units later)) (nat_cmp (attr_start key) (attr_start later)))) (sym later_file) ∙ rises k i behind fits in
        let same = of_file id (at k) (nat_cmp-IsAntisymmetric (attr_file key) id (clash (nat_cmp (attr_file key) id) _ _ up down)) in
        absurd (not_so (sym same ∙ other)))
    | inr most ↦ ap (λ n. is_of id (at n)) (omega (arith, from, most)) ∙ other
  ]
    where
      not_so : true ≡ false → ⊥
      not_so same = cc

  -- what the search above the key of the empty name says
  pub none_owned : IsAbove attr_cmp start pairs (length pairs) → kept (is_of id) pairs ≡ []
  none_owned above = none_kept (is_of id) pairs ([], []) (λ k inside. none_owned_below (length pairs) above k inside inside)

  pub other_owned : (k : ℕ) → k < length pairs → IsAbove attr_cmp start pairs k → is_of id (at k) ≡ false → kept (is_of id) pairs ≡ []
  other_owned k inside above other = none_kept (is_of id) pairs ([], []) (λ i fits. elim (cases_lt i k) [
    | inl before ↦ none_owned_below k above i before fits
    | inr from ↦ none_owned_behind k inside (above.behind k (omega arith) inside) other i from fits
  ])

  pub first_owned : (k : ℕ) → k < length pairs → IsAbove attr_cmp start pairs k → is_of id (at k) ≡ true → IsFirstAt (is_of id) pairs k
  first_owned k inside above own = record { inside = inside; passes = own; before = λ i low. none_owned_below k above i low (omega (arith, low, inside)) }

-- ---- what a search above a key answers

pub none_next : (key : List ℕ) (store : Store) (desk : Desk) (found : Bool) → found ≡ false → FindsNext attr_cmp key store desk found → IsAbove attr_cmp key (pairs_of store) (length (pairs_of store))
none_next key store desk true is finds = absurd (subst T is tt)
none_next key store desk false is finds = finds.0

pub some_next : (key : List ℕ) (store : Store) (desk : Desk) (found : Bool) → found ≡ true → FindsNext attr_cmp key store desk found → (k : ℕ) × HoldsPair store desk k × IsAbove attr_cmp key (pairs_of store) k
some_next key store desk true is finds = finds
some_next key store desk false is finds = absurd (subst T (sym is) tt)
