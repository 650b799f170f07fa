-- The pair that a key ties with is that of the record at its place.
use Rattle.std.proofs.Common.{◌≡◌, inl, inr, ℕ, suc, ◌+◌, ◌-◌, ◌<◌, List, [], ◌∷◌, ◌++◌, length, take, drop, set, refl, sym, ◌∙◌, ap, arith}
use Rattle.std.specs.Prelude.{slice_index_or, Option, None, Some}
use Rattle.std.specs.List.{remove, find}
use Rattle.std.specs.Option.{option_map}
use Rattle.std.specs.declared.cmp.Ordering.TheVariants.{Equal}
use Rattle.std.proofs.lemmas.List.{take-append-drop, set_at, length-take, length-append}
use Rattle.std.proofs.Math.Seq.{drop-cons, take-append_seam, drop-append_seam}
use Rattle.std.proofs.lemmas.Option.{slice_get-get_or}
use Rattle.std.proofs.lemmas.Bool.{cases_lt}
use Rattle.std.proofs.lemmas.List.Edits.{length-remove, get_or-remove_below, get_or-remove_above}
use Rattle.btree_node.specs.KeyLaws.{catalog_total}
use Rattle.btree_node.specs.Keys.{catalog_cmp, catalog_parent}
use Rattle.btree_node.specs.Levels.{Pair}
use Rattle.btree_edit.specs.Desk.{HasKey}
use Rattle.btree_edit.specs.Answers.{AnswersRemove}
use Rattle.btree_edit.specs.Sorted.{DropsPair, ChangesPair, RemovesPair}
use Rattle.btree_edit.specs.declared.edits.Removed.{Removed}
use Rattle.btree_edit.specs.declared.edits.Removed.TheVariants as removed
use Rattle.btree_node.specs.Store.{Store}
use Rattle.btree_node.specs.Tree.{pairs_of}
use Rattle.hfs_volume.specs.Changes.{Adds, Swaps, Spells}
use Rattle.hfs_volume.specs.Entries.{AreSpelled}
use Rattle.hfs_volume.specs.Records.{Placed, placed_of, placed_in, record_at}
use Rattle.catalog.specs.Pairs.{IsKeyOf}
use Rattle.catalog.proofs.Places.{AscendByKey, is_under, record_at-map, tied_is_found}

abbrev value_or : {X : Type 0} → X → Option X → X
value_or x None = x
value_or x (Some y) = y

-- the search by a place is that by its key
pub record_at-key : (parent : ℕ) (name key : List ℕ) (pairs : List Pair) → IsKeyOf parent name key → record_at (placed_in pairs) parent name ≡ option_map placed_of (find (is_under key) pairs)
record_at-key parent name key pairs is =
    ap (λ n. record_at (placed_in pairs) n name) (sym is.parent_is) ∙ ap (λ l. record_at (placed_in pairs) (catalog_parent key) l) (sym is.name_is) ∙ record_at-map key pairs

pub tied_stands : (parent : ℕ) (name key : List ℕ) (pairs : List Pair) (entry : Placed) (place : ℕ) → AscendByKey pairs → AreSpelled pairs → IsKeyOf parent name key
    → record_at (placed_in pairs) parent name ≡ Some entry → place < length pairs → catalog_cmp (slice_index_or pairs place ([], [])).0 key ≡ Equal → Spells entry (slice_index_or pairs place ([], []))
tied_stands parent name key pairs entry place rises spelled is found inside ties =
    let pair = slice_index_or pairs place ([], []) in
    record {
      stands = ap (value_or entry) (sym (record_at-key parent name key pairs is ∙ ap (λ o. option_map placed_of o) (tied_is_found key pairs place rises inside ties)) ∙ found);
      spelled = spelled place ([], []) inside;
    }

plus_one : (n : ℕ) → n + 1 ≡ suc n
plus_one n = omega arith

-- a list put back together at a place
at_place : (pairs : List Pair) (place : ℕ) → place < length pairs → pairs ≡ take place pairs ++ slice_index_or pairs place ([], []) ∷ drop (suc place) pairs
at_place pairs place inside = sym (take-append-drop place pairs) ∙ ap (λ l. take place pairs ++ l) (drop-cons pairs place ([], []) inside)

-- a pair dropped and put back
pub dropped_back : (key : List ℕ) (old new : List Pair) (drops : DropsPair catalog_cmp key old new) → Adds (slice_index_or old drops.place ([], [])) new old
dropped_back key old new drops = record {
  place = drops.place;
  within = omega (arith, ap (λ (l : List Pair). length l) is, length-append front back, front_long);
  is = at_place old drops.place drops.inside ∙ sym (ap (λ l. l ++ pair ∷ drop drops.place new) taken ∙ ap (λ l. front ++ pair ∷ l) left);
}
  where
    pair : Pair
    pair = slice_index_or old drops.place ([], [])

    front : List Pair
    front = take drops.place old

    back : List Pair
    back = drop (suc drops.place) old

    is : new ≡ front ++ back
    is = drops.is ∙ ap (λ n. front ++ drop n old) (plus_one drops.place)

    front_long : length front ≡ drops.place
    front_long = omega (arith, length-take drops.place old, drops.inside)

    taken : take drops.place new ≡ front
    taken = ap (λ l. take drops.place l) is ∙ ap (λ n. take n (front ++ back)) (sym front_long) ∙ take-append_seam front back

    left : drop drops.place new ≡ back
    left = ap (λ l. drop drops.place l) is ∙ ap (λ n. drop n (front ++ back)) (sym front_long) ∙ drop-append_seam front back

pub changed_swaps : (key value : List ℕ) (old new : List Pair) (changes : ChangesPair catalog_cmp key value old new)
    → Swaps (slice_index_or old changes.place ([], [])) ((slice_index_or old changes.place ([], [])).0, value) old new
changed_swaps key value old new changes = record {
  place = changes.place;
  at = slice_get-get_or old changes.place ([], []) changes.inside;
  is = changes.is ∙ ap (λ n. take changes.place old ++ other ∷ drop n old) (plus_one changes.place)
      ∙ sym (ap (λ l. set l changes.place other) (at_place old changes.place changes.inside) ∙ set_at (take changes.place old) (slice_index_or old changes.place ([], [])) (drop (suc changes.place) old) other changes.place front_long);
}
  where
    other : Pair
    other = ((slice_index_or old changes.place ([], [])).0, value)

    front_long : length (take changes.place old) ≡ changes.place
    front_long = omega (arith, length-take changes.place old, changes.inside)

-- the same as one equation
pub changed_is : (key value : List ℕ) (old new : List Pair) (changes : ChangesPair catalog_cmp key value old new) → new ≡ set old changes.place ((slice_index_or old changes.place ([], [])).0, value)
unfolding changed_swaps
changed_is key value old new changes = (changed_swaps key value old new changes).is

-- the pair is put back at its place
pub dropped_place : (key : List ℕ) (old new : List Pair) (drops : DropsPair catalog_cmp key old new) → (dropped_back key old new drops).place ≡ drops.place
unfolding dropped_back
dropped_place key old new drops = refl

-- a key that tied with another pair than the one dropped still does
pub still_there : (key other : List ℕ) (old new : List Pair) → DropsPair catalog_cmp key old new → (catalog_cmp key other ≡ Equal → ⊥) → HasKey catalog_cmp other old → HasKey catalog_cmp other new
still_there key other old new drops apart (k, inside, ties) = elim (cases_lt k drops.place) [
  | inl below ↦ (k, omega (arith, below, drops.inside, long), ap (λ (pair : Pair). catalog_cmp pair.0 other) (ap (λ l. slice_index_or l k ([], [])) is ∙ get_or-remove_below old drops.place ([], []) k below drops.inside) ∙ ties)
  | inr from ↦ elim (cases_lt drops.place k) [
    | inl above ↦
        let back : k - 1 + 1 ≡ k = omega (arith, above) in (
          k - 1,
          omega (arith, above, long, inside),
          ap (λ (pair : Pair). catalog_cmp pair.0 other) (ap (λ l. slice_index_or l (k - 1) ([], [])) is ∙ get_or-remove_above old drops.place ([], []) (k - 1) (omega (arith, above)) drops.inside ∙ ap (λ n. slice_index_or old n ([], [])) back) ∙ ties,
        )
    | inr most ↦
        let same : k ≡ drops.place = omega (arith, from, most) in
        let tied : catalog_cmp (slice_index_or old k ([], [])).0 key ≡ Equal = ap (λ n. catalog_cmp (slice_index_or old n ([], [])).0 key) same ∙ drops.equal in
        absurd (apart (sym (catalog_total.congr (slice_index_or old k ([], [])).0 key other tied) ∙ ties))
  ]
]
  where
    is : new ≡ remove old drops.place
    is = drops.is ∙ ap (λ n. take drops.place old ++ drop n old) (plus_one drops.place)

    long : length new + 1 ≡ length old
    long = ap (λ (l : List Pair). length l + 1) is ∙ length-remove old drops.place drops.inside

-- a removal of a key that is there is done
pub removal_is_done : (key : List ℕ) (store : Store) (new : List Pair) (answer : Removed) → HasKey catalog_cmp key (pairs_of store) → AnswersRemove catalog_cmp key store answer
    → RemovesPair catalog_cmp key (pairs_of store) new answer → DropsPair catalog_cmp key (pairs_of store) new
removal_is_done key store new removed.Absent has answers drops = absurd (answers has)
removal_is_done key store new removed.Done has answers drops = drops
