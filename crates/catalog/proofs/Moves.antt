-- A pair given another value, one dropped and one added: what is there on the way, and what the answers say.
use Rattle.std.proofs.Common.{◌≡◌, ℕ, suc, ◌+◌, ◌-◌, ◌<◌, ◌≤◌, List, [], ◌∷◌, length, set, inl, inr, refl, sym, ◌∙◌, ap, subst, arith}
use Rattle.std.specs.Prelude.{slice_index_or, Option, None, Some}
use Rattle.std.specs.Option.{option_map}
use Rattle.std.specs.declared.cmp.Ordering.TheVariants.{Equal}
use Rattle.std.proofs.lemmas.Bool.{cases_lt, cases_eq}
use Rattle.std.proofs.lemmas.List.{length-set, get_or-set_same, get_or-set_other}
use Rattle.std.proofs.lemmas.List.Edits.{length-insert, get_or-insert_below, get_or-insert_above}
use Rattle.btree_node.specs.Keys.{catalog_cmp}
use Rattle.btree_node.specs.Levels.{Pair}
use Rattle.btree_node.specs.Store.{Store}
use Rattle.btree_node.specs.Tree.{pairs_of}
use Rattle.btree_edit.specs.Answers.{AnswersRemove}
use Rattle.btree_edit.specs.Desk.{HasKey}
use Rattle.btree_edit.specs.Sorted.{ChangesPair, DropsPair, ReplacesPair}
use Rattle.btree_edit.specs.declared.edits.Removed.{Removed}
use Rattle.btree_edit.specs.declared.edits.Removed.TheVariants as removed
use Rattle.hfs_volume.specs.Changes.{Adds}
use Rattle.hfs_volume.specs.Records.{Placed}
use Rattle.catalog.proofs.Standing.{changed_is, dropped_back}

-- a replacement of a key that is there is done
pub replacement_is_done : (key value : List ℕ) (store : Store) (new : List Pair) (answer : Removed) → HasKey catalog_cmp key (pairs_of store) → AnswersRemove catalog_cmp key store answer
    → ReplacesPair catalog_cmp key value (pairs_of store) new answer → ChangesPair catalog_cmp key value (pairs_of store) new
replacement_is_done key value store new removed.Absent has answers replaces = absurd (answers has)
replacement_is_done key value store new removed.Done has answers replaces = replaces

module _ (key value : List ℕ) (old new : List Pair) (changes : ChangesPair catalog_cmp key value old new) where
  is : new ≡ set old changes.place ((slice_index_or old changes.place ([], [])).0, value)
  is = changed_is key value old new changes

  long : length new ≡ length old
  long = ap (λ (l : List Pair). length l) is ∙ length-set old changes.place ((slice_index_or old changes.place ([], [])).0, value)

  -- each pair has the key that it had
  same_key : (k : ℕ) → (slice_index_or new k ([], [])).0 ≡ (slice_index_or old k ([], [])).0
  same_key k = ap (λ (l : List Pair). (slice_index_or l k ([], [])).0) is ∙ elim (cases_eq changes.place k) [
    | inl same ↦
        ap (λ n. (slice_index_or (set old changes.place ((slice_index_or old changes.place ([], [])).0, value)) n ([], [])).0) (sym same)
        ∙ ap (λ (pair : Pair). pair.0) (get_or-set_same old changes.place ((slice_index_or old changes.place ([], [])).0, value) ([], []) changes.inside)
        ∙ ap (λ n. (slice_index_or old n ([], [])).0) same
    | inr other ↦ ap (λ (pair : Pair). pair.0) (get_or-set_other old changes.place k ((slice_index_or old changes.place ([], [])).0, value) ([], []) (λ e. other (sym e)))
  ]

  pub key_still : (other : List ℕ) → HasKey catalog_cmp other old → HasKey catalog_cmp other new
  key_still other (k, inside, ties) = (k, omega (arith, inside, long), ap (λ l. catalog_cmp l other) (same_key k) ∙ ties)

  pub key_before : (other : List ℕ) → HasKey catalog_cmp other new → HasKey catalog_cmp other old
  key_before other (k, inside, ties) = (k, omega (arith, inside, long), ap (λ l. catalog_cmp l other) (sym (same_key k)) ∙ ties)

-- a key that is left was there
pub left_was_there : (key other : List ℕ) (old new : List Pair) → DropsPair catalog_cmp key old new → HasKey catalog_cmp other new → HasKey catalog_cmp other old
left_was_there key other old new drops (k, inside, ties) = elim (cases_lt k back.place) [
  | inl below ↦ (
    k,
    omega (arith, inside, long),
    ap (λ (pair : Pair). catalog_cmp pair.0 other) (ap (λ (l : List Pair). slice_index_or l k ([], [])) back.is ∙ get_or-insert_below new back.place pair ([], []) k below back.within) ∙ ties,
  )
  | inr from ↦ (
    k + 1,
    omega (arith, inside, long),
    ap (λ (pair : Pair). catalog_cmp pair.0 other) (ap (λ (l : List Pair). slice_index_or l (k + 1) ([], [])) back.is ∙ get_or-insert_above new back.place pair ([], []) k from back.within) ∙ ties,
  )
]
  where
    pair : Pair
    pair = slice_index_or old drops.place ([], [])

    back : Adds pair new old
    back = dropped_back key old new drops

    long : length old ≡ length new + 1
    long = ap (λ (l : List Pair). length l) back.is ∙ length-insert new back.place pair back.within

abbrev is_there : {X : Type 0} → Option X → Type 0
is_there None = ⊥
is_there (Some x) = Unit {0}

none_or_some : {X : Type 0} (a : X) → None ≡ Some a → ⊥
none_or_some a same = subst is_there (sym same) tt

-- a value that was found is that of a record that stands there
pub some_value_some_record : {X : Type 0} (found : Option Placed) (value : X) (f : Placed → X) → option_map f found ≡ Some value → found ≡ None → ⊥
some_value_some_record found value f is none = none_or_some value (sym (ap (option_map f) none) ∙ is)
