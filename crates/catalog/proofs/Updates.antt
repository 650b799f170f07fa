-- An entry with another record in its place.
use Rattle.std.proofs.Common.{◌≡◌, ℕ, ◌<◌, List, [], length, ◌∙◌, ap}
use Rattle.std.specs.Prelude.{slice_index_or, Some}
use Rattle.std.specs.Option.{option_map}
use Rattle.std.specs.declared.cmp.Ordering.TheVariants.{Equal}
use Rattle.btree_node.specs.Keys.{IsCatalogKey, catalog_cmp}
use Rattle.btree_node.specs.Levels.{Pair}
use Rattle.btree_node.specs.Store.{Store}
use Rattle.btree_node.specs.Tree.{IsTree, pairs_of}
use Rattle.btree_edit.specs.Answers.{AnswersRemove}
use Rattle.btree_edit.specs.Sorted.{ReplacesPair}
use Rattle.btree_edit.specs.declared.edits.Removed.{Removed}
use Rattle.btree_edit.specs.declared.edits.Removed.TheVariants as removed
use Rattle.cat_records.specs.Records.{catalog_of}
use Rattle.cat_records.specs.declared.record.CatRecord.{CatRecord}
use Rattle.hfs_volume.specs.Changes.{Spells}
use Rattle.hfs_volume.specs.Entries.{AreSpelled}
use Rattle.hfs_volume.specs.Records.{Placed, placed_of, placed_in, record_at}
use Rattle.catalog.specs.Pairs.{IsKeyOf}
use Rattle.catalog.specs.Entries.{AnswersRemoval, Updating}
use Rattle.catalog.proofs.Places.{no_record_no_key, no_key_no_record, tree_ascends, tied_is_found}
use Rattle.catalog.proofs.Standing.{record_at-key, tied_stands, changed_swaps}

pub removal_answer : (parent : ℕ) (name key : List ℕ) (store : Store) (answer : Removed) → IsKeyOf parent name key → AnswersRemove catalog_cmp key store answer
    → AnswersRemoval (record_at (placed_in (pairs_of store)) parent name) answer
removal_answer parent name key store removed.Absent is answers = no_key_no_record parent name key (pairs_of store) is answers
removal_answer parent name key store removed.Done is answers = λ none. no_record_no_key parent name key (pairs_of store) is none answers

-- the record with the tied key, whatever it is
pub tied_found : (parent : ℕ) (name key : List ℕ) (store : Store) (place : ℕ) → IsTree IsCatalogKey catalog_cmp store → IsKeyOf parent name key → place < length (pairs_of store)
    → catalog_cmp (slice_index_or (pairs_of store) place ([], [])).0 key ≡ Equal → record_at (placed_in (pairs_of store)) parent name ≡ Some (placed_of (slice_index_or (pairs_of store) place ([], [])))
tied_found parent name key store place tree is inside ties =
    record_at-key parent name key (pairs_of store) is ∙ ap (λ o. option_map placed_of o) (tied_is_found key (pairs_of store) place (tree_ascends store tree) inside ties)

value_is : (placed : Placed) (key value : List ℕ) → placed_of (key, value) ≡ placed → catalog_of value ≡ placed.value
unfolding placed_of
value_is placed key value stands = ap (λ (other : Placed). other.value) stands

pub own_key : (pair : Pair) (value : List ℕ) (rec : CatRecord) → catalog_of value ≡ rec → placed_of (pair.0, value) ≡ record (placed_of pair) { value = rec }
unfolding placed_of
own_key pair value rec is = ap (λ v. record (placed_of pair) { value = v }) is

pub updating_of : (parent : ℕ) (name key value : List ℕ) (rec : CatRecord) (store : Store) (new : List Pair) (answer : Removed) → IsTree IsCatalogKey catalog_cmp store → AreSpelled (pairs_of store)
    → IsKeyOf parent name key → Spells (record { parent = parent; name = name; value = rec }) (key, value) → ReplacesPair catalog_cmp key value (pairs_of store) new answer
    → Updating parent name rec (pairs_of store) new answer
updating_of parent name key value rec store new removed.Absent tree spelled is spells replaces = replaces
updating_of parent name key value rec store new removed.Done tree spelled is spells replaces =
    let pair = slice_index_or (pairs_of store) replaces.place ([], []) in
    let found = tied_found parent name key store replaces.place tree is replaces.inside replaces.equal in
    record {
      entry = placed_of pair;
      found = found;
      pair = pair;
      is_entry = tied_stands parent name key (pairs_of store) (placed_of pair) replaces.place (tree_ascends store tree) spelled is found replaces.inside replaces.equal;
      other = (pair.0, value);
      is_other = record { stands = own_key pair value rec (value_is (record { parent = parent; name = name; value = rec }) key value spells.stands); spelled = spells.spelled };
      swapped = changed_swaps key value (pairs_of store) new replaces;
    }
