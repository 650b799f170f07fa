-- Single edits of the extents tree, by their answers.
use Rattle.std.proofs.Common.{◌≡◌, ℕ, true, false, List, [], length, sym, ◌∙◌, ap, arith}
use Rattle.std.specs.Prelude.{IsTrue}
use Rattle.std.proofs.lemmas.Bool.{both_ways}
use Rattle.btree_node.specs.Keys.{IsExtentKey, extent_cmp, is_eight_extents}
use Rattle.btree_node.specs.Levels.{Pair}
use Rattle.btree_node.specs.Store.{Store}
use Rattle.btree_node.specs.Tree.{IsTree, HasValues, pairs_of}
use Rattle.btree_edit.specs.Answers.{AnswersInsert, AnswersRemove}
use Rattle.btree_edit.specs.Editing.{CostsAtMost, edit_writes}
use Rattle.btree_edit.specs.Sorted.{InsertsPair, RemovesPair, ReplacesPair}
use Rattle.btree_edit.specs.Swapping.{HasValueOf}
use Rattle.btree_edit.specs.declared.edits.Inserted.{Inserted}
use Rattle.btree_edit.specs.declared.edits.Inserted.TheVariants as inserted
use Rattle.btree_edit.specs.declared.edits.Removed.{Removed}
use Rattle.btree_edit.specs.declared.edits.Removed.TheVariants as removed
use Rattle.btree_edit.proofs.Doing.{does_read, does_both}
use Rattle.btree_edit.proofs.Repeated.{reads_none}
use Rattle.hfs_model.specs.Sorted.{kept}
use Rattle.overflow.specs.Changes.{put_record}
use Rattle.overflow.specs.Keys.{IsKeyOf}
use Rattle.overflow.specs.Making.{has_start}
use Rattle.overflow.specs.Records.{under}
use Rattle.overflow.specs.declared.record.OverflowRecord.{OverflowRecord}
use Rattle.overflow.proofs.Lists.{other_start, no_start_stay}
use Rattle.overflow.proofs.Pairs.{of_fork_in, of_others_in, tree_ascends, dropped, dropped_others, added, added_others, replaced, replaced_others, start_has_key, no_key_no_start, key_has_start, ReadsBack}

module _ (id kind start : ℕ) (key : List ℕ) (is : IsKeyOf id kind start key) (store : Store) (tree : IsTree IsExtentKey extent_cmp store) (new : List Pair) where
  pub removed_records : (answer : Removed) → AnswersRemove extent_cmp key store answer → RemovesPair extent_cmp key (pairs_of store) new answer → of_fork_in id kind new ≡ kept (other_start start) (of_fork_in id kind (pairs_of store))
  removed_records removed.Absent answers drops =
      ap (of_fork_in id kind) drops ∙ sym (no_start_stay start (of_fork_in id kind (pairs_of store)) (no_key_no_start id kind start key is (pairs_of store) answers))
  removed_records removed.Done answers drops = dropped id kind start key is (pairs_of store) new (tree_ascends store tree) drops

  pub removed_others : (answer : Removed) → RemovesPair extent_cmp key (pairs_of store) new answer → of_others_in id kind new ≡ of_others_in id kind (pairs_of store)
  removed_others removed.Absent drops = ap (of_others_in id kind) drops
  removed_others removed.Done drops = dropped_others id kind start key is (pairs_of store) new drops

  module _ (one : OverflowRecord) (value : List ℕ) (back : ReadsBack id kind start key is one value) where
    pub inserted_records : (answer : Inserted) → has_start start (of_fork_in id kind (pairs_of store)) ≡ false → AnswersInsert extent_cmp key store answer → InsertsPair extent_cmp key value (pairs_of store) new answer
        → of_fork_in id kind new ≡ put_record (under id kind one) (of_fork_in id kind (pairs_of store))
    inserted_records inserted.Exists none answers inserts = absurd (both_ways (has_start start (of_fork_in id kind (pairs_of store))) none (key_has_start id kind start key is (pairs_of store) answers))
    inserted_records inserted.Done none answers inserts = added id kind start key is one value (pairs_of store) new back inserts

    pub replaced_records : (answer : Removed) → has_start start (of_fork_in id kind (pairs_of store)) ≡ true → AnswersRemove extent_cmp key store answer → ReplacesPair extent_cmp key value (pairs_of store) new answer
        → of_fork_in id kind new ≡ put_record (under id kind one) (of_fork_in id kind (pairs_of store))
    replaced_records removed.Absent some answers replaces = absurd (answers (start_has_key id kind start key is (pairs_of store) some))
    replaced_records removed.Done some answers replaces = replaced id kind start key is one value (pairs_of store) new back (tree_ascends store tree) replaces

  pub inserted_others : (value : List ℕ) (answer : Inserted) → InsertsPair extent_cmp key value (pairs_of store) new answer → of_others_in id kind new ≡ of_others_in id kind (pairs_of store)
  inserted_others value inserted.Exists inserts = ap (of_others_in id kind) inserts
  inserted_others value inserted.Done inserts = added_others id kind start key is value (pairs_of store) new inserts

  pub replaced_all_others : (value : List ℕ) (answer : Removed) → ReplacesPair extent_cmp key value (pairs_of store) new answer → of_others_in id kind new ≡ of_others_in id kind (pairs_of store)
  replaced_all_others value removed.Absent replaces = ap (of_others_in id kind) replaces
  replaced_all_others value removed.Done replaces = replaced_others id kind start key is value (pairs_of store) new replaces

  -- the record that begins there has eight extents, as every record
  pub has_value : (value : List ℕ) → length value ≡ 64 → IsTrue store.tells → HasValues is_eight_extents store → has_start start (of_fork_in id kind (pairs_of store)) ≡ true → HasValueOf extent_cmp key (length value) store
  has_value value long tells values some =
      let has = start_has_key id kind start key is (pairs_of store) some in
      record {
        tells = tells;
        place = has.0;
        inside = has.1;
        equal = has.2;
        long = values has.0 ([], []) has.1 ∙ sym long;
      }

-- one write is no more than an edit's
pub once_is_light : (depth : ℕ) (old new : Store) → CostsAtMost 1 0 old new → CostsAtMost (edit_writes depth) 0 old new
once_is_light depth old new costs = does_both 1 0 0 0 (edit_writes depth) 0 costs (does_read 0 (reads_none new) (omega arith)) (omega arith) (omega arith)
