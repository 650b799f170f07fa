-- What the calls do to entries.
use Rattle.std.specs.Prelude.{◌≡◌, ℕ, pos, List, Option, None, Some}
use Rattle.btree_node.specs.Levels.{Pair}
use Rattle.btree_edit.specs.declared.edits.Inserted.{Inserted}
use Rattle.btree_edit.specs.declared.edits.Inserted.TheVariants as inserted
use Rattle.btree_edit.specs.declared.edits.Removed.{Removed}
use Rattle.btree_edit.specs.declared.edits.Removed.TheVariants as removed
use Rattle.catalog.specs.declared.moving.Moved.{Moved}
use Rattle.catalog.specs.declared.moving.Moved.TheVariants as moved
use Rattle.cat_records.specs.declared.record.CatRecord.{CatRecord}
use Rattle.hfs_volume.specs.Records.{Placed, placed_in, record_at, id_in, is_file, is_folder}
use Rattle.hfs_volume.specs.Changes.{Swaps, Spells, AddsWith, DropsEntry, MovesEntry}

-- Exists exactly where there is a record at the place
abbrev pub AnswersAdd : Option Placed → Inserted → Type 0
AnswersAdd found inserted.Exists = found ≡ None → ⊥
AnswersAdd found inserted.Done = found ≡ None

-- What adding an entry does to the pairs, by its answer. The thread's reserved word is 0.
abbrev pub Adding : Placed → List Pair → List Pair → Inserted → Type 0
Adding entry old new inserted.Exists = new ≡ old
Adding entry old new inserted.Done = AddsWith (pos 0) entry old new

-- Absent exactly where there is no record at the place
abbrev pub AnswersRemoval : Option Placed → Removed → Type 0
AnswersRemoval found removed.Absent = found ≡ None
AnswersRemoval found removed.Done = found ≡ None → ⊥

-- The entry that stood there was removed with its thread.
pub record RemovesEntry (parent : ℕ) (name : List ℕ) (old new : List Pair) : Type 0 where
  pub entry : Placed
  pub found : record_at (placed_in old) parent name ≡ Some entry
  pub drops : DropsEntry entry old new

-- what a removal does to the pairs, by its answer
abbrev pub Removing : ℕ → List ℕ → List Pair → List Pair → Removed → Type 0
Removing parent name old new removed.Absent = new ≡ old
Removing parent name old new removed.Done = RemovesEntry parent name old new

-- The entry that stood there has another value, under the key that it had.
pub record UpdatesEntry (parent : ℕ) (name : List ℕ) (value : CatRecord) (old new : List Pair) : Type 0 where
  pub entry : Placed
  pub found : record_at (placed_in old) parent name ≡ Some entry
  pub pair : Pair
  pub is_entry : Spells entry pair
  pub other : Pair
  pub is_other : Spells (record entry { value = value }) other
  pub swapped : Swaps pair other old new

-- what an update does to the pairs, by its answer
abbrev pub Updating : ℕ → List ℕ → CatRecord → List Pair → List Pair → Removed → Type 0
Updating parent name value old new removed.Absent = new ≡ old
Updating parent name value old new removed.Done = UpdatesEntry parent name value old new

-- a record of the same type and CNID
pub record IsOfKind (rec value : CatRecord) : Type 0 where
  pub folder : is_folder rec ≡ is_folder value
  pub file : is_file rec ≡ is_file value
  pub id : id_in rec ≡ id_in value

-- Absent exactly where there is no record at the old place, Exists exactly where there is one, and one at the new place
abbrev pub AnswersMove : Option Placed → Option Placed → Moved → Type 0
AnswersMove from to moved.Absent = from ≡ None
AnswersMove from to moved.Exists = (from ≡ None → ⊥) × (to ≡ None → ⊥)
AnswersMove from to moved.Done = (from ≡ None → ⊥) × (to ≡ None)

-- The entry that stood at one place stands at another, with the record that it had, and its thread tells the new place; the thread's reserved word is as it was.
pub record RelocatesEntry (from : ℕ) (old_name : List ℕ) (to : ℕ) (name : List ℕ) (old new : List Pair) : Type 0 where
  pub entry : Placed
  pub found : record_at (placed_in old) from old_name ≡ Some entry
  pub moves : MovesEntry entry to name old new
  pub same_spare : moves.back.spare ≡ moves.out.spare

-- what a move does to the pairs, by its answer
abbrev pub Moving : ℕ → List ℕ → ℕ → List ℕ → List Pair → List Pair → Moved → Type 0
Moving from old_name to name old new moved.Absent = new ≡ old
Moving from old_name to name old new moved.Exists = new ≡ old
Moving from old_name to name old new moved.Done = RelocatesEntry from old_name to name old new
