-- What the calls do to the pairs of the catalog's tree.
use Rattle.std.specs.Prelude.{◌≡◌, ◌≤◌, ℕ, ℤ, pos, ◌+◌, ◌*◌, List, length, Option, None, Some, []}
use Rattle.std.specs.Option.{option_map}
use Rattle.btree_node.specs.Levels.{Pair}
use Rattle.btree_node.specs.Keys.{IsCatalogKey, catalog_cmp, catalog_parent, catalog_units}
use Rattle.btree_edit.specs.Sorted.{AddsPair, DropsPair, ChangesPair}
use Rattle.btree_edit.specs.declared.edits.Inserted.{Inserted}
use Rattle.btree_edit.specs.declared.edits.Inserted.TheVariants as inserted
use Rattle.cat_records.specs.declared.record.CatRecord.{CatRecord}
use Rattle.cat_records.specs.declared.record.CatRecord.TheVariants.{Folder, File, Thread}
use Rattle.cat_records.specs.declared.record.ThreadRecord.{ThreadRecord}
use Rattle.hfs_volume.specs.Records.{Placed, placed_in, record_at}
use Rattle.catalog.specs.declared.pair.Pair.{Pair as CatalogPair}

-- a pair that the catalog's tree may have: a thread with the longest name has 528 bytes, and a file with the longest name 766
pub record IsCatalogPair (pair : CatalogPair) : Type 0 where
  pub key : IsCatalogKey pair.key
  pub short : length pair.key + length pair.value ≤ 766

-- one pair more, and then another
pub record AddsPairs (first second : CatalogPair) (old new : List Pair) : Type 0 where
  pub between : List Pair
  pub one : AddsPair catalog_cmp first.key first.value old between
  pub both : AddsPair catalog_cmp second.key second.value between new

-- Done: both are there now. Exists: nothing was changed.
abbrev pub AddsBoth : CatalogPair → CatalogPair → List Pair → List Pair → Inserted → Type 0
AddsBoth first second old new inserted.Exists = new ≡ old
AddsBoth first second old new inserted.Done = AddsPairs first second old new

-- the key of this name in this folder, or of the thread of this CNID where the name is empty
pub record IsKeyOf (parent : ℕ) (name key : List ℕ) : Type 0 where
  pub is_key : IsCatalogKey key
  pub parent_is : catalog_parent key ≡ parent
  pub name_is : catalog_units key ≡ name
  pub long : length key ≡ 8 + 2 * length name

-- the value of a record that was found
abbrev pub value_at : List Pair → ℕ → List ℕ → Option CatRecord
value_at pairs parent name = option_map (λ (placed : Placed). placed.value) (record_at (placed_in pairs) parent name)

-- the thread in a record that is one
abbrev pub thread_in : CatRecord → Option ThreadRecord
thread_in (Folder folder) = None
thread_in (File file) = None
thread_in (Thread thread) = Some thread

-- the thread under a CNID
abbrev pub thread_at : List Pair → ℕ → Option ThreadRecord
thread_at pairs id = in_found (value_at pairs id [])
  where
    in_found : Option CatRecord → Option ThreadRecord
    in_found None = None
    in_found (Some rec) = thread_in rec

-- the reserved word of a thread, 0 where there is none
abbrev pub spare_in : Option ThreadRecord → ℤ
spare_in None = pos 0
spare_in (Some thread) = thread.spare

-- the pair with one key is gone, and then that with another
pub record DropsBoth (first second : List ℕ) (old new : List Pair) : Type 0 where
  pub between : List Pair
  pub one : DropsPair catalog_cmp first old between
  pub both : DropsPair catalog_cmp second between new

-- the pair with one key has another value, the pair with a second key is gone, and a pair with a third key is there
pub record ShiftsPair (thread_key thread_value key new_key new_value : List ℕ) (old new : List Pair) : Type 0 where
  pub told : List Pair
  pub tells : ChangesPair catalog_cmp thread_key thread_value old told
  pub between : List Pair
  pub out : DropsPair catalog_cmp key told between
  pub back : AddsPair catalog_cmp new_key new_value between new
