-- What each command does to the lists of a volume: the changes that its code hands in.
use Rattle.std.specs.Prelude.{◌≡◌, ℕ, Ok, ◌+◌, ◌-◌, ◌==◌, not, Contains, ◌%◌, Bool, true, false, List, [], if◌then◌else◌}
use Rattle.hx_bytes.specs.declared.extents.ForkRecord.{ForkRecord}
use Rattle.volume_header.specs.declared.header.VolumeHeader.{VolumeHeader}
use Rattle.btree_node.specs.Levels.{Pair}
use Rattle.cat_records.specs.declared.record.EntryFields.{EntryFields}
use Rattle.cat_records.specs.declared.record.FileRecord.{FileRecord}
use Rattle.cat_records.specs.declared.record.CatRecord.{CatRecord}
use Rattle.cat_records.specs.declared.record.CatRecord.TheVariants.{Folder, File, Thread}
use Rattle.hfs_model.specs.Plain.{type_bits_kept}
use Rattle.hfs_model.specs.Sorted.{kept}
use Rattle.hfs_language.specs.declared.command.Command.TheVariants as command
use Rattle.hfs_model.specs.declared.plain.PlainNode.{PlainNode}
use Rattle.hfs_model.specs.declared.plain.PlainEntry.{PlainEntry}
use Rattle.hfs_model.specs.Step.{Place, step, to_make, to_node, to_rmdir, is_private_path, last_name}
use Rattle.hfs_volume.specs.Sound.{IsSoundVolume}
use Rattle.hfs_volume.specs.TreeOf.{tree_in, type_bits_in, empty_forks, BytesOf}
use Rattle.hfs_volume.specs.Records.{entries_of, attribute_of, Attribute, Placed, is_link_type, id_of, is_empty, is_folder}
use Rattle.hfs_volume.specs.Forks.{in_use}
use Rattle.hfs_volume.specs.Values.{blocks_of_values}
use Rattle.hfs_volume.specs.Content.{VolumeState, records_of, attributes_of}
use Rattle.hfs_volume.specs.Changes.{AreSorted, DropsEntry, AddsEntry, ChangesValue, InCatalog, InValues}
use Rattle.hfs_volume.specs.Data.{PutsInValues}

-- an entry's fields as it is made, with this whole mode
pub record AreNewFields (drawn mode_made moment : ℕ) (fields : EntryFields) : Type 0 where
  pub id : fields.id ≡ drawn
  pub count : fields.count ≡ 0
  pub mode : fields.mode ≡ mode_made
  pub created : fields.created ≡ moment
  pub changed : fields.changed ≡ moment
  pub attribute : fields.attribute ≡ moment

-- a fork without blocks
pub record IsEmptyFork (fork : ForkRecord) : Type 0 where
  pub size : fork.logical_size ≡ 0
  pub blocks : fork.total_blocks ≡ 0
  pub extents : in_use fork.extents.extents ≡ []

-- the whole mode of a new folder, 0040755
abbrev pub folder_mode : ℕ
folder_mode = 16877

-- the whole mode of a new file, 0100644
abbrev pub file_mode : ℕ
file_mode = 33188

-- a folder or file as it is made: with mode 0040755 or 0100644, without entries or blocks, and no link to a file with several names
abbrev pub IsNewValue : Bool → ℕ → ℕ → CatRecord → Type 0
IsNewValue true drawn moment (Folder folder) = AreNewFields drawn folder_mode moment folder.fields
IsNewValue false drawn moment (File file) = AreNewFields drawn file_mode moment file.fields × (is_link_type file.fields ≡ false) × IsEmptyFork file.data_fork × IsEmptyFork file.resource_fork
IsNewValue folder drawn moment value = ⊥

-- ---- other fields of a folder or file

-- a folder's or file's value with other fields
abbrev pub with_fields : (EntryFields → EntryFields) → CatRecord → CatRecord
with_fields change (Folder folder) = Folder (record { fields = change folder.fields })
with_fields change (File file) = File (record file { fields = change file.fields })
with_fields change (Thread thread) = Thread thread

-- a folder or file has these fields
abbrev pub HasFields : CatRecord → EntryFields → Type 0
HasFields (Folder folder) fields = folder.fields ≡ fields
HasFields (File file) fields = file.fields ≡ fields
HasFields (Thread thread) fields = ⊥

-- The folder or file of this CNID has other fields, changed so; its forks are as they were.
pub record ChangesFields (id : ℕ) (Changes : EntryFields → EntryFields → Type 0) (old new : VolumeState) : Type 0 where
  pub entry : Placed
  pub before : EntryFields
  pub after : EntryFields
  pub has : HasFields entry.value before
  pub is_entry : before.id ≡ id
  pub fields : Changes before after
  pub changes : InCatalog (ChangesValue entry (with_fields (λ _. after) entry.value)) old new

-- A folder after its entries changed at this moment: it counts so many more, and so many less.
pub record IsTouched (moment up down : ℕ) (before after : EntryFields) : Type 0 where
  pub id : after.id ≡ before.id
  pub count : after.count ≡ before.count + up - down
  pub mode : after.mode ≡ before.mode
  pub created : after.created ≡ before.created
  pub changed : after.changed ≡ moment
  pub attribute : after.attribute ≡ moment

-- A folder or file to which something was done at this moment, but not to what it holds. The special word is told apart.
pub record IsMarked (moment : ℕ) (before after : EntryFields) : Type 0 where
  pub id : after.id ≡ before.id
  pub count : after.count ≡ before.count
  pub mode : after.mode ≡ before.mode
  pub created : after.created ≡ before.created
  pub changed : after.changed ≡ before.changed
  pub attribute : after.attribute ≡ moment

-- A folder (true) or file whose mode was set at this moment: it keeps its type bits, or has those of a new one where it had none, and nothing else of it
-- has changed.
pub record HasNewMode (folder : Bool) (rights moment : ℕ) (before after : EntryFields) : Type 0 where
  pub id : after.id ≡ before.id
  pub count : after.count ≡ before.count
  pub kept : type_bits_in after.mode ≡ type_bits_kept folder (type_bits_in before.mode)
  pub mode : after.mode % 4096 ≡ rights
  pub created : after.created ≡ before.created
  pub changed : after.changed ≡ before.changed
  pub attribute : after.attribute ≡ moment
  pub special : after.special ≡ before.special

-- A folder that counts so many entries more, and so many less; of what it says beside, its dates may have changed.
pub record IsRecounted (up down : ℕ) (before after : EntryFields) : Type 0 where
  pub id : after.id ≡ before.id
  pub count : after.count ≡ before.count + up - down

-- the same, and no date nor its mode has changed
pub record IsRecountedAlone (up down : ℕ) (before after : EntryFields) : Type 0 where
  pub recounted : IsRecounted up down before after
  pub mode : after.mode ≡ before.mode
  pub created : after.created ≡ before.created
  pub changed : after.changed ≡ before.changed
  pub attribute : after.attribute ≡ before.attribute

-- the same, and its special word is as it was
pub record IsMarkedAlone (moment : ℕ) (before after : EntryFields) : Type 0 where
  pub marked : IsMarked moment before after
  pub special : after.special ≡ before.special

-- A file that is marked, and whose special word says that it has so many links.
pub record IsMarkedLinked (moment links : ℕ) (before after : EntryFields) : Type 0 where
  pub marked : IsMarked moment before after
  pub special : after.special ≡ links

-- ---- `mkdir`, `create`, `chmod` and `rmdir`

-- the header after a folder or file got the next id
abbrev pub with_made : Bool → VolumeHeader → VolumeHeader
with_made folder head = record head {
  next_catalog_id = head.next_catalog_id + 1;
  folder_count = if folder then head.folder_count + 1 else head.folder_count;
  file_count = if folder then head.file_count else head.file_count + 1;
}

-- an entry with this value, at its place
abbrev pub entry_in : Place → CatRecord → Placed
entry_in at value = record { parent = at.folder; name = at.name; value = value }

-- `mkdir` and `create`: the header counts the folder or file and draws its id, the entry is there with its thread, and the folder above
-- has one entry more
pub record MakesEntry (folder : Bool) (at : Place) (old new : VolumeState) : Type 0 where
  pub value : CatRecord
  pub is_new : IsNewValue folder old.head.next_catalog_id old.head.modify_date value
  pub added : VolumeState
  pub adds : InCatalog (AddsEntry (entry_in at value)) (record old { head = with_made folder old.head }) added
  pub sorted : AreSorted added.catalog_pairs
  pub counts : ChangesFields at.folder (IsTouched old.head.modify_date 1 0) added new

-- `chmod`: the folder or file of this CNID has this mode, set at this moment
pub record ChangesMode (id mode : ℕ) (old new : VolumeState) : Type 0 where
  pub folder : Bool
  pub does : ChangesFields id (HasNewMode folder mode old.head.modify_date) old new
  pub kind : is_folder does.entry.value ≡ folder

-- all attributes of this CNID were removed
abbrev pub DropsAttributes : ℕ → List Pair → List Pair → Type 0
DropsAttributes id old new = new ≡ kept (λ pair. not ((attribute_of pair).id == id)) old

-- the header after a folder was removed
abbrev pub with_folder_removed : VolumeHeader → VolumeHeader
with_folder_removed head = record head { folder_count = head.folder_count - 1 }

-- the blocks of all values of a folder or file
abbrev pub blocks_of_all : List Attribute → ℕ → List ℕ
blocks_of_all attributes id = blocks_of_values (kept (λ record_. record_.id == id) attributes)

-- `rmdir`: the folder of this CNID has no attributes any more, whose blocks are given back, and isn't there; the header counts a folder less,
-- and the folder above has one entry less
pub record RemovesFolder (id : ℕ) (old new : VolumeState) : Type 0 where
  pub entry : Placed
  pub stands : Contains (entries_of (records_of old)) entry
  pub is_entry : id_of entry ≡ id
  pub bared : VolumeState
  pub bares : InValues (DropsAttributes id) [] (blocks_of_all (attributes_of old) id) old bared
  pub dropped : VolumeState
  pub drops : InCatalog (DropsEntry entry) (record bared { head = with_folder_removed bared.head }) dropped
  pub sorted : AreSorted old.catalog_pairs
  pub counts : ChangesFields entry.parent (IsTouched old.head.modify_date 0 1) dropped new

-- a header with another next id, and other numbers of files and of folders
abbrev pub with_counts : ℕ → ℕ → ℕ → VolumeHeader → VolumeHeader
with_counts next files folders head = record head { next_catalog_id = next; file_count = files; folder_count = folders }

-- ---- what each command does

-- the bytes of a file are told by its CNID and its forks, and forks of size 0 have none
pub record AreBytesOf (bytes_of : BytesOf) : Type 0 where
  pub by_fork : (file : FileRecord) (fields : EntryFields) → fields.id ≡ file.fields.id → bytes_of.file (record file { fields = fields }) ≡ bytes_of.file file
  pub none : (file : FileRecord) → file.data_fork.logical_size ≡ 0 → file.resource_fork.logical_size ≡ 0 → bytes_of.file file ≡ empty_forks

-- Where the step of `mkdir` refuses nothing, the lists that its change leads to are those of a sound volume, and tell the step's tree.
abbrev pub MkdirDoes : Type 0
MkdirDoes =
    (path : List (List ℕ)) (at : Place) (old new : VolumeState) (bytes_of : BytesOf) → AreBytesOf bytes_of → IsSoundVolume old → is_private_path path ≡ false → is_empty (last_name path) ≡ false
    → to_make (tree_in old bytes_of) path ≡ Ok at → MakesEntry true at old new → IsSoundVolume new × (tree_in new bytes_of ≡ (step (tree_in old bytes_of) (command.Mkdir path)).1)

-- Where the step of `create` refuses nothing, the lists that its change leads to are those of a sound volume, and tell the step's tree.
abbrev pub CreateDoes : Type 0
CreateDoes =
    (path : List (List ℕ)) (at : Place) (old new : VolumeState) (bytes_of : BytesOf) → AreBytesOf bytes_of → IsSoundVolume old → is_private_path path ≡ false → is_empty (last_name path) ≡ false
    → to_make (tree_in old bytes_of) path ≡ Ok at → MakesEntry false at old new → IsSoundVolume new × (tree_in new bytes_of ≡ (step (tree_in old bytes_of) (command.Create path)).1)

-- Where the step of `chmod` refuses nothing, the lists that its change leads to are those of a sound volume, and tell the step's tree.
abbrev pub ChmodDoes : Type 0
ChmodDoes =
    (path : List (List ℕ)) (mode : ℕ) (node : PlainNode) (old new : VolumeState) (bytes_of : BytesOf) → AreBytesOf bytes_of → IsSoundVolume old
    → to_node (tree_in old bytes_of) path ≡ Ok node → ChangesMode node.id mode old new → IsSoundVolume new × (tree_in new bytes_of ≡ (step (tree_in old bytes_of) (command.Chmod path mode)).1)

-- Where the step of `rmdir` refuses nothing, the lists that its change leads to are those of a sound volume, and tell the step's tree; the
-- folder's values have no blocks, and all others have theirs.
abbrev pub RmdirDoes : Type 0
RmdirDoes =
    (path : List (List ℕ)) (at : PlainEntry) (old new : VolumeState) (bytes_of : BytesOf) → AreBytesOf bytes_of → IsSoundVolume old
    → to_rmdir (tree_in old bytes_of) path ≡ Ok at → RemovesFolder at.id old new
    → IsSoundVolume new × (tree_in new bytes_of ≡ (step (tree_in old bytes_of) (command.Rmdir path)).1) × PutsInValues (tree_in old bytes_of) (command.Rmdir path) old new
