-- What `mv`, `rm` and `ln` do to the lists of a volume: the changes that its code hands in, and what they lead to.
use Rattle.std.specs.Prelude.{◌≡◌, ◌⊎◌, ◌<◌, ℕ, ◌+◌, ◌-◌, ◌^◌, nat_lt, true, false, List, Contains, Ok, Some, None, is_some, codes, if◌then◌else◌}
use Rattle.cat_records.specs.declared.record.CatRecord.{CatRecord}
use Rattle.cat_records.specs.declared.record.CatRecord.TheVariants.{Folder, File, Thread}
use Rattle.hfs_language.specs.declared.command.Command.TheVariants as command
use Rattle.hfs_model.specs.declared.plain.PlainEntry.{PlainEntry}
use Rattle.hfs_model.specs.Step.{Place, step, to_mv, to_rm, to_ln, is_same_file, is_private_path, last_name, private_name}
use Rattle.hfs_volume.specs.Records.{Placed, entries_of, is_empty, id_of, is_link, is_link_type, special_of, numbered}
use Rattle.hfs_volume.specs.Links.{private_id, node_name}
use Rattle.hfs_volume.specs.Content.{VolumeState, records_of}
use Rattle.hfs_volume.specs.Sound.{IsSoundVolume}
use Rattle.hfs_volume.specs.TreeOf.{tree_in, BytesOf}
use Rattle.hfs_volume.specs.Changes.{AreSorted, AddsEntry, DropsEntry, MovesEntry, InCatalog}
use Rattle.hfs_volume.specs.Commands.{AreBytesOf, ChangesFields, IsTouched, IsMarkedAlone, IsRecounted, IsRecountedAlone, IsMarkedLinked, with_counts, IsNewValue, IsEmptyFork}

-- `mv` to a free place: the entry stands there, with its thread; its old folder has one entry less and its new one one more; and the folder or
-- file that it names has a new attribute date
pub record MovesName (at : PlainEntry) (to : Place) (old new : VolumeState) : Type 0 where
  pub sorted : AreSorted old.catalog_pairs
  pub entry : Placed
  pub stands : Contains (entries_of (records_of old)) entry
  pub is_entry : (entry.parent ≡ at.parent) × (entry.name ≡ at.name)
  pub moved : VolumeState
  pub moves : InCatalog (MovesEntry entry to.folder to.name) old moved
  pub sorted_again : AreSorted moved.catalog_pairs
  pub lost : VolumeState
  pub loses : ChangesFields at.parent (IsTouched old.head.modify_date 0 1) moved lost
  pub gained : VolumeState
  pub gains : ChangesFields to.folder (IsTouched old.head.modify_date 1 0) lost gained
  pub marks : ChangesFields at.id (IsMarkedAlone old.head.modify_date) gained new

-- ---- the private folder

-- how many ids the private folder takes: one where it isn't there yet
abbrev pub private_ids : List Placed → ℕ
private_ids records = if is_some (private_id records) then 0 else 1

-- The private folder is made, under this CNID: it stands in the root, which has one entry more and is as it was beside.
pub record MakesPrivate (id moment : ℕ) (old new : VolumeState) : Type 0 where
  pub absent : private_id (records_of old) ≡ None
  pub value : CatRecord
  pub is_new : IsNewValue true id moment value
  pub added : VolumeState
  pub adds : InCatalog (AddsEntry (record { parent = 2; name = private_name; value = value })) old added
  pub sorted : AreSorted added.catalog_pairs
  pub counts : ChangesFields 2 (IsRecountedAlone 1 0) added new

-- the private folder has this CNID: it was there, or it was made, and took the id that was the next one
abbrev pub HasPrivate : ℕ → ℕ → ℕ → VolumeState → VolumeState → Type 0
HasPrivate next moment private old new = ((private_id (records_of old) ≡ Some private) × (new ≡ old)) ⊎ ((private ≡ next) × MakesPrivate private moment old new)

-- the name of a file that lost its last name, and is still to be removed
abbrev pub orphan_name : ℕ → List ℕ
orphan_name number = numbered (codes "temp") number

-- ---- `rm`

-- the record of the name, of the entry at hand
pub record IsNameOf (at : PlainEntry) (entry : Placed) (volume : VolumeState) : Type 0 where
  pub stands : Contains (entries_of (records_of volume)) entry
  pub place : (entry.parent ≡ at.parent) × (entry.name ≡ at.name)

-- `rm` of the only name of a file that never had another: the file waits in the private folder to be removed
pub record RemovesFile (at : PlainEntry) (old new : VolumeState) : Type 0 where
  pub sorted : AreSorted old.catalog_pairs
  pub entry : Placed
  pub is_entry : IsNameOf at entry old
  pub not_link : is_link entry ≡ false
  pub private : ℕ
  pub opened : VolumeState
  pub opens : HasPrivate old.head.next_catalog_id old.head.modify_date private
      (record old { head = with_counts (old.head.next_catalog_id + private_ids (records_of old)) old.head.file_count (old.head.folder_count + private_ids (records_of old)) old.head }) opened
  pub number : ℕ
  pub moved : VolumeState
  pub moves : InCatalog (MovesEntry entry private (orphan_name number)) opened moved
  pub sorted_again : AreSorted moved.catalog_pairs
  pub filled : VolumeState
  pub fills : ChangesFields private (IsRecounted 1 0) moved filled
  pub loses : ChangesFields at.parent (IsTouched old.head.modify_date 0 1) filled new

-- a volume whose header counts one file less
abbrev pub one_file_less : VolumeState → VolumeState
one_file_less volume = record volume { head = with_counts volume.head.next_catalog_id (volume.head.file_count - 1) volume.head.folder_count volume.head }

-- `rm` of a link, where the file has other links: its number of links says so
pub record RemovesLink (at : PlainEntry) (old new : VolumeState) : Type 0 where
  pub sorted : AreSorted old.catalog_pairs
  pub entry : Placed
  pub is_entry : IsNameOf at entry old
  pub is_one : is_link entry ≡ true
  pub dropped : VolumeState
  pub drops : InCatalog (DropsEntry entry) (one_file_less old) dropped
  pub links : ℕ
  pub marked : VolumeState
  pub marks : ChangesFields at.id (IsMarkedLinked old.head.modify_date links) dropped marked
  pub others : (marks.before.special ≡ links + 1) × (0 < links)
  pub loses : ChangesFields at.parent (IsTouched old.head.modify_date 0 1) marked new

-- `rm` of a link, where the file has no other: it waits in the private folder to be removed
pub record RemovesLastLink (at : PlainEntry) (old new : VolumeState) : Type 0 where
  pub sorted : AreSorted old.catalog_pairs
  pub entry : Placed
  pub is_entry : IsNameOf at entry old
  pub is_one : is_link entry ≡ true
  pub dropped : VolumeState
  pub drops : InCatalog (DropsEntry entry) (one_file_less old) dropped
  pub file : Placed
  pub is_file : Contains (entries_of (records_of dropped)) file × (id_of file ≡ at.id)
  pub last : special_of file ≡ 1
  pub number : ℕ
  pub moved : VolumeState
  pub moves : InCatalog (MovesEntry file file.parent (orphan_name number)) dropped moved
  pub sorted_again : AreSorted moved.catalog_pairs
  pub loses : ChangesFields at.parent (IsTouched old.head.modify_date 0 1) moved new

-- one of the three: of an only name, of a link among others, of the last link
abbrev pub Removes : PlainEntry → VolumeState → VolumeState → Type 0
Removes at old new = RemovesFile at old new ⊎ (RemovesLink at old new ⊎ RemovesLastLink at old new)

-- ---- `mv` over a file

-- `mv` over another file: that file loses its name at the new place as by `rm`, so that with its last name it waits in the private folder to
-- be removed, and the entry takes the free place
pub record ReplacesName (at : PlainEntry) (to : Place) (old new : VolumeState) : Type 0 where
  pub other : PlainEntry
  pub stood : to.found ≡ Some other
  pub differs : is_same_file at to.found ≡ false
  pub vacated : VolumeState
  pub removes : Removes other old vacated
  pub moves : MovesName at to vacated new

-- `mv` of a file onto itself: nothing changes
pub record StaysInPlace (at : PlainEntry) (to : Place) (old new : VolumeState) : Type 0 where
  pub itself : is_same_file at to.found ≡ true
  pub same : new ≡ old

-- one of the three: to a free place, over another file, of a file onto itself
abbrev pub Moves : PlainEntry → Place → VolumeState → VolumeState → Type 0
Moves at to old new = ((to.found ≡ None) × MovesName at to old new) ⊎ (ReplacesName at to old new ⊎ StaysInPlace at to old new)

-- ---- `ln`

-- a new link: a file of the type for such names, without blocks, that tells the number of its file
abbrev pub IsLinkValue : ℕ → ℕ → CatRecord → Type 0
IsLinkValue drawn reference (File file) = (file.fields.id ≡ drawn) × (is_link_type file.fields ≡ true) × (file.fields.special ≡ reference) × IsEmptyFork file.data_fork × IsEmptyFork file.resource_fork
IsLinkValue drawn reference (Folder folder) = ⊥
IsLinkValue drawn reference (Thread thread) = ⊥

-- The first `ln` of a file: it stands in the private folder under a number, and links to that number have its old name and its new one.
pub record LinksFirst (at : PlainEntry) (to : Place) (old new : VolumeState) : Type 0 where
  pub sorted : AreSorted old.catalog_pairs
  pub entry : Placed
  pub is_entry : IsNameOf at entry old
  pub not_link : is_link entry ≡ false
  pub private : ℕ
  pub opened : VolumeState
  pub opens : HasPrivate old.head.next_catalog_id old.head.modify_date private
      (record old { head = with_counts (old.head.next_catalog_id + private_ids (records_of old) + 2) (old.head.file_count + 2) (old.head.folder_count + private_ids (records_of old)) old.head }) opened
  pub reference : ℕ
  pub low : nat_lt reference (2 ^ 32) ≡ true
  pub moved : VolumeState
  pub moves : InCatalog (MovesEntry entry private (node_name reference)) opened moved
  pub sorted_again : AreSorted moved.catalog_pairs
  pub old_link : CatRecord
  pub is_old_link : IsLinkValue (old.head.next_catalog_id + private_ids (records_of old)) reference old_link
  pub replaced : VolumeState
  pub replaces : InCatalog (AddsEntry (record { parent = entry.parent; name = entry.name; value = old_link })) moved replaced
  pub sorted_replaced : AreSorted replaced.catalog_pairs
  pub new_link : CatRecord
  pub is_new_link : IsLinkValue (old.head.next_catalog_id + private_ids (records_of old) + 1) reference new_link
  pub linked : VolumeState
  pub links : InCatalog (AddsEntry (record { parent = to.folder; name = to.name; value = new_link })) replaced linked
  pub sorted_linked : AreSorted linked.catalog_pairs
  pub filled : VolumeState
  pub fills : ChangesFields private (IsRecounted 1 0) linked filled
  pub marked : VolumeState
  pub marks : ChangesFields at.id (IsMarkedLinked old.head.modify_date 2) filled marked
  pub gains : ChangesFields to.folder (IsTouched old.head.modify_date 1 0) marked new

-- A later `ln`: one link more.
pub record LinksMore (at : PlainEntry) (to : Place) (old new : VolumeState) : Type 0 where
  pub sorted : AreSorted old.catalog_pairs
  pub entry : Placed
  pub is_entry : IsNameOf at entry old
  pub is_one : is_link entry ≡ true
  pub new_link : CatRecord
  pub is_new_link : IsLinkValue old.head.next_catalog_id (special_of entry) new_link
  pub linked : VolumeState
  pub links : InCatalog (AddsEntry (record { parent = to.folder; name = to.name; value = new_link }))
      (record old { head = with_counts (old.head.next_catalog_id + 1) (old.head.file_count + 1) old.head.folder_count old.head }) linked
  pub sorted_linked : AreSorted linked.catalog_pairs
  pub count : ℕ
  pub marked : VolumeState
  pub marks : ChangesFields at.id (IsMarkedLinked old.head.modify_date count) linked marked
  pub one_more : count ≡ marks.before.special + 1
  pub gains : ChangesFields to.folder (IsTouched old.head.modify_date 1 0) marked new

-- ---- what each command does

-- `mv`, in each of its three cases: where the step refuses nothing, the lists that the changes lead to are those of a sound volume, and tell the
-- step's tree.
abbrev pub MvDoes : Type 0
MvDoes =
    (from to : List (List ℕ)) (at : PlainEntry) (goal : Place) (old new : VolumeState) (bytes_of : BytesOf) → AreBytesOf bytes_of → IsSoundVolume old → is_private_path to ≡ false → is_empty (last_name to) ≡ false
    → to_mv (tree_in old bytes_of) from to ≡ Ok (at, goal) → Moves at goal old new → IsSoundVolume new × (tree_in new bytes_of ≡ (step (tree_in old bytes_of) (command.Mv from to)).1)

-- The same for `rm`, in each of its three cases.
abbrev pub RmDoes : Type 0
RmDoes =
    (path : List (List ℕ)) (at : PlainEntry) (old new : VolumeState) (bytes_of : BytesOf) → AreBytesOf bytes_of → IsSoundVolume old
    → to_rm (tree_in old bytes_of) path ≡ Ok at → Removes at old new → IsSoundVolume new × (tree_in new bytes_of ≡ (step (tree_in old bytes_of) (command.Rm path)).1)

-- the first link of the file that the entry names, or a later one
abbrev pub Links : PlainEntry → Place → VolumeState → VolumeState → Type 0
Links at goal old new = LinksFirst at goal old new ⊎ LinksMore at goal old new

-- The same for `ln`, for the first link of a file and for a later one.
abbrev pub LnDoes : Type 0
LnDoes =
    (from to : List (List ℕ)) (at : PlainEntry) (goal : Place) (old new : VolumeState) (bytes_of : BytesOf) → AreBytesOf bytes_of → IsSoundVolume old → is_private_path to ≡ false → is_empty (last_name to) ≡ false
    → to_ln (tree_in old bytes_of) from to ≡ Ok (at, goal) → Links at goal old new → IsSoundVolume new × (tree_in new bytes_of ≡ (step (tree_in old bytes_of) (command.Ln from to)).1)
