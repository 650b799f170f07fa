-- How a sound volume is kept sound: what each change keeps, and what it does to the numbers that are counted.
use Rattle.hfs_volume.specs.Values.{IsValue}
use Rattle.std.specs.Prelude.{◌≡◌, ◌≢◌, ◌⊎◌, ◌↔◌, ◌<◌, ◌≤◌, ℕ, ◌+◌, ◌==◌, ◌&&◌, Bool, true, false, List, [], length, count_by, All, Contains, None, if◌then◌else◌}
use Rattle.std.specs.List.{flat_map}
use Rattle.cat_records.specs.declared.record.CatRecord.{CatRecord}
use Rattle.btree_node.specs.Levels.{Pair}
use Rattle.volume_header.specs.declared.header.VolumeHeader.{VolumeHeader}
use Rattle.hfs_model.specs.Step.{private_name, is_private_name}
use Rattle.hfs_volume.specs.Records.{Placed, Overflow, entries_of, record_at, is_folder, is_file, is_thread, is_link, id_of, special_of, attribute_of, is_empty}
use Rattle.hfs_volume.specs.Forks.{Owned, forks_in, blocks_owned, in_use, bad_blocks_id}
use Rattle.hfs_volume.specs.Content.{VolumeState, is_set, records_of, overflow_in_volume, attributes_of}
use Rattle.hfs_volume.specs.Entries.{AreThreaded, AreRooted, HaveIds, AreCounted, LiesIn, IsUserId, count_in}
use Rattle.hfs_volume.specs.Links.{is_shared_file, AreGoodLinks, HaveLinkCounts, IsGoodLink, IsHidden, links_to}
use Rattle.hfs_volume.specs.Attributes.{AreAttributes, HasOwner, IsAttribute}
use Rattle.hfs_volume.specs.Blocks.{HasSizes, GoesOn, IsGoodHeader, AgreesWith, HasFiles, HasForks, HasBits, used_in, is_among, count_used, HasValueSizes}
use Rattle.hfs_volume.specs.Reclaim.{IsTreeFork}
use Rattle.hfs_volume.specs.Sound.{IsSoundVolume}
use Rattle.hfs_volume.specs.TreeOf.{is_hidden}
use Rattle.hfs_volume.specs.Changes.{AreSorted, AddsEntry, DropsEntry, MovesEntry, ChangesValue, InCatalog, AddsAttribute, DropsAttribute, InAttributes, PutsBlocks, GrowsFile, InHeader, TradesBlocks}

-- ---- what holds between the changes of a command

-- All rules of a sound volume but those that compare a stored number or bit with one that is counted.
pub record IsShaped (volume : VolumeState) : Type 0 where
  pub threads : AreThreaded volume.catalog_pairs
  pub rooted : AreRooted (entries_of (records_of volume))
  pub ids : HaveIds volume.head.next_catalog_id (entries_of (records_of volume))
  pub links : AreGoodLinks (records_of volume) (overflow_in_volume volume)
  pub attributes : AreAttributes volume.head volume.journal (records_of volume) (overflow_in_volume volume) volume.attribute_pairs
  pub header : IsGoodHeader volume.sectors volume.head
  pub alternate : AgreesWith volume.head volume.alternate
  pub files : HasFiles volume
  pub forks : HasForks volume

-- the stored numbers and bits are those that are counted
pub record IsCounted (volume : VolumeState) : Type 0 where
  pub entries : AreCounted volume.head (entries_of (records_of volume))
  pub links : HaveLinkCounts (records_of volume)
  pub bits : HasBits volume

-- the two together are soundness
abbrev pub SoundIsBoth : VolumeState → Type 0
SoundIsBoth volume = IsSoundVolume volume ↔ (IsShaped volume × IsCounted volume)

-- ---- what is counted

abbrev pub one_if : Bool → ℕ
one_if holds = if holds then 1 else 0

-- the entries of a volume
abbrev pub entries_in : VolumeState → List Placed
entries_in volume = entries_of (records_of volume)

-- The counts after one entry more: its folder has one more, its kind too, and where it is a link so has its file's number.
pub record CountsOneMore (entry : Placed) (old new : VolumeState) : Type 0 where
  pub in_folder : (id : ℕ) → count_in (entries_in new) id ≡ count_in (entries_in old) id + one_if (entry.parent == id)
  pub files : count_by (λ placed. is_file placed.value) (entries_in new) ≡ count_by (λ placed. is_file placed.value) (entries_in old) + one_if (is_file entry.value)
  pub folders : count_by (λ placed. is_folder placed.value) (entries_in new) ≡ count_by (λ placed. is_folder placed.value) (entries_in old) + one_if (is_folder entry.value)
  pub links : (reference : ℕ) → length (links_to (records_of new) reference) ≡ length (links_to (records_of old) reference) + one_if (is_link entry && (special_of entry == reference))
  pub used : (block : ℕ) → is_among (used_in new) block ≡ is_among (used_in old) block

-- nothing that is counted has changed
pub record CountsSame (old new : VolumeState) : Type 0 where
  pub in_folder : (id : ℕ) → count_in (entries_in new) id ≡ count_in (entries_in old) id
  pub files : count_by (λ placed. is_file placed.value) (entries_in new) ≡ count_by (λ placed. is_file placed.value) (entries_in old)
  pub folders : count_by (λ placed. is_folder placed.value) (entries_in new) ≡ count_by (λ placed. is_folder placed.value) (entries_in old)
  pub links : (reference : ℕ) → length (links_to (records_of new) reference) ≡ length (links_to (records_of old) reference)
  pub used : (block : ℕ) → is_among (used_in new) block ≡ is_among (used_in old) block

-- ---- one law for each change

-- an entry is one of the volume's own: it stands in the root under a name that the volume keeps for itself
abbrev pub is_own : Placed → Bool
is_own entry = (entry.parent == 2) && is_private_name entry.name

-- the private folder, where there is none yet
pub record IsFirstPrivate (entry : Placed) (records : List Placed) : Type 0 where
  pub place : (entry.parent ≡ 2) × (entry.name ≡ private_name)
  pub folder : is_folder entry.value ≡ true
  pub is_new : record_at records 2 private_name ≡ None

-- a folder has this CNID
abbrev pub IsFolderId : List Placed → ℕ → Type 0
IsFolderId entries id = (placed : Placed) × Contains entries placed × (is_folder placed.value ≡ true) × (id_of placed ≡ id)

-- forks without blocks, whose overflow records go on
pub record AreEmptyForks (head : VolumeHeader) (overflow : List Overflow) (forks : List Owned) : Type 0 where
  pub sizes : All (HasSizes head overflow) forks
  pub goes_on : All (GoesOn overflow) forks
  pub none : flat_map (blocks_owned overflow) forks ≡ []

-- An entry may be added: a folder, or a file without a block, under a CNID that was given out and that no other has, in a folder; a link
-- where links may stand; and none of the volume's own but the first private folder.
pub record MayAdd (entry : Placed) (volume : VolumeState) : Type 0 where
  pub kind : is_thread entry.value ≡ false
  pub named : is_empty entry.name ≡ false
  pub folder : IsFolderId (entries_of (records_of volume)) entry.parent
  pub id : IsUserId volume.head.next_catalog_id (id_of entry)
  pub fresh : (placed : Placed) → Contains (entries_of (records_of volume)) placed → (id_of placed == id_of entry) ≡ false
  pub empty : AreEmptyForks volume.head (overflow_in_volume volume) (forks_in entry.value)
  pub link : is_link entry ≡ true → IsGoodLink (records_of volume) (overflow_in_volume volume) entry
  pub own : (is_own entry ≡ false) ⊎ IsFirstPrivate entry (records_of volume)

-- A new entry that users see, under a name that isn't there: it has a CNID that no other has, stands in a folder that users see, and is no link.
pub record Joins (entry : Placed) (records : List Placed) : Type 0 where
  pub kind : is_thread entry.value ≡ false
  pub named : is_empty entry.name ≡ false
  pub not_link : is_link entry ≡ false
  pub high : 16 ≤ id_of entry
  pub fresh : (placed : Placed) → Contains (entries_of records) placed → (id_of placed == id_of entry) ≡ false
  pub folder : (placed : Placed) × Contains (entries_of records) placed × (is_folder placed.value ≡ true) × (id_of placed ≡ entry.parent)
  pub visible : is_hidden records entry.parent ≡ false
  pub not_own : ((entry.parent == 2) && is_private_name entry.name) ≡ false
  pub is_new : record_at records entry.parent entry.name ≡ None

-- An entry that may be added keeps the rules, and its folder, its kind and the links to its file count one more.
abbrev pub EntryAdded : Type 0
EntryAdded = (entry : Placed) (old new : VolumeState) → InCatalog (AddsEntry entry) old new → MayAdd entry old → IsShaped old → IsShaped new × CountsOneMore entry old new

-- the same for an entry that users see and that is no link
abbrev pub EntryJoined : Type 0
EntryJoined =
    (entry : Placed) (old new : VolumeState) → InCatalog (AddsEntry entry) old new → Joins entry (records_of old) → AreEmptyForks old.head (overflow_in_volume old) (forks_in entry.value)
    → id_of entry < old.head.next_catalog_id → IsShaped old → IsShaped new × CountsOneMore entry old new

-- An entry may be removed: not the root nor one of the volume's own, a folder without entries or a file without a block, which has no
-- attributes, and to which no link leads.
pub record MayDrop (entry : Placed) (volume : VolumeState) : Type 0 where
  pub stands : Contains (entries_of (records_of volume)) entry
  pub high : 16 ≤ id_of entry
  pub not_own : is_own entry ≡ false
  pub no_entries : (placed : Placed) → Contains (entries_of (records_of volume)) placed → (placed.parent == id_of entry) ≡ false
  pub no_attributes : (pair : Pair) → Contains volume.attribute_pairs pair → (attribute_of pair).id ≡ id_of entry → ⊥
  pub empty : flat_map (blocks_owned (overflow_in_volume volume)) (forks_in entry.value) ≡ []
  pub no_links : (link : Placed) → Contains (entries_of (records_of volume)) link → is_link link ≡ true → is_shared_file (records_of volume) (special_of link) entry ≡ true → ⊥

-- An entry that may be removed keeps the rules, and the same numbers count one less.
abbrev pub EntryRemoved : Type 0
EntryRemoved = (entry : Placed) (old new : VolumeState) → InCatalog (DropsEntry entry) old new → AreSorted old.catalog_pairs → MayDrop entry old → IsShaped old → IsShaped new × CountsOneMore entry new old

-- An entry may be moved: to a folder that doesn't lie in it, and neither from nor to a place of the volume's own; a file to which links
-- lead stays where it is, and links and folders don't go into the private folder.
pub record MayMove (entry : Placed) (parent : ℕ) (name : List ℕ) (volume : VolumeState) : Type 0 where
  pub stands : Contains (entries_of (records_of volume)) entry
  pub high : 16 ≤ id_of entry
  pub not_own : is_own entry ≡ false
  pub named : is_empty name ≡ false
  pub goes_not_own : ((parent == 2) && is_private_name name) ≡ false
  pub folder : IsFolderId (entries_of (records_of volume)) parent
  pub not_inside : LiesIn (entries_of (records_of volume)) (id_of entry) parent → ⊥
  pub no_links : (link : Placed) → Contains (entries_of (records_of volume)) link → is_link link ≡ true → is_shared_file (records_of volume) (special_of link) entry ≡ true → ⊥
  pub outside : (is_link entry ≡ true) ⊎ (is_folder entry.value ≡ true) → IsHidden (records_of volume) parent → ⊥

-- the counts after an entry was moved: one less in its old folder, and one more in its new one
pub record CountsMoved (entry : Placed) (parent : ℕ) (old new : VolumeState) : Type 0 where
  pub in_folder : (id : ℕ) → count_in (entries_in new) id + one_if (entry.parent == id) ≡ count_in (entries_in old) id + one_if (parent == id)
  pub files : count_by (λ placed. is_file placed.value) (entries_in new) ≡ count_by (λ placed. is_file placed.value) (entries_in old)
  pub folders : count_by (λ placed. is_folder placed.value) (entries_in new) ≡ count_by (λ placed. is_folder placed.value) (entries_in old)
  pub links : (reference : ℕ) → length (links_to (records_of new) reference) ≡ length (links_to (records_of old) reference)
  pub used : (block : ℕ) → is_among (used_in new) block ≡ is_among (used_in old) block

-- An entry that may be moved keeps the rules; its old folder counts one less, its new one one more.
abbrev pub EntryMoved : Type 0
EntryMoved =
    (entry : Placed) (parent : ℕ) (name : List ℕ) (old new : VolumeState) → InCatalog (MovesEntry entry parent name) old new → AreSorted old.catalog_pairs → MayMove entry parent name old → IsShaped old
    → IsShaped new × CountsMoved entry parent old new

-- Another value of an entry, of its kind and with its forks, keeps the rules, and nothing that is counted changes.
abbrev pub ValueChanged : Type 0
ValueChanged = (entry : Placed) (value : CatRecord) (old new : VolumeState) → InCatalog (ChangesValue entry value) old new → is_thread entry.value ≡ false → IsShaped old → IsShaped new × CountsSame old new

-- An attribute more of a folder or file keeps the rules, and nothing that is counted changes.
abbrev pub AttributeAdded : Type 0
AttributeAdded =
    (id : ℕ) (name value : List ℕ) (old new : VolumeState) → InAttributes (AddsAttribute id name value) old new → HasOwner (records_of old) id → 0 < length name → IsShaped old → IsShaped new × CountsSame old new

-- a file that isn't one of the journal's
abbrev pub IsUserFile : ℕ → VolumeState → Type 0
IsUserFile id volume = (entry : Placed) → Contains (entries_in volume) entry → id_of entry ≡ id → (entry.parent ≡ 2) × (is_private_name entry.name ≡ true) → ⊥

-- each bit is set exactly where its block is used
abbrev pub HasRightBits : VolumeState → Type 0
HasRightBits volume = (block : ℕ) → block < volume.head.total_blocks → is_set volume block ≡ is_among (used_in volume) block

-- the counts after some blocks are used that weren't, and some aren't that were: these alone have moved
pub record CountsBlocks (up down : ℕ) (old new : VolumeState) : Type 0 where
  pub in_folder : (id : ℕ) → count_in (entries_in new) id ≡ count_in (entries_in old) id
  pub files : count_by (λ placed. is_file placed.value) (entries_in new) ≡ count_by (λ placed. is_file placed.value) (entries_in old)
  pub folders : count_by (λ placed. is_folder placed.value) (entries_in new) ≡ count_by (λ placed. is_folder placed.value) (entries_in old)
  pub links : (reference : ℕ) → length (links_to (records_of new) reference) ≡ length (links_to (records_of old) reference)
  pub used : count_used new.head.total_blocks (used_in new) + down ≡ count_used old.head.total_blocks (used_in old) + up

-- Blocks of a file that isn't a link and isn't one of the journal's: replaced, added and cut are this one change with some of its numbers
-- 0. It keeps the rules, each bit is right again, and so many more blocks are used as are fresh, and so many fewer as are given back.
abbrev pub BlocksPut : Type 0
BlocksPut =
    (id kind from count : ℕ) (fresh : List ℕ) (old new : VolumeState) → PutsBlocks id kind from count fresh old new → IsUserFile id old → HasRightBits old → IsShaped old
    → IsShaped new × HasRightBits new × CountsBlocks (length fresh) count old new

-- A tree that grows by free blocks keeps the rules, each bit is right again, and so many more blocks are used.
abbrev pub TreeGrown : Type 0
TreeGrown =
    (id more : ℕ) (fresh : List ℕ) (old new : VolumeState) → IsTreeFork id → GrowsFile id more fresh old new → HasRightBits old → IsShaped old
    → IsShaped new × HasRightBits new × CountsBlocks (length fresh) 0 old new

-- Each overflow record that is none of bad blocks has an extent in use.
abbrev pub RecordsHaveExtents : Type 0
RecordsHaveExtents = (volume : VolumeState) → HasForks volume → (more : Overflow) → Contains (overflow_in_volume volume) more → more.id ≢ bad_blocks_id → 0 < length (in_use more.extents)

-- Other dates, counts and ids in the header keep the rules, and nothing that is counted changes.
abbrev pub HeaderChanged : Type 0
HeaderChanged = (old new : VolumeState) → InHeader old new → IsGoodHeader new.sectors new.head → IsShaped old → IsShaped new × CountsSame old new

-- ---- the tree

-- whether a folder is hidden is computed rightly
abbrev pub HiddenIsComputed : Type 0
HiddenIsComputed = (records : List Placed) (next folder : ℕ) → HaveIds next (entries_of records) → AreRooted (entries_of records) → IsHidden records folder ↔ (is_hidden records folder ≡ true)

-- ---- values in forks

-- What values take and give back keeps the rules, where each record is one of an attribute and each value is one: each bit is right again, and
-- so many more blocks are used as are fresh, and so many fewer as are given back.
abbrev pub ValuesPut : Type 0
ValuesPut =
    (fresh freed : List ℕ) (old new : VolumeState) → TradesBlocks fresh freed old new
    → ((pair : Pair) → Contains new.attribute_pairs pair → IsAttribute (records_of old) pair)
    → All (IsValue (attributes_of new)) (attributes_of new)
    → All (HasValueSizes old.head.total_blocks old.head.block_size (attributes_of new)) (attributes_of new)
    → HasRightBits old → IsShaped old → IsShaped new × HasRightBits new × CountsBlocks (length fresh) (length freed) old new

-- An attribute that is removed gives the blocks of its value back: the same.
abbrev pub ValueFreed : Type 0
ValueFreed =
    (id : ℕ) (name : List ℕ) (freed : List ℕ) (old new : VolumeState) → DropsAttribute id name old.attribute_pairs new.attribute_pairs → TradesBlocks [] freed old new → HasRightBits old → IsShaped old
    → IsShaped new × HasRightBits new × CountsBlocks 0 (length freed) old new
