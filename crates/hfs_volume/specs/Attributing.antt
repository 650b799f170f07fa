-- What `setattr`, `delattr` and `at` do to the lists of a volume: the changes that their code hands in, and what they lead to.
use Rattle.std.specs.Prelude.{◌≡◌, ◌<◌, ◌≤◌, ℕ, List, [], Ok, length}
use Rattle.hx_bytes.specs.declared.extents.Extent.{Extent}
use Rattle.fork_map.specs.Blocks.{blocks_of}
use Rattle.hfs_language.specs.declared.command.Command.TheVariants as command
use Rattle.hfs_model.specs.declared.plain.PlainAttribute.{PlainAttribute}
use Rattle.hfs_model.specs.declared.plain.PlainNode.{PlainNode}
use Rattle.hfs_model.specs.Step.{step, to_set, to_attribute}
use Rattle.hfs_volume.specs.Content.{VolumeState, attributes_of}
use Rattle.hfs_volume.specs.Forks.{parts_for}
use Rattle.hfs_volume.specs.Values.{longest_inline, value_blocks}
use Rattle.hfs_volume.specs.Data.{PutsInValues}
use Rattle.volume_header.specs.declared.header.VolumeHeader.{VolumeHeader}
use Rattle.hfs_volume.specs.Blocks.{IsGoodHeader}
use Rattle.hfs_volume.specs.Sound.{IsSoundVolume}
use Rattle.hfs_volume.specs.TreeOf.{tree_in, BytesOf}
use Rattle.hfs_volume.specs.Changes.{with_numbers, AreSorted, AddsAttribute, DropsAttribute, AreSortedAttributes, InAttributes, InValues, SetsFork}
use Rattle.hfs_volume.specs.Commands.{AreBytesOf, ChangesFields, IsMarkedAlone}

-- `setattr` of a value that stands in its record: an attribute of the name that was there is gone, whose blocks are given back, the new one is
-- there, and the folder or file has a new attribute date
pub record SetsAttribute (id : ℕ) (name value : List ℕ) (old new : VolumeState) : Type 0 where
  pub sorted : AreSorted old.catalog_pairs
  pub bared : VolumeState
  pub bares : InValues (DropsAttribute id name) [] (value_blocks (attributes_of old) id name) old bared
  pub added : VolumeState
  pub adds : InAttributes (AddsAttribute id name value) bared added
  pub sorted_again : AreSortedAttributes added.attribute_pairs
  pub marks : ChangesFields id (IsMarkedAlone old.head.modify_date) added new

-- `setattr` of a value that has blocks of its own: it has so many bytes in these extents, which were free, in place of what the name had, and
-- the folder or file has a new attribute date
pub record SetsAttributeFork (id : ℕ) (name : List ℕ) (size : ℕ) (extents : List Extent) (old new : VolumeState) : Type 0 where
  pub sorted : AreSorted old.catalog_pairs
  pub many : length (blocks_of extents) ≡ parts_for size old.head.block_size
  pub set : VolumeState
  pub sets : InValues (SetsFork id name size extents) (blocks_of extents) (value_blocks (attributes_of old) id name) old set
  pub sorted_again : AreSortedAttributes set.attribute_pairs
  pub marks : ChangesFields id (IsMarkedAlone old.head.modify_date) set new

-- `delattr`: the attribute of the name is gone, whose blocks are given back, and the folder or file has a new attribute date
pub record DeletesAttribute (id : ℕ) (name : List ℕ) (old new : VolumeState) : Type 0 where
  pub sorted : AreSorted old.catalog_pairs
  pub bared : VolumeState
  pub bares : InValues (DropsAttribute id name) [] (value_blocks (attributes_of old) id name) old bared
  pub marks : ChangesFields id (IsMarkedAlone old.head.modify_date) bared new

-- `setattr` of a short value: where the step refuses nothing, the lists that the changes lead to are those of a sound volume, and tell the step's
-- tree; the value has no block, and all others have theirs. Names of attributes aren't empty.
abbrev pub SetAttrDoes : Type 0
SetAttrDoes =
    (path : List (List ℕ)) (name value : List ℕ) (node : PlainNode) (old new : VolumeState) (bytes_of : BytesOf) → AreBytesOf bytes_of → IsSoundVolume old → 0 < length name → length value ≤ longest_inline
    → to_set (tree_in old bytes_of) path value ≡ Ok node → SetsAttribute node.id name value old new
    → IsSoundVolume new × (tree_in new bytes_of ≡ (step (tree_in old bytes_of) (command.SetAttr path name value)).1) × PutsInValues (tree_in old bytes_of) (command.SetAttr path name value) old new

-- The same of a longer value, where its blocks hold its bytes, and files and all other values have the bytes that they had.
abbrev pub SetForkDoes : Type 0
SetForkDoes =
    (path : List (List ℕ)) (name value : List ℕ) (extents : List Extent) (node : PlainNode) (old new : VolumeState) (bytes_of bytes_after : BytesOf) → AreBytesOf bytes_after → IsSoundVolume old
    → 0 < length name → longest_inline < length value → bytes_after.value (length value) extents ≡ value → tree_in old bytes_after ≡ tree_in old bytes_of
    → to_set (tree_in old bytes_of) path value ≡ Ok node → SetsAttributeFork node.id name (length value) extents old new
    → IsSoundVolume new × (tree_in new bytes_after ≡ (step (tree_in old bytes_of) (command.SetAttr path name value)).1) × PutsInValues (tree_in old bytes_of) (command.SetAttr path name value) old new

-- The same for `delattr`: the name has no block, and all other values have theirs.
abbrev pub DelAttrDoes : Type 0
DelAttrDoes =
    (path : List (List ℕ)) (name : List ℕ) (node : PlainNode) (attribute : PlainAttribute) (old new : VolumeState) (bytes_of : BytesOf) → AreBytesOf bytes_of → IsSoundVolume old
    → to_attribute (tree_in old bytes_of) path name ≡ Ok (node, attribute) → DeletesAttribute node.id name old new
    → IsSoundVolume new × (tree_in new bytes_of ≡ (step (tree_in old bytes_of) (command.DelAttr path name)).1) × PutsInValues (tree_in old bytes_of) (command.DelAttr path name) old new

-- a volume with another moment in its header
abbrev pub at_moment : ℕ → VolumeState → VolumeState
at_moment moment volume = record volume { head = record volume.head { modify_date = moment } }

-- `at`: the header has another moment, and the lists are those of a sound volume, and tell the step's tree
abbrev pub AtDoes : Type 0
AtDoes =
    (moment : ℕ) (old : VolumeState) (bytes_of : BytesOf) → IsSoundVolume old → IsSoundVolume (at_moment moment old) × (tree_in (at_moment moment old) bytes_of ≡ (step (tree_in old bytes_of) (command.At moment)).1)

-- A header with other numbers, such as a mount writes: the version that it was mounted with, whether it is in use, how often it was written.
-- The counts, the next id and the moment are as they were.
pub record IsRemounted (old new : VolumeHeader) : Type 0 where
  pub files : new.file_count ≡ old.file_count
  pub folders : new.folder_count ≡ old.folder_count
  pub free : new.free_blocks ≡ old.free_blocks
  pub next : new.next_catalog_id ≡ old.next_catalog_id
  pub moment : new.modify_date ≡ old.modify_date

-- a volume whose header has the numbers of another
abbrev pub with_header_numbers : VolumeHeader → VolumeState → VolumeState
with_header_numbers head volume = record volume { head = with_numbers volume.head head }

-- a mount's header: the lists are those of a sound volume, and the tree is as it was
abbrev pub RemountKeeps : Type 0
RemountKeeps =
    (head : VolumeHeader) (old : VolumeState) (bytes_of : BytesOf) → IsSoundVolume old → IsGoodHeader old.sectors (with_numbers old.head head) → IsRemounted old.head head
    → IsSoundVolume (with_header_numbers head old) × (tree_in (with_header_numbers head old) bytes_of ≡ tree_in old bytes_of)
