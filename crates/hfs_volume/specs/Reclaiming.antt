-- What the last steps of an orphan's removal do to the lists of a volume: an attribute that goes, and the entry that goes.
use Rattle.std.specs.Prelude.{◌≡◌, ℕ, List, [], Contains, Option, Some}
use Rattle.std.specs.List.{flat_map}
use Rattle.btree_node.specs.Levels.{Pair}
use Rattle.hfs_volume.specs.Records.{Placed, id_of, attribute_of}
use Rattle.hfs_volume.specs.Forks.{forks_in, blocks_owned}
use Rattle.hfs_volume.specs.Links.{orphans_of}
use Rattle.hfs_volume.specs.Values.{value_blocks}
use Rattle.hfs_volume.specs.Content.{VolumeState, records_of, overflow_in_volume, attributes_of}
use Rattle.hfs_volume.specs.Reclaim.{Does, DropAttribute, DropOrphan, next_reclaim}
use Rattle.hfs_volume.specs.Sound.{IsSoundVolume}
use Rattle.hfs_volume.specs.TreeOf.{tree_in, BytesOf}
use Rattle.hfs_volume.specs.Changes.{AreSorted, DropsEntry, DropsAttribute, InCatalog, InValues}
use Rattle.hfs_volume.specs.Commands.{AreBytesOf, ChangesFields, IsRecounted}
use Rattle.hfs_volume.specs.Naming.{one_file_less}

-- The entry of a file that lost its last name goes, with its thread, and the private folder has one entry less.
pub record DropsOrphanEntry (id : ℕ) (old new : VolumeState) : Type 0 where
  pub sorted : AreSorted old.catalog_pairs
  pub entry : Placed
  pub is_orphan : Contains (orphans_of (records_of old)) entry
  pub is_entry : id_of entry ≡ id
  pub no_blocks : flat_map (blocks_owned (overflow_in_volume old)) (forks_in entry.value) ≡ []
  pub no_attributes : (pair : Pair) → Contains old.attribute_pairs pair → (attribute_of pair).id ≡ id → ⊥
  pub dropped : VolumeState
  pub drops : InCatalog (DropsEntry entry) (one_file_less old) dropped
  pub loses : ChangesFields entry.parent (IsRecounted 0 1) dropped new

-- The lists that this leads to are those of a sound volume, and tell the tree that was told; the entry is gone, and every fork has its blocks.
abbrev pub OrphanDropped : Type 0
OrphanDropped =
    (id : ℕ) (old new : VolumeState) (bytes_of : BytesOf) → AreBytesOf bytes_of → IsSoundVolume old → DropsOrphanEntry id old new
    → IsSoundVolume new × (tree_in new bytes_of ≡ tree_in old bytes_of) × Does (DropOrphan id) old new

-- An attribute of a file that lost its last name goes, whose blocks are given back: the same, and it is that attribute alone.
abbrev pub OrphanBared : Type 0
OrphanBared =
    (entry : Placed) (name : List ℕ) (old new : VolumeState) (bytes_of : BytesOf) → AreSorted old.catalog_pairs → IsSoundVolume old → Contains (orphans_of (records_of old)) entry
    → InValues (DropsAttribute (id_of entry) name) [] (value_blocks (attributes_of old) (id_of entry) name) old new
    → IsSoundVolume new × (tree_in new bytes_of ≡ tree_in old bytes_of) × Does (DropAttribute (id_of entry) name) old new

-- ---- the next step is one of these

-- A file that lost its last name, and has neither blocks nor attributes any more.
pub record IsBareOrphan (id : ℕ) (volume : VolumeState) : Type 0 where
  pub entry : Placed
  pub is_orphan : Contains (orphans_of (records_of volume)) entry
  pub is_entry : id_of entry ≡ id
  pub no_blocks : flat_map (blocks_owned (overflow_in_volume volume)) (forks_in entry.value) ≡ []
  pub no_attributes : (pair : Pair) → Contains volume.attribute_pairs pair → (attribute_of pair).id ≡ id → ⊥

-- A file that lost its last name and has no blocks any more, but an attribute of this name.
pub record HasLastAttribute (id : ℕ) (name : List ℕ) (volume : VolumeState) : Type 0 where
  pub entry : Placed
  pub is_orphan : Contains (orphans_of (records_of volume)) entry
  pub is_entry : id_of entry ≡ id
  pub no_blocks : flat_map (blocks_owned (overflow_in_volume volume)) (forks_in entry.value) ≡ []
  pub pair : Pair
  pub stands : Contains volume.attribute_pairs pair
  pub owner : (attribute_of pair).id ≡ id
  pub named : (attribute_of pair).name ≡ name

-- Where the next step of reclaiming drops an entry, there is such an orphan for it.
abbrev pub DropIsOfBareOrphan : Type 0
DropIsOfBareOrphan = (volume : VolumeState) (shrunk : Option ℕ) (id : ℕ) → IsSoundVolume volume → next_reclaim volume shrunk ≡ Some (DropOrphan id) → IsBareOrphan id volume

-- Where it drops an attribute, there is such an attribute of an orphan.
abbrev pub DropIsOfAttribute : Type 0
DropIsOfAttribute = (volume : VolumeState) (shrunk : Option ℕ) (id : ℕ) (name : List ℕ) → IsSoundVolume volume → next_reclaim volume shrunk ≡ Some (DropAttribute id name) → HasLastAttribute id name volume
