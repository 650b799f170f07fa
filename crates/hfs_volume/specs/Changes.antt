-- The changes that commands are made of, over the lists of a volume.
use Rattle.fork_map.specs.Blocks.{blocks_of}
use Rattle.std.specs.List.{flat_map}
use Rattle.hx_bytes.specs.declared.extents.Extent.{Extent}
use Rattle.alloc_bitmap.specs.Apart.{times}
use Rattle.hfs_volume.specs.Values.{blocks_of_values, is_more, GoOnIn, used_extents}
use Rattle.std.specs.Prelude.{Bool, ◌&&◌, map, ◌==◌, if◌then◌else◌, not, ◌≡◌, ◌≢◌, ◌⊎◌, ◌≤◌, ℕ, ℤ, ◌+◌, ◌*◌, pos, true, false, List, [], ◌++◌, length, take, drop, insert, remove, slice_get, slice_set, All, Contains, Some, IsTrue, ◌∷◌}
use Rattle.std.specs.Str.{bytes_eq}
use Rattle.std.specs.Ordering.{is_lt, nat_cmp, ordering_then}
use Rattle.std.specs.Cmp.Lexicographic.{slice_cmp}
use Rattle.hx_bytes.specs.declared.extents.ForkRecord.{ForkRecord}
use Rattle.volume_header.specs.declared.header.VolumeHeader.{VolumeHeader}
use Rattle.btree_node.specs.Levels.{Pair}
use Rattle.cat_records.specs.Keys.{catalog_key_bytes}
use Rattle.cat_records.specs.Records.{catalog_bytes, is_catalog}
use Rattle.cat_records.specs.Attributes.{is_attr}
use Rattle.cat_records.specs.declared.record.FileRecord.{FileRecord}
use Rattle.cat_records.specs.declared.record.CatRecord.{CatRecord}
use Rattle.cat_records.specs.declared.record.CatRecord.TheVariants.{File, Thread}
use Rattle.cat_records.specs.declared.attribute.AttrRecord.TheVariants.{Inline, Fork}
use Rattle.hfs_model.specs.Sorted.{kept, IsInOrder}
use Rattle.hfs_volume.specs.Records.{Placed, Attribute, placed_of, placed_in, placed_before, attribute_of, is_folder, is_file, is_link, is_link_type, id_of, special_of}
use Rattle.hfs_volume.specs.Forks.{is_of, data_kind, resource_kind, extents_id, catalog_id, attributes_id, forks_in, is_full, in_use}
use Rattle.hfs_volume.specs.Content.{overflow_in_volume, facts_at, VolumeState, TreeFacts, is_set, has_attributes}
use Rattle.hfs_volume.specs.Blocks.{HasSizes, GoesOn}
use Rattle.hfs_volume.specs.Reclaim.{IsTreeFork, blocks_at}
use Rattle.hfs_volume.specs.Data.{AreFresh}

-- ---- lists

-- one item more
pub record Adds {X : Type 0} (item : X) (old new : List X) : Type 0 where
  pub place : ℕ
  pub within : place ≤ length old
  pub is : new ≡ insert old place item

-- one item less
pub record Drops {X : Type 0} (item : X) (old new : List X) : Type 0 where
  pub place : ℕ
  pub at : slice_get old place ≡ Some item
  pub is : new ≡ remove old place

-- one item is another
pub record Swaps {X : Type 0} (item other : X) (old new : List X) : Type 0 where
  pub place : ℕ
  pub at : slice_get old place ≡ Some item
  pub is : new ≡ slice_set old place other

-- ---- the catalog

-- the records stand in the order of their keys
abbrev pub AreSorted : List Pair → Type 0
AreSorted pairs = IsInOrder placed_before (placed_in pairs)

-- the pair of a record
abbrev pub pair_of : Placed → Pair
pair_of placed = (catalog_key_bytes placed.parent placed.name, catalog_bytes placed.value)

-- the thread of an entry, with this in its reserved word
abbrev pub thread_with : ℤ → Placed → Placed
thread_with spare entry = record { parent = id_of entry; name = []; value = Thread (record { of_file = is_file entry.value; spare = spare; parent = entry.parent; name = entry.name }) }

-- the thread of an entry as it is made: nothing is reserved yet
abbrev pub thread_of : Placed → Placed
thread_of entry = thread_with (pos 0) entry

-- a record of the tree is this one, whatever its reserved bytes say
abbrev pub Stands : Placed → Pair → Type 0
Stands placed pair = placed_of pair ≡ placed

-- a pair spells this record
pub record Spells (placed : Placed) (pair : Pair) : Type 0 where
  pub stands : Stands placed pair
  pub spelled : IsTrue (is_catalog pair.1)

-- an entry and its thread were added, whatever the thread has in its reserved word
pub record AddsEntry (entry : Placed) (old new : List Pair) : Type 0 where
  pub between : List Pair
  pub pair : Pair
  pub is_entry : Spells entry pair
  pub entry_added : Adds pair old between
  pub thread : Pair
  pub spare : ℤ
  pub is_thread : Spells (thread_with spare entry) thread
  pub thread_added : Adds thread between new

-- an entry was added, and a thread of it that has this in its reserved word
abbrev pub AddsWith : ℤ → Placed → List Pair → List Pair → Type 0
AddsWith spare entry old new = (added : AddsEntry entry old new) × (added.spare ≡ spare)

-- an entry and its thread were removed: put back, they give the old list
abbrev pub DropsEntry : Placed → List Pair → List Pair → Type 0
DropsEntry entry old new = AddsEntry entry new old

-- an entry stands at another place, as does its thread's text
pub record MovesEntry (entry : Placed) (parent : ℕ) (name : List ℕ) (old new : List Pair) : Type 0 where
  pub between : List Pair
  pub out : DropsEntry entry old between
  pub back : AddsEntry (record entry { parent = parent; name = name }) between new

-- another record at the same place, of the same kind and CNID; a link stays one and names what it named
pub record SameKind (entry other : Placed) : Type 0 where
  pub place : (other.parent ≡ entry.parent) × (other.name ≡ entry.name)
  pub kind : (is_folder other.value ≡ is_folder entry.value) × (is_file other.value ≡ is_file entry.value)
  pub id : id_of other ≡ id_of entry
  pub link : is_link other ≡ is_link entry
  pub reference : is_link entry ≡ true → special_of other ≡ special_of entry

-- an entry has another value, of its kind and with its forks
pub record ChangesValue (entry : Placed) (value : CatRecord) (old new : List Pair) : Type 0 where
  pub pair : Pair
  pub is_entry : Stands entry pair
  pub other : Pair
  pub is_other : Spells (record entry { value = value }) other
  pub swapped : Swaps pair other old new
  pub alike : SameKind entry (record entry { value = value })
  pub forks : forks_in value ≡ forks_in entry.value

-- as many nodes, of the same size
pub record HasSameNodes (old new : TreeFacts) : Type 0 where
  pub total : new.shape.total ≡ old.shape.total
  pub size : new.shape.node_size ≡ old.shape.node_size

-- so many nodes more, of the same size
pub record HasMoreNodes (more : ℕ) (old new : TreeFacts) : Type 0 where
  pub total : new.shape.total ≡ old.shape.total + more
  pub size : new.shape.node_size ≡ old.shape.node_size

-- the same on a volume: the catalog alone has changed, and the numbers of its tree, but not those of its nodes
pub record InCatalog (Changes : List Pair → List Pair → Type 0) (old new : VolumeState) : Type 0 where
  pub changes : Changes old.catalog_pairs new.catalog_pairs
  pub nodes : HasSameNodes old.catalog_tree new.catalog_tree
  pub rest : new ≡ record old { catalog_pairs = new.catalog_pairs; catalog_tree = new.catalog_tree }

-- ---- attributes

-- an attribute whose value stands in its record was added
pub record AddsAttribute (id : ℕ) (name value : List ℕ) (old new : List Pair) : Type 0 where
  pub pair : Pair
  pub stands : attribute_of pair ≡ record { id = id; name = name; start = 0; value = Inline value }
  pub spelled : IsTrue (is_attr pair.1)
  pub added : Adds pair old new

-- an attribute is that of this name of this folder or file
abbrev pub is_attribute_of : ℕ → List ℕ → Attribute → Bool
is_attribute_of id name attribute = (attribute.id == id) && bytes_eq attribute.name name

-- the attribute of this name isn't there any more, if it was, and all others are
abbrev pub DropsAttribute : ℕ → List ℕ → List Pair → List Pair → Type 0
DropsAttribute id name old new = new ≡ kept (λ pair. not (is_attribute_of id name (attribute_of pair))) old

-- keys of attributes are in this order: by the number of the folder or file, then by the name's units, then by the place in the value
abbrev pub attribute_before : Attribute → Attribute → Bool
attribute_before one other = is_lt (ordering_then (nat_cmp one.id other.id) (ordering_then (slice_cmp nat_cmp one.name other.name) (nat_cmp one.start other.start)))

-- the attributes stand in the order of their keys
abbrev pub AreSortedAttributes : List Pair → Type 0
AreSortedAttributes pairs = IsInOrder attribute_before (map attribute_of pairs)

-- the attributes alone have changed, and the numbers of their tree, but not those of its nodes
pub record InAttributes (Changes : List Pair → List Pair → Type 0) (old new : VolumeState) : Type 0 where
  pub changes : Changes old.attribute_pairs new.attribute_pairs
  pub nodes : HasSameNodes old.attributes_tree new.attributes_tree
  pub rest : new ≡ record old { attribute_pairs = new.attribute_pairs; attributes_tree = new.attributes_tree }

-- ---- blocks

-- a block's bit is set where it is among the fresh ones, clear where it is among the freed ones, and else as it was
pub record FlipsBits (fresh freed : List ℕ) (old new : VolumeState) : Type 0 where
  pub size : length new.bits ≡ length old.bits
  pub taken : All (λ block. is_set new block ≡ true) fresh
  pub given : All (λ block. is_set new block ≡ false) freed
  pub others : (block : ℕ) → (Contains fresh block → ⊥) → (Contains freed block → ⊥) → is_set new block ≡ is_set old block

-- the file with another fork of this kind
abbrev pub with_fork : ℕ → ForkRecord → FileRecord → FileRecord
with_fork kind fork file = if kind == data_kind then record file { data_fork = fork } else record file { resource_fork = fork }

-- The record of this file, which isn't a link, has another fork of this kind.
pub record SwapsFork (id kind : ℕ) (old new : List Pair) : Type 0 where
  pub entry : Placed
  pub pair : Pair
  pub is_entry : Stands entry pair
  pub file : FileRecord
  pub is_file : (entry.value ≡ File file) × (file.fields.id ≡ id) × (is_link_type file.fields ≡ false)
  pub fork : ForkRecord
  pub other : Pair
  pub is_other : Spells (record entry { value = File (with_fork kind fork file) }) other
  pub swapped : Swaps pair other old new

-- the fork has as many blocks as it says, which hold its bytes, and goes on behind its record
abbrev pub IsStored : ℕ → ℕ → ForkRecord → VolumeState → Type 0
IsStored id kind fork volume =
    HasSizes volume.head (overflow_in_volume volume) (record { id = id; kind = kind; fork = fork }) × GoesOn (overflow_in_volume volume) (record { id = id; kind = kind; fork = fork })

-- Some blocks of a file's fork, from a place on, have fresh ones in their place: none for a cut, and in place of none where blocks are added.
-- The file's record and the fork's overflow records say so, and so do the bits; every other fork has the blocks that it had, and no tree
-- has another number of nodes.
pub record PutsBlocks (id kind from count : ℕ) (fresh : List ℕ) (old new : VolumeState) : Type 0 where
  pub is_kind : (kind ≡ data_kind) ⊎ (kind ≡ resource_kind)
  pub are_fresh : AreFresh old fresh
  pub within : from + count ≤ length (blocks_at old id kind)
  pub is : blocks_at new id kind ≡ take from (blocks_at old id kind) ++ (fresh ++ drop (from + count) (blocks_at old id kind))
  pub file : SwapsFork id kind old.catalog_pairs new.catalog_pairs
  pub stored : IsStored id kind file.fork new
  pub others : kept (λ more. not (is_of id kind more)) (overflow_in_volume new) ≡ kept (λ more. not (is_of id kind more)) (overflow_in_volume old)
  pub flips : FlipsBits fresh (take count (drop from (blocks_at old id kind))) old new
  pub catalog_nodes : HasSameNodes old.catalog_tree new.catalog_tree
  pub extents_nodes : HasSameNodes old.extents_tree new.extents_tree
  pub rest : new ≡ record old { catalog_pairs = new.catalog_pairs; catalog_tree = new.catalog_tree; overflow_pairs = new.overflow_pairs; extents_tree = new.extents_tree; bits = new.bits }

-- the header with another fork of this special file
abbrev pub with_tree_fork : ℕ → ForkRecord → VolumeHeader → VolumeHeader
with_tree_fork id fork head =
    if id == extents_id then record head { extents_fork = fork } else if id == catalog_id then record head { catalog_fork = fork } else record head { attributes_fork = fork }

-- A tree's file has more blocks behind those that it had, and as many more nodes as fill them. The extents overflow file is as it was where
-- it is the one that grows, and else says where the blocks are; the nodes of the other trees are as many as before.
pub record GrowsFile (id more : ℕ) (fresh : List ℕ) (old new : VolumeState) : Type 0 where
  pub are_fresh : AreFresh old fresh
  pub is : blocks_at new id data_kind ≡ blocks_at old id data_kind ++ fresh
  pub there : id ≡ attributes_id → IsTrue (has_attributes old.head)
  pub nodes : HasMoreNodes more (facts_at old id) (facts_at new id)
  pub whole : length fresh * old.head.block_size ≡ more * (facts_at old id).shape.node_size
  pub fork : ForkRecord
  pub size : fork.logical_size ≡ fork.total_blocks * old.head.block_size
  pub stored : IsStored id data_kind fork new
  pub others : kept (λ more_record. not (is_of id data_kind more_record)) (overflow_in_volume new) ≡ kept (λ more_record. not (is_of id data_kind more_record)) (overflow_in_volume old)
  pub own : id ≡ extents_id → new.overflow_pairs ≡ old.overflow_pairs
  pub flips : FlipsBits fresh [] old new
  pub other_trees : (other : ℕ) → IsTreeFork other → other ≢ id → HasSameNodes (facts_at old other) (facts_at new other)
  pub rest : new ≡ record old {
    head = with_tree_fork id fork old.head;
    overflow_pairs = new.overflow_pairs;
    extents_tree = new.extents_tree;
    catalog_tree = new.catalog_tree;
    attributes_tree = new.attributes_tree;
    bits = new.bits;
  }

-- ---- the header

-- a header with the fields of another that say nothing of geometry and forks: dates, counts, the next id, and what mounts write
abbrev pub with_numbers : VolumeHeader → VolumeHeader → VolumeHeader
with_numbers head other = record head {
  attributes = other.attributes;
  last_mounted_version = other.last_mounted_version;
  create_date = other.create_date;
  modify_date = other.modify_date;
  backup_date = other.backup_date;
  checked_date = other.checked_date;
  file_count = other.file_count;
  folder_count = other.folder_count;
  free_blocks = other.free_blocks;
  next_allocation = other.next_allocation;
  rsrc_clump_size = other.rsrc_clump_size;
  data_clump_size = other.data_clump_size;
  next_catalog_id = other.next_catalog_id;
  write_count = other.write_count;
  encodings_bitmap = other.encodings_bitmap;
  finder_info = other.finder_info;
}

-- a header with another number of free blocks, and another block at which the search for free ones begins
abbrev pub with_free : ℕ → ℕ → VolumeHeader → VolumeHeader
with_free free next head = record head { free_blocks = free; next_allocation = next }

-- only such fields have changed, and the next id doesn't fall
pub record ChangesHeader (old new : VolumeHeader) : Type 0 where
  pub numbers : new ≡ with_numbers old new
  pub next : old.next_catalog_id ≤ new.next_catalog_id

abbrev pub InHeader : VolumeState → VolumeState → Type 0
InHeader old new = ChangesHeader old.head new.head × (new ≡ record old { head = new.head })

-- ---- values in forks

-- The attributes alone have changed, and the numbers of their tree, but not those of its nodes: values took these blocks, which were free,
-- and gave back those. The bits say so.
pub record TradesBlocks (fresh freed : List ℕ) (old new : VolumeState) : Type 0 where
  pub are_fresh : AreFresh old fresh
  pub blocks : (block : ℕ) → times block (blocks_of_values (map attribute_of new.attribute_pairs)) + times block freed ≡ times block (blocks_of_values (map attribute_of old.attribute_pairs)) + times block fresh
  pub were : (block : ℕ) → times block freed ≤ times block (blocks_of_values (map attribute_of old.attribute_pairs))
  pub flips : FlipsBits fresh freed old new
  pub nodes : HasSameNodes old.attributes_tree new.attributes_tree
  pub rest : new ≡ record old { attribute_pairs = new.attribute_pairs; attributes_tree = new.attributes_tree; bits = new.bits }

-- The attribute of this name has a value of so many bytes in these extents, in place of what it had; all other records are as they were.
pub record SetsFork (id : ℕ) (name : List ℕ) (size : ℕ) (extents : List Extent) (old new : List Pair) : Type 0 where
  pub others : kept (λ pair. not (is_attribute_of id name (attribute_of pair))) new ≡ kept (λ pair. not (is_attribute_of id name (attribute_of pair))) old
  pub first : Pair
  pub further : List Pair
  pub records : kept (λ pair. is_attribute_of id name (attribute_of pair)) new ≡ first ∷ further
  pub fork : ForkRecord
  pub is_first : attribute_of first ≡ record { id = id; name = name; start = 0; value = Fork fork }
  pub are_further : All (λ pair. is_more (attribute_of pair).value ≡ true) further
  pub go_on : GoOnIn (length (blocks_of fork.extents.extents)) (is_full fork.extents.extents) (map attribute_of further)
  pub extents_are : in_use fork.extents.extents ++ flat_map used_extents (map attribute_of further) ≡ extents
  pub size_is : fork.logical_size ≡ size
  pub total : fork.total_blocks ≡ length (blocks_of extents)
  pub spelled : All (λ pair. IsTrue (is_attr pair.1)) (first ∷ further)

-- The attributes have changed so, and the numbers of their tree, but not those of its nodes: values took these blocks, which were free, and
-- gave back those. The bits say so, and the header counts the free blocks anew.
pub record InValues (Changes : List Pair → List Pair → Type 0) (fresh freed : List ℕ) (old new : VolumeState) : Type 0 where
  pub changes : Changes old.attribute_pairs new.attribute_pairs
  pub are_fresh : AreFresh old fresh
  pub flips : FlipsBits fresh freed old new
  pub nodes : HasSameNodes old.attributes_tree new.attributes_tree
  pub free : ℕ
  pub next : ℕ
  pub counts : free + length fresh ≡ old.head.free_blocks + length freed
  pub rest : new ≡ record old { head = with_free free next old.head; attribute_pairs = new.attribute_pairs; attributes_tree = new.attributes_tree; bits = new.bits }
