-- A volume that comes into service.
use Rattle.std.specs.Prelude.{Contains, ◌≡◌, ℕ, ◌+◌, ◌*◌, ◌==◌, ◌||◌, nat_le, Bool, IsTrue, Option, Some, None, length}
use Rattle.cat_records.specs.declared.record.CatRecord.{CatRecord}
use Rattle.cat_records.specs.declared.record.CatRecord.TheVariants.{Folder, File, Thread}
use Rattle.hx_bytes.specs.declared.extents.Extent.{Extent}
use Rattle.hx_bytes.specs.declared.extents.ForkRecord.{ForkRecord}
use Rattle.jnl_format.specs.Recovery.{Content, header_of_volume}
use Rattle.sector_disk.specs.Space.{Space}
use Rattle.volume_header.specs.declared.header.VolumeHeader.{VolumeHeader}
use Rattle.flag_rows.specs.Bits.{sectors_for}
use Rattle.alloc_bitmap.specs.Fork.{HoldsBits}
use Rattle.fork_map.specs.Blocks.{fork_sectors}
use Rattle.alloc_bitmap.specs.Map.{none}
use Rattle.btree_file.specs.Standing.{Stands, pairs_in}
use Rattle.btree_file.specs.State.{sectors_of_tree}
use Rattle.btree_file.specs.declared.tree.TreeFile.{TreeFile}
use Rattle.hfs_volume.specs.Content.{overflow_of_content, has_attributes}
use Rattle.hfs_volume.specs.Forks.{extents_of, per_block_of, data_kind, extents_id, catalog_id, allocation_id, attributes_id}
use Rattle.hfs_volume.specs.Links.{private_id}
use Rattle.hfs_volume.specs.Records.{placed_in}
use Rattle.hfs_volume.specs.Sound.{IsSound}
use Rattle.volume_base.specs.Keeping.{IsKept}
use Rattle.volume_base.specs.Service.{IsTreeInService}
use Rattle.volume_base.specs.Standing.{AreWhole, own_sectors_in}
use Rattle.volume_base.specs.Touching.{Looks}
use Rattle.volume_base.specs.declared.volume.Tree.{Tree}
use Rattle.volume_base.specs.declared.volume.Volume.{Volume}

-- an extent without blocks, or one that ends in so many sectors, where a block has so many
abbrev pub ends_inside : ℕ → ℕ → Extent → Bool
ends_inside per_block sectors extent = (extent.count == 0) || nat_le ((extent.start + extent.count) * per_block) sectors

-- A content that can be served: it is sound, and each of its sectors has its bytes.
pub record IsServable (content : Content) : Type 0 where
  pub sound : IsSound content
  pub whole : AreWhole content

-- A tree file stands over a content at the extents of a special file.
pub record IsFileOf (id : ℕ) (fork : ForkRecord) (tree : TreeFile) (content : Content) : Type 0 where
  pub stands : Stands tree content
  pub extents : tree.fork ≡ extents_of (overflow_of_content content) id data_kind fork
  pub per_block : tree.per_block ≡ per_block_of (header_of_volume content)

-- What was read of a space that can be served, up to a later moment: its header, and its extents overflow file. Nothing else was done.
pub record HasBegun (old new : Space) (header : VolumeHeader) (extents : Tree) : Type 0 where
  pub looks : Looks (λ at. Contains (own_sectors_in old.content) at) old new
  pub head : IsTrue old.tells → header ≡ header_of_volume old.content
  pub service : IsTreeInService extents new
  pub file : IsTrue old.tells → IsFileOf extents_id (header_of_volume old.content).extents_fork extents.file old.content

-- the CNID in a folder's record
abbrev pub folder_in : CatRecord → Option ℕ
folder_in (Folder folder) = Some folder.fields.id
folder_in (File file) = None
folder_in (Thread thread) = None

-- the CNID of a folder that was found
abbrev pub folder_found : Option CatRecord → Option ℕ
folder_found None = None
folder_found (Some rec) = folder_in rec

-- A volume as it comes into service over a content: its header and the files that it names, the bits of its blocks, and its private folder.
pub record IsOpened (volume : Volume) (content : Content) : Type 0 where
  pub header : volume.header ≡ header_of_volume content
  pub extents : IsFileOf extents_id (header_of_volume content).extents_fork volume.extents.file content
  pub catalog : IsFileOf catalog_id (header_of_volume content).catalog_fork volume.catalog.file content
  pub attributes : IsTrue (has_attributes (header_of_volume content)) → IsFileOf attributes_id (header_of_volume content).attributes_fork volume.attributes.file content
  pub map : volume.map.fork ≡ extents_of (overflow_of_content content) allocation_id data_kind (header_of_volume content).allocation_fork
  pub map_per : volume.map.per_block ≡ per_block_of (header_of_volume content)
  pub blocks : length volume.map.used ≡ (header_of_volume content).total_blocks
  pub bits : HoldsBits content (fork_sectors volume.map.fork volume.map.per_block) volume.map.used
  pub private : volume.private ≡ private_id (placed_in (pairs_in (sectors_of_tree volume.catalog.file) content))

-- A volume of which nothing was changed since it came into service: no block is held, no file was shrunk, no growth is in hand, and an undo changes
-- nothing.
pub record IsFresh (capacity : ℕ) (volume : Volume) : Type 0 where
  pub held : volume.map.held ≡ none (length volume.map.used)
  pub changed : volume.map.changed ≡ none (sectors_for (length volume.map.used))
  pub kept : IsKept volume
  pub shrunk : volume.shrunk ≡ None
  pub filling : volume.filling ≡ None
  pub capacity_is : volume.capacity ≡ capacity
