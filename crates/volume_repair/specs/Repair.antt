-- The repair of a content: its sectors with all that is counted counted anew.
use Rattle.std.specs.Prelude.{◌≡◌, ◌⊎◌, ◌≤◌, ℕ, ◌+◌, ◌-◌, ◌*◌, ◌/◌, ◌%◌, ◌==◌, ◌&&◌, nat_lt, Bool, not, List, [], ◌∷◌, ◌++◌, length, map, take, drop, fold, slice_index, slice_range, Option, Some, None, All, IsTrue, if◌then◌else◌}
use Rattle.std.specs.List.{range_with_len}
use Rattle.hx_bytes.specs.Field.{put_at}
use Rattle.jnl_format.specs.Recovery.{Content, sector, header_of_volume}
use Rattle.alloc_bitmap.specs.Apart.{times}
use Rattle.btree_node.specs.Node.{offset, record_count}
use Rattle.btree_node.specs.Levels.{key_of, value_of, pair_of}
use Rattle.hfs_volume.specs.Records.{Placed, placed_of, is_thread, is_empty}
use Rattle.hfs_volume.specs.Forks.{extents_of, fork_blocks, reserved_blocks, allocation_id, catalog_id, data_kind}
use Rattle.hfs_volume.specs.Content.{VolumeState, volume_of, records_of, overflow_in_volume, overflow_of_content, sectors_in, bitmap_sectors, catalog_file, has_attributes}
use Rattle.hfs_volume.specs.Nodes.{HasTrees}
use Rattle.hfs_volume.specs.Entries.{AreSpelled}
use Rattle.hfs_volume.specs.Blocks.{IsGoodHeader, HasTreeSize, LieInside, is_among, used_in}
use Rattle.hfs_volume.specs.Broken.{bit, leaves_in}
use Rattle.volume_repair.specs.Recount.{with_word, value_recounted, header_recounted, agrees, is_bit_wanted}

-- ---- where a repair may count

-- rule 3 but for the bits behind the last block
pub record HasFileSizes (volume : VolumeState) : Type 0 where
  pub extents : HasTreeSize volume.head volume.head.extents_fork volume.extents_tree
  pub catalog : HasTreeSize volume.head volume.head.catalog_fork volume.catalog_tree
  pub attributes : IsTrue (has_attributes volume.head) → HasTreeSize volume.head volume.head.attributes_fork volume.attributes_tree
  pub bits : volume.head.total_blocks ≤ 8 * volume.head.allocation_fork.logical_size

-- the blocks that a repair may write: those of the allocation file and of the catalog file, and the reserved ones
abbrev pub blocks_written : VolumeState → List ℕ
blocks_written volume =
    fork_blocks (overflow_in_volume volume) allocation_id data_kind volume.head.allocation_fork
    ++ fork_blocks (overflow_in_volume volume) catalog_id data_kind volume.head.catalog_fork
    ++ reserved_blocks volume.sectors volume.head

-- A content can be repaired: rules 1, 3 to 8 hold but for bits behind the last block, the allocation file lies in the volume, and no block
-- that a repair may write has another use.
pub record IsMendable (content : Content) : Type 0 where
  pub header : IsGoodHeader (length content) (header_of_volume content)
  pub sizes : HasFileSizes (volume_of content)
  pub trees : HasTrees content
  pub spelled : AreSpelled (volume_of content).catalog_pairs
  pub kinds : All (λ placed. is_thread placed.value ≡ is_empty placed.name) (records_of (volume_of content))
  pub inside : LieInside (volume_of content).head.total_blocks (extents_of (overflow_in_volume (volume_of content)) allocation_id data_kind (volume_of content).head.allocation_fork)
  pub once : All (λ block. times block (used_in (volume_of content)) ≤ 1) (blocks_written (volume_of content))

-- ---- its sectors

-- the volume header's sector, with what it counts
abbrev pub header_mended : Content → List ℕ
header_mended content =
    let head = header_recounted (volume_of content) in
    with_word 32 head.file_count (with_word 36 head.folder_count (with_word 48 head.free_blocks (sector content 2)))

-- the byte of the bits from 8 times this number on
abbrev pub byte_of_bits : (ℕ → Bool) → ℕ → ℕ
byte_of_bits is_set j =
    128 * bit (is_set (8 * j)) + 64 * bit (is_set (8 * j + 1)) + 32 * bit (is_set (8 * j + 2)) + 16 * bit (is_set (8 * j + 3))
    + 8 * bit (is_set (8 * j + 4)) + 4 * bit (is_set (8 * j + 5)) + 2 * bit (is_set (8 * j + 6)) + bit (is_set (8 * j + 7))

-- sector k of the allocation file, which is this one of the content; behind the file's end all stays as it is
abbrev pub bitmap_mended : Content → ℕ → ℕ → List ℕ
bitmap_mended content at k =
    if nat_lt (512 * k) (header_of_volume content).allocation_fork.logical_size then
    map (λ i. if nat_lt (512 * k + i) (header_of_volume content).allocation_fork.logical_size then byte_of_bits (is_bit_wanted (volume_of content)) (512 * k + i) else slice_index (sector content at) i) (range_with_len 0 512)
    else sector content at

-- a leaf of the catalog with the i-th of its records counted anew
abbrev pub record_mended : List Placed → List ℕ → ℕ → List ℕ
record_mended records node i =
    let item = slice_range node (offset node i) (offset node (i + 1)) in
    put_at node (offset node i) (key_of item ++ value_recounted records (placed_of (pair_of item)) (value_of item))

-- a leaf of the catalog with all its records counted anew
unfoldable pub leaf_mended : List Placed → List ℕ → List ℕ
leaf_mended records node = fold (record_mended records) node (range_with_len 0 (record_count node))

-- sector k of the catalog file, which is this one of the content, where it belongs to a leaf
abbrev pub catalog_mended : Content → ℕ → ℕ → List ℕ
catalog_mended content at k =
    let tree = catalog_file content in
    let per_node = tree.head.node_size / 512 in
    if is_among (leaves_in tree) (k / per_node) then take 512 (drop (512 * (k % per_node)) (leaf_mended (records_of (volume_of content)) (tree.nodes (k / per_node))))
    else sector content at

-- where a sector stands in a list of sectors
abbrev pub place_from : ℕ → List ℕ → ℕ → Option ℕ
place_from k [] at = None
place_from k (s ∷ rest) at = if s == at then Some k else place_from (k + 1) rest at

-- the sectors of the catalog file, in their order
abbrev pub catalog_sectors : Content → List ℕ
catalog_sectors content = sectors_in content (extents_of (overflow_of_content content) catalog_id data_kind (header_of_volume content).catalog_fork)

-- a sector that is neither of the headers
abbrev pub file_sector_mended : Content → ℕ → Option ℕ → Option ℕ → List ℕ
file_sector_mended content at (Some k) in_catalog = bitmap_mended content at k
file_sector_mended content at None (Some k) = catalog_mended content at k
file_sector_mended content at None None = sector content at

-- the alternate header is to be a copy of the header
abbrev pub needs_copy : Content → Bool
needs_copy content = not (agrees (volume_of content).head (volume_of content).alternate)

-- A sector of the repair.
unfoldable pub sector_mended : Content → ℕ → List ℕ
sector_mended content at =
    if at == 2 then header_mended content
    else if (at == length content - 2) && needs_copy content then header_mended content
    else file_sector_mended content at (place_from 0 (bitmap_sectors content) at) (place_from 0 (catalog_sectors content) at)

-- The content with all that is counted counted anew.
unfoldable pub mended : Content → Content
mended content = map (sector_mended content) (range_with_len 0 (length content))

-- The repair of a content: where it can be repaired, it with all that is counted counted anew; else it as it is.
abbrev pub IsRepair : Content → Content → Type 0
IsRepair content other = (IsMendable content × (other ≡ mended content)) ⊎ ((¬ IsMendable content) × (other ≡ content))
