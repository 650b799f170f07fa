-- What the parts of a volume hold when it is made.
use Rattle.std.specs.Prelude.{ℕ, ◌+◌, ◌*◌, ◌/◌, nat_lt, List, [], ◌∷◌, ◌++◌, length, replicate, slice_range, codes, if◌then◌else◌, false}
use Rattle.hx_bytes.specs.declared.fields.Order.TheVariants.{Little}
use Rattle.hx_bytes.specs.declared.extents.Extent.{Extent}
use Rattle.hx_bytes.specs.declared.extents.ForkRecord.{ForkRecord}
use Rattle.volume_header.specs.declared.header.VolumeHeader.{VolumeHeader}
use Rattle.volume_header.specs.Header.{header_bytes}
use Rattle.jnl_format.specs.Header as journal
use Rattle.jnl_format.specs.Info.{with_info}
use Rattle.cat_records.specs.declared.record.CatRecord.{CatRecord}
use Rattle.cat_records.specs.declared.record.CatRecord.TheVariants.{File}
use Rattle.btree_node.specs.declared.codec.TreeHeader.{TreeHeader}
use Rattle.flag_rows.specs.Bitmap.{is_marked, nowhere, bits_bytes}
use Rattle.btree_node.specs.Codec.{node_over, header_head, leaf_head, header_items}
use Rattle.hfs_model.specs.Fresh.{one_run, no_fork, empty_tree, catalog_tree, new_entry, new_folder, new_thread, catalog_item, journal_threads}
use Rattle.volume_make.specs.declared.layout.Layout.{Layout}
use Rattle.volume_make.specs.Layout.{end_of, free_of, is_used}

-- the fork of a special file that fills these blocks, with the block size as its clump size
abbrev pub special_fork : ℕ → Extent → ForkRecord
special_fork block part = record { logical_size = part.count * block; clump_size = block; total_blocks = part.count; extents = one_run part.start part.count }

-- the data fork of a file that fills these blocks
abbrev pub file_fork : ℕ → Extent → ForkRecord
file_fork block part = record { logical_size = part.count * block; clump_size = 0; total_blocks = part.count; extents = one_run part.start part.count }

-- a file without a byte, whose clump size is the block size as that of the other special files
abbrev pub empty_fork : ℕ → ForkRecord
empty_fork block = record { logical_size = 0; clump_size = block; total_blocks = 0; extents = one_run 0 0 }

-- The volume header: it was unmounted cleanly (bit 8) and has a journal (bit 13), `HFSJ` wrote it last, and it has the two
-- files of the journal.
abbrev pub fresh_header : Layout → VolumeHeader
fresh_header layout = record {
  signature = 0x4858;
  version = 5;
  attributes = 0x2100;
  last_mounted_version = 0x4846534A;
  journal_info_block = layout.info.start;
  create_date = 0;
  modify_date = 0;
  backup_date = 0;
  checked_date = 0;
  file_count = 2;
  folder_count = 0;
  block_size = layout.block;
  total_blocks = layout.total;
  free_blocks = free_of layout;
  next_allocation = end_of layout.catalog;
  rsrc_clump_size = layout.block;
  data_clump_size = layout.block;
  next_catalog_id = 18;
  write_count = 0;
  encodings_bitmap = 1;
  finder_info = replicate 32 0;
  allocation_fork = special_fork layout.block layout.bitmap;
  extents_fork = special_fork layout.block layout.extents;
  catalog_fork = special_fork layout.block layout.catalog;
  attributes_fork = special_fork layout.block layout.attributes;
  startup_fork = empty_fork layout.block;
}

-- the sector of the volume header and of the alternate one
abbrev pub header_text : Layout → List ℕ
header_text layout = header_bytes (fresh_header layout)

-- a sector of the bitmap, with the bits of 4,096 blocks: those of used blocks are set, and those past the last block clear
abbrev pub bitmap_sector : Layout → ℕ → List ℕ
bitmap_sector layout k = bits_bytes (is_used layout) (k * 4096) 512

-- the journal info block's sector: the journal is on this volume, and where
abbrev pub info_text : Layout → List ℕ
info_text layout = with_info (record { flags = 1; offset = layout.journal.start * layout.block; size = layout.journal.count * layout.block }) (replicate 512 0)

-- the journal header's sector: little-endian, the journal empty from its second sector on, block lists of 4,096 bytes
abbrev pub journal_text : Layout → List ℕ
journal_text layout =
    journal.header_bytes (record { order = Little; start = 512; end = 512; size = layout.journal.count * layout.block; blhdr = 4096 }) ++ replicate 468 0

-- a header node whose map marks the first nodes, all else zero
unfoldable pub header_node : TreeHeader → ℕ → List ℕ
header_node tree used = node_over tree.node_size header_head (header_items tree (is_marked used nowhere)) (replicate 4096 0)

-- the header nodes of the trees without a record: big keys, and in the attributes file keys of varying length
abbrev pub extents_text : Layout → List ℕ
extents_text layout = header_node (empty_tree layout.block 10 2) 1

-- the attributes file of a new volume: a header node, and no record
abbrev pub attributes_text : Layout → List ℕ
attributes_text layout = header_node (empty_tree layout.block 266 6) 1

-- a file of the journal that fills these blocks: mode 0100644, and flag 2, it has a thread
abbrev pub new_file : ℕ → ℕ → Extent → CatRecord
new_file block id part = File (record { fields = new_entry 2 0 id 0x81A4; data_fork = file_fork block part; resource_fork = no_fork })

-- the root, which has two entries, with its thread
abbrev pub root_items : List ℕ → List (List ℕ)
root_items name = catalog_item 1 name (new_folder 2 2) ∷ catalog_item 2 [] (new_thread false 1 name) ∷ []

-- the two files of the journal
abbrev pub file_items : Layout → List (List ℕ)
file_items layout =
    catalog_item 2 (codes ".journal") (new_file layout.block 17 layout.journal)
    ∷ catalog_item 2 (codes ".journal_info_block") (new_file layout.block 16 layout.info)
    ∷ []

-- the catalog's six records, in the order of their keys: the root with its thread, and the journal's files with theirs
unfoldable pub leaf_items : Layout → List ℕ → List (List ℕ)
leaf_items layout name = root_items name ++ (file_items layout ++ journal_threads)

-- the catalog's leaf
abbrev pub leaf_text : Layout → List ℕ → List ℕ
leaf_text layout name = node_over 4096 leaf_head (leaf_items layout name) (replicate 4096 0)

-- the catalog's nodes 0 and 1
unfoldable pub catalog_text : Layout → List ℕ → List ℕ
catalog_text layout name = header_node (catalog_tree layout.block 0) 2 ++ leaf_text layout name

-- a sector of a part that begins with a text of whole sectors; behind it all is zero
abbrev pub piece : List ℕ → ℕ → List ℕ
piece text k = if nat_lt k (length text / 512) then slice_range text (512 * k) (512 * k + 512) else replicate 512 0
