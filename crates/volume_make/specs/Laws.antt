-- The places worked out for some sizes, and what a reader finds in the texts.
use Rattle.std.specs.Prelude.{◌≡◌, ℕ, ◌*◌, List, [], ◌∷◌, take, drop, IsTrue, false, None, Ok}
use Rattle.hx_bytes.specs.declared.extents.Extent.{Extent}
use Rattle.hx_bytes.specs.declared.fields.Order.TheVariants.{Little}
use Rattle.jnl_format.specs.declared.structures.Info.{Info}
use Rattle.jnl_format.specs.declared.structures.Header.{Header}
use Rattle.jnl_format.specs.Info.{info_of, info_fault}
use Rattle.jnl_format.specs.Header.{header_read}
use Rattle.volume_header.specs.Header.{header_of}
use Rattle.volume_header.specs.Refusal.{header_refusal}
use Rattle.hfs_model.specs.Fresh.{empty_tree, catalog_tree}
use Rattle.volume_make.specs.declared.layout.Layout.{Layout}
use Rattle.flag_rows.specs.Bitmap.{is_marked, nowhere}
use Rattle.btree_node.specs.Codec.{HeaderReadsBack, ReadsBack, leaf_head}
use Rattle.volume_make.specs.Refusal.{is_name}
use Rattle.volume_make.specs.Layout.{CanBe, layout_of, free_of, end_of}
use Rattle.volume_make.specs.Texts.{fresh_header, header_text, info_text, journal_text, extents_text, attributes_text, catalog_text, leaf_items}

-- the first block and the number of blocks of a part
abbrev pub run : ℕ → ℕ → Extent
run start count = record { start = start; count = count }

-- the parts in order, the last blocks, and the first free block
abbrev pub parts_of : Layout → List Extent
parts_of layout = layout.bitmap ∷ layout.info ∷ layout.journal ∷ layout.extents ∷ layout.attributes ∷ layout.catalog ∷ layout.last ∷ []

-- the numbers of blocks: all, and those free
abbrev pub blocks_of : Layout → List ℕ
blocks_of layout = layout.total ∷ end_of layout.catalog ∷ free_of layout ∷ []

-- these are its parts, its blocks, the first free one and the number of free ones
pub record IsWorked (sectors block length : ℕ) (parts : List Extent) (blocks : List ℕ) : Type 0 where
  pub parts_are : parts_of (layout_of sectors block length) ≡ parts
  pub blocks_are : blocks_of (layout_of sectors block length) ≡ blocks

-- Whatever the sizes, the header is one that a reader accepts on a disk of so many sectors.
abbrev pub HeaderAccepted : Type 0
HeaderAccepted = (sectors block length : ℕ) → CanBe sectors block length → header_refusal (fresh_header (layout_of sectors block length)) sectors ≡ None

-- the fields of the journal info block, and the journal's header
abbrev pub fresh_info : Layout → Info
fresh_info layout = record { flags = 1; offset = layout.journal.start * layout.block; size = layout.journal.count * layout.block }

abbrev pub fresh_journal : Layout → Header
fresh_journal layout = record { order = Little; start = 512; end = 512; size = layout.journal.count * layout.block; blhdr = 4096 }

-- The journal is found by a reader: the info block says where it is, on this volume and inside it, and its header is that of an
-- empty journal of this size.
pub record JournalFound (layout : Layout) : Type 0 where
  pub info : info_of (info_text layout) ≡ fresh_info layout
  pub inside : info_fault (layout.sectors * 512) false (fresh_info layout) ≡ None
  pub journal : header_read (layout.journal.count * layout.block) (journal_text layout) ≡ Ok (fresh_journal layout)

-- so it is whatever the sizes
abbrev pub JournalsFound : Type 0
JournalsFound = (sectors block length : ℕ) → CanBe sectors block length → JournalFound (layout_of sectors block length)

-- a reader reads just this header from its sector, whatever the sizes
abbrev pub HeaderReadBack : Type 0
HeaderReadBack = (sectors block length : ℕ) → CanBe sectors block length → header_of (header_text (layout_of sectors block length)) ≡ fresh_header (layout_of sectors block length)

-- The nodes of a volume that is made are read as they were made: of each tree the header node, with its header record and its map,
-- and of the catalog the leaf, with its six records.
pub record NodesReadBack (layout : Layout) (name : List ℕ) : Type 0 where
  pub extents : HeaderReadsBack (extents_text layout) (empty_tree layout.block 10 2) (is_marked 1 nowhere)
  pub attributes : HeaderReadsBack (attributes_text layout) (empty_tree layout.block 266 6) (is_marked 1 nowhere)
  pub catalog : HeaderReadsBack (take 4096 (catalog_text layout name)) (catalog_tree layout.block 0) (is_marked 2 nowhere)
  pub leaf : ReadsBack (drop 4096 (catalog_text layout name)) leaf_head (leaf_items layout name)

-- so they are with every layout and name
abbrev pub NodesAreReadBack : Type 0
NodesAreReadBack = (layout : Layout) (name : List ℕ) → IsTrue (is_name name) → NodesReadBack layout name
