-- Where the parts of a volume that is made lie.
use Rattle.std.specs.Prelude.{◌≡◌, ◌≤◌, ℕ, ◌+◌, ◌-◌, ◌*◌, ◌/◌, Bool, nat_lt, if◌then◌else◌, IsTrue}
use Rattle.hx_bytes.specs.declared.extents.Extent.{Extent}
use Rattle.flag_rows.specs.Bitmap.{is_marked}
use Rattle.volume_make.specs.declared.layout.Layout.{Layout}
use Rattle.volume_make.specs.Refusal.{is_block_size, fits_blocks, fits_journal}

-- a volume of so many sectors can be made with blocks of so many bytes and a journal of this length in sectors
pub record CanBe (sectors block length : ℕ) : Type 0 where
  pub many : 16384 ≤ sectors
  pub few : sectors ≤ 2147483648
  pub block_size : IsTrue (is_block_size block)
  pub blocks : IsTrue (fits_blocks sectors block)
  pub journal : IsTrue (fits_journal sectors block length)

-- the number of blocks that so many bytes begin
abbrev pub blocks_for : ℕ → ℕ → ℕ
blocks_for bytes block = (bytes + block - 1) / block

-- the block behind a run
abbrev pub end_of : Extent → ℕ
end_of run = run.start + run.count

-- so many blocks behind a run
abbrev pub behind : Extent → ℕ → Extent
behind run count = record { start = end_of run; count = count }

-- the block of the alternate header's sector, or the number of blocks where that sector is in none
abbrev pub last_start : ℕ → ℕ → ℕ
last_start block total = if nat_lt block total then block else total

-- The parts in order: the reserved front, the bitmap with a bit for each block, the journal info block, the journal, two trees
-- of 16 nodes of 4,096 bytes, and the catalog of 64 nodes; at the end the blocks that hold any of the last 1,024 bytes.
unfoldable pub layout_of : ℕ → ℕ → ℕ → Layout
layout_of sectors block journal =
    let total = sectors * 512 / block in
    let bitmap : Extent = record { start = blocks_for 1536 block; count = blocks_for total (8 * block) } in
    let info = behind bitmap 1 in
    let journal = behind info (journal * 512 / block) in
    let extents = behind journal (blocks_for 65536 block) in
    let attributes = behind extents (blocks_for 65536 block) in
    let catalog = behind attributes (blocks_for 262144 block) in
    let start = last_start ((sectors - 2) * 512 / block) total in
    record {
      sectors = sectors;
      block = block;
      total = total;
      bitmap = bitmap;
      info = info;
      journal = journal;
      extents = extents;
      attributes = attributes;
      catalog = catalog;
      last = record { start = start; count = total - start };
    }

-- the sectors of so many blocks
abbrev pub sectors_in : Layout → ℕ → ℕ
sectors_in layout blocks = blocks * (layout.block / 512)

-- the first sector of a part
abbrev pub first_of : Layout → Extent → ℕ
first_of layout part = sectors_in layout part.start

-- the number of its sectors
abbrev pub count_of : Layout → Extent → ℕ
count_of layout part = sectors_in layout part.count

-- the sector of the alternate header
abbrev pub alternate_of : Layout → ℕ
alternate_of layout = layout.sectors - 2

-- the number of free blocks
abbrev pub free_of : Layout → ℕ
free_of layout = layout.total - end_of layout.catalog - layout.last.count

-- a block of one of the parts, of the front or of the end
abbrev pub is_used : Layout → ℕ → Bool
is_used layout block = is_marked (end_of layout.catalog) layout.last block

-- The parts lie apart and on the volume: the bitmap behind the header's sector, each part behind the one before it, and the
-- last one before the alternate header's sector. Each has room for its text.
pub record IsFitting (layout : Layout) : Type 0 where
  pub block_size : IsTrue (is_block_size layout.block)
  pub free : end_of layout.catalog + layout.last.count ≤ layout.total
  pub last : end_of layout.last ≡ layout.total
  pub total : layout.total ≤ 268435456
  pub sectors : layout.sectors ≤ 2147483648
  pub bitmap : 3 ≤ first_of layout layout.bitmap
  pub info : first_of layout layout.info ≡ first_of layout layout.bitmap + count_of layout layout.bitmap
  pub journal : first_of layout layout.journal ≡ first_of layout layout.info + count_of layout layout.info
  pub extents : first_of layout layout.extents ≡ first_of layout layout.journal + count_of layout layout.journal
  pub attributes : first_of layout layout.attributes ≡ first_of layout layout.extents + count_of layout layout.extents
  pub catalog : first_of layout layout.catalog ≡ first_of layout layout.attributes + count_of layout layout.attributes
  pub end : first_of layout layout.catalog + count_of layout layout.catalog ≤ alternate_of layout
  pub bits : layout.total ≤ 4096 * count_of layout layout.bitmap
  pub info_room : 1 ≤ count_of layout layout.info
  pub journal_room : 512 ≤ count_of layout layout.journal
  pub extents_room : count_of layout layout.extents ≡ 128
  pub attributes_room : count_of layout layout.attributes ≡ 128
  pub catalog_room : count_of layout layout.catalog ≡ 512
