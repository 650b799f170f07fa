-- What a disk holds when a volume was made on it.
use Rattle.std.specs.Prelude.{◌≡◌, ◌≢◌, ◌⊎◌, ◌<◌, ◌≤◌, ℕ, ◌+◌, List, length, Result, IsErrOf}
use Rattle.sector_disk.specs.Lists.{Content, sector}
use Rattle.sector_disk.specs.Cause.{Rose}
use Rattle.hfs_volume.specs.declared.summary.Summary.{Summary}
use Rattle.volume_make.specs.declared.fault.FormatFault.{FormatFault}
use Rattle.volume_make.specs.declared.fault.FormatFault.TheVariants.{Disk}
use Rattle.volume_make.specs.declared.layout.Layout.{Layout}
use Rattle.volume_make.specs.Layout.{first_of, count_of, alternate_of, free_of}
use Rattle.volume_make.specs.Texts.{header_text, bitmap_sector, info_text, journal_text, extents_text, attributes_text, catalog_text, piece}

-- so many sectors from a first one on hold this, each by its number among them
abbrev pub Holds : Content → ℕ → ℕ → (ℕ → List ℕ) → Type 0
Holds content first count text = (k : ℕ) → k < count → sector content (first + k) ≡ text k

-- these sectors were written, and no others
pub record Writes (first count : ℕ) (text : ℕ → List ℕ) (old new : Content) : Type 0 where
  pub size : length new ≡ length old
  pub inside : Holds new first count text
  pub before : (at : ℕ) → at < first → sector new at ≡ sector old at
  pub behind : (at : ℕ) → first + count ≤ at → sector new at ≡ sector old at

-- the parts from the bitmap to the journal were written, and no other sectors
pub record WritesFront (layout : Layout) (old new : Content) : Type 0 where
  pub size : length new ≡ length old
  pub bitmap : Holds new (first_of layout layout.bitmap) (count_of layout layout.bitmap) (bitmap_sector layout)
  pub info : Holds new (first_of layout layout.info) (count_of layout layout.info) (piece (info_text layout))
  pub journal : Holds new (first_of layout layout.journal) (count_of layout layout.journal) (piece (journal_text layout))
  pub before : (at : ℕ) → at < first_of layout layout.bitmap → sector new at ≡ sector old at
  pub behind : (at : ℕ) → first_of layout layout.extents ≤ at → sector new at ≡ sector old at

-- the parts from the extents file to the catalog were written, which begin with these nodes, and no other sectors
pub record WritesTrees (layout : Layout) (overflow marks entries : List ℕ) (old new : Content) : Type 0 where
  pub size : length new ≡ length old
  pub extents : Holds new (first_of layout layout.extents) (count_of layout layout.extents) (piece overflow)
  pub attributes : Holds new (first_of layout layout.attributes) (count_of layout layout.attributes) (piece marks)
  pub catalog : Holds new (first_of layout layout.catalog) (count_of layout layout.catalog) (piece entries)
  pub before : (at : ℕ) → at < first_of layout layout.extents → sector new at ≡ sector old at
  pub behind : (at : ℕ) → first_of layout layout.catalog + count_of layout layout.catalog ≤ at → sector new at ≡ sector old at

-- the two headers were written, and no other sectors
pub record WritesHeaders (layout : Layout) (old new : Content) : Type 0 where
  pub size : length new ≡ length old
  pub header : sector new 2 ≡ header_text layout
  pub alternate : sector new (alternate_of layout) ≡ header_text layout
  pub others : (at : ℕ) → at ≢ 2 → at ≢ alternate_of layout → sector new at ≡ sector old at

-- a sector that no part and no header takes: of the reserved front, of the free blocks, or behind them
pub record IsAside (layout : Layout) (at : ℕ) : Type 0 where
  pub header : at ≢ 2
  pub alternate : at ≢ alternate_of layout
  pub parts : (at < first_of layout layout.bitmap) ⊎ (first_of layout layout.catalog + count_of layout layout.catalog ≤ at)

-- The content has the layout of a volume whose trees begin with these nodes: each part's sectors hold its text and zeros
-- behind it, the header stands in its two places, and all other sectors are as they were.
pub record HasParts (layout : Layout) (overflow marks entries : List ℕ) (old new : Content) : Type 0 where
  pub size : length new ≡ length old
  pub header : sector new 2 ≡ header_text layout
  pub alternate : sector new (alternate_of layout) ≡ header_text layout
  pub bitmap : Holds new (first_of layout layout.bitmap) (count_of layout layout.bitmap) (bitmap_sector layout)
  pub info : Holds new (first_of layout layout.info) (count_of layout layout.info) (piece (info_text layout))
  pub journal : Holds new (first_of layout layout.journal) (count_of layout layout.journal) (piece (journal_text layout))
  pub extents : Holds new (first_of layout layout.extents) (count_of layout layout.extents) (piece overflow)
  pub attributes : Holds new (first_of layout layout.attributes) (count_of layout layout.attributes) (piece marks)
  pub catalog : Holds new (first_of layout layout.catalog) (count_of layout layout.catalog) (piece entries)
  pub aside : (at : ℕ) → IsAside layout at → sector new at ≡ sector old at

-- the content has the layout of a volume of this name that was just made, and nothing else of it has changed
abbrev pub IsFormatted : Layout → List ℕ → Content → Content → Type 0
IsFormatted layout name = HasParts layout (extents_text layout) (attributes_text layout) (catalog_text layout name)

-- what is said of a volume that was just made: the two files of the journal, no folder but the root, its blocks and those free
pub record IsSummary (layout : Layout) (summary : Summary) : Type 0 where
  pub files : summary.files ≡ 2
  pub folders : summary.folders ≡ 0
  pub blocks : summary.blocks ≡ layout.total
  pub free : summary.free ≡ free_of layout

-- the count of the disk's faults hasn't fallen, and it rose where the disk is the cause
pub record IsCause {T : Type 0} (before now : ℕ) (result : Result T FormatFault) : Type 0 where
  pub later : before ≤ now
  pub rose : IsErrOf result Disk → Rose before now
