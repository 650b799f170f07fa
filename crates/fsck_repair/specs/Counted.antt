-- What was counted in a content, and whether it can be repaired.
use Rattle.std.specs.Prelude.{◌≡◌, ◌⊎◌, ◌≤◌, ◌-◌, ◌==◌, ◌&&◌, ℕ, Bool, true, false, List, length, All, IsTrue, Some, None, if◌then◌else◌}
use Rattle.std.specs.List.Sorted.{IsNonDecreasing, IsNonDecreasingBy}
use Rattle.hx_bytes.specs.Field.{big}
use Rattle.sector_disk.specs.Lists.{Content}
use Rattle.jnl_format.specs.Recovery.{header_of_volume}
use Rattle.alloc_bitmap.specs.Apart.{times}
use Rattle.hfs_volume.specs.Blocks.{IsGoodHeader, HasTreeSize, used_in}
use Rattle.hfs_volume.specs.Records.{Placed, entries_of}
use Rattle.hfs_volume.specs.Links.{private_id}
use Rattle.hfs_volume.specs.Forks.{extents_of, allocation_id, catalog_id, data_kind}
use Rattle.hfs_volume.specs.Content.{VolumeState, volume_of, records_of, overflow_of_content, catalog_file, has_attributes}
use Rattle.fsck_scan.specs.Form.{head_in}
use Rattle.fsck_scan.specs.declared.form.Head.{Head}
use Rattle.fsck_core.specs.Flags.{AreUsed}
use Rattle.fsck_core.specs.Links.{link_count}
use Rattle.fsck_core.specs.Rows.{rows_of}
use Rattle.fsck_core.specs.declared.reading.Headers.{Headers}
use Rattle.fsck_core.specs.Shown.{HoldsAttributes, HoldsCatalog, HoldsExtents}
use Rattle.volume_repair.specs.Recount.{header_recounted}
use Rattle.volume_repair.specs.Repair.{IsMendable, HasFileSizes, blocks_written, needs_copy}
use Rattle.fsck_repair.specs.declared.counts.Counts.{Counts}
use Rattle.fsck_repair.specs.declared.counts.Entries.{Entries}
use Rattle.fsck_repair.specs.declared.numbers.Numbers.{Numbers}
use Rattle.fsck_repair.specs.declared.skipped.Skipped.{Skipped}
use Rattle.fsck_repair.specs.declared.trees.Trees.{Trees}

-- It is told whether this holds, without which the content can't be repaired.
pub record Decides (content : Content) (Holds : Type 0) (met : Bool) : Type 0 where
  pub holds : met ≡ true → Holds
  pub fails : met ≡ false → ¬ IsMendable content

-- All trees keep their rules, and these are the overflow records and the pairs of the catalog and of the attributes file.
pub record AreTrees (content : Content) (trees : Trees) : Type 0 where
  pub of_extents : HoldsExtents content trees.overflow.items
  pub of_catalog : HoldsCatalog content trees.catalog
  pub of_attributes : HoldsAttributes content trees.attributes

-- the attributes file has whole blocks and whole nodes, where there is one
abbrev pub HasAttributesSize : Content → Type 0
HasAttributesSize content = IsTrue (has_attributes (volume_of content).head) → HasTreeSize (volume_of content).head (volume_of content).head.attributes_fork (volume_of content).attributes_tree

-- The header record of the catalog file: the file has whole blocks and whole nodes, and keys are compared unit by unit.
pub record IsSizedCatalog (content : Content) (tree : Head) : Type 0 where
  pub head_is : head_in tree ≡ (catalog_file content).head
  pub size : HasTreeSize (volume_of content).head (volume_of content).head.catalog_fork (volume_of content).catalog_tree
  pub compare : (catalog_file content).head.compare ≡ 0xBC

-- The special files have their sizes, and this is the header record of the catalog file.
pub record AreSized (content : Content) (tree : Head) : Type 0 where
  pub sizes : HasFileSizes (volume_of content)
  pub head_is : head_in tree ≡ (catalog_file content).head
  pub compare : (catalog_file content).head.compare ≡ 0xBC

-- The volume header of a content, and its alternate.
pub record HasHeaders (content : Content) (headers : Headers) : Type 0 where
  pub good : IsGoodHeader (length content) (header_of_volume content)
  pub head : headers.head ≡ header_of_volume content
  pub alternate : headers.alternate ≡ (volume_of content).alternate

-- no block that a repair may write is used twice
abbrev pub UsesOnce : VolumeState → Type 0
UsesOnce volume = All (λ block. times block (used_in volume) ≤ 1) (blocks_written volume)

-- What the values of a catalog with these records count.
pub record AreEntriesOf (records : List Placed) (entries : Entries) : Type 0 where
  pub rows : entries.rows.items ≡ rows_of (entries_of records)
  pub rising : IsNonDecreasingBy (λ row. row.parent) entries.rows.items
  pub order : IsNonDecreasing entries.links.items
  pub links : (number : ℕ) → times number entries.links.items ≡ link_count entries.rows.items number
  pub private_is : entries.private ≡ private_id records

-- What a content counts, where it can be repaired.
pub record IsCounted (content : Content) (counts : Counts) : Type 0 where
  pub mendable : IsMendable content
  pub head : counts.headers.head ≡ header_of_volume content
  pub alternate : counts.headers.alternate ≡ (volume_of content).alternate
  pub allocation : counts.allocation ≡ extents_of (overflow_of_content content) allocation_id data_kind (header_of_volume content).allocation_fork
  pub catalog : counts.catalog ≡ extents_of (overflow_of_content content) catalog_id data_kind (header_of_volume content).catalog_fork
  pub tree : head_in counts.tree ≡ (catalog_file content).head
  pub entries : AreEntriesOf (records_of (volume_of content)) counts.entries
  pub used : AreUsed (volume_of content) counts.used

-- the sector of the header's copy is skipped where it is to be written
abbrev pub IsSkipped : Content → Skipped → Type 0
IsSkipped content skipped = skipped.copy ≡ (if needs_copy content then Some (length content - 2) else None)

-- a sector that a repair takes as one of a file: it isn't the header's, nor that of its copy where that is to be written
pub record IsPlain (content : Content) (at : ℕ) : Type 0 where
  pub no_header : (at == 2) ≡ false
  pub no_copy : ((at == length content - 2) && needs_copy content) ≡ false

-- the header's sector, or that of its copy where that is to be written
abbrev pub IsHeaderSector : Content → ℕ → Type 0
IsHeaderSector content at = ((at == 2) ≡ true) ⊎ (((at == length content - 2) && needs_copy content) ≡ true)

-- The numbers of a header, as their words stand in it.
pub record HasNumbers (content : Content) (numbers : Numbers) : Type 0 where
  pub files : big 4 numbers.files ≡ big 4 (header_recounted (volume_of content)).file_count
  pub folders : big 4 numbers.folders ≡ big 4 (header_recounted (volume_of content)).folder_count
  pub free : big 4 numbers.free ≡ big 4 (header_recounted (volume_of content)).free_blocks
