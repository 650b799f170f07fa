-- A space that tells what it holds, and what the trees of a content hold.
use Rattle.std.specs.Prelude.{◌≡◌, ◌⊎◌, ◌≤◌, ℕ, IsTrue, List, [], length, Contains, if◌then◌else◌}
use Rattle.volume_header.specs.declared.header.VolumeHeader.{VolumeHeader}
use Rattle.jnl_format.specs.Recovery.{Content, header_of_volume}
use Rattle.sector_disk.specs.Space.{Space}
use Rattle.btree_node.specs.Keys.{IsCatalogKey, IsExtentKey, IsAttrKey, catalog_cmp, extent_cmp, attr_cmp, is_eight_extents, anything}
use Rattle.btree_node.specs.Levels.{Pair}
use Rattle.btree_node.specs.Tree.{pairs_of}
use Rattle.btree_node.specs.TreeFile.{IsTreeFile, store_of, extents_form, catalog_form, attributes_form}
use Rattle.fsck_list.specs.declared.finding.Finding.{Finding as Listed}
use Rattle.hfs_volume.specs.Broken.{Finding, IsBroken, IsUnmet, header_wants, alternate_wants}
use Rattle.hfs_volume.specs.Content.{extents_file, catalog_file, attributes_file, overflow_of_content, has_attributes}
use Rattle.hfs_volume.specs.Findings.{HasBytes}
use Rattle.fsck_core.specs.Decided.{TellsOf}
use Rattle.fsck_core.specs.Overflows.{overflows_in}
use Rattle.fsck_core.specs.Wants.{as_found}
use Rattle.fsck_core.specs.declared.overflow.OverflowRow.{OverflowRow}

-- A space tells that it has this content, of bytes.
pub record Shows (space : Space) (content : Content) : Type 0 where
  pub tells : IsTrue space.tells
  pub is : space.content ≡ content
  pub bytes : HasBytes content
  pub size : space.sectors ≡ length content

-- a finding is of a broken rule, one of the first seven
abbrev pub IsEarly : Content → Finding → Type 0
IsEarly content finding = IsBroken content finding × (finding.rule ≤ 7)

-- each finding is
abbrev pub FindsEarly : Content → List Listed → Type 0
FindsEarly content list = (f : Listed) → Contains list f → IsEarly content (as_found f)

-- one of rules 1 and 2 is broken
abbrev pub IsBrokenHeader : ℕ → VolumeHeader → VolumeHeader → Finding → Type 0
IsBrokenHeader sectors head alternate finding = IsUnmet 1 finding (header_wants sectors head) ⊎ IsUnmet 2 finding (alternate_wants head alternate)

-- of rules 1 and 2, where one is broken a finding of it is listed
abbrev pub TellsHeader : ℕ → VolumeHeader → VolumeHeader → List Listed → Type 0
TellsHeader sectors head alternate list = TellsOf (λ f. IsUnmet 1 f (header_wants sectors head)) list × TellsOf (λ f. IsUnmet 2 f (alternate_wants head alternate)) list

-- The extents overflow file keeps rules 4 to 7, and these are its records.
pub record HoldsExtents (content : Content) (rows : List OverflowRow) : Type 0 where
  pub tree : IsTreeFile extents_form IsExtentKey is_eight_extents extent_cmp (extents_file content)
  pub rows_are : overflows_in rows ≡ overflow_of_content content

-- So does the catalog file, and these are its pairs.
pub record HoldsCatalog (content : Content) (pairs : List Pair) : Type 0 where
  pub tree : IsTreeFile catalog_form IsCatalogKey anything catalog_cmp (catalog_file content)
  pub pairs_are : pairs ≡ pairs_of (store_of (catalog_file content))

-- So does the attributes file, where there is one.
pub record HoldsAttributes (content : Content) (pairs : List Pair) : Type 0 where
  pub tree : IsTrue (has_attributes (header_of_volume content)) → IsTreeFile attributes_form IsAttrKey anything attr_cmp (attributes_file content)
  pub pairs_are : pairs ≡ (if has_attributes (header_of_volume content) then pairs_of (store_of (attributes_file content)) else [])

-- All three do.
pub record HoldsTrees (content : Content) (rows : List OverflowRow) (catalog attributes : List Pair) : Type 0 where
  pub of_extents : HoldsExtents content rows
  pub of_catalog : HoldsCatalog content catalog
  pub of_attributes : HoldsAttributes content attributes
