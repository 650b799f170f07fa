-- The lists of a volume that was read, and what judging them finds.
use Rattle.std.specs.Prelude.{◌≡◌, ◌⊎◌, List, length, Contains, All}
use Rattle.fsck_list.specs.declared.finding.Finding.{Finding as Listed}
use Rattle.btree_node.specs.Keys.{IsCatalogKey}
use Rattle.btree_node.specs.Levels.{Pair}
use Rattle.hfs_volume.specs.Changes.{AreSorted}
use Rattle.hfs_volume.specs.Content.{VolumeState, overflow_in_volume}
use Rattle.hfs_volume.specs.Entries.{AreThreaded, AreRooted}
use Rattle.hfs_volume.specs.Records.{placed_in, entries_of}
use Rattle.hfs_volume.specs.Broken.{Finding, IsFailed, FailsKind, FailsThread, FailsParent}
use Rattle.fsck_core.specs.Attributes.{AreKeyed}
use Rattle.fsck_core.specs.Catalogs.{IsCatalog}
use Rattle.fsck_core.specs.Flags.{AreBits}
use Rattle.fsck_core.specs.Overflows.{overflows_in}
use Rattle.fsck_core.specs.Passed.{IsBrokenList, ListsLate, HasEarly, KeepLists}
use Rattle.fsck_core.specs.Rows.{rows_of}
use Rattle.fsck_core.specs.Decided.{IsTold}
use Rattle.fsck_core.specs.Telling.{TellsCatalog, TellsForks}
use Rattle.fsck_core.specs.Wants.{as_found}
use Rattle.fsck_core.specs.declared.rows.Row.{Row}
use Rattle.fsck_core.specs.declared.lists.Lists.{Lists}

-- Lists that were read are those of a volume, whose trees keep their rules.
pub record AreLists (volume : VolumeState) (lists : Lists) : Type 0 where
  pub sectors : lists.sectors ≡ volume.sectors
  pub head : lists.head ≡ volume.head
  pub journal : volume.journal ≡ record { offset = lists.info.offset; size = lists.info.size }
  pub overflow : overflows_in lists.overflow.items ≡ overflow_in_volume volume
  pub catalog : lists.catalog ≡ volume.catalog_pairs
  pub attributes : lists.attributes ≡ volume.attribute_pairs
  pub flags : AreBits volume lists.flags
  pub keys : All (λ pair. IsCatalogKey pair.0) lists.catalog
  pub sorted : AreSorted lists.catalog
  pub keyed : AreKeyed lists.attributes

-- one of rules 8 to 10 is broken in a catalog
abbrev pub IsBrokenCatalog : List Pair → Finding → Type 0
IsBrokenCatalog pairs finding = IsFailed 8 finding (FailsKind pairs) ⊎ (IsFailed 9 finding (FailsThread (placed_in pairs)) ⊎ IsFailed 10 finding (FailsParent (entries_of (placed_in pairs))))

-- The catalog keeps rules 8 to 10, and these are its entries.
pub record HasEntries (pairs : List Pair) (rows : List Row) : Type 0 where
  pub catalog : IsCatalog pairs
  pub threads : AreThreaded pairs
  pub rooted : AreRooted (entries_of (placed_in pairs))
  pub rows_are : rows ≡ rows_of (entries_of (placed_in pairs))

-- The lists of a volume were judged: where nothing is found they keep rules 8 to 20, each finding is of a broken rule, and where none of them is
-- of an early rule each place that breaks one of rules 11 to 14 is listed; and of each
-- other rule that is broken one is listed, if none of a rule that it rests on is.
pub record IsJudged (volume : VolumeState) (list : List Listed) : Type 0 where
  pub holds : length list ≡ 0 → KeepLists volume
  pub each : (f : Listed) → Contains list f → IsBrokenList volume (as_found f)
  pub late : HasEarly list ⊎ ListsLate volume list
  pub rules : TellsCatalog volume.catalog_pairs list × (IsTold (IsBrokenCatalog volume.catalog_pairs) list ⊎ TellsForks volume list)
