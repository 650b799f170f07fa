-- What a check has found, and what holds where it has found nothing.
use Rattle.std.specs.Prelude.{◌≡◌, ◌⊎◌, ◌<◌, ◌≤◌, List, length, Contains, All}
use Rattle.std.specs.List.{flat_map}
use Rattle.alloc_bitmap.specs.Apart.{AreApart}
use Rattle.fsck_list.specs.declared.finding.Finding.{Finding as Listed}
use Rattle.fsck_list.specs.Kept.{IsListed}
use Rattle.hfs_volume.specs.Records.{entries_of}
use Rattle.hfs_volume.specs.Entries.{AreThreaded, AreRooted}
use Rattle.hfs_volume.specs.Links.{AreLinks}
use Rattle.hfs_volume.specs.Blocks.{GoesOn, GoOnBad, HasFork, HasSizes, LieInside, forks_of, used_in}
use Rattle.hfs_volume.specs.Content.{VolumeState, records_of, overflow_in_volume}
use Rattle.hfs_volume.specs.Broken.{Finding, AllMet, IsUnmet, IsBrokenEntry, IsBrokenLink, IsBrokenBlock, valence_wants, count_wants, id_wants, bit_wants, free_wants}
use Rattle.fsck_core.specs.Attributes.{KeepsAttributes}
use Rattle.fsck_core.specs.Wants.{as_found}

-- A part of the rules was judged: where nothing is found it holds, something found stays so, and each finding that was added is of a broken rule.
pub record Passed (Broken : Finding → Type 0) (P : Type 0) (old new : List Listed) : Type 0 where
  pub holds : length new ≡ 0 → P
  pub still : 0 < length old → 0 < length new
  pub each : (f : Listed) → Contains new f → Contains old f ⊎ Broken (as_found f)

-- one of the rules on the lists of a volume is broken
abbrev pub IsBrokenList : VolumeState → Finding → Type 0
IsBrokenList volume finding = IsBrokenEntry volume finding ⊎ (IsBrokenLink volume finding ⊎ IsBrokenBlock volume finding)

-- one of rules 11 to 14 is broken
abbrev pub IsLate : VolumeState → Finding → Type 0
IsLate volume finding =
    IsUnmet 11 finding (flat_map (valence_wants (entries_of (records_of volume))) (entries_of (records_of volume)))
    ⊎ (IsUnmet 12 finding (count_wants volume.head (entries_of (records_of volume))) ⊎ (IsUnmet 13 finding (bit_wants volume) ⊎ IsUnmet 14 finding (free_wants volume)))

-- each place that breaks one of rules 11 to 14 is listed
abbrev pub ListsLate : VolumeState → List Listed → Type 0
ListsLate volume list = (f : Listed) → IsLate volume (as_found f) → IsListed list f

-- a finding of one of the first ten rules
abbrev pub HasEarly : List Listed → Type 0
HasEarly list = (f : Listed) × Contains list f × (f.rule ≤ 10)

-- Rules 16 and 17 of files: the forks of a volume lie in it and have the sizes that they say, and its overflow records go on behind them.
pub record HaveForks (volume : VolumeState) : Type 0 where
  pub goes_on : All (GoesOn (overflow_in_volume volume)) (forks_of volume)
  pub bad_goes_on : GoOnBad (overflow_in_volume volume)
  pub owned : All (HasFork (forks_of volume)) (overflow_in_volume volume)
  pub sizes : All (HasSizes volume.head (overflow_in_volume volume)) (forks_of volume)
  pub more_inside : All (λ more. LieInside volume.head.total_blocks more.extents) (overflow_in_volume volume)

-- Rule 16 of files.
pub record HaveSizes (volume : VolumeState) : Type 0 where
  pub sizes : All (HasSizes volume.head (overflow_in_volume volume)) (forks_of volume)
  pub more_inside : All (λ more. LieInside volume.head.total_blocks more.extents) (overflow_in_volume volume)

-- Rules 19 and 20, and rule 16 of the forks of attributes.
pub record HaveNames (volume : VolumeState) : Type 0 where
  pub links : AreLinks (records_of volume) (overflow_in_volume volume)
  pub attributes : KeepsAttributes volume

-- Rules 11 to 14.
pub record HaveCounts (volume : VolumeState) : Type 0 where
  pub valences : AllMet (flat_map (valence_wants (entries_of (records_of volume))) (entries_of (records_of volume)))
  pub counts : AllMet (count_wants volume.head (entries_of (records_of volume)))
  pub bits : AllMet (bit_wants volume)
  pub free : AllMet (free_wants volume)

-- Rules 8 to 20 hold of the lists of a volume.
pub record KeepLists (volume : VolumeState) : Type 0 where
  pub threads : AreThreaded volume.catalog_pairs
  pub rooted : AreRooted (entries_of (records_of volume))
  pub once : AreApart (used_in volume)
  pub forks : HaveForks volume
  pub names : HaveNames volume
  pub ids : AllMet (flat_map (id_wants volume.head.next_catalog_id (entries_of (records_of volume))) (entries_of (records_of volume)))
  pub counts : HaveCounts volume
