-- What a check of a volume says, and what it has found on its way.
use Rattle.std.specs.Prelude.{◌≡◌, ◌⊎◌, ◌<◌, ◌≤◌, ◌+◌, nat_lt, Bool, true, false, List, [], length, Contains, count_by, Option, Some, None, MatchOption, if◌then◌else◌}
use Rattle.jnl_format.specs.Recovery.{Content, header_of_volume}
use Rattle.volume_header.specs.declared.header.VolumeHeader.{VolumeHeader}
use Rattle.fsck_list.specs.declared.finding.Finding.{Finding as Listed}
use Rattle.hfs_volume.specs.Blocks.{used_in, count_used}
use Rattle.hfs_volume.specs.Broken.{Finding, IsBroken}
use Rattle.hfs_volume.specs.Content.{VolumeState, volume_of, records_of}
use Rattle.hfs_volume.specs.Records.{entries_of, is_file, is_folder}
use Rattle.hfs_volume.specs.Sound.{IsSound}
use Rattle.hfs_volume.specs.declared.summary.Summary.{Summary}
use Rattle.fsck_core.specs.Passed.{ListsLate, HasEarly}
use Rattle.fsck_core.specs.Rules.{EachRule}
use Rattle.fsck_core.specs.Wants.{as_found}
use Rattle.fsck_core.specs.declared.checking.Verdict.{Verdict}
use Rattle.fsck_core.specs.declared.checking.Verdict.TheVariants as verdict

-- ---- on the way

-- All rules of a content were judged, or those up to one that is broken: the header is told where all were.
pub record IsChecked (content : Content) (head : Option VolumeHeader) (list : List Listed) : Type 0 where
  pub told : MatchOption head (0 < length list) (λ head. (head ≡ header_of_volume content) × (length list ≡ 0 → IsSound content))
  pub each : (f : Listed) → Contains list f → IsBroken content (as_found f)
  pub late : HasEarly list ⊎ ListsLate (volume_of content) list
  pub rules : EachRule content list

-- ---- the verdict

-- a verdict says that the volume is sound
abbrev pub is_clean : Verdict → Bool
is_clean (verdict.Clean summary) = true
is_clean (verdict.Findings list) = false

-- what a verdict says was found
abbrev pub findings_in : Verdict → List Listed
findings_in (verdict.Clean summary) = []
findings_in (verdict.Findings list) = list

-- The numbers of a volume, counted anew: its files, its folders but the root, its blocks, and those that nothing uses.
pub record HasNumbers (volume : VolumeState) (summary : Summary) : Type 0 where
  pub files : summary.files ≡ count_by (λ placed. is_file placed.value) (entries_of (records_of volume))
  pub folders : summary.folders + 1 ≡ count_by (λ placed. is_folder placed.value) (entries_of (records_of volume))
  pub blocks : summary.blocks ≡ volume.head.total_blocks
  pub free : summary.free + count_used volume.head.total_blocks (used_in volume) ≡ volume.head.total_blocks

-- the numbers that a verdict tells are those of the volume
abbrev pub IsCounted : VolumeState → Verdict → Type 0
IsCounted volume (verdict.Clean summary) = HasNumbers volume summary
IsCounted volume (verdict.Findings list) = Unit {0}

-- none of the first ten rules is broken
abbrev pub KeepsEarly : Content → Type 0
KeepsEarly content = (finding : Finding) → IsBroken content finding → finding.rule ≤ 10 → ⊥

-- the numbers that a header counts
abbrev pub summary_in : VolumeHeader → Summary
summary_in head = record { files = head.file_count; folders = head.folder_count; blocks = head.total_blocks; free = head.free_blocks }

-- the verdict where this was found, and the header is told where all rules were judged
abbrev pub verdict_of : Option VolumeHeader → List Listed → Verdict
verdict_of None list = verdict.Findings list
verdict_of (Some head) list = if nat_lt 0 (length list) then verdict.Findings list else verdict.Clean (summary_in head)
