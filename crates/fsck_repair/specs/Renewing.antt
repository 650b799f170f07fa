-- Changes that were found in a content, as they serve after a mount.
use Rattle.std.specs.Prelude.{◌≡◌, ◌⊎◌, ◌<◌, ℕ, ◌==◌, ◌||◌, List, length, map, All, Contains, if◌then◌else◌}
use Rattle.sector_disk.specs.Lists.{Content, sector}
use Rattle.volume_header.specs.Header.{header_of}
use Rattle.hfs_volume.specs.Findings.{HasBytes}
use Rattle.hfs_volume.specs.Sound.{IsSound}
use Rattle.volume_repair.specs.Differing.{Differs, differing}
use Rattle.volume_repair.specs.Remount.{IsRemounted, with_counts_of}
use Rattle.volume_repair.specs.Repair.{IsRepair}
use Rattle.fsck_repair.specs.Overlay.{changed, overlaid, places_of, ChangesOnce}
use Rattle.fsck_repair.specs.declared.mend.Change.{Change}

-- The content with these changes is its repair, which is sound; each sector of them differs, and no other does.
pub record IsSoundRepair (start : Content) (changes : List Change) : Type 0 where
  pub repair : IsRepair start (overlaid changes start)
  pub sound : IsSound (overlaid changes start)
  pub count : length changes ≡ differing start (overlaid changes start)
  pub each : (at : ℕ) → Contains (places_of changes) at → Differs start (overlaid changes start) at

-- A content as another mount leaves it; both are of bytes, and their headers' sectors have 512.
pub record IsMountOf (start now : Content) : Type 0 where
  pub start_bytes : HasBytes start
  pub now_bytes : HasBytes now
  pub start_header : length (sector start 2) ≡ 512
  pub now_header : length (sector now 2) ≡ 512
  pub mounted : IsRemounted start now

-- The changes can be put where there are so many sectors: each is of one of these, and none changes twice.
pub record FitInto (sectors : ℕ) (changes : List Change) : Type 0 where
  pub once : ChangesOnce changes
  pub inside : All (λ at. at < sectors) (places_of changes)

-- The sector of the header takes the counts of its change, where it has one, and else stays.
abbrev pub IsRenewedHeader : List Change → List ℕ → List ℕ → Type 0
IsRenewedHeader changes old new =
    ((bytes : List ℕ) × ((before : List ℕ) → bytes ≡ changed changes 2 before) × (new ≡ with_counts_of (header_of bytes) old)) ⊎ (((before : List ℕ) → changed changes 2 before ≡ before) × (new ≡ old))

-- a change with these bytes, where it is of the header's sector or of its copy's
abbrev pub with_header : ℕ → List ℕ → Change → Change
with_header last head change = record { at = change.at; bytes = if (change.at == 2) || (change.at == last) then head else change.bytes }

-- the same of each of a list
abbrev pub with_headers : ℕ → List ℕ → List Change → List Change
with_headers last head changes = map (with_header last head) changes
