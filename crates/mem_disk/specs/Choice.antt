-- Which image a choice takes.
use Rattle.std.specs.Prelude.{◌≡◌, ◌<◌, ◌+◌, ◌-◌, ◌*◌, ◌/◌, ◌%◌, ◌^◌, ◌==◌, if◌then◌else◌, ℕ, List, [], length, slice_index_or}
use Rattle.sector_disk.specs.Lists.{Content, sector}
use Rattle.sector_disk.specs.Disk.{Candidates, candidates_of}

-- of so many candidates of a sector, choice 0 takes the oldest, 1 the newest, and another some
abbrev pub choice_index : ℕ → ℕ → ℕ → ℕ
choice_index choice at count = (if choice == 0 then 0 else (if choice == 1 then count - 1 else (((choice * (at + 1)) % 2 ^ 64) / 2 ^ 7) % count))

-- the candidate of a sector that a choice takes
abbrev pub chosen : Candidates → ℕ → ℕ → List ℕ
chosen disk choice at = slice_index_or (candidates_of disk at) (choice_index choice at (length (candidates_of disk at))) []

-- the image has in each sector the candidate that the choice takes
pub record IsChosen (disk : Candidates) (choice : ℕ) (image : Content) : Type 0 where
  pub size : length image ≡ length disk
  pub each : (at : ℕ) → at < length disk → sector image at ≡ chosen disk choice at
