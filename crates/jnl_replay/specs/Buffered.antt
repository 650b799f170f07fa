-- A disk with sectors that were read last.
use Rattle.std.specs.Prelude.{◌≡◌, ◌≢◌, ℕ, ◌∷◌, Option, Some}
use Rattle.sector_disk.specs.Lists.{Content, sector}
use Rattle.sector_disk.specs.Disk.{IsDisk, State}
use Rattle.jnl_replay.specs.declared.buffered.Copied.{Copied}

-- nothing, or a sector as this content has it
abbrev pub IsCopy : Content → Option Copied → Type 0
IsCopy content copied = (one : Copied) → copied ≡ Some one → one.bytes ≡ sector content one.at

-- the same, and not of this sector
abbrev pub IsCopyOfOther : ℕ → Content → Option Copied → Type 0
IsCopyOfOther at content copied = (one : Copied) → copied ≡ Some one → (one.at ≢ at) × (one.bytes ≡ sector content one.at)

-- a disk behind a reference with this ghost name
abbrev pub behind : ℕ → State → State
behind name disk = record disk { names = name ∷ disk.names }

pub behind_is_disk : (name : ℕ) (disk : State) → IsDisk disk → IsDisk (behind name disk)
behind_is_disk name disk is = record { size = is.size; each = is.each; whole = is.whole }
