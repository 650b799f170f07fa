-- The sectors of a fork, as they are read: zeros where the fork or the volume has none.
use Rattle.std.specs.Prelude.{◌≡◌, ◌<◌, ℕ, List, length, replicate, Option, Some, None}
use Rattle.jnl_format.specs.Recovery.{Content, sector}
use Rattle.hfs_volume.specs.Content.{block_sector}

-- the sector with this number below the limit, or zeros where there is none
abbrev pub sector_or_zeros : Content → ℕ → Option ℕ → List ℕ
sector_or_zeros content limit None = replicate 512 0
sector_or_zeros content limit (Some at) = block_sector content limit at

-- the sector with this number, below the limit, has 512 bytes where it is one of so many sectors
abbrev pub IsWhole : Content → ℕ → ℕ → Option ℕ → Type 0
IsWhole content sectors limit o = (at : ℕ) → o ≡ Some at → at < limit → at < sectors → length (sector content at) ≡ 512
