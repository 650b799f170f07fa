-- Contents whose sectors are whole.
use Rattle.std.specs.Prelude.{ℕ, ◌<◌, ◌≡◌, length}
use Rattle.sector_disk.specs.Lists.{Content, sector}

-- each has 512 bytes
abbrev pub AreWhole : Content → Type 0
AreWhole list = (k : ℕ) → k < length list → length (sector list k) ≡ 512
