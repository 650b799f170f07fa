-- A space that tells nothing but its faults.
use Rattle.std.specs.Prelude.{ℕ}
use Rattle.sector_disk.specs.Space.{Space}
use Rattle.alloc_bitmap.specs.Untold.{told_none}

-- so many sectors, and so many faults
abbrev pub told_faults : ℕ → ℕ → Space
told_faults sectors faults = record (told_none sectors) { faults = faults }
