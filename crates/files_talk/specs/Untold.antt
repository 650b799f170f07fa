-- A source that tells nothing but its counts.
use Rattle.std.specs.Prelude.{ℕ, [], false}
use Rattle.sector_disk.specs.Source.{Stream}

abbrev pub untold_source : ℕ → ℕ → Stream
untold_source faults takes = record { tells = false; names = []; left = []; faults = faults; takes = takes }
