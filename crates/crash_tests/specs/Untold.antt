-- A disk that tells nothing but its counts.
use Rattle.std.specs.Prelude.{ℕ, [], false}
use Rattle.std.proofs.Common.{arith}
use Rattle.sector_disk.specs.Disk.{State, IsDisk}

abbrev pub untold : ℕ → ℕ → ℕ → ℕ → State
untold sectors faults sink_faults barriers = record {
  tells = false;
  tells_left = false;
  names = [];
  sectors = sectors;
  candidates = [];
  told = [];
  faults = faults;
  sink_faults = sink_faults;
  barriers = barriers;
  clock = record { moment = 0; left = λ t image told. ⊥ };
}

pub untold_is_disk : (sectors faults sink_faults barriers : ℕ) → IsDisk (untold sectors faults sink_faults barriers)
untold_is_disk sectors faults sink_faults barriers = record {
  size = λ tells. absurd (cc tells);
  each = λ at inside. absurd (omega (arith, inside));
  whole = λ at value there. absurd (omega (arith, there.1));
}
