-- Blocks are of no more runs than there are blocks.
use Rattle.std.proofs.Common.{◌≡◌, ◌<◌, ◌≤◌, ℕ, ◌+◌, ◌-◌, ◌==◌, Bool, true, false, List, [], ◌∷◌, refl, ap, arith}
use Rattle.std.specs.Prelude.{if◌then◌else◌}
use Rattle.hx_bytes.specs.declared.extents.Extent.{Extent}
use Rattle.flag_rows.specs.Runs.{fewest_of, longest_first, runs_of}
use Rattle.flag_rows.proofs.TallyLaws.{have_sorted}
use Rattle.flag_rows.proofs.TopLaws.{HaveBlocks, have_blocks}
use Rattle.hfs_volume.specs.Cost.{overflow_records}
use Rattle.hfs_volume.specs.Weight.{free_runs, runs_for}
use Rattle.hfs_volume.proofs.Fitting.{not_same}

few : (n : ℕ) (runs : List Extent) → HaveBlocks runs → fewest_of n runs ≤ n
few n [] have = omega arith
few n (run ∷ rest) have = by_test (n == 0) refl (few (n - run.count) rest have.1)
  where
    by_test : (b : Bool) → (n == 0) ≡ b → fewest_of (n - run.count) rest ≤ n - run.count → (if b then 0 else 1 + fewest_of (n - run.count) rest) ≤ n
    by_test true is later = omega arith
    by_test false is later = omega (arith, later, have.0, not_same n 0 is)

pub runs_few : (count : ℕ) (free : List Bool) → runs_for count free ≤ count
runs_few count free = by_test (count == 0)
  where
    by_test : (b : Bool) → (if b then 0 else fewest_of count (free_runs free)) ≤ count
    by_test true = omega arith
    by_test false = few count (free_runs free) (have_sorted (runs_of free) (have_blocks 0 0 free))

-- nor do they take more records
pub records_few : (count : ℕ) (free : List Bool) → overflow_records (runs_for count free) ≤ overflow_records count
records_few count free = let it = runs_few count free in omega (arith, it)
