-- Where the longest run of free blocks is long enough, so many blocks in a row are free.
use Rattle.std.proofs.Common.{◌≡◌, ◌<◌, ◌≤◌, ℕ, ◌*◌, length, length-append, Bool, true, false, List, [], ◌∷◌, get_or, refl, arith, cond, ⊎_elim}
use Rattle.std.specs.Prelude.{Contains}
use Rattle.std.specs.List.{range_with_len}
use Rattle.std.proofs.lemmas.Bool.{cases_lt}
use Rattle.hx_bytes.specs.declared.extents.Extent.{Extent}
use Rattle.fork_map.specs.Blocks.{blocks_of}
use Rattle.flag_rows.specs.Runs.{longest_of, runs_of}
use Rattle.std.proofs.lemmas.List.FromFn.{length-range_with_len}
use Rattle.flag_rows.specs.Bits.{count_set}
use Rattle.alloc_bitmap.proofs.TakeLaws.{length_runs, times_free}
use Rattle.hfs_volume.proofs.BlockWants.{in_range}
use Rattle.hfs_volume.proofs.Members.{at_front, behind}
use Rattle.sector_disk.specs.Space.{Space}
use Rattle.hfs_volume.specs.Forks.{per_block_of}
use Rattle.volume_space.specs.Growing.{HasFreeRun}
use Rattle.volume_base.specs.Standing.{IsStanding}
use Rattle.volume_base.specs.declared.volume.Volume.{Volume}
use Rattle.volume_base.proofs.Placing.{flat_stands, stands_once}

-- the longest run is one of them
pub record IsLongest (runs : List Extent) : Type 0 where
  pub run : Extent
  pub stands : Contains runs run
  pub count : run.count ≡ longest_of runs

longest_in : (runs : List Extent) → 0 < longest_of runs → IsLongest runs
longest_in [] some = absurd (omega (arith, some))
longest_in (run ∷ rest) some = ⊎_elim
    (λ (less : run.count < longest_of rest).
    let found = longest_in rest (omega (arith, less)) in record {
      run = found.run;
      stands = behind run found.run rest found.stands;
      count = omega (arith, found.count, less);
    })
    (λ (enough : longest_of rest ≤ run.count). record { run = run; stands = at_front run rest; count = omega (arith, enough) })
    (cases_lt run.count (longest_of rest))

set_there : (b : Bool) → 1 ≤ cond b 1 0 → b ≡ true
set_there true is = refl
set_there false is = absurd (omega (arith, is))

pub has_run : (many : ℕ) (free : List Bool) → 0 < many → many ≤ longest_of (runs_of free) → HasFreeRun many free
has_run many free some long =
    let found = longest_in (runs_of free) (omega (arith, some, long)) in
    record {
      start = found.run.start;
      each = λ k from to. set_there (get_or free k false) (omega (
        arith,
        times_free free k,
        stands_once k (blocks_of (runs_of free)) (flat_stands (λ (e : Extent). range_with_len e.start e.count) (runs_of free) found.run k found.stands (in_range found.run.start found.run.count k from (omega (arith, to, found.count, long)))),
      ));
    }

-- it has no more blocks than are free
longest_among : (runs : List Extent) → longest_of runs ≤ length (blocks_of runs)
longest_among [] = omega arith
longest_among (run ∷ rest) = omega (arith, longest_among rest, length-append (range_with_len run.start run.count) (blocks_of rest), length-range_with_len run.start run.count)

pub run_counted : (free : List Bool) → longest_of (runs_of free) ≤ count_set free
run_counted free = omega (arith, longest_among (runs_of free), length_runs 0 0 free)

-- told, a volume's blocks lie in its space, by the size that its files' blocks have
pub blocks_inside : (v : Volume) (space : Space) (per : ℕ) → IsStanding v space → length space.content ≡ space.sectors → per ≡ per_block_of v.header → length v.map.used * per ≤ space.sectors
blocks_inside v space per was long same =
    let product : length v.map.used * per ≡ v.header.total_blocks * per_block_of v.header = λ i. was.blocks i * same i in
    omega (arith, product, was.fit, long)
