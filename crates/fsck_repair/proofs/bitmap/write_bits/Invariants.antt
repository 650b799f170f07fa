use Rattle.std.proofs.Common.{◌≡◌, ◌<◌, ◌≤◌, ◌+◌, ◌*◌, ◌^◌, ℕ, false, length, get_or}
use Rattle.std.specs.Prelude.{slice_index_or}
use Rattle.volume_repair.specs.Repair.{byte_of_bits}
use Rattle.fsck_repair.proofs.bitmap.write_bits.Given as goal

abbrev pub invariant-loop-i : goal.invariant-loop-i
invariant-loop-i l = record {
  long : length l.sector ≡ 512;
  made : length l.used ≤ 2 ^ 32 → (k : ℕ) → k < l.i → 512 * l.place + k < l.size → get_or l.sector k 0 ≡ byte_of_bits (λ n. slice_index_or l.used n false) (512 * l.place + k);
  past : (k : ℕ) → k < l.i → l.size ≤ 512 * l.place + k → get_or l.sector k 0 ≡ get_or l.fn.sector k 0;
  rest : (k : ℕ) → l.i ≤ k → get_or l.sector k 0 ≡ get_or l.fn.sector k 0;
}
