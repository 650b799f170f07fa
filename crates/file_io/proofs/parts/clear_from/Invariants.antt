use Rattle.std.proofs.Common.{◌≡◌, ℕ, ◌&&◌, nat_le, nat_lt, if◌then◌else◌, length, get_or}
use Rattle.file_io.proofs.parts.clear_from.Given as goal

abbrev pub invariant-loop-at : goal.invariant-loop-at
invariant-loop-at l = record {
  size : length l.sector ≡ 512;
  each : (k : ℕ) → get_or l.sector k 0 ≡ (if nat_le l.low k && nat_lt k l.at then 0 else get_or l.fn.sector k 0);
}
