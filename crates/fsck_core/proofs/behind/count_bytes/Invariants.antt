use Rattle.std.proofs.Common.{◌≡◌, ◌≤◌, ◌*◌}
use Rattle.std.specs.List.{count_by, range_with_len}
use Rattle.flag_rows.specs.Bits.{bit_of}
use Rattle.fsck_core.proofs.behind.count_bytes.Given as goal

abbrev pub invariant-loop-k : goal.invariant-loop-k
invariant-loop-k l = record {
  set : l.set ≡ count_by (bit_of l.bytes) (range_with_len 0 (8 * l.k));
  few : l.set ≤ 8 * l.k;
}
