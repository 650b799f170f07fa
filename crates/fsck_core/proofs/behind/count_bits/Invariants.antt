use Rattle.std.proofs.Common.{◌≡◌, ◌≤◌, ◌-◌}
use Rattle.std.specs.List.{count_by, range_with_len}
use Rattle.flag_rows.specs.Bits.{bit_of}
use Rattle.fsck_core.proofs.behind.count_bits.Given as goal

abbrev pub invariant-loop-k : goal.invariant-loop-k
invariant-loop-k l = record {
  count : l.count ≡ count_by (bit_of l.sector) (range_with_len l.from (l.k - l.from));
  few : l.count ≤ l.k - l.from;
  least : l.from ≤ l.k;
  most : l.k - l.from ≤ l.to - l.from;
}
