use Rattle.std.proofs.Common.{◌≡◌, ◌≤◌, ◌<◌, ◌*◌, ℕ, false, length, get_or}
use Rattle.flag_rows.specs.Bits.{bit_of}
use Rattle.fsck_scan.proofs.scan.bytes_for_nodes.Given as goal

abbrev pub decreases-loop-count : goal.decreases-loop-count
decreases-loop-count l = l.count

abbrev pub invariant-loop-count : goal.invariant-loop-count
invariant-loop-count l = record {
  inside : l.count ≤ length l.bits;
  rest : (n : ℕ) → 8 * l.count ≤ n → n < 8 * length l.bits → bit_of l.bits n ≡ get_or l.marks n false;
}
