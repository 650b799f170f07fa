use Rattle.std.proofs.Common.{◌≡◌, ◌<◌, ◌≤◌, ◌^◌, ℕ, false, length, get_or}
use Rattle.flag_rows.specs.Bits.{bit_of}
use Rattle.fsck_scan.proofs.scan.judge_map.Given as goal

abbrev pub invariant-loop-n : goal.invariant-loop-n
invariant-loop-n l = length l.marks ≤ 2 ^ 32 → (k : ℕ) → k < l.n → bit_of l.bits k ≡ get_or l.marks k false
