use Rattle.std.proofs.Common.{◌≡◌, take}
use Rattle.std.specs.List.{fold}
use Rattle.jnl_format.specs.Checksum.{with_byte}
use Rattle.jnl_format.proofs.sums.checksum.Given as goal

abbrev pub invariant-loop-byte : goal.invariant-loop-byte
invariant-loop-byte l = l.sum ≡ fold with_byte 0 (take l.byte-index l.bytes)
