use Rattle.std.proofs.Common.{◌≡◌, map, take}
use Rattle.std.specs.Prelude.{All}
use Rattle.hfs_volume.specs.Records.{overflow_of}
use Rattle.fsck_core.specs.Overflows.{overflows_in, IsOverflowPair}
use Rattle.fsck_core.proofs.overflow.read_overflow.Given as goal

abbrev pub invariant-loop-i : goal.invariant-loop-i
invariant-loop-i l = record {
  rows : All IsOverflowPair l.pairs → overflows_in l.rows.items ≡ map overflow_of (take l.i l.pairs);
}
