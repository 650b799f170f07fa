use Rattle.std.proofs.Common.{◌≡◌, ◌-◌, ◌++◌, take, length}
use Rattle.fork_map.specs.Blocks.{blocks_of}
use Rattle.hfs_volume.specs.Forks.{parts_for}
use Rattle.overflow.specs.Records.{records_from, records_for}
use Rattle.overflow.proofs.splitting.split.Given as goal

abbrev pub invariant-loop-at : goal.invariant-loop-at
invariant-loop-at l = record {
  place : l.place ≡ length (blocks_of (take l.at l.extents));
  rest : l.records.items ++ records_from (parts_for (length l.extents - l.at) 8) l.at l.extents ≡ records_for l.extents;
}

abbrev pub decreases-loop-at : goal.decreases-loop-at
decreases-loop-at l = length l.extents - l.at
