use Rattle.std.proofs.Common.{◌≡◌, ◌++◌, take}
use Rattle.std.specs.List.{flat_map}
use Rattle.hfs_volume.specs.Forks.{in_use}
use Rattle.fsck_core.specs.Overflows.{extents_for}
use Rattle.fsck_core.proofs.overflow.fork_extents.Given as goal

abbrev pub invariant-loop-row : goal.invariant-loop-row
invariant-loop-row l = record {
  list : l.list ≡ in_use l.fork.extents.extents ++ flat_map (extents_for l.id l.kind) (take l.row-index l.rows);
}
