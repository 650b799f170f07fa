use Rattle.std.proofs.Common.{◌≡◌, ◌++◌, drop}
use Rattle.hfs_volume.specs.Forks.{in_use}
use Rattle.volume_base.proofs.extents.push_used.Given as goal

abbrev pub invariant-loop-extent : goal.invariant-loop-extent
invariant-loop-extent l = l.list ++ in_use (drop l.extent-index l.extents) ≡ l.initial.list ++ in_use l.extents
