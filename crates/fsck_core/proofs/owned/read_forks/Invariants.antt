use Rattle.std.proofs.Common.{◌≡◌, ◌++◌, take}
use Rattle.std.specs.List.{flat_map}
use Rattle.hfs_volume.specs.Records.{placed_in}
use Rattle.hfs_volume.specs.Forks.{special_forks}
use Rattle.fsck_core.specs.Owners.{owned_all}
use Rattle.fsck_core.specs.AllForks.{forks_at}
use Rattle.fsck_core.proofs.owned.read_forks.Given as goal

abbrev pub invariant-loop-i : goal.invariant-loop-i
invariant-loop-i l = record {
  forks : owned_all l.forks.items ≡ special_forks l.head ++ flat_map forks_at (placed_in (take l.i l.pairs));
}
