use Rattle.std.proofs.Common.{◌≤◌, length, take}
use Rattle.std.specs.Prelude.{All, Some}
use Rattle.btree_node.specs.Levels.{Pair}
use Rattle.hfs_volume.specs.Records.{placed_in}
use Rattle.fsck_core.specs.Names.{AreShared}
use Rattle.fsck_core.proofs.shared.read_folder.Given as goal

abbrev pub invariant-loop-i : goal.invariant-loop-i
invariant-loop-i l = record {
  shared : All (λ (pair : Pair). 8 ≤ length pair.0) l.pairs → AreShared (Some l.private) (placed_in (take l.i l.pairs)) l.files.items;
}
