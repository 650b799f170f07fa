use Rattle.std.proofs.Common.{◌≡◌, ◌≤◌, ◌<◌, ℕ, false, length}
use Rattle.std.specs.Prelude.{All}
use Rattle.btree_node.specs.Levels.{Pair}
use Rattle.hfs_volume.specs.Records.{placed_of, is_placed_at}
use Rattle.fsck_core.specs.Names.{pair_at}
use Rattle.fsck_core.proofs.names.find_in_root.Given as goal

abbrev pub invariant-loop-at : goal.invariant-loop-at
invariant-loop-at l = record {
  none : All (λ (pair : Pair). 8 ≤ length pair.0) l.pairs → (k : ℕ) → k < l.at → is_placed_at 2 l.name (placed_of (pair_at l.pairs k)) ≡ false;
}
