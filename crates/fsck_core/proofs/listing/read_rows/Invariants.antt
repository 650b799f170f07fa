use Rattle.std.proofs.Common.{◌≡◌, ◌≤◌, length, take}
use Rattle.std.specs.Prelude.{All}
use Rattle.btree_node.specs.Levels.{Pair}
use Rattle.hfs_volume.specs.Records.{placed_in, entries_of}
use Rattle.fsck_core.specs.Rows.{rows_of}
use Rattle.fsck_core.proofs.listing.read_rows.Given as goal

abbrev pub invariant-loop-i : goal.invariant-loop-i
invariant-loop-i l = record {
  rows : All (λ (pair : Pair). 8 ≤ length pair.0) l.pairs → l.rows.items ≡ rows_of (entries_of (placed_in (take l.i l.pairs)));
}
