use Rattle.std.proofs.Common.{◌≡◌, ℕ, ◌+◌, ◌*◌, ◌<◌, ◌≤◌, [], length, take}
use Rattle.std.specs.Prelude.{slice_index_or}
use Rattle.btree_node.specs.Node.{items}
use Rattle.btree_edit.specs.Halves.{put_of, with_put}
use Rattle.btree_edit.specs.LevelEdit.{taken}
use Rattle.btree_edit.proofs.splitting.middle.Given as goal

abbrev pub invariant-loop-i : goal.invariant-loop-i
invariant-loop-i l = let records = with_put (items l.node) l.at (put_of l.count l.first l.second) in record {
  front : l.front ≡ taken (take l.i records);
  half : (most : ℕ) → ((k : ℕ) → k < length records → length (slice_index_or records k []) + 2 ≤ most) → 2 * l.front ≤ l.total + most;
  low : l.front ≤ l.total;
}
