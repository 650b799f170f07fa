use Rattle.std.proofs.Common.{◌-◌, ◌≤◌, ◌+◌}
use Rattle.btree_node.specs.Bytes.{MovesDown}
use Rattle.btree_node.proofs.moves.move_down.Given as goal

abbrev pub invariant-loop-from : goal.invariant-loop-from
invariant-loop-from l = record {
  low : l.at + l.by ≤ l.from;
  high : l.from ≤ l.end;
  moved : MovesDown l.at l.from l.by l.fn.bytes l.bytes;
}

abbrev pub decreases-loop-from : goal.decreases-loop-from
decreases-loop-from l = l.end - l.from
