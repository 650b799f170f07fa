use Rattle.std.proofs.Common.{◌-◌, ◌≤◌}
use Rattle.btree_node.specs.Bytes.{MovesUp}
use Rattle.btree_node.proofs.moves.move_up.Given as goal

abbrev pub invariant-loop-from : goal.invariant-loop-from
invariant-loop-from l = record {
  low : l.at ≤ l.from;
  high : l.from ≤ l.end;
  moved : MovesUp l.from l.end l.by l.fn.bytes l.bytes;
}

abbrev pub decreases-loop-from : goal.decreases-loop-from
decreases-loop-from l = l.from - l.at
