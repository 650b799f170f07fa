use Rattle.std.proofs.Common.{◌≡◌, ◌<◌, ◌≤◌, ℕ, ◌+◌}
use Rattle.btree_node.specs.Node.{offset}
use Rattle.btree_node.specs.Bytes.{ChangesOffsets}
use Rattle.btree_node.proofs.bytes.lower_offsets.Given as goal

abbrev pub invariant-loop-i : goal.invariant-loop-i
invariant-loop-i l = record {
  done : ChangesOffsets l.from l.i (λ old new. new + l.by ≡ old) l.fn.node l.node;
  rest : (j : ℕ) → l.i ≤ j → j < l.to → offset l.node j ≡ offset l.fn.node j;
}
