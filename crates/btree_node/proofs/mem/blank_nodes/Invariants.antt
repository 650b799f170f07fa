use Rattle.std.proofs.Common.{◌≡◌, length, All}
use Rattle.btree_node.proofs.mem.blank_nodes.Given as goal

-- so many nodes of the size were made
abbrev pub invariant-loop-at : goal.invariant-loop-at
invariant-loop-at l = (length l.nodes.items ≡ l._at) × All (λ node. length node ≡ l.node_size) l.nodes.items
