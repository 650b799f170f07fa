use Rattle.std.proofs.Common.{◌≡◌, ◌<◌, ℕ, true, get_or}
use Rattle.btree_node.proofs.mem.MemNodes.first_free.Given as goal

-- each node before this one is in use
abbrev pub invariant-loop-node : goal.invariant-loop-node
invariant-loop-node l = (n : ℕ) → n < l.node → get_or l.self.used.items n true ≡ true
