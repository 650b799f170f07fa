use Rattle.std.proofs.Common.{◌<◌, ℕ, get_or}
use Rattle.btree_file.specs.declared.tree.Stretch.{Stretch}
use Rattle.btree_file.proofs.refreshing.count_inside.Given as goal

-- the first stretches lie in these nodes
abbrev pub invariant-loop-k : goal.invariant-loop-k
invariant-loop-k l = (j : ℕ) (d : Stretch) → j < l.k → (get_or l.map j d).node < l.total
