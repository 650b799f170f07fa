use Rattle.std.proofs.Common.{length}
use Rattle.jnl_store.proofs.Rows.{IsSought}
use Rattle.jnl_store.proofs.sector_index.search.Given as goal

abbrev pub invariant-loop-left : goal.invariant-loop-left
invariant-loop-left l = IsSought l.sectors (length l.rows) l.at l.left

abbrev pub decreases-loop-left : goal.decreases-loop-left
decreases-loop-left l = l.left
