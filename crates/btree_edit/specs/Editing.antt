-- What edits take.
use Rattle.std.specs.Prelude.{◌≤◌, ℕ, ◌+◌, ◌*◌}
use Rattle.btree_node.specs.Store.{Store, SameStore, unwritten_sectors}

-- at most so many nodes were written for the first time since the last commit, each took at most its sectors, and at most so many free nodes were taken
pub record CostsAtMost (most takes : ℕ) (old new : Store) : Type 0 where
  pub fewer : new.unwritten ≤ old.unwritten
  pub some : old.unwritten ≤ new.unwritten + most
  pub left : old.writes_left + new.unwritten ≤ new.writes_left + old.unwritten
  pub sectors : old.sectors_left + unwritten_sectors new ≤ new.sectors_left + unwritten_sectors old
  pub free : old.shape.free ≤ new.shape.free + takes
  pub later : old.faults ≤ new.faults
  pub same : SameStore old new

-- how many nodes one edit of a tree of this depth may write
abbrev pub edit_writes : ℕ → ℕ
edit_writes depth = 4 * (depth + 1) + 4
