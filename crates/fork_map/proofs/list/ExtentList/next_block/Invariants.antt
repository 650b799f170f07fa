use Rattle.std.proofs.Common.{ℕ, ◌-◌, length}
use Rattle.fork_map.specs.Cursors.{IsAt}
use Rattle.fork_map.proofs.CursorLaws.{cursor}
use Rattle.fork_map.proofs.list.ExtentList.next_block.Given as goal

abbrev pub invariant-loop-index : goal.invariant-loop-index
invariant-loop-index l = (n : ℕ) → IsAt l.items l.fn.at n → IsAt l.items (cursor l.index l.offset) n

abbrev pub decreases-loop-index : goal.decreases-loop-index
decreases-loop-index l = length l.items - l.index
