use Rattle.std.proofs.Common.{◌≡◌, ◌<◌, ◌≤◌, ℕ, length}
use Rattle.fsck_core.specs.Rows.{row_at}
use Rattle.fsck_core.specs.Parents.{IsBelow, IsReaching, Enters, HasRoom}
use Rattle.fsck_core.proofs.parents.enter.Given as goal

abbrev pub invariant-loop-at : goal.invariant-loop-at
invariant-loop-at l = record {
  long : length l.marks.items ≡ length l.rows;
  low : l.from ≤ l.at;
  room : HasRoom l.fn.marks.items l.fn.folders.items l.marks.items l.folders.items;
  enters : (top : ℕ) → IsReaching top l.rows l.fn.marks.items l.fn.folders.items → IsBelow top l.rows l.id → ((k : ℕ) → l.from ≤ k → k < l.to → (row_at l.rows k).parent ≡ l.id)
      → Enters top l.rows l.from l.at l.fn.marks.items l.fn.folders.items l.marks.items l.folders.items;
}
