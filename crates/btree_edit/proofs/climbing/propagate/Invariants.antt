use Rattle.std.proofs.Common.{◌≡◌, ◌≤◌, ◌+◌, ◌*◌}
use Rattle.std.specs.Prelude.{IsTrue}
use Rattle.btree_edit.specs.Desk.{IsDeskOf}
use Rattle.btree_edit.specs.Editing.{CostsAtMost}
use Rattle.btree_edit.specs.Ended.{EndsAt}
use Rattle.btree_edit.specs.LevelEdit.{records_on}
use Rattle.btree_edit.specs.Rising.{CanClimb}
use Rattle.btree_edit.proofs.Ascent.{IsAscent}
use Rattle.btree_edit.proofs.climbing.propagate.Given as goal

abbrev pub invariant-loop-done : goal.invariant-loop-done
invariant-loop-done g l = let before = g.N.NodeStore.state l.fn.store in let now = g.N.NodeStore.state l.store in record {
  depth : l.shape.depth ≡ l.fn.shape.depth;
  same_depth : l.depth ≡ l.fn.shape.depth;
  few : l.next ≤ 2;
  there : l.done ≡ 0 → EndsAt now l.fn.shape.depth l.desk.node l.desk.path;
  path : l.desk.path ≡ l.fn.desk.path;
  ascent : IsTrue before.tells → l.fn.shape ≡ before.shape
      → CanClimb g.K.KeyOrder.is_key g.K.KeyOrder.cmp g.K.KeyOrder.MAX before l.fn.desk.path l.fn.at l.fn.removed (records_on l.fn.count l.fn.desk) l.fn.spare
      → IsAscent g.K.KeyOrder.is_key g.K.KeyOrder.cmp g.K.KeyOrder.MAX before now l.fn.desk.path l.fn.at l.fn.removed (records_on l.fn.count l.fn.desk) l.fn.spare l.shape l.desk l.done l.next l.gone l.left l.budget;
  desk : IsDeskOf before.shape.node_size l.desk;
  budget : l.budget ≤ 4 * l.fn.shape.depth;
  enough : 4 * l.fn.shape.depth ≤ l.budget + 4 * l.done;
  left : l.left ≤ l.fn.spare;
  written : before.unwritten + l.budget ≤ now.unwritten + 4 * l.fn.shape.depth;
  taken : before.shape.free + l.left ≤ now.shape.free + l.fn.spare;
  does : CostsAtMost (4 * l.fn.shape.depth) l.fn.spare before now;
  below : g.N.NodeStore.follows l.fn.store l.store;
}
