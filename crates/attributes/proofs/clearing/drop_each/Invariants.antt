use Rattle.std.proofs.Common.{◌≤◌, ◌-◌}
use Rattle.std.specs.Prelude.{IsTrue, Ok, ⊤}
use Rattle.btree_node.specs.Keys.{IsAttrKey, attr_cmp}
use Rattle.btree_node.specs.Tree.{pairs_of}
use Rattle.btree_edit.specs.Edits.{EditRoom}
use Rattle.attributes.specs.Owned.{is_of}
use Rattle.attributes.proofs.Removing.{CountedSoFar}
use Rattle.attributes.specs.Values.{AreSpelled}
use Rattle.attributes.specs.Frame.{EditsAtMost}
use Rattle.attributes.proofs.clearing.drop_each.Given as goal

abbrev pub invariant-loop-dropped : goal.invariant-loop-dropped
invariant-loop-dropped g l = let before = g.N.NodeStore.state l.fn.store in let now = g.N.NodeStore.state l.store in record {
  within : l._dropped ≤ l.most;
  form : IsTrue before.tells → AreSpelled (pairs_of now);
  counted : IsTrue before.tells → CountedSoFar (is_of l.id) l._dropped (pairs_of before) (pairs_of now) l.gone;
  room : IsTrue now.tells → EditRoom (l.most - l._dropped) 266 now;
  later : before.faults ≤ now.faults;
  frame : EditsAtMost {T = ⊤} {E = ⊤} g.N.NodeStore.state g.N.NodeStore.follows IsAttrKey attr_cmp l._dropped 266 l.fn.store l.store l.desk (Ok tt);
}
