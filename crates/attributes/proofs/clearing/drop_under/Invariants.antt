use Rattle.std.proofs.Common.{◌≤◌, ◌-◌}
use Rattle.std.specs.Prelude.{IsTrue, Ok, ⊤}
use Rattle.btree_node.specs.Keys.{IsAttrKey, attr_cmp, attr_file, attr_units}
use Rattle.btree_node.specs.Tree.{pairs_of}
use Rattle.btree_edit.specs.Edits.{EditRoom}
use Rattle.attributes.specs.Dropping.{is_named}
use Rattle.attributes.proofs.Removing.{GoneSoFar}
use Rattle.attributes.specs.Values.{AreSpelled}
use Rattle.attributes.specs.Frame.{EditsAtMost}
use Rattle.attributes.proofs.clearing.drop_under.Given as goal

abbrev pub invariant-loop-dropped : goal.invariant-loop-dropped
invariant-loop-dropped g l = let before = g.N.NodeStore.state l.fn.store in let now = g.N.NodeStore.state l.store in record {
  within : l.dropped ≤ l.most;
  form : IsTrue before.tells → AreSpelled (pairs_of now);
  gone : IsTrue before.tells → GoneSoFar (is_named (attr_file l.key) (attr_units l.key)) l.dropped (pairs_of before) (pairs_of now) l.fn.blocks l.blocks;
  room : IsTrue now.tells → EditRoom (l.most - l.dropped) 266 now;
  later : before.faults ≤ now.faults;
  frame : EditsAtMost {T = ⊤} {E = ⊤} g.N.NodeStore.state g.N.NodeStore.follows IsAttrKey attr_cmp l.dropped 266 l.fn.store l.store l.desk (Ok tt);
}
