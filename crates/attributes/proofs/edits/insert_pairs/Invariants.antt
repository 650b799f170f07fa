use Rattle.std.proofs.Common.{◌≡◌, ◌≤◌, ◌-◌, ℕ, List, [], length}
use Rattle.std.specs.Prelude.{IsTrue, Ok, ⊤}
use Rattle.btree_node.specs.Keys.{IsAttrKey, attr_cmp}
use Rattle.btree_node.specs.Tree.{pairs_of}
use Rattle.btree_edit.specs.Edits.{EditRoom}
use Rattle.hfs_model.specs.Sorted.{kept}
use Rattle.attributes.specs.Dropping.{is_named}
use Rattle.attributes.specs.Forks.{Part, RisesFrom, SpellParts}
use Rattle.attributes.specs.Values.{AreSpelled}
use Rattle.attributes.proofs.Row.{PutsSoFar}
use Rattle.attributes.specs.Frame.{EditsAtMost}
use Rattle.attributes.proofs.edits.insert_pairs.Given as goal

abbrev pub invariant-loop-pair : goal.invariant-loop-pair
invariant-loop-pair g l = let before = g.N.NodeStore.state l.fn.store in let now = g.N.NodeStore.state l.store in record {
  within : l.pair-index ≤ length l.pairs;
  puts : IsTrue before.tells → (id : ℕ) (name : List ℕ) (parts : List Part) → SpellParts id name parts l.pairs → RisesFrom 0 parts → 1 ≤ length name → AreSpelled (pairs_of before) → kept (is_named id name) (pairs_of before) ≡ []
      → PutsSoFar id name l.pairs l.pair-index (pairs_of before) (pairs_of now);
  room : IsTrue now.tells → EditRoom (length l.pairs - l.pair-index) 266 now;
  later : before.faults ≤ now.faults;
  frame : EditsAtMost {T = ⊤} {E = ⊤} g.N.NodeStore.state g.N.NodeStore.follows IsAttrKey attr_cmp l.pair-index 266 l.fn.store l.store l.desk (Ok tt);
}
