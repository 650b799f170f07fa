use Rattle.std.proofs.Common.{◌≤◌, arith}
use Rattle.btree_node.specs.Tree.{pairs_of}
use Rattle.btree_edit.proofs.EditLaws.{room_for_one, takes_one}
use Rattle.attributes.proofs.SingleEdits.{one_edit, removal_spelled}
use Rattle.attributes.proofs.edits.remove_key.Goals as goal

pub remove-requires-clause-depth : goal.remove-requires-clause-depth
remove-requires-clause-depth g c tells varying = (room_for_one 0 266 (g.N.NodeStore.state c.args.store.now) c.requires.room tells).depth

pub remove-requires-clause-free : goal.remove-requires-clause-free
remove-requires-clause-free g c tells varying = (room_for_one 0 266 (g.N.NodeStore.state c.args.store.now) c.requires.room tells).free

pub remove-requires-clause-room : goal.remove-requires-clause-room
remove-requires-clause-room g c tells = (room_for_one 0 266 (g.N.NodeStore.state c.args.store.now) c.requires.room tells).room

pub returns-clause-form : goal.returns-clause-form
returns-clause-form g c tells spelled =
    let s = g.N.NodeStore.state c.args.store.now in
    removal_spelled c.remove.result c.args.key.now (pairs_of s) (pairs_of (g.N.NodeStore.state c.remove.new.store)) spelled (c.remove.ensures.pairs tells)

pub returns-clause-frame : goal.returns-clause-frame
returns-clause-frame g c =
    let old = (g.N.NodeStore.state c.args.store.now).shape in
    let new = (g.N.NodeStore.state c.remove.new.store).shape in
    record {
      below = c.remove.ensures.below;
      same = c.remove.ensures.does.same;
      desk = c.remove.ensures.desk;
      takes = takes_one 266 (g.N.NodeStore.state c.args.store.now) (g.N.NodeStore.state c.remove.new.store) c.remove.ensures.does;
      edits = one_edit c.remove.result (new.leaf_records ≤ old.leaf_records) (g.N.NodeStore.state c.args.store.now) (g.N.NodeStore.state c.remove.new.store) (λ few. omega (arith, few))
          c.remove.ensures.does c.remove.ensures.depth c.remove.ensures.records c.remove.ensures.roots;
      tree = c.remove.ensures.tree;
      header = c.remove.ensures.header;
    }

pub remove-requires-clause-desk : goal.remove-requires-clause-desk
remove-requires-clause-desk g c = c.requires.ready.desk

pub remove-requires-clause-tree : goal.remove-requires-clause-tree
remove-requires-clause-tree g c = c.requires.ready.tree
