use Rattle.std.proofs.Common.{◌≤◌, ◌+◌}
use Rattle.btree_edit.proofs.EditLaws.{room_for_one, takes_one}
use Rattle.attributes.proofs.SingleEdits.{one_edit}
use Rattle.attributes.proofs.edits.insert_pair.Goals as goal

pub insert-requires-clause-records : goal.insert-requires-clause-records
insert-requires-clause-records g c tells = (room_for_one 0 266 (g.N.NodeStore.state c.args.store.now) c.requires.room tells).records

pub insert-requires-clause-depth : goal.insert-requires-clause-depth
insert-requires-clause-depth g c tells = (room_for_one 0 266 (g.N.NodeStore.state c.args.store.now) c.requires.room tells).depth

pub insert-requires-clause-free : goal.insert-requires-clause-free
insert-requires-clause-free g c tells = (room_for_one 0 266 (g.N.NodeStore.state c.args.store.now) c.requires.room tells).free

pub insert-requires-clause-room : goal.insert-requires-clause-room
insert-requires-clause-room g c tells = (room_for_one 0 266 (g.N.NodeStore.state c.args.store.now) c.requires.room tells).room

pub returns-clause-frame : goal.returns-clause-frame
returns-clause-frame g c =
    let old = (g.N.NodeStore.state c.args.store.now).shape in
    let new = (g.N.NodeStore.state c.insert.new.store).shape in
    record {
      below = c.insert.ensures.below;
      same = c.insert.ensures.does.same;
      desk = c.insert.ensures.desk;
      takes = takes_one 266 (g.N.NodeStore.state c.args.store.now) (g.N.NodeStore.state c.insert.new.store) c.insert.ensures.does;
      edits = one_edit c.insert.result (new.leaf_records ≤ old.leaf_records + 1) (g.N.NodeStore.state c.args.store.now) (g.N.NodeStore.state c.insert.new.store) (λ few. few)
          c.insert.ensures.does c.insert.ensures.depth c.insert.ensures.records c.insert.ensures.roots;
      tree = c.insert.ensures.tree;
      header = c.insert.ensures.header;
    }

pub insert-requires-clause-desk : goal.insert-requires-clause-desk
insert-requires-clause-desk g c = c.requires.ready.desk

pub insert-requires-clause-tree : goal.insert-requires-clause-tree
insert-requires-clause-tree g c = c.requires.ready.tree
