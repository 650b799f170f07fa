use Rattle.std.proofs.Common.{◌≡◌, sym, ◌∙◌, ap, subst}
use Rattle.std.specs.Prelude.{IsTrue}
use Rattle.btree_node.specs.Keys.{IsCatalogKey}
use Rattle.btree_node.specs.Tree.{pairs_of}
use Rattle.catalog.proofs.RoomLaws.{edits_are, edits_room, most_both, most_edits, most_fewer, room_before, room_left, update_room, updates_add}
use Rattle.hard_links.specs.Linking.{MakesFirst}
use Rattle.hfs_volume.proofs.Ascending.{tree_sorted}
use Rattle.hard_links.proofs.Asides.{on_ok_so}
use Rattle.catalog.proofs.Beside.{empty_name}
use Rattle.hard_links.proofs.Puts.{file_moved, made_first, may_put, node_free, spelled_linked, value_linked}
use Rattle.hard_links.proofs.first_links.share.Goals as goal

pub move_entry-requires-clause-threads : goal.move_entry-requires-clause-threads
move_entry-requires-clause-threads g c tells = (c.requires.may tells).threads

pub move_entry-requires-clause-room : goal.move_entry-requires-clause-room
move_entry-requires-clause-room g c = let s = g.N.NodeStore.state c.args.store.now in edits_room 3 0 516 s (room_before 3 0 4 1 516 s c.requires.room)

pub returns-in_err-move_entry-clause-takes : goal.returns-in_err-move_entry-clause-takes
returns-in_err-move_entry-clause-takes g c =
    let s = g.N.NodeStore.state c.args.store.now in
    let moved = g.N.NodeStore.state c.move_entry.new.store in
    most_fewer 3 0 4 1 516 s moved (most_edits 3 516 s moved c.move_entry.ensures.takes)

pub put_links-requires-clause-may : goal.put_links-requires-clause-may
put_links-requires-clause-may g c tells_moved =
    let s = g.N.NodeStore.state c.args.store.now in
    let moved = g.N.NodeStore.state c.move_entry.new.store in
    let tells : IsTrue s.tells = sym c.move_entry.ensures.same.tells ∙ tells_moved in
    let may = c.requires.may tells in
    let from = c.args.from.now in
    let to = c.args.to.now in
    let name = c.args.name.now in
    let free = node_free c.args.private name c.args.file.now.fields.id (pairs_of s) c.args.target (c.requires.target tells) c.requires.named in
    let moves = file_moved c.args.private from to c.args.ids.0 c.args.ids.1 name (pairs_of s) (pairs_of moved) c.in_ok-move_entry.field-0 may free (c.in_ok-move_entry.ensures.answer tells) (c.in_ok-move_entry.ensures.moved tells) in
    may_put c.args.private from to c.args.ids.0 c.args.ids.1 name c.args.file.now (pairs_of s) (pairs_of moved) may (c.requires.value tells) free (empty_name from.name c.requires.some_old) (empty_name to.name c.requires.some_new) (empty_name name c.requires.some)
    (tree_sorted IsCatalogKey s (c.requires.tree tells)) (tree_sorted IsCatalogKey moved (c.in_ok-move_entry.ensures.tree tells)) moves

pub put_links-requires-clause-room : goal.put_links-requires-clause-room
put_links-requires-clause-room g c =
    let s = g.N.NodeStore.state c.args.store.now in
    let moved = g.N.NodeStore.state c.move_entry.new.store in
    edits_room 4 1 516 moved (room_left 3 0 4 1 516 s moved c.move_entry.ensures.same (edits_are 3 516 s moved c.in_ok-move_entry.ensures.edits) c.requires.room)

pub returns-in_err-put_links-clause-takes : goal.returns-in_err-put_links-clause-takes
returns-in_err-put_links-clause-takes g c =
    let s = g.N.NodeStore.state c.args.store.now in
    let moved = g.N.NodeStore.state c.move_entry.new.store in
    let linked = g.N.NodeStore.state c.put_links.new.store in
    most_both 3 0 4 1 516 s moved linked c.move_entry.ensures.same (edits_are 3 516 s moved c.in_ok-move_entry.ensures.edits) (most_fewer 4 0 0 1 516 moved linked (most_edits 4 516 moved linked c.put_links.ensures.takes))

pub count_links-requires-clause-spelled : goal.count_links-requires-clause-spelled
count_links-requires-clause-spelled g c tells_linked =
    let s = g.N.NodeStore.state c.args.store.now in
    let moved = g.N.NodeStore.state c.move_entry.new.store in
    let linked = g.N.NodeStore.state c.put_links.new.store in
    let tells_moved : IsTrue moved.tells = sym c.put_links.ensures.same.tells ∙ tells_linked in
    let tells : IsTrue s.tells = sym c.move_entry.ensures.same.tells ∙ tells_moved in
    let may = c.requires.may tells in
    let from = c.args.from.now in
    let to = c.args.to.now in
    let name = c.args.name.now in
    let free = node_free c.args.private name c.args.file.now.fields.id (pairs_of s) c.args.target (c.requires.target tells) c.requires.named in
    let moves = file_moved c.args.private from to c.args.ids.0 c.args.ids.1 name (pairs_of s) (pairs_of moved) c.in_ok-move_entry.field-0 may free (c.in_ok-move_entry.ensures.answer tells) (c.in_ok-move_entry.ensures.moved tells) in
    spelled_linked c.args.private from to c.args.ids.0 c.args.ids.1 name c.args.file.now (pairs_of s) (pairs_of moved) may (c.requires.value tells) free (empty_name from.name c.requires.some_old) (empty_name to.name c.requires.some_new) (empty_name name c.requires.some)
    (tree_sorted IsCatalogKey s (c.requires.tree tells)) (tree_sorted IsCatalogKey moved (c.in_ok-move_entry.ensures.tree tells)) moves c.args.target (pairs_of linked) (c.in_ok-put_links.ensures.puts tells_moved)

pub count_links-requires-clause-plain : goal.count_links-requires-clause-plain
count_links-requires-clause-plain g c tells_linked = c.requires.plain (sym c.move_entry.ensures.same.tells ∙ sym c.put_links.ensures.same.tells ∙ tells_linked)

pub count_links-requires-clause-stands : goal.count_links-requires-clause-stands
count_links-requires-clause-stands g c tells_linked =
    let s = g.N.NodeStore.state c.args.store.now in
    let moved = g.N.NodeStore.state c.move_entry.new.store in
    let linked = g.N.NodeStore.state c.put_links.new.store in
    let tells_moved : IsTrue moved.tells = sym c.put_links.ensures.same.tells ∙ tells_linked in
    let tells : IsTrue s.tells = sym c.move_entry.ensures.same.tells ∙ tells_moved in
    let may = c.requires.may tells in
    let from = c.args.from.now in
    let to = c.args.to.now in
    let name = c.args.name.now in
    let free = node_free c.args.private name c.args.file.now.fields.id (pairs_of s) c.args.target (c.requires.target tells) c.requires.named in
    let moves = file_moved c.args.private from to c.args.ids.0 c.args.ids.1 name (pairs_of s) (pairs_of moved) c.in_ok-move_entry.field-0 may free (c.in_ok-move_entry.ensures.answer tells) (c.in_ok-move_entry.ensures.moved tells) in
    value_linked c.args.private from to c.args.ids.0 c.args.ids.1 name c.args.file.now (pairs_of s) (pairs_of moved) may (c.requires.value tells) free (empty_name from.name c.requires.some_old) (empty_name to.name c.requires.some_new) (empty_name name c.requires.some)
    (tree_sorted IsCatalogKey s (c.requires.tree tells)) (tree_sorted IsCatalogKey moved (c.in_ok-move_entry.ensures.tree tells)) moves c.args.target (pairs_of linked) (c.in_ok-put_links.ensures.puts tells_moved)

pub count_links-requires-clause-room : goal.count_links-requires-clause-room
count_links-requires-clause-room g c =
    let s = g.N.NodeStore.state c.args.store.now in
    let moved = g.N.NodeStore.state c.move_entry.new.store in
    let linked = g.N.NodeStore.state c.put_links.new.store in
    let left = room_left 3 0 4 1 516 s moved c.move_entry.ensures.same (edits_are 3 516 s moved c.in_ok-move_entry.ensures.edits) c.requires.room in
    update_room linked (room_left 4 0 0 1 516 moved linked c.put_links.ensures.same (edits_are 4 516 moved linked c.in_ok-put_links.ensures.edits) left)

pub returns-in_err-count_links-clause-takes : goal.returns-in_err-count_links-clause-takes
returns-in_err-count_links-clause-takes g c =
    let s = g.N.NodeStore.state c.args.store.now in
    let moved = g.N.NodeStore.state c.move_entry.new.store in
    let linked = g.N.NodeStore.state c.put_links.new.store in
    let new = g.N.NodeStore.state c.count_links.new.store in
    most_both 3 0 4 1 516 s moved new c.move_entry.ensures.same (edits_are 3 516 s moved c.in_ok-move_entry.ensures.edits)
    (most_both 4 0 0 1 516 moved linked new c.put_links.ensures.same (edits_are 4 516 moved linked c.in_ok-put_links.ensures.edits) c.count_links.ensures.takes)

pub returns-clause-takes : goal.returns-clause-takes
returns-clause-takes g c =
    let s = g.N.NodeStore.state c.args.store.now in
    let moved = g.N.NodeStore.state c.move_entry.new.store in
    let linked = g.N.NodeStore.state c.put_links.new.store in
    let new = g.N.NodeStore.state c.count_links.new.store in
    most_both 3 0 4 1 516 s moved new c.move_entry.ensures.same (edits_are 3 516 s moved c.in_ok-move_entry.ensures.edits)
    (most_both 4 0 0 1 516 moved linked new c.put_links.ensures.same (edits_are 4 516 moved linked c.in_ok-put_links.ensures.edits) c.count_links.ensures.takes)

pub returns-clause-edits : goal.returns-clause-edits
returns-clause-edits g c =
    let s = g.N.NodeStore.state c.args.store.now in
    let moved = g.N.NodeStore.state c.move_entry.new.store in
    let linked = g.N.NodeStore.state c.put_links.new.store in
    let new = g.N.NodeStore.state c.count_links.new.store in
    updates_add 3 0 4 1 516 s moved new c.move_entry.ensures.same (edits_are 3 516 s moved c.in_ok-move_entry.ensures.edits)
    (updates_add 4 0 0 1 516 moved linked new c.put_links.ensures.same (edits_are 4 516 moved linked c.in_ok-put_links.ensures.edits) c.in_ok-count_links.ensures.edits)

pub returns-clause-linked : goal.returns-clause-linked
returns-clause-linked g c tells =
    let s = g.N.NodeStore.state c.args.store.now in
    let moved = g.N.NodeStore.state c.move_entry.new.store in
    let linked = g.N.NodeStore.state c.put_links.new.store in
    let new = g.N.NodeStore.state c.count_links.new.store in
    let tells_moved : IsTrue moved.tells = c.move_entry.ensures.same.tells ∙ tells in
    let tells_linked : IsTrue linked.tells = c.put_links.ensures.same.tells ∙ tells_moved in
    let may = c.requires.may tells in
    let from = c.args.from.now in
    let to = c.args.to.now in
    let name = c.args.name.now in
    let free = node_free c.args.private name c.args.file.now.fields.id (pairs_of s) c.args.target (c.requires.target tells) c.requires.named in
    let moves = file_moved c.args.private from to c.args.ids.0 c.args.ids.1 name (pairs_of s) (pairs_of moved) c.in_ok-move_entry.field-0 may free (c.in_ok-move_entry.ensures.answer tells) (c.in_ok-move_entry.ensures.moved tells) in
    made_first c.args.private from to c.args.ids.0 c.args.ids.1 name c.args.file.now (pairs_of s) (pairs_of moved) may (c.requires.value tells) free (empty_name from.name c.requires.some_old) (empty_name to.name c.requires.some_new) (empty_name name c.requires.some)
    (tree_sorted IsCatalogKey s (c.requires.tree tells)) (tree_sorted IsCatalogKey moved (c.in_ok-move_entry.ensures.tree tells)) moves c.args.target (pairs_of linked) (c.in_ok-put_links.ensures.puts tells_moved)
    (pairs_of new) (tree_sorted IsCatalogKey linked (c.in_ok-put_links.ensures.tree tells_moved)) (c.requires.plain tells) (c.requires.target tells) c.requires.named (c.in_ok-count_links.ensures.counts tells_linked)
