use Rattle.std.proofs.Common.{◌≡◌, sym, ◌∙◌, ap, subst}
use Rattle.std.specs.Prelude.{IsTrue}
use Rattle.btree_node.specs.Keys.{IsCatalogKey}
use Rattle.btree_node.specs.Tree.{pairs_of}
use Rattle.btree_edit.proofs.EditLaws.{edits_add, room_first, room_then, takes_both, takes_fewer}
use Rattle.hfs_volume.specs.Records.{is_thread}
use Rattle.hfs_volume.proofs.Ascending.{tree_sorted}
use Rattle.catalog.proofs.Beside.{empty_name}
use Rattle.hard_links.proofs.Puts.{added_link, link_unused, second_unused, second_vacant}
use Rattle.hard_links.proofs.first_links.put_links.Goals as goal

pub add-requires-clause-kind : goal.add-requires-clause-kind
add-requires-clause-kind g c = ap is_thread c.link-first.ensures.value

pub add-requires-clause-unused : goal.add-requires-clause-unused
add-requires-clause-unused g c tells =
    link_unused c.args.ids.0 c.args.target.reference c.args.target.created c.link-first.result (pairs_of (g.N.NodeStore.state c.args.store.now)) c.link-first.ensures.value (c.requires.may tells).first

pub add-requires-clause-room : goal.add-requires-clause-room
add-requires-clause-room g c = room_first 2 2 516 (g.N.NodeStore.state c.args.store.now) c.requires.room

pub returns-in_err-add-clause-takes : goal.returns-in_err-add-clause-takes
returns-in_err-add-clause-takes g c = takes_fewer 2 2 516 (g.N.NodeStore.state c.args.store.now) (g.N.NodeStore.state c.add.new.store) c.add.ensures.takes

pub add-requires-2-clause-kind : goal.add-requires-2-clause-kind
add-requires-2-clause-kind g c = ap is_thread c.link-second.ensures.value

pub add-requires-2-clause-unused : goal.add-requires-2-clause-unused
add-requires-2-clause-unused g c tells_more =
    let s = g.N.NodeStore.state c.args.store.now in
    let more = g.N.NodeStore.state c.add.new.store in
    let tells : IsTrue s.tells = sym c.add.ensures.same.tells ∙ tells_more in
    let may = c.requires.may tells in
    let from = c.args.from.now in
    let target = c.args.target in
    let first = added_link from c.args.ids.0 target.reference target.created c.link-first.result (pairs_of s) (pairs_of more) c.in_ok-add.field-0 c.link-first.ensures.value may.vacant (c.in_ok-add.ensures.answer tells) (c.in_ok-add.ensures.added tells) in
    link_unused c.args.ids.1 target.reference target.created c.link-second.result (pairs_of more) c.link-second.ensures.value
    (second_unused from c.args.to.now c.args.ids.0 c.args.ids.1 target.reference target.created (pairs_of s) (pairs_of more) may (empty_name from.name c.requires.some_old) (empty_name c.args.to.now.name c.requires.some_new) first)

pub add-requires-2-clause-room : goal.add-requires-2-clause-room
add-requires-2-clause-room g c =
    room_then 2 2 516 (g.N.NodeStore.state c.args.store.now) (g.N.NodeStore.state c.add.new.store) c.add.ensures.same c.in_ok-add.ensures.edits c.requires.room

pub returns-in_err-add-2-clause-takes : goal.returns-in_err-add-2-clause-takes
returns-in_err-add-2-clause-takes g c =
    takes_both 2 2 516 (g.N.NodeStore.state c.args.store.now) (g.N.NodeStore.state c.add.new.store) (g.N.NodeStore.state c.add-2.new.store) c.add.ensures.same c.in_ok-add.ensures.edits c.add-2.ensures.takes

pub returns-clause-takes : goal.returns-clause-takes
returns-clause-takes g c =
    takes_both 2 2 516 (g.N.NodeStore.state c.args.store.now) (g.N.NodeStore.state c.add.new.store) (g.N.NodeStore.state c.add-2.new.store) c.add.ensures.same c.in_ok-add.ensures.edits c.add-2.ensures.takes

pub returns-clause-edits : goal.returns-clause-edits
returns-clause-edits g c =
    edits_add 2 2 516 (g.N.NodeStore.state c.args.store.now) (g.N.NodeStore.state c.add.new.store) (g.N.NodeStore.state c.add-2.new.store) c.add.ensures.same c.in_ok-add.ensures.edits c.in_ok-add-2.ensures.edits

pub returns-clause-puts : goal.returns-clause-puts
returns-clause-puts g c tells =
    let s = g.N.NodeStore.state c.args.store.now in
    let more = g.N.NodeStore.state c.add.new.store in
    let new = g.N.NodeStore.state c.add-2.new.store in
    let tells_more : IsTrue more.tells = c.add.ensures.same.tells ∙ tells in
    let may = c.requires.may tells in
    let from = c.args.from.now in
    let to = c.args.to.now in
    let target = c.args.target in
    let first = added_link from c.args.ids.0 target.reference target.created c.link-first.result (pairs_of s) (pairs_of more) c.in_ok-add.field-0 c.link-first.ensures.value may.vacant (c.in_ok-add.ensures.answer tells) (c.in_ok-add.ensures.added tells) in
    let vacant = second_vacant from to c.args.ids.0 c.args.ids.1 target.reference target.created (pairs_of s) (pairs_of more) may (empty_name from.name c.requires.some_old) (empty_name to.name c.requires.some_new) first in
    record {
      replaced = pairs_of more;
      replaces = first;
      sorted_replaced = tree_sorted IsCatalogKey more (c.in_ok-add.ensures.tree tells);
      links = added_link to c.args.ids.1 target.reference target.created c.link-second.result (pairs_of more) (pairs_of new) c.in_ok-add-2.field-0 c.link-second.ensures.value vacant (c.in_ok-add-2.ensures.answer tells_more) (c.in_ok-add-2.ensures.added tells_more);
    }
