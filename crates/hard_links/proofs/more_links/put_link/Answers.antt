use Rattle.std.proofs.Common.{◌≡◌, ◌+◌, sym, ◌∙◌, ap, subst}
use Rattle.std.specs.Prelude.{IsTrue, Some}
use Rattle.btree_node.specs.Keys.{IsCatalogKey}
use Rattle.btree_node.specs.Tree.{pairs_of}
use Rattle.cat_records.specs.declared.record.CatRecord.TheVariants.{File}
use Rattle.catalog.proofs.RoomLaws.{edits_are, edits_room, most_both, most_edits, most_fewer, room_left, update_room, updates_add}
use Rattle.hfs_volume.specs.Records.{is_empty, is_thread}
use Rattle.hfs_volume.proofs.Ascending.{tree_sorted}
use Rattle.hard_links.specs.Linking.{CountsLinks}
use Rattle.catalog.proofs.Beside.{empty_name}
use Rattle.hard_links.proofs.Puts.{added_link, link_unused, spelled_between, value_between}
use Rattle.hard_links.proofs.more_links.put_link.Goals as goal

pub add-requires-clause-kind : goal.add-requires-clause-kind
add-requires-clause-kind g c = ap is_thread c.link-rec.ensures.value

pub add-requires-clause-unused : goal.add-requires-clause-unused
add-requires-clause-unused g c tells =
    link_unused c.args.id c.args.shared.now.reference c.args.created c.link-rec.result (pairs_of (g.N.NodeStore.state c.args.store.now)) c.link-rec.ensures.value (c.requires.unused tells)

pub add-requires-clause-room : goal.add-requires-clause-room
add-requires-clause-room g c = edits_room 2 1 516 (g.N.NodeStore.state c.args.store.now) c.requires.room

pub returns-in_err-add-clause-takes : goal.returns-in_err-add-clause-takes
returns-in_err-add-clause-takes g c =
    let s = g.N.NodeStore.state c.args.store.now in
    let more = g.N.NodeStore.state c.add.new.store in
    most_fewer 2 0 0 1 516 s more (most_edits 2 516 s more c.add.ensures.takes)

pub count_links-requires-clause-spelled : goal.count_links-requires-clause-spelled
count_links-requires-clause-spelled g c tells_more =
    let s = g.N.NodeStore.state c.args.store.now in
    let more = g.N.NodeStore.state c.add.new.store in
    let tells : IsTrue s.tells = sym c.add.ensures.same.tells ∙ tells_more in
    let to = c.args.to.now in
    let adds = added_link to c.args.id c.args.shared.now.reference c.args.created c.link-rec.result (pairs_of s) (pairs_of more) c.in_ok-add.field-0 c.link-rec.ensures.value (c.requires.vacant tells) (c.in_ok-add.ensures.answer tells) (c.in_ok-add.ensures.added tells) in
    spelled_between c.args.private to c.args.id c.args.shared.now.reference c.args.created (pairs_of s) (pairs_of more) (empty_name to.name c.requires.some_new) adds (c.requires.spelled tells)

pub count_links-requires-clause-plain : goal.count_links-requires-clause-plain
count_links-requires-clause-plain g c tells_more = c.requires.plain (sym c.add.ensures.same.tells ∙ tells_more)

pub count_links-requires-clause-stands : goal.count_links-requires-clause-stands
count_links-requires-clause-stands g c tells_more =
    let s = g.N.NodeStore.state c.args.store.now in
    let more = g.N.NodeStore.state c.add.new.store in
    let tells : IsTrue s.tells = sym c.add.ensures.same.tells ∙ tells_more in
    let to = c.args.to.now in
    let shared = c.args.shared.now in
    let adds = added_link to c.args.id shared.reference c.args.created c.link-rec.result (pairs_of s) (pairs_of more) c.in_ok-add.field-0 c.link-rec.ensures.value (c.requires.vacant tells) (c.in_ok-add.ensures.answer tells) (c.in_ok-add.ensures.added tells) in
    value_between c.args.private to c.args.id shared.reference c.args.created (pairs_of s) (pairs_of more) (empty_name to.name c.requires.some_new) adds shared.name (File shared.file) (ap is_empty c.requires.named) (c.requires.outside tells) (c.requires.stands tells)

pub count_links-requires-clause-room : goal.count_links-requires-clause-room
count_links-requires-clause-room g c =
    let s = g.N.NodeStore.state c.args.store.now in
    let more = g.N.NodeStore.state c.add.new.store in
    update_room more (room_left 2 0 0 1 516 s more c.add.ensures.same (edits_are 2 516 s more c.in_ok-add.ensures.edits) c.requires.room)

pub returns-in_err-count_links-clause-takes : goal.returns-in_err-count_links-clause-takes
returns-in_err-count_links-clause-takes g c =
    let s = g.N.NodeStore.state c.args.store.now in
    let more = g.N.NodeStore.state c.add.new.store in
    most_both 2 0 0 1 516 s more (g.N.NodeStore.state c.count_links.new.store) c.add.ensures.same (edits_are 2 516 s more c.in_ok-add.ensures.edits) c.count_links.ensures.takes

pub returns-clause-takes : goal.returns-clause-takes
returns-clause-takes g c =
    let s = g.N.NodeStore.state c.args.store.now in
    let more = g.N.NodeStore.state c.add.new.store in
    most_both 2 0 0 1 516 s more (g.N.NodeStore.state c.count_links.new.store) c.add.ensures.same (edits_are 2 516 s more c.in_ok-add.ensures.edits) c.count_links.ensures.takes

pub returns-clause-edits : goal.returns-clause-edits
returns-clause-edits g c =
    let s = g.N.NodeStore.state c.args.store.now in
    let more = g.N.NodeStore.state c.add.new.store in
    updates_add 2 0 0 1 516 s more (g.N.NodeStore.state c.count_links.new.store) c.add.ensures.same (edits_are 2 516 s more c.in_ok-add.ensures.edits) c.in_ok-count_links.ensures.edits

pub returns-clause-adds : goal.returns-clause-adds
returns-clause-adds g c tells =
    let s = g.N.NodeStore.state c.args.store.now in
    let more = g.N.NodeStore.state c.add.new.store in
    let new = g.N.NodeStore.state c.count_links.new.store in
    let tells_more : IsTrue more.tells = c.add.ensures.same.tells ∙ tells in
    let shared = c.args.shared.now in
    record {
      linked = pairs_of more;
      links = added_link c.args.to.now c.args.id shared.reference c.args.created c.link-rec.result (pairs_of s) (pairs_of more) c.in_ok-add.field-0 c.link-rec.ensures.value (c.requires.vacant tells) (c.in_ok-add.ensures.answer tells) (c.in_ok-add.ensures.added tells);
      sorted_linked = tree_sorted IsCatalogKey more (c.in_ok-add.ensures.tree tells);
      counts = subst (λ l. CountsLinks c.args.private l (shared.file.fields.special + 1) (pairs_of more) (pairs_of new)) c.requires.named (c.in_ok-count_links.ensures.counts tells_more);
    }
