use Rattle.std.proofs.Common.{◌≡◌, ◌+◌, ◌-◌, sym, ◌∙◌, ap, subst, arith}
use Rattle.std.specs.Prelude.{IsTrue, Some}
use Rattle.btree_node.specs.Keys.{IsCatalogKey}
use Rattle.btree_node.specs.Tree.{pairs_of}
use Rattle.catalog.specs.Pairs.{value_at}
use Rattle.catalog.proofs.RoomLaws.{edits_are, edits_room, most_both, most_edits, most_fewer, room_left, update_room, updates_add}
use Rattle.hfs_volume.specs.Records.{placed_in, record_at}
use Rattle.hfs_volume.proofs.Ascending.{tree_sorted}
use Rattle.hard_links.proofs.Dropped.{removed_it, link_dropped, spelled_left, value_left}
use Rattle.hard_links.proofs.dropping.drop_counted.Goals as goal

pub remove-requires-clause-room : goal.remove-requires-clause-room
remove-requires-clause-room g c = edits_room 2 1 516 (g.N.NodeStore.state c.args.store.now) c.requires.room

pub returns-in_err-remove-clause-takes : goal.returns-in_err-remove-clause-takes
returns-in_err-remove-clause-takes g c =
    let s = g.N.NodeStore.state c.args.store.now in
    let less = g.N.NodeStore.state c.remove.new.store in
    most_fewer 2 0 0 1 516 s less (most_edits 2 516 s less c.remove.ensures.takes)

pub say_left-requires-clause-spelled : goal.say_left-requires-clause-spelled
say_left-requires-clause-spelled g c tells_less =
    let s = g.N.NodeStore.state c.args.store.now in
    let less = g.N.NodeStore.state c.remove.new.store in
    let tells : IsTrue s.tells = sym c.remove.ensures.same.tells ∙ tells_less in
    let shares = c.requires.shares tells in
    let drops = removed_it c.args.at.now.parent c.args.at.now.name (pairs_of s) (pairs_of less) c.in_ok-remove.field-0 shares.entry shares.found (c.in_ok-remove.ensures.answer tells) (c.in_ok-remove.ensures.removed tells) in
    spelled_left c.args.private c.args.at.now c.args.shared.now (pairs_of s) (pairs_of less) shares drops c.requires.some (c.requires.threads tells).spelled

pub say_left-requires-clause-plain : goal.say_left-requires-clause-plain
say_left-requires-clause-plain g c tells_less = (c.requires.shares (sym c.remove.ensures.same.tells ∙ tells_less)).plain

pub say_left-requires-clause-stands : goal.say_left-requires-clause-stands
say_left-requires-clause-stands g c tells_less =
    let s = g.N.NodeStore.state c.args.store.now in
    let less = g.N.NodeStore.state c.remove.new.store in
    let tells : IsTrue s.tells = sym c.remove.ensures.same.tells ∙ tells_less in
    let shares = c.requires.shares tells in
    let drops = removed_it c.args.at.now.parent c.args.at.now.name (pairs_of s) (pairs_of less) c.in_ok-remove.field-0 shares.entry shares.found (c.in_ok-remove.ensures.answer tells) (c.in_ok-remove.ensures.removed tells) in
    value_left c.args.private c.args.at.now c.args.shared.now (pairs_of s) (pairs_of less) shares drops c.requires.some

pub say_left-requires-clause-room : goal.say_left-requires-clause-room
say_left-requires-clause-room g c =
    let s = g.N.NodeStore.state c.args.store.now in
    let less = g.N.NodeStore.state c.remove.new.store in
    update_room less (room_left 2 0 0 1 516 s less c.remove.ensures.same (edits_are 2 516 s less c.in_ok-remove.ensures.edits) c.requires.room)

pub returns-in_err-say_left-clause-takes : goal.returns-in_err-say_left-clause-takes
returns-in_err-say_left-clause-takes g c =
    let s = g.N.NodeStore.state c.args.store.now in
    let less = g.N.NodeStore.state c.remove.new.store in
    most_both 2 0 0 1 516 s less (g.N.NodeStore.state c.say_left.new.store) c.remove.ensures.same (edits_are 2 516 s less c.in_ok-remove.ensures.edits) c.say_left.ensures.takes

pub returns-clause-takes : goal.returns-clause-takes
returns-clause-takes g c =
    let s = g.N.NodeStore.state c.args.store.now in
    let less = g.N.NodeStore.state c.remove.new.store in
    most_both 2 0 0 1 516 s less (g.N.NodeStore.state c.say_left.new.store) c.remove.ensures.same (edits_are 2 516 s less c.in_ok-remove.ensures.edits) c.say_left.ensures.takes

pub returns-clause-edits : goal.returns-clause-edits
returns-clause-edits g c =
    let s = g.N.NodeStore.state c.args.store.now in
    let less = g.N.NodeStore.state c.remove.new.store in
    updates_add 2 0 0 1 516 s less (g.N.NodeStore.state c.say_left.new.store) c.remove.ensures.same (edits_are 2 516 s less c.in_ok-remove.ensures.edits) c.in_ok-say_left.ensures.edits

pub returns-clause-dropped : goal.returns-clause-dropped
returns-clause-dropped g c tells =
    let s = g.N.NodeStore.state c.args.store.now in
    let less = g.N.NodeStore.state c.remove.new.store in
    let tells_less : IsTrue less.tells = c.remove.ensures.same.tells ∙ tells in
    let shares = c.requires.shares tells in
    let drops = removed_it c.args.at.now.parent c.args.at.now.name (pairs_of s) (pairs_of less) c.in_ok-remove.field-0 shares.entry shares.found (c.in_ok-remove.ensures.answer tells) (c.in_ok-remove.ensures.removed tells) in
    link_dropped c.args.private c.args.at.now c.args.shared.now (pairs_of s) (pairs_of less) shares drops c.requires.some c.saturating_sub-left.result (pairs_of (g.N.NodeStore.state c.say_left.new.store)) (omega (arith, c.saturating_sub-left.ensures))
    (tree_sorted IsCatalogKey less (c.in_ok-remove.ensures.tree tells)) (c.in_ok-say_left.ensures.left tells_less)
