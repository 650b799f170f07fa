use Rattle.std.proofs.Common.{◌≡◌, true, false, sym, ◌∙◌, ap, subst}
use Rattle.std.specs.Prelude.{IsTrue}
use Rattle.std.proofs.lemmas.Bool.{true≢false}
use Rattle.btree_node.specs.Tree.{pairs_of}
use Rattle.catalog.specs.Rooms.{TakesUpdates}
use Rattle.catalog.proofs.RoomLaws.{most_fewer, updates_fewer}
use Rattle.hard_links.proofs.Asides.{on_ok_so}
use Rattle.hard_links.proofs.Puts.{first_of, names_link}
use Rattle.hard_links.proofs.linking.link_file.Goals as goal

pub make_more-requires-clause-link : goal.make_more-requires-clause-link
make_more-requires-clause-link g c tells =
    let may = c.requires.may tells in
    names_link c.args.from.now c.args.file.now (pairs_of (g.N.NodeStore.state c.args.store.now)) may.file.entry may.file.found (c.requires.value tells) (sym c.is_link_type.ensures ∙ c.if-is_link_type.true)

pub make_more-requires-clause-room : goal.make_more-requires-clause-room
make_more-requires-clause-room g c tells = c.requires.room_more tells (sym c.is_link_type.ensures ∙ c.if-is_link_type.true)

pub returns-then-is_link_type-clause-edits : goal.returns-then-is_link_type-clause-edits
returns-then-is_link_type-clause-edits g c =
    let s = g.N.NodeStore.state c.args.store.now in
    let new = g.N.NodeStore.state c.make_more.new.store in
    on_ok_so c.make_more.result (TakesUpdates 2 1 516 s new) (TakesUpdates 7 1 516 s new) (λ takes. updates_fewer 2 1 5 0 516 s new takes) c.make_more.ensures.edits

pub returns-then-is_link_type-clause-takes : goal.returns-then-is_link_type-clause-takes
returns-then-is_link_type-clause-takes g c =
    let s = g.N.NodeStore.state c.args.store.now in
    most_fewer 2 1 5 0 516 s (g.N.NodeStore.state c.make_more.new.store) c.make_more.ensures.takes

pub make_first-requires-clause-plain : goal.make_first-requires-clause-plain
make_first-requires-clause-plain g c tells = sym c.is_link_type.ensures ∙ c.if-is_link_type.false

pub make_first-requires-clause-room : goal.make_first-requires-clause-room
make_first-requires-clause-room g c tells = c.requires.room tells (sym c.is_link_type.ensures ∙ c.if-is_link_type.false)

pub returns-clause-linked : goal.returns-clause-linked
returns-clause-linked g c tells =
    first_of c.args.private c.args.from.now c.args.to.now c.args.ids.0 c.args.ids.1 (pairs_of (g.N.NodeStore.state c.args.store.now)) (pairs_of (g.N.NodeStore.state c.make_first.new.store)) (c.in_ok-make_first.ensures.linked tells)

pub returns-clause-edits_more : goal.returns-clause-edits_more
returns-clause-edits_more g c is = absurd (true≢false (sym is ∙ sym c.is_link_type.ensures ∙ c.if-is_link_type.false))

pub returns-clause-takes_more : goal.returns-clause-takes_more
returns-clause-takes_more g c is = absurd (true≢false (sym is ∙ sym c.is_link_type.ensures ∙ c.if-is_link_type.false))

pub returns-in_err-make_first-clause-takes_more : goal.returns-in_err-make_first-clause-takes_more
returns-in_err-make_first-clause-takes_more g c is = absurd (true≢false (sym is ∙ sym c.is_link_type.ensures ∙ c.if-is_link_type.false))
