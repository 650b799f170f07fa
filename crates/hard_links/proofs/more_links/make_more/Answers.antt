use Rattle.std.proofs.Common.{◌≡◌, sym, ◌∙◌, ap, subst}
use Rattle.std.specs.Prelude.{IsTrue, None, Some}
use Rattle.btree_node.specs.Tree.{pairs_of}
use Rattle.catalog.specs.Rooms.{TakesUpdates}
use Rattle.hard_links.specs.Linking.{FindsShared, MakesLink, MayLink, SharedBy}
use Rattle.hard_links.proofs.Asides.{ok_so, on_ok_so}
use Rattle.hard_links.proofs.BeforeMoves.{tree_as, pairs_as, tells_as, header_as, room_as, takes_as, most_as, takes_nothing, most_nothing}
use Rattle.hard_links.proofs.more_links.make_more.Goals as goal

pub shared_of-requires-clause-spelled : goal.shared_of-requires-clause-spelled
shared_of-requires-clause-spelled g c tells = (c.requires.may tells).threads.spelled

pub shared_of-requires-clause-links : goal.shared_of-requires-clause-links
shared_of-requires-clause-links g c tells = (c.requires.may tells).links

pub returns-in_err-shared-clause-takes : goal.returns-in_err-shared-clause-takes
returns-in_err-shared-clause-takes g c = most_nothing (g.N.NodeStore.state c.args.store.now) (g.N.NodeStore.state c.shared_of.new.store) c.shared_of.ensures.reads 2 1

pub returns-in-None-clause-linked : goal.returns-in-None-clause-linked
returns-in-None-clause-linked g c tells = absurd (subst (FindsShared c.args.private c.args.from.now (pairs_of (g.N.NodeStore.state c.args.store.now))) c.in-None.is (c.in_ok-shared.ensures.found tells))

pub returns-in-None-clause-tree : goal.returns-in-None-clause-tree
returns-in-None-clause-tree g c tells = absurd (subst (FindsShared c.args.private c.args.from.now (pairs_of (g.N.NodeStore.state c.args.store.now))) c.in-None.is (c.in_ok-shared.ensures.found tells))

pub returns-in-None-clause-header : goal.returns-in-None-clause-header
returns-in-None-clause-header g c tells same = absurd (subst (FindsShared c.args.private c.args.from.now (pairs_of (g.N.NodeStore.state c.args.store.now))) c.in-None.is (c.in_ok-shared.ensures.found tells))

pub returns-in-None-clause-edits : goal.returns-in-None-clause-edits
returns-in-None-clause-edits g c = takes_nothing (g.N.NodeStore.state c.args.store.now) (g.N.NodeStore.state c.shared_of.new.store) c.shared_of.ensures.reads 2 1

pub returns-in-None-clause-takes : goal.returns-in-None-clause-takes
returns-in-None-clause-takes g c = most_nothing (g.N.NodeStore.state c.args.store.now) (g.N.NodeStore.state c.shared_of.new.store) c.shared_of.ensures.reads 2 1

pub add_more-requires-clause-tree : goal.add_more-requires-clause-tree
add_more-requires-clause-tree g c tells =
    tree_as (g.N.NodeStore.state c.args.store.now) (g.N.NodeStore.state c.shared_of.new.store) c.shared_of.ensures.reads tells (g.met.N.NodeStore.well_formed c.args.store.now).total c.requires.tree

pub add_more-requires-clause-may : goal.add_more-requires-clause-may
add_more-requires-clause-may g c tells_read =
    let s = g.N.NodeStore.state c.args.store.now in
    let read = g.N.NodeStore.state c.shared_of.new.store in
    let tells = tells_as s read c.shared_of.ensures.reads tells_read in
    subst (MayLink c.args.private c.args.from.now c.args.to.now c.args.ids.0 c.args.ids.1) (sym (pairs_as s read c.shared_of.ensures.reads tells (g.met.N.NodeStore.well_formed c.args.store.now).total c.requires.tree)) (c.requires.may tells)

pub add_more-requires-clause-shares : goal.add_more-requires-clause-shares
add_more-requires-clause-shares g c tells_read =
    let s = g.N.NodeStore.state c.args.store.now in
    let read = g.N.NodeStore.state c.shared_of.new.store in
    let tells = tells_as s read c.shared_of.ensures.reads tells_read in
    let shares = subst (FindsShared c.args.private c.args.from.now (pairs_of s)) c.in-Some.is (c.in_ok-shared.ensures.found tells) in
    subst (SharedBy c.args.private c.args.from.now c.in-Some.shared) (sym (pairs_as s read c.shared_of.ensures.reads tells (g.met.N.NodeStore.well_formed c.args.store.now).total c.requires.tree)) shares

pub add_more-requires-clause-room : goal.add_more-requires-clause-room
add_more-requires-clause-room g c = room_as (g.N.NodeStore.state c.args.store.now) (g.N.NodeStore.state c.shared_of.new.store) c.shared_of.ensures.reads 2 1 c.requires.room

pub returns-in-Some-clause-linked : goal.returns-in-Some-clause-linked
returns-in-Some-clause-linked g c tells =
    let s = g.N.NodeStore.state c.args.store.now in
    let read = g.N.NodeStore.state c.shared_of.new.store in
    let new = g.N.NodeStore.state c.add_more.new.store in
    let same = pairs_as s read c.shared_of.ensures.reads tells (g.met.N.NodeStore.well_formed c.args.store.now).total c.requires.tree in
    ok_so c.add_more.result (λ answer. MakesLink c.args.private c.args.from.now c.args.to.now c.args.ids.0 c.args.ids.1 (pairs_of read) (pairs_of new) answer)
    (λ answer. MakesLink c.args.private c.args.from.now c.args.to.now c.args.ids.0 c.args.ids.1 (pairs_of s) (pairs_of new) answer)
    (λ answer makes. subst (λ l. MakesLink c.args.private c.args.from.now c.args.to.now c.args.ids.0 c.args.ids.1 l (pairs_of new) answer) same makes) (c.add_more.ensures.linked (c.shared_of.ensures.reads.reads.same.tells ∙ tells))

pub returns-in-Some-clause-header : goal.returns-in-Some-clause-header
returns-in-Some-clause-header g c tells same =
    c.add_more.ensures.header (c.shared_of.ensures.reads.reads.same.tells ∙ tells) (header_as (g.N.NodeStore.state c.args.store.now) (g.N.NodeStore.state c.shared_of.new.store) c.shared_of.ensures.reads tells same)

pub returns-in-Some-clause-edits : goal.returns-in-Some-clause-edits
returns-in-Some-clause-edits g c =
    let s = g.N.NodeStore.state c.args.store.now in
    let read = g.N.NodeStore.state c.shared_of.new.store in
    let new = g.N.NodeStore.state c.add_more.new.store in
    on_ok_so c.add_more.result (TakesUpdates 2 1 516 read new) (TakesUpdates 2 1 516 s new) (λ takes. takes_as s read c.shared_of.ensures.reads 2 1 new takes) c.add_more.ensures.edits

pub returns-in-Some-clause-takes : goal.returns-in-Some-clause-takes
returns-in-Some-clause-takes g c =
    most_as (g.N.NodeStore.state c.args.store.now) (g.N.NodeStore.state c.shared_of.new.store) c.shared_of.ensures.reads 2 1 (g.N.NodeStore.state c.add_more.new.store) c.add_more.ensures.takes
