use Rattle.std.proofs.Common.{◌≡◌, sym, ◌∙◌, ap, subst}
use Rattle.std.specs.Prelude.{IsTrue, None, Some}
use Rattle.btree_node.specs.Tree.{pairs_of}
use Rattle.catalog.specs.Rooms.{TakesUpdates}
use Rattle.hfs_volume.specs.Entries.{AreThreaded}
use Rattle.hard_links.specs.Linking.{DropsLink, FindsShared, SharedBy}
use Rattle.hard_links.proofs.Asides.{ok_so, on_ok_so}
use Rattle.hard_links.proofs.BeforeMoves.{tree_as, pairs_as, tells_as, header_as, room_as, takes_as, most_as, takes_nothing, most_nothing}
use Rattle.hard_links.proofs.LinkRules.{dropping_keeps_ok}
use Rattle.hard_links.proofs.dropping.drop_link.Goals as goal

pub returns-in_err-shared_of-clause-takes : goal.returns-in_err-shared_of-clause-takes
returns-in_err-shared_of-clause-takes g c = most_nothing (g.N.NodeStore.state c.args.store.now) (g.N.NodeStore.state c.shared_of.new.store) c.shared_of.ensures.reads 2 1

pub returns-in-None-clause-dropped : goal.returns-in-None-clause-dropped
returns-in-None-clause-dropped g c tells = absurd (subst (FindsShared c.args.private c.args.at.now (pairs_of (g.N.NodeStore.state c.args.store.now))) c.in-None.is (c.in_ok-shared_of.ensures.found tells))

pub returns-in-None-clause-tree : goal.returns-in-None-clause-tree
returns-in-None-clause-tree g c tells = absurd (subst (FindsShared c.args.private c.args.at.now (pairs_of (g.N.NodeStore.state c.args.store.now))) c.in-None.is (c.in_ok-shared_of.ensures.found tells))

pub returns-in-None-clause-header : goal.returns-in-None-clause-header
returns-in-None-clause-header g c tells same = absurd (subst (FindsShared c.args.private c.args.at.now (pairs_of (g.N.NodeStore.state c.args.store.now))) c.in-None.is (c.in_ok-shared_of.ensures.found tells))

pub returns-in-None-clause-edits : goal.returns-in-None-clause-edits
returns-in-None-clause-edits g c = takes_nothing (g.N.NodeStore.state c.args.store.now) (g.N.NodeStore.state c.shared_of.new.store) c.shared_of.ensures.reads 2 1

pub returns-in-None-clause-takes : goal.returns-in-None-clause-takes
returns-in-None-clause-takes g c = most_nothing (g.N.NodeStore.state c.args.store.now) (g.N.NodeStore.state c.shared_of.new.store) c.shared_of.ensures.reads 2 1

pub drop_counted-requires-clause-tree : goal.drop_counted-requires-clause-tree
drop_counted-requires-clause-tree g c tells =
    tree_as (g.N.NodeStore.state c.args.store.now) (g.N.NodeStore.state c.shared_of.new.store) c.shared_of.ensures.reads tells (g.met.N.NodeStore.well_formed c.args.store.now).total c.requires.tree

pub drop_counted-requires-clause-threads : goal.drop_counted-requires-clause-threads
drop_counted-requires-clause-threads g c tells_read =
    let s = g.N.NodeStore.state c.args.store.now in
    let read = g.N.NodeStore.state c.shared_of.new.store in
    let tells = tells_as s read c.shared_of.ensures.reads tells_read in
    subst AreThreaded (sym (pairs_as s read c.shared_of.ensures.reads tells (g.met.N.NodeStore.well_formed c.args.store.now).total c.requires.tree)) (c.requires.threads tells)

pub drop_counted-requires-clause-shares : goal.drop_counted-requires-clause-shares
drop_counted-requires-clause-shares g c tells_read =
    let s = g.N.NodeStore.state c.args.store.now in
    let read = g.N.NodeStore.state c.shared_of.new.store in
    let tells = tells_as s read c.shared_of.ensures.reads tells_read in
    let shares = subst (FindsShared c.args.private c.args.at.now (pairs_of s)) c.in-Some.is (c.in_ok-shared_of.ensures.found tells) in
    subst (SharedBy c.args.private c.args.at.now c.in-Some.shared) (sym (pairs_as s read c.shared_of.ensures.reads tells (g.met.N.NodeStore.well_formed c.args.store.now).total c.requires.tree)) shares

pub drop_counted-requires-clause-room : goal.drop_counted-requires-clause-room
drop_counted-requires-clause-room g c = room_as (g.N.NodeStore.state c.args.store.now) (g.N.NodeStore.state c.shared_of.new.store) c.shared_of.ensures.reads 2 1 c.requires.room

pub returns-in-Some-clause-dropped : goal.returns-in-Some-clause-dropped
returns-in-Some-clause-dropped g c tells =
    let s = g.N.NodeStore.state c.args.store.now in
    let read = g.N.NodeStore.state c.shared_of.new.store in
    let new = g.N.NodeStore.state c.drop_counted.new.store in
    let same = pairs_as s read c.shared_of.ensures.reads tells (g.met.N.NodeStore.well_formed c.args.store.now).total c.requires.tree in
    ok_so c.drop_counted.result (λ left. DropsLink c.args.private c.args.at.now left (pairs_of read) (pairs_of new)) (λ left. DropsLink c.args.private c.args.at.now left (pairs_of s) (pairs_of new))
    (λ left drops. subst (λ l. DropsLink c.args.private c.args.at.now left l (pairs_of new)) same drops) (c.drop_counted.ensures.dropped (c.shared_of.ensures.reads.reads.same.tells ∙ tells))

pub returns-in-Some-clause-header : goal.returns-in-Some-clause-header
returns-in-Some-clause-header g c tells same =
    let s = g.N.NodeStore.state c.args.store.now in
    c.drop_counted.ensures.header (c.shared_of.ensures.reads.reads.same.tells ∙ tells) (header_as s (g.N.NodeStore.state c.shared_of.new.store) c.shared_of.ensures.reads tells same)

pub returns-in-Some-clause-edits : goal.returns-in-Some-clause-edits
returns-in-Some-clause-edits g c =
    let s = g.N.NodeStore.state c.args.store.now in
    let read = g.N.NodeStore.state c.shared_of.new.store in
    let new = g.N.NodeStore.state c.drop_counted.new.store in
    on_ok_so c.drop_counted.result (TakesUpdates 2 1 516 read new) (TakesUpdates 2 1 516 s new) (λ takes. takes_as s read c.shared_of.ensures.reads 2 1 new takes) c.drop_counted.ensures.edits

pub returns-in-Some-clause-takes : goal.returns-in-Some-clause-takes
returns-in-Some-clause-takes g c =
    most_as (g.N.NodeStore.state c.args.store.now) (g.N.NodeStore.state c.shared_of.new.store) c.shared_of.ensures.reads 2 1 (g.N.NodeStore.state c.drop_counted.new.store) c.drop_counted.ensures.takes

pub returns-in-None-clause-rules : goal.returns-in-None-clause-rules
returns-in-None-clause-rules g c tells overflow links = absurd (subst (FindsShared c.args.private c.args.at.now (pairs_of (g.N.NodeStore.state c.args.store.now))) c.in-None.is (c.in_ok-shared_of.ensures.found tells))

pub returns-in-Some-clause-rules : goal.returns-in-Some-clause-rules
returns-in-Some-clause-rules g c tells overflow links =
    dropping_keeps_ok c.args.private c.args.at.now (g.N.NodeStore.state c.args.store.now) (g.N.NodeStore.state c.drop_counted.new.store) overflow (c.requires.tree tells) (c.requires.links tells).folder c.requires.some links
    c.drop_counted.result (returns-in-Some-clause-dropped g c tells) (c.drop_counted.ensures.tree (c.shared_of.ensures.reads.reads.same.tells ∙ tells))
