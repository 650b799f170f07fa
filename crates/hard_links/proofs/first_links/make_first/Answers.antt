use Rattle.std.proofs.Common.{◌≡◌, ◌≤◌, ◌<◌, ◌+◌, ◌-◌, ◌^◌, sym, ◌∙◌, ap, subst, arith}
use Rattle.std.specs.Prelude.{IsTrue, Some}
use Rattle.btree_node.specs.Tree.{pairs_of}
use Rattle.cat_records.specs.declared.record.CatRecord.TheVariants.{File}
use Rattle.catalog.specs.Pairs.{value_at}
use Rattle.catalog.proofs.RoomLaws.{edits_room}
use Rattle.hard_links.specs.Linking.{IsNewTarget, MakesFirst, MayLink}
use Rattle.hard_links.proofs.BeforeMoves.{tree_as, pairs_as, tells_as, header_as, room_as, takes_as, most_as, most_nothing}
use Rattle.hard_links.proofs.first_links.make_first.Goals as goal

pub new_target-requires-clause-spelled : goal.new_target-requires-clause-spelled
new_target-requires-clause-spelled g c tells = (c.requires.may tells).threads.spelled

pub new_target-requires-clause-few : goal.new_target-requires-clause-few
new_target-requires-clause-few g c tells = let room = edits_room 7 1 516 (g.N.NodeStore.state c.args.store.now) c.requires.room tells in omega (arith, room.records)

pub returns-in_err-target-clause-takes : goal.returns-in_err-target-clause-takes
returns-in_err-target-clause-takes g c = most_nothing (g.N.NodeStore.state c.args.store.now) (g.N.NodeStore.state c.new_target.new.store) c.new_target.ensures.reads 7 1

pub returns-in_err-name-clause-takes : goal.returns-in_err-name-clause-takes
returns-in_err-name-clause-takes g c = most_nothing (g.N.NodeStore.state c.args.store.now) (g.N.NodeStore.state c.new_target.new.store) c.new_target.ensures.reads 7 1

pub share-requires-clause-tree : goal.share-requires-clause-tree
share-requires-clause-tree g c tells =
    tree_as (g.N.NodeStore.state c.args.store.now) (g.N.NodeStore.state c.new_target.new.store) c.new_target.ensures.reads tells (g.met.N.NodeStore.well_formed c.args.store.now).total c.requires.tree

pub share-requires-clause-may : goal.share-requires-clause-may
share-requires-clause-may g c tells_read =
    let s = g.N.NodeStore.state c.args.store.now in
    let read = g.N.NodeStore.state c.new_target.new.store in
    let tells = tells_as s read c.new_target.ensures.reads tells_read in
    subst (MayLink c.args.private c.args.from.now c.args.to.now c.args.ids.0 c.args.ids.1) (sym (pairs_as s read c.new_target.ensures.reads tells (g.met.N.NodeStore.well_formed c.args.store.now).total c.requires.tree)) (c.requires.may tells)

pub share-requires-clause-value : goal.share-requires-clause-value
share-requires-clause-value g c tells_read =
    let s = g.N.NodeStore.state c.args.store.now in
    let read = g.N.NodeStore.state c.new_target.new.store in
    let tells = tells_as s read c.new_target.ensures.reads tells_read in
    subst (λ l. value_at l c.args.from.now.parent c.args.from.now.name ≡ Some (File c.args.file.now)) (sym (pairs_as s read c.new_target.ensures.reads tells (g.met.N.NodeStore.well_formed c.args.store.now).total c.requires.tree)) (c.requires.value tells)

pub share-requires-clause-plain : goal.share-requires-clause-plain
share-requires-clause-plain g c tells_read = c.requires.plain (tells_as (g.N.NodeStore.state c.args.store.now) (g.N.NodeStore.state c.new_target.new.store) c.new_target.ensures.reads tells_read)

pub share-requires-clause-target : goal.share-requires-clause-target
share-requires-clause-target g c tells_read =
    let s = g.N.NodeStore.state c.args.store.now in
    let read = g.N.NodeStore.state c.new_target.new.store in
    let tells = tells_as s read c.new_target.ensures.reads tells_read in
    subst (λ l. IsNewTarget c.args.private c.args.file.now.fields.id l c.in_ok-target.target) (sym (pairs_as s read c.new_target.ensures.reads tells (g.met.N.NodeStore.well_formed c.args.store.now).total c.requires.tree)) (c.in_ok-target.ensures.target tells)

pub share-requires-clause-room : goal.share-requires-clause-room
share-requires-clause-room g c = room_as (g.N.NodeStore.state c.args.store.now) (g.N.NodeStore.state c.new_target.new.store) c.new_target.ensures.reads 7 1 c.requires.room

pub returns-in_err-share-clause-takes : goal.returns-in_err-share-clause-takes
returns-in_err-share-clause-takes g c =
    most_as (g.N.NodeStore.state c.args.store.now) (g.N.NodeStore.state c.new_target.new.store) c.new_target.ensures.reads 7 1 (g.N.NodeStore.state c.share.new.store) c.share.ensures.takes

pub returns-clause-takes : goal.returns-clause-takes
returns-clause-takes g c =
    most_as (g.N.NodeStore.state c.args.store.now) (g.N.NodeStore.state c.new_target.new.store) c.new_target.ensures.reads 7 1 (g.N.NodeStore.state c.share.new.store) c.share.ensures.takes

pub returns-clause-edits : goal.returns-clause-edits
returns-clause-edits g c =
    takes_as (g.N.NodeStore.state c.args.store.now) (g.N.NodeStore.state c.new_target.new.store) c.new_target.ensures.reads 7 1 (g.N.NodeStore.state c.share.new.store) c.in_ok-share.ensures.edits

pub returns-clause-header : goal.returns-clause-header
returns-clause-header g c tells same =
    let only = c.new_target.ensures.reads in
    c.in_ok-share.ensures.header (only.reads.same.tells ∙ tells) (header_as (g.N.NodeStore.state c.args.store.now) (g.N.NodeStore.state c.new_target.new.store) only tells same)

pub returns-clause-linked : goal.returns-clause-linked
returns-clause-linked g c tells =
    let s = g.N.NodeStore.state c.args.store.now in
    let read = g.N.NodeStore.state c.new_target.new.store in
    let new = g.N.NodeStore.state c.share.new.store in
    let same = pairs_as s read c.new_target.ensures.reads tells (g.met.N.NodeStore.well_formed c.args.store.now).total c.requires.tree in
    subst (λ l. MakesFirst c.args.private c.args.from.now c.args.to.now c.args.ids.0 c.args.ids.1 l (pairs_of new)) same (c.in_ok-share.ensures.linked (c.new_target.ensures.reads.reads.same.tells ∙ tells))
