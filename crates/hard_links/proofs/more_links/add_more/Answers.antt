use Rattle.std.proofs.Common.{◌≡◌, ◌≤◌, ◌<◌, ◌+◌, sym, ◌∙◌, ap, subst, arith}
use Rattle.std.specs.Prelude.{IsTrue, None, Some}
use Rattle.btree_node.specs.Tree.{pairs_of}
use Rattle.cat_records.specs.declared.record.CatRecord.TheVariants.{File}
use Rattle.catalog.specs.Pairs.{value_at}
use Rattle.catalog.proofs.RoomLaws.{most_none, updates_none}
use Rattle.hfs_volume.specs.Entries.{AreSpelled}
use Rattle.hfs_volume.specs.Records.{placed_in, record_at}
use Rattle.hard_links.specs.Linking.{AddsLink, IsUnused}
use Rattle.hard_links.proofs.BeforeMoves.{tree_as, pairs_as, tells_as, header_as, room_as, takes_as, most_as, most_nothing, one_read}
use Rattle.hard_links.proofs.Puts.{made_more, too_many}
use Rattle.hard_links.proofs.more_links.add_more.Goals as goal

pub link_date-requires-clause-spelled : goal.link_date-requires-clause-spelled
link_date-requires-clause-spelled g c tells = (c.requires.may tells).threads.spelled

pub returns-in_err-created-clause-takes : goal.returns-in_err-created-clause-takes
returns-in_err-created-clause-takes g c =
    let s = g.N.NodeStore.state c.args.store.now in
    let read = g.N.NodeStore.state c.link_date.new.store in
    most_nothing s read (one_read s.shape.depth s read c.link_date.ensures.reads c.link_date.ensures.cause.later) 2 1

pub put_link-requires-clause-tree : goal.put_link-requires-clause-tree
put_link-requires-clause-tree g c tells =
    let s = g.N.NodeStore.state c.args.store.now in
    let read = g.N.NodeStore.state c.link_date.new.store in
    tree_as s read (one_read s.shape.depth s read c.link_date.ensures.reads c.link_date.ensures.cause.later) tells (g.met.N.NodeStore.well_formed c.args.store.now).total c.requires.tree

pub put_link-requires-clause-spelled : goal.put_link-requires-clause-spelled
put_link-requires-clause-spelled g c tells_read =
    let s = g.N.NodeStore.state c.args.store.now in
    let read = g.N.NodeStore.state c.link_date.new.store in
    let only = one_read s.shape.depth s read c.link_date.ensures.reads c.link_date.ensures.cause.later in
    let tells = tells_as s read only tells_read in
    subst AreSpelled (sym (pairs_as s read only tells (g.met.N.NodeStore.well_formed c.args.store.now).total c.requires.tree)) (c.requires.may tells).threads.spelled

pub put_link-requires-clause-vacant : goal.put_link-requires-clause-vacant
put_link-requires-clause-vacant g c tells_read =
    let s = g.N.NodeStore.state c.args.store.now in
    let read = g.N.NodeStore.state c.link_date.new.store in
    let only = one_read s.shape.depth s read c.link_date.ensures.reads c.link_date.ensures.cause.later in
    let tells = tells_as s read only tells_read in
    subst (λ l. record_at (placed_in l) c.args.to.now.parent c.args.to.now.name ≡ None) (sym (pairs_as s read only tells (g.met.N.NodeStore.well_formed c.args.store.now).total c.requires.tree)) (c.requires.may tells).vacant

pub put_link-requires-clause-outside : goal.put_link-requires-clause-outside
put_link-requires-clause-outside g c tells_read =
    let s = g.N.NodeStore.state c.args.store.now in
    let read = g.N.NodeStore.state c.link_date.new.store in
    (c.requires.may (tells_as s read (one_read s.shape.depth s read c.link_date.ensures.reads c.link_date.ensures.cause.later) tells_read)).outside

pub put_link-requires-clause-unused : goal.put_link-requires-clause-unused
put_link-requires-clause-unused g c tells_read =
    let s = g.N.NodeStore.state c.args.store.now in
    let read = g.N.NodeStore.state c.link_date.new.store in
    let only = one_read s.shape.depth s read c.link_date.ensures.reads c.link_date.ensures.cause.later in
    let tells = tells_as s read only tells_read in
    subst (λ l. IsUnused l c.args.ids.0) (sym (pairs_as s read only tells (g.met.N.NodeStore.well_formed c.args.store.now).total c.requires.tree)) (c.requires.may tells).first

pub put_link-requires-clause-plain : goal.put_link-requires-clause-plain
put_link-requires-clause-plain g c tells_read =
    let s = g.N.NodeStore.state c.args.store.now in
    let read = g.N.NodeStore.state c.link_date.new.store in
    (c.requires.shares (tells_as s read (one_read s.shape.depth s read c.link_date.ensures.reads c.link_date.ensures.cause.later) tells_read)).plain

pub put_link-requires-clause-stands : goal.put_link-requires-clause-stands
put_link-requires-clause-stands g c tells_read =
    let s = g.N.NodeStore.state c.args.store.now in
    let read = g.N.NodeStore.state c.link_date.new.store in
    let only = one_read s.shape.depth s read c.link_date.ensures.reads c.link_date.ensures.cause.later in
    let tells = tells_as s read only tells_read in
    let shared = c.args.shared.now in
    subst (λ l. value_at l c.args.private shared.name ≡ Some (File shared.file)) (sym (pairs_as s read only tells (g.met.N.NodeStore.well_formed c.args.store.now).total c.requires.tree)) (c.requires.shares tells).file

pub put_link-requires-clause-room : goal.put_link-requires-clause-room
put_link-requires-clause-room g c =
    let s = g.N.NodeStore.state c.args.store.now in
    let read = g.N.NodeStore.state c.link_date.new.store in
    room_as s read (one_read s.shape.depth s read c.link_date.ensures.reads c.link_date.ensures.cause.later) 2 1 c.requires.room

pub returns-in_err-put_link-clause-takes : goal.returns-in_err-put_link-clause-takes
returns-in_err-put_link-clause-takes g c =
    let s = g.N.NodeStore.state c.args.store.now in
    let read = g.N.NodeStore.state c.link_date.new.store in
    most_as s read (one_read s.shape.depth s read c.link_date.ensures.reads c.link_date.ensures.cause.later) 2 1 (g.N.NodeStore.state c.put_link.new.store) c.put_link.ensures.takes

pub returns-clause-takes : goal.returns-clause-takes
returns-clause-takes g c =
    let s = g.N.NodeStore.state c.args.store.now in
    let read = g.N.NodeStore.state c.link_date.new.store in
    most_as s read (one_read s.shape.depth s read c.link_date.ensures.reads c.link_date.ensures.cause.later) 2 1 (g.N.NodeStore.state c.put_link.new.store) c.put_link.ensures.takes

pub returns-clause-edits : goal.returns-clause-edits
returns-clause-edits g c =
    let s = g.N.NodeStore.state c.args.store.now in
    let read = g.N.NodeStore.state c.link_date.new.store in
    takes_as s read (one_read s.shape.depth s read c.link_date.ensures.reads c.link_date.ensures.cause.later) 2 1 (g.N.NodeStore.state c.put_link.new.store) c.in_ok-put_link.ensures.edits

pub returns-clause-header : goal.returns-clause-header
returns-clause-header g c tells same =
    let s = g.N.NodeStore.state c.args.store.now in
    let read = g.N.NodeStore.state c.link_date.new.store in
    c.in_ok-put_link.ensures.header (c.link_date.ensures.reads.same.tells ∙ tells) (header_as s read (one_read s.shape.depth s read c.link_date.ensures.reads c.link_date.ensures.cause.later) tells same)

pub returns-clause-linked : goal.returns-clause-linked
returns-clause-linked g c tells =
    let s = g.N.NodeStore.state c.args.store.now in
    let read = g.N.NodeStore.state c.link_date.new.store in
    let new = g.N.NodeStore.state c.put_link.new.store in
    let only = one_read s.shape.depth s read c.link_date.ensures.reads c.link_date.ensures.cause.later in
    let same = pairs_as s read only tells (g.met.N.NodeStore.well_formed c.args.store.now).total c.requires.tree in
    let shared = c.args.shared.now in
    made_more c.args.private c.args.from.now c.args.to.now c.args.ids.0 c.args.ids.1 c.in_ok-created.created (pairs_of s) (pairs_of new) shared (c.requires.shares tells) (omega arith) (c.in_ok-created.ensures.date tells)
    (subst (λ l. AddsLink c.args.private c.args.to.now c.args.ids.0 shared.reference c.in_ok-created.created (shared.file.fields.special + 1) l (pairs_of new)) same (c.in_ok-put_link.ensures.adds (c.link_date.ensures.reads.same.tells ∙ tells)))
