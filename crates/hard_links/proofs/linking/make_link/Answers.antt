use Rattle.std.proofs.Common.{◌≡◌, true, false, sym, ◌∙◌, ap, subst}
use Rattle.std.specs.Prelude.{IsTrue, None, Some}
use Rattle.btree_node.specs.Tree.{pairs_of}
use Rattle.cat_records.specs.declared.record.CatRecord.TheVariants.{File}
use Rattle.catalog.specs.Pairs.{value_at}
use Rattle.catalog.specs.Rooms.{TakesUpdates}
use Rattle.hard_links.specs.Linking.{MakesLink, MayLink}
use Rattle.hard_links.specs.Orphans.{file_in}
use Rattle.hard_links.proofs.Asides.{file_fits, file_value, no_file_there, ok_so, on_ok_so}
use Rattle.hard_links.proofs.BeforeMoves.{tree_as, pairs_as, tells_as, header_as, room_as, takes_as, most_as, takes_nothing, most_nothing, one_read}
use Rattle.hard_links.proofs.LinkRules.{making_keeps}
use Rattle.hard_links.proofs.Puts.{is_a_link, is_no_link, names_link}
use Rattle.hard_links.proofs.linking.make_link.Goals as goal

pub returns-in_err-lookup-clause-takes : goal.returns-in_err-lookup-clause-takes
returns-in_err-lookup-clause-takes g c =
    let s = g.N.NodeStore.state c.args.store.now in
    let read = g.N.NodeStore.state c.lookup.new.store in
    most_nothing s read (one_read s.shape.depth s read c.lookup.ensures.reads c.lookup.ensures.cause.later) 7 1

pub returns-in_err-lookup-clause-takes_more : goal.returns-in_err-lookup-clause-takes_more
returns-in_err-lookup-clause-takes_more g c tells names =
    let s = g.N.NodeStore.state c.args.store.now in
    let read = g.N.NodeStore.state c.lookup.new.store in
    most_nothing s read (one_read s.shape.depth s read c.lookup.ensures.reads c.lookup.ensures.cause.later) 2 1

pub lookup-requires-clause-spelled : goal.lookup-requires-clause-spelled
lookup-requires-clause-spelled g c tells = (c.requires.may tells).threads.spelled

pub returns-in-None-clause-linked : goal.returns-in-None-clause-linked
returns-in-None-clause-linked g c tells =
    let pairs = pairs_of (g.N.NodeStore.state c.args.store.now) in
    absurd (no_file_there c.args.from.now pairs (c.requires.may tells).file (sym c.in-None.is ∙ c.file_in.ensures ∙ ap file_in (c.in_ok-lookup.ensures.found tells)))

pub returns-in-None-clause-tree : goal.returns-in-None-clause-tree
returns-in-None-clause-tree g c tells =
    let s = g.N.NodeStore.state c.args.store.now in
    let read = g.N.NodeStore.state c.lookup.new.store in
    tree_as s read (one_read s.shape.depth s read c.lookup.ensures.reads c.lookup.ensures.cause.later) (c.lookup.ensures.reads.same.tells ∙ tells) (g.met.N.NodeStore.well_formed c.args.store.now).total c.requires.tree

pub returns-in-None-clause-header : goal.returns-in-None-clause-header
returns-in-None-clause-header g c tells same =
    let s = g.N.NodeStore.state c.args.store.now in
    let read = g.N.NodeStore.state c.lookup.new.store in
    header_as s read (one_read s.shape.depth s read c.lookup.ensures.reads c.lookup.ensures.cause.later) tells same

pub returns-in-None-clause-edits : goal.returns-in-None-clause-edits
returns-in-None-clause-edits g c =
    let s = g.N.NodeStore.state c.args.store.now in
    let read = g.N.NodeStore.state c.lookup.new.store in
    takes_nothing s read (one_read s.shape.depth s read c.lookup.ensures.reads c.lookup.ensures.cause.later) 7 1

pub returns-in-None-clause-edits_more : goal.returns-in-None-clause-edits_more
returns-in-None-clause-edits_more g c tells names =
    let s = g.N.NodeStore.state c.args.store.now in
    let read = g.N.NodeStore.state c.lookup.new.store in
    takes_nothing s read (one_read s.shape.depth s read c.lookup.ensures.reads c.lookup.ensures.cause.later) 2 1

pub returns-in-None-clause-takes : goal.returns-in-None-clause-takes
returns-in-None-clause-takes g c =
    let s = g.N.NodeStore.state c.args.store.now in
    let read = g.N.NodeStore.state c.lookup.new.store in
    most_nothing s read (one_read s.shape.depth s read c.lookup.ensures.reads c.lookup.ensures.cause.later) 7 1

pub returns-in-None-clause-takes_more : goal.returns-in-None-clause-takes_more
returns-in-None-clause-takes_more g c tells names =
    let s = g.N.NodeStore.state c.args.store.now in
    let read = g.N.NodeStore.state c.lookup.new.store in
    most_nothing s read (one_read s.shape.depth s read c.lookup.ensures.reads c.lookup.ensures.cause.later) 2 1

pub link_file-requires-clause-tree : goal.link_file-requires-clause-tree
link_file-requires-clause-tree g c tells =
    let s = g.N.NodeStore.state c.args.store.now in
    let read = g.N.NodeStore.state c.lookup.new.store in
    tree_as s read (one_read s.shape.depth s read c.lookup.ensures.reads c.lookup.ensures.cause.later) tells (g.met.N.NodeStore.well_formed c.args.store.now).total c.requires.tree

pub link_file-requires-clause-may : goal.link_file-requires-clause-may
link_file-requires-clause-may g c tells_read =
    let s = g.N.NodeStore.state c.args.store.now in
    let read = g.N.NodeStore.state c.lookup.new.store in
    let only = one_read s.shape.depth s read c.lookup.ensures.reads c.lookup.ensures.cause.later in
    let tells = tells_as s read only tells_read in
    subst (MayLink c.args.private c.args.from.now c.args.to.now c.args.ids.0 c.args.ids.1) (sym (pairs_as s read only tells (g.met.N.NodeStore.well_formed c.args.store.now).total c.requires.tree)) (c.requires.may tells)

pub link_file-requires-clause-value : goal.link_file-requires-clause-value
link_file-requires-clause-value g c tells_read =
    let s = g.N.NodeStore.state c.args.store.now in
    let read = g.N.NodeStore.state c.lookup.new.store in
    let only = one_read s.shape.depth s read c.lookup.ensures.reads c.lookup.ensures.cause.later in
    let tells = tells_as s read only tells_read in
    subst (λ l. value_at l c.args.from.now.parent c.args.from.now.name ≡ Some (File c.in-Some.file)) (sym (pairs_as s read only tells (g.met.N.NodeStore.well_formed c.args.store.now).total c.requires.tree))
    (sym (c.in_ok-lookup.ensures.found tells) ∙ file_value c.in_ok-lookup.field-0 c.in-Some.file (sym c.in-Some.is ∙ c.file_in.ensures))

pub link_file-requires-clause-fits : goal.link_file-requires-clause-fits
link_file-requires-clause-fits g c = file_fits c.in_ok-lookup.field-0 c.in-Some.file (sym c.in-Some.is ∙ c.file_in.ensures) c.in_ok-lookup.ensures.fits

pub link_file-requires-clause-room : goal.link_file-requires-clause-room
link_file-requires-clause-room g c tells_read plain =
    let s = g.N.NodeStore.state c.args.store.now in
    let read = g.N.NodeStore.state c.lookup.new.store in
    let only = one_read s.shape.depth s read c.lookup.ensures.reads c.lookup.ensures.cause.later in
    let value = λ (tells : IsTrue s.tells). sym (c.in_ok-lookup.ensures.found tells) ∙ file_value c.in_ok-lookup.field-0 c.in-Some.file (sym c.in-Some.is ∙ c.file_in.ensures) in
    room_as s read only 7 1 (λ tells. c.requires.room tells (λ names. is_no_link c.args.from.now c.in-Some.file (pairs_of s) (value tells) plain names)) tells_read

pub link_file-requires-clause-room_more : goal.link_file-requires-clause-room_more
link_file-requires-clause-room_more g c tells_read is =
    let s = g.N.NodeStore.state c.args.store.now in
    let read = g.N.NodeStore.state c.lookup.new.store in
    let only = one_read s.shape.depth s read c.lookup.ensures.reads c.lookup.ensures.cause.later in
    let tells = tells_as s read only tells_read in
    let value = sym (c.in_ok-lookup.ensures.found tells) ∙ file_value c.in_ok-lookup.field-0 c.in-Some.file (sym c.in-Some.is ∙ c.file_in.ensures) in
    let file = (c.requires.may tells).file in
    room_as s read only 2 1 (λ _. c.requires.room_more tells (names_link c.args.from.now c.in-Some.file (pairs_of s) file.entry file.found value is)) tells_read

pub returns-in-Some-clause-linked : goal.returns-in-Some-clause-linked
returns-in-Some-clause-linked g c tells =
    let s = g.N.NodeStore.state c.args.store.now in
    let read = g.N.NodeStore.state c.lookup.new.store in
    let new = g.N.NodeStore.state c.link_file.new.store in
    let only = one_read s.shape.depth s read c.lookup.ensures.reads c.lookup.ensures.cause.later in
    let same = pairs_as s read only tells (g.met.N.NodeStore.well_formed c.args.store.now).total c.requires.tree in
    ok_so c.link_file.result (λ answer. MakesLink c.args.private c.args.from.now c.args.to.now c.args.ids.0 c.args.ids.1 (pairs_of read) (pairs_of new) answer)
    (λ answer. MakesLink c.args.private c.args.from.now c.args.to.now c.args.ids.0 c.args.ids.1 (pairs_of s) (pairs_of new) answer)
    (λ answer makes. subst (λ l. MakesLink c.args.private c.args.from.now c.args.to.now c.args.ids.0 c.args.ids.1 l (pairs_of new) answer) same makes) (c.link_file.ensures.linked (c.lookup.ensures.reads.same.tells ∙ tells))

pub returns-in-Some-clause-header : goal.returns-in-Some-clause-header
returns-in-Some-clause-header g c tells same =
    let s = g.N.NodeStore.state c.args.store.now in
    let read = g.N.NodeStore.state c.lookup.new.store in
    c.link_file.ensures.header (c.lookup.ensures.reads.same.tells ∙ tells) (header_as s read (one_read s.shape.depth s read c.lookup.ensures.reads c.lookup.ensures.cause.later) tells same)

pub returns-in-Some-clause-edits : goal.returns-in-Some-clause-edits
returns-in-Some-clause-edits g c =
    let s = g.N.NodeStore.state c.args.store.now in
    let read = g.N.NodeStore.state c.lookup.new.store in
    let new = g.N.NodeStore.state c.link_file.new.store in
    on_ok_so c.link_file.result (TakesUpdates 7 1 516 read new) (TakesUpdates 7 1 516 s new) (λ takes. takes_as s read (one_read s.shape.depth s read c.lookup.ensures.reads c.lookup.ensures.cause.later) 7 1 new takes) c.link_file.ensures.edits

pub returns-in-Some-clause-edits_more : goal.returns-in-Some-clause-edits_more
returns-in-Some-clause-edits_more g c tells names =
    let s = g.N.NodeStore.state c.args.store.now in
    let read = g.N.NodeStore.state c.lookup.new.store in
    let new = g.N.NodeStore.state c.link_file.new.store in
    let value = sym (c.in_ok-lookup.ensures.found tells) ∙ file_value c.in_ok-lookup.field-0 c.in-Some.file (sym c.in-Some.is ∙ c.file_in.ensures) in
    on_ok_so c.link_file.result (TakesUpdates 2 1 516 read new) (TakesUpdates 2 1 516 s new) (λ takes. takes_as s read (one_read s.shape.depth s read c.lookup.ensures.reads c.lookup.ensures.cause.later) 2 1 new takes)
    (c.link_file.ensures.edits_more (is_a_link c.args.from.now c.in-Some.file (pairs_of s) value names))

pub returns-in-Some-clause-takes : goal.returns-in-Some-clause-takes
returns-in-Some-clause-takes g c =
    let s = g.N.NodeStore.state c.args.store.now in
    let read = g.N.NodeStore.state c.lookup.new.store in
    most_as s read (one_read s.shape.depth s read c.lookup.ensures.reads c.lookup.ensures.cause.later) 7 1 (g.N.NodeStore.state c.link_file.new.store) c.link_file.ensures.takes

pub returns-in-Some-clause-takes_more : goal.returns-in-Some-clause-takes_more
returns-in-Some-clause-takes_more g c tells names =
    let s = g.N.NodeStore.state c.args.store.now in
    let read = g.N.NodeStore.state c.lookup.new.store in
    let value = sym (c.in_ok-lookup.ensures.found tells) ∙ file_value c.in_ok-lookup.field-0 c.in-Some.file (sym c.in-Some.is ∙ c.file_in.ensures) in
    most_as s read (one_read s.shape.depth s read c.lookup.ensures.reads c.lookup.ensures.cause.later) 2 1 (g.N.NodeStore.state c.link_file.new.store) (c.link_file.ensures.takes_more (is_a_link c.args.from.now c.in-Some.file (pairs_of s) value names))

pub returns-in-None-clause-rules : goal.returns-in-None-clause-rules
returns-in-None-clause-rules g c tells overflow links show =
    let pairs = pairs_of (g.N.NodeStore.state c.args.store.now) in
    absurd (no_file_there c.args.from.now pairs (c.requires.may tells).file (sym c.in-None.is ∙ c.file_in.ensures ∙ ap file_in (c.in_ok-lookup.ensures.found tells)))

pub returns-in-Some-clause-rules : goal.returns-in-Some-clause-rules
returns-in-Some-clause-rules g c tells overflow links show =
    making_keeps c.args.private c.args.from.now c.args.to.now c.args.ids.0 c.args.ids.1 (g.N.NodeStore.state c.args.store.now) (g.N.NodeStore.state c.link_file.new.store) overflow (c.requires.tree tells) (c.requires.may tells) c.requires.some_old c.requires.some_new links show
    c.link_file.result (returns-in-Some-clause-linked g c tells) (c.link_file.ensures.tree (c.lookup.ensures.reads.same.tells ∙ tells))
