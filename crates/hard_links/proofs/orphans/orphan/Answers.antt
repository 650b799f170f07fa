use Rattle.std.proofs.Common.{◌≡◌, ◌≤◌, ◌<◌, ◌+◌, ◌-◌, ◌^◌, sym, ◌∙◌, subst, arith}
use Rattle.std.specs.Prelude.{IsTrue, None, codes}
use Rattle.btree_node.specs.Tree.{pairs_of}
use Rattle.btree_edit.proofs.EditLaws.{takes_both, edits_add, room_then}
use Rattle.catalog.specs.Entries.{RelocatesEntry}
use Rattle.hfs_volume.specs.Entries.{AreThreaded}
use Rattle.hfs_volume.specs.Records.{placed_in, record_at, id_of}
use Rattle.hard_links.specs.Orphans.{NamesFile}
use Rattle.hard_links.proofs.Asides.{first_is_free, orphan_made}
use Rattle.hard_links.proofs.BeforeMoves.{tree_as, pairs_as, edits_none}
use Rattle.hard_links.proofs.LinkRules.{orphan_keeps_in}
use Rattle.hard_links.proofs.orphans.orphan.Goals as goal

pub put_aside-requires-clause-tree : goal.put_aside-requires-clause-tree
put_aside-requires-clause-tree g c tells =
    tree_as (g.N.NodeStore.state c.args.store.now) (g.N.NodeStore.state c.orphan_number.new.store) c.orphan_number.ensures.reads tells (g.met.N.NodeStore.well_formed c.args.store.now).total c.requires.tree

pub put_aside-requires-clause-threads : goal.put_aside-requires-clause-threads
put_aside-requires-clause-threads g c tells_read =
    let s = g.N.NodeStore.state c.args.store.now in
    let read = g.N.NodeStore.state c.orphan_number.new.store in
    let tells : IsTrue s.tells = sym c.orphan_number.ensures.reads.reads.same.tells ∙ tells_read in
    subst AreThreaded (sym (pairs_as s read c.orphan_number.ensures.reads tells (g.met.N.NodeStore.well_formed c.args.store.now).total c.requires.tree)) (c.requires.threads tells)

pub put_aside-requires-clause-file : goal.put_aside-requires-clause-file
put_aside-requires-clause-file g c tells_read =
    let s = g.N.NodeStore.state c.args.store.now in
    let read = g.N.NodeStore.state c.orphan_number.new.store in
    let tells : IsTrue s.tells = sym c.orphan_number.ensures.reads.reads.same.tells ∙ tells_read in
    subst (NamesFile c.args.at.now) (sym (pairs_as s read c.orphan_number.ensures.reads tells (g.met.N.NodeStore.well_formed c.args.store.now).total c.requires.tree)) (c.requires.file tells)

pub put_aside-requires-clause-vacant : goal.put_aside-requires-clause-vacant
put_aside-requires-clause-vacant g c tells_read =
    let s = g.N.NodeStore.state c.args.store.now in
    let read = g.N.NodeStore.state c.orphan_number.new.store in
    let tells : IsTrue s.tells = sym c.orphan_number.ensures.reads.reads.same.tells ∙ tells_read in
    let found = c.in_ok-number.ensures.number tells in
    subst (λ l. record_at (placed_in l) c.args.private c.in_ok-name.name ≡ None) (sym (pairs_as s read c.orphan_number.ensures.reads tells (g.met.N.NodeStore.well_formed c.args.store.now).total c.requires.tree))
    (subst (λ n. record_at (placed_in (pairs_of s)) c.args.private n ≡ None) (sym c.in_ok-name.ensures.name) (first_is_free (pairs_of s) c.args.private (codes "temp") (id_of found.entry) c.in_ok-number.number found.first))

pub put_aside-requires-clause-room : goal.put_aside-requires-clause-room
put_aside-requires-clause-room g c =
    let s = g.N.NodeStore.state c.args.store.now in
    let read = g.N.NodeStore.state c.orphan_number.new.store in
    room_then 0 3 516 s read c.orphan_number.ensures.reads.reads.same (edits_none s read c.orphan_number.ensures.reads) c.requires.room

pub returns-in_err-put_aside-clause-takes : goal.returns-in_err-put_aside-clause-takes
returns-in_err-put_aside-clause-takes g c =
    let s = g.N.NodeStore.state c.args.store.now in
    let read = g.N.NodeStore.state c.orphan_number.new.store in
    takes_both 0 3 516 s read (g.N.NodeStore.state c.put_aside.new.store) c.orphan_number.ensures.reads.reads.same (edits_none s read c.orphan_number.ensures.reads) c.put_aside.ensures.takes

pub returns-clause-moved : goal.returns-clause-moved
returns-clause-moved g c tells =
    let s = g.N.NodeStore.state c.args.store.now in
    let read = g.N.NodeStore.state c.orphan_number.new.store in
    let new = g.N.NodeStore.state c.put_aside.new.store in
    let tells_read : IsTrue read.tells = c.orphan_number.ensures.reads.reads.same.tells ∙ tells in
    let same = pairs_as s read c.orphan_number.ensures.reads tells (g.met.N.NodeStore.well_formed c.args.store.now).total c.requires.tree in
    let found = c.in_ok-number.ensures.number tells in
    orphan_made c.args.private c.args.at.now c.in_ok-number.number c.in_ok-name.name (pairs_of s) (pairs_of new) found.entry found.found c.in_ok-name.ensures.name found.first
    (subst (λ l. RelocatesEntry c.args.at.now.parent c.args.at.now.name c.args.private c.in_ok-name.name l (pairs_of new)) same (c.in_ok-put_aside.ensures.moved tells_read))

pub returns-clause-edits : goal.returns-clause-edits
returns-clause-edits g c =
    let s = g.N.NodeStore.state c.args.store.now in
    let read = g.N.NodeStore.state c.orphan_number.new.store in
    edits_add 0 3 516 s read (g.N.NodeStore.state c.put_aside.new.store) c.orphan_number.ensures.reads.reads.same (edits_none s read c.orphan_number.ensures.reads) c.in_ok-put_aside.ensures.edits

pub returns-clause-takes : goal.returns-clause-takes
returns-clause-takes g c =
    let s = g.N.NodeStore.state c.args.store.now in
    let read = g.N.NodeStore.state c.orphan_number.new.store in
    takes_both 0 3 516 s read (g.N.NodeStore.state c.put_aside.new.store) c.orphan_number.ensures.reads.reads.same (edits_none s read c.orphan_number.ensures.reads) c.put_aside.ensures.takes

pub returns-clause-header : goal.returns-clause-header
returns-clause-header g c tells same =
    let reads = c.orphan_number.ensures.reads.reads in
    c.in_ok-put_aside.ensures.header (reads.same.tells ∙ tells) ((reads.tree tells).header ∙ same ∙ sym reads.shape)

pub returns-clause-rules : goal.returns-clause-rules
returns-clause-rules g c tells overflow folder not_link links =
    orphan_keeps_in c.args.private c.args.at.now (g.N.NodeStore.state c.args.store.now) (g.N.NodeStore.state c.put_aside.new.store) overflow (c.requires.tree tells) (c.in_ok-put_aside.ensures.tree (c.orphan_number.ensures.reads.reads.same.tells ∙ tells)) folder c.requires.some
    (c.requires.file tells) not_link links (returns-clause-moved g c tells)
