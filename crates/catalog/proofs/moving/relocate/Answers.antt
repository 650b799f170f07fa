use mir.Syntax.{w16}
use mir.Val.{to_z, of_z}
use Rattle.std.proofs.lemmas.Int.{to_z-of_z}
use Rattle.std.proofs.Common.{◌∙◌, ◌≡◌, ap, sym, subst}
use Rattle.std.specs.Prelude.{IsTrue}
use Rattle.btree_node.specs.Keys.{catalog_cmp}
use Rattle.btree_node.specs.Tree.{pairs_of}
use Rattle.btree_edit.proofs.EditLaws.{takes_both, edits_add, takes_fewer, room_then}
use Rattle.btree_edit.specs.Desk.{HasKey}
use Rattle.hfs_volume.specs.Records.{id_in}
use Rattle.catalog.specs.Pairs.{ShiftsPair, spare_in, thread_at}
use Rattle.catalog.proofs.BeforeEdits.{tree_read, pairs_read, reads_edit_nothing}
use Rattle.catalog.proofs.Places.{tree_ascends, no_record_no_key}
use Rattle.catalog.proofs.Removals.{has_entry, has_thread, spare_is, relocates}
use Rattle.catalog.proofs.moving.relocate.Goals as goal

pub shift-requires-clause-tree : goal.shift-requires-clause-tree
shift-requires-clause-tree g c tells_read =
    let s = g.N.NodeStore.state c.args.store.now in
    let tells : IsTrue s.tells = sym c.by_id.ensures.reads.same.tells ∙ tells_read in
    tree_read s.shape.depth s (g.N.NodeStore.state c.by_id.new.store) c.by_id.ensures.reads tells (g.met.N.NodeStore.well_formed c.args.store.now).total (c.requires.tree tells)

pub shift-requires-clause-room : goal.shift-requires-clause-room
shift-requires-clause-room g c =
    let s = g.N.NodeStore.state c.args.store.now in
    let read = g.N.NodeStore.state c.by_id.new.store in
    room_then 0 3 516 s read c.by_id.ensures.reads.same (reads_edit_nothing s.shape.depth 516 s read c.by_id.ensures.reads c.by_id.ensures.cause.later) c.requires.room

pub returns-in_err-shift-clause-takes : goal.returns-in_err-shift-clause-takes
returns-in_err-shift-clause-takes g c =
    let s = g.N.NodeStore.state c.args.store.now in
    let read = g.N.NodeStore.state c.by_id.new.store in
    takes_both 0 3 516 s read (g.N.NodeStore.state c.shift.new.store) c.by_id.ensures.reads.same
    (reads_edit_nothing s.shape.depth 516 s read c.by_id.ensures.reads c.by_id.ensures.cause.later) c.shift.ensures.takes

pub returns-clause-moved : goal.returns-clause-moved
returns-clause-moved g c tells =
    let s = g.N.NodeStore.state c.args.store.now in
    let read = g.N.NodeStore.state c.by_id.new.store in
    let new = g.N.NodeStore.state c.shift.new.store in
    let old = pairs_of s in
    let same = pairs_read s.shape.depth s read c.by_id.ensures.reads tells (g.met.N.NodeStore.well_formed c.args.store.now).total (c.requires.tree tells) in
    let tells_read : IsTrue read.tells = c.by_id.ensures.reads.same.tells ∙ tells in
    let rec = c.args.rec.now in
    let entry = c.in_ok-entry.entry in
    let thread = c.in_ok-thread.thread in
    let key = c.in_ok-key.key in
    let rises = tree_ascends s (c.requires.tree tells) in
    let threads = c.requires.threads tells in
    let value_is = c.requires.stands tells in
    let entry_there = has_entry c.args.from c.args.old.now old rec key thread.key rises threads c.in_ok-key.ensures c.in_ok-thread.ensures.key c.requires.some value_is in
    let thread_there = has_thread c.args.from c.args.old.now old rec key thread.key rises threads c.in_ok-key.ensures c.in_ok-thread.ensures.key c.requires.some value_is in
    let vacant = no_record_no_key c.args.to c.args.new.now entry.key old c.in_ok-entry.ensures.key (c.requires.vacant tells) in
    let shifts = c.in_ok-shift.ensures.pairs tells_read (subst (λ l. HasKey catalog_cmp thread.key l) (sym same) thread_there) (subst (λ l. HasKey catalog_cmp key l) (sym same) entry_there) (λ has. vacant (subst (λ l. HasKey catalog_cmp entry.key l) same has)) in
    let own_spare = c.spare_of-spare.ensures ∙ ap spare_in (c.in_ok-found.ensures.found tells) ∙ ap (λ n. spare_in (thread_at old n)) c.id_of.ensures
    ∙ spare_is c.args.from c.args.old.now old rec key thread.key rises threads c.in_ok-key.ensures c.in_ok-thread.ensures.key c.requires.some value_is in
    relocates c.args.from c.args.old.now old rec key thread.key rises threads c.in_ok-key.ensures c.in_ok-thread.ensures.key c.requires.some value_is
    c.args.to c.args.new.now entry.key entry.value thread.value (pairs_of new) (to_z w16 (of_z w16 c.spare_of-spare.result)) (to_z-of_z w16 c.spare_of-spare.result (record { sfits = c.spare_of-spare.type_inv }) ∙ own_spare)
    (subst (λ l. ShiftsPair thread.key thread.value key entry.key entry.value l (pairs_of new)) same shifts) c.in_ok-entry.ensures.spells c.in_ok-thread.ensures.spells

pub returns-clause-edits : goal.returns-clause-edits
returns-clause-edits g c =
    let s = g.N.NodeStore.state c.args.store.now in
    let read = g.N.NodeStore.state c.by_id.new.store in
    edits_add 0 3 516 s read (g.N.NodeStore.state c.shift.new.store) c.by_id.ensures.reads.same
    (reads_edit_nothing s.shape.depth 516 s read c.by_id.ensures.reads c.by_id.ensures.cause.later) c.in_ok-shift.ensures.edits

pub returns-clause-takes : goal.returns-clause-takes
returns-clause-takes g c =
    let s = g.N.NodeStore.state c.args.store.now in
    let read = g.N.NodeStore.state c.by_id.new.store in
    takes_both 0 3 516 s read (g.N.NodeStore.state c.shift.new.store) c.by_id.ensures.reads.same
    (reads_edit_nothing s.shape.depth 516 s read c.by_id.ensures.reads c.by_id.ensures.cause.later) c.shift.ensures.takes

pub returns-in_err-shift-clause-below : goal.returns-in_err-shift-clause-below
returns-in_err-shift-clause-below g c = g.met.N.NodeStore.follows_trans c.args.store.now c.by_id.new.store c.shift.new.store c.by_id.ensures.below c.shift.ensures.below

pub returns-clause-below : goal.returns-clause-below
returns-clause-below g c = g.met.N.NodeStore.follows_trans c.args.store.now c.by_id.new.store c.shift.new.store c.by_id.ensures.below c.shift.ensures.below
