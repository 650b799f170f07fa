use Rattle.std.proofs.Common.{◌∙◌, sym, subst}
use Rattle.std.specs.Prelude.{IsTrue}
use Rattle.btree_node.specs.Keys.{catalog_cmp}
use Rattle.btree_node.specs.Tree.{pairs_of}
use Rattle.btree_edit.proofs.EditLaws.{takes_both, edits_add}
use Rattle.btree_edit.specs.Desk.{HasKey}
use Rattle.hfs_volume.specs.Records.{id_in}
use Rattle.catalog.specs.Pairs.{IsKeyOf, DropsBoth}
use Rattle.catalog.proofs.BeforeEdits.{tree_read, pairs_read, reads_edit_nothing}
use Rattle.catalog.proofs.Places.{tree_ascends}
use Rattle.catalog.proofs.Removals.{has_entry, has_thread, apart, removes_entry}
use Rattle.catalog.proofs.removing.remove.Goals as goal

pub returns-in_default-clause-tree : goal.returns-in_default-clause-tree
returns-in_default-clause-tree g c tells =
    let s = g.N.NodeStore.state c.args.store.now in
    tree_read s.shape.depth s (g.N.NodeStore.state c.lookup.new.store) c.lookup.ensures.reads tells (g.met.N.NodeStore.well_formed c.args.store.now).total (c.requires.tree tells)

pub remove_both-requires-clause-tree : goal.remove_both-requires-clause-tree
remove_both-requires-clause-tree g c tells_read =
    let s = g.N.NodeStore.state c.args.store.now in
    let tells : IsTrue s.tells = sym c.lookup.ensures.reads.same.tells ∙ tells_read in
    tree_read s.shape.depth s (g.N.NodeStore.state c.lookup.new.store) c.lookup.ensures.reads tells (g.met.N.NodeStore.well_formed c.args.store.now).total (c.requires.tree tells)

pub returns-in_err-remove_both-clause-takes : goal.returns-in_err-remove_both-clause-takes
returns-in_err-remove_both-clause-takes g c =
    let s = g.N.NodeStore.state c.args.store.now in
    let read = g.N.NodeStore.state c.lookup.new.store in
    takes_both 0 2 516 s read (g.N.NodeStore.state c.remove_both.new.store) c.lookup.ensures.reads.same
    (reads_edit_nothing s.shape.depth 516 s read c.lookup.ensures.reads c.lookup.ensures.cause.later) c.remove_both.ensures.takes

pub returns-clause-removed : goal.returns-clause-removed
returns-clause-removed g c tells =
    let s = g.N.NodeStore.state c.args.store.now in
    let read = g.N.NodeStore.state c.lookup.new.store in
    let new = g.N.NodeStore.state c.remove_both.new.store in
    let total = (g.met.N.NodeStore.well_formed c.args.store.now).total in
    let same = pairs_read s.shape.depth s read c.lookup.ensures.reads tells total (c.requires.tree tells) in
    let tells_read : IsTrue read.tells = c.lookup.ensures.reads.same.tells ∙ tells in
    let value_is = sym (c.in_ok-rec.ensures.found tells) ∙ c.in-Some.is in
    let thread_key = subst (λ l. IsKeyOf (id_in c.in-Some.rec) l c.in_ok-thread.thread) c.new.ensures (subst (λ n. IsKeyOf n c.new.result c.in_ok-thread.thread) c.id_of.ensures c.in_ok-thread.ensures) in
    let rises = tree_ascends s (c.requires.tree tells) in
    let threads = c.requires.threads tells in
    let entry_there = has_entry c.args.parent c.args.name.now (pairs_of s) c.in-Some.rec c.in_ok-entry.entry c.in_ok-thread.thread rises threads c.in_ok-entry.ensures thread_key c.requires.some value_is in
    let thread_there = has_thread c.args.parent c.args.name.now (pairs_of s) c.in-Some.rec c.in_ok-entry.entry c.in_ok-thread.thread rises threads c.in_ok-entry.ensures thread_key c.requires.some value_is in
    let differ = apart c.args.parent c.args.name.now (pairs_of s) c.in-Some.rec c.in_ok-entry.entry c.in_ok-thread.thread rises threads c.in_ok-entry.ensures thread_key c.requires.some value_is in
    let drops = c.in_ok-remove_both.ensures.pairs tells_read (subst (λ l. HasKey catalog_cmp c.in_ok-thread.thread l) (sym same) thread_there) (subst (λ l. HasKey catalog_cmp c.in_ok-entry.entry l) (sym same) entry_there) differ in
    removes_entry c.args.parent c.args.name.now (pairs_of s) c.in-Some.rec c.in_ok-entry.entry c.in_ok-thread.thread rises threads c.in_ok-entry.ensures thread_key c.requires.some value_is
    (pairs_of new) (subst (λ l. DropsBoth c.in_ok-thread.thread c.in_ok-entry.entry l (pairs_of new)) same drops)

pub returns-clause-edits : goal.returns-clause-edits
returns-clause-edits g c =
    let s = g.N.NodeStore.state c.args.store.now in
    let read = g.N.NodeStore.state c.lookup.new.store in
    edits_add 0 2 516 s read (g.N.NodeStore.state c.remove_both.new.store) c.lookup.ensures.reads.same
    (reads_edit_nothing s.shape.depth 516 s read c.lookup.ensures.reads c.lookup.ensures.cause.later) c.in_ok-remove_both.ensures.edits

pub returns-clause-takes : goal.returns-clause-takes
returns-clause-takes g c =
    let s = g.N.NodeStore.state c.args.store.now in
    let read = g.N.NodeStore.state c.lookup.new.store in
    takes_both 0 2 516 s read (g.N.NodeStore.state c.remove_both.new.store) c.lookup.ensures.reads.same
    (reads_edit_nothing s.shape.depth 516 s read c.lookup.ensures.reads c.lookup.ensures.cause.later) c.remove_both.ensures.takes
