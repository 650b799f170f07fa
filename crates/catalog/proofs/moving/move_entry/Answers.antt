use Rattle.std.proofs.Common.{◌≡◌, ◌≤◌, ◌+◌, ◌∙◌, arith, sym, ap, subst}
use Rattle.std.specs.Prelude.{IsTrue, None}
use Rattle.btree_node.specs.Tree.{pairs_of}
use Rattle.btree_edit.proofs.EditLaws.{takes_both, edits_add, edits_fewer}
use Rattle.btree_edit.proofs.Repeated.{reads_both}
use Rattle.hfs_volume.specs.Entries.{AreSpelled, AreThreaded}
use Rattle.hfs_volume.specs.Records.{Placed, placed_in, record_at}
use Rattle.catalog.specs.Entries.{RelocatesEntry}
use Rattle.catalog.specs.Pairs.{value_at}
use Rattle.catalog.proofs.BeforeEdits.{tree_read, pairs_read, reads_edit_nothing}
use Rattle.catalog.proofs.Moves.{some_value_some_record}
use Rattle.catalog.proofs.Removals.{no_value_no_record}
use Rattle.catalog.proofs.moving.move_entry.Goals as goal

pub returns-in_default-clause-tree : goal.returns-in_default-clause-tree
returns-in_default-clause-tree g c tells =
    let s = g.N.NodeStore.state c.args.store.now in
    let first = g.N.NodeStore.state c.entry_at.new.store in
    let total = (g.met.N.NodeStore.well_formed c.args.store.now).total in
    tree_read s.shape.depth s first c.entry_at.ensures.reads tells total (c.requires.tree tells)

pub lookup-requires-clause-tree : goal.lookup-requires-clause-tree
lookup-requires-clause-tree g c tells_first =
    let s = g.N.NodeStore.state c.args.store.now in
    let first = g.N.NodeStore.state c.entry_at.new.store in
    let total = (g.met.N.NodeStore.well_formed c.args.store.now).total in
    let tells : IsTrue s.tells = sym c.entry_at.ensures.reads.same.tells ∙ tells_first in
    tree_read s.shape.depth s first c.entry_at.ensures.reads tells total (c.requires.tree tells)

pub lookup-requires-clause-spelled : goal.lookup-requires-clause-spelled
lookup-requires-clause-spelled g c tells_first =
    let s = g.N.NodeStore.state c.args.store.now in
    let first = g.N.NodeStore.state c.entry_at.new.store in
    let total = (g.met.N.NodeStore.well_formed c.args.store.now).total in
    let tells : IsTrue s.tells = sym c.entry_at.ensures.reads.same.tells ∙ tells_first in
    subst AreSpelled (sym (pairs_read s.shape.depth s first c.entry_at.ensures.reads tells total (c.requires.tree tells))) (c.requires.threads tells).spelled

pub returns-in-Some-2-clause-tree : goal.returns-in-Some-2-clause-tree
returns-in-Some-2-clause-tree g c tells =
    let s = g.N.NodeStore.state c.args.store.now in
    let first = g.N.NodeStore.state c.entry_at.new.store in
    let total = (g.met.N.NodeStore.well_formed c.args.store.now).total in
    let second = g.N.NodeStore.state c.lookup.new.store in
    let both = reads_both s.shape.depth first.shape.depth (s.shape.depth + first.shape.depth) c.entry_at.ensures.reads c.lookup.ensures.reads (omega arith) in
    tree_read (s.shape.depth + first.shape.depth) s second both tells total (c.requires.tree tells)

pub returns-in-Some-2-clause-edits : goal.returns-in-Some-2-clause-edits
returns-in-Some-2-clause-edits g c =
    let s = g.N.NodeStore.state c.args.store.now in
    let first = g.N.NodeStore.state c.entry_at.new.store in
    let total = (g.met.N.NodeStore.well_formed c.args.store.now).total in
    let second = g.N.NodeStore.state c.lookup.new.store in
    let both = reads_both s.shape.depth first.shape.depth (s.shape.depth + first.shape.depth) c.entry_at.ensures.reads c.lookup.ensures.reads (omega arith) in
    edits_fewer 0 3 516 s second (reads_edit_nothing (s.shape.depth + first.shape.depth) 516 s second both (omega (arith, c.entry_at.ensures.cause.later, c.lookup.ensures.cause.later)))

pub relocate-requires-clause-tree : goal.relocate-requires-clause-tree
relocate-requires-clause-tree g c tells_second =
    let s = g.N.NodeStore.state c.args.store.now in
    let first = g.N.NodeStore.state c.entry_at.new.store in
    let total = (g.met.N.NodeStore.well_formed c.args.store.now).total in
    let second = g.N.NodeStore.state c.lookup.new.store in
    let both = reads_both s.shape.depth first.shape.depth (s.shape.depth + first.shape.depth) c.entry_at.ensures.reads c.lookup.ensures.reads (omega arith) in
    let tells : IsTrue s.tells = sym both.same.tells ∙ tells_second in
    tree_read (s.shape.depth + first.shape.depth) s second both tells total (c.requires.tree tells)

pub relocate-requires-clause-threads : goal.relocate-requires-clause-threads
relocate-requires-clause-threads g c tells_second =
    let s = g.N.NodeStore.state c.args.store.now in
    let first = g.N.NodeStore.state c.entry_at.new.store in
    let total = (g.met.N.NodeStore.well_formed c.args.store.now).total in
    let second = g.N.NodeStore.state c.lookup.new.store in
    let both = reads_both s.shape.depth first.shape.depth (s.shape.depth + first.shape.depth) c.entry_at.ensures.reads c.lookup.ensures.reads (omega arith) in
    let tells : IsTrue s.tells = sym both.same.tells ∙ tells_second in
    subst AreThreaded (sym (pairs_read (s.shape.depth + first.shape.depth) s second both tells total (c.requires.tree tells))) (c.requires.threads tells)

pub returns-in_err-relocate-in-None-clause-takes : goal.returns-in_err-relocate-in-None-clause-takes
returns-in_err-relocate-in-None-clause-takes g c =
    let s = g.N.NodeStore.state c.args.store.now in
    let first = g.N.NodeStore.state c.entry_at.new.store in
    let total = (g.met.N.NodeStore.well_formed c.args.store.now).total in
    let second = g.N.NodeStore.state c.lookup.new.store in
    let both = reads_both s.shape.depth first.shape.depth (s.shape.depth + first.shape.depth) c.entry_at.ensures.reads c.lookup.ensures.reads (omega arith) in
    takes_both 0 3 516 s second (g.N.NodeStore.state c.relocate.new.store) both.same (reads_edit_nothing (s.shape.depth + first.shape.depth) 516 s second both (omega (arith, c.entry_at.ensures.cause.later, c.lookup.ensures.cause.later))) c.relocate.ensures.takes

pub returns-clause-answer : goal.returns-clause-answer
returns-clause-answer g c tells =
    let s = g.N.NodeStore.state c.args.store.now in
    let first = g.N.NodeStore.state c.entry_at.new.store in
    let total = (g.met.N.NodeStore.well_formed c.args.store.now).total in
    let second = g.N.NodeStore.state c.lookup.new.store in
    let both = reads_both s.shape.depth first.shape.depth (s.shape.depth + first.shape.depth) c.entry_at.ensures.reads c.lookup.ensures.reads (omega arith) in
    let pairs = pairs_of s in
    let same = pairs_read s.shape.depth s first c.entry_at.ensures.reads tells total (c.requires.tree tells) in
    let value_is = sym (c.in_ok-rec.ensures.found tells) ∙ c.in-Some.is in
    let vacant : None ≡ value_at pairs c.args.to c.args.new.now = sym c.in-None.is ∙ c.in_ok-lookup.ensures.found (c.entry_at.ensures.reads.same.tells ∙ tells) ∙ ap (λ l. value_at l c.args.to c.args.new.now) same in (
      some_value_some_record (record_at (placed_in pairs) c.args.from c.args.old.now) c.in-Some.rec (λ (placed : Placed). placed.value) value_is,
      no_value_no_record (record_at (placed_in pairs) c.args.to c.args.new.now) vacant,
    )

pub returns-clause-moved : goal.returns-clause-moved
returns-clause-moved g c tells =
    let s = g.N.NodeStore.state c.args.store.now in
    let first = g.N.NodeStore.state c.entry_at.new.store in
    let total = (g.met.N.NodeStore.well_formed c.args.store.now).total in
    let second = g.N.NodeStore.state c.lookup.new.store in
    let both = reads_both s.shape.depth first.shape.depth (s.shape.depth + first.shape.depth) c.entry_at.ensures.reads c.lookup.ensures.reads (omega arith) in
    let new = g.N.NodeStore.state c.relocate.new.store in
    let same = pairs_read (s.shape.depth + first.shape.depth) s second both tells total (c.requires.tree tells) in
    subst (λ l. RelocatesEntry c.args.from c.args.old.now c.args.to c.args.new.now l (pairs_of new)) same (c.in_ok-relocate-in-None.ensures.moved (both.same.tells ∙ tells))

pub returns-clause-edits : goal.returns-clause-edits
returns-clause-edits g c =
    let s = g.N.NodeStore.state c.args.store.now in
    let first = g.N.NodeStore.state c.entry_at.new.store in
    let total = (g.met.N.NodeStore.well_formed c.args.store.now).total in
    let second = g.N.NodeStore.state c.lookup.new.store in
    let both = reads_both s.shape.depth first.shape.depth (s.shape.depth + first.shape.depth) c.entry_at.ensures.reads c.lookup.ensures.reads (omega arith) in
    edits_add 0 3 516 s second (g.N.NodeStore.state c.relocate.new.store) both.same (reads_edit_nothing (s.shape.depth + first.shape.depth) 516 s second both (omega (arith, c.entry_at.ensures.cause.later, c.lookup.ensures.cause.later))) c.in_ok-relocate-in-None.ensures.edits

pub returns-clause-takes : goal.returns-clause-takes
returns-clause-takes g c =
    let s = g.N.NodeStore.state c.args.store.now in
    let first = g.N.NodeStore.state c.entry_at.new.store in
    let total = (g.met.N.NodeStore.well_formed c.args.store.now).total in
    let second = g.N.NodeStore.state c.lookup.new.store in
    let both = reads_both s.shape.depth first.shape.depth (s.shape.depth + first.shape.depth) c.entry_at.ensures.reads c.lookup.ensures.reads (omega arith) in
    takes_both 0 3 516 s second (g.N.NodeStore.state c.relocate.new.store) both.same (reads_edit_nothing (s.shape.depth + first.shape.depth) 516 s second both (omega (arith, c.entry_at.ensures.cause.later, c.lookup.ensures.cause.later))) c.relocate.ensures.takes
