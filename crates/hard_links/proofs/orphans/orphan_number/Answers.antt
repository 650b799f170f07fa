use Rattle.std.proofs.Common.{◌≡◌, sym, ◌∙◌, ap, subst}
use Rattle.std.specs.Prelude.{IsTrue, None, Some, codes}
use Rattle.btree_node.specs.Tree.{pairs_of}
use Rattle.hfs_volume.specs.Entries.{AreSpelled}
use Rattle.catalog.specs.Pairs.{value_at}
use Rattle.hard_links.specs.Numbers.{IsFirstFree}
use Rattle.hard_links.specs.Orphans.{IsOrphanNumber, file_in}
use Rattle.hard_links.proofs.Asides.{ok_so, number_of, no_file_there}
use Rattle.hard_links.proofs.BeforeMoves.{tree_as, pairs_as, one_read, more_reads}
use Rattle.hard_links.proofs.orphans.orphan_number.Goals as goal

pub free_number-requires-clause-tree : goal.free_number-requires-clause-tree
free_number-requires-clause-tree g c tells =
    let s = g.N.NodeStore.state c.args.store.now in
    let read = g.N.NodeStore.state c.lookup.new.store in
    tree_as s read (one_read s.shape.depth s read c.lookup.ensures.reads c.lookup.ensures.cause.later) tells (g.met.N.NodeStore.well_formed c.args.store.now).total c.requires.tree

pub free_number-requires-clause-spelled : goal.free_number-requires-clause-spelled
free_number-requires-clause-spelled g c tells_read =
    let s = g.N.NodeStore.state c.args.store.now in
    let read = g.N.NodeStore.state c.lookup.new.store in
    let tells : IsTrue s.tells = sym c.lookup.ensures.reads.same.tells ∙ tells_read in
    subst AreSpelled (sym (pairs_as s read (one_read s.shape.depth s read c.lookup.ensures.reads c.lookup.ensures.cause.later) tells (g.met.N.NodeStore.well_formed c.args.store.now).total c.requires.tree)) (c.requires.spelled tells)

pub returns-in-Some-clause-number : goal.returns-in-Some-clause-number
returns-in-Some-clause-number g c tells =
    let s = g.N.NodeStore.state c.args.store.now in
    let read = g.N.NodeStore.state c.lookup.new.store in
    let pairs = pairs_of s in
    let tells_read : IsTrue read.tells = c.lookup.ensures.reads.same.tells ∙ tells in
    let same = pairs_as s read (one_read s.shape.depth s read c.lookup.ensures.reads c.lookup.ensures.cause.later) tells (g.met.N.NodeStore.well_formed c.args.store.now).total c.requires.tree in
    let file = c.in-Some.file in
    let word = c.as_slice.result.now in
    let is_read : Some file ≡ file_in (value_at pairs c.args.at.now.parent c.args.at.now.name) = sym c.in-Some.is ∙ c.file_in.ensures ∙ ap file_in (c.in_ok-lookup.ensures.found tells) in
    ok_so c.free_number.result (λ number. IsFirstFree (pairs_of read) c.args.private word file.fields.id number) (λ number. IsOrphanNumber c.args.private c.args.at.now pairs number)
    (λ number first. number_of c.args.private c.args.at.now pairs number file (c.requires.file tells) is_read
    (subst (λ w. IsFirstFree pairs c.args.private w file.fields.id number) c.as_slice.ensures (subst (λ l. IsFirstFree l c.args.private word file.fields.id number) same first)))
    (c.free_number.ensures.first tells_read)

pub returns-in-Some-clause-reads : goal.returns-in-Some-clause-reads
returns-in-Some-clause-reads g c =
    let s = g.N.NodeStore.state c.args.store.now in
    let read = g.N.NodeStore.state c.lookup.new.store in
    more_reads s read (g.N.NodeStore.state c.free_number.new.store) (one_read s.shape.depth s read c.lookup.ensures.reads c.lookup.ensures.cause.later) c.free_number.ensures.reads

pub returns-in-None-clause-number : goal.returns-in-None-clause-number
returns-in-None-clause-number g c tells =
    let pairs = pairs_of (g.N.NodeStore.state c.args.store.now) in
    let is_read : None ≡ file_in (value_at pairs c.args.at.now.parent c.args.at.now.name) = sym c.in-None.is ∙ c.file_in.ensures ∙ ap file_in (c.in_ok-lookup.ensures.found tells) in
    absurd (no_file_there c.args.at.now pairs (c.requires.file tells) is_read)
