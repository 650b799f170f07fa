use Rattle.std.proofs.Common.{◌≡◌, inl, inr, sym, ◌∙◌, subst}
use Rattle.std.specs.Prelude.{IsTrue}
use Rattle.btree_node.specs.Tree.{pairs_of}
use Rattle.hfs_volume.specs.Entries.{AreSpelled}
use Rattle.hard_links.specs.Numbers.{FindsFree, IsFreeFrom}
use Rattle.hard_links.proofs.BeforeMoves.{tree_as, pairs_as, more_reads}
use Rattle.hard_links.proofs.numbers.free_number.Goals as goal

pub free_of_all-requires-clause-tree : goal.free_of_all-requires-clause-tree
free_of_all-requires-clause-tree g c tells =
    tree_as (g.N.NodeStore.state c.args.store.now) (g.N.NodeStore.state c.free_from.new.store) c.free_from.ensures.reads tells (g.met.N.NodeStore.well_formed c.args.store.now).total c.requires.tree

pub free_of_all-requires-clause-spelled : goal.free_of_all-requires-clause-spelled
free_of_all-requires-clause-spelled g c tells_read =
    let s = g.N.NodeStore.state c.args.store.now in
    let read = g.N.NodeStore.state c.free_from.new.store in
    let tells : IsTrue s.tells = sym c.free_from.ensures.reads.reads.same.tells ∙ tells_read in
    subst AreSpelled (sym (pairs_as s read c.free_from.ensures.reads tells (g.met.N.NodeStore.well_formed c.args.store.now).total c.requires.tree)) (c.requires.spelled tells)

pub returns-in-None-clause-reads : goal.returns-in-None-clause-reads
returns-in-None-clause-reads g c = more_reads (g.N.NodeStore.state c.args.store.now) (g.N.NodeStore.state c.free_from.new.store) (g.N.NodeStore.state c.free_of_all.new.store) c.free_from.ensures.reads c.free_of_all.ensures.reads
