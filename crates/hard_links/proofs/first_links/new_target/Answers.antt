use Rattle.std.proofs.Common.{◌≡◌, sym, ◌∙◌, ap, subst}
use Rattle.std.specs.Prelude.{IsTrue}
use Rattle.btree_node.specs.Tree.{pairs_of}
use Rattle.hfs_volume.specs.Entries.{AreSpelled}
use Rattle.hard_links.specs.Linking.{link_date}
use Rattle.hard_links.specs.Numbers.{IsFirstFree}
use Rattle.hard_links.proofs.BeforeMoves.{tree_as, pairs_as, tells_as, one_read, more_reads}
use Rattle.hard_links.proofs.first_links.new_target.Goals as goal

pub link_date-requires-clause-tree : goal.link_date-requires-clause-tree
link_date-requires-clause-tree g c tells =
    tree_as (g.N.NodeStore.state c.args.store.now) (g.N.NodeStore.state c.free_number.new.store) c.free_number.ensures.reads tells (g.met.N.NodeStore.well_formed c.args.store.now).total c.requires.tree

pub link_date-requires-clause-spelled : goal.link_date-requires-clause-spelled
link_date-requires-clause-spelled g c tells_read =
    let s = g.N.NodeStore.state c.args.store.now in
    let read = g.N.NodeStore.state c.free_number.new.store in
    let tells = tells_as s read c.free_number.ensures.reads tells_read in
    subst AreSpelled (sym (pairs_as s read c.free_number.ensures.reads tells (g.met.N.NodeStore.well_formed c.args.store.now).total c.requires.tree)) (c.requires.spelled tells)

pub returns-clause-target : goal.returns-clause-target
returns-clause-target g c tells =
    let s = g.N.NodeStore.state c.args.store.now in
    let read = g.N.NodeStore.state c.free_number.new.store in
    let same = pairs_as s read c.free_number.ensures.reads tells (g.met.N.NodeStore.well_formed c.args.store.now).total c.requires.tree in
    record {
      first = subst (λ w. IsFirstFree (pairs_of s) c.args.private w c.args.own c.in_ok-reference.reference) c.as_slice.ensures (c.in_ok-reference.ensures.first tells);
      date = c.in_ok-created.ensures.date (c.free_number.ensures.reads.reads.same.tells ∙ tells) ∙ ap link_date same;
    }

pub returns-clause-reads : goal.returns-clause-reads
returns-clause-reads g c =
    let s = g.N.NodeStore.state c.args.store.now in
    let read = g.N.NodeStore.state c.free_number.new.store in
    let new = g.N.NodeStore.state c.link_date.new.store in
    more_reads s read new c.free_number.ensures.reads (one_read read.shape.depth read new c.link_date.ensures.reads c.link_date.ensures.cause.later)

pub returns-in_err-created-clause-reads : goal.returns-in_err-created-clause-reads
returns-in_err-created-clause-reads g c =
    let s = g.N.NodeStore.state c.args.store.now in
    let read = g.N.NodeStore.state c.free_number.new.store in
    let new = g.N.NodeStore.state c.link_date.new.store in
    more_reads s read new c.free_number.ensures.reads (one_read read.shape.depth read new c.link_date.ensures.reads c.link_date.ensures.cause.later)
