use Rattle.std.proofs.Common.{◌≡◌, ◌≤◌, ◌<◌, ◌+◌, ◌^◌, Bool, true, false, sym, ◌∙◌, subst, arith, rules}
use Rattle.std.specs.Prelude.{IsTrue}
use Rattle.btree_node.specs.Tree.{pairs_of}
use Rattle.btree_edit.specs.Desk.{IsDeskOf}
use Rattle.hfs_volume.specs.Entries.{AreSpelled}
use Rattle.hard_links.specs.Numbers.{TellsFree, AreTaken, OnlyReads, IsFreeFrom}
use Rattle.hard_links.proofs.BeforeMoves.{tree_as, pairs_as, one_read, more_reads}
use Rattle.hard_links.proofs.Finders.{one_taken, is_taken, is_free, free_number_found}
use Rattle.hard_links.proofs.numbers.free_from.Goals as goal

pub is_free-requires-clause-tree : goal.is_free-requires-clause-tree
is_free-requires-clause-tree g c tells =
    tree_as (g.N.NodeStore.state c.args.store.now) (g.N.NodeStore.state c.loop-number.store) c.loop-number.invariant.reads tells (g.met.N.NodeStore.well_formed c.args.store.now).total c.requires.tree

pub is_free-requires-clause-spelled : goal.is_free-requires-clause-spelled
is_free-requires-clause-spelled g c tells_read =
    let s = g.N.NodeStore.state c.args.store.now in
    let read = g.N.NodeStore.state c.loop-number.store in
    let tells : IsTrue s.tells = sym c.loop-number.invariant.reads.reads.same.tells ∙ tells_read in
    subst AreSpelled (sym (pairs_as s read c.loop-number.invariant.reads tells (g.met.N.NodeStore.well_formed c.args.store.now).total c.requires.tree)) (c.requires.spelled tells)

pub returns-in_err-is_free-clause-reads : goal.returns-in_err-is_free-clause-reads
returns-in_err-is_free-clause-reads g c =
    let s = g.N.NodeStore.state c.args.store.now in
    let read = g.N.NodeStore.state c.loop-number.store in
    let new = g.N.NodeStore.state c.is_free.new.store in
    more_reads s read new c.loop-number.invariant.reads (one_read read.shape.depth read new c.is_free.ensures.reads c.is_free.ensures.cause.later)

pub returns-then-branch-clause-reads : goal.returns-then-branch-clause-reads
returns-then-branch-clause-reads g c =
    let s = g.N.NodeStore.state c.args.store.now in
    let read = g.N.NodeStore.state c.loop-number.store in
    let new = g.N.NodeStore.state c.is_free.new.store in
    more_reads s read new c.loop-number.invariant.reads (one_read read.shape.depth read new c.is_free.ensures.reads c.is_free.ensures.cause.later)

pub returns-else-branch-clause-reads : goal.returns-else-branch-clause-reads
returns-else-branch-clause-reads g c =
    let s = g.N.NodeStore.state c.args.store.now in
    let read = g.N.NodeStore.state c.loop-number.store in
    let new = g.N.NodeStore.state c.is_free.new.store in
    more_reads s read new c.loop-number.invariant.reads (one_read read.shape.depth read new c.is_free.ensures.reads c.is_free.ensures.cause.later)

pub returns-then-branch-clause-found : goal.returns-then-branch-clause-found
returns-then-branch-clause-found g c tells =
    let s = g.N.NodeStore.state c.args.store.now in
    let read = g.N.NodeStore.state c.loop-number.store in
    let same = pairs_as s read c.loop-number.invariant.reads tells (g.met.N.NodeStore.well_formed c.args.store.now).total c.requires.tree in
    let tells_read : IsTrue read.tells = c.loop-number.invariant.reads.reads.same.tells ∙ tells in
    let free = subst (λ l. TellsFree l c.args.private c.args.word.now c.loop-number.number c.in_ok-is_free.field-0) same (c.in_ok-is_free.ensures.free tells_read) in
    free_number_found (pairs_of s) c.args.private c.args.word.now c.args.low c.loop-number.number (c.loop-number.invariant.taken tells) c.loop-number.invariant.within (omega (arith, c.loop-number.auto.number, c.loop-number-test.true))
    (is_free (pairs_of s) c.args.private c.args.word.now c.loop-number.number c.in_ok-is_free.field-0 free c.if-branch.true)

pub returns-else-branch-clause-found : goal.returns-else-branch-clause-found
returns-else-branch-clause-found g c tells =
    let s = g.N.NodeStore.state c.args.store.now in
    let read = g.N.NodeStore.state c.loop-number.store in
    let same = pairs_as s read c.loop-number.invariant.reads tells (g.met.N.NodeStore.well_formed c.args.store.now).total c.requires.tree in
    let tells_read : IsTrue read.tells = c.loop-number.invariant.reads.reads.same.tells ∙ tells in
    let free = subst (λ l. TellsFree l c.args.private c.args.word.now c.loop-number.number c.in_ok-is_free.field-0) same (c.in_ok-is_free.ensures.free tells_read) in
    let all = one_taken (pairs_of s) c.args.private c.args.word.now c.args.low c.loop-number.number (c.loop-number.invariant.taken tells)
    (is_taken (pairs_of s) c.args.private c.args.word.now c.loop-number.number c.in_ok-is_free.field-0 free c.if-branch.false) in
    λ number within fits. all number within (omega (arith, fits, c.loop-number.auto.number, c.loop-number.auto.number-end, c.loop-number-test.true))

pub loop-number-preserved : goal.loop-number-preserved
loop-number-preserved g c =
    let s = g.N.NodeStore.state c.args.store.now in
    let read = g.N.NodeStore.state c.loop-number.store in
    let new = g.N.NodeStore.state c.is_free.new.store in
    let reads = more_reads s read new c.loop-number.invariant.reads (one_read read.shape.depth read new c.is_free.ensures.reads c.is_free.ensures.cause.later) in
    record {
      desk = subst (λ n. IsDeskOf n c.is_free.new.desk) c.loop-number.invariant.reads.reads.same.node_size c.is_free.ensures.desk;
      taken = λ tells.
          let same = pairs_as s read c.loop-number.invariant.reads tells (g.met.N.NodeStore.well_formed c.args.store.now).total c.requires.tree in
          let tells_read : IsTrue read.tells = c.loop-number.invariant.reads.reads.same.tells ∙ tells in
          let free = subst (λ l. TellsFree l c.args.private c.args.word.now c.loop-number.number c.in_ok-is_free.field-0) same (c.in_ok-is_free.ensures.free tells_read) in
          one_taken (pairs_of s) c.args.private c.args.word.now c.args.low c.loop-number.number (c.loop-number.invariant.taken tells)
          (is_taken (pairs_of s) c.args.private c.args.word.now c.loop-number.number c.in_ok-is_free.field-0 free c.if-branch.false);
      within = omega (arith, c.loop-number.invariant.within);
      reads = reads;
      below = g.met.N.NodeStore.follows_trans c.args.store.now c.loop-number.store c.is_free.new.store c.loop-number.invariant.below c.is_free.ensures.below;
    }
