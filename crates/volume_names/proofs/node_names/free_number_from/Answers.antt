use Rattle.std.proofs.Common.{◌≡◌, ◌≤◌, ◌<◌, ◌+◌, ◌^◌, List, sym, ◌∙◌, subst, arith}
use Rattle.std.specs.Prelude.{codes}
use Rattle.btree_node.specs.Levels.{Pair}
use Rattle.btree_file.specs.Standing.{pairs_in}
use Rattle.btree_file.specs.State.{sectors_of_tree}
use Rattle.hard_links.specs.Numbers.{TellsFree}
use Rattle.volume_names.proofs.FindersTry.{free_number_found, is_free, is_taken, one_taken}
use Rattle.volume_base.proofs.Over.{pairs_read, reads_both}
use Rattle.volume_names.proofs.node_names.free_number_from.Goals as goal

pub returns-then-branch-clause-found : goal.returns-then-branch-clause-found
returns-then-branch-clause-found g c tells =
    let pairs = pairs_in (sectors_of_tree c.args.tree.now) (g.P.SectorView.space c.args.space.now).content in
    let same = pairs_read c.args.tree.now c.loop-number.tree (g.P.SectorView.space c.args.space.now) (g.P.SectorView.space c.loop-number.space) tells c.loop-number.invariant.reads in
    let now = c.loop-number.invariant.reads.looks.same.tells ∙ tells in
    let free = subst (λ (l : List Pair). TellsFree l c.args.private (codes "iNode") c.loop-number.number c.in_ok-is_free_number.field-0) same (c.in_ok-is_free_number.ensures.free now) in
    free_number_found pairs c.args.private (codes "iNode") c.args.low c.loop-number.number (c.loop-number.invariant.taken tells) c.loop-number.invariant.within (omega (arith, c.loop-number.auto.number, c.loop-number-test.true))
    (is_free pairs c.args.private (codes "iNode") c.loop-number.number c.in_ok-is_free_number.field-0 free c.if-branch.true)

pub returns-else-branch-clause-found : goal.returns-else-branch-clause-found
returns-else-branch-clause-found g c tells =
    let pairs = pairs_in (sectors_of_tree c.args.tree.now) (g.P.SectorView.space c.args.space.now).content in
    let same = pairs_read c.args.tree.now c.loop-number.tree (g.P.SectorView.space c.args.space.now) (g.P.SectorView.space c.loop-number.space) tells c.loop-number.invariant.reads in
    let now = c.loop-number.invariant.reads.looks.same.tells ∙ tells in
    let free = subst (λ (l : List Pair). TellsFree l c.args.private (codes "iNode") c.loop-number.number c.in_ok-is_free_number.field-0) same (c.in_ok-is_free_number.ensures.free now) in
    let all = one_taken pairs c.args.private (codes "iNode") c.args.low c.loop-number.number (c.loop-number.invariant.taken tells)
    (is_taken pairs c.args.private (codes "iNode") c.loop-number.number c.in_ok-is_free_number.field-0 free c.if-branch.false) in
    λ number within fits. all number within (omega (arith, fits, c.loop-number.auto.number, c.loop-number.auto.number-end, c.loop-number-test.true))

pub returns-then-branch-clause-reads : goal.returns-then-branch-clause-reads
returns-then-branch-clause-reads g c =
    reads_both c.args.tree.now c.loop-number.tree c.is_free_number.new.tree (g.P.SectorView.space c.args.space.now) (g.P.SectorView.space c.loop-number.space) (g.P.SectorView.space c.is_free_number.new.space) c.loop-number.invariant.reads c.is_free_number.ensures.reads

pub returns-then-branch-clause-below : goal.returns-then-branch-clause-below
returns-then-branch-clause-below g c = g.met.P.SectorView.follows_trans c.args.space.now c.loop-number.space c.is_free_number.new.space c.loop-number.invariant.below c.is_free_number.ensures.below

pub returns-in_err-is_free_number-clause-reads : goal.returns-in_err-is_free_number-clause-reads
returns-in_err-is_free_number-clause-reads g c =
    reads_both c.args.tree.now c.loop-number.tree c.is_free_number.new.tree (g.P.SectorView.space c.args.space.now) (g.P.SectorView.space c.loop-number.space) (g.P.SectorView.space c.is_free_number.new.space) c.loop-number.invariant.reads c.is_free_number.ensures.reads

pub returns-in_err-is_free_number-clause-below : goal.returns-in_err-is_free_number-clause-below
returns-in_err-is_free_number-clause-below g c = g.met.P.SectorView.follows_trans c.args.space.now c.loop-number.space c.is_free_number.new.space c.loop-number.invariant.below c.is_free_number.ensures.below

pub loop-number-preserved : goal.loop-number-preserved
loop-number-preserved g c = record {
  taken = λ tells.
      let pairs = pairs_in (sectors_of_tree c.args.tree.now) (g.P.SectorView.space c.args.space.now).content in
      let same = pairs_read c.args.tree.now c.loop-number.tree (g.P.SectorView.space c.args.space.now) (g.P.SectorView.space c.loop-number.space) tells c.loop-number.invariant.reads in
      let now = c.loop-number.invariant.reads.looks.same.tells ∙ tells in
      let free = subst (λ (l : List Pair). TellsFree l c.args.private (codes "iNode") c.loop-number.number c.in_ok-is_free_number.field-0) same (c.in_ok-is_free_number.ensures.free now) in
      one_taken pairs c.args.private (codes "iNode") c.args.low c.loop-number.number (c.loop-number.invariant.taken tells)
      (is_taken pairs c.args.private (codes "iNode") c.loop-number.number c.in_ok-is_free_number.field-0 free c.if-branch.false);
  within = omega (arith, c.loop-number.invariant.within);
  over = c.is_free_number.ensures.over;
  reads = reads_both c.args.tree.now c.loop-number.tree c.is_free_number.new.tree (g.P.SectorView.space c.args.space.now) (g.P.SectorView.space c.loop-number.space) (g.P.SectorView.space c.is_free_number.new.space) c.loop-number.invariant.reads c.is_free_number.ensures.reads;
  below = g.met.P.SectorView.follows_trans c.args.space.now c.loop-number.space c.is_free_number.new.space c.loop-number.invariant.below c.is_free_number.ensures.below;
}
