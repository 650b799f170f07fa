use Rattle.std.proofs.Common.{◌≡◌, List, inl, inr, ◌∙◌, subst}
use Rattle.std.specs.Prelude.{codes}
use Rattle.btree_node.specs.Levels.{Pair}
use Rattle.btree_file.specs.Standing.{pairs_in}
use Rattle.btree_file.specs.State.{sectors_of_tree}
use Rattle.hard_links.specs.Numbers.{FindsFree}
use Rattle.volume_base.proofs.Over.{pairs_read, reads_both}
use Rattle.volume_names.proofs.node_names.find_free_number.Goals as goal

pub returns-in-Some-clause-first : goal.returns-in-Some-clause-first
returns-in-Some-clause-first g c tells =
    inl (subst (FindsFree (pairs_in (sectors_of_tree c.args.tree.now) (g.P.SectorView.space c.args.space.now).content) c.args.private (codes "iNode") c.args.own) c.in-Some.is (c.in_ok-found.ensures.found tells))

pub returns-in-Some-again-clause-first : goal.returns-in-Some-again-clause-first
returns-in-Some-again-clause-first g c tells =
    let pairs : List Pair = pairs_in (sectors_of_tree c.args.tree.now) (g.P.SectorView.space c.args.space.now).content in
    let same = pairs_read c.args.tree.now c.free_number_from.new.tree (g.P.SectorView.space c.args.space.now) (g.P.SectorView.space c.free_number_from.new.space) tells c.free_number_from.ensures.reads in
    let now = c.free_number_from.ensures.reads.looks.same.tells ∙ tells in
    inr (
      subst (FindsFree pairs c.args.private (codes "iNode") c.args.own) c.in_default.is (c.in_ok-found.ensures.found tells),
      subst (FindsFree pairs c.args.private (codes "iNode") 1) c.in-Some-again.is (subst (λ (l : List Pair). FindsFree l c.args.private (codes "iNode") 1 c.in_ok-again.again) same (c.in_ok-again.ensures.found now)),
    )

pub returns-in-Some-again-clause-reads : goal.returns-in-Some-again-clause-reads
returns-in-Some-again-clause-reads g c =
    reads_both c.args.tree.now c.free_number_from.new.tree c.free_number_from-2.new.tree (g.P.SectorView.space c.args.space.now) (g.P.SectorView.space c.free_number_from.new.space) (g.P.SectorView.space c.free_number_from-2.new.space) c.free_number_from.ensures.reads c.free_number_from-2.ensures.reads

pub returns-clause-reads : goal.returns-clause-reads
returns-clause-reads g c =
    reads_both c.args.tree.now c.free_number_from.new.tree c.free_number_from-2.new.tree (g.P.SectorView.space c.args.space.now) (g.P.SectorView.space c.free_number_from.new.space) (g.P.SectorView.space c.free_number_from-2.new.space) c.free_number_from.ensures.reads c.free_number_from-2.ensures.reads

pub returns-in_err-again-clause-reads : goal.returns-in_err-again-clause-reads
returns-in_err-again-clause-reads g c =
    reads_both c.args.tree.now c.free_number_from.new.tree c.free_number_from-2.new.tree (g.P.SectorView.space c.args.space.now) (g.P.SectorView.space c.free_number_from.new.space) (g.P.SectorView.space c.free_number_from-2.new.space) c.free_number_from.ensures.reads c.free_number_from-2.ensures.reads
