use Rattle.volume_base.specs.Cutting.{IsCutOf, IsLastCut}
use Rattle.volume_base.proofs.Seeing.{if_so}
use Rattle.volume_space.proofs.cutting.cut_of.Goals as goal

pub returns-clause-cut : goal.returns-clause-cut
returns-clause-cut c =
    if_so (λ cut. IsLastCut c.args.keep c.args.list.now cut) (λ cut. IsCutOf c.args.list.now c.args.fork.now c.args.keep cut) c.cut_last.result
    (λ cut last. record { blocks = c.are_so_many.ensures c.if-not-are_so_many.false; last = last }) c.cut_last.ensures.cut
