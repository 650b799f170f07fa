use Rattle.std.proofs.Common.{sym, subst, arith}
use Rattle.std.specs.Prelude.{IfSome, Option}
use Rattle.fork_map.specs.Blocks.{blocks_of}
use Rattle.file_io.proofs.CutLaws.{numbers_used}
use Rattle.volume_space.specs.Cutting.{IsSplit}
use Rattle.volume_base.specs.declared.cutting.Cut.{Cut}
use Rattle.volume_space.proofs.CutCalls.{few_blocks, last_cut}
use Rattle.volume_space.proofs.cutting.cut_last.Goals as goal

pub split_last-requires : goal.split_last-requires
split_last-requires c = record { numbers = numbers_used c.args.volume.now.map (blocks_of c.args.list.now) c.total-total.result (sym c.total-total.ensures) (omega arith) c.requires.used }

pub returns-clause-cut : goal.returns-clause-cut
returns-clause-cut c = last_cut c.args.keep c.count_last-count.result c.args.list.now c.in-Some.cut (c.count_last-count.ensures.least c.requires.more) c.count_last-count.ensures.near (subst (λ (o : Option Cut). IfSome o (λ cut. IsSplit c.count_last-count.result c.args.list.now cut)) c.in-Some.is c.in_ok-found.ensures.split)

pub returns-clause-gives : goal.returns-clause-gives
returns-clause-gives c = c.may_give.ensures c.if-not-may_give.false (few_blocks c.args.keep c.count_last-count.result c.args.list.now c.in-Some.cut c.count_last-count.ensures.most (c.count_last-count.ensures.least c.requires.more) (subst (λ (o : Option Cut). IfSome o (λ cut. IsSplit c.count_last-count.result c.args.list.now cut)) c.in-Some.is c.in_ok-found.ensures.split))
