use Rattle.std.proofs.Common.{rules, of_calls, nat_lt}
use Rattle.std.proofs.lemmas.Fn.{always_returns_same}
use Rattle.fsck_core.proofs.RowLaws.{still_below}
use Rattle.std.specs.Prelude.{slice_index_or}
use Rattle.fsck_core.proofs.numbers.numbers_below.Goals as goal

pub returns-clause-point : goal.returns-clause-point
returns-clause-point c rises =
    c.partition_point.ensures.partitioned (λ n. nat_lt n c.args.number) (always_returns_same _ _ _ (λ a r f k. search (rules, of_calls)))
    (λ i j d most inside up. still_below (slice_index_or c.args.numbers.now i d) (slice_index_or c.args.numbers.now j d) c.args.number (rises i j d most inside) up)
