use Rattle.std.proofs.Common.{rules, of_calls, nat_lt}
use Rattle.std.proofs.lemmas.Fn.{always_returns_same}
use Rattle.fsck_core.proofs.RowLaws.{still_below}
use Rattle.fsck_core.specs.declared.overflow.OverflowRow.{OverflowRow}
use Rattle.std.specs.Prelude.{slice_index_or}
use Rattle.fsck_core.proofs.stretch.rows_below.Goals as goal

pub returns-clause-point : goal.returns-clause-point
returns-clause-point c rises =
    c.partition_point.ensures.partitioned (λ (r : OverflowRow). nat_lt r.id c.args.id) (always_returns_same _ _ _ (λ a r f k. search (rules, of_calls)))
    (λ i j d most inside up. still_below (slice_index_or c.args.rows.now i d).id (slice_index_or c.args.rows.now j d).id c.args.id (rises i j d most inside) up)
