use Rattle.std.proofs.Common.{rules, of_calls, nat_lt}
use Rattle.std.proofs.lemmas.Fn.{always_returns_same}
use Rattle.fsck_core.proofs.RowLaws.{still_below}
use Rattle.fsck_repair.specs.declared.mend.Change.{Change}
use Rattle.std.specs.Prelude.{slice_index_or}
use Rattle.fsck_repair.proofs.overlay.changes_below.Goals as goal

pub returns-clause-point : goal.returns-clause-point
returns-clause-point c rises =
    c.partition_point.ensures.partitioned (λ (h : Change). nat_lt h.at c.args.at) (always_returns_same _ _ _ (λ a r f k. search (rules, of_calls)))
    (λ i j d most inside up. still_below (slice_index_or c.args.changes.now i d).at (slice_index_or c.args.changes.now j d).at c.args.at (rises i j d most inside) up)
