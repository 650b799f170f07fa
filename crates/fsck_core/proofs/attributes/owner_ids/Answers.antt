use Rattle.std.proofs.Common.{◌+◌, if◌then◌else◌, sym, ◌∙◌, ap, arith}
use Rattle.std.proofs.lemmas.List.{take_all}
use Rattle.fsck_core.specs.Rows.{no_row, row_at}
use Rattle.fsck_core.specs.Attributes.{owner_here, owner_count}
use Rattle.fsck_core.proofs.NumberLaws.{counted_more}
use Rattle.fsck_core.proofs.attributes.owner_ids.Goals as goal

pub loop-row-preserved : goal.loop-row-preserved
loop-row-preserved c = record {
  same = λ id. c.in_ok-add_owner.ensures id ∙ ap (λ n. n + (if owner_here id (row_at c.args.rows.now c.loop-row.row-index) then 1 else 0)) (c.loop-row.invariant.same id)
      ∙ sym (counted_more (owner_here id) c.args.rows.now c.loop-row.row-index no_row c.loop-row-test.true);
}

pub returns-clause-order : goal.returns-clause-order
returns-clause-order c = c.sort_numbers.ensures.order

pub returns-clause-same : goal.returns-clause-same
returns-clause-same c id =
    c.sort_numbers.ensures.same id ∙ c.loop-row.invariant.same id ∙ ap (λ l. owner_count l id) (take_all c.loop-row.row-index c.args.rows.now (omega (arith, c.loop-row-test.false)))
