use Rattle.std.proofs.Common.{◌+◌, if◌then◌else◌, sym, ◌∙◌, ap, arith}
use Rattle.std.proofs.lemmas.List.{take_all}
use Rattle.fsck_core.specs.Rows.{no_row, row_at}
use Rattle.fsck_core.specs.Links.{links_here, link_count}
use Rattle.fsck_core.proofs.NumberLaws.{counted_more}
use Rattle.fsck_core.proofs.links.link_numbers.Goals as goal

pub loop-row-preserved : goal.loop-row-preserved
loop-row-preserved c = record {
  same = λ number. c.in_ok-add_link.ensures number ∙ ap (λ n. n + (if links_here number (row_at c.args.rows.now c.loop-row.row-index) then 1 else 0)) (c.loop-row.invariant.same number)
      ∙ sym (counted_more (links_here number) c.args.rows.now c.loop-row.row-index no_row c.loop-row-test.true);
}

pub returns-clause-order : goal.returns-clause-order
returns-clause-order c = c.sort_numbers.ensures.order

pub returns-clause-same : goal.returns-clause-same
returns-clause-same c number =
    c.sort_numbers.ensures.same number ∙ c.loop-row.invariant.same number ∙ ap (λ l. link_count l number) (take_all c.loop-row.row-index c.args.rows.now (omega (arith, c.loop-row-test.false)))
