use Rattle.std.proofs.Common.{◌++◌, List, ◌∙◌, ap, arith}
use Rattle.std.specs.List.{flat_map}
use Rattle.std.proofs.lemmas.List.{take_all}
use Rattle.fsck_core.specs.UsedExtents.{bad_in}
use Rattle.fsck_core.specs.declared.overflow.OverflowRow.{OverflowRow}
use Rattle.fsck_core.proofs.UsedLists.{no_overflow, bad_more}
use Rattle.fsck_core.proofs.used.add_bad.Goals as goal

pub loop-row-preserved : goal.loop-row-preserved
loop-row-preserved c = record {
  list = bad_more c.args.rows.now c.loop-row.row-index no_overflow c.args.list.now c.loop-row.list c.add_bad_row.new.list c.loop-row-test.true c.loop-row.invariant.list c.in_ok-add_bad_row.ensures;
}

pub returns : goal.returns
returns c = c.loop-row.invariant.list ∙ ap (λ (l : List OverflowRow). c.args.list.now ++ flat_map bad_in l) (take_all c.loop-row.row-index c.args.rows.now (omega (arith, c.loop-row-test.false)))
