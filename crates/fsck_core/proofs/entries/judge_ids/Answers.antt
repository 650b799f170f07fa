use Rattle.std.proofs.Common.{List, subst, ap, arith, ◌∙◌}
use Rattle.std.specs.List.{flat_map}
use Rattle.hfs_volume.specs.Broken as broken
use Rattle.hfs_volume.specs.Broken.{id_wants}
use Rattle.fsck_core.specs.Judged.{Judged, AddsUnmet}
use Rattle.fsck_core.specs.Rows.{no_row, given_id}
use Rattle.fsck_core.proofs.JudgedLaws.{judged_none, judged_more, judged_all, judged_as, adds_more, adds_of}
use Rattle.fsck_core.proofs.RowLaws.{ids_are, given_wants, given_stands, others_met}
use Rattle.fsck_core.proofs.entries.judge_ids.Goals as goal

pub loop-row-init : goal.loop-row-init
loop-row-init c = record { judged = judged_none 15 c.args.out.now }

pub loop-row-preserved : goal.loop-row-preserved
loop-row-preserved c = record {
  judged = judged_more 15 (given_id c.args.next) c.args.rows.now c.loop-row.row-index no_row c.args.out.now c.loop-row.out c.judge_id.new.out c.loop-row.met c.in_ok-one.one c.both-met.result c.loop-row-test.true c.both-met.ensures
      c.loop-row.invariant.judged c.in_ok-one.ensures.judged;
}

pub returns-in_err-one-clause-each : goal.returns-in_err-one-clause-each
returns-in_err-one-clause-each c entries is once =
    adds_of 15 (flat_map (given_wants c.args.next) entries) (flat_map (id_wants c.args.next entries) entries) c.args.out.now c.judge_id.new.out (given_stands c.args.next entries)
    (subst (λ (l : List broken.Want). AddsUnmet 15 l c.args.out.now c.judge_id.new.out) (ap (flat_map (given_id c.args.next)) is ∙ ids_are c.args.next entries)
    (adds_more 15 (given_id c.args.next) c.args.rows.now c.loop-row.row-index no_row c.args.out.now c.loop-row.out c.judge_id.new.out c.loop-row-test.true c.loop-row.invariant.judged.each c.judge_id.ensures.each))

pub returns-clause-judged : goal.returns-clause-judged
returns-clause-judged c entries is once =
    judged_as 15 (flat_map (given_wants c.args.next) entries) (flat_map (id_wants c.args.next entries) entries) c.args.out.now c.loop-row.out c.loop-row.met (given_stands c.args.next entries) (others_met c.args.next entries once)
    (subst (λ (l : List broken.Want). Judged 15 l c.args.out.now c.loop-row.out c.loop-row.met) (ap (flat_map (given_id c.args.next)) is ∙ ids_are c.args.next entries)
    (judged_all 15 (given_id c.args.next) c.args.rows.now c.loop-row.row-index c.args.out.now c.loop-row.out c.loop-row.met (omega (arith, c.loop-row-test.false)) c.loop-row.invariant.judged))

pub returns-clause-each : goal.returns-clause-each
returns-clause-each c entries is once = (returns-clause-judged c entries is once).each
