use Rattle.std.proofs.Common.{◌≡◌, List, subst, sym, arith}
use Rattle.std.specs.List.{flat_map}
use Rattle.hfs_volume.specs.Broken as broken
use Rattle.hfs_volume.specs.Broken.{valence_wants}
use Rattle.fsck_core.specs.Judged.{Judged, AddsUnmet}
use Rattle.fsck_core.specs.Rows.{rows_of, no_row, valence_of}
use Rattle.fsck_core.specs.declared.rows.Row.{Row}
use Rattle.fsck_core.proofs.JudgedLaws.{judged_none, judged_more, judged_all, adds_more}
use Rattle.fsck_core.proofs.RowLaws.{valences_are}
use Rattle.fsck_core.proofs.entries.judge_valences.Goals as goal

-- the numbers of rows, as those of their entries
numbers : (rows : List Row) (entries : _) → rows ≡ rows_of entries → flat_map (valence_of rows) rows ≡ flat_map (valence_wants entries) entries
numbers rows entries is = subst (λ (l : List Row). flat_map (valence_of l) l ≡ flat_map (valence_wants entries) entries) (sym is) (valences_are entries)

pub loop-row-init : goal.loop-row-init
loop-row-init c = record { judged = λ rises. judged_none 11 c.args.out.now }

pub loop-row-preserved : goal.loop-row-preserved
loop-row-preserved c = record {
  judged = λ rises. judged_more 11 (valence_of c.args.rows.now) c.args.rows.now c.loop-row.row-index no_row c.args.out.now c.loop-row.out c.judge_valence.new.out c.loop-row.met c.in_ok-one.one c.both-met.result c.loop-row-test.true c.both-met.ensures
      (c.loop-row.invariant.judged rises) (c.in_ok-one.ensures.judged rises);
}

pub returns-in_err-one-clause-each : goal.returns-in_err-one-clause-each
returns-in_err-one-clause-each c entries is rises =
    subst (λ (l : List broken.Want). AddsUnmet 11 l c.args.out.now c.judge_valence.new.out) (numbers c.args.rows.now entries is)
    (adds_more 11 (valence_of c.args.rows.now) c.args.rows.now c.loop-row.row-index no_row c.args.out.now c.loop-row.out c.judge_valence.new.out c.loop-row-test.true (c.loop-row.invariant.judged rises).each (c.judge_valence.ensures.each rises))

pub returns-clause-judged : goal.returns-clause-judged
returns-clause-judged c entries is rises =
    subst (λ (l : List broken.Want). Judged 11 l c.args.out.now c.loop-row.out c.loop-row.met) (numbers c.args.rows.now entries is)
    (judged_all 11 (valence_of c.args.rows.now) c.args.rows.now c.loop-row.row-index c.args.out.now c.loop-row.out c.loop-row.met (omega (arith, c.loop-row-test.false)) (c.loop-row.invariant.judged rises))

pub returns-clause-each : goal.returns-clause-each
returns-clause-each c entries is rises = (returns-clause-judged c entries is rises).each
