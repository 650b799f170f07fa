use Rattle.std.proofs.Common.{ℕ, Bool, List, length, inl, refl, sym, ◌∙◌, subst, arith, T}
use Rattle.fsck_core.specs.Rows.{row_at}
use Rattle.hfs_volume.specs.Broken.{IsFailed}
use Rattle.fsck_core.specs.Parents.{is_reached, marked, FailsReach}
use Rattle.fsck_core.specs.declared.rows.Row.{Row}
use Rattle.fsck_core.proofs.ToldLaws.{told_two, told_unless, stays_both}
use Rattle.fsck_core.proofs.ParentLaws.{all_more, one_missed, all_tell, row_adds}
use Rattle.fsck_core.proofs.parents.judge_rows.Goals as goal

pub loop-at-init : goal.loop-at-init
loop-at-init c = record {
  met = λ is k less. absurd (omega (arith, less));
  unmet = λ is. absurd (subst T is tt);
  found = λ is. absurd (subst T is tt);
  still = λ f listed. listed;
  each = λ finding stands. inl stands;
}

pub loop-at-preserved : goal.loop-at-preserved
loop-at-preserved c =
    let rows : List Row = c.args.rows.now in
    let marks : List Bool = c.args.marks.now in
    let test : ℕ → Bool = λ k. is_reached (row_at rows k) (marked marks k) in
    let at : ℕ = c.loop-at.at in
    record {
      met = all_more test at c.in_ok-one.one c.loop-at.met c.both-met.result c.both-met.ensures c.in_ok-one.ensures.met c.loop-at.invariant.met;
      unmet = one_missed test (length rows) at c.in_ok-one.one c.loop-at.met c.both-met.result c.loop-at-test.true c.both-met.ensures c.in_ok-one.ensures.met c.loop-at.invariant.unmet;
      found = told_two (λ f. IsFailed 10 f (FailsReach rows marks)) c.loop-at.met c.in_ok-one.one c.both-met.result c.loop-at.out c.judge_row.new.out c.both-met.ensures
          (λ this. told_unless 10 (FailsReach rows marks) (row_at rows at).id c.judge_row.new.out (at, c.loop-at-test.true, refl, sym c.in_ok-one.ensures.met ∙ this) (c.in_ok-one.ensures.found this)) c.loop-at.invariant.found c.judge_row.ensures.still;
      still = stays_both c.args.out.now c.loop-at.out c.judge_row.new.out c.loop-at.invariant.still c.judge_row.ensures.still;
      each = row_adds rows marks at c.args.out.now c.loop-at.out c.judge_row.new.out c.loop-at-test.true c.loop-at.invariant.each c.in_ok-one.ensures.each;
    }

pub returns-in_err-one-clause-still : goal.returns-in_err-one-clause-still
returns-in_err-one-clause-still c = stays_both c.args.out.now c.loop-at.out c.judge_row.new.out c.loop-at.invariant.still c.judge_row.ensures.still

pub returns-in_err-one-clause-each : goal.returns-in_err-one-clause-each
returns-in_err-one-clause-each c =
    row_adds c.args.rows.now c.args.marks.now c.loop-at.at c.args.out.now c.loop-at.out c.judge_row.new.out c.loop-at-test.true c.loop-at.invariant.each c.judge_row.ensures.each

pub returns-clause-met : goal.returns-clause-met
returns-clause-met c =
    all_tell (λ k. is_reached (row_at c.args.rows.now k) (marked c.args.marks.now k)) (length c.args.rows.now) c.loop-at.at c.loop-at.met (omega (arith, c.loop-at-test.false)) c.loop-at.invariant.met c.loop-at.invariant.unmet
