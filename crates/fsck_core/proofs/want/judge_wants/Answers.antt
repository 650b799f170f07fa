use Rattle.std.proofs.Common.{◌≡◌, ◌<◌, ℕ, true, false, List, length, inl, arith}
use Rattle.fsck_core.specs.declared.want.Want.{Want}
use Rattle.fsck_core.proofs.WantLaws.{met_more, unmet_more, listed_more, each_more, met_tells, listed_all, listed_unmet}
use Rattle.fsck_core.proofs.want.judge_wants.Goals as goal

pub loop-want-init : goal.loop-want-init
loop-want-init c = record {
  met = λ is k less. absurd (omega (arith, less));
  unmet = λ is. absurd (never is);
  listed = λ k less. absurd (omega (arith, less));
  still = λ finding listed. listed;
  each = λ finding stands. inl stands;
}
  where
    never : true ≡ false → ⊥
    never is = cc

pub loop-want-preserved : goal.loop-want-preserved
loop-want-preserved c =
    let ws : List Want = c.args.wants.now in
    let k : ℕ = c.loop-want.want-index in
    let inside : k < length ws = c.loop-want-test.true in
    record {
      met = met_more ws k c.in_ok-one.one c.loop-want.met c.in_ok-one.ensures.met c.loop-want.invariant.met c.both-met.result c.both-met.ensures;
      unmet = unmet_more ws k c.in_ok-one.one c.loop-want.met inside c.in_ok-one.ensures.met c.loop-want.invariant.unmet c.both-met.result c.both-met.ensures;
      listed = listed_more c.args.rule ws k c.loop-want.out c.judge_want.new.out c.loop-want.invariant.listed c.in_ok-one.ensures.still c.in_ok-one.ensures.listed;
      still = λ finding listed. c.in_ok-one.ensures.still finding (c.loop-want.invariant.still finding listed);
      each = each_more c.args.rule ws k c.args.out.now c.loop-want.out c.judge_want.new.out inside c.loop-want.invariant.each c.judge_want.ensures.each;
    }

pub returns-in_err-one-clause-each : goal.returns-in_err-one-clause-each
returns-in_err-one-clause-each c =
    each_more c.args.rule c.args.wants.now c.loop-want.want-index c.args.out.now c.loop-want.out c.judge_want.new.out c.loop-want-test.true c.loop-want.invariant.each c.judge_want.ensures.each

pub returns-clause-met : goal.returns-clause-met
returns-clause-met c = met_tells c.args.wants.now c.loop-want.want-index c.loop-want.met (omega (arith, c.loop-want-test.false)) c.loop-want.invariant.met c.loop-want.invariant.unmet

pub returns-clause-listed : goal.returns-clause-listed
returns-clause-listed c =
    listed_unmet c.args.rule c.args.wants.now c.loop-want.out (listed_all c.args.rule c.args.wants.now c.loop-want.want-index c.loop-want.out (omega (arith, c.loop-want-test.false)) c.loop-want.invariant.listed)
