use Rattle.std.proofs.Common.{◌≡◌, ◌+◌, ◌-◌, ◌↔◌, ℕ, List, length, inr, ◌∙◌, ap, subst, arith, IsTrue}
use Rattle.btree_node.specs.Levels.{Pair}
use Rattle.fsck_core.specs.Attributes.{HasFirstFork, IsBrokenValue, attribute_at}
use Rattle.fsck_core.proofs.DecidedLaws.{adds_two}
use Rattle.fsck_core.proofs.RecordJudged.{records_none, records_more, records_all}
use Rattle.fsck_core.proofs.attributes.judge_records.Goals as goal
use Rattle.fsck_core.proofs.NamedLaws.{named_more, named_all}

pub loop-at-init : goal.loop-at-init
loop-at-init c = record {
  most = omega arith;
  forked = λ keyed some. absurd (omega (arith, some));
  judged = λ volume are own. records_none volume c.args.out.now;
  named = λ volume are own. inr (λ k less. absurd (omega (arith, less)));
}

pub loop-at-preserved : goal.loop-at-preserved
loop-at-preserved c =
    let pairs : List Pair = c.args.attributes.now in
    let at : ℕ = c.loop-at.at in
    record {
      most = omega (arith, c.loop-at-test.true, c.len-at-end.ensures);
      forked = λ keyed some.
          let is : at ≡ at + 1 - 1 = omega arith in
          subst (λ n. IsTrue c.in_ok-forked.forked ↔ HasFirstFork pairs (attribute_at pairs n)) is (c.in_ok-forked.ensures keyed (c.loop-at.invariant.forked keyed));
      judged = λ volume are own. records_more volume at c.args.out.now c.loop-at.out c.judge_record.new.out c.in_ok-one.one c.loop-at.met c.both-met.result c.both-met.ensures (c.loop-at.invariant.judged volume are own)
          (c.in_ok-one.ensures.judged volume are own (c.in_ok-forked.ensures are.keyed (c.loop-at.invariant.forked are.keyed)));
      named = λ volume are own.
          let judged = c.in_ok-one.ensures.judged volume are own (c.in_ok-forked.ensures are.keyed (c.loop-at.invariant.forked are.keyed)) in
          named_more volume at c.loop-at.out c.judge_record.new.out judged.still (c.loop-at.invariant.named volume are own) (c.in_ok-one.ensures.named volume are own (c.in_ok-forked.ensures are.keyed (c.loop-at.invariant.forked are.keyed)));
    }

pub returns-in_err-forked-clause-each : goal.returns-in_err-forked-clause-each
returns-in_err-forked-clause-each c volume are own = (c.loop-at.invariant.judged volume are own).each

pub returns-in_err-one-clause-each : goal.returns-in_err-one-clause-each
returns-in_err-one-clause-each c volume are own =
    adds_two (IsBrokenValue volume) c.args.out.now c.loop-at.out c.judge_record.new.out (c.loop-at.invariant.judged volume are own).each
    (c.judge_record.ensures.each volume are own (c.in_ok-forked.ensures are.keyed (c.loop-at.invariant.forked are.keyed)))

pub returns-clause-judged : goal.returns-clause-judged
returns-clause-judged c volume are own =
    let last : c.loop-at.at ≡ length c.args.attributes.now = omega (arith, c.loop-at-test.false, c.len-at-end.ensures, c.loop-at.invariant.most) in
    records_all volume c.loop-at.at c.args.out.now c.loop-at.out c.loop-at.met (last ∙ ap (λ (l : List Pair). length l) are.pairs_are) (c.loop-at.invariant.judged volume are own)

pub returns-clause-each : goal.returns-clause-each
returns-clause-each c volume are own = (c.loop-at.invariant.judged volume are own).each

pub returns-clause-named : goal.returns-clause-named
returns-clause-named c volume are own =
    let last : c.loop-at.at ≡ length c.args.attributes.now = omega (arith, c.loop-at-test.false, c.len-at-end.ensures, c.loop-at.invariant.most) in
    named_all volume c.loop-at.at c.loop-at.out (last ∙ ap (λ (l : List Pair). length l) are.pairs_are) (c.loop-at.invariant.named volume are own)
