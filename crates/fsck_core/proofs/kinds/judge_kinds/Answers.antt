use Rattle.std.proofs.Common.{◌↔◌, ℕ, List, inl, subst, arith, T}
use Rattle.std.specs.Prelude.{IsTrue}
use Rattle.btree_node.specs.Levels.{Pair}
use Rattle.fsck_core.specs.Kinds.{IsOfKind}
use Rattle.fsck_core.proofs.KindLaws.{pair_at, kinds_more, kind_missed, found_more, kinds_tell, each_kind}
use Rattle.fsck_core.proofs.kinds.judge_kinds.Goals as goal

pub loop-i-init : goal.loop-i-init
loop-i-init c = record {
  met = λ is k less. absurd (omega (arith, less));
  unmet = λ is. absurd (subst T is tt);
  found = λ is. absurd (subst T is tt);
  each = λ long finding stands. inl stands;
}

pub loop-i-preserved : goal.loop-i-preserved
loop-i-preserved c =
    let pairs : List Pair = c.args.pairs.now in
    let k : ℕ = c.loop-i.i in
    let here : IsTrue c.in_ok-one.one ↔ IsOfKind (pair_at pairs k) = subst (λ (p : Pair). IsTrue c.in_ok-one.one ↔ IsOfKind p) (λ i. (c.key.ensures i, c.value.ensures i)) c.in_ok-one.ensures.met in
    record {
      met = kinds_more pairs k c.in_ok-one.one c.loop-i.met c.both-met.result c.both-met.ensures here c.loop-i.invariant.met;
      unmet = kind_missed pairs k c.in_ok-one.one c.loop-i.met c.both-met.result (omega (arith, c.loop-i-test.true, c.len-i-end.ensures)) c.both-met.ensures here c.loop-i.invariant.unmet;
      found = found_more c.in_ok-one.one c.loop-i.met c.both-met.result c.loop-i.out c.judge_kind.new.out c.both-met.ensures c.in_ok-one.ensures.found c.loop-i.invariant.found c.in_ok-one.ensures.still;
      each = λ long. each_kind pairs k c.key.result.now c.value.result.now c.args.out.now c.loop-i.out c.judge_kind.new.out (omega (arith, c.loop-i-test.true, c.len-i-end.ensures)) (λ i. (c.key.ensures i, c.value.ensures i)) long (c.loop-i.invariant.each long) c.in_ok-one.ensures.each;
    }

pub returns-in_err-one-clause-each : goal.returns-in_err-one-clause-each
returns-in_err-one-clause-each c long =
    each_kind c.args.pairs.now c.loop-i.i c.key.result.now c.value.result.now c.args.out.now c.loop-i.out c.judge_kind.new.out (omega (arith, c.loop-i-test.true, c.len-i-end.ensures)) (λ i. (c.key.ensures i, c.value.ensures i)) long (c.loop-i.invariant.each long) c.judge_kind.ensures.each

pub returns-clause-met : goal.returns-clause-met
returns-clause-met c = kinds_tell c.args.pairs.now c.loop-i.i c.loop-i.met (omega (arith, c.loop-i-test.false, c.len-i-end.ensures)) c.loop-i.invariant.met c.loop-i.invariant.unmet
