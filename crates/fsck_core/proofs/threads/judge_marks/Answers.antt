use Rattle.std.proofs.Common.{◌<◌, ℕ, List, length, ap, arith, refl}
use Rattle.btree_node.specs.Levels.{Pair}
use Rattle.hfs_volume.specs.Records.{placed_of}
use Rattle.fsck_core.specs.Parents.{marked}
use Rattle.fsck_core.specs.Threads.{placed_at, place_of}
use Rattle.fsck_core.proofs.ThreadLaws.{key_long}
use Rattle.fsck_core.proofs.DecidedLaws.{missed_none, missed_adds, missed_more, missed_all}
use Rattle.fsck_core.proofs.threads.judge_marks.Goals as goal

pub returns-in_err-one-clause-each : goal.returns-in_err-one-clause-each
returns-in_err-one-clause-each c catalog =
    let pairs : List Pair = c.args.pairs.now in
    let at : ℕ = c.loop-at.at in
    let inside : at < length pairs = omega (arith, c.loop-at-test.true, c.len-at-end.ensures) in
    missed_adds 9 (marked c.args.marks.now) (λ k. place_of (placed_at pairs k)) (length pairs) at (marked c.args.marks.now at) (place_of (placed_of (c.key.result.now, c.value.result.now))) c.args.out.now c.loop-at.out c.judge_mark.new.out inside refl
    (ap (λ (p : Pair). place_of (placed_of p)) (λ i. (c.key.ensures i, c.value.ensures i))) (c.loop-at.invariant.decided catalog).each (c.judge_mark.ensures.each (key_long pairs at c.key.result.now catalog inside c.key.ensures))

pub loop-at-init : goal.loop-at-init
loop-at-init c = record {
  most = omega arith;
  decided = λ catalog. missed_none 9 (marked c.args.marks.now) (λ k. place_of (placed_at c.args.pairs.now k)) (length c.args.pairs.now) c.args.out.now;
}

pub loop-at-preserved : goal.loop-at-preserved
loop-at-preserved c =
    let pairs : List Pair = c.args.pairs.now in
    let at : ℕ = c.loop-at.at in
    let inside : at < length pairs = omega (arith, c.loop-at-test.true, c.len-at-end.ensures) in
    record {
      most = omega (arith, inside);
      decided = λ catalog. missed_more 9 (marked c.args.marks.now) (λ k. place_of (placed_at pairs k)) (length pairs) at (marked c.args.marks.now at) c.in_ok-one.one c.loop-at.met c.both-met.result (place_of (placed_of (c.key.result.now, c.value.result.now)))
          c.args.out.now c.loop-at.out c.judge_mark.new.out inside refl (ap (λ (p : Pair). place_of (placed_of p)) (λ i. (c.key.ensures i, c.value.ensures i))) c.both-met.ensures (c.loop-at.invariant.decided catalog)
          c.in_ok-one.ensures.met (c.in_ok-one.ensures.found (key_long pairs at c.key.result.now catalog inside c.key.ensures)) c.in_ok-one.ensures.still (c.in_ok-one.ensures.each (key_long pairs at c.key.result.now catalog inside c.key.ensures));
    }

pub returns-clause-decided : goal.returns-clause-decided
returns-clause-decided c catalog =
    missed_all 9 (marked c.args.marks.now) (λ k. place_of (placed_at c.args.pairs.now k)) (length c.args.pairs.now) c.loop-at.at c.args.out.now c.loop-at.out c.loop-at.met
    (omega (arith, c.loop-at-test.false, c.len-at-end.ensures)) c.loop-at.invariant.most (c.loop-at.invariant.decided catalog)

pub returns-clause-each : goal.returns-clause-each
returns-clause-each c catalog = (returns-clause-decided c catalog).each
