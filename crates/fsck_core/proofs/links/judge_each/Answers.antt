use Rattle.std.proofs.Common.{ℕ, List, length, refl, arith}
use Rattle.fsck_core.specs.Rows.{row_at}
use Rattle.fsck_core.specs.Links.{fine_at}
use Rattle.fsck_core.specs.declared.rows.Row.{Row}
use Rattle.fsck_core.proofs.DecidedLaws.{missed_none, missed_adds, missed_more, missed_all}
use Rattle.fsck_core.proofs.links.judge_each.Goals as goal

pub loop-at-init : goal.loop-at-init
loop-at-init c = record {
  most = omega arith;
  decided = λ rises. missed_none 19 (fine_at c.args.rows.now c.args.hidden.now c.args.shared.now) (λ k. (row_at c.args.rows.now k).id) (length c.args.rows.now) c.args.out.now;
}

pub loop-at-preserved : goal.loop-at-preserved
loop-at-preserved c =
    let rows : List Row = c.args.rows.now in
    let at : ℕ = c.loop-at.at in
    record {
      most = omega (arith, c.loop-at-test.true);
      decided = λ rises. missed_more 19 (fine_at rows c.args.hidden.now c.args.shared.now) (λ k. (row_at rows k).id) (length rows) at c.is_fine-fine.result c.in_ok-one.one c.loop-at.met c.both-met.result (row_at rows at).id
          c.args.out.now c.loop-at.out c.add_unless.new.out c.loop-at-test.true (c.is_fine-fine.ensures rises) refl c.both-met.ensures (c.loop-at.invariant.decided rises)
          c.in_ok-one.ensures.met c.in_ok-one.ensures.found c.in_ok-one.ensures.still c.in_ok-one.ensures.each;
    }

pub returns-in_err-one-clause-each : goal.returns-in_err-one-clause-each
returns-in_err-one-clause-each c rises =
    missed_adds 19 (fine_at c.args.rows.now c.args.hidden.now c.args.shared.now) (λ k. (row_at c.args.rows.now k).id) (length c.args.rows.now) c.loop-at.at c.is_fine-fine.result (row_at c.args.rows.now c.loop-at.at).id
    c.args.out.now c.loop-at.out c.add_unless.new.out c.loop-at-test.true (c.is_fine-fine.ensures rises) refl (c.loop-at.invariant.decided rises).each c.add_unless.ensures.each

pub returns-clause-decided : goal.returns-clause-decided
returns-clause-decided c rises =
    missed_all 19 (fine_at c.args.rows.now c.args.hidden.now c.args.shared.now) (λ k. (row_at c.args.rows.now k).id) (length c.args.rows.now) c.loop-at.at c.args.out.now c.loop-at.out c.loop-at.met
    (omega (arith, c.loop-at-test.false)) c.loop-at.invariant.most (c.loop-at.invariant.decided rises)

pub returns-clause-each : goal.returns-clause-each
returns-clause-each c rises = (returns-clause-decided c rises).each
