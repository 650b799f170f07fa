use Rattle.std.proofs.Common.{[], arith}
use Rattle.fsck_core.specs.Overflows.{overflows_in}
use Rattle.fsck_core.specs.Owners.{owned_in, own_wants}
use Rattle.fsck_core.specs.declared.follow.OwnedFork.{OwnedFork}
use Rattle.fsck_core.proofs.JudgedLaws.{judged_none, judged_more, judged_all, adds_more}
use Rattle.fsck_core.proofs.forks.judge_own_forks.Goals as goal

pub loop-owned-init : goal.loop-owned-init
loop-owned-init c = record { judged = λ on. judged_none 16 c.args.out.now }

pub loop-owned-preserved : goal.loop-owned-preserved
loop-owned-preserved c = record {
  judged = λ on. judged_more 16 (λ (row : OwnedFork). own_wants c.args.head.now (overflows_in c.args.rows.now) (owned_in row)) c.args.forks.now c.loop-owned.owned-index (record { id = 0; kind = 0; fork = record { logical_size = 0; clump_size = 0; total_blocks = 0; extents = record { extents = [] } } }) c.args.out.now c.loop-owned.out c.judge_fork.new.out c.loop-owned.met c.in_ok-one.one c.both-met.result c.loop-owned-test.true c.both-met.ensures
      (c.loop-owned.invariant.judged on) (c.in_ok-one.ensures.judged (on c.loop-owned.owned-index (record { id = 0; kind = 0; fork = record { logical_size = 0; clump_size = 0; total_blocks = 0; extents = record { extents = [] } } }) c.loop-owned-test.true));
}

pub returns-in_err-one-clause-each : goal.returns-in_err-one-clause-each
returns-in_err-one-clause-each c on = adds_more 16 (λ (row : OwnedFork). own_wants c.args.head.now (overflows_in c.args.rows.now) (owned_in row)) c.args.forks.now c.loop-owned.owned-index (record { id = 0; kind = 0; fork = record { logical_size = 0; clump_size = 0; total_blocks = 0; extents = record { extents = [] } } }) c.args.out.now c.loop-owned.out c.judge_fork.new.out c.loop-owned-test.true (c.loop-owned.invariant.judged on).each (c.judge_fork.ensures.each (on c.loop-owned.owned-index (record { id = 0; kind = 0; fork = record { logical_size = 0; clump_size = 0; total_blocks = 0; extents = record { extents = [] } } }) c.loop-owned-test.true))

pub returns-clause-judged : goal.returns-clause-judged
returns-clause-judged c on = judged_all 16 (λ (row : OwnedFork). own_wants c.args.head.now (overflows_in c.args.rows.now) (owned_in row)) c.args.forks.now c.loop-owned.owned-index c.args.out.now c.loop-owned.out c.loop-owned.met (omega (arith, c.loop-owned-test.false)) (c.loop-owned.invariant.judged on)

pub returns-clause-each : goal.returns-clause-each
returns-clause-each c on = (returns-clause-judged c on).each
