use Rattle.fsck_core.proofs.WantLaws.{kept_each}
use Rattle.fsck_core.proofs.want.judge_want.Goals as goal

pub returns-clause-each : goal.returns-clause-each
returns-clause-each c = kept_each c.args.rule c.args.want c.args.out.now c.push.new.self c.in_ok-push.ensures.kept c.if-want.false
