use Rattle.std.proofs.Common.{◌≡◌, false, subst}
use Rattle.std.specs.Prelude.{IfOk}
use Rattle.fsck_list.specs.Kept.{IsListed}
use Rattle.fsck_core.proofs.DecidedLaws.{Unless}
use Rattle.fsck_core.proofs.threads.judge_mark.Goals as goal

pub returns-clause-each : goal.returns-clause-each
returns-clause-each c long = subst (λ n. Unless 9 c.args.mark n c.args.out.now c.add_unless.new.out) (c.place_of.ensures long) c.add_unless.ensures.each

pub returns-clause-found : goal.returns-clause-found
returns-clause-found c long =
    subst (λ n. IfOk c.add_unless.result (λ met. met ≡ false → IsListed c.add_unless.new.out (record { rule = 9; place = n; found = 0; wanted = 1 }))) (c.place_of.ensures long) c.add_unless.ensures.found
