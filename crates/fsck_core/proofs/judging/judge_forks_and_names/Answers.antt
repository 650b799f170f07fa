use Rattle.std.proofs.Common.{List, ◌∙◌, ap}
use Rattle.fsck_core.specs.declared.overflow.OverflowRow.{OverflowRow}
use Rattle.fsck_core.specs.Overflows.{overflows_in}
use Rattle.fsck_core.specs.Owners.{owned_all}
use Rattle.hfs_volume.specs.Blocks.{forks_of}
use Rattle.hfs_volume.specs.Content.{overflow_in_volume}
use Rattle.fsck_core.specs.Passed.{Passed, IsBrokenList, HaveForks, HaveSizes, HaveNames}
use Rattle.fsck_core.proofs.WantLaws.{ok_map}
use Rattle.fsck_core.proofs.Joining.{passed_over}
use Rattle.fsck_core.proofs.ToldLaws.{told_some}
use Rattle.fsck_core.proofs.JudgingLaws.{GoOnAll, overflow_passed, overflow_goes_on, forks_passed}
use Rattle.fsck_core.proofs.judging.judge_forks_and_names.Goals as goal
use Rattle.fsck_core.specs.Telling.{TellsSizes, TellsNames}
use Rattle.fsck_core.proofs.TellingLaws.{names_stopped, names_tell}
use Rattle.hfs_volume.specs.Broken.{IsFailed}
use Rattle.fsck_core.specs.Owned.{FailsIn}

pub returns-then-not-goes_on-clause-passed : goal.returns-then-not-goes_on-clause-passed
returns-then-not-goes_on-clause-passed c volume are entries owned =
    passed_over (IsBrokenList volume) (GoOnAll (forks_of volume) (overflow_in_volume volume)) (HaveForks volume × HaveNames volume) c.args.out.now c.judge_overflow.new.out
    (told_some (λ f. IsFailed 17 f (FailsIn (owned_all c.args.forks.now) (overflows_in c.deref.result.now))) c.judge_overflow.new.out (c.in_ok-goes_on.ensures.tested.found c.if-not-goes_on.true))
    (overflow_passed volume (owned_all c.args.forks.now) (overflows_in c.deref.result.now) c.args.out.now c.judge_overflow.new.out c.in_ok-goes_on.goes_on (ap (λ (l : List OverflowRow). overflows_in l) c.deref.ensures.value ∙ are.overflow) owned c.in_ok-goes_on.ensures.tested)

pub returns-clause-passed : goal.returns-clause-passed
returns-clause-passed c volume are entries owned =
    ok_map c.judge_sizes_and_names.result (λ _. Passed (IsBrokenList volume) (HaveSizes volume × HaveNames volume) c.judge_overflow.new.out c.judge_sizes_and_names.new.out) (λ _. Passed (IsBrokenList volume) (HaveForks volume × HaveNames volume) c.args.out.now c.judge_sizes_and_names.new.out)
    (λ _ rest. forks_passed volume c.args.out.now c.judge_overflow.new.out c.judge_sizes_and_names.new.out
    (overflow_passed volume (owned_all c.args.forks.now) (overflows_in c.deref.result.now) c.args.out.now c.judge_overflow.new.out c.in_ok-goes_on.goes_on (ap (λ (l : List OverflowRow). overflows_in l) c.deref.ensures.value ∙ are.overflow) owned c.in_ok-goes_on.ensures.tested) rest)
    (c.judge_sizes_and_names.ensures.passed volume are entries owned (overflow_goes_on volume (owned_all c.args.forks.now) (overflows_in c.deref.result.now) c.args.out.now c.judge_overflow.new.out c.in_ok-goes_on.goes_on (ap (λ (l : List OverflowRow). overflows_in l) c.deref.ensures.value ∙ are.overflow) owned c.in_ok-goes_on.ensures.tested c.if-not-goes_on.false))

pub returns-then-not-goes_on-clause-rules : goal.returns-then-not-goes_on-clause-rules
returns-then-not-goes_on-clause-rules c volume are entries owned =
    names_stopped volume (owned_all c.args.forks.now) (overflows_in c.deref.result.now) c.args.out.now c.judge_overflow.new.out c.in_ok-goes_on.goes_on (ap (λ (l : List OverflowRow). overflows_in l) c.deref.ensures.value ∙ are.overflow) owned c.in_ok-goes_on.ensures.tested c.if-not-goes_on.true

pub returns-clause-rules : goal.returns-clause-rules
returns-clause-rules c volume are entries owned =
    let rows = ap (λ (l : List OverflowRow). overflows_in l) c.deref.ensures.value ∙ are.overflow in
    ok_map c.judge_sizes_and_names.result (λ _. TellsSizes volume c.judge_overflow.new.out c.judge_sizes_and_names.new.out) (λ _. TellsNames volume c.args.out.now c.judge_sizes_and_names.new.out)
    (λ _ rest. names_tell volume (owned_all c.args.forks.now) (overflows_in c.deref.result.now) c.args.out.now c.judge_overflow.new.out c.judge_sizes_and_names.new.out c.in_ok-goes_on.goes_on rows owned c.in_ok-goes_on.ensures.tested rest)
    (c.judge_sizes_and_names.ensures.rules volume are entries owned (overflow_goes_on volume (owned_all c.args.forks.now) (overflows_in c.deref.result.now) c.args.out.now c.judge_overflow.new.out c.in_ok-goes_on.goes_on rows owned c.in_ok-goes_on.ensures.tested c.if-not-goes_on.false))
