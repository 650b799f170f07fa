use Rattle.std.proofs.Common.{List, ◌∙◌, ap, sym, subst}
use Rattle.fsck_core.specs.Attributes.{HasAttributes}
use Rattle.fsck_core.specs.Overflows.{overflows_in}
use Rattle.fsck_core.specs.declared.overflow.OverflowRow.{OverflowRow}
use Rattle.fsck_core.proofs.Limits.{some_size}
use Rattle.fsck_core.proofs.JudgingLaws.{sizes_passed, links_passed, attributes_passed, names_passed, rows_there, attributes_there}
use Rattle.fsck_core.proofs.judging.judge_sizes_and_names.Goals as goal
use Rattle.fsck_core.proofs.TellingLaws.{sizes_tell}

pub returns-clause-passed : goal.returns-clause-passed
returns-clause-passed c volume are entries owned goes_on =
    let rows = rows_there volume c.args.lists.now c.args.rows.now are entries goes_on in
    let overflow = ap (λ (l : List OverflowRow). overflows_in l) c.deref.ensures.value ∙ are.overflow in
    let others = subst (λ (l : List OverflowRow). HasAttributes volume c.args.lists.now.head c.args.lists.now.info (overflows_in l) c.args.lists.now.attributes) (sym c.deref-2.ensures.value) (attributes_there volume c.args.lists.now are (some_size c.args.lists.now.sectors c.args.lists.now.head c.requires.good)) in
    names_passed volume c.args.out.now c.judge_forks.new.out c.judge_links.new.out c.judge_attributes.new.out
    (sizes_passed volume c.args.out.now c.judge_forks.new.out _ (c.in_ok-judge_forks.ensures.met volume are.head overflow owned goes_on) (c.in_ok-judge_forks.ensures.judged volume are.head overflow owned goes_on))
    (links_passed volume c.judge_forks.new.out c.judge_links.new.out _ (c.in_ok-judge_links.ensures.decided volume rows))
    (attributes_passed volume c.judge_links.new.out c.judge_attributes.new.out _ (c.in_ok-judge_attributes.ensures.decided volume rows others))

pub returns-clause-rules : goal.returns-clause-rules
returns-clause-rules c volume are entries owned goes_on =
    let rows = rows_there volume c.args.lists.now c.args.rows.now are entries goes_on in
    let overflow = ap (λ (l : List OverflowRow). overflows_in l) c.deref.ensures.value ∙ are.overflow in
    let others = subst (λ (l : List OverflowRow). HasAttributes volume c.args.lists.now.head c.args.lists.now.info (overflows_in l) c.args.lists.now.attributes) (sym c.deref-2.ensures.value) (attributes_there volume c.args.lists.now are (some_size c.args.lists.now.sectors c.args.lists.now.head c.requires.good)) in
    sizes_tell volume c.args.out.now c.judge_forks.new.out c.judge_links.new.out c.judge_attributes.new.out _ _ _ (c.in_ok-judge_forks.ensures.judged volume are.head overflow owned goes_on) (c.in_ok-judge_links.ensures.decided volume rows)
    (c.in_ok-judge_attributes.ensures.decided volume rows others) (c.in_ok-judge_attributes.ensures.rules volume rows others)
