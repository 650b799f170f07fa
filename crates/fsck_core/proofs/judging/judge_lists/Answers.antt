use Rattle.std.proofs.Common.{◌≡◌, ◌<◌, List, [], length, sym, subst}
use Rattle.fsck_core.specs.declared.rows.Row.{Row}
use Rattle.fsck_core.specs.Lists.{HasEntries}
use Rattle.fsck_core.proofs.ListJoins.{at_none, at_some, some_empty}
use Rattle.fsck_core.proofs.JudgingLaws.{judged_early, judged_both}
use Rattle.fsck_core.proofs.judging.judge_lists.Goals as goal
use Rattle.btree_node.specs.Levels.{Pair}
use Rattle.fsck_core.specs.Telling.{TellsCatalog}
use Rattle.fsck_core.proofs.TellingLaws.{catalog_more}

pub returns-in_default : goal.returns-in_default
returns-in_default c volume are =
    judged_early volume c.args.lists.now.catalog c.judge_catalog.new.out are.catalog (c.in_ok-rows.ensures.rules are.keys are.sorted)
    (at_none c.in_ok-rows.field-0 (0 < length c.judge_catalog.new.out) (λ rows. HasEntries c.args.lists.now.catalog rows.items) c.in_default.is (c.in_ok-rows.ensures.found are.keys are.sorted))
    (c.in_ok-rows.ensures.each are.keys are.sorted)

pub returns : goal.returns
returns c volume are =
    let entries = subst (λ (l : List Row). HasEntries c.args.lists.now.catalog l) (sym c.deref.ensures.value) (at_some c.in_ok-rows.field-0 c.in-Some.rows (0 < length c.judge_catalog.new.out) (λ rows. HasEntries c.args.lists.now.catalog rows.items) c.in-Some.is (c.in_ok-rows.ensures.found are.keys are.sorted)) in
    let none = some_empty c.in_ok-rows.field-0 c.in-Some.rows (c.judge_catalog.new.out ≡ []) c.in-Some.is c.in_ok-rows.ensures.empty in
    judged_both volume c.judge_entries_and_forks.result c.judge_catalog.new.out c.judge_entries_and_forks.new.out none
    (subst (λ (l : List Pair). TellsCatalog l c.judge_entries_and_forks.new.out) are.catalog (catalog_more c.args.lists.now.catalog c.judge_catalog.new.out c.judge_entries_and_forks.new.out none (c.in_ok-rows.ensures.rules are.keys are.sorted)))
    (c.judge_entries_and_forks.ensures.passed volume are entries) (c.judge_entries_and_forks.ensures.listed volume are entries) (c.judge_entries_and_forks.ensures.rules volume are entries)
