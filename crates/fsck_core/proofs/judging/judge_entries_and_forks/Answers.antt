use Rattle.std.proofs.Common.{List, ◌∙◌, ap}
use Rattle.volume_header.specs.declared.header.VolumeHeader.{VolumeHeader}
use Rattle.hfs_volume.specs.Content.{records_of}
use Rattle.hfs_volume.specs.Records.{entries_of}
use Rattle.fsck_core.specs.declared.follow.OwnedFork.{OwnedFork}
use Rattle.fsck_core.specs.Owners.{owned_all}
use Rattle.fsck_core.specs.Passed.{Passed, IsBrokenList, HaveCounts, KeepLists}
use Rattle.fsck_core.proofs.WantLaws.{ok_map}
use Rattle.fsck_core.proofs.JudgingLaws.{entries_there, forks_there, rows_rise, ids_once, ids_passed, lists_passed}
use Rattle.fsck_core.proofs.judging.judge_entries_and_forks.Goals as goal
use Rattle.fsck_core.specs.Decided.{StaysListed}
use Rattle.fsck_core.specs.Telling.{TellsForks}
use Rattle.fsck_core.proofs.TellingLaws.{forks_tell}

pub returns-clause-passed : goal.returns-clause-passed
returns-clause-passed c volume are entries =
    let lists = c.args.lists.now in
    let there = entries_there volume lists c.args.rows.now are entries in
    let forks = forks_there volume lists.head lists.catalog (owned_all c.in_ok-forks.forks.items) are.head are.catalog c.in_ok-forks.ensures in
    let owned = ap (λ (l : List OwnedFork). owned_all l) c.deref.ensures.value ∙ forks in
    let also = ap (λ (l : List OwnedFork). owned_all l) c.deref-2.ensures.value ∙ forks in
    let rise = rows_rise lists.catalog are.keys are.sorted c.args.rows.now entries.rows_are in
    ok_map c.judge_late.result (λ _. Passed (IsBrokenList volume) (HaveCounts volume) c.judge_ids.new.out c.judge_late.new.out) (λ _. Passed (IsBrokenList volume) (KeepLists volume) c.args.out.now c.judge_late.new.out)
    (λ _ late. lists_passed volume c.args.rows.now c.args.out.now c.judge_blocks_used.new.out c.judge_forks_and_names.new.out c.judge_ids.new.out c.judge_late.new.out there
    (c.in_ok-used.ensures.passed volume are owned) (c.in_ok-judge_forks_and_names.ensures.passed volume are entries also)
    (ids_passed volume lists.head.next_catalog_id c.judge_forks_and_names.new.out c.judge_ids.new.out _ (ap (λ (h : VolumeHeader). h.next_catalog_id) are.head) (c.in_ok-judge_ids.ensures.judged (entries_of (records_of volume)) there.rows_are (ids_once volume lists c.args.rows.now are entries))) late)
    (c.judge_late.ensures.passed volume are.head there.rows_are rise are.flags (c.in_ok-used.ensures.used volume are owned))

pub returns-clause-listed : goal.returns-clause-listed
returns-clause-listed c volume are entries =
    let lists = c.args.lists.now in
    let there = entries_there volume lists c.args.rows.now are entries in
    let forks = forks_there volume lists.head lists.catalog (owned_all c.in_ok-forks.forks.items) are.head are.catalog c.in_ok-forks.ensures in
    let owned = ap (λ (l : List OwnedFork). owned_all l) c.deref.ensures.value ∙ forks in
    let also = ap (λ (l : List OwnedFork). owned_all l) c.deref-2.ensures.value ∙ forks in
    let rise = rows_rise lists.catalog are.keys are.sorted c.args.rows.now entries.rows_are in
    c.judge_late.ensures.listed volume are.head there.rows_are rise are.flags (c.in_ok-used.ensures.used volume are owned)

pub returns-clause-rules : goal.returns-clause-rules
returns-clause-rules c volume are entries =
    let lists = c.args.lists.now in
    let there = entries_there volume lists c.args.rows.now are entries in
    let forks = forks_there volume lists.head lists.catalog (owned_all c.in_ok-forks.forks.items) are.head are.catalog c.in_ok-forks.ensures in
    let owned = ap (λ (l : List OwnedFork). owned_all l) c.deref.ensures.value ∙ forks in
    let also = ap (λ (l : List OwnedFork). owned_all l) c.deref-2.ensures.value ∙ forks in
    let rise = rows_rise lists.catalog are.keys are.sorted c.args.rows.now entries.rows_are in
    ok_map c.judge_late.result (λ _. StaysListed c.judge_ids.new.out c.judge_late.new.out) (λ _. TellsForks volume c.judge_late.new.out)
    (λ _ still. forks_tell volume c.judge_blocks_used.new.out c.judge_forks_and_names.new.out c.judge_ids.new.out c.judge_late.new.out lists.head.next_catalog_id _ (ap (λ (h : VolumeHeader). h.next_catalog_id) are.head)
    (c.in_ok-used.ensures.rules volume are owned) (c.in_ok-judge_forks_and_names.ensures.rules volume are entries also)
    (c.in_ok-judge_ids.ensures.judged (entries_of (records_of volume)) there.rows_are (ids_once volume lists c.args.rows.now are entries)) still)
    (c.judge_late.ensures.still volume are.head there.rows_are rise are.flags (c.in_ok-used.ensures.used volume are owned))
