use Rattle.fsck_repair.specs.Changing.{no_change}
use Rattle.fsck_repair.proofs.FindLaws.{found_here, none_behind, none_there}
use Rattle.fsck_repair.proofs.overlay.find_change.Goals as goal

-- src/overlay.rt:37:9
pub returns-then-place-changes-clause-none : goal.returns-then-place-changes-clause-none
returns-then-place-changes-clause-none c told =
    let below = c.changes_below-place in
    none_behind c.args.changes.now c.args.at below.result no_change c.requires (below.ensures.point c.requires) below.ensures.inside c.if-place-changes.true

-- src/overlay.rt:41:9
pub returns-then-change-at-clause-none : goal.returns-then-change-at-clause-none
returns-then-change-at-clause-none c told =
    let below = c.changes_below-place in
    none_there c.args.changes.now c.args.at below.result no_change c.requires (below.ensures.point c.requires) below.ensures.inside c.if-place-changes.false c.if-change-at.true

-- src/overlay.rt:30:1
pub returns-clause-found : goal.returns-clause-found
returns-clause-found c told =
    let below = c.changes_below-place in
    found_here c.args.changes.now c.args.at below.result no_change c.requires (below.ensures.point c.requires) below.ensures.inside c.if-place-changes.false c.if-change-at.false
