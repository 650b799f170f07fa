use Rattle.std.proofs.Common.{List, sym, ◌∙◌, ap}
use Rattle.hx_bytes.specs.declared.extents.Extent.{Extent}
use Rattle.fork_map.specs.Blocks.{blocks_of}
use Rattle.fsck_core.specs.Overflows.{overflows_in}
use Rattle.fsck_core.specs.declared.overflow.OverflowRow.{OverflowRow}
use Rattle.fsck_core.proofs.UsedLaws.{none_yet}
use Rattle.fsck_core.proofs.ListJoins.{uses_passed}
use Rattle.fsck_core.proofs.lists.judge_blocks_used.Goals as goal
use Rattle.fsck_core.proofs.TellingLaws.{uses_tell}

pub returns-clause-passed : goal.returns-clause-passed
returns-clause-passed c volume are owned =
    let extents = ap (λ (l : List Extent). blocks_of l) c.as_slice.ensures ∙ c.in_ok-extents.ensures volume are.sectors are.head (ap (λ (l : List OverflowRow). overflows_in l) c.deref.ensures.value ∙ are.overflow) owned are.attributes in
    let none = none_yet volume c.args.lists.now.head c.in_ok-used.used (sym are.head) c.in_ok-used.ensures.none in
    uses_passed volume c.args.out.now c.judge_uses.new.out _ c.requires.none (c.in_ok-judge_uses.ensures.met volume extents none) (c.in_ok-judge_uses.ensures.found volume extents none) (c.judge_uses.ensures.each volume extents none)

pub returns-clause-used : goal.returns-clause-used
returns-clause-used c volume are owned =
    let extents = ap (λ (l : List Extent). blocks_of l) c.as_slice.ensures ∙ c.in_ok-extents.ensures volume are.sectors are.head (ap (λ (l : List OverflowRow). overflows_in l) c.deref.ensures.value ∙ are.overflow) owned are.attributes in
    let none = none_yet volume c.args.lists.now.head c.in_ok-used.used (sym are.head) c.in_ok-used.ensures.none in
    c.in_ok-judge_uses.ensures.marks volume extents none

pub returns-clause-rules : goal.returns-clause-rules
returns-clause-rules c volume are owned =
    let extents = ap (λ (l : List Extent). blocks_of l) c.as_slice.ensures ∙ c.in_ok-extents.ensures volume are.sectors are.head (ap (λ (l : List OverflowRow). overflows_in l) c.deref.ensures.value ∙ are.overflow) owned are.attributes in
    let none = none_yet volume c.args.lists.now.head c.in_ok-used.used (sym are.head) c.in_ok-used.ensures.none in
    uses_tell volume c.args.out.now c.judge_uses.new.out _ c.requires.none (c.in_ok-judge_uses.ensures.met volume extents none) (c.in_ok-judge_uses.ensures.found volume extents none) (c.judge_uses.ensures.each volume extents none)
