use Rattle.std.proofs.Common.{◌≡◌, ◌-◌, List, [], ◌∷◌, ◌∙◌, ap}
use Rattle.hfs_volume.specs.Broken.{free_wants}
use Rattle.fsck_core.specs.Wants.{wants_in}
use Rattle.fsck_core.specs.declared.want.Want.{Want}
use Rattle.fsck_core.proofs.JudgedLaws.{ok_judged, adds_as}
use Rattle.fsck_core.proofs.FlagLaws.{free_are}
use Rattle.fsck_core.proofs.flags.judge_free.Goals as goal

pub returns-clause-judged : goal.returns-clause-judged
returns-clause-judged c volume is uses =
    let ws : List Want = record { place = 48; found = c.args.head.now.free_blocks; wanted = c.saturating_sub-wanted.result } ∷ [] in
    let are : wants_in ws ≡ free_wants volume = free_are volume c.args.head.now c.args.used.now c.saturating_sub-wanted.result is uses (c.saturating_sub-wanted.ensures ∙ ap (λ n. c.args.head.now.total_blocks - n) c.count.ensures) in
    ok_judged c.judge_wants.result 14 ws (free_wants volume) c.args.out.now c.judge_wants.new.out are c.judge_wants.ensures.met c.judge_wants.ensures.listed c.judge_wants.ensures.still c.judge_wants.ensures.each

pub returns-clause-each : goal.returns-clause-each
returns-clause-each c volume is uses =
    let ws : List Want = record { place = 48; found = c.args.head.now.free_blocks; wanted = c.saturating_sub-wanted.result } ∷ [] in
    let are : wants_in ws ≡ free_wants volume = free_are volume c.args.head.now c.args.used.now c.saturating_sub-wanted.result is uses (c.saturating_sub-wanted.ensures ∙ ap (λ n. c.args.head.now.total_blocks - n) c.count.ensures) in
    adds_as 14 ws (free_wants volume) c.args.out.now c.judge_wants.new.out are c.judge_wants.ensures.each
