use Rattle.std.proofs.Common.{◌≡◌, ◌-◌, ◌+◌, ◌/◌, max, List, [], ◌∷◌, ◌∙◌, ap, arith}
use Rattle.hfs_volume.specs.Broken.{want}
use Rattle.hfs_volume.specs.Forks.{allocation_id, parts_for}
use Rattle.fsck_core.specs.Wants.{wants_in}
use Rattle.fsck_core.specs.Files.{bitmap_wants}
use Rattle.fsck_core.specs.declared.want.Want.{Want}
use Rattle.fsck_core.proofs.JudgedLaws.{ok_judged, adds_as}
use Rattle.fsck_core.proofs.sizes.judge_bitmap.Goals as goal

pub returns-clause-judged : goal.returns-clause-judged
returns-clause-judged c =
    let ws : List Want = record { place = 6; found = c.args.head.now.allocation_fork.logical_size; wanted = c.max-wanted.result } ∷ record { place = 6; found = c.args.behind; wanted = 0 } ∷ [] in
    let parts : c.args.head.now.total_blocks + 7 ≡ c.args.head.now.total_blocks + 8 - 1 = omega arith in
    let wanted : c.max-wanted.result ≡ max c.args.head.now.allocation_fork.logical_size (parts_for c.args.head.now.total_blocks 8) = c.max-wanted.ensures ∙ ap (λ n. max c.args.head.now.allocation_fork.logical_size (n / 8)) parts in
    let are : wants_in ws ≡ bitmap_wants c.args.head.now c.args.behind = λ i. want allocation_id c.args.head.now.allocation_fork.logical_size (wanted i) ∷ want allocation_id c.args.behind 0 ∷ [] in
    ok_judged c.judge_wants.result 3 ws (bitmap_wants c.args.head.now c.args.behind) c.args.out.now c.judge_wants.new.out are c.judge_wants.ensures.met c.judge_wants.ensures.listed c.judge_wants.ensures.still c.judge_wants.ensures.each

pub returns-clause-each : goal.returns-clause-each
returns-clause-each c =
    let ws : List Want = record { place = 6; found = c.args.head.now.allocation_fork.logical_size; wanted = c.max-wanted.result } ∷ record { place = 6; found = c.args.behind; wanted = 0 } ∷ [] in
    let parts : c.args.head.now.total_blocks + 7 ≡ c.args.head.now.total_blocks + 8 - 1 = omega arith in
    let wanted : c.max-wanted.result ≡ max c.args.head.now.allocation_fork.logical_size (parts_for c.args.head.now.total_blocks 8) = c.max-wanted.ensures ∙ ap (λ n. max c.args.head.now.allocation_fork.logical_size (n / 8)) parts in
    let are : wants_in ws ≡ bitmap_wants c.args.head.now c.args.behind = λ i. want allocation_id c.args.head.now.allocation_fork.logical_size (wanted i) ∷ want allocation_id c.args.behind 0 ∷ [] in
    adds_as 3 ws (bitmap_wants c.args.head.now c.args.behind) c.args.out.now c.judge_wants.new.out are c.judge_wants.ensures.each
