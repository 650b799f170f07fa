use Rattle.std.proofs.Common.{◌≡◌, ◌*◌, min, List, [], ◌∷◌, ◌∙◌, ap}
use Rattle.hfs_volume.specs.Broken.{Want, want}
use Rattle.fsck_core.specs.Wants.{wants_in}
use Rattle.fsck_core.specs.declared.want.Want.{Want as Number}
use Rattle.fsck_core.proofs.JudgedLaws.{ok_judged, adds_as}
use Rattle.fsck_core.proofs.ValueFound.{judges_as}
use Rattle.fsck_core.proofs.values.judge_value_sizes.Goals as goal

pub returns-clause-judged : goal.returns-clause-judged
returns-clause-judged c =
    let ws : List Number = record { place = c.args.id; found = c.args.fork.now.total_blocks; wanted = c.args.blocks } ∷ record { place = c.args.id; found = c.args.fork.now.logical_size; wanted = c.min.result } ∷ [] in
    let all : List Want = want c.args.id c.args.fork.now.total_blocks c.args.blocks ∷ want c.args.id c.args.fork.now.logical_size (min c.args.fork.now.logical_size (c.args.fork.now.total_blocks * c.args.head.now.block_size)) ∷ [] in
    let are : wants_in ws ≡ all = λ i. want c.args.id c.args.fork.now.total_blocks c.args.blocks ∷ want c.args.id c.args.fork.now.logical_size (c.min.ensures i) ∷ [] in
    ok_judged c.judge_wants.result 16 ws all c.args.out.now c.judge_wants.new.out are c.judge_wants.ensures.met c.judge_wants.ensures.listed c.judge_wants.ensures.still c.judge_wants.ensures.each

pub returns-clause-each : goal.returns-clause-each
returns-clause-each c =
    let ws : List Number = record { place = c.args.id; found = c.args.fork.now.total_blocks; wanted = c.args.blocks } ∷ record { place = c.args.id; found = c.args.fork.now.logical_size; wanted = c.min.result } ∷ [] in
    let all : List Want = want c.args.id c.args.fork.now.total_blocks c.args.blocks ∷ want c.args.id c.args.fork.now.logical_size (min c.args.fork.now.logical_size (c.args.fork.now.total_blocks * c.args.head.now.block_size)) ∷ [] in
    let are : wants_in ws ≡ all = λ i. want c.args.id c.args.fork.now.total_blocks c.args.blocks ∷ want c.args.id c.args.fork.now.logical_size (c.min.ensures i) ∷ [] in
    adds_as 16 ws all c.args.out.now c.judge_wants.new.out are c.judge_wants.ensures.each
