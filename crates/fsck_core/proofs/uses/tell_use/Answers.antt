use Rattle.std.proofs.Common.{[], ◌∷◌, refl, sym, ◌∙◌}
use Rattle.fork_map.specs.Blocks.{blocks_of}
use Rattle.hfs_volume.specs.Broken.{want}
use Rattle.hfs_volume.proofs.Members.{at_front}
use Rattle.fsck_scan.proofs.TreeLaws.{some_listed}
use Rattle.fsck_core.specs.Wants.{want_in}
use Rattle.fsck_core.specs.Uses.{use_want}
use Rattle.fsck_core.specs.declared.want.Want.{Want}
use Rattle.fsck_core.proofs.JudgedLaws.{adds_as}
use Rattle.fsck_core.proofs.uses.tell_use.Goals as goal

pub returns-in_err-judge_wants-clause-each : goal.returns-in_err-judge_wants-clause-each
returns-in_err-judge_wants-clause-each c =
    let w : Want = record { place = c.args.block; found = c.count_uses-found.result; wanted = 1 } in
    adds_as 18 (w ∷ []) (use_want (blocks_of c.args.extents.now) c.args.block ∷ []) c.args.out.now c.judge_wants.new.out (λ i. want c.args.block (c.count_uses-found.ensures i) 1 ∷ []) c.judge_wants.ensures.each

pub returns-clause-found : goal.returns-clause-found
returns-clause-found c differ =
    let w : Want = record { place = c.args.block; found = c.count_uses-found.result; wanted = 1 } in
    some_listed c.judge_wants.new.out (record { rule = 18; place = c.args.block; found = c.count_uses-found.result; wanted = 1 })
    (c.in_ok-judge_wants.ensures.listed (record { rule = 18; place = c.args.block; found = c.count_uses-found.result; wanted = 1 }) (refl, (λ same. differ (sym c.count_uses-found.ensures ∙ same)), at_front (want_in w) []))

pub returns-clause-each : goal.returns-clause-each
returns-clause-each c =
    let w : Want = record { place = c.args.block; found = c.count_uses-found.result; wanted = 1 } in
    adds_as 18 (w ∷ []) (use_want (blocks_of c.args.extents.now) c.args.block ∷ []) c.args.out.now c.judge_wants.new.out (λ i. want c.args.block (c.count_uses-found.ensures i) 1 ∷ []) c.judge_wants.ensures.each
