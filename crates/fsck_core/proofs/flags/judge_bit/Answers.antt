use Rattle.std.proofs.Common.{◌≡◌, List, [], ◌∷◌}
use Rattle.hfs_volume.specs.Broken.{want, bit}
use Rattle.fsck_core.specs.Wants.{wants_in}
use Rattle.fsck_core.specs.declared.want.Want.{Want}
use Rattle.fsck_core.proofs.JudgedLaws.{ok_judged, adds_as}
use Rattle.fsck_core.proofs.flags.judge_bit.Goals as goal

pub returns-clause-judged : goal.returns-clause-judged
returns-clause-judged c =
    let ws : List Want = record { place = c.args.block; found = c.bit-found.result; wanted = c.bit-wanted.result } ∷ [] in
    let are : wants_in ws ≡ want c.args.block (bit c.args.set) (bit c.args.used) ∷ [] = λ i. want c.args.block (c.bit-found.ensures.value i) (c.bit-wanted.ensures.value i) ∷ [] in
    ok_judged c.judge_wants.result 13 ws (want c.args.block (bit c.args.set) (bit c.args.used) ∷ []) c.args.out.now c.judge_wants.new.out are c.judge_wants.ensures.met c.judge_wants.ensures.listed c.judge_wants.ensures.still c.judge_wants.ensures.each

pub returns-clause-each : goal.returns-clause-each
returns-clause-each c =
    let ws : List Want = record { place = c.args.block; found = c.bit-found.result; wanted = c.bit-wanted.result } ∷ [] in
    let are : wants_in ws ≡ want c.args.block (bit c.args.set) (bit c.args.used) ∷ [] = λ i. want c.args.block (c.bit-found.ensures.value i) (c.bit-wanted.ensures.value i) ∷ [] in
    adds_as 13 ws (want c.args.block (bit c.args.set) (bit c.args.used) ∷ []) c.args.out.now c.judge_wants.new.out are c.judge_wants.ensures.each
