use Rattle.std.proofs.Common.{◌≡◌, List, [], ◌∷◌}
use Rattle.hfs_volume.specs.Broken.{want}
use Rattle.fsck_core.specs.Wants.{wants_in}
use Rattle.fsck_core.specs.Links.{link_want}
use Rattle.fsck_core.specs.declared.want.Want.{Want}
use Rattle.fsck_core.proofs.JudgedLaws.{ok_judged, adds_as}
use Rattle.fsck_core.proofs.links.judge_count.Goals as goal

pub returns-clause-judged : goal.returns-clause-judged
returns-clause-judged c rises =
    let ws : List Want = record { place = c.args.file.id; found = c.args.file.links; wanted = c.count_number-wanted.result } ∷ [] in
    let are : wants_in ws ≡ link_want c.args.links.now c.args.file = λ i. want c.args.file.id c.args.file.links (c.count_number-wanted.ensures rises i) ∷ [] in
    ok_judged c.judge_wants.result 19 ws (link_want c.args.links.now c.args.file) c.args.out.now c.judge_wants.new.out are c.judge_wants.ensures.met c.judge_wants.ensures.listed c.judge_wants.ensures.still c.judge_wants.ensures.each

pub returns-clause-each : goal.returns-clause-each
returns-clause-each c rises =
    let ws : List Want = record { place = c.args.file.id; found = c.args.file.links; wanted = c.count_number-wanted.result } ∷ [] in
    let are : wants_in ws ≡ link_want c.args.links.now c.args.file = λ i. want c.args.file.id c.args.file.links (c.count_number-wanted.ensures rises i) ∷ [] in
    adds_as 19 ws (link_want c.args.links.now c.args.file) c.args.out.now c.judge_wants.new.out are c.judge_wants.ensures.each
