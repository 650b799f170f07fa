use Rattle.std.proofs.Common.{List, [], ◌∷◌}
use Rattle.hfs_volume.specs.Broken.{want, node_place}
use Rattle.hfs_volume.specs.Forks.{catalog_id}
use Rattle.fsck_core.specs.declared.want.Want.{Want}
use Rattle.fsck_core.proofs.JudgedLaws.{ok_judged, adds_as}
use Rattle.fsck_core.proofs.SizeLaws.{compare_is}
use Rattle.fsck_core.proofs.sizes.judge_compare.Goals as goal

pub returns-clause-judged : goal.returns-clause-judged
returns-clause-judged c file is =
    let ws : List Want = record { place = 17179869184; found = c.args.tree.now.compare; wanted = 0xBC } ∷ [] in
    ok_judged c.judge_wants.result 4 ws (want (node_place catalog_id 0) file.head.compare 0xBC ∷ []) c.args.out.now c.judge_wants.new.out (compare_is c.args.tree.now file is) c.judge_wants.ensures.met c.judge_wants.ensures.listed c.judge_wants.ensures.still c.judge_wants.ensures.each

pub returns-clause-each : goal.returns-clause-each
returns-clause-each c file is =
    let ws : List Want = record { place = 17179869184; found = c.args.tree.now.compare; wanted = 0xBC } ∷ [] in
    adds_as 4 ws (want (node_place catalog_id 0) file.head.compare 0xBC ∷ []) c.args.out.now c.judge_wants.new.out (compare_is c.args.tree.now file is) c.judge_wants.ensures.each
