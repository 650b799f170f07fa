use Rattle.std.proofs.Common.{List, [], ◌∷◌}
use Rattle.hfs_volume.specs.Broken.{size_wants}
use Rattle.hfs_volume.specs.Content.{facts_of}
use Rattle.fsck_core.specs.declared.want.Want.{Want}
use Rattle.fsck_core.proofs.JudgedLaws.{ok_judged, adds_as}
use Rattle.fsck_core.proofs.SizeLaws.{sizes_are}
use Rattle.fsck_core.proofs.sizes.judge_size.Goals as goal

pub returns-clause-judged : goal.returns-clause-judged
returns-clause-judged c file is =
    let ws : List Want = record { place = c.args.id; found = c.args.fork.now.logical_size; wanted = c.product-blocks.result } ∷ record { place = c.args.id; found = c.args.fork.now.logical_size; wanted = c.product-nodes.result } ∷ [] in
    ok_judged c.judge_wants.result 3 ws (size_wants c.args.id c.args.head.now c.args.fork.now (facts_of file)) c.args.out.now c.judge_wants.new.out (sizes_are c.args.tree.now file is c.args.id c.args.head.now c.args.fork.now c.product-blocks.result c.product-nodes.result c.product-blocks.ensures c.product-nodes.ensures) c.judge_wants.ensures.met c.judge_wants.ensures.listed c.judge_wants.ensures.still c.judge_wants.ensures.each

pub returns-clause-each : goal.returns-clause-each
returns-clause-each c file is =
    let ws : List Want = record { place = c.args.id; found = c.args.fork.now.logical_size; wanted = c.product-blocks.result } ∷ record { place = c.args.id; found = c.args.fork.now.logical_size; wanted = c.product-nodes.result } ∷ [] in
    adds_as 3 ws (size_wants c.args.id c.args.head.now c.args.fork.now (facts_of file)) c.args.out.now c.judge_wants.new.out (sizes_are c.args.tree.now file is c.args.id c.args.head.now c.args.fork.now c.product-blocks.result c.product-nodes.result c.product-blocks.ensures c.product-nodes.ensures) c.judge_wants.ensures.each
