use Rattle.std.proofs.Common.{◌≡◌, ◌+◌, ◌-◌, ◌<◌, IsTrue, refl, ◌∙◌, ap, subst, arith}
use Rattle.sector_disk.specs.Space.{Space}
use Rattle.btree_file.specs.Growth.{HasRoomFor, bits_each}
use Rattle.btree_file.specs.Map.{bits_of}
use Rattle.btree_file.proofs.Sizes.{tree_large}
use Rattle.btree_file.proofs.Stages.{extends_none, extends_both, keeps_none, keeps_both, counts_none, counts_both, spends_none, spends_both, frames_both, room_fewer, stages_few}
use Rattle.btree_file.specs.FrameLaws.{within_none}
use Rattle.btree_file.specs.State.{sectors_of_tree}
use Rattle.btree_file.proofs.tree.TreeFile.add_nodes.Goals as goal

pub loop-stage-init : goal.loop-stage-init
loop-stage-init g c =
    let tree = c.args.self.now in
    let old : Space = g.P.SectorView.space c.args.space.now in
    record {
      growing = c.requires.growing;
      tree = λ tells. keeps_none tree old.content;
      counts = counts_none tree;
      full = c.requires.full;
      map = λ tells. omega arith;
      bits = λ tells. omega arith;
      extends = extends_none tree.shape.total tree.map.items;
      most = omega arith;
      memory = omega (arith, c.requires.memory);
      frame = within_none (sectors_of_tree tree) old;
      room = spends_none c.args.goal tree old;
      left = subst (λ k. HasRoomFor k c.args.goal tree old) {x = c.args.count} {y = c.args.count - 0} (omega arith) c.requires.room;
      below = g.met.P.SectorView.follows_refl c.args.space.now;
      faults = refl;
    }

pub add_stage-requires-clause-room : goal.add_stage-requires-clause-room
add_stage-requires-clause-room g c = room_fewer c.args.goal (c.args.count - c.loop-stage._stage) 1 c.loop-stage.self (g.P.SectorView.space c.loop-stage.space) (omega (arith, c.loop-stage-test.true)) c.loop-stage.invariant.left

pub loop-stage-preserved : goal.loop-stage-preserved
loop-stage-preserved g c =
    let before = c.args.self.now in
    let was = c.loop-stage.invariant in
    let old : Space = g.P.SectorView.space c.args.space.now in
    let mid : Space = g.P.SectorView.space c.loop-stage.space in
    let new : Space = g.P.SectorView.space c.add_stage.new.space in
    let told : IsTrue old.tells → IsTrue mid.tells = λ tells. was.frame.same.tells ∙ tells in
    let few = stages_few before.shape.node_size (bits_of before.map.items) c.args.goal c.loop-stage._stage (tree_large before) (subst (λ k. c.loop-stage._stage < k) c.requires.count c.loop-stage-test.true) in
    let below : IsTrue old.tells → c.loop-stage.self.shape.total < c.args.goal = λ tells. omega (arith, was.full tells, was.bits tells, few) in
    let each : bits_each c.loop-stage.self.shape.node_size ≡ bits_each before.shape.node_size = ap bits_each was.counts.node_size in
    record {
      growing = c.add_stage.ensures.growing;
      tree = λ tells. keeps_both before c.loop-stage.self c.add_stage.new.self old.content mid.content new.content (was.tree tells) (c.add_stage.ensures.tree (told tells));
      counts = counts_both before c.loop-stage.self c.add_stage.new.self was.counts c.add_stage.ensures.counts;
      full = λ tells. c.add_stage.ensures.full (told tells);
      map = λ tells. omega (arith, was.map tells, (c.add_stage.ensures.grown (below tells)).0);
      bits = λ tells. omega (arith, was.bits tells, (c.add_stage.ensures.grown (below tells)).1, each);
      extends = extends_both before.shape.total c.loop-stage.self.shape.total before.map.items c.loop-stage.self.map.items c.add_stage.new.self.map.items was.counts.total was.extends c.add_stage.ensures.extends;
      most = omega (arith, was.most, c.add_stage.ensures.most);
      memory = omega (arith, was.memory, c.add_stage.ensures.most, c.add_stage.ensures.memory, c.loop-stage-test.true);
      frame = frames_both before c.loop-stage.self old mid new was.counts was.frame c.add_stage.ensures.frame;
      room = spends_both c.args.goal before c.loop-stage.self c.add_stage.new.self old mid new was.counts was.room c.add_stage.ensures.room;
      left = c.add_stage.ensures.left (c.args.count - (c.loop-stage._stage + 1)) (subst (λ k. HasRoomFor k c.args.goal c.loop-stage.self mid) {x = c.args.count - c.loop-stage._stage} {y = c.args.count - (c.loop-stage._stage + 1) + 1} (omega (arith, c.loop-stage-test.true)) was.left);
      below = g.met.P.SectorView.follows_trans c.args.space.now c.loop-stage.space c.add_stage.new.space was.below c.add_stage.ensures.below;
      faults = c.add_stage.ensures.faults ∙ was.faults;
    }
