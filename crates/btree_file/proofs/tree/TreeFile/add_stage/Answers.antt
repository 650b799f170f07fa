use Rattle.std.proofs.Common.{sym, ◌∙◌, ap, subst}
use Rattle.sector_disk.specs.Space.{Space}
use Rattle.btree_file.specs.Growth.{ExtendsMap}
use Rattle.btree_file.proofs.Stages.{extends_none, keeps_both, frames_both}
use Rattle.btree_file.proofs.tree.TreeFile.add_stage.Goals as goal

pub returns-clause-tree : goal.returns-clause-tree
returns-clause-tree g c tells =
    let old : Space = g.P.SectorView.space c.args.space.now in
    let mid : Space = g.P.SectorView.space c.add_map_node.new.space in
    let new : Space = g.P.SectorView.space c.lengthen.new.space in
    keeps_both c.args.self.now c.add_map_node.new.self c.lengthen.new.self old.content mid.content new.content (c.add_map_node.ensures.tree tells) (c.lengthen.ensures.tree (c.add_map_node.ensures.frame.same.tells ∙ tells))

pub returns-clause-frame : goal.returns-clause-frame
returns-clause-frame g c =
    let old : Space = g.P.SectorView.space c.args.space.now in
    let mid : Space = g.P.SectorView.space c.add_map_node.new.space in
    let new : Space = g.P.SectorView.space c.lengthen.new.space in
    frames_both c.args.self.now c.add_map_node.new.self old mid new c.add_map_node.ensures.counts c.add_map_node.ensures.frame c.lengthen.ensures.frame

pub returns-clause-below : goal.returns-clause-below
returns-clause-below g c = g.met.P.SectorView.follows_trans c.args.space.now c.add_map_node.new.space c.lengthen.new.space c.add_map_node.ensures.below c.lengthen.ensures.below

pub returns-clause-extends : goal.returns-clause-extends
returns-clause-extends g c =
    subst (λ m. ExtendsMap c.args.self.now.shape.total c.args.self.now.map.items m) (ap (λ m. m.items) (sym c.lengthen.ensures.map)) c.add_map_node.ensures.extends

pub returns-then-self-goal-clause-extends : goal.returns-then-self-goal-clause-extends
returns-then-self-goal-clause-extends g c = extends_none c.args.self.now.shape.total c.args.self.now.map.items
