use Rattle.std.proofs.Common.{sym, ◌∙◌}
use Rattle.hfs_volume.specs.TreeOf.{tree_of}
use Rattle.session_lines.proofs.Looked.{looked_none, looked_once}
use Rattle.session_lines.proofs.Sights.{outside_seen, told_seen}
use Rattle.session_lines.proofs.following.look_at.Goals as goal

pub returns-then-is_outside-clause-goes : goal.returns-then-is_outside-clause-goes
returns-then-is_outside-clause-goes g c tells capacity committed now shrunk stands = looked_none capacity shrunk committed now (g.G.Ground.outside c.args.base.now) _ (g.G.SectorView.space c.args.base.now) stands

pub returns-then-is_outside-clause-sight : goal.returns-then-is_outside-clause-sight
returns-then-is_outside-clause-sight g c tells capacity committed now shrunk stands = outside_seen (tree_of now) c.args.parent c.args.name.now (sym c.is_outside.ensures.value ∙ c.if-is_outside.true)

pub returns-clause-goes : goal.returns-clause-goes
returns-clause-goes g c tells capacity committed now shrunk stands =
    let old = g.G.Ground.outside c.args.base.now in
    let space = g.G.SectorView.space c.args.base.now in
    let new = g.G.SectorView.space c.look_in.new.base in
    let after = g.G.Ground.outside c.look_in.new.base in
    let knows = g.V.Volume.knows c.args.volume.now space capacity in
    let knows_new = g.V.Volume.knows c.look_in.new.self new capacity in
    looked_once capacity shrunk committed now old knows space stands knows_new new after (c.look_in.ensures.touches tells capacity committed now shrunk stands) (c.look_in.ensures.stays tells capacity committed now shrunk stands)

pub returns-clause-sight : goal.returns-clause-sight
returns-clause-sight g c tells capacity committed now shrunk stands =
    told_seen now c.args.parent c.args.name.now (sym c.is_outside.ensures.value ∙ c.if-is_outside.false) c.look_in.result (c.look_in.ensures.sight tells capacity committed now shrunk stands)
