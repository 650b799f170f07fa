use Rattle.hfs_serving.proofs.Batches.{goes_none, touched_on}
use Rattle.hfs_serving.proofs.Joining.{touch_stops_here}
use Rattle.hfs_serving.proofs.laws.touches_go_on.Goals as goal

pub returns-clause-begins : goal.returns-clause-begins
returns-clause-begins g c capacity shrunk committed from a below reads leaves = goes_none capacity shrunk committed from (g.G.Ground.outside a) (g.G.SectorView.space a) below reads leaves

pub returns-clause-goes : goal.returns-clause-goes
returns-clause-goes g c capacity shrunk asked further committed from middle between now run more x y z goes touches leads reads =
    touched_on capacity shrunk committed from (g.G.Ground.outside x) run more middle between (g.G.SectorView.space y) (g.G.Ground.outside y) goes (g.G.SectorView.space z) (g.G.Ground.outside z) touches leads reads

pub returns-clause-stops : goal.returns-clause-stops
returns-clause-stops g c capacity shrunk asked committed from middle between run x y z goes touches =
    touch_stops_here capacity shrunk committed from (g.G.Ground.outside x) run middle between (g.G.SectorView.space y) (g.G.Ground.outside y) goes (g.G.SectorView.space z) (g.G.Ground.outside z) touches
