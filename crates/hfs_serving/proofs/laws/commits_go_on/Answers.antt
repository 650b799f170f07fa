use Rattle.hfs_serving.proofs.Joining.{commit_goes_here, commit_stops_here}
use Rattle.hfs_serving.proofs.laws.commits_go_on.Goals as goal

pub returns-clause-goes : goal.returns-clause-goes
returns-clause-goes g c capacity shrunk asked committed from middle now run x y z goes commits =
    commit_goes_here capacity shrunk committed from (g.G.Ground.outside x) run middle now (g.G.SectorView.space y) (g.G.Ground.outside y) goes (g.G.SectorView.space z) (g.G.Ground.outside z) commits

pub returns-clause-stops : goal.returns-clause-stops
returns-clause-stops g c capacity shrunk asked committed from middle now run x y z goes may =
    commit_stops_here capacity shrunk committed from (g.G.Ground.outside x) run middle now (g.G.SectorView.space y) (g.G.Ground.outside y) goes (g.G.Ground.outside z) may
