use Rattle.std.proofs.Common.{inr}
use Rattle.hfs_serving.proofs.Staging.{end_crashes}
use Rattle.hfs_serving.proofs.laws.runs_end.Goals as goal

pub returns : goal.returns
returns g c capacity shrunk start now ended run answers x y z serves ends place may = end_crashes capacity shrunk start run answers now ended (g.G.Ground.outside x) (g.G.Ground.outside y) (g.G.Ground.outside z) serves (inr (inr ends)) place may
