use Rattle.hfs_serving.proofs.Batches.{stops_crashes, batch_tells_partly, batch_ends, batch_serves}
use Rattle.hfs_serving.proofs.Plain.{plain_are, texts_of_plain}
use Rattle.hfs_serving.proofs.laws.batches_end.Goals as goal

pub returns-clause-stopped : goal.returns-clause-stopped
returns-clause-stopped g c capacity shrunk start run answers x y are stops = stops_crashes capacity shrunk start (g.G.Ground.outside x) run answers (g.G.Ground.outside y) are stops

pub returns-clause-partly : goal.returns-clause-partly
returns-clause-partly g c capacity shrunk start now run answers x y z are goes tells =
    batch_tells_partly capacity shrunk start (g.G.Ground.outside x) run answers now (g.G.SectorView.space y) (g.G.Ground.outside y) (g.G.Ground.outside z) are goes tells

pub returns-clause-served : goal.returns-clause-served
returns-clause-served g c capacity shrunk start now run answers x y z are goes tells told = (
  batch_ends capacity shrunk start (g.G.Ground.outside x) run answers now (g.G.SectorView.space y) (g.G.Ground.outside y) (g.G.Ground.outside z) are goes tells told,
  batch_serves capacity shrunk start (g.G.Ground.outside x) run answers now (g.G.SectorView.space y) (g.G.Ground.outside y) (g.G.Ground.outside z) are goes tells,
)

pub returns-clause-plain : goal.returns-clause-plain
returns-clause-plain g c run = (plain_are run, texts_of_plain 0 run)
