use Rattle.hfs_serving.specs.Plain.{spoke_plainly}
use Rattle.std.proofs.Common.{arith}
use Rattle.hfs_serving.proofs.Caused.{no_commit}
use Rattle.hfs_serving.proofs.Causes.{counts_none, fine_stop}
use Rattle.hfs_serving.proofs.Speeches.{speaks_nothing}
use Rattle.hfs_serving.proofs.speaking.PlainLinesSpeaker.begin.Goals as goal

pub returns-clause-goes : goal.returns-clause-goes
returns-clause-goes g c tells capacity committed now shrunk number stands =
    let space = g.G.SectorView.space c.args._base.now in
    speaks_nothing capacity shrunk committed now (g.G.Ground.outside c.args._base.now) (g.V.Volume.knows c.args._volume.now space capacity) space number spoke_plainly stands

pub returns-clause-faults : goal.returns-clause-faults
returns-clause-faults g c = fine_stop (counts_none _ _) ⊥ _

pub returns-clause-caused : goal.returns-clause-caused
returns-clause-caused g c tells = no_commit _ _ _ _ (omega arith)
