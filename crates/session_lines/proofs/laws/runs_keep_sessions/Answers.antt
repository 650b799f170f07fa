use Rattle.hfs_serving.proofs.Answering.{own_image}
use Rattle.session_lines.proofs.Promises.{answers_sessions, finishes_sessions, keeps_sessions}
use Rattle.session_lines.proofs.laws.runs_keep_sessions.Goals as goal

pub returns-clause-broken : goal.returns-clause-broken
returns-clause-broken g c capacity start files heard source source_new a b begins keeps = keeps_sessions start files begins capacity heard (g.D.SectorDisk.state a) (g.D.SectorDisk.state b) source source_new keeps

pub returns-clause-answered : goal.returns-clause-answered
returns-clause-answered g c capacity start files left handles heard source source_new texts a b begins keeps =
    answers_sessions start files begins capacity heard (g.D.SectorDisk.state a) (g.D.SectorDisk.state b) source source_new handles left texts keeps

pub returns-clause-ended : goal.returns-clause-ended
returns-clause-ended g c capacity start files left handles heard source source_new texts a b begins keeps none away all =
    finishes_sessions start files begins capacity heard (g.D.SectorDisk.state a) (g.D.SectorDisk.state b) source source_new handles left texts keeps none (own_image (g.D.SectorDisk.state b) (g.met.D.SectorDisk.well_formed b)) away all
