use Rattle.hfsx_server.specs.Telling.{findings_text}
use Rattle.hfsx_server.proofs.Telling.{tells_all}
use Rattle.hfsx_server.proofs.reports.tell_findings.Goals as goal

pub returns : goal.returns
returns g c = tells_all c.tell_all.result (g.R.SectorDisk.state c.args.rig.now) (g.R.SectorDisk.state c.tell_all.new.rig) (findings_text c.args.findings.now) c.tell_all.ensures
