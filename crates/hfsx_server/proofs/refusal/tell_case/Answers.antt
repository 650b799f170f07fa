use Rattle.hfsx_server.specs.Telling.{case_text}
use Rattle.hfsx_server.proofs.Telling.{tells_all}
use Rattle.hfsx_server.proofs.refusal.tell_case.Goals as goal

pub returns : goal.returns
returns g c = tells_all c.tell_refused.result (g.R.SectorDisk.state c.args.rig.now) (g.R.SectorDisk.state c.tell_refused.new.rig) case_text c.tell_refused.ensures
