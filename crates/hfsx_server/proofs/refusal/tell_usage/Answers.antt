use Rattle.hfsx_server.specs.Telling.{usage_text}
use Rattle.hfsx_server.proofs.Telling.{tells_of}
use Rattle.hfsx_server.proofs.refusal.tell_usage.Goals as goal

pub returns : goal.returns
returns g c =
    let told = c.tell_whole.ensures in
    tells_of c.tell_whole.result (g.R.SectorDisk.state c.args.rig.now) (g.R.SectorDisk.state c.tell_whole.new.rig) usage_text
    told.told told.unsure told.candidates told.barriers told.faults told.same told.cause
