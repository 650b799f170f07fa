use Rattle.std.proofs.Common.{take}
use Rattle.std.specs.List.{flat_map}
use Rattle.hfsx_server.specs.Telling.{finding_text}
use Rattle.hfsx_server.proofs.Telling.{ToldAll}
use Rattle.hfsx_server.proofs.reports.tell_each.Given as goal

abbrev pub invariant-loop-finding : goal.invariant-loop-finding
invariant-loop-finding g l = ToldAll (g.R.SectorDisk.state l.initial.rig) (g.R.SectorDisk.state l.rig) (flat_map finding_text (take l.finding-index l.findings))
