use Rattle.std.proofs.Common.{take}
use Rattle.hfs_language.specs.Text.{fields}
use Rattle.hfsx_server.proofs.Telling.{ToldAll}
use Rattle.hfsx_server.proofs.refusal.tell_numbers.Given as goal

abbrev pub invariant-loop-number : goal.invariant-loop-number
invariant-loop-number g l = ToldAll (g.R.SectorDisk.state l.initial.rig) (g.R.SectorDisk.state l.rig) (fields (take l.number-index l.numbers))
