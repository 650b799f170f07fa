use Rattle.std.proofs.Common.{take}
use Rattle.mem_disk.proofs.Settling.{Settles}
use Rattle.mem_disk.proofs.past.settle_all.Given as goal

abbrev pub invariant-loop-event : goal.invariant-loop-event
invariant-loop-event l = Settles l.initial.table l.table (take l.event-index l.events)
