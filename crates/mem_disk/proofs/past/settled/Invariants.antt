use Rattle.std.proofs.Common.{◌≡◌, take}
use Rattle.sector_disk.specs.Disk.{only}
use Rattle.mem_disk.proofs.past.settled.Given as goal

abbrev pub invariant-loop-value : goal.invariant-loop-value
invariant-loop-value l = l.table.items ≡ only (take l.value-index l.content)
