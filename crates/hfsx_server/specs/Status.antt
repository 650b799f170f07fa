-- The statuses of the program.
use Rattle.std.specs.Prelude.{ℕ}
use Rattle.hfsx_server.specs.declared.status.Status.{Status}
use Rattle.hfsx_server.specs.declared.status.Status.TheVariants.{Done, Refused, Usage, Disk, Source, Sink, Memory, TooMany}

-- the number that the program exits with
abbrev pub code_of : Status → ℕ
code_of Done = 0
code_of Refused = 1
code_of Usage = 2
code_of Disk = 3
code_of Source = 4
code_of Sink = 5
code_of Memory = 6
code_of TooMany = 7
