use Rattle.std.proofs.Common.{take}
use Rattle.fork_map.specs.Blocks.{blocks_of}
use Rattle.file_io.specs.Places.{AreUsed}
use Rattle.file_tests.proofs.gates.uses.Given as goal

abbrev pub invariant-loop-extent : goal.invariant-loop-extent
invariant-loop-extent l = AreUsed l.map (blocks_of (take l.extent-index l.list))
