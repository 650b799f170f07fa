use Rattle.std.proofs.Common.{drop}
use Rattle.file_io.specs.Places.{AreUsed}
use Rattle.fork_map.specs.Blocks.{blocks_of}
use Rattle.volume_space.proofs.cutting.are_used.Given as goal

abbrev pub invariant-loop-extent : goal.invariant-loop-extent
invariant-loop-extent l = AreUsed l.map (blocks_of (drop l.extent-index l.extents)) → AreUsed l.map (blocks_of l.extents)
