use Rattle.std.proofs.Common.{◌≤◌, ◌+◌, drop, length}
use Rattle.flag_rows.specs.Bits.{count_set}
use Rattle.fork_map.specs.Blocks.{blocks_of}
use Rattle.alloc_bitmap.specs.Apart.{AreApart}
use Rattle.file_io.specs.Places.{given, AreUsed, KeepsMap, LosesNone}
use Rattle.file_io.proofs.GiveLaws.{Giving}
use Rattle.file_io.proofs.KeepLaws.{HasMarks}
use Rattle.file_io.proofs.shrinking.give_all.Given as goal

abbrev pub invariant-loop-extent : goal.invariant-loop-extent
invariant-loop-extent l = (AreApart (blocks_of l.list) → AreUsed l.fn.map (blocks_of l.list) → Giving l.list l.map l.extent-index (given l.list l.fn.map)) × (HasMarks l.fn.map → KeepsMap l.fn.map l.map) × LosesNone l.fn.map l.map × (count_set l.map.changed + length (blocks_of (drop l.extent-index l.list)) ≤ count_set l.fn.map.changed + length (blocks_of l.list))
