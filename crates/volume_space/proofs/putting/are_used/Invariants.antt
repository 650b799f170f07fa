use Rattle.std.specs.Prelude.{drop}
use Rattle.volume_space.specs.Writing.{AreHad}
use Rattle.volume_space.proofs.putting.are_used.Given as goal

abbrev pub invariant-loop-extent : goal.invariant-loop-extent
invariant-loop-extent l = AreHad l.map (drop l.extent-index l.extents) → AreHad l.map l.extents
