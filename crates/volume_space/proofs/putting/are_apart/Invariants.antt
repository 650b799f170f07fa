use Rattle.std.specs.Prelude.{◌≡◌, drop}
use Rattle.volume_space.specs.Writing.{are_apart}
use Rattle.volume_space.proofs.putting.are_apart.Given as goal

abbrev pub invariant-loop-at : goal.invariant-loop-at
invariant-loop-at l = are_apart (drop l.at l.extents) ≡ are_apart l.extents
