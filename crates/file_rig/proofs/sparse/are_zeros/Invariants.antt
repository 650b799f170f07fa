use Rattle.std.proofs.Common.{◌≡◌, take, replicate}
use Rattle.file_rig.specs.Place.{zeros}
use Rattle.file_rig.proofs.sparse.are_zeros.Given as goal

abbrev pub invariant-loop-sector : goal.invariant-loop-sector
invariant-loop-sector l = take l.sector-index l.run ≡ replicate l.sector-index zeros
