use Rattle.std.proofs.Common.{refl, subst}
use Rattle.overflow.proofs.Cutting.{AreUsed, in_use_used}
use Rattle.overflow.proofs.Stored.{blocks_stay}
use Rattle.overflow.proofs.Whole.{stored_gives, stored_goes_on}
use Rattle.overflow.proofs.laws.stored_forks_are_loaded.Goals as goal

pub returns-clause-round_trip : goal.returns-clause-round_trip
returns-clause-round_trip c overflow id kind extents other all stored =
    let used = subst AreUsed all (in_use_used extents) in
    (stored_gives overflow id kind extents other used stored, stored_goes_on overflow id kind extents other used stored)

pub returns-clause-unused : goal.returns-clause-unused
returns-clause-unused c = blocks_stay

pub returns-clause-worked : goal.returns-clause-worked
returns-clause-worked c = (refl, refl)
