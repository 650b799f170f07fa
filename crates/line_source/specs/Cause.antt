-- Which count rose where a call answers one fault of several.
use Rattle.std.specs.Prelude.{◌≤◌, ℕ, Result, IsErrOf}
use Rattle.sector_disk.specs.Cause.{Rose}

-- the count hasn't fallen, and it rose where this fault is answered
pub record IsCause {T E : Type 0} (fault : E) (before now : ℕ) (result : Result T E) : Type 0 where
  pub later : before ≤ now
  pub rose : IsErrOf result fault → Rose before now
