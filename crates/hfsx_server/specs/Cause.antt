-- Which count rose where a call answers a fault.
use Rattle.std.specs.Prelude.{◌≡◌, ◌≤◌, ℕ, Result, IsErrOf}
use Rattle.sector_disk.specs.Cause.{Rose}
use Rattle.hfsx_server.specs.declared.status.Status.{Status}

-- the count hasn't fallen, and it rose where this fault is answered
pub record IsCause {T E : Type 0} (fault : E) (before now : ℕ) (result : Result T E) : Type 0 where
  pub later : before ≤ now
  pub rose : IsErrOf result fault → Rose before now

-- the count hasn't fallen, and it rose where a run ends with this status
pub record IsCauseOf (status : Status) (before now : ℕ) (result : Status) : Type 0 where
  pub later : before ≤ now
  pub rose : result ≡ status → Rose before now
