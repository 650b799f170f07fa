-- A block written home is one of its homes.
use Rattle.std.proofs.Common.{◌≡◌, ℕ, List, [], ◌∷◌, Result, OnOk, OnErr, inl, refl}
use Rattle.sector_disk.specs.Disk.{Candidates, with_candidate, MayHaveWritten}
use Rattle.sector_disk.proofs.Candidates.{grows_none, grows_written}
use Rattle.jnl_format.specs.Text.{bytes_at}
use Rattle.jnl_format.specs.declared.blocks.Home.{Home}
use Rattle.jnl_format.specs.Named.{IsHomeOf}
use Rattle.jnl_replay.specs.Homing.{GrowsHomes}

-- a write came, or failed
pub home_written : {T E : Type 0} (result : Result T E) (bytes : List ℕ) (home : Home) (old new : Candidates) (value : List ℕ) → value ≡ bytes_at bytes home.place 512
    → OnOk result (new ≡ with_candidate old home.sector value) → OnErr result (MayHaveWritten old home.sector value new) → GrowsHomes bytes (home ∷ []) old new
home_written result bytes home old new value is wrote failed =
    grows_written result (IsHomeOf bytes (home ∷ [])) old old new home.sector value (grows_none (IsHomeOf bytes (home ∷ [])) old) (inl (refl, is)) wrote failed
