-- Which count of faults rose where a call answers a fault.
use Rattle.std.specs.Prelude.{◌≡◌, ◌⊎◌, ◌≤◌, ℕ, Result, IsErrOf}
use Rattle.hx_bytes.specs.declared.faults.Trouble.{Trouble}
use Rattle.hx_bytes.specs.declared.faults.Trouble.TheVariants as trouble
use Rattle.sector_disk.specs.Cause.{Rose}
use Rattle.sector_disk.specs.Disk.{State}
use Rattle.sector_disk.specs.Space.{Space}
use Rattle.hfs_serving.specs.declared.telling.Stop.{Stop}
use Rattle.hfs_serving.specs.declared.telling.Stop.TheVariants as stop

-- What calls did to the counts: the disk's and the sink's haven't fallen, and the ground has counted a fault only where the disk did.
pub record CountsFaults (failed : ℕ) (old : Space) (failed_new : ℕ) (new : Space) : Type 0 where
  pub later : old.faults ≤ new.faults
  pub counted : (failed_new ≡ failed) ⊎ Rose old.faults new.faults
  pub sink : old.sink_faults ≤ new.sink_faults

-- The same, and where the disk's fault is answered, its count rose, or the ground had counted a fault before.
pub record Faults {T : Type 0} (failed : ℕ) (old : Space) (failed_new : ℕ) (new : Space) (result : Result T Trouble) : Type 0 where
  pub counts : CountsFaults failed old failed_new new
  pub disk : IsErrOf result trouble.Disk → failed ≡ 0 → Rose old.faults new.faults

-- The same of what ends a run: where the sink's fault is answered, its count rose, and where the source's is, this happened.
pub record StopFaults {T : Type 0} (failed : ℕ) (old : Space) (failed_new : ℕ) (new : Space) (happened : Type 0) (result : Result T Stop) : Type 0 where
  pub counts : CountsFaults failed old failed_new new
  pub disk : IsErrOf result stop.Disk → failed ≡ 0 → Rose old.faults new.faults
  pub sink : IsErrOf result stop.Sink → Rose old.sink_faults new.sink_faults
  pub source : IsErrOf result stop.Source → happened

-- The same over a rig: each fault that is answered is one whose count rose.
pub record RigFaults {T : Type 0} (old new : State) (happened : Type 0) (result : Result T Stop) : Type 0 where
  pub later : old.faults ≤ new.faults
  pub sink_later : old.sink_faults ≤ new.sink_faults
  pub disk : IsErrOf result stop.Disk → Rose old.faults new.faults
  pub sink : IsErrOf result stop.Sink → Rose old.sink_faults new.sink_faults
  pub source : IsErrOf result stop.Source → happened
