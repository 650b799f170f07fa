-- Why a call that may also want memory fails.
use Rattle.std.specs.Prelude.{◌≤◌, ℕ, Result, Ok, Err}
use Rattle.hx_bytes.specs.declared.faults.Trouble.{Trouble}
use Rattle.hx_bytes.specs.declared.faults.Trouble.TheVariants.{Disk, Memory}
use Rattle.btree_node.specs.Store.{next_count}

-- where the store failed, its count of faults rose or stands at its last value
abbrev pub FailedThere : {T : Type 0} → ℕ → ℕ → Result T Trouble → Type 0
FailedThere before now (Ok answer) = Unit {0}
FailedThere before now (Err Disk) = next_count before ≤ now
FailedThere before now (Err Memory) = Unit {0}

-- The count of faults hasn't fallen, and Disk comes only where the store failed. Want of memory is free.
pub record HasTroubleCause {T : Type 0} (before now : ℕ) (result : Result T Trouble) : Type 0 where
  pub later : before ≤ now
  pub failed : FailedThere before now result
