-- Which count rose where a call of a look answers a fault.
use Rattle.std.proofs.Common.{◌≡◌, ◌≤◌, ℕ, refl, sym, ◌∙◌, ap, subst}
use Rattle.std.specs.Prelude.{IsErrOf, Result, Ok, Err}
use Rattle.hx_bytes.specs.declared.faults.Trouble.{Trouble}
use Rattle.hx_bytes.specs.declared.faults.Trouble.TheVariants.{Disk, Memory}
use Rattle.sector_disk.specs.Cause.{Rose}
use Rattle.btree_edit.specs.Causes.{HasTroubleCause}
use Rattle.line_source.specs.Cause.{IsCause}

-- the cause of a call, said of the one fault
pub one_fault : {T : Type 0} (before now : ℕ) (result : Result T Trouble) → HasTroubleCause before now result → IsCause Disk before now result
one_fault before now (Ok answer) has = record { later = has.later; rose = λ is. absurd (cc is) }
one_fault before now (Err Disk) has = record { later = has.later; rose = λ is. has.failed }
one_fault before now (Err Memory) has = record { later = has.later; rose = λ is. absurd (cc is) }

cause_err : {T U : Type 0} (t : Trouble) (before now : ℕ) → before ≤ now → (IsErrOf {T = T} (Err t) Disk → Rose before now) → HasTroubleCause {T = U} before now (Err t)
cause_err Disk before now later rose = record { later = later; failed = rose refl }
cause_err Memory before now later rose = record { later = later; failed = tt }

-- the cause of a call whose first call failed
pub first_cause : {T U : Type 0} (t y : Trouble) (before now : ℕ) (q : Result U Trouble) → q ≡ Err y → y ≡ t → before ≤ now → (IsErrOf {T = T} (Err t) Disk → Rose before now) → HasTroubleCause before now q
first_cause {T} {U} t y before now q given same later rose =
    subst (λ (r : Result U Trouble). HasTroubleCause before now r) (sym (given ∙ ap Err same)) (cause_err {T = T} {U = U} t before now later rose)

-- the cause of a call that had no memory
pub memory_cause : {U : Type 0} (y : Trouble) (before now : ℕ) (q : Result U Trouble) → q ≡ Err y → y ≡ Memory → before ≤ now → HasTroubleCause before now q
memory_cause {U} y before now q given same later = subst (λ (r : Result U Trouble). HasTroubleCause before now r) (sym (given ∙ ap Err same)) (record { later = later; failed = tt })
