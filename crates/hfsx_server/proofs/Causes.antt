-- Answers that are no fault of a device.
use Rattle.std.proofs.Common.{◌≡◌, ◌≤◌, ℕ, Result, Ok, Err, refl, sym, ◌∙◌, subst, arith}
use Rattle.std.specs.Prelude.{IsErrOf}
use Rattle.hx_bytes.specs.declared.faults.Trouble.{Trouble}
use Rattle.hx_bytes.specs.declared.faults.Trouble.TheVariants.{Disk, Memory}
use Rattle.hfsx_server.specs.Cause.{IsCause}
use Rattle.hfsx_server.specs.declared.faults.CheckFault.{CheckFault}
use Rattle.hfsx_server.specs.declared.faults.CheckFault.TheVariants as fault
use Rattle.hfsx_server.specs.Faults.{fault_of_trouble}

pub same_fault : {T E : Type 0} (y fault : E) → ◌≡◌ {A = Result T E} (Err y) (Err fault) → y ≡ fault
same_fault y fault same = cc same

-- no fault at all
pub cause_ok : {T E : Type 0} (fault : E) (before now : ℕ) (r : Result T E) (x : T) → r ≡ Ok x → before ≤ now → IsCause fault before now r
cause_ok fault before now r x same later = record { later = later; rose = λ is. absurd (cc (same, is)) }

-- another fault
pub cause_other : {T E : Type 0} (fault y : E) (before now : ℕ) (r : Result T E) → r ≡ Err y → (y ≡ fault → ⊥) → before ≤ now → IsCause fault before now r
cause_other fault y before now r same other later = record { later = later; rose = λ is. absurd (other (same_fault y fault (sym same ∙ is))) }

-- the same fault, answered
pub err_is : {T E : Type 0} (e f : E) → e ≡ f → IsErrOf {T = T} (Err e) f
err_is {T} {E} e f same = subst (λ (x : E). IsErrOf {T = T} (Err e) x) same refl

-- a fault handed on after calls that failed at nothing
pub cause_on : {T U E : Type 0} (fault e y : E) (before mid now : ℕ) (r : Result T E) (q : Result U E) → before ≤ mid → IsCause fault mid now r → r ≡ Err e → q ≡ Err y → y ≡ e → IsCause fault before now q
cause_on fault e y before mid now r q later cause is given same = record {
  later = omega (arith, later, cause.later);
  rose = λ f.
      let there : e ≡ fault = sym same ∙ same_fault y fault (sym given ∙ f) in
      omega (arith, later, cause.rose (subst (λ x. r ≡ Err x) there is));
}

disk_trouble : (t : Trouble) → fault_of_trouble t ≡ fault.Disk → t ≡ Disk
disk_trouble Disk is = refl
disk_trouble Memory is = absurd (cc is)

-- trouble of a check is a fault of it
pub cause_troubled : {T U : Type 0} (t : Trouble) (y : CheckFault) (before mid now : ℕ) (q : Result U CheckFault) → q ≡ Err y → y ≡ fault_of_trouble t → before ≤ mid → IsCause {T = T} Disk mid now (Err t) → IsCause fault.Disk before now q
cause_troubled {T} {U} t y before mid now q given same later cause = record {
  later = omega (arith, later, cause.later);
  rose = λ f.
      let there : t ≡ Disk = disk_trouble t (sym same ∙ same_fault y fault.Disk (sym given ∙ f)) in
      omega (arith, later, cause.rose (subst (λ x. ◌≡◌ {A = Result T Trouble} (Err t) (Err x)) there refl));
}
