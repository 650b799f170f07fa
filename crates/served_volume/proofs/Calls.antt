-- What calls of a volume and of its ground come to together.
use Rattle.std.proofs.Common.{◌≡◌, ◌⊎◌, ◌≤◌, ℕ, Result, Ok, Err, inl, inr, refl, sym, ◌∙◌, ap, subst, arith}
use Rattle.std.specs.Prelude.{IfOk, IsErrOf, IsTrue, OnOk}
use Rattle.hx_bytes.specs.declared.faults.Trouble.{Trouble}
use Rattle.hx_bytes.specs.declared.faults.Trouble.TheVariants as trouble
use Rattle.btree_edit.specs.Causes.{HasTroubleCause}
use Rattle.jnl_format.specs.Recovery.{Content}
use Rattle.sector_disk.specs.Cause.{Rose}
use Rattle.sector_disk.specs.Space.{Space}
use Rattle.sector_disk.proofs.Passing.{none_passes}
use Rattle.hfs_serving.specs.Faults.{CountsFaults, Faults}
use Rattle.hfs_serving.specs.Outside.{Outside}
use Rattle.hfs_serving.specs.Serving.{IsAsDurable, Touches}
use Rattle.hfs_serving.proofs.Agreeing.{agrees_self}

-- nothing was done
pub quiet : (committed : Content) (space : Space) (outside : Outside) → ((recovered : Content) → outside.leaves recovered → IsAsDurable space recovered) → Touches committed space outside space outside
quiet committed space outside leaves = record {
  time = none_passes outside.clock _;
  leaves = leaves;
  durable = agrees_self space.spilled space.durable;
  spilled = λ s now. inl now;
  still = λ s was. was;
  closed = λ s. (λ is. is, λ is. is);
  told = refl;
}

rose_there : {T : Type 0} (before now : ℕ) (r : Result T Trouble) → HasTroubleCause before now r → IsErrOf r trouble.Disk → Rose before now
rose_there before now (Ok x) cause is = absurd (cc is)
rose_there before now (Err trouble.Disk) cause is = cause.failed
rose_there before now (Err trouble.Memory) cause is = absurd (cc is)

-- the faults of a call on a space, which its ground has counted
pub faults_of_call : {T : Type 0} {a b : ℕ} {x y : Space} (r : Result T Trouble) → CountsFaults a x b y → HasTroubleCause x.faults y.faults r → Faults a x b y r
faults_of_call {T} {a} {b} {x} {y} r counts cause = record { counts = counts; disk = λ is none. rose_there x.faults y.faults r cause is }

-- want of memory
pub short : {T : Type 0} {a b : ℕ} {x y : Space} → CountsFaults a x b y → Faults {T = T} a x b y (Err trouble.Memory)
short counts = record { counts = counts; disk = λ is. absurd (cc is) }

-- what a result has whose value is this
pub value_of : {A E : Type 0} (P : A → Type 0) (r : Result A E) (x : A) → r ≡ Ok x → IfOk r P → P x
value_of {A} {E} P r x is has = subst (λ (q : Result A E). IfOk q P) is has

pub on_value : {A E : Type 0} (P : Type 0) (r : Result A E) (x : A) → r ≡ Ok x → OnOk r P → P
on_value {A} {E} P r x is has = subst (λ (q : Result A E). OnOk q P) is has

-- what holds anyway
pub on_any : {A E : Type 0} (P : Type 0) (r : Result A E) → P → OnOk r P
on_any P (Ok x) is = is
on_any P (Err e) is = tt
