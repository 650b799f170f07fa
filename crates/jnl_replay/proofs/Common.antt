-- Small steps that many answers take.
use Rattle.std.proofs.Common.{◌≡◌, Result, Ok, Err, OnOk, subst, refl}
use Rattle.std.specs.Prelude.{Option, None, Some, IfSome}

pub on_ok : {T E : Type 0} (P Q : Type 0) (result : Result T E) → (P → Q) → OnOk result P → OnOk result Q
on_ok P Q (Ok x) goes h = goes h
on_ok P Q (Err e) goes h = tt

pub at_some : {T : Type 0} (P : T → Type 0) (o : Option T) (x : T) → o ≡ Some x → IfSome o P → P x
at_some P o x is h = subst (λ y. IfSome y P) is h

pub no_some : {T : Type 0} (o : Option T) → ((x : T) → o ≡ Some x → ⊥) → o ≡ None
no_some None never = refl
no_some (Some x) never = absurd (never x refl)
