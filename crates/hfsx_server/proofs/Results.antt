-- Results, case by case.
use Rattle.std.proofs.Common.{Result, Ok, Err}
use Rattle.std.specs.Prelude.{IfOk, OnOk, OnErr}

-- what follows from the value holds of it
pub if_ok : {T E : Type 0} (P Q : T → Type 0) (r : Result T E) → IfOk r P → ((x : T) → P x → Q x) → IfOk r Q
if_ok P Q (Ok x) holds follows = follows x holds
if_ok P Q (Err e) holds follows = tt

pub on_ok : {T E : Type 0} (P Q : Type 0) (r : Result T E) → OnOk r P → (P → Q) → OnOk r Q
on_ok P Q (Ok x) holds follows = follows holds
on_ok P Q (Err e) holds follows = tt

pub on_ok_of : {T E : Type 0} (P : Type 0) (r : Result T E) → P → OnOk r P
on_ok_of P (Ok x) holds = holds
on_ok_of P (Err e) holds = tt

pub on_err_of : {T E : Type 0} (P : Type 0) (r : Result T E) → P → OnErr r P
on_err_of P (Ok x) holds = tt
on_err_of P (Err e) holds = holds
