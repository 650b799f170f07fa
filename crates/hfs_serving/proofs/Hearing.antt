-- Watchers that were told something.
use Rattle.std.proofs.Common.{◌≡◌, Bool, Result, Ok, Err, false, List}
use Rattle.std.specs.Prelude.{IfOk, OnErr, OnOk}
use Rattle.std.specs.List.{AllByRecursion}
use Rattle.hfs_language.specs.declared.reply.Change.{Change}
use Rattle.watchers.specs.Told.{AreTold, nobody, left, stays}

-- those that are there stay
pub all_stay : {W : Type 0} (told : W → List Change) (leaves : W → Bool) (changes : List Change) (old new : List W) → AreTold told leaves changes old new → AllByRecursion (λ w. leaves w ≡ false) new
all_stay told leaves changes _ _ nobody = tt
all_stay told leaves changes _ new (left {v = v} {w = w} {old = old} {new = mid} front rest hears is gone others) = all_stay told leaves changes old new others
all_stay told leaves changes _ _ (stays {v = v} {w = w} {old = old} {new = new} hears still others) = (still, all_stay told leaves changes old new others)

pub no_ok_on : {T E : Type 0} (P : Type 0) (r : Result T E) (e : E) → r ≡ Err e → OnOk r P
no_ok_on P (Ok x) e is = absurd (cc is)
no_ok_on P (Err fault) e is = tt

-- a fault says nothing of Ok
pub no_ok : {T E : Type 0} (P : T → Type 0) (r : Result T E) (e : E) → r ≡ Err e → IfOk r P
no_ok P (Ok x) e is = absurd (cc is)
no_ok P (Err fault) e is = tt

pub err_then : {T E P Q : Type 0} (r : Result T E) → (P → Q) → OnErr r P → OnErr r Q
err_then (Ok x) goes p = tt
err_then (Err e) goes p = goes p
