-- What answers of calls say.
use Rattle.std.proofs.Common.{◌≡◌, ◌∙◌}
use Rattle.std.specs.Prelude.{Result, Ok, Err, IfOk, OnOk}

-- an answer that is some value is another that is the same
pub ok_is : {T E : Type 0} (result : Result T E) (is same : T) → IfOk result (λ found. found ≡ is) → is ≡ same → IfOk result (λ found. found ≡ same)
ok_is (Ok found) is same known equal = known ∙ equal
ok_is (Err why) is same known equal = known

pub on_ok : {T E : Type 0} {P Q : Type 0} (result : Result T E) → (P → Q) → OnOk result P → OnOk result Q
on_ok (Ok found) then known = then known
on_ok (Err why) then known = tt

-- what holds of each answer holds where there is one
pub from_answer : {T E : Type 0} {P : T → Type 0} {Q : Type 0} (result : Result T E) → ((answer : T) → P answer → Q) → IfOk result P → OnOk result Q
from_answer (Ok found) then known = then found known
from_answer (Err why) then known = tt

pub if_ok : {T E : Type 0} {P Q : T → Type 0} (result : Result T E) → ((answer : T) → P answer → Q answer) → IfOk result P → IfOk result Q
if_ok (Ok found) then known = then found known
if_ok (Err why) then known = tt
