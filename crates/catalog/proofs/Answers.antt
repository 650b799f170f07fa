-- What answers of calls say.
use Rattle.std.proofs.Common.{◌≡◌, ◌∙◌}
use Rattle.std.specs.Prelude.{Result, Ok, Err, IfOk}

-- an answer that is some value is another that is the same
pub ok_is : {T E : Type 0} (result : Result T E) (is same : T) → IfOk result (λ found. found ≡ is) → is ≡ same → IfOk result (λ found. found ≡ same)
ok_is (Ok found) is same known equal = known ∙ equal
ok_is (Err why) is same known equal = known
