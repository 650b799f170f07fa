use Rattle.std.proofs.Common.{◌≡◌, ◌<◌, ◌^◌, ℕ, take}
use Rattle.std.specs.Prelude.{decimal}
use Rattle.std.specs.Str.Parse.{digits_value}
use Rattle.fsck_core.proofs.names.read_number.Given as goal

abbrev pub invariant-loop-digit : goal.invariant-loop-digit
invariant-loop-digit l = record {
  value : (number : ℕ) → number < 2 ^ 32 → l.digits ≡ decimal number → l.number ≡ digits_value 10 (take l.digit-index l.digits);
}
