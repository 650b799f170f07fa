use Rattle.std.proofs.Common.{◌≡◌, length}
use Rattle.cmd_lang.specs.Escapes.{AreDigits}
use Rattle.cmd_lang.proofs.escapes.digits.Given as goal

abbrev pub invariant-loop-digit : goal.invariant-loop-digit
invariant-loop-digit l = record {
  size : length l.table ≡ 256;
  made : AreDigits l.unit l.table;
}
