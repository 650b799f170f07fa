use Rattle.std.proofs.Common.{◌≡◌, length}
use Rattle.cmd_lang.specs.Escapes.{AreKinds}
use Rattle.cmd_lang.proofs.escapes.kinds.Given as goal

abbrev pub invariant-loop-byte : goal.invariant-loop-byte
invariant-loop-byte l = record {
  size : length l.table ≡ 513;
  made : AreKinds l.table;
}
