use Rattle.std.proofs.Common.{◌≤◌, length}
use Rattle.cmd_lang.specs.Written.{IsReadUpTo}
use Rattle.cmd_lang.proofs.reading.read_pieces.Given as goal

abbrev pub invariant-loop : goal.invariant-loop
invariant-loop l = record {
  within : l.at ≤ length l.text;
  read : IsReadUpTo l.text l.at l.value.items;
}
