use Rattle.std.proofs.Common.{◌≡◌, ◌<◌, ℕ, [], length, slice_index_or}
use Rattle.cmd_lang.specs.Spellings.{entry}
use Rattle.cmd_lang.proofs.spellings.spellings.Given as goal

abbrev pub invariant-loop-byte : goal.invariant-loop-byte
invariant-loop-byte l = record {
  size : length l.table ≡ 256;
  made : (b : ℕ) → b < l.byte → slice_index_or l.table b [] ≡ entry b;
}
