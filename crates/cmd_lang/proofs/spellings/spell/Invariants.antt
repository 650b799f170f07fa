use Rattle.std.proofs.Common.{◌≡◌, ◌≤◌, ◌*◌, length, take}
use Rattle.std.specs.List.{flat_map}
use Rattle.hfs_language.specs.Text as spec
use Rattle.cmd_lang.proofs.spellings.spell.Given as goal

abbrev pub invariant-loop-byte : goal.invariant-loop-byte
invariant-loop-byte l = record {
  within : l.at ≤ 3 * l.byte-index;
  size : length l.room ≡ length l.fn.room;
  text : take l.at l.room ≡ flat_map spec.byte_text (take l.byte-index l.piece);
}
