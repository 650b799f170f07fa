use Rattle.std.proofs.Common.{◌≡◌, ◌++◌, drop}
use Rattle.std.specs.List.{flat_map}
use Rattle.hfs_language.specs.Text as spec
use Rattle.cmd_lang.proofs.pieces.push_each.Given as goal

abbrev pub invariant-loop-byte : goal.invariant-loop-byte
invariant-loop-byte l = l.text.items ++ flat_map spec.byte_text (drop l.byte-index l.value) ≡ l.fn.text.items ++ flat_map spec.byte_text l.value
