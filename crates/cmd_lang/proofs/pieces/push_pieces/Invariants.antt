use Rattle.std.proofs.Common.{◌≡◌, ◌++◌}
use Rattle.std.specs.List.{flat_map}
use Rattle.hfs_language.specs.Text as spec
use Rattle.cmd_lang.proofs.pieces.push_pieces.Given as goal

abbrev pub invariant-loop : goal.invariant-loop
invariant-loop l = l.text.items ++ flat_map spec.byte_text l.rest ≡ l.fn.text.items ++ flat_map spec.byte_text l.value
