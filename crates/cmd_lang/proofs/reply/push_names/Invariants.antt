use Rattle.std.proofs.Common.{◌≡◌, ◌++◌, drop}
use Rattle.std.specs.List.{flat_map}
use Rattle.hfs_language.specs.Text as spec
use Rattle.cmd_lang.proofs.reply.push_names.Given as goal

abbrev pub invariant-loop-name : goal.invariant-loop-name
invariant-loop-name l = l.text.items ++ flat_map spec.listed_text (drop l.name-index l.names) ≡ l.fn.text.items ++ flat_map spec.listed_text l.names
