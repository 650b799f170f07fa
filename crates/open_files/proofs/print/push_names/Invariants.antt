use Rattle.std.proofs.Common.{◌≡◌, ◌++◌, drop}
use Rattle.std.specs.List.{flat_map}
use Rattle.open_files.specs.Lines.{slashed}
use Rattle.open_files.proofs.print.push_names.Given as goal

abbrev pub invariant-loop-name : goal.invariant-loop-name
invariant-loop-name l = l.text.items ++ flat_map slashed (drop l.name-index l.names) ≡ l.fn.text.items ++ flat_map slashed l.names
