use Rattle.std.proofs.Common.{◌≡◌, ◌++◌, take}
use Rattle.volume_names.proofs.node_names.append_digits.Given as goal

abbrev pub invariant-loop-digit : goal.invariant-loop-digit
invariant-loop-digit l = l.name ≡ l.fn.name ++ take l.digit-index l.digits
