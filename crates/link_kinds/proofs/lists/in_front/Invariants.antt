use Rattle.std.proofs.Common.{◌≡◌, ◌++◌}
use Rattle.std.specs.Prelude.{reverse, vec_len}
use Rattle.link_kinds.proofs.lists.in_front.Given as goal

abbrev pub invariant-loop-component : goal.invariant-loop-component
invariant-loop-component l = l.components.items ++ reverse l.left.items ≡ l.fn.components.items ++ reverse l.fn.left.items

abbrev pub decreases-loop-component : goal.decreases-loop-component
decreases-loop-component l = vec_len l.components
