use Rattle.std.proofs.Common.{◌≡◌, map}
use Rattle.std.specs.Prelude.{if◌then◌else◌}
use Rattle.hfs_model.specs.Plain.{is_node}
use Rattle.hfs_model.specs.Change.{change_of}
use Rattle.hfs_model.proofs.changing.change_nodes.Given as goal

abbrev pub invariant-loop-node : goal.invariant-loop-node
invariant-loop-node l = l.changed ≡ map (λ node. if is_node l.id node then change_of l.moment l.change node else node) l.yielded
