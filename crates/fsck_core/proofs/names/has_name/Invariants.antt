use Rattle.std.proofs.Common.{◌≡◌, ◌≤◌, ◌+◌, length, drop}
use Rattle.std.specs.Str.{bytes_eq}
use Rattle.btree_node.specs.Keys.{units}
use Rattle.fsck_core.proofs.names.has_name.Given as goal

abbrev pub invariant-loop-unit : goal.invariant-loop-unit
invariant-loop-unit l = record {
  within : l.at ≤ length l.key + 8;
  rest : bytes_eq (units (drop l.at l.key)) (drop l.unit-index l.name) ≡ bytes_eq (units (drop 8 l.key)) l.name;
}
