use Rattle.std.proofs.Common.{◌≡◌, ◌≤◌, ◌+◌, ◌-◌, ◌++◌, length, drop}
use Rattle.btree_node.specs.Keys.{units}
use Rattle.volume_space.proofs.temp_names.key_units.Given as goal

abbrev pub decreases-loop-at : goal.decreases-loop-at
decreases-loop-at l = length l.key + 8 - l.at

abbrev pub invariant-loop-at : goal.invariant-loop-at
invariant-loop-at l = record {
  within : l.at ≤ length l.key + 8;
  rest : l.units ++ units (drop l.at l.key) ≡ units (drop 8 l.key);
}
