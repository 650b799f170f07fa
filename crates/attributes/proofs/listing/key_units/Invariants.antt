use Rattle.std.proofs.Common.{◌≡◌, ◌≤◌, ◌-◌, ◌+◌, ◌++◌, length, drop}
use Rattle.btree_node.specs.Keys.{units, attr_units}
use Rattle.attributes.proofs.listing.key_units.Given as goal

abbrev pub decreases-loop-at : goal.decreases-loop-at
decreases-loop-at l = length l.key + 2 - l.at

abbrev pub invariant-loop-at : goal.invariant-loop-at
invariant-loop-at l = record {
  small : l.at ≤ length l.key + 14;
  read : attr_units l.key ≡ l.units ++ units (drop l.at l.key);
}
