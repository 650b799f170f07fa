use Rattle.std.proofs.Common.{◌≡◌, ◌≤◌, ◌-◌, ◌+◌, length, drop}
use Rattle.btree_node.specs.Keys.{units, attr_units}
use Rattle.attributes.proofs.pair.has_same_units.Given as goal

abbrev pub decreases-loop-at : goal.decreases-loop-at
decreases-loop-at l = length l.key + 2 - l.at

abbrev pub invariant-loop-at : goal.invariant-loop-at
invariant-loop-at l = record {
  small : l.at ≤ length l.key + 14;
  on : attr_units l.key ≡ attr_units l.other → units (drop l.at l.key) ≡ units (drop l.at l.other);
  back : units (drop l.at l.key) ≡ units (drop l.at l.other) → attr_units l.key ≡ attr_units l.other;
}
