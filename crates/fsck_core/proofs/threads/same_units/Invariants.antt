use Rattle.std.proofs.Common.{◌≡◌, ◌≤◌, ◌+◌, ◌-◌, length, drop}
use Rattle.std.specs.Str.{bytes_eq}
use Rattle.btree_node.specs.Keys.{units}
use Rattle.fsck_core.proofs.threads.same_units.Given as goal

abbrev pub decreases-loop-at : goal.decreases-loop-at
decreases-loop-at l = length l.one - l.at

abbrev pub invariant-loop-at : goal.invariant-loop-at
invariant-loop-at l = record {
  within : l.at ≤ length l.one + 16;
  inside : l.place ≤ length l.other + 16;
  rest : bytes_eq (units (drop l.at l.one)) (units (drop l.place l.other)) ≡ bytes_eq (units (drop l.from l.one)) (units (drop l.there l.other));
}
