use Rattle.std.proofs.Common.{◌≡◌, ◌≤◌, ◌*◌, length, drop}
use Rattle.std.specs.Cmp.Lexicographic.{slice_cmp}
use Rattle.std.specs.Ordering.{nat_cmp}
use Rattle.btree_node.specs.Keys.{units}
use Rattle.btree_node.proofs.keys.compare_units.Given as goal

abbrev pub invariant-loop-i : goal.invariant-loop-i
invariant-loop-i l = record {
  first : l.both ≤ length l.first;
  second : l.both ≤ length l.second;
  rest : slice_cmp nat_cmp (units (drop (2 * l.i) l.a)) (units (drop (2 * l.i) l.b)) ≡ slice_cmp nat_cmp (units l.a) (units l.b);
}
