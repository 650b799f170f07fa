use Rattle.std.proofs.Common.{◌≡◌, ◌≢◌, ◌≤◌, ◌<◌, ◌-◌, get_or, length, []}
use Rattle.std.specs.declared.cmp.Ordering.TheVariants.{Greater}
use Rattle.btree_node.specs.Node.{items}
use Rattle.btree_node.specs.Levels.{key_of}
use Rattle.btree_edit.proofs.search.place.Given as goal

abbrev pub invariant-loop-low : goal.invariant-loop-low
invariant-loop-low g l = record {
  order : l.low ≤ l.high;
  within : l.high ≤ length (items l.node);
  before : 0 < l.low → g.K.KeyOrder.cmp (key_of (get_or (items l.node) (l.low - 1) [])) l.key ≢ Greater;
  key : 0 < l.low → g.K.KeyOrder.is_key (key_of (get_or (items l.node) (l.low - 1) []));
  behind : l.high < length (items l.node) → g.K.KeyOrder.cmp (key_of (get_or (items l.node) l.high [])) l.key ≡ Greater;
}

abbrev pub decreases-loop-low : goal.decreases-loop-low
decreases-loop-low g l = l.high - l.low
