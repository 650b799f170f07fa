use Rattle.std.proofs.Common.{◌≡◌, ◌+◌, ◌-◌, length, take}
use Rattle.btree_node.specs.Node.{IsNode, SameHead, items}
use Rattle.btree_edit.proofs.splitting.keep_first.Given as goal

abbrev pub invariant-loop-i : goal.invariant-loop-i
invariant-loop-i l = record {
  items : items l.node ≡ take (length (items l.fn.node) + l.many - l.i) (items l.fn.node);
  cut : IsNode l.node;
  head : SameHead l.fn.node l.node;
}
