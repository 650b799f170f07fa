use Rattle.std.proofs.Common.{◌≡◌, ◌++◌, drop}
use Rattle.btree_node.specs.Node.{IsNode, SameHead, items}
use Rattle.btree_edit.specs.Halves.{put_of, with_put}
use Rattle.btree_edit.proofs.splitting.fill_back.Given as goal

abbrev pub invariant-loop-i : goal.invariant-loop-i
invariant-loop-i l = let records = with_put (items l.node) l.at (put_of l.count l.first l.second) in record {
  items : items l.other ++ drop l.i records ≡ drop l.from records;
  cut : IsNode l.other;
  head : SameHead l.fn.other l.other;
}
