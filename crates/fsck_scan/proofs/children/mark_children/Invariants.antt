use Rattle.std.proofs.Common.{◌≡◌, ◌<◌, take}
use Rattle.std.specs.List.{All}
use Rattle.fsck_scan.specs.Marks.{MarksAll, children_of}
use Rattle.fsck_scan.proofs.children.mark_children.Given as goal

abbrev pub invariant-loop-k : goal.invariant-loop-k
invariant-loop-k l = record {
  nodes : l.nodes.items ≡ take l.k (children_of l.records);
  inside : All (λ n. n < l.total) l.nodes.items;
  marks : MarksAll l.nodes.items l.fn.marks l.marks;
}
