use Rattle.std.proofs.Common.{◌≡◌, ◌++◌, take, drop}
use Rattle.hfs_model.specs.Sorted.{put_before}
use Rattle.hfs_model.proofs.ordering.place_of.Given as goal

abbrev pub invariant-loop-at : goal.invariant-loop-at
invariant-loop-at g l = put_before g.T.Ordered.before l.item l.items ≡ take l.at l.items ++ put_before g.T.Ordered.before l.item (drop l.at l.items)
