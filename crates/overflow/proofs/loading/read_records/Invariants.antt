use Rattle.std.proofs.Common.{◌≡◌, ◌≤◌, ◌-◌, ◌++◌, length, map, take}
use Rattle.std.specs.Prelude.{IsTrue}
use Rattle.btree_edit.specs.Desk.{IsDeskOf}
use Rattle.hfs_model.specs.Sorted.{kept}
use Rattle.overflow.specs.Reading.{OnlyReads, is_behind, fork_records}
use Rattle.overflow.specs.Records.{under}
use Rattle.overflow.proofs.loading.read_records.Given as goal

abbrev pub invariant-loop : goal.invariant-loop
invariant-loop g l = let before = g.N.NodeStore.state l.fn.store in record {
  desk : IsDeskOf before.shape.node_size l.desk;
  reads : OnlyReads before (g.N.NodeStore.state l.store);
  few : length l.records.items ≤ l.counter;
  found : IsTrue before.tells → map (under l.id l.fork) l.records.items ++ take (l.most - l.counter) (kept (is_behind l.start) (fork_records l.id l.fork before)) ≡ take l.most (kept (is_behind 0) (fork_records l.id l.fork before));
  later : before.faults ≤ (g.N.NodeStore.state l.store).faults;
  below : g.N.NodeStore.follows l.fn.store l.store;
}
