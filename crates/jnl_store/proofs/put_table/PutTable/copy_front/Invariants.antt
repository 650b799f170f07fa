use Rattle.std.proofs.Common.{◌≡◌, length, take}
use Rattle.jnl_store.proofs.put_table.PutTable.copy_front.Given as goal

abbrev pub invariant-loop-k : goal.invariant-loop-k
invariant-loop-k l = record {
  items : l.self.items ≡ take l.k l.from.items;
  count : length l.self.items ≡ l.k;
  memory : l.self.memory ≡ l.fn.self.memory;
}
