use Rattle.std.proofs.Common.{◌≡◌, length}
use Rattle.jnl_store.specs.Batch.{restored_front}
use Rattle.jnl_store.proofs.put_table.PutTable.restore.Given as goal

abbrev pub invariant-loop-k : goal.invariant-loop-k
invariant-loop-k l = record {
  items : l.self.items ≡ restored_front l.initial.self.items l.saved.items l.k;
  count : length l.self.items ≡ length l.initial.self.items;
  memory : l.self.memory ≡ l.initial.self.memory;
}
