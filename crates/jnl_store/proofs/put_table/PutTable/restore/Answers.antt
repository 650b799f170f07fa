use Rattle.std.proofs.Common.{refl}
use Rattle.jnl_store.proofs.Saved.{front_none}
use Rattle.jnl_store.proofs.put_table.PutTable.restore.Goals as goal

pub loop-k-init : goal.loop-k-init
loop-k-init c = record { items = front_none c.args.self.now.items c.args.saved.now.items; count = refl; memory = refl }
