use Rattle.std.proofs.Common.{sym}
use Rattle.jnl_store.proofs.Batches.{has-names}
use Rattle.jnl_store.proofs.put_table.PutTable.has.Goals as goal

pub returns-in-Some : goal.returns-in-Some
returns-in-Some c = sym (has-names c.args.self.now.items c.in-Some._place c.args.at c.in-Some.ensures)
