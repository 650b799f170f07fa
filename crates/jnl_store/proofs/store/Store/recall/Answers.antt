use Rattle.std.proofs.Common.{arith}
use Rattle.jnl_store.proofs.Slots.{recalled_from}
use Rattle.jnl_store.proofs.store.Store.recall.Goals as goal

pub returns : goal.returns
returns c = recalled_from c.args.self.now c.args.at c.get.result (omega (arith, c.if-self-gt0.false)) c.get.ensures
