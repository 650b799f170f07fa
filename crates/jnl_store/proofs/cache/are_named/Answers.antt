use Rattle.std.proofs.Common.{arith}
use Rattle.jnl_store.proofs.cache.are_named.Goals as goal

pub returns : goal.returns
returns c told k below = c.loop-i.invariant.named k (omega (arith, below, c.loop-i-test.false))
