use Rattle.std.proofs.Common.{arith}
use Rattle.jnl_store.proofs.Sides.{emptied}
use Rattle.jnl_store.proofs.cache.Cache.empty.Goals as goal

pub returns : goal.returns
returns c = emptied c.self.inside.names.items c.self.inside.bytes.items c.args.self.now c.len.result c.args.at c.self.view_is (omega (arith, c.len.ensures, c.self.inside.names.ok.0))
