use Rattle.std.proofs.Common.{◌<◌, arith}
use Rattle.jnl_store.proofs.Sides.{held_run}
use Rattle.jnl_store.proofs.cache.Cache.held.Goals as goal

pub returns : goal.returns
returns c =
    let names = c.self.inside.names.items in
    let some : 0 < c.len-count.result = omega (arith, c.if-count-eq0.false) in
    held_run names c.deref.result.now c.self.inside.bytes.items c.deref-2.result.now c.args.self.now c.len-count.result c.args.at c.args.many c.as_flattened.result.now c.self.invariant.slots c.self.view_is (omega (arith, c.len-count.ensures, c.self.inside.names.ok.0)) some
    (omega (arith, c.if-count-first.false)) c.deref.ensures.value c.deref-2.ensures.value (c.are_named.ensures c.if-not-are_named.false) c.as_flattened.ensures.value
