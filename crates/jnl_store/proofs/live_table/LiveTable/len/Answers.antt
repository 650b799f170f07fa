use Rattle.std.proofs.Common.{◌≡◌, length, ap, arith}
use Rattle.jnl_store.specs.Placed.{Placed, beside}
use Rattle.jnl_store.proofs.Places.{length-beside}
use Rattle.jnl_store.proofs.live_table.LiveTable.len.Goals as goal

pub returns : goal.returns
returns c =
    let i = c.self.inside in
    let e : beside i.index.sectors i.places.items ≡ c.args.self.now.homes = ap (λ (t : Placed). t.homes) c.self.view_is in
    omega (arith, c.len.ensures.count, length-beside i.index.sectors i.places.items c.self.invariant.as_many, ap length e)
