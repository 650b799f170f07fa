use Rattle.std.proofs.Common.{length, ap}
use Rattle.jnl_store.specs.Cache.{Slots}
use Rattle.jnl_store.proofs.SpacedSame.{space_same}
use Rattle.jnl_store.proofs.space_calls.SpaceSectorSpace.fail.Goals as goal

pub returns-clause-same : goal.returns-clause-same
returns-clause-same g c =
    let s = c.count_fault.ensures in
    let f = c.fail.ensures in
    space_same _ _ c.args.self.now.store.now c.count_fault.new.self (g.D.SectorDisk.state c.args.self.now.disk.now) (g.D.SectorDisk.state c.fail.new.self)
    (record { plan = s.plan; batch = s.batch; unsettled = s.unsettled; slots = ap (λ (l : Slots). length l) s.slots }) f.candidates f.same f.sink f.barriers
