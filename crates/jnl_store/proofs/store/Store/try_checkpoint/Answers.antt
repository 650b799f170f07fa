use Rattle.jnl_store.proofs.Composed.{settled_empty}
use Rattle.jnl_store.proofs.store.Store.try_checkpoint.Goals as goal

pub returns-then-self-clause-done : goal.returns-then-self-clause-done
returns-then-self-clause-done g c tells =
    let s0 = g.D.SectorDisk.state c.args.disk.now in
    settled_empty c.flush_spills.result c.args.self.now c.flush_spills.new.self s0 (g.D.SectorDisk.state c.flush_spills.new.disk) c.if-self.true c.flush_spills.ensures.plan (c.flush_spills.ensures.done (tells, c.requires.keeps tells))
