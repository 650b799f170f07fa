use Rattle.std.proofs.Common.{refl}
use Rattle.jnl_store.proofs.Settling.{barrier_quiet, settles, still_quiet}
use Rattle.jnl_store.proofs.store.Store.flush_spills.Goals as goal

pub returns-in_err-barrier-clause-crash : goal.returns-in_err-barrier-clause-crash
returns-in_err-barrier-clause-crash g c k =
    let s0 = g.D.SectorDisk.state c.args.disk.now in
    let s1 = g.D.SectorDisk.state c.barrier.new.self in
    barrier_quiet c.barrier.result c.args.self.now s0 s1 k (g.met.D.SectorDisk.well_formed c.args.disk.now) c.barrier.ensures.sink c.barrier.ensures.settled c.barrier.ensures.failed c.barrier.ensures.time

pub returns-in_ok-barrier-clause-crash : goal.returns-in_ok-barrier-clause-crash
returns-in_ok-barrier-clause-crash g c k =
    let s0 = g.D.SectorDisk.state c.args.disk.now in
    let s1 = g.D.SectorDisk.state c.barrier.new.self in
    barrier_quiet c.barrier.result c.args.self.now s0 s1 k (g.met.D.SectorDisk.well_formed c.args.disk.now) c.barrier.ensures.sink c.barrier.ensures.settled c.barrier.ensures.failed c.barrier.ensures.time

pub returns-in_ok-barrier-clause-done : goal.returns-in_ok-barrier-clause-done
returns-in_ok-barrier-clause-done g c k =
    let s0 = g.D.SectorDisk.state c.args.disk.now in
    let s1 = g.D.SectorDisk.state c.barrier.new.self in
    settles c.args.self.now _ s0 s1 k (g.met.D.SectorDisk.well_formed c.args.disk.now) c.barrier.ensures.same c.in_ok-barrier.ensures.settled refl refl

pub returns-else-self-clause-crash : goal.returns-else-self-clause-crash
returns-else-self-clause-crash g c k = still_quiet c.args.self.now (g.D.SectorDisk.state c.args.disk.now) k (g.met.D.SectorDisk.well_formed c.args.disk.now)

pub returns-else-self-clause-done : goal.returns-else-self-clause-done
returns-else-self-clause-done g c k =
    let s0 = g.D.SectorDisk.state c.args.disk.now in
    settles c.args.self.now c.args.self.now s0 s0 k (g.met.D.SectorDisk.well_formed c.args.disk.now) (record { tells = refl; tells_left = refl; names = refl; sectors = refl }) (k.1.settled c.if-self.false) refl refl
