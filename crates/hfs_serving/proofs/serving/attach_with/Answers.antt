use Rattle.std.proofs.Common.{ap, length, arith}
use Rattle.hfs_serving.proofs.Attachable.{attached_store}
use Rattle.hfs_serving.proofs.serving.attach_with.Goals as goal

pub returns : goal.returns
returns g c disk fits =
    let first = c.in_ok-store.ensures in
    attached_store c.in_ok-store.store c.begin.new.self c.args.plan.now (g.D.SectorDisk.state disk) (g.met.D.SectorDisk.well_formed disk) first.plan c.begin.ensures.rest c.begin.ensures.puts first.nothing.0 first.no_list first.faults
    (first.still_fits (g.D.SectorDisk.state disk).sectors fits) fits first.durable c.capacity-capacity.result c.capacity-capacity.ensures c.in_ok-begin.ensures.room
    (c.begin.ensures.within c.capacity-capacity.result (omega (arith, first.nothing.2, ap length first.nothing.0)) (omega (arith, ap length first.nothing.0))) first.keeps c.begin.ensures.keeps
