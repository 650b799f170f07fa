use Rattle.std.proofs.Common.{◌∙◌, ap}
use Rattle.sector_disk.specs.Lists.{Content}
use Rattle.sector_disk.specs.Disk.{IsImage, content, only}
use Rattle.jnl_replay.proofs.Common.{on_ok}
use Rattle.jnl_replay.proofs.Repeated.{newest}
use Rattle.jnl_replay.proofs.Stretches.{barrier_either, leaves_barrier}
use Rattle.jnl_replay.proofs.repeating.settle_again.Goals as goal

pub returns-clause-settled : goal.returns-clause-settled
returns-clause-settled g c tells = on_ok _ _ c.barrier.result (λ is. is ∙ ap (λ (d : Content). only d) (c.repeat_sources.ensures.repeats tells).content) c.barrier.ensures.settled

pub returns-clause-crash : goal.returns-clause-crash
returns-clause-crash g c tells =
    let s0 = g.D.SectorDisk.state c.args.disk.now in
    let s1 = g.D.SectorDisk.state c.repeat_sources.new.disk in
    let s2 = g.D.SectorDisk.state c.barrier.new.self in
    let e = c.repeat_sources.ensures in
    let first = (e.repeats tells).crash in
    leaves_barrier s0 s1 s2 (IsImage s0.candidates) first e.sink c.barrier.ensures.sink c.barrier.ensures.time
    (barrier_either s1 s2 (IsImage s0.candidates) c.barrier.result first.now c.barrier.ensures.settled c.barrier.ensures.failed
    (λ came. first.now (content s1) (newest s1 (g.met.D.SectorDisk.well_formed c.repeat_sources.new.disk))))
