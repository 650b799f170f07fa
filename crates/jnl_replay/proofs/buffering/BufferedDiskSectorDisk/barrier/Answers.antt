use Rattle.std.proofs.Common.{sym, ◌∙◌}
use Rattle.sector_disk.specs.Disk.{content}
use Rattle.jnl_replay.proofs.Copies.{barrier_stays, copy_stays}
use Rattle.jnl_replay.proofs.buffering.BufferedDiskSectorDisk.barrier.Goals as goal

pub invariant_of-self : goal.invariant_of-self
invariant_of-self g c =
    let self = c.args.self.now in
    let s0 = g.D.SectorDisk.state self.disk.now in
    let s1 = g.D.SectorDisk.state c.barrier.new.self in
    let e = c.barrier.ensures in
    let same = barrier_stays c.barrier.result s0 s1 e.settled e.failed in
    record { fresh = λ tells. let f = self.fresh (sym e.same.tells ∙ tells) in (copy_stays (content s0) (content s1) self.last same f.0, copy_stays (content s0) (content s1) self.before same f.1) }
