use Rattle.std.proofs.Common.{sym, ◌∙◌}
use Rattle.sector_disk.specs.Disk.{content}
use Rattle.jnl_replay.proofs.Copies.{other_stays, write_stays}
use Rattle.jnl_replay.proofs.buffering.BufferedDiskSectorDisk.write.Goals as goal

pub invariant_of-self : goal.invariant_of-self
invariant_of-self g c =
    let self = c.args.self.now in
    let s0 = g.D.SectorDisk.state self.disk.now in
    let s1 = g.D.SectorDisk.state c.write.new.self in
    let e = c.write.ensures in
    let stays = write_stays c.write.result s0.candidates s1.candidates c.args.at c.args.from.now e.written e.unsure in
    record {
      fresh = λ tells.
          let f = self.fresh (sym e.same.tells ∙ tells) in (
            other_stays (content s0) (content s1) c.args.at c.unless_of-self.result stays (c.unless_of-self.ensures (content s0) f.0),
            other_stays (content s0) (content s1) c.args.at c.unless_of-self-2.result stays (c.unless_of-self-2.ensures (content s0) f.1),
          );
    }
