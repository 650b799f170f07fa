use Rattle.std.proofs.Common.{arith}
use Rattle.sector_disk.specs.Disk.{content}
use Rattle.jnl_replay.specs.Text.{words}
use Rattle.jnl_replay.proofs.Pendings.{at_end}
use Rattle.jnl_replay.proofs.Texts.{length-words}
use Rattle.jnl_replay.proofs.homes.Homes.step.Goals as goal

pub returns-else-self-clause-goes : goal.returns-else-self-clause-goes
returns-else-self-clause-goes g c tells volume homes p =
    let s0 = g.D.SectorDisk.state c.args.disk.now in
    let t = c.args.self.now.text in
    let long = length-words s0 t (g.met.D.SectorDisk.well_formed c.args.disk.now) tells c.requires.text in
    at_end volume (words t (content s0)) c.args.self.now homes p c.requires.none (omega arith) (omega (arith, long))
