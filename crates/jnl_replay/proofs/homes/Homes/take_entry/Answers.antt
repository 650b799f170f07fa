use Rattle.std.proofs.Common.{arith}
use Rattle.sector_disk.specs.Disk.{content}
use Rattle.jnl_replay.specs.Text.{words}
use Rattle.jnl_replay.proofs.Pendings.{entry_fits, pend_entry}
use Rattle.jnl_replay.proofs.Texts.{length-words}
use Rattle.jnl_replay.proofs.homes.Homes.take_entry.Goals as goal

pub returns-then-self-lt16-clause-goes : goal.returns-then-self-lt16-clause-goes
returns-then-self-lt16-clause-goes g c tells volume homes p =
    let s0 = g.D.SectorDisk.state c.args.disk.now in
    let t = c.args.self.now.text in
    let long = length-words s0 t (g.met.D.SectorDisk.well_formed c.args.disk.now) tells c.requires.text in
    let f = entry_fits volume (words t (content s0)) c.args.self.now homes p c.requires.none c.requires.some in
    absurd (omega (arith, long, f.0, c.if-self-lt16.true))

pub returns-clause-goes : goal.returns-clause-goes
returns-clause-goes g c tells volume homes p =
    let s0 = g.D.SectorDisk.state c.args.disk.now in
    let t = c.args.self.now.text in
    pend_entry volume (words t (content s0)) c.args.self.now homes p c.requires.none c.requires.some c.in_ok-entry.entry c.from-size.result c.kept_sectors-self.result
    (c.in_ok-entry.ensures.value tells) c.from-size.ensures c.kept_sectors-self.ensures
