use Rattle.std.proofs.Common.{◌∷◌, [], arith}
use Rattle.sector_disk.specs.Disk.{content}
use Rattle.jnl_replay.specs.Viewing.{shown, view_size}
use Rattle.volume_look.proofs.reading.ReadOnlySectorView.get.Goals as goal

pub returns-then-read_put-clause-value : goal.returns-then-read_put-clause-value
returns-then-read_put-clause-value g c tells =
    let disk = c.args.self.now.disk.now in
    let state = g.D.SectorDisk.state disk in
    let peek = c.args.self.now.peek.now in
    c.read_put.ensures.found (shown peek state.sectors (content state)) (omega (arith, c.requires, view_size (c.args.self.now.disk.ghost_name ∷ []) peek state (g.met.D.SectorDisk.well_formed disk) tells)) c.if-read_put.true
