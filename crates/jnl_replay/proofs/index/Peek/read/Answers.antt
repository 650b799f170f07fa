use Rattle.std.proofs.Common.{◌<◌, length, arith, ◌∙◌, ap}
use Rattle.jnl_format.specs.Text.{bytes_at}
use Rattle.jnl_replay.specs.Text.{words}
use Rattle.sector_disk.specs.Disk.{content}
use Rattle.jnl_replay.proofs.Checks.{length-content}
use Rattle.jnl_replay.proofs.Common.{on_ok}
use Rattle.jnl_replay.proofs.Views.{view_some, view_none}
use Rattle.jnl_replay.proofs.index.Peek.read.Goals as goal

pub returns-in-Some-clause-value : goal.returns-in-Some-clause-value
returns-in-Some-clause-value g c tells =
    let disk = c.args.disk.now in
    let s0 = g.D.SectorDisk.state disk in
    let inside : c.args.at < length (content s0) = omega (arith, length-content s0 (g.met.D.SectorDisk.well_formed disk) tells, c.requires) in
    on_ok _ _ c.read_text.result
    (λ e. view_some c.args.self.now (content s0) s0.sectors c.sectors-sectors.result c.args.at c.in-Some.place c.read_text.new.into c.sectors-sectors.ensures inside c.in-Some.ensures.place (e ∙ ap (λ n. bytes_at (words c.args.self.now.text (content s0)) c.in-Some.place n) c.told-into))
    (c.read_text.ensures.value tells)

pub returns-in-None-clause-value : goal.returns-in-None-clause-value
returns-in-None-clause-value g c tells =
    let disk = c.args.disk.now in
    let s0 = g.D.SectorDisk.state disk in
    let inside : c.args.at < length (content s0) = omega (arith, length-content s0 (g.met.D.SectorDisk.well_formed disk) tells, c.requires) in
    on_ok _ _ c.read.result
    (λ e. view_none c.args.self.now (content s0) s0.sectors c.sectors-sectors.result c.args.at c.read.new.into c.sectors-sectors.ensures inside c.in-None.ensures.place e)
    (c.read.ensures.value tells)
