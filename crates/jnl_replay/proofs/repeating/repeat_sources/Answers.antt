use Rattle.std.proofs.Common.{◌∙◌}
use Rattle.sector_disk.proofs.Writing.{sink_after}
use Rattle.jnl_replay.proofs.Repeated.{repeats_both}
use Rattle.jnl_replay.proofs.repeating.repeat_sources.Goals as goal

pub returns-in_err-repeat_sector-3-clause-repeats : goal.returns-in_err-repeat_sector-3-clause-repeats
returns-in_err-repeat_sector-3-clause-repeats g c tells =
    let s0 = g.D.SectorDisk.state c.args.disk.now in
    let s1 = g.D.SectorDisk.state c.repeat_sector.new.disk in
    let s2 = g.D.SectorDisk.state c.repeat_sector-2.new.disk in
    let s3 = g.D.SectorDisk.state c.repeat_sector-3.new.disk in
    let a = c.repeat_sector.ensures in
    let b = c.repeat_sector-2.ensures in
    let t2 = b.same.tells ∙ a.same.tells ∙ tells in
    repeats_both s0 s2 s3 (sink_after s0 s1 s2 a.sink b.sink) (repeats_both s0 s1 s2 a.sink (a.repeats tells) (b.repeats (a.same.tells ∙ tells))) (c.repeat_sector-3.ensures.repeats t2)

pub returns-clause-repeats : goal.returns-clause-repeats
returns-clause-repeats g c tells =
    let s0 = g.D.SectorDisk.state c.args.disk.now in
    let s1 = g.D.SectorDisk.state c.repeat_sector.new.disk in
    let s2 = g.D.SectorDisk.state c.repeat_sector-2.new.disk in
    let s3 = g.D.SectorDisk.state c.repeat_sector-3.new.disk in
    let s4 = g.D.SectorDisk.state c.repeat_text.new.disk in
    let a = c.repeat_sector.ensures in
    let b = c.repeat_sector-2.ensures in
    let d = c.repeat_sector-3.ensures in
    let sink2 = sink_after s0 s1 s2 a.sink b.sink in
    let t2 = b.same.tells ∙ a.same.tells ∙ tells in
    let three = repeats_both s0 s2 s3 sink2 (repeats_both s0 s1 s2 a.sink (a.repeats tells) (b.repeats (a.same.tells ∙ tells))) (d.repeats t2) in
    repeats_both s0 s3 s4 (sink_after s0 s2 s3 sink2 d.sink) three (c.repeat_text.ensures.repeats (d.same.tells ∙ t2))
