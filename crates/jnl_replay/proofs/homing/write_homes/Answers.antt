use Rattle.std.proofs.Common.{rules, arith}
use Rattle.sector_disk.specs.Disk.{CrashesLeave, content}
use Rattle.jnl_replay.specs.Homing.{IsHomeMix}
use Rattle.jnl_replay.specs.Text.{words}
use Rattle.jnl_replay.proofs.Copies.{leaves_behind}
use Rattle.jnl_replay.proofs.homing.write_homes.Goals as goal

pub returns-clause-crash : goal.returns-clause-crash
returns-clause-crash g c tells volume homes are =
    let s0 = g.D.SectorDisk.state c.args.disk.now in
    let s1 = g.D.SectorDisk.state c.write_each.new.disk.disk.now in
    let mix = IsHomeMix (words c.args.text.now (content s0)) homes s0.candidates in
    let h : CrashesLeave s0 s1 mix = leaves_behind _ _ s0 s1 mix (c.write_each.ensures.crash tells volume homes are) in
    first_of (search (rules, h), assumption h, first_of (grind (arith, h), cc))
