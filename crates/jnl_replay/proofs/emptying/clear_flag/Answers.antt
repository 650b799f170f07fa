use Rattle.std.proofs.Common.{List, ℕ, ◌∙◌, ap}
use Rattle.sector_disk.specs.Disk.{content}
use Rattle.sector_disk.specs.Lists.{sector}
use Rattle.jnl_format.specs.Info.{with_info}
use Rattle.jnl_format.specs.declared.structures.Info.{Info}
use Rattle.jnl_replay.specs.Homing.{initialised}
use Rattle.sector_disk.specs.Disk.{OnlyReads}
use Rattle.sector_disk.proofs.Writing.{leaves_read}
use Rattle.jnl_replay.proofs.OneSector.{read_then_mixes}
use Rattle.jnl_replay.proofs.emptying.clear_flag.Goals as goal

pub returns-in_err-read-clause-crash : goal.returns-in_err-read-clause-crash
returns-in_err-read-clause-crash g c tells =
    let r = c.read.ensures in
    leaves_read _ (g.D.SectorDisk.state c.args.disk.now) (g.D.SectorDisk.state c.read.new.self)
    (record { candidates = r.candidates; barriers = r.barriers; faults = r.cause.later; same = r.same; sink = r.sink; time = r.time })

pub returns-clause-crash : goal.returns-clause-crash
returns-clause-crash g c tells =
    let s0 = g.D.SectorDisk.state c.args.disk.now in
    let s1 = g.D.SectorDisk.state c.read.new.self in
    let s2 = g.D.SectorDisk.state c.write_all_then_barrier.new.disk in
    let r = c.read.ensures in
    let plan = c.args.plan.now in
    let reads : OnlyReads s0 s1 = record { candidates = r.candidates; barriers = r.barriers; faults = r.cause.later; same = r.same; sink = r.sink; time = r.time } in
    read_then_mixes s0 s1 s2 plan.place.info_sector c.write_info.new.into (with_info (initialised plan.info) (sector (content s0) plan.place.info_sector)) reads
    (c.write_info.ensures.bytes ∙ ap (λ (i : Info). with_info i c.read.new.into) c.done.ensures ∙ ap (λ (b : List ℕ). with_info (initialised plan.info) b) (c.in_ok-read.ensures.value tells))
    c.write_all_then_barrier.ensures.crash
