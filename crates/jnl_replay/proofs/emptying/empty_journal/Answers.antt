use Rattle.std.proofs.Common.{◌/◌, ◌++◌, drop, List, ℕ, ◌∙◌, ap}
use Rattle.sector_disk.specs.Disk.{content}
use Rattle.jnl_format.specs.Header.{header_bytes}
use Rattle.jnl_format.specs.declared.structures.Header.{Header}
use Rattle.jnl_replay.specs.Homing.{emptied, empty_header}
use Rattle.sector_disk.specs.Disk.{OnlyReads}
use Rattle.sector_disk.proofs.Writing.{leaves_read}
use Rattle.jnl_replay.proofs.OneSector.{read_then_mixes}
use Rattle.jnl_replay.proofs.emptying.empty_journal.Goals as goal

pub returns-in_err-read-clause-crash : goal.returns-in_err-read-clause-crash
returns-in_err-read-clause-crash g c tells =
    let r = c.read.ensures in
    leaves_read _ (g.D.SectorDisk.state c.args.disk.now) (g.D.SectorDisk.state c.read.new.self)
    (record { candidates = r.candidates; barriers = r.barriers; faults = r.cause.later; same = r.same; sink = r.sink; time = r.time })

pub returns-clause-crash : goal.returns-clause-crash
returns-clause-crash g c tells =
    let s0 = g.D.SectorDisk.state c.args.disk.now in
    let s1 = g.D.SectorDisk.state c.read.new.self in
    let s2 = g.D.SectorDisk.state c.write_all_then_barrier.new.disk in
    let r = c.read.ensures in
    let plan = c.args.plan.now in
    let reads : OnlyReads s0 s1 = record { candidates = r.candidates; barriers = r.barriers; faults = r.cause.later; same = r.same; sink = r.sink; time = r.time } in
    read_then_mixes s0 s1 s2 (plan.info.offset / 512) c.write_header.new.into (empty_header plan (content s0)) reads
    (c.write_header.ensures.bytes ∙ ap (λ (h : Header). header_bytes h ++ drop 44 c.read.new.into) c.empty.ensures ∙ ap (λ (b : List ℕ). header_bytes (emptied plan.header) ++ drop 44 b) (c.in_ok-read.ensures.value tells))
    c.write_all_then_barrier.ensures.crash
