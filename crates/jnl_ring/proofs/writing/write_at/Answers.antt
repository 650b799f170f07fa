use Rattle.std.proofs.Common.{arith, ◌≡◌, ◌+◌, ◌/◌, IsTrue, subst, sym, ap}
use Rattle.sector_disk.specs.Disk.{content}
use Rattle.jnl_ring.specs.Span.{sector_after}
use Rattle.jnl_ring.proofs.Bytes.{disk_has}
use Rattle.jnl_ring.proofs.Placing.{on_disk}
use Rattle.jnl_ring.proofs.Texts.{text_put}
use Rattle.jnl_ring.proofs.Written.{unsure_grows, unsure_value, puts_all, whole_more, written_value, wrote_all, wrote_leaves, wrote_none, wrote_one}
use Rattle.jnl_ring.proofs.writing.write_at.Goals as goal

pub loop-k-init : goal.loop-k-init
loop-k-init g c = record { wrote = wrote_none c.args.span.now c.args.at (g.L.SectorList.sectors c.args.from.now) (g.D.SectorDisk.state c.args.disk.now); whole = λ j below. absurd (omega (arith, below)) }

pub write-requires : goal.write-requires
write-requires g c =
    let span = c.args.span.now in
    let here : span.base + c.advance-offset.result / 512 ≡ sector_after span c.args.at c.loop-k.k = ap (λ n. span.base + n / 512) c.advance-offset.ensures.after in
    omega (arith, here, on_disk span c.args.at c.loop-k.k (g.D.SectorDisk.state c.args.disk.now).sectors c.requires.span c.requires.at c.requires.whole (omega arith) c.requires.on_disk, c.loop-k.invariant.wrote.same.sectors)

pub loop-k-preserved : goal.loop-k-preserved
loop-k-preserved g c =
    let span = c.args.span.now in
    let list = g.L.SectorList.sectors c.args.from.now in
    let k = c.loop-k.k in
    let now = g.D.SectorDisk.state c.loop-k.disk in
    let new = g.D.SectorDisk.state c.write.new.self in
    let place = span.base + c.advance-offset.result / 512 in
    let here : place ≡ sector_after span c.args.at k = ap (λ n. span.base + n / 512) c.advance-offset.ensures.after in
    let value = c.sector-sector.ensures.value in
    record {
      wrote =
          wrote_one span c.args.at list k place (g.D.SectorDisk.state c.args.disk.now) now new
          (g.met.D.SectorDisk.well_formed c.args.disk.now) c.requires.span c.requires.on_disk c.requires.at c.requires.whole c.requires.room (omega arith)
          here c.loop-k.invariant.wrote (written_value now.candidates new.candidates place k c.sector-sector.result list value c.in_ok-write.ensures.written)
          c.write.ensures.barriers c.write.ensures.same c.write.ensures.sink c.write.ensures.time c.write.ensures.cause.later;
      whole = whole_more list k c.sector-sector.result value c.sector-sector.ensures.whole c.loop-k.invariant.whole;
    }

pub returns-in_err-write-clause-grows : goal.returns-in_err-write-clause-grows
returns-in_err-write-clause-grows g c =
    let span = c.args.span.now in
    let list = g.L.SectorList.sectors c.args.from.now in
    let now = g.D.SectorDisk.state c.loop-k.disk in
    let new = g.D.SectorDisk.state c.write.new.self in
    let place = span.base + c.advance-offset.result / 512 in
    let here : place ≡ sector_after span c.args.at c.loop-k.k = ap (λ n. span.base + n / 512) c.advance-offset.ensures.after in
    unsure_grows span c.args.at list c.loop-k.k (g.D.SectorDisk.state c.args.disk.now) now new (omega arith) c.loop-k.invariant.wrote
    (unsure_value now.candidates new.candidates place (sector_after span c.args.at c.loop-k.k) c.loop-k.k c.sector-sector.result list c.sector-sector.ensures.value here c.in_err-write.ensures.unsure)

pub returns-in_err-write-clause-crash : goal.returns-in_err-write-clause-crash
returns-in_err-write-clause-crash g c =
    let span = c.args.span.now in
    let list = g.L.SectorList.sectors c.args.from.now in
    let old = g.D.SectorDisk.state c.args.disk.now in
    let now = g.D.SectorDisk.state c.loop-k.disk in
    let new = g.D.SectorDisk.state c.write.new.self in
    let place = span.base + c.advance-offset.result / 512 in
    let here : place ≡ sector_after span c.args.at c.loop-k.k = ap (λ n. span.base + n / 512) c.advance-offset.ensures.after in
    wrote_leaves span c.args.at list c.loop-k.k old now new c.loop-k.invariant.wrote c.write.ensures.sink
    (unsure_grows span c.args.at list c.loop-k.k old now new (omega arith) c.loop-k.invariant.wrote
    (unsure_value now.candidates new.candidates place (sector_after span c.args.at c.loop-k.k) c.loop-k.k c.sector-sector.result list c.sector-sector.ensures.value here c.in_err-write.ensures.unsure))
    c.write.ensures.time

pub returns-clause-puts : goal.returns-clause-puts
returns-clause-puts g c tells =
    puts_all c.args.span.now c.args.at (g.L.SectorList.sectors c.args.from.now) c.loop-k.k (content (g.D.SectorDisk.state c.args.disk.now)) (content (g.D.SectorDisk.state c.loop-k.disk)) (omega arith) (c.loop-k.invariant.wrote.puts tells)

pub returns-clause-grows : goal.returns-clause-grows
returns-clause-grows g c = c.loop-k.invariant.wrote.grows

pub returns-clause-text : goal.returns-clause-text
returns-clause-text g c tells =
    let span = c.args.span.now in
    let list = g.L.SectorList.sectors c.args.from.now in
    let old = g.D.SectorDisk.state c.args.disk.now in
    let new = g.D.SectorDisk.state c.loop-k.disk in
    let wrote = c.loop-k.invariant.wrote in
    let had = disk_has old span.base span.size (g.met.D.SectorDisk.well_formed c.args.disk.now) tells c.requires.on_disk c.requires.span.whole in
    let has =
    disk_has new span.base span.size (g.met.D.SectorDisk.well_formed c.loop-k.disk) (subst IsTrue (sym wrote.same.tells) tells) (omega (arith, c.requires.on_disk, wrote.same.sectors)) c.requires.span.whole in
    text_put span c.args.at list (content old) (content new) c.requires.span had has c.requires.at c.requires.whole c.requires.room (λ j below. c.loop-k.invariant.whole j (omega (arith, below)))
    (puts_all span c.args.at list c.loop-k.k (content old) (content new) (omega arith) (wrote.puts tells))

pub returns-clause-crash : goal.returns-clause-crash
returns-clause-crash g c = wrote_all c.args.span.now c.args.at (g.L.SectorList.sectors c.args.from.now) c.loop-k.k (g.D.SectorDisk.state c.args.disk.now) (g.D.SectorDisk.state c.loop-k.disk) c.loop-k.invariant.wrote
