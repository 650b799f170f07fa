use Rattle.std.proofs.Common.{sym, refl, ◌∙◌, ap, subst, set, arith}
use Rattle.sector_disk.specs.Disk.{Candidates, content, content_of}
use Rattle.sector_disk.proofs.Candidates.{content_of-with_candidate, grows_none, grows_written}
use Rattle.sector_disk.proofs.Writing.{leaves_grown, leaves_read}
use Rattle.jnl_format.specs.Named.{IsHomeOf}
use Rattle.jnl_format.specs.Recovery.{text_of}
use Rattle.jnl_format.specs.Text.{bytes_at}
use Rattle.jnl_replay.specs.Homing.{GrowsHomes}
use Rattle.jnl_replay.specs.Plan.{journal_of}
use Rattle.jnl_replay.proofs.Common.{on_ok}
use Rattle.jnl_store.proofs.BroughtHome.{brought_by}
use Rattle.jnl_store.proofs.bringing.bring_home.Goals as goal

pub returns-in_err-read_durable-clause-crash : goal.returns-in_err-read_durable-clause-crash
returns-in_err-read_durable-clause-crash g c tells homes live = leaves_read _ (g.D.SectorDisk.state c.args.disk.now) (g.D.SectorDisk.state c.read_durable.new.disk) c.read_durable.ensures.reads

pub returns-clause-brought : goal.returns-clause-brought
returns-clause-brought g c tells homes live =
    let s0 = g.D.SectorDisk.state c.args.disk.now in
    let s1 = g.D.SectorDisk.state c.read_durable.new.disk in
    let s2 = g.D.SectorDisk.state c.write.new.self in
    let home = c.args.home.now in
    let bytes = c.read_durable.new.into in
    let l = live (omega (arith, c.if-sectors-home.false, c.sectors.ensures)) in
    on_ok _ _ c.write.result
    (λ e. brought_by (content s0) (content s2) home.sector bytes (bytes_at (text_of (journal_of c.args.plan.now) (content s0)) home.place 512)
    (ap content_of e ∙ content_of-with_candidate s1.candidates home.sector bytes ∙ ap (λ (d : Candidates). set (content_of d) home.sector bytes) c.read_durable.ensures.reads.candidates)
    (c.in_ok-read_durable.ensures.live tells home.place refl l.on_disk l.placed))
    c.write.ensures.written

pub returns-clause-grows : goal.returns-clause-grows
returns-clause-grows g c tells homes live =
    let s0 = g.D.SectorDisk.state c.args.disk.now in
    let s1 = g.D.SectorDisk.state c.read_durable.new.disk in
    let s2 = g.D.SectorDisk.state c.write.new.self in
    let home = c.args.home.now in
    let text = text_of (journal_of c.args.plan.now) (content s0) in
    let bytes = c.read_durable.new.into in
    let l = live (omega (arith, c.if-sectors-home.false, c.sectors.ensures)) in
    let of : IsHomeOf text homes home.sector bytes = subst (IsHomeOf text homes home.sector) (sym (c.in_ok-read_durable.ensures.live tells home.place refl l.on_disk l.placed)) l.of in
    subst (λ (d : Candidates). GrowsHomes text homes d s2.candidates) c.read_durable.ensures.reads.candidates
    (grows_written c.write.result (IsHomeOf text homes) s1.candidates s1.candidates s2.candidates home.sector bytes (grows_none (IsHomeOf text homes) s1.candidates) of c.write.ensures.written c.write.ensures.unsure)

pub returns-clause-crash : goal.returns-clause-crash
returns-clause-crash g c tells homes live =
    let s0 = g.D.SectorDisk.state c.args.disk.now in
    let s1 = g.D.SectorDisk.state c.read_durable.new.disk in
    let s2 = g.D.SectorDisk.state c.write.new.self in
    let home = c.args.home.now in
    let text = text_of (journal_of c.args.plan.now) (content s0) in
    let bytes = c.read_durable.new.into in
    let l = live (omega (arith, c.if-sectors-home.false, c.sectors.ensures)) in
    let of : IsHomeOf text homes home.sector bytes = subst (IsHomeOf text homes home.sector) (sym (c.in_ok-read_durable.ensures.live tells home.place refl l.on_disk l.placed)) l.of in
    leaves_grown (IsHomeOf text homes) s0 s1 s2 c.read_durable.ensures.reads c.write.ensures.time c.write.ensures.sink
    (subst (λ (d : Candidates). GrowsHomes text homes d s2.candidates) c.read_durable.ensures.reads.candidates
    (grows_written c.write.result (IsHomeOf text homes) s1.candidates s1.candidates s2.candidates home.sector bytes (grows_none (IsHomeOf text homes) s1.candidates) of c.write.ensures.written c.write.ensures.unsure))
