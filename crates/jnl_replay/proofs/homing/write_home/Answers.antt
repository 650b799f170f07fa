use Rattle.std.proofs.Common.{◌∷◌, [], List, ℕ, ◌∙◌, ap, subst, set}
use Rattle.sector_disk.specs.Disk.{content, content_of, Candidates}
use Rattle.sector_disk.proofs.Candidates.{content_of-with_candidate}
use Rattle.jnl_replay.specs.Homing.{GrowsHomes}
use Rattle.jnl_replay.specs.Text.{words}
use Rattle.jnl_replay.proofs.Common.{on_ok}
use Rattle.jnl_replay.proofs.HomeWritten.{home_written}
use Rattle.sector_disk.proofs.Writing.{leaves_grown, leaves_read}
use Rattle.jnl_replay.proofs.homing.write_home.Goals as goal

pub returns-in_err-read_text-clause-crash : goal.returns-in_err-read_text-clause-crash
returns-in_err-read_text-clause-crash g c tells = leaves_read _ (g.D.SectorDisk.state c.args.disk.now) (g.D.SectorDisk.state c.read_text.new.disk) c.read_text.ensures.reads

pub returns-clause-written : goal.returns-clause-written
returns-clause-written g c tells =
    let s0 = g.D.SectorDisk.state c.args.disk.now in
    let s1 = g.D.SectorDisk.state c.read_text.new.disk in
    let h = c.args.home.now in
    on_ok _ _ c.write.result
    (λ e. ap content_of e ∙ content_of-with_candidate s1.candidates h.sector c.read_text.new.into
    ∙ ap (λ (d : Candidates). set (content_of d) h.sector c.read_text.new.into) c.read_text.ensures.reads.candidates
    ∙ ap (λ (v : List ℕ). set (content s0) h.sector v) (c.in_ok-read_text.ensures.value tells))
    c.write.ensures.written

pub returns-clause-grows : goal.returns-clause-grows
returns-clause-grows g c tells =
    let s0 = g.D.SectorDisk.state c.args.disk.now in
    let s2 = g.D.SectorDisk.state c.write.new.self in
    let w = words c.args.text.now (content s0) in
    subst (λ (d : Candidates). GrowsHomes w (c.args.home.now ∷ []) d s2.candidates) c.read_text.ensures.reads.candidates
    (home_written c.write.result w c.args.home.now (g.D.SectorDisk.state c.read_text.new.disk).candidates s2.candidates c.read_text.new.into (c.in_ok-read_text.ensures.value tells) c.write.ensures.written c.write.ensures.unsure)

pub returns-clause-crash : goal.returns-clause-crash
returns-clause-crash g c tells =
    let s0 = g.D.SectorDisk.state c.args.disk.now in
    let s1 = g.D.SectorDisk.state c.read_text.new.disk in
    let s2 = g.D.SectorDisk.state c.write.new.self in
    let w = words c.args.text.now (content s0) in
    leaves_grown _ s0 s1 s2 c.read_text.ensures.reads c.write.ensures.time c.write.ensures.sink
    (subst (λ (d : Candidates). GrowsHomes w (c.args.home.now ∷ []) d s2.candidates) c.read_text.ensures.reads.candidates
    (home_written c.write.result w c.args.home.now s1.candidates s2.candidates c.read_text.new.into (c.in_ok-read_text.ensures.value tells) c.write.ensures.written c.write.ensures.unsure))
