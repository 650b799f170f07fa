use Rattle.std.proofs.Common.{◌≡◌, ◌∙◌, List, ℕ, ap, arith, length, take}
use Rattle.sector_disk.specs.Disk.{content}
use Rattle.jnl_format.specs.Ring.{bytes_from, journal_bytes}
use Rattle.jnl_format.specs.Recovery.{text_of}
use Rattle.jnl_format.specs.Text.{bytes_at}
use Rattle.jnl_replay.specs.Plan.{journal_of}
use Rattle.jnl_replay.proofs.Common.{on_ok}
use Rattle.jnl_replay.proofs.Texts.{read_piece}
use Rattle.jnl_replay.specs.Text.{text_in}
use Rattle.jnl_store.proofs.LiveText.{live_text, words_are}
use Rattle.jnl_store.proofs.reading.read_live.Goals as goal

pub returns-clause-live : goal.returns-clause-live
returns-clause-live g c tells on_disk inside =
    let old = g.D.SectorDisk.state c.args.disk.now in
    let plan = c.args.plan.now in
    let t = text_in plan.info plan.header in
    let n = length c.args.into.now in
    let long : n ≡ 512 = c.told-into in
    on_ok _ _ c.read_at.result
    (λ e. read_piece old t c.args.place n c.read_at.new.into (g.met.D.SectorDisk.well_formed c.args.disk.now) tells (live_text plan c.requires.rest old.sectors on_disk) (omega (arith, inside, long))
    (e ∙ ap (λ n. take (length c.args.into.now) (bytes_from (journal_bytes (content old) t.span.base t.span.size) n)) c.advance-offset.ensures.after)
    ∙ ap (λ (l : List ℕ). bytes_at l c.args.place n) (words_are plan (content old))
    ∙ ap (λ n. bytes_at (text_of (journal_of plan) (content old)) c.args.place n) long)
    (c.read_at.ensures.bytes tells)
