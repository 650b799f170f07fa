use Rattle.std.proofs.Common.{length, ap, ◌∙◌, take}
use Rattle.jnl_format.specs.Ring.{journal_bytes, bytes_from}
use Rattle.sector_disk.specs.Disk.{content}
use Rattle.jnl_replay.proofs.Common.{on_ok}
use Rattle.jnl_replay.proofs.Texts.{read_piece}
use Rattle.jnl_replay.proofs.text.read_text.Goals as goal

pub returns-clause-value : goal.returns-clause-value
returns-clause-value g c tells =
    let old = g.D.SectorDisk.state c.args.disk.now in
    let t = c.args.text.now in
    on_ok _ _ c.read_at.result
    (λ e. read_piece old t c.args.at (length c.args.into.now) c.read_at.new.into (g.met.D.SectorDisk.well_formed c.args.disk.now) tells c.requires.text c.requires.inside
    (e ∙ ap (λ n. take (length c.args.into.now) (bytes_from (journal_bytes (content old) t.span.base t.span.size) n)) c.advance-offset.ensures.after))
    (c.read_at.ensures.bytes tells)
