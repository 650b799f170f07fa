use Rattle.std.proofs.Common.{◌≡◌, ℕ, List, ◌∙◌, ap, subst}
use Rattle.sector_disk.specs.Disk.{content}
use Rattle.volume_make.specs.Layout.{layout_of}
use Rattle.volume_make.specs.Written.{IsFormatted}
use Rattle.hfsx_server.specs.Made.{journal_sectors, made_layout}
use Rattle.hfsx_server.proofs.formatting.make_volume.Goals as goal

pub returns-in-Ok-clause-made : goal.returns-in-Ok-clause-made
returns-in-Ok-clause-made g c tells =
    let old = g.D.SectorDisk.state c.args.disk.now in
    let new = g.D.SectorDisk.state c.format.new.disk in
    let journal : c.journal_sectors-journal.result ≡ journal_sectors old.sectors = c.journal_sectors-journal.ensures ∙ ap journal_sectors c.sectors.ensures in
    record {
      parts =
          subst (λ (name : List ℕ). IsFormatted (made_layout old.sectors) name (content old) (content new)) c.in_ok-name.ensures
          (subst (λ (n : ℕ). IsFormatted (layout_of old.sectors 4096 n) c.in_ok-name.name (content old) (content new)) journal (c.in-Ok.ensures.formatted tells));
      settled = c.in-Ok.ensures.settled tells;
      fresh = c.in-Ok.ensures.fresh tells;
    }
