use Rattle.std.proofs.Common.{◌≡◌, length, ◌∙◌, ap, arith}
use Rattle.sector_disk.specs.Lists.{Content}
use Rattle.sector_disk.specs.Space.{Space}
use Rattle.volume_repair.specs.Differing.{differing}
use Rattle.volume_repair.proofs.Repairing.{one_repair}
use Rattle.fsck_repair.specs.Overlay.{overlaid}
use Rattle.fsck_repair.proofs.calls.repair_size.Goals as goal

pub returns-clause-count : goal.returns-clause-count
returns-clause-count g c tells bytes other repair =
    let old : Space = g.V.SectorView.space c.args.view.now in
    let items = c.in_ok-mend.mend.changes.items in
    let is : c.len.result ≡ length items = omega (arith, c.len.ensures) in
    is ∙ c.in_ok-mend.ensures.differ tells bytes ∙ ap (λ (ct : Content). differing old.content ct) (one_repair old.content (overlaid items old.content) other (c.in_ok-mend.ensures.repair tells bytes) repair)
