use Rattle.sector_disk.specs.Space.{Space}
use Rattle.fsck_core.specs.Overflows.{overflows_in}
use Rattle.fsck_core.proofs.ShownLaws.{bytes_back, head_back, overflow_back}
use Rattle.fsck_repair.proofs.TreeRefuting.{catalog_told}
use Rattle.fsck_repair.proofs.trees.read_catalog.Goals as goal

pub returns-clause-found : goal.returns-clause-found
returns-clause-found g c content shows head overflow =
    let old : Space = g.V.SectorView.space c.args.view.now in
    catalog_told old content c.scan_catalog.result c.scan_catalog.new.out shows
    (c.scan_catalog.ensures.each shows.tells (head_back old content c.args.head.now shows head) (overflow_back old content (overflows_in c.args.rows.now) shows overflow))
    (c.scan_catalog.ensures.found shows.tells (bytes_back old content shows) (head_back old content c.args.head.now shows head) (overflow_back old content (overflows_in c.args.rows.now) shows overflow))
