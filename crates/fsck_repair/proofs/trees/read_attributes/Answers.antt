use Rattle.sector_disk.specs.Space.{Space}
use Rattle.fsck_core.specs.Overflows.{overflows_in}
use Rattle.fsck_core.proofs.ShownLaws.{bytes_back, head_back, overflow_back, no_attributes_held, has_them, has_none}
use Rattle.fsck_repair.proofs.TreeRefuting.{attributes_told}
use Rattle.fsck_repair.proofs.trees.read_attributes.Goals as goal

pub returns-then-head-eq0-clause-found : goal.returns-then-head-eq0-clause-found
returns-then-head-eq0-clause-found g c content shows head overflow =
    no_attributes_held content c.new.result c.new.ensures (has_none content c.args.head.now head c.if-head-eq0.true)

pub returns-clause-found : goal.returns-clause-found
returns-clause-found g c content shows head overflow =
    let old : Space = g.V.SectorView.space c.args.view.now in
    attributes_told old content c.scan_attributes.result c.scan_attributes.new.out shows (has_them content c.args.head.now head c.if-head-eq0.false)
    (c.scan_attributes.ensures.each shows.tells (head_back old content c.args.head.now shows head) (overflow_back old content (overflows_in c.args.rows.now) shows overflow))
    (c.scan_attributes.ensures.found shows.tells (bytes_back old content shows) (head_back old content c.args.head.now shows head) (overflow_back old content (overflows_in c.args.rows.now) shows overflow))
