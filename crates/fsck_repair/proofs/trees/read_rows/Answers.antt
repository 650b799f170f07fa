use Rattle.sector_disk.specs.Space.{Space}
use Rattle.fsck_core.proofs.ListJoins.{at_none, at_some}
use Rattle.fsck_core.proofs.ShownLaws.{bytes_back, head_back, extents_held}
use Rattle.fsck_repair.proofs.TreeRefuting.{no_extents}
use Rattle.fsck_repair.proofs.trees.read_rows.Goals as goal

pub returns-in_default-clause-found : goal.returns-in_default-clause-found
returns-in_default-clause-found g c content shows head =
    let old : Space = g.V.SectorView.space c.args.view.now in
    no_extents old content shows c.scan_extents.new.out
    (at_none c.in_ok-pairs.field-0 _ _ c.in_default.is (c.in_ok-pairs.ensures.found shows.tells (bytes_back old content shows) (head_back old content c.args.head.now shows head)))
    (c.scan_extents.ensures.each shows.tells (head_back old content c.args.head.now shows head))

pub returns-clause-found : goal.returns-clause-found
returns-clause-found g c content shows head =
    let old : Space = g.V.SectorView.space c.args.view.now in
    extents_held old content c.in-Some.pairs c.in_ok-rows.rows.items c.scan_extents.new.out shows
    (at_some c.in_ok-pairs.field-0 c.in-Some.pairs _ _ c.in-Some.is (c.in_ok-pairs.ensures.found shows.tells (bytes_back old content shows) (head_back old content c.args.head.now shows head))) c.in_ok-rows.ensures
