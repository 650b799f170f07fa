use Rattle.sector_disk.specs.Space.{Space}
use Rattle.fsck_scan.specs.Form.{tree_in}
use Rattle.hfs_volume.specs.Content.{extents_file}
use Rattle.fsck_core.proofs.Limits.{block_range}
use Rattle.fsck_core.proofs.ShownLaws.{extents_there, head_told}
use Rattle.fsck_core.proofs.heads.read_extents_head.Goals as goal

pub read_tree_head-requires-clause-least : goal.read_tree_head-requires-clause-least
read_tree_head-requires-clause-least g c = (block_range (g.V.SectorView.space c.args.view.now).sectors c.args.head.now c.requires.good).0

pub read_tree_head-requires-clause-most : goal.read_tree_head-requires-clause-most
read_tree_head-requires-clause-most g c = (block_range (g.V.SectorView.space c.args.view.now).sectors c.args.head.now c.requires.good).1

pub returns-clause-value : goal.returns-clause-value
returns-clause-value g c content shows head =
    let old : Space = g.V.SectorView.space c.args.view.now in
    head_told c.read_tree_head.result (tree_in old.content old.sectors c.args.head.now.block_size c.in_ok-fork.fork) (extents_file content)
    (extents_there old content c.args.head.now c.in_ok-fork.fork shows c.requires.good head c.in_ok-fork.ensures) (c.read_tree_head.ensures.head shows.tells)
