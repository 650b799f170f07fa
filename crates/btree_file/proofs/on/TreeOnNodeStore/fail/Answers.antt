use Rattle.std.proofs.Common.{◌*◌, ◌/◌, ap}
use Rattle.sector_disk.specs.Space.{Space}
use Rattle.btree_node.specs.Store.{unwritten_sectors}
use Rattle.btree_file.specs.State.{sectors_of_tree}
use Rattle.btree_file.proofs.Rooms.{once_read}
use Rattle.btree_file.proofs.on.TreeOnNodeStore.fail.Goals as goal

pub returns-clause-room : goal.returns-clause-room
unfolding unwritten_sectors
returns-clause-room g c =
    let tree = c.args.self.now.tree.now in
    let old : Space = g.P.SectorView.space c.args.self.now.space.now in
    let new : Space = g.P.SectorView.space c.fail.new.self in
    let room = c.fail.ensures.room in
    let same = once_read (sectors_of_tree tree) (tree.shape.node_size / 512) tree.shape.total old.put new.put old.spare new.spare room.put room.spare in
    record {
      written = same.written;
      unwritten = same.unwritten;
      writes_left = ap (λ k. k / (tree.shape.node_size / 512)) same.spare;
      sectors_left = same.spare;
      sectors = ap (λ k. k * (tree.shape.node_size / 512)) same.unwritten;
    }
