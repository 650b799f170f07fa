-- What holds of a volume in service whatever its space tells.
use Rattle.std.specs.Prelude.{◌≡◌, ◌<◌, ◌≤◌, Bool, IsTrue, length}
use Rattle.std.specs.List.{All}
use Rattle.flag_rows.specs.Bits.{sectors_for}
use Rattle.sector_disk.specs.Space.{Space}
use Rattle.fork_map.specs.Blocks.{fork_sectors}
use Rattle.volume_header.specs.Header.{FitsHeader}
use Rattle.btree_edit.specs.Desk.{IsDeskOf}
use Rattle.btree_file.specs.Frame.{SameFile}
use Rattle.btree_file.specs.Standing.{LiesInside}
use Rattle.btree_file.specs.declared.tree.TreeFile.{TreeFile}
use Rattle.volume_base.specs.declared.volume.Tree.{Tree}
use Rattle.volume_base.specs.declared.volume.Volume.{Volume}

-- A tree in service: its desk is one for its nodes, and its file's blocks lie in the space.
pub record IsTreeInService (tree : Tree) (space : Space) : Type 0 where
  pub desk : IsDeskOf tree.file.shape.node_size tree.desk
  pub inside : LiesInside tree.file space

-- A volume in service: its trees are, its header has a spelling, its blocks have a size that volumes have, and the file of its bitmap lies in
-- the space and has a bit for each block.
pub record IsInService (volume : Volume) (space : Space) : Type 0 where
  pub extents : IsTreeInService volume.extents space
  pub catalog : IsTreeInService volume.catalog space
  pub attributes : IsTreeInService volume.attributes space
  pub fits : FitsHeader volume.header
  pub least : 512 ≤ volume.header.block_size
  pub most : volume.header.block_size ≤ 65536
  pub map_inside : All (λ at. at < space.sectors) (fork_sectors volume.map.fork volume.map.per_block)
  pub map_long : sectors_for (length volume.map.used) ≤ length (fork_sectors volume.map.fork volume.map.per_block)
  -- for each sector with bits it is kept whether they were changed
  pub marks : length volume.map.changed ≡ sectors_for (length volume.map.used)

-- A tree's file is as it was: its fork, its map, and the numbers of its header record; and where the space tells, its header node.
pub record KeepsFile (tells : Bool) (old new : TreeFile) : Type 0 where
  pub file : SameFile old new
  pub shape : new.shape ≡ old.shape
  pub header : IsTrue tells → new.header ≡ old.header

-- A tree is as it was, but for what its calls work on.
pub record KeepsTree (tells : Bool) (old new : Tree) : Type 0 where
  pub file : KeepsFile tells old.file new.file
  pub desk : IsDeskOf old.file.shape.node_size old.desk → IsDeskOf new.file.shape.node_size new.desk
