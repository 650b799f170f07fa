-- `rm` of a link, where its file has others: what is removed, and what the file says behind it.
use Rattle.std.specs.Prelude.{◌≡◌, ◌≤◌, IsTrue, ◌+◌, false}
use Rattle.sector_disk.specs.Space.{Space}
use Rattle.hfs_volume.specs.Cost.{catalog_key, growth, is_too_deep, tree_load}
use Rattle.volume_base.specs.Making.{catalog_cost}
use Rattle.volume_base.specs.declared.volume.Volume.{Volume}

-- ---- the last link
-- There is room to put the header; where the space tells, there is room for the five edits behind it by which a file loses its last link, and
-- the catalog needn't grow before.
pub record HasRoomToUnlinkLast (volume : Volume) (space : Space) : Type 0 where
  pub some : 1 ≤ space.spare
  pub told : IsTrue space.tells → (1 + tree_load catalog_key (catalog_cost volume) 5 0 ≤ space.spare) × (is_too_deep catalog_key (catalog_cost volume) 5 ≡ false) × (growth volume.header.block_size catalog_key (catalog_cost volume) 5 ≡ 0)
