-- A new folder or file: its place, the room for it, and what adding it does to a volume.
use Rattle.std.specs.Prelude.{◌≡◌, ℕ, Bool, false, List, Some, Ok}
use Rattle.sector_disk.specs.Lists.{Content}
use Rattle.btree_node.specs.Levels.{Pair}
use Rattle.volume_header.specs.declared.header.VolumeHeader.{VolumeHeader}
use Rattle.catalog.specs.Pairs.{value_at}
use Rattle.hfs_model.specs.Step.{Place, last_name, to_make}
use Rattle.hfs_volume.specs.Commands.{MakesEntry}
use Rattle.hfs_volume.specs.Content.{volume_of}
use Rattle.hfs_volume.specs.Records.{is_empty}
use Rattle.hfs_volume.specs.TreeOf.{tree_of}
use Rattle.volume_base.specs.Making.{new_value}

-- The record of a new folder or file stands under the last name of a path: its CNID is the one that came next, and its dates are the volume's
-- moment.
pub record HasNew (folder : Bool) (path : List (List ℕ)) (head : VolumeHeader) (pairs : List Pair) : Type 0 where
  pub parent : ℕ
  pub stands : value_at pairs parent (last_name path) ≡ Some (new_value folder head.next_catalog_id head.modify_date)

-- A folder (true) or file was made where a path names a place for it, in the lists of the content.
pub record Makes (folder : Bool) (path : List (List ℕ)) (before after : Content) : Type 0 where
  pub place : Place
  pub allowed : to_make (tree_of before) path ≡ Ok place
  pub named : is_empty place.name ≡ false
  pub makes : MakesEntry folder place (volume_of before) (volume_of after)
