-- What a command that changes the catalog, the attributes and the numbers of the header does to a volume.
use Rattle.std.specs.Prelude.{◌≡◌, ◌⊎◌}
use Rattle.std.specs.List.{Contains}
use Rattle.btree_file.specs.State.{sectors_of_tree}
use Rattle.btree_file.specs.declared.tree.TreeFile.{TreeFile}
use Rattle.hfs_volume.specs.Changes.{with_numbers}
use Rattle.sector_disk.specs.Lists.{Content}
use Rattle.sector_disk.specs.Space.{AgreesOutside}
use Rattle.volume_base.specs.Lists.{lists_of, facts_on}
use Rattle.volume_base.specs.Standing.{attribute_sectors}
use Rattle.volume_base.specs.declared.volume.Volume.{Volume}

-- A tree's file lies where it did, and has as many nodes of the same size.
pub record IsSameFile (old new : TreeFile) : Type 0 where
  pub sectors : sectors_of_tree new ≡ sectors_of_tree old
  pub total : new.shape.total ≡ old.shape.total
  pub node_size : new.shape.node_size ≡ old.shape.node_size

-- Catalog, attributes and the numbers of the header may have changed, and no sector but theirs. All else of the volume is as it was.
pub record ChangesTrees (old new : Volume) (before after : Content) : Type 0 where
  pub lists : lists_of new after ≡ record (lists_of old before) {
    head = new.header;
    catalog_pairs = (lists_of new after).catalog_pairs;
    catalog_tree = facts_on new.catalog.file;
    attribute_pairs = (lists_of new after).attribute_pairs;
    attributes_tree = facts_on new.attributes.file;
  }
  pub numbers : new.header ≡ with_numbers old.header new.header
  pub map : new.map ≡ old.map
  pub extents : new.extents ≡ old.extents
  pub private : new.private ≡ old.private
  pub catalog : IsSameFile old.catalog.file new.catalog.file
  pub attributes : IsSameFile old.attributes.file new.attributes.file
  pub outside : AgreesOutside (λ s. (s ≡ 2) ⊎ (Contains (sectors_of_tree old.catalog.file) s ⊎ Contains (attribute_sectors old) s)) before after
