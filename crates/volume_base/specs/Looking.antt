-- Reads of the catalog over a space.
use Rattle.std.specs.Prelude.{◌≡◌, Bool, IsTrue}
use Rattle.std.specs.List.{Contains}
use Rattle.sector_disk.specs.Space.{Space}
use Rattle.attributes.specs.Values.{AreValued}
use Rattle.btree_node.specs.Keys.{IsCatalogKey, IsAttrKey, catalog_cmp, attr_cmp, anything}
use Rattle.btree_node.specs.TreeFile.{catalog_form, attributes_form}
use Rattle.btree_edit.specs.Desk.{IsDeskOf}
use Rattle.btree_edit.specs.declared.desk.Desk.{Desk}
use Rattle.btree_file.specs.Standing.{HoldsTree, LiesInside, LiesOpen, numbers_of, pairs_in}
use Rattle.btree_file.specs.State.{sectors_of_tree}
use Rattle.btree_file.specs.declared.tree.TreeFile.{TreeFile}
use Rattle.hfs_volume.specs.Entries.{AreSpelled}
use Rattle.volume_base.specs.Service.{KeepsFile, KeepsTree}
use Rattle.volume_base.specs.Standing.{AreWhole, own_sectors}
use Rattle.volume_base.specs.Touching.{Looks}
use Rattle.volume_base.specs.declared.volume.Volume.{Volume}

-- The catalog can be read over a space: its desk is one for its nodes, and its blocks lie in the space, none of them closed. Where the space
-- tells, its sectors are whole, and the file holds the catalog's tree, whose values each spell a record.
pub record IsCatalogOver (tree : TreeFile) (desk : Desk) (space : Space) : Type 0 where
  pub fits : IsDeskOf (numbers_of tree).node_size desk
  pub inside : LiesInside tree space
  pub unclosed : LiesOpen tree space
  pub holds : IsTrue space.tells → HoldsTree catalog_form IsCatalogKey anything catalog_cmp tree space.content
  pub whole : IsTrue space.tells → AreWhole space.content
  pub spelled : IsTrue space.tells → AreSpelled (pairs_in (sectors_of_tree tree) space.content)

-- The attributes file can be read over a space, as the catalog can; its records each are one of a value.
pub record IsAttributesOver (tree : TreeFile) (desk : Desk) (space : Space) : Type 0 where
  pub fits : IsDeskOf (numbers_of tree).node_size desk
  pub inside : LiesInside tree space
  pub unclosed : LiesOpen tree space
  pub holds : IsTrue space.tells → HoldsTree attributes_form IsAttrKey anything attr_cmp tree space.content
  pub whole : IsTrue space.tells → AreWhole space.content
  pub values : IsTrue space.tells → AreValued (pairs_in (sectors_of_tree tree) space.content)

-- A tree was read over a space: its file is as it was, and so is the content.
pub record ReadsTree (old new : TreeFile) (before after : Space) : Type 0 where
  pub keeps : KeepsFile before.tells old new
  pub looks : Looks (λ s. Contains (sectors_of_tree old) s) before after

-- A volume is as it was, but for what the calls of its trees work on.
pub record KeepsVolume (tells : Bool) (old new : Volume) : Type 0 where
  pub header : new.header ≡ old.header
  pub map : new.map ≡ old.map
  pub extents : KeepsTree tells old.extents new.extents
  pub catalog : KeepsTree tells old.catalog new.catalog
  pub attributes : KeepsTree tells old.attributes new.attributes
  pub private : new.private ≡ old.private
  pub shrunk : new.shrunk ≡ old.shrunk
  pub capacity : new.capacity ≡ old.capacity
  pub kept : new.kept ≡ old.kept
  pub filling : new.filling ≡ old.filling

-- A volume was read over a space: it is as it was, and so is the content; only sectors of its own may have become live.
pub record ReadsVolume (old new : Volume) (before after : Space) : Type 0 where
  pub keeps : KeepsVolume before.tells old new
  pub looks : Looks (λ s. Contains (own_sectors old) s) before after
