-- The three trees of a volume that was just made are trees.
use Rattle.std.proofs.Common.{ℕ, ◌≤◌, List, length, IsTrue, refl, ap, arith}
use Rattle.btree_node.specs.Keys.{IsExtentKey, IsAttrKey, is_eight_extents, anything, extent_cmp, attr_cmp}
use Rattle.btree_node.specs.TreeFile.{TreeHead, extents_form, attributes_form}
use Rattle.jnl_format.specs.Recovery.{Content}
use Rattle.hfs_volume.specs.Content.{extents_file, catalog_file, attributes_file}
use Rattle.hfs_volume.specs.Nodes.{HasTrees}
use Rattle.volume_make.specs.Layout.{CanBe, layout_of}
use Rattle.volume_make.specs.Refusal.{is_name}
use Rattle.volume_make.specs.Texts.{leaf_items}
use Rattle.volume_make.specs.Written.{IsFormatted}
use Rattle.volume_make.proofs.Leaves.{name_short}
use Rattle.fresh_volume.proofs.Trees.{has_fresh_trees}
use Rattle.fresh_volume.proofs.EmptyTrees.{empty_stands}
use Rattle.fresh_volume.proofs.CatalogTree.{six, keys_good, keys_rise, items_short, one_leaf_stands}

pub trees_stand : (sectors block journal : ℕ) (name : List ℕ) (old new : Content) → CanBe sectors block journal → IsTrue (is_name name) → IsFormatted (layout_of sectors block journal) name old new → HasTrees new
trees_stand sectors block journal name old new can named made =
    let trees = has_fresh_trees sectors block journal name old new can named made in
    let layout = layout_of sectors block journal in
    let short : length name ≤ 255 = name_short name named in
    record {
      extents = empty_stands block 10 2 (extents_file new) extents_form IsExtentKey is_eight_extents extent_cmp trees.extents (omega arith) refl refl;
      catalog =
          one_leaf_stands block (catalog_file new) trees.catalog (leaf_items layout name) trees.leaf trees.leaf_size (six layout name short) (keys_good layout name short) (items_short layout name short)
          (keys_rise layout name short);
      compare = ap (λ (h : TreeHead). h.compare) trees.catalog.head;
      attributes = λ has. empty_stands block 266 6 (attributes_file new) attributes_form IsAttrKey anything attr_cmp trees.attributes (omega arith) refl refl;
    }
