-- An edit of the catalog alone, or of the attributes file alone, as what a call leaves that makes it.
use Rattle.std.proofs.Common.{◌≡◌, ◌≤◌, ℕ, ◌+◌, IsTrue, List, refl, arith}
use Rattle.std.specs.Prelude.{Result, OnOk}
use Rattle.hx_bytes.specs.declared.faults.Trouble.{Trouble}
use Rattle.sector_disk.specs.Space.{Space}
use Rattle.btree_node.specs.Keys.{IsAttrKey, IsCatalogKey, anything, attr_cmp, catalog_cmp}
use Rattle.btree_node.specs.TreeFile.{attributes_form, catalog_form}
use Rattle.btree_edit.specs.Causes.{HasTroubleCause}
use Rattle.btree_edit.specs.Desk.{IsDeskOf}
use Rattle.btree_edit.specs.declared.desk.Desk.{Desk}
use Rattle.btree_file.specs.Frame.{FollowsOn}
use Rattle.btree_file.specs.Standing.{HoldsTree, numbers_of}
use Rattle.btree_file.specs.declared.tree.TreeFile.{TreeFile}
use Rattle.hfs_volume.specs.Content.{has_attributes}
use Rattle.volume_base.specs.Frame.{Edits}
use Rattle.volume_base.specs.Standing.{StandsOver}
use Rattle.volume_base.specs.declared.volume.Tree.{Tree}
use Rattle.volume_base.specs.declared.volume.Volume.{Volume}
use Rattle.volume_base.proofs.Added.{own_edited}
use Rattle.volume_base.proofs.AttributesEdited.{own_then, touches_attributes, serves_edited as serves_owned, stands_again as stands_owned}
use Rattle.volume_base.proofs.Besides.{blocks_edit, blocks_owned}
use Rattle.volume_base.proofs.CatalogEdited.{serves_edited, stands_again}
use Rattle.volume_base.proofs.Touched.{touches_catalog}

module _ {S : Type 0} {space_of : S → Space} {follows : S → S → Type 0} where
  pub catalog_edits : {T : Type 0} {v : Volume} {file : TreeFile} {desk : Desk} {a b : S} {r : Result T Trouble} → follows a b → HasTroubleCause (space_of a).faults (space_of b).faults r → StandsOver v (space_of a)
      → FollowsOn v.catalog.file file (space_of a) (space_of b) → IsDeskOf (numbers_of file).node_size desk → (IsTrue (space_of a).tells → OnOk r (HoldsTree catalog_form IsCatalogKey anything catalog_cmp file (space_of b).content))
      → Edits space_of follows (space_of a).spare v (record v { catalog = record { file = file; desk = desk } }) a b r
  catalog_edits {T} {v} {file} {desk} {a} {b} {r} below cause stands frame fits holds =
      let tree : Tree = record { file = file; desk = desk } in
      record {
        ran = record {
          below = below;
          cause = cause;
          service = serves_edited v (space_of a) (space_of b) tree frame stands.service fits;
          stands = stands_again v (space_of a) (space_of b) tree r stands frame fits holds;
          touches = λ committed. touches_catalog v committed (space_of a) (space_of b) frame.space;
          spent = λ tells. omega arith;
        };
        own = own_edited v (record v { catalog = tree }) (space_of a) (space_of b) frame refl;
        blocks = blocks_edit v (record v { catalog = tree }) refl;
      }

  pub attributes_edits : {T : Type 0} {v : Volume} {file : TreeFile} {desk : Desk} {a b : S} {r : Result T Trouble} → IsTrue (has_attributes v.header) → follows a b → HasTroubleCause (space_of a).faults (space_of b).faults r → StandsOver v (space_of a)
      → FollowsOn v.attributes.file file (space_of a) (space_of b) → IsDeskOf (numbers_of file).node_size desk → (IsTrue (space_of a).tells → OnOk r (HoldsTree attributes_form IsAttrKey anything attr_cmp file (space_of b).content))
      → Edits space_of follows (space_of a).spare v (record v { attributes = record { file = file; desk = desk } }) a b r
  attributes_edits {T} {v} {file} {desk} {a} {b} {r} has below cause stands frame fits holds =
      let tree : Tree = record { file = file; desk = desk } in
      record {
        ran = record {
          below = below;
          cause = cause;
          service = serves_owned v (space_of a) (space_of b) tree frame stands.service fits;
          stands = stands_owned v (space_of a) (space_of b) tree r has stands frame fits holds;
          touches = λ committed. touches_attributes v has committed (space_of a) (space_of b) frame.space;
          spent = λ tells. omega arith;
        };
        own = own_then v (record v { attributes = tree }) (space_of a) (space_of b) refl frame;
        blocks = blocks_owned v (record v { attributes = tree }) refl;
      }
