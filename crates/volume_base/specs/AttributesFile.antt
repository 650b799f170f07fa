-- The attributes file over a space, with its desk: what calls that edit it ask, and what they leave.
use Rattle.std.specs.Prelude.{◌≤◌, ℕ, List, IsTrue, Result, OnOk}
use Rattle.hx_bytes.specs.declared.faults.Trouble.{Trouble}
use Rattle.sector_disk.specs.Space.{Space}
use Rattle.btree_node.specs.Keys.{IsAttrKey, anything, attr_cmp}
use Rattle.btree_node.specs.TreeFile.{attributes_form}
use Rattle.btree_edit.specs.Causes.{HasTroubleCause}
use Rattle.btree_edit.specs.Desk.{IsDeskOf}
use Rattle.btree_edit.specs.Edits.{TakesAtMost, TakesEdits}
use Rattle.btree_edit.specs.declared.desk.Desk.{Desk}
use Rattle.btree_file.specs.Frame.{FollowsOn}
use Rattle.btree_file.specs.Standing.{HoldsTree, LiesInside, LiesOpen, numbers_of, pairs_in}
use Rattle.btree_file.specs.State.{sectors_of_tree, state_of}
use Rattle.btree_file.specs.declared.tree.TreeFile.{TreeFile}
use Rattle.attributes.specs.Values.{AreValued}
use Rattle.hfs_volume.specs.Changes.{AreSortedAttributes}

-- The file's blocks lie in the space and none of them is closed, its nodes have the least size that the format allows it, and the desk is for them.
-- Where the space tells, the content holds the tree, and its pairs are those of values.
pub record IsAttributesFile (tree : TreeFile) (held : Desk) (space : Space) : Type 0 where
  pub desk : IsDeskOf (numbers_of tree).node_size held
  pub size : 4096 ≤ (numbers_of tree).node_size
  pub inside : LiesInside tree space
  pub open_sectors : LiesOpen tree space
  pub holds : IsTrue space.tells → HoldsTree attributes_form IsAttrKey anything attr_cmp tree space.content
  pub values : IsTrue space.tells → AreValued (pairs_in (sectors_of_tree tree) space.content)

-- At most so many edits of the attributes file were made, with an answer or a fault: what lies below followed, Disk comes only where that failed, the
-- file's sectors alone were put, and the desk is for its nodes. No more was taken than so many edits take, on a fault too; behind an answer the
-- content holds the tree again, with its records in the order of their keys.
pub record EditsAttributes {S T : Type 0} (space_of : S → Space) (follows : S → S → Type 0) (most : ℕ) (old new : TreeFile) (held : Desk) (before after : S) (result : Result T Trouble) : Type 0 where
  pub below : follows before after
  pub cause : HasTroubleCause (space_of before).faults (space_of after).faults result
  pub frame : FollowsOn old new (space_of before) (space_of after)
  pub desk : IsDeskOf (numbers_of new).node_size held
  pub takes : (names : List ℕ) → TakesAtMost most 266 (state_of names old (space_of before)) (state_of names new (space_of after))
  pub edits : (names : List ℕ) → OnOk result (TakesEdits most 266 (state_of names old (space_of before)) (state_of names new (space_of after)))
  pub holds : IsTrue (space_of before).tells → OnOk result (HoldsTree attributes_form IsAttrKey anything attr_cmp new (space_of after).content)
  pub sorted : IsTrue (space_of before).tells → OnOk result (AreSortedAttributes (pairs_in (sectors_of_tree old) (space_of after).content))
