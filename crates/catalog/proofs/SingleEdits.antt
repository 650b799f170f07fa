-- One edit of the catalog's tree, by its answer.
use Rattle.std.proofs.Common.{◌+◌, ◌≤◌}
use Rattle.std.specs.Prelude.{IsTrue, Result, Ok, Err, OnOk}
use Rattle.btree_node.specs.Store.{Store}
use Rattle.btree_edit.specs.Editing.{CostsAtMost, edit_writes}
use Rattle.btree_edit.specs.Rising.{BoundsRoot}
use Rattle.btree_edit.specs.Edits.{TakesEdits}
use Rattle.btree_edit.proofs.EditLaws.{edits_one}

pub one_edit : {T E : Type 0} (result : Result T E) (Counts : Type 0) (old new : Store) → (Counts → new.shape.leaf_records ≤ old.shape.leaf_records + 1)
    → CostsAtMost (edit_writes old.shape.depth) (old.shape.depth + 1) old new → OnOk result (new.shape.depth ≤ old.shape.depth + 1) → OnOk result Counts
    → (IsTrue old.tells → OnOk result (BoundsRoot 516 old new new.shape.depth new.shape.root)) → OnOk result (TakesEdits 1 516 old new)
one_edit (Ok answer) Counts old new counted costs depth records bounds = edits_one 516 old new costs depth (counted records) bounds
one_edit (Err why) Counts old new counted costs depth records bounds = tt
