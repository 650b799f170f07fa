-- One edit of the attributes tree, by its answer.
use Rattle.std.proofs.Common.{◌+◌, ◌≤◌, ℕ, List}
use Rattle.std.specs.Prelude.{IsTrue, Result, Ok, Err, IfOk, OnOk}
use Rattle.btree_node.specs.Keys.{attr_cmp}
use Rattle.btree_node.specs.Levels.{Pair}
use Rattle.btree_node.specs.Store.{Store}
use Rattle.btree_edit.specs.Editing.{CostsAtMost, edit_writes}
use Rattle.btree_edit.specs.Edits.{TakesEdits}
use Rattle.btree_edit.specs.Rising.{BoundsRoot}
use Rattle.btree_edit.specs.Sorted.{RemovesPair}
use Rattle.btree_edit.specs.declared.edits.Removed.{Removed}
use Rattle.btree_edit.proofs.EditLaws.{edits_one}
use Rattle.attributes.specs.Values.{AreSpelled, IsSpelledAttribute}
use Rattle.attributes.proofs.Removing.{removal_keeps}

pub one_edit : {T E : Type 0} (result : Result T E) (Counts : Type 0) (old new : Store) → (Counts → new.shape.leaf_records ≤ old.shape.leaf_records + 1)
    → CostsAtMost (edit_writes old.shape.depth) (old.shape.depth + 1) old new → OnOk result (new.shape.depth ≤ old.shape.depth + 1) → OnOk result Counts
    → (IsTrue old.tells → OnOk result (BoundsRoot 266 old new new.shape.depth new.shape.root)) → OnOk result (TakesEdits 1 266 old new)
one_edit (Ok answer) Counts old new counted costs depth records bounds = edits_one 266 old new costs depth (counted records) bounds
one_edit (Err why) Counts old new counted costs depth records bounds = tt

-- a removal keeps each pair that is left a record
pub removal_spelled : {E : Type 0} (result : Result Removed E) (key : List ℕ) (old new : List Pair) → AreSpelled old → IfOk result (λ answer. RemovesPair attr_cmp key old new answer) → OnOk result (AreSpelled new)
removal_spelled (Ok answer) key old new spelled drops = removal_keeps IsSpelledAttribute key old new answer spelled drops
removal_spelled (Err why) key old new spelled drops = tt
