-- What a caller of an edit over a tree file gets back.
use Rattle.std.proofs.Common.{◌≡◌, ℕ, ◌+◌, ◌*◌, ◌/◌, ◌≤◌, IsTrue, List, refl, ◌∙◌, ap, subst, arith}
use Rattle.std.specs.Prelude.{Result, Ok, Err, IfOk, OnOk}
use Rattle.std.specs.declared.cmp.Ordering.{Ordering}
use Rattle.std.proofs.Math.Nat.{mul-le-mul_right}
use Rattle.hx_bytes.specs.declared.faults.Failed.{Failed}
use Rattle.btree_node.specs.Levels.{Pair}
use Rattle.btree_node.specs.Store.{unwritten_sectors}
use Rattle.btree_node.specs.Tree.{IsTree, HasValues, pairs_of}
use Rattle.btree_node.specs.TreeFile.{TreeForm, tree_head, shape_of}
use Rattle.btree_edit.specs.Editing.{CostsAtMost}
use Rattle.btree_edit.specs.Sorted.{InsertsPair}
use Rattle.btree_edit.specs.declared.edits.Inserted.{Inserted}
use Rattle.sector_disk.specs.Space.{Space}
use Rattle.btree_file.specs.Frame.{FollowsOn}
use Rattle.btree_file.specs.FrameLaws.{same_sectors}
use Rattle.btree_file.specs.Standing.{Stands, HoldsTree, pairs_in}
use Rattle.btree_file.specs.State.{sectors_of_tree, per_node, state_of, Agrees}
use Rattle.btree_file.specs.declared.tree.TreeFile.{TreeFile}
use Rattle.btree_file.proofs.Edited.{stands_after, held_after}
use Rattle.btree_file.proofs.StandingLaws.{pairs_here}

module _ (is_key is_value : List ℕ → Type 0) (cmp : List ℕ → List ℕ → Ordering) (names : List ℕ) (before after : TreeFile) (old new : Space) (tells : IsTrue old.tells) (follows : FollowsOn before after old new) where
  pub holds_again : (form : TreeForm) (result : Result Inserted Failed) → HoldsTree form is_key is_value cmp before old.content → Agrees after new.content → OnOk result (shape_of (tree_head after.header) ≡ after.shape)
      → OnOk result (IsTree is_key cmp (state_of names after new)) → OnOk result (HasValues is_value (state_of names after new)) → OnOk result (HoldsTree form is_key is_value cmp after new.content)
  holds_again form (Ok answer) was agrees settled rules values = held_after form is_key is_value cmp names before after old new tells was follows agrees settled rules values
  holds_again form (Err why) was agrees settled rules values = settled

  pub pairs_again : (key value : List ℕ) (result : Result Inserted Failed) → Stands before old.content → Agrees after new.content → OnOk result (shape_of (tree_head after.header) ≡ after.shape)
      → IfOk result (λ answer. InsertsPair cmp key value (pairs_of (state_of names before old)) (pairs_of (state_of names after new)) answer)
      → IfOk result (λ answer. InsertsPair cmp key value (pairs_in (sectors_of_tree before) old.content) (pairs_in (sectors_of_tree before) new.content) answer)
  pairs_again key value (Ok answer) was agrees settled inserts =
      let stands = stands_after before after old new tells was follows agrees settled in
      let first : pairs_of (state_of names before old) ≡ pairs_in (sectors_of_tree before) old.content = pairs_here before old.content was is_key cmp names old refl in
      let second : pairs_of (state_of names after new) ≡ pairs_in (sectors_of_tree before) new.content =
      pairs_here after new.content stands is_key cmp names new refl ∙ ap (λ (l : List ℕ). pairs_in l new.content) (same_sectors before after follows.file) in
      subst (λ (xs : List Pair). InsertsPair cmp key value xs (pairs_in (sectors_of_tree before) new.content) answer) first
      (subst (λ (ys : List Pair). InsertsPair cmp key value (pairs_of (state_of names before old)) ys answer) second inserts)
  pairs_again key value (Err why) was agrees settled inserts = inserts

room_within : (a b u v m p : ℕ) → a + v * p ≤ b + u * p → u ≤ v + m → a ≤ b + m * p
room_within a b u v m p left some = omega (arith, left, mul-le-mul_right {m = u} {n = v + m} p some)

-- the room that an edit takes
pub room_taken : (names later : List ℕ) (before after : TreeFile) (old new : Space) (most takes : ℕ) → CostsAtMost most takes (state_of names before old) (state_of later after new) → old.spare ≤ new.spare + most * per_node before.shape
unfolding unwritten_sectors
room_taken names later before after old new most takes does =
    room_within old.spare new.spare (state_of names before old).unwritten (state_of later after new).unwritten most (before.shape.node_size / 512)
    (subst (λ size. old.spare + (state_of later after new).unwritten * (size / 512) ≤ new.spare + (state_of names before old).unwritten * (before.shape.node_size / 512)) does.same.node_size does.sectors) does.some
