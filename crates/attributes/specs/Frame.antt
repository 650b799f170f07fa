-- What edits of a tree ask of its store and its desk, and what they leave of both, whatever they answer.
use Rattle.std.specs.Prelude.{◌≡◌, ◌≤◌, ℕ, List, IsTrue, Result, OnOk}
use Rattle.std.specs.declared.cmp.Ordering.{Ordering}
use Rattle.btree_node.specs.Store.{SameStore, Store}
use Rattle.btree_node.specs.Tree.{IsTree}
use Rattle.btree_edit.specs.Desk.{IsDeskOf}
use Rattle.btree_edit.specs.Edits.{TakesAtMost, TakesEdits}
use Rattle.btree_edit.specs.declared.desk.Desk.{Desk}

-- A tree that may be edited: its nodes have at least so many bytes, the desk is for nodes of this size, and where the store tells its nodes, they
-- are a tree with such keys in this order.
pub record IsEditable (is_key : List ℕ → Type 0) (cmp : List ℕ → List ℕ → Ordering) (least : ℕ) (store : Store) (held : Desk) : Type 0 where
  pub size : least ≤ store.shape.node_size
  pub desk : IsDeskOf store.shape.node_size held
  pub tree : IsTrue store.tells → IsTree is_key cmp store

-- At most so many edits, with keys of at most so many bytes, were asked of a tree. What lies below followed, it is the same store, and the desk is for
-- its nodes; no more was taken than so many edits take, on a fault too. Behind an answer no more of them were made, and it is a tree again, whose
-- header node tells its numbers if it did before.
pub record EditsAtMost {S T E : Type 0} (state : S → Store) (follows : S → S → Type 0) (is_key : List ℕ → Type 0) (cmp : List ℕ → List ℕ → Ordering) (most longest : ℕ) (old new : S) (held : Desk) (result : Result T E) : Type 0 where
  pub below : follows old new
  pub same : SameStore (state old) (state new)
  pub desk : IsDeskOf (state old).shape.node_size held
  pub takes : TakesAtMost most longest (state old) (state new)
  pub edits : OnOk result (TakesEdits most longest (state old) (state new))
  pub tree : IsTrue (state old).tells → OnOk result (IsTree is_key cmp (state new))
  pub header : IsTrue (state old).tells → (state old).header ≡ (state old).shape → OnOk result ((state new).header ≡ (state new).shape)
