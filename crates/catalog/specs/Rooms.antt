-- Calls of several edits of the catalog's tree and of records updated in place: the room that they need, and what they take.
use Rattle.std.specs.Prelude.{◌≡◌, ◌≤◌, ℕ, ◌+◌, ◌*◌, IsTrue}
use Rattle.btree_node.specs.Store.{Store, HasRoom}
use Rattle.btree_edit.specs.Editing.{CostsAtMost, edit_writes}
use Rattle.btree_edit.specs.Edits.{top_of, tops, IsNoHigher, GoesNoDeeper, EditRoom}
use Rattle.btree_edit.specs.LevelEdit.{node_room}

-- There is room for so many edits of a store that tells its nodes, and for so many records updated in place, each of one write.
pub record UpdateRoom (edits updates longest : ℕ) (store : Store) : Type 0 where
  pub room : EditRoom edits longest store
  pub beside : HasRoom (edits * edit_writes room.deepest + updates) store

-- So many edits and so many records updated in place take at most their nodes and writes, whether or not they were all made; what they take of a store
-- that doesn't tell its nodes isn't told.
abbrev pub UpdatesAtMost : (edits updates longest : ℕ) → Store → Store → Type 0
UpdatesAtMost edits updates longest old new =
    IsTrue old.tells → (deepest : ℕ) → GoesNoDeeper edits longest deepest old → CostsAtMost (edits * edit_writes deepest + updates) (edits * (deepest + 1)) old new

-- At most so many edits were made, and so many records updated in place, which leave the tree's depth and its root's records as they are, where the store
-- tells its nodes.
pub record TakesUpdates (edits updates longest : ℕ) (old new : Store) : Type 0 where
  pub takes : UpdatesAtMost edits updates longest old new
  pub top : IsTrue old.tells → IsNoHigher (top_of new) (tops (node_room old.shape.node_size) (longest + 8) edits (top_of old))
  pub records : IsTrue old.tells → new.shape.leaf_records ≤ old.shape.leaf_records + edits
