-- Calls of several edits of one tree: the room that they need, and what they take.
use Rattle.std.specs.Prelude.{◌≡◌, ◌<◌, ◌≤◌, ℕ, zero, suc, ◌+◌, ◌-◌, ◌*◌, ◌^◌, IsTrue, nat_lt, max, length, if◌then◌else◌}
use Rattle.btree_node.specs.Node.{items}
use Rattle.btree_node.specs.Store.{Store, HasRoom}
use Rattle.btree_edit.specs.Editing.{CostsAtMost, edit_writes}
use Rattle.btree_edit.specs.LevelEdit.{node_room}

-- a tree's depth, and how many records its root has, where that is an index node
pub record TreeTop : Type 0 where
  pub depth : ℕ
  pub records : ℕ

-- a root without a record counts as one with a record
abbrev pub top_of : Store → TreeTop
top_of store = record { depth = store.shape.depth; records = max 1 (length (items (store.nodes store.shape.root))) }

-- The top after one more edit at most, where a record of the root takes so many bytes of this room: an empty tree gets a leaf, above a leaf comes
-- a root of two records, and an index root gets one record more, or where that doesn't fit a root of two records above it.
abbrev pub top_after : (room wide depth records : ℕ) → TreeTop
top_after room wide zero records = record { depth = 1; records = 1 }
top_after room wide (suc zero) records = record { depth = 2; records = 2 }
top_after room wide (suc (suc above)) records =
    if nat_lt room (wide * (records + 1)) then record { depth = suc (suc (suc above)); records = 2 } else record { depth = suc (suc above); records = records + 1 }

-- the top after so many edits at most
abbrev pub tops : (room wide edits : ℕ) → TreeTop → TreeTop
tops room wide zero top = top
tops room wide (suc edits) top = tops room wide edits (top_after room wide top.depth top.records)

-- one top is no higher than another
pub record IsNoHigher (one other : TreeTop) : Type 0 where
  pub depth : one.depth ≤ other.depth
  pub records : one.depth ≡ other.depth → 2 ≤ one.depth → one.records ≤ other.records

-- So many edits of a tree with keys of at most so many bytes make it no deeper than this.
abbrev pub GoesNoDeeper : (edits longest deepest : ℕ) → Store → Type 0
GoesNoDeeper edits longest deepest store = (tops (node_room store.shape.node_size) (longest + 8) edits (top_of store)).depth ≤ deepest

-- There is room for so many edits of a store that tells its nodes: for the depth, the records, the free nodes and the writes that they may come to.
pub record EditRoom (edits longest : ℕ) (store : Store) : Type 0 where
  pub deepest : ℕ
  pub deep : GoesNoDeeper edits longest deepest store
  pub depth : 0 < edits → deepest ≤ 11
  pub records : store.shape.leaf_records + edits ≤ 2 ^ 32 - 1
  pub free : edits * (deepest + 1) ≤ store.shape.free
  pub writes : HasRoom (edits * edit_writes deepest) store

-- So many edits take at most their nodes and writes, whether or not they were all made; what they take of a store that doesn't tell its nodes isn't told.
abbrev pub TakesAtMost : ℕ → ℕ → Store → Store → Type 0
TakesAtMost edits longest old new = IsTrue old.tells → (deepest : ℕ) → GoesNoDeeper edits longest deepest old → CostsAtMost (edits * edit_writes deepest) (edits * (deepest + 1)) old new

-- At most so many edits were made, where the store tells its nodes.
pub record TakesEdits (edits longest : ℕ) (old new : Store) : Type 0 where
  pub takes : TakesAtMost edits longest old new
  pub top : IsTrue old.tells → IsNoHigher (top_of new) (tops (node_room old.shape.node_size) (longest + 8) edits (top_of old))
  pub records : IsTrue old.tells → new.shape.leaf_records ≤ old.shape.leaf_records + edits
