-- The room that storing a fork needs in the extents tree.
use Rattle.std.specs.Prelude.{◌≡◌, ◌⊎◌, ℕ, ◌*◌, true, List, length, map}
use Rattle.hx_bytes.specs.declared.extents.Extent.{Extent}
use Rattle.btree_node.specs.Store.{Store, HasRoom}
use Rattle.btree_edit.specs.Editing.{edit_writes}
use Rattle.btree_edit.specs.Edits.{EditRoom}
use Rattle.hfs_volume.specs.Forks.{in_use}
use Rattle.overflow.specs.Changes.{changes_to, is_light, are_light}
use Rattle.overflow.specs.Reading.{fork_records}
use Rattle.overflow.specs.Records.{records_for, record_of}
use Rattle.overflow.specs.declared.changes.Change.{Change}

-- the changes that make the overflow records of a fork those for other extents
abbrev pub changes_for : Store → ℕ → ℕ → List Extent → List Change
changes_for store id kind new = changes_to (map record_of (fork_records id kind store)) (records_for (in_use new))

-- how many edits those are: one for each start at which the records of the tree and those wanted differ
abbrev pub edits_for : Store → ℕ → ℕ → List Extent → ℕ
edits_for store id kind new = length (changes_for store id kind new)

-- records are only removed and replaced, and there is room to write what that writes
pub record HasLightRoom (changes : List Change) (store : Store) : Type 0 where
  pub light : are_light changes ≡ true
  pub writes : HasRoom (length changes * edit_writes store.shape.depth) store

-- room for the changes of a fork's records
abbrev pub HasStoreRoom : Store → ℕ → ℕ → List Extent → Type 0
HasStoreRoom store id kind new = EditRoom (edits_for store id kind new) 10 store ⊎ HasLightRoom (changes_for store id kind new) store

-- room for one change: for an edit, or to remove or replace a record for what that writes
abbrev pub ChangeRoom : Change → Store → Type 0
ChangeRoom change store = EditRoom 1 10 store ⊎ ((is_light change ≡ true) × HasRoom (edit_writes store.shape.depth) store)
