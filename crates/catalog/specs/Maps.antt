-- The catalog as two maps: from a folder and a name to a record, and from a CNID to a thread, which stands under the empty name.
use Rattle.std.specs.Prelude.{◌≡◌, ℕ, ℤ, false, List, [], None, Some}
use Rattle.btree_node.specs.Levels.{Pair}
use Rattle.hfs_volume.specs.Changes.{thread_with}
use Rattle.hfs_volume.specs.Records.{Placed, placed_in, record_at, id_of, is_empty}

-- The entry is new in the map of names, and its thread in that of CNIDs; at all other places both have what they had.
pub record InsertsEntry (entry : Placed) (old new : List Pair) : Type 0 where
  pub vacant : record_at (placed_in old) entry.parent entry.name ≡ None
  pub there : record_at (placed_in new) entry.parent entry.name ≡ Some entry
  pub others : (parent : ℕ) (name : List ℕ) → is_empty name ≡ false → (entry.parent ≡ parent → entry.name ≡ name → ⊥) → record_at (placed_in new) parent name ≡ record_at (placed_in old) parent name
  pub unused : record_at (placed_in old) (id_of entry) [] ≡ None
  pub spare : ℤ
  pub thread : record_at (placed_in new) (id_of entry) [] ≡ Some (thread_with spare entry)
  pub threads : (id : ℕ) → (id_of entry ≡ id → ⊥) → record_at (placed_in new) id [] ≡ record_at (placed_in old) id []

-- The entry and its thread are gone from the maps, in which they stood; at all other places both have what they had.
abbrev pub DeletesEntry : Placed → List Pair → List Pair → Type 0
DeletesEntry entry old new = InsertsEntry entry new old
