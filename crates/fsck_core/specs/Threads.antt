-- The threads of a catalog, as they are matched with its entries one after the other.
use Rattle.std.specs.Prelude.{◌≡◌, ◌⊎◌, ◌<◌, ◌≤◌, ◌==◌, ◌&&◌, ℕ, Bool, true, false, not, List, length, if◌then◌else◌}
use Rattle.std.specs.Str.{bytes_eq}
use Rattle.btree_node.specs.Levels.{Pair}
use Rattle.cat_records.specs.declared.record.CatRecord.{CatRecord}
use Rattle.cat_records.specs.declared.record.CatRecord.TheVariants.{Folder, File, Thread}
use Rattle.hfs_volume.specs.Records.{Placed, placed_of, is_empty, id_of}
use Rattle.fsck_core.specs.Rows.{row_of}
use Rattle.fsck_core.specs.Parents.{marked}
use Rattle.fsck_core.specs.Names.{pair_at}
use Rattle.fsck_core.specs.declared.rows.Row.{Row}

-- a record of a list of pairs, by its place
abbrev pub placed_at : List Pair → ℕ → Placed
placed_at pairs k = placed_of (pair_at pairs k)

-- The pairs before a place are those with a parent below one.
pub record IsSplit (pairs : List Pair) (parent at : ℕ) : Type 0 where
  pub below : (k : ℕ) → k < at → k < length pairs → (placed_at pairs k).parent < parent
  pub rest : (k : ℕ) → at ≤ k → k < length pairs → parent ≤ (placed_at pairs k).parent

-- two bits are the same
abbrev pub same_bit : Bool → Bool → Bool
same_bit one other = if one then other else not other

-- a record is a thread that tells a row's parent and kind, and this name
abbrev pub is_thread_of : CatRecord → Row → List ℕ → Bool
is_thread_of (Folder folder) row name = false
is_thread_of (File file) row name = false
is_thread_of (Thread thread) row name = (thread.parent == row.parent) && (same_bit thread.of_file row.file && bytes_eq name thread.name)

-- A record is the thread of a row of this name.
pub record IsItsThread (row : Row) (name : List ℕ) (placed : Placed) : Type 0 where
  pub parent : placed.parent ≡ row.id
  pub no_name : is_empty placed.name ≡ true
  pub tells : is_thread_of placed.value row name ≡ true

-- The thread of a row of this name stands at a place.
pub record IsThreadAt (pairs : List Pair) (row : Row) (name : List ℕ) (at : ℕ) : Type 0 where
  pub inside : at < length pairs
  pub is : IsItsThread row name (placed_at pairs at)

-- One pair is an entry, and the other its thread.
pub record IsMatch (pairs : List Pair) (entry thread : ℕ) : Type 0 where
  pub inside : entry < length pairs
  pub named : is_empty (placed_at pairs entry).name ≡ false
  pub thread_at : IsThreadAt pairs (row_of (placed_at pairs entry)) (placed_at pairs entry).name thread

-- The pairs that are marked are those of the first so many that are entries with a thread, and the threads of these.
pub record AreMatched (pairs : List Pair) (marks : List Bool) (n : ℕ) : Type 0 where
  pub sound : (k : ℕ) → marked marks k ≡ true → ((thread : ℕ) × (k < n) × IsMatch pairs k thread) ⊎ ((entry : ℕ) × (entry < n) × IsMatch pairs entry k)
  pub entries : (k thread : ℕ) → k < n → IsMatch pairs k thread → marked marks k ≡ true
  pub threads : (entry thread : ℕ) → entry < n → IsMatch pairs entry thread → marked marks thread ≡ true

-- the CNID of an entry, and that of the entry whose thread a record is
abbrev pub place_of : Placed → ℕ
place_of placed = if is_empty placed.name then placed.parent else id_of placed
