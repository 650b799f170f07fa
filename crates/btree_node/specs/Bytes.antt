-- What the steps of an edit do to the bytes of a node, place by place.
use Rattle.std.specs.Prelude.{◌≡◌, ◌≢◌, ◌<◌, ◌≤◌, ℕ, ◌+◌, ◌*◌, List, length, slice_index, slice_range, slice_set, insert, remove}
use Rattle.btree_node.specs.Node.{offset, record_count, items, IsNode, SameHead}

-- the bytes from `at` up to `end` moved towards the end
pub record MovesUp (at end by : ℕ) (old new : List ℕ) : Type 0 where
  pub size : length new ≡ length old
  pub moved : (k : ℕ) → at ≤ k → k < end → slice_index new (k + by) ≡ slice_index old k
  pub below : (k : ℕ) → k < at → slice_index new k ≡ slice_index old k
  pub above : (k : ℕ) → end + by ≤ k → slice_index new k ≡ slice_index old k

-- the bytes from `at + by` up to `end` moved towards the front
pub record MovesDown (at end by : ℕ) (old new : List ℕ) : Type 0 where
  pub size : length new ≡ length old
  pub moved : (k : ℕ) → at ≤ k → k + by < end → slice_index new k ≡ slice_index old (k + by)
  pub below : (k : ℕ) → k < at → slice_index new k ≡ slice_index old k
  pub above : (k : ℕ) → end ≤ k → slice_index new k ≡ slice_index old k

-- one offset is set
pub record SetsOffset (i x : ℕ) (old new : List ℕ) : Type 0 where
  pub size : length new ≡ length old
  pub here : offset new i ≡ x
  pub others : (j : ℕ) → j ≢ i → 2 * (j + 1) ≤ length old → offset new j ≡ offset old j
  pub below : (k : ℕ) → k + 2 * (i + 1) < length old → slice_index new k ≡ slice_index old k

-- the offsets from `from` up to `to` are changed, and those before them and the bytes below them are not
pub record ChangesOffsets (from to : ℕ) (change : ℕ → ℕ → Type 0) (old new : List ℕ) : Type 0 where
  pub size : length new ≡ length old
  pub changed : (j : ℕ) → from ≤ j → j < to → change (offset old j) (offset new j)
  pub kept : (j : ℕ) → j < from → offset new j ≡ offset old j
  pub below : (k : ℕ) → k + 2 * to < length old → slice_index new k ≡ slice_index old k

-- the number of records is set
pub record SetsCount (n : ℕ) (old new : List ℕ) : Type 0 where
  pub size : length new ≡ length old
  pub count : record_count new ≡ n
  pub kept : (k : ℕ) → k ≢ 10 → k ≢ 11 → slice_index new k ≡ slice_index old k

-- a record stands at `at`, and the bytes from there up to `end` stand behind it
pub record OpensData (at end : ℕ) (bytes old new : List ℕ) : Type 0 where
  pub size : length new ≡ length old
  pub put : slice_range new at (at + length bytes) ≡ bytes
  pub moved : (k : ℕ) → at ≤ k → k < end → slice_index new (k + length bytes) ≡ slice_index old k
  pub below : (k : ℕ) → k < at → slice_index new k ≡ slice_index old k
  pub above : (k : ℕ) → end + length bytes ≤ k → slice_index new k ≡ slice_index old k

-- one offset more, at place `i` of n + 1; those from there on are higher
pub record OpensSlot (i n at len : ℕ) (old new : List ℕ) : Type 0 where
  pub size : length new ≡ length old
  pub count : record_count new ≡ n + 1
  pub before : (j : ℕ) → j < i → offset new j ≡ offset old j
  pub here : offset new i ≡ at
  pub behind : (j : ℕ) → i ≤ j → j ≤ n → offset new (j + 1) ≡ offset old j + len
  pub below : (k : ℕ) → k + 2 * (n + 2) < length old → k ≢ 10 → k ≢ 11 → slice_index new k ≡ slice_index old k

-- one offset less of n + 1, at place `i`; those behind it are lower
pub record ClosesSlot (i n len : ℕ) (old new : List ℕ) : Type 0 where
  pub size : length new ≡ length old
  pub count : record_count new + 1 ≡ n
  pub before : (j : ℕ) → j < i → offset new j ≡ offset old j
  pub behind : (j : ℕ) → i ≤ j → j < n → offset new j + len ≡ offset old (j + 1)
  pub below : (k : ℕ) → k + 2 * (n + 1) < length old → k ≢ 10 → k ≢ 11 → slice_index new k ≡ slice_index old k

-- the same records, from the descriptor's end on
pub record Packs (old new : List ℕ) : Type 0 where
  pub items : items new ≡ items old
  pub well_formed : IsNode new
  pub head : SameHead old new
  pub count : record_count new ≡ record_count old
  pub first : offset new 0 ≡ 14

-- one record more in the list
pub record InsertsRecord (i : ℕ) (bytes old new : List ℕ) : Type 0 where
  pub items : items new ≡ insert (items old) i bytes
  pub well_formed : IsNode new
  pub head : SameHead old new

-- one record less
pub record RemovesRecord (i : ℕ) (old new : List ℕ) : Type 0 where
  pub items : items new ≡ remove (items old) i
  pub well_formed : IsNode new
  pub head : SameHead old new

-- another record in the place of one
pub record OverwritesRecord (i : ℕ) (bytes old new : List ℕ) : Type 0 where
  pub items : items new ≡ slice_set (items old) i bytes
  pub well_formed : IsNode new
  pub head : SameHead old new
