-- Records that stand one behind the other in one row of bytes.
use Rattle.std.specs.Prelude.{◌≡◌, ◌≤◌, ◌<◌, ℕ, List, ◌∷◌, length, map, slice_index, slice_range}
use Rattle.std.specs.List.{range_with_len}

-- where a record begins: where the one before it ends
abbrev pub start_of : List ℕ → ℕ → ℕ
start_of ends i = slice_index (0 ∷ ends) i

-- the record between its start and its end
abbrev pub record_in : List ℕ → List ℕ → ℕ → List ℕ
record_in bytes ends i = slice_range bytes (start_of ends i) (slice_index ends i)

-- the records that these ends cut
unfoldable pub cut_at : List ℕ → List ℕ → List (List ℕ)
cut_at bytes ends = map (record_in bytes ends) (range_with_len 0 (length ends))

-- the ends rise, and the last is that of the bytes
pub record AreEnds (bytes ends : List ℕ) : Type 0 where
  pub rising : (i : ℕ) → i < length ends → start_of ends i ≤ slice_index ends i
  pub inside : (i : ℕ) → i < length ends → slice_index ends i ≤ length bytes
  pub whole : start_of ends (length ends) ≡ length bytes
