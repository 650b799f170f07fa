-- Which blocks a write makes anew.
use Rattle.std.specs.Prelude.{◌⊎◌, ℕ, ◌+◌, ◌-◌, ◌/◌, min, if◌then◌else◌, ◌==◌, ◌≡◌, true, false, List, length, slice_index_or}
use Rattle.std.specs.Prelude.{map as map_list}
use Rattle.std.specs.List.{All}
use Rattle.flag_rows.specs.Marks.{mark_all}
use Rattle.hx_bytes.specs.declared.extents.Extent.{Extent}
use Rattle.flag_rows.specs.Runs.{runs_of, longest_first}
use Rattle.fork_map.specs.Cut.{front, back}
use Rattle.alloc_bitmap.specs.Map.{BlockMap, free_of, touched_by}

-- how many blocks so many bytes take
abbrev pub blocks_for : ℕ → ℕ → ℕ
blocks_for block bytes = if bytes == 0 then 0 else (bytes - 1) / block + 1

-- the first block that a write makes anew: that of its first byte, or of the first byte past the size where that comes before
abbrev pub first_block : ℕ → ℕ → ℕ → ℕ
first_block block size from = min from size / block

-- how many blocks a write of the bytes from one place up to another makes anew
abbrev pub new_blocks : ℕ → ℕ → ℕ → ℕ → ℕ
new_blocks block size from end = blocks_for block end - first_block block size from

-- the place behind the last old block that they stand for
abbrev pub old_end : ℕ → ℕ → ℕ → ℕ
old_end block size end = min (blocks_for block end) (blocks_for block size)

-- how many of the new blocks lie wholly past the old size and before another block of the file: they hold zeros alone
abbrev pub zero_blocks : ℕ → ℕ → ℕ → ℕ
zero_blocks block size stop = stop - blocks_for block size

-- the place of the first of them among the new blocks
abbrev pub zeros_at : ℕ → ℕ → ℕ → ℕ → ℕ
zeros_at block size from end = old_end block size end - first_block block size from

-- the extents of so many blocks that are taken of a bitmap: the first of its free runs, longest first
abbrev pub fresh_of : BlockMap → ℕ → List Extent
fresh_of map n = front n (longest_first (runs_of (free_of map)))

-- the extents of the blocks from one place up to another
abbrev pub middle : ℕ → ℕ → List Extent → List Extent
middle from to extents = back from (front to extents)

-- the blocks of these extents were freed and are held
abbrev pub given : List Extent → BlockMap → BlockMap
given extents map = record map {
  used = mark_all map.used extents false;
  held = mark_all map.held extents true;
  changed = mark_all map.changed (map_list (λ extent. touched_by extent) extents) true;
}

-- so many blocks were taken of a bitmap
abbrev pub taken : ℕ → BlockMap → BlockMap
taken n map = record map {
  used = mark_all map.used (fresh_of map n) true;
  changed = mark_all map.changed (map_list (λ extent. touched_by extent) (fresh_of map n)) true;
}

-- each of these blocks is used
abbrev pub AreUsed : BlockMap → List ℕ → Type 0
AreUsed map blocks = All (λ block. slice_index_or map.used block false ≡ true) blocks

-- The bitmap has as many blocks as it had, and as many sectors of which it keeps whether they were changed; and it lies in the same file.
pub record KeepsMap (old new : BlockMap) : Type 0 where
  pub fork : new.fork ≡ old.fork
  pub per_block : new.per_block ≡ old.per_block
  pub used : length new.used ≡ length old.used
  pub changed : length new.changed ≡ length old.changed

-- Each block that was used or held is used or held.
pub record LosesNone (old new : BlockMap) : Type 0 where
  pub long : length old.held ≡ length old.used → length new.held ≡ length new.used
  pub each : length old.held ≡ length old.used → (block : ℕ) → (slice_index_or old.used block false ≡ true) ⊎ (slice_index_or old.held block false ≡ true) → (slice_index_or new.used block false ≡ true) ⊎ (slice_index_or new.held block false ≡ true)
