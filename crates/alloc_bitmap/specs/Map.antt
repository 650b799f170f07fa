-- The bitmap of a volume, as a contract sees it.
use Rattle.std.specs.Prelude.{◌≡◌, ℕ, ◌+◌, ◌-◌, ◌/◌, ◌<◌, ◌≤◌, Bool, true, false, not, ◌==◌, ◌&&◌, ◌||◌, if◌then◌else◌, List, length, map, replicate, slice_index_or}
use Rattle.std.specs.List.{range_with_len, All}
use Rattle.fork_map.specs.Blocks.{blocks_of}
use Rattle.alloc_bitmap.specs.Apart.{AreApart}
use Rattle.hx_bytes.specs.declared.extents.Extent.{Extent}
use Rattle.flag_rows.specs.Bits.{sectors_for}
use Rattle.alloc_bitmap.specs.Kept.{Kept, Held}

-- All that a contract sees of a bitmap.
pub record BlockMap : Type 0 where
  -- for each block, whether it is used
  pub used : List Bool
  -- for each block, whether it is held
  pub held : List Bool
  -- for each sector of the bitmap, whether a bit in it was changed since the last keep
  pub changed : List Bool
  -- the used blocks at the last keep
  pub kept_used : List Bool
  -- the held blocks at the last keep, or none where a settle came since
  pub kept_held : List Bool
  -- the extents of the allocation file, and how many sectors a block has
  pub fork : List Extent
  pub per_block : ℕ

-- for each block, whether it is free to take: neither used nor held
abbrev pub free_of : BlockMap → List Bool
free_of blocks = map (λ k. not (slice_index_or blocks.used k true) && not (slice_index_or blocks.held k false)) (range_with_len 0 (length blocks.used))

-- for each block, whether it is used or held
abbrev pub taken_of : List Bool → List Bool → List Bool
taken_of used held = map (λ k. slice_index_or used k true || slice_index_or held k false) (range_with_len 0 (length used))

-- for each block, whether it isn't used
abbrev pub unused_of : BlockMap → List Bool
unused_of blocks = map (λ used. not used) blocks.used

-- n flags of which none is set
abbrev pub none : ℕ → List Bool
none n = replicate n false

-- the sectors of the bitmap in which an extent has bits
abbrev pub touched_by : Extent → Extent
touched_by extent = record {
  start = extent.start / 4096;
  count = if extent.count == 0 then 0 else (extent.start + extent.count + 4095) / 4096 - extent.start / 4096;
}

-- the blocks of an extent lie in the volume, and their flags have this value
pub record Have (flags : List Bool) (extent : Extent) (value : Bool) : Type 0 where
  pub inside : extent.start + extent.count ≤ length flags
  pub each : (k : ℕ) → extent.start ≤ k → k < extent.start + extent.count → slice_index_or flags k (not value) ≡ value

-- what the parts of a bitmap have to do with each other: a held block isn't used, and each used or held block is taken
pub record IsMap (used : Kept) (held : Held) (changed taken : List Bool) : Type 0 where
  pub size : length held.flags ≡ length used.flags
  pub kept_size : length used.kept ≡ length used.flags
  pub kept_held_size : length held.kept ≡ length used.flags
  pub taken_is : taken ≡ taken_of used.flags held.flags
  pub changed_size : length changed ≡ sectors_for (length used.flags)
  pub apart : (k : ℕ) → slice_index_or held.flags k false ≡ true → slice_index_or used.flags k true ≡ false
  pub kept_apart : (k : ℕ) → slice_index_or held.kept k false ≡ true → slice_index_or used.kept k true ≡ false

-- these extents have n blocks, all of them free and none of them twice
pub record PicksFree (free : List Bool) (n : ℕ) (extents : List Extent) : Type 0 where
  pub count : length (blocks_of extents) ≡ n
  pub apart : AreApart (blocks_of extents)
  pub each : All (λ block. slice_index_or free block false ≡ true) (blocks_of extents)
