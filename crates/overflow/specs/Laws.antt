-- What the records of a list of extents give back.
use Rattle.std.specs.Prelude.{◌≡◌, ◌≢◌, ℕ, ◌*◌, List, [], ◌∷◌, map, take, drop}
use Rattle.std.specs.List.{range_with_len}
use Rattle.hx_bytes.specs.declared.extents.Extent.{Extent}
use Rattle.fork_map.specs.Blocks.{blocks_of}
use Rattle.hfs_model.specs.Sorted.{kept}
use Rattle.hfs_volume.specs.Blocks.{GoesOn}
use Rattle.hfs_volume.specs.Forks.{extents_id, extents_of, in_use, is_of}
use Rattle.hfs_volume.specs.Records.{Overflow}
use Rattle.overflow.specs.Records.{front_record, records_for, under}
use Rattle.overflow.specs.declared.record.OverflowRecord.{OverflowRecord}

-- A tree whose records of a fork are those for some extents gives these extents behind the record that goes with them, and they go on there.
abbrev pub StoredIsLoaded : Type 0
StoredIsLoaded =
    (overflow : List Overflow) (id kind : ℕ) (extents : List Extent) → id ≢ extents_id → in_use extents ≡ extents → kept (is_of id kind) overflow ≡ map (under id kind) (records_for extents)
    → (extents_of overflow id kind (front_record extents) ≡ extents) × GoesOn overflow (record { id = id; kind = kind; fork = front_record extents })

-- Extents without blocks may be left out: the blocks are the same.
abbrev pub UnusedHaveNoBlocks : Type 0
UnusedHaveNoBlocks = (extents : List Extent) → blocks_of (in_use extents) ≡ blocks_of extents

-- seventeen extents of a block each, none of which touches another
abbrev pub seventeen : List Extent
seventeen = map (λ k. record { start = 10 * k; count = 1 }) (range_with_len 1 17)

-- They have two records: eight extents from block 8 of the fork on, and one from block 16 on.
abbrev pub SeventeenHaveTwo : Type 0
SeventeenHaveTwo =
    (map (λ (one : OverflowRecord). one.start) (records_for seventeen) ≡ 8 ∷ 16 ∷ [])
    × (map (λ (one : OverflowRecord). in_use one.extents.extents) (records_for seventeen) ≡ take 8 (drop 8 seventeen) ∷ drop 16 seventeen ∷ [])
