-- A put of a value as a whole: how many sectors of the bitmap it changes, and that those that it leaves have their bits.
use Rattle.std.proofs.Common.{◌≡◌, ◌<◌, ◌≤◌, ℕ, ◌+◌, ◌-◌, ◌*◌, ◌/◌, ◌++◌, ◌∷◌, min, List, length, take, drop, sym, ◌∙◌, ap, subst, arith}
use Rattle.std.specs.Prelude.{Contains}
use Rattle.std.proofs.lemmas.List.{length-take}
use Rattle.std.proofs.lemmas.List.Elements.{Contains-append_right}
use Rattle.hx_bytes.specs.declared.extents.Extent.{Extent}
use Rattle.flag_rows.specs.Bits.{count_set, sectors_for}
use Rattle.flag_rows.specs.Marks.{Fit}
use Rattle.flag_rows.specs.Runs.{fewest_of}
use Rattle.fork_map.specs.Blocks.{blocks_of}
use Rattle.fork_map.specs.Cut.{front}
use Rattle.alloc_bitmap.specs.Map.{BlockMap, free_of, none}
use Rattle.alloc_bitmap.proofs.TakeLaws.{picks_chosen}
use Rattle.btree_file.specs.State.{sectors_of_tree}
use Rattle.file_io.specs.Places.{AreUsed, first_block, fresh_of, given, middle, old_end, taken}
use Rattle.cat_records.specs.declared.record.FileRecord.{FileRecord}
use Rattle.sector_disk.specs.Lists.{Content}
use Rattle.sector_disk.specs.Space.{Space}
use Rattle.hfs_volume.specs.Weight.{free_runs}
use Rattle.volume_base.specs.Cutting.{fork_at}
use Rattle.volume_base.specs.Mapping.{HoldsUnchanged, changed_sectors}
use Rattle.volume_base.specs.Standing.{IsSettled, IsStanding, attribute_sectors, map_sectors, own_sectors}
use Rattle.volume_space.specs.Writing.{IsSureToPut, PlacesData, blocks_put}
use Rattle.volume_base.specs.declared.entries.Entry.{Entry}
use Rattle.volume_base.specs.declared.volume.Volume.{Volume}
use Rattle.volume_space.proofs.PutStages.{fit_back, fit_front, in_order, in_part, middle_blocks}
use Rattle.volume_space.proofs.PutUnchanged.{few_changed_by, holds_unchanged}

pub map_own : (w : Volume) (s : ℕ) → Contains (map_sectors w) s → Contains (own_sectors w) s
map_own w s has = Contains-append_right (2 ∷ sectors_of_tree w.extents.file) (sectors_of_tree w.catalog.file ++ (attribute_sectors w ++ map_sectors w)) s
    (Contains-append_right (sectors_of_tree w.catalog.file) (attribute_sectors w ++ map_sectors w) s (Contains-append_right (attribute_sectors w) (map_sectors w) s has))

module _ (v w : Volume) (a : Space) (size from long : ℕ) (list : List Extent) (sure : IsSureToPut list size v a) (some : 0 < long) (enough : blocks_put v size from long ≤ count_set (free_of v.map)) (unchanged : v.map.changed ≡ none (sectors_for (length v.map.used)))
    (map_is : w.map ≡ given (middle (first_block v.header.block_size size from) (old_end v.header.block_size size (from + long)) list) (taken (blocks_put v size from long) v.map))
  where
    abbrev start : ℕ
    start = first_block v.header.block_size size from

    abbrev behind : ℕ
    behind = old_end v.header.block_size size (from + long)

    order : start ≤ behind
    order = in_order v.header.block_size size from (from + long) (blocks_of list) (blocks_of (fresh_of v.map (blocks_put v size from long))) (omega (arith, sure.block.least)) (omega (arith, some)) sure.holds (picks_chosen (free_of v.map) (blocks_put v size from long) enough).count

    pub old_fits : Fit (length v.map.used) (middle start behind list)
    old_fits = fit_back (length v.map.used) start (front behind list) (fit_front (length v.map.used) behind list sure.fit)

    pub old_used : AreUsed v.map (blocks_of (middle start behind list))
    old_used = in_part v.map (blocks_of list) start (behind - start) (blocks_of (middle start behind list)) (middle_blocks start behind list order) sure.used

    pub changed_few : length (changed_sectors w) ≤ min (sectors_for (length v.map.used)) (blocks_put v size from long / 4096 + 2 * fewest_of (blocks_put v size from long) (free_runs (free_of v.map)) + (behind - start))
    changed_few = omega (
      arith,
      few_changed_by v w (blocks_put v size from long) (middle start behind list) enough unchanged old_fits map_is,
      ap (λ (l : List ℕ). length l) (middle_blocks start behind list order),
      length-take (behind - start) (drop start (blocks_of list)),
    )

    pub still_unchanged : (k : ℕ) (c : Content) → IsStanding v a → IsSettled v a.content → (entry : Entry) (file : FileRecord) → (fork_at k file).logical_size ≡ size → (value : List ℕ) → length value ≡ long → (total free : ℕ) → PlacesData k entry file list from value total free v w a.content c → HoldsUnchanged w c
    still_unchanged k c was settled entry file size_is value long_is total free places =
        holds_unchanged k v w a c was settled entry file list from value total free places (blocks_put v size from long) (λ i. blocks_put v (sym size_is i) from (sym long_is i)) enough unchanged (middle start behind list) old_fits old_used map_is

-- what a bound of the sectors is, where its counts are these
pub bits_are : (v : Volume) (fresh freed n k bits : ℕ) → fresh ≡ n → freed ≡ k → bits ≡ min (sectors_for (length v.map.used)) (fresh / 4096 + 2 * fewest_of fresh (free_runs (free_of v.map)) + freed)
    → bits ≡ min (sectors_for (length v.map.used)) (n / 4096 + 2 * fewest_of n (free_runs (free_of v.map)) + k)
bits_are v fresh freed n k bits is so was = was ∙ (λ i. min (sectors_for (length v.map.used)) (is i / 4096 + 2 * fewest_of (is i) (free_runs (free_of v.map)) + so i))
