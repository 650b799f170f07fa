-- A sector that a repair writes stands in one file, and there once.
use Rattle.std.proofs.Common.{◌≡◌, ◌≢◌, ◌<◌, ◌≤◌, ℕ, ◌+◌, ◌/◌, Bool, true, false, cond, ◌==◌, List, [], ◌∷◌, ◌++◌, ◌∙◌, ap, subst, arith, ⊎_elim}
use Rattle.std.specs.Prelude.{Contains, All, Some, None, slice_get}
use Rattle.std.specs.List.{flat_map}
use Rattle.std.proofs.lemmas.Bool.{cases_lt}
use Rattle.std.proofs.lemmas.Bool.Decides.{eqb_tells}
use Rattle.fork_map.specs.Blocks.{blocks_of}
use Rattle.alloc_bitmap.specs.Apart.{times}
use Rattle.alloc_bitmap.proofs.ApartLaws.{times-append, times-cons}
use Rattle.jnl_format.specs.Recovery.{Content, header_of_volume}
use Rattle.hfs_volume.specs.Blocks.{used_in}
use Rattle.hfs_volume.specs.Content.{VolumeState, volume_of, records_of, attributes_of, overflow_in_volume, overflow_of_content, bitmap_sectors}
use Rattle.hfs_volume.specs.Forks.{fork_blocks, reserved_blocks, used_blocks, all_forks, file_forks, blocks_owned, bad_extents, per_block_of, allocation_id, catalog_id, extents_id, startup_id, attributes_id, data_kind}
use Rattle.hfs_volume.specs.Values.{blocks_of_values}
use Rattle.hfs_volume.proofs.Members.{at_front, behind, each_of}
use Rattle.volume_repair.specs.Repair.{IsMendable, blocks_written, catalog_sectors, place_from}
use Rattle.fsck_repair.proofs.PlaceLaws.{place_once, place_none, stands_some, times_sectors}

-- a test as a number
abbrev one_if : Bool → ℕ
one_if b = cond b 1 0

-- what is counted in a list stands there
counted_stands : (xs : List ℕ) (x : ℕ) → 0 < times x xs → Contains xs x
counted_stands [] x some = absurd (omega (arith, some))
counted_stands (y ∷ ys) x some =
    let count : times x (y ∷ ys) ≡ one_if (y == x) + times x ys = times-cons x y ys in
    ⊎_elim
    (λ (same : (y == x ≡ true) × (y ≡ x)). subst (λ z. Contains (y ∷ ys) z) same.1 (at_front y ys))
    (λ (other : (y == x ≡ false) × (y ≢ x)).
    behind y x ys (counted_stands ys x (let none : one_if (y == x) ≡ 0 = ap one_if other.0 in omega (arith, some, count, none))))
    (eqb_tells y x)

module _ (volume : VolumeState) where
  abbrev allocation : List ℕ
  allocation = fork_blocks (overflow_in_volume volume) allocation_id data_kind volume.head.allocation_fork

  abbrev catalog : List ℕ
  catalog = fork_blocks (overflow_in_volume volume) catalog_id data_kind volume.head.catalog_fork

  -- the blocks of both files are used
  pub both_used : (block : ℕ) → times block allocation + times block catalog ≤ times block (used_in volume)
  unfolding used_blocks all_forks
  both_used block =
      let overflow = overflow_in_volume volume in
      let head = volume.head in
      let files = flat_map (blocks_owned overflow) (file_forks (records_of volume)) in
      let startup = fork_blocks overflow startup_id data_kind head.startup_fork in
      let attributes = fork_blocks overflow attributes_id data_kind head.attributes_fork in
      let extents = fork_blocks overflow extents_id data_kind head.extents_fork in
      let reserved = reserved_blocks volume.sectors head in
      let bad = blocks_of (bad_extents overflow) in
      let values = blocks_of_values (attributes_of volume) in
      let v = times-append block ((reserved ++ (extents ++ (catalog ++ (allocation ++ (startup ++ (attributes ++ files)))))) ++ bad) values in
      let e = times-append block (reserved ++ (extents ++ (catalog ++ (allocation ++ (startup ++ (attributes ++ files)))))) bad in
      let a = times-append block reserved (extents ++ (catalog ++ (allocation ++ (startup ++ (attributes ++ files))))) in
      let b = times-append block extents (catalog ++ (allocation ++ (startup ++ (attributes ++ files)))) in
      let c = times-append block catalog (allocation ++ (startup ++ (attributes ++ files))) in
      let d = times-append block allocation (startup ++ (attributes ++ files)) in
      omega (arith, v, e, a, b, c, d)

  -- so each of them stands once in one of the files
  pub each_once : (block : ℕ) → All (λ b. times b (used_in volume) ≤ 1) (blocks_written volume) → times block allocation + times block catalog ≤ 1
  each_once block once = ⊎_elim
      (λ (some : 0 < times block allocation + times block catalog). let most = each_of (λ b. times b (used_in volume) ≤ 1) (blocks_written volume) once block (stands some) in omega (arith, most, both_used block))
      (λ (none : times block allocation + times block catalog ≤ 0). omega (arith, none))
      (cases_lt 0 (times block allocation + times block catalog))
    where
      stands : 0 < times block allocation + times block catalog → Contains (blocks_written volume) block
      stands some = counted_stands (blocks_written volume) block (
          let a = times-append block (allocation ++ catalog) (reserved_blocks volume.sectors volume.head) in
          let b = times-append block allocation catalog in
          omega (arith, some, a, b))

module _ (content : Content) (can : IsMendable content) (some : 0 < per_block_of (header_of_volume content)) where
  once_at : (at : ℕ) → times at (bitmap_sectors content) + times at (catalog_sectors content) ≤ 1
  unfolding volume_of overflow_of_content
  once_at at =
      let per = per_block_of (header_of_volume content) in
      let few = each_once (volume_of content) (at / per) can.once in
      let a = times_sectors per at (fork_blocks (overflow_of_content content) allocation_id data_kind (header_of_volume content).allocation_fork) some in
      let c = times_sectors per at (fork_blocks (overflow_of_content content) catalog_id data_kind (header_of_volume content).catalog_fork) some in
      omega (arith, few, a, c)

  -- the place of a sector of the allocation file, and of one of the catalog file
  pub bitmap_place : (at k : ℕ) → slice_get (bitmap_sectors content) k ≡ Some at → place_from 0 (bitmap_sectors content) at ≡ Some k
  bitmap_place at k is = place_once (bitmap_sectors content) 0 at k is (omega (arith, once_at at)) ∙ ap Some {x = 0 + k} (omega arith)

  pub catalog_place : (at k : ℕ) → slice_get (catalog_sectors content) k ≡ Some at → (place_from 0 (bitmap_sectors content) at ≡ None) × (place_from 0 (catalog_sectors content) at ≡ Some k)
  catalog_place at k is =
      let there = stands_some (catalog_sectors content) at k is in
      (place_none (bitmap_sectors content) 0 at (omega (arith, once_at at, there)), place_once (catalog_sectors content) 0 at k is (omega (arith, once_at at)) ∙ ap Some {x = 0 + k} (omega arith))
