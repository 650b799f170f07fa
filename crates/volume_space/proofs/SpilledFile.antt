-- The blocks of a fork of a settled volume: they lie in its bitmap, and are in use there.
use Rattle.std.proofs.Common.{◌≡◌, ◌<◌, ◌≤◌, ℕ, ◌+◌, true, false, List, [], ◌∷◌, ◌++◌, length, get_or, sym, ◌∙◌, ap, arith, ⊎_elim}
use Rattle.std.specs.Prelude.{Contains}
use Rattle.std.specs.List.{flat_map, range_with_len}
use Rattle.std.proofs.lemmas.List.Elements.{Contains-append_right, Contains-append_cases}
use Rattle.hx_bytes.specs.declared.extents.Extent.{Extent}
use Rattle.flag_rows.specs.Marks.{Fit}
use Rattle.fork_map.specs.Blocks.{blocks_of}
use Rattle.alloc_bitmap.specs.Apart.{AreApart, times}
use Rattle.alloc_bitmap.proofs.ApartLaws.{times-append}
use Rattle.file_io.specs.Places.{AreUsed}
use Rattle.sector_disk.specs.Space.{Space}
use Rattle.hfs_volume.specs.Blocks.{forks_of, used_in}
use Rattle.hfs_volume.specs.Content.{attributes_of, overflow_in_volume, volume_of}
use Rattle.hfs_volume.specs.Forks.{Owned, bad_extents, blocks_owned, extents_of, reserved_blocks}
use Rattle.hfs_volume.specs.Values.{blocks_of_values}
use Rattle.hfs_volume.proofs.Apart.{among, fork_is_used, used_is}
use Rattle.hfs_volume.proofs.BlockWants.{range_bounds}
use Rattle.hfs_volume.proofs.Members.{all_of, at_front, first_or_later}
use Rattle.volume_base.specs.Standing.{IsSettled}
use Rattle.volume_base.specs.declared.volume.Volume.{Volume}
use Rattle.volume_base.proofs.Mapped.{kept_bit}
use Rattle.volume_base.proofs.SoundForks.{extent_inside}

-- extents that end below a number
each_fits : (n : ℕ) (es : List Extent) → ((e : Extent) → Contains es e → e.start + e.count ≤ n) → Fit n es
each_fits n [] all = tt
each_fits n (e ∷ es) all = (all e (at_front e es), each_fits n es (λ f there. all f (Contains-append_right (e ∷ []) es f there)))

-- so are their blocks
pub block_below : (n : ℕ) (es : List Extent) → Fit n es → (k : ℕ) → Contains (blocks_of es) k → k < n
block_below n [] fit k there = absurd (omega (arith, there.1))
block_below n (e ∷ es) fit k there = ⊎_elim
    (λ (front : Contains (range_with_len e.start e.count) k). omega (arith, range_bounds e.start e.count k front, fit.0))
    (λ (later : Contains (blocks_of es) k). block_below n es fit.1 k later)
    (Contains-append_cases (range_with_len e.start e.count) (blocks_of es) k there)

-- a block stands in a whole at least as often as in one of its parts
times_part : (f : Owned → List ℕ) (xs : List Owned) (x : Owned) (block : ℕ) → Contains xs x → times block (f x) ≤ times block (flat_map f xs)
times_part f [] x block none = absurd (omega (arith, none.1))
times_part f (z ∷ zs) x block there =
    let parts : times block (f z ++ flat_map f zs) ≡ times block (f z) + times block (flat_map f zs) = times-append block (f z) (flat_map f zs) in
    ⊎_elim
    (λ (first : x ≡ z). omega (arith, parts, ap (λ (w : Owned). times block (f w)) first))
    (λ (later : Contains zs x). omega (arith, parts, times_part f zs x block later))
    (first_or_later z x zs there)

module _ (v : Volume) (a : Space) (settled : IsSettled v a.content) (owned : Owned) (stands : Contains (forks_of (volume_of a.content)) owned) where
  abbrev extents : List Extent
  extents = extents_of (overflow_in_volume (volume_of a.content)) owned.id owned.kind owned.fork

  total_is : length v.map.used ≡ (volume_of a.content).head.total_blocks
  total_is = settled.blocks ∙ ap (λ l. l.head.total_blocks) (sym settled.lists)

  pub file_fits : Fit (length v.map.used) (extents_of (overflow_in_volume (volume_of a.content)) owned.id owned.kind owned.fork)
  file_fits = each_fits (length v.map.used) extents (λ e there. omega (arith, total_is, extent_inside (volume_of a.content) owned settled.sound.blocks.forks stands e there))

  pub file_used : AreUsed v.map (blocks_of (extents_of (overflow_in_volume (volume_of a.content)) owned.id owned.kind owned.fork))
  file_used = all_of (λ (block : ℕ). get_or v.map.used block false ≡ true) (blocks_of extents) (λ block there.
      let low = block_below (length v.map.used) extents file_fits block there in
      sym (kept_bit v block low) ∙ ap (λ l. get_or l.bits block false) (sym settled.lists) ∙ settled.sound.blocks.bits.bits block (omega (arith, low, total_is))
      ∙ among (used_in (volume_of a.content)) block (fork_is_used (volume_of a.content) owned block stands there))

  -- and none of them stands in it twice
  pub file_apart : AreApart (blocks_of (extents_of (overflow_in_volume (volume_of a.content)) owned.id owned.kind owned.fork))
  file_apart block =
      let lists = volume_of a.content in
      let reserved = reserved_blocks lists.sectors lists.head in
      let in_forks = flat_map (blocks_owned (overflow_in_volume lists)) (forks_of lists) in
      let bad = blocks_of (bad_extents (overflow_in_volume lists)) in
      omega (
        arith,
        settled.sound.blocks.forks.once block,
        ap (λ (l : List ℕ). times block l) (used_is lists),
        times-append block (reserved ++ in_forks ++ bad) (blocks_of_values (attributes_of lists)),
        times-append block (reserved ++ in_forks) bad,
        times-append block reserved in_forks,
        times_part (blocks_owned (overflow_in_volume lists)) (forks_of lists) owned block stands,
      )
