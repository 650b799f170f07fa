-- The bits of a volume whose map has a run of blocks more in use, whichever file they go to.
use Rattle.std.proofs.Common.{◌≡◌, ◌<◌, ◌≤◌, ℕ, ◌+◌, ◌-◌, ◌*◌, Bool, true, false, List, [], ◌∷◌, length, get_or, replicate, refl, sym, ◌∙◌, ap, subst, arith, ⊎_elim, length-append}
use Rattle.std.specs.Prelude.{Contains}
use Rattle.std.proofs.lemmas.Bool.{cases_lt}
use Rattle.std.proofs.lemmas.List.{get_or-append_right}
use Rattle.hx_bytes.specs.declared.extents.Extent.{Extent}
use Rattle.flag_rows.specs.Bits.{has, sectors_for}
use Rattle.fork_map.specs.Blocks.{blocks_of}
use Rattle.alloc_bitmap.specs.Fork.{fork_bit}
use Rattle.alloc_bitmap.specs.Map.{none}
use Rattle.alloc_bitmap.proofs.HoldLaws.{has_range}
use Rattle.sector_disk.specs.Lists.{sector}
use Rattle.sector_disk.specs.Space.{Space}
use Rattle.hfs_volume.specs.Content.{VolumeState}
use Rattle.hfs_volume.proofs.BlockWants.{in_range}
use Rattle.volume_base.specs.Lists.{bits_on}
use Rattle.volume_base.specs.Standing.{IsSettled, IsStanding, map_sectors}
use Rattle.volume_base.specs.declared.volume.Volume.{Volume}
use Rattle.volume_base.proofs.Resettling.{bits_at, bits_here}
use Rattle.volume_base.proofs.TreesSettled.{header_settled}
use Rattle.volume_space.specs.Growing.{TakesRun}
use Rattle.volume_base.specs.Mapping.{HoldsUnchanged}
use Rattle.volume_space.proofs.GrownBits.{bit_elsewhere, bits_hold, unchanged_has}
use Rattle.volume_space.proofs.GrownRun.{blocks_one, same_length, used_now, used_others}
use Rattle.volume_base.proofs.Mapped.{kept_bit}

-- a block of none of a run's is none that it has
pub not_in_run : (run : Extent) (k : ℕ) → (Contains (blocks_of (run ∷ [])) k → ⊥) → has run k ≡ false
not_in_run run k none = by (has run k) refl
  where
    by : (b : Bool) → has run k ≡ b → has run k ≡ false
    by false is = is
    by true is = absurd (none (subst (λ (l : List ℕ). Contains l k) (sym (blocks_one run)) (let range = has_range run k is in in_range run.start run.count k range.0 range.1)))

module _ (v w : Volume) (count : ℕ) (run : Extent) (takes : TakesRun count run v.map w.map) (same : w.header.allocation_fork.logical_size ≡ v.header.allocation_fork.logical_size) where
  used_long : length w.map.used ≡ length v.map.used
  used_long = same_length count run v.map w.map takes

  pub bits_longer : length (bits_on w) ≡ length (bits_on v)
  bits_longer = length-append w.map.used (replicate (8 * w.header.allocation_fork.logical_size - length w.map.used) false)
      ∙ (λ i. used_long i + length (replicate (8 * same i - used_long i) false))
      ∙ sym (length-append v.map.used (replicate (8 * v.header.allocation_fork.logical_size - length v.map.used) false))

  pub bit_still : (k : ℕ) → has run k ≡ false → get_or (bits_on w) k false ≡ get_or (bits_on v) k false
  bit_still k none = ⊎_elim
      (λ (low : k < length v.map.used). kept_bit w k (omega (arith, low, used_long)) ∙ used_others count run v.map w.map takes k none ∙ sym (kept_bit v k low))
      (λ (high : length v.map.used ≤ k).
      get_or-append_right w.map.used (replicate (8 * w.header.allocation_fork.logical_size - length w.map.used) false) (length w.map.used) k false refl (omega (arith, high, used_long))
      ∙ (λ i. get_or (replicate (8 * same i - used_long i) false) (k - used_long i) false)
      ∙ sym (get_or-append_right v.map.used (replicate (8 * v.header.allocation_fork.logical_size - length v.map.used) false) (length v.map.used) k false refl high))
      (cases_lt k (length v.map.used))

  pub bit_of_run : (k : ℕ) → run.start ≤ k → k < run.start + run.count → get_or (bits_on w) k false ≡ true
  bit_of_run k from to = kept_bit w k (omega (arith, to, takes.inside, used_long)) ∙ used_now count run v.map w.map takes k from to

  -- the content has the bits in sectors that weren't changed
  module _ (a c : Space) (was : IsStanding v a) (settled : IsSettled v a.content) (unchanged : v.map.changed ≡ none (sectors_for (length v.map.used))) (there : map_sectors w ≡ map_sectors v) (alone : (s : ℕ) → Contains (map_sectors v) s → sector c.content s ≡ sector a.content s) where
    fits : length v.map.used ≤ 8 * v.header.allocation_fork.logical_size
    fits = omega (
      arith,
      settled.blocks,
      settled.sound.blocks.files.bits,
      ap (λ (l : VolumeState). l.head.total_blocks) settled.lists,
      ap (λ (l : VolumeState). l.head.allocation_fork.logical_size) settled.lists,
    )

    bits_before : bits_at a.content v ≡ bits_on v
    bits_before = sym (bits_here v a was (header_settled v a.content settled)) ∙ ap (λ (l : VolumeState). l.bits) settled.lists

    pub unchanged_held : HoldsUnchanged w c.content
    unchanged_held k low clean =
        let clear : has run k ≡ false = unchanged_has count run v.map w.map takes unchanged k clean in
        let here : k < length (bits_on v) = omega (arith, low, bits_longer) in
        ap (λ (l : List ℕ). fork_bit c.content l k) there
        ∙ bit_elsewhere (map_sectors v) a.content c.content alone k
        ∙ bits_hold v a was (header_settled v a.content settled) fits bits_before k here
        ∙ sym (bit_still k clear)
