-- The sectors of blocks that may be taken are none of the volume's own; and the bits of a volume that knows them as taken.
use Rattle.std.proofs.Common.{◌≡◌, ◌<◌, ◌≤◌, ℕ, ◌+◌, ◌-◌, ◌*◌, ◌/◌, Bool, true, false, List, [], ◌∷◌, length, get_or, replicate, refl, sym, ◌∙◌, ap, subst, arith, length-append, ⊎_elim}
use Rattle.std.specs.Prelude.{Contains, if◌then◌else◌}
use Rattle.std.specs.List.{range_with_len}
use Rattle.std.proofs.lemmas.Bool.{cases_lt}
use Rattle.std.proofs.lemmas.List.Elements.{Contains-append_right}
use Rattle.hx_bytes.specs.declared.extents.Extent.{Extent}
use Rattle.alloc_bitmap.specs.Map.{free_of}
use Rattle.btree_file.specs.State.{sectors_of_tree}
use Rattle.file_io.specs.Places.{fresh_of, taken}
use Rattle.flag_rows.specs.Bits.{count_set, sectors_for}
use Rattle.flag_rows.specs.Marks.{Fit, is_held}
use Rattle.flag_rows.proofs.TakeLaws.{get_or-mark_all, length-mark_all}
use Rattle.fork_map.specs.Blocks.{blocks_of, sectors_of}
use Rattle.hfs_volume.specs.Forks.{per_block_of}
use Rattle.hfs_volume.proofs.BlockWants.{in_range}
use Rattle.hfs_volume.proofs.Reaching.{flat_cases}
use Rattle.sector_disk.specs.Lists.{Content, sector}
use Rattle.sector_disk.specs.Space.{Space}
use Rattle.volume_base.specs.Lists.{bits_on}
use Rattle.volume_base.specs.Mapping.{HoldsUnchanged}
use Rattle.volume_base.specs.Standing.{IsSettled, IsStanding, map_sectors, own_sectors}
use Rattle.volume_base.specs.declared.volume.Volume.{Volume}
use Rattle.volume_base.proofs.GivenBits.{not_touched}
use Rattle.volume_base.proofs.MapBits.{bit_elsewhere}
use Rattle.volume_base.proofs.Mapped.{kept_bit, no_bit}
use Rattle.volume_base.proofs.Placing.{flat_stands}
use Rattle.volume_space.proofs.GrownFree.{off_own}
use Rattle.volume_space.proofs.GrownRun.{blocks_one}
use Rattle.volume_space.proofs.PutStages.{fresh_fit}
use Rattle.volume_space.proofs.Spilled.{fresh_free, takes_one}
use Rattle.volume_space.specs.Growing.{with_run}

module _ (u : Volume) (a : Space) (was : IsStanding u a) (settled : IsSettled u a.content) (many : ℕ) (enough : many ≤ count_set (free_of u.map)) where
  abbrev per : ℕ
  per = u.catalog.file.per_block

  per_is : u.catalog.file.per_block ≡ per_block_of u.header
  per_is = was.forks.catalog_per

  -- none is one of the volume's own
  pub off_fresh : (s : ℕ) → Contains (sectors_of (per_block_of u.header) (blocks_of (fresh_of u.map many))) s → Contains (own_sectors u) s → ⊥
  off_fresh s here own =
      let there = subst (λ n. Contains (sectors_of n (blocks_of (fresh_of u.map many))) s) (sym per_is) here in
      let from = flat_cases (λ (block : ℕ). range_with_len (block * u.catalog.file.per_block) u.catalog.file.per_block) (blocks_of (fresh_of u.map many)) s there in
      let free = fresh_free u.map many enough from.0 from.1 in
      off_own u a was settled 1 (record { start = from.0; count = 1 }) (with_run (record { start = from.0; count = 1 }) u.map) (takes_one u.map from.0 free.0 free.1) s
      (flat_stands (λ (block : ℕ). range_with_len (block * u.catalog.file.per_block) u.catalog.file.per_block) (blocks_of (record { start = from.0; count = 1 } ∷ [])) from.0 s
      (subst (λ (l : List ℕ). Contains l from.0) (sym (blocks_one (record { start = from.0; count = 1 }))) (in_range from.0 1 from.0 (omega arith) (omega arith))) from.2) own

  -- ---- the bitmap in memory that knows them as taken

  abbrev w : Volume
  w = record u { map = taken many u.map }

  fit : Fit (length u.map.used) (fresh_of u.map many)
  fit = fresh_fit u.map many

  pub long_taken : length (taken many u.map).used ≡ length u.map.used
  long_taken = length-mark_all u.map.used (fresh_of u.map many) true fit

  bit_same : (k : ℕ) → is_held (fresh_of u.map many) k ≡ false → get_or (bits_on (record u { map = taken many u.map })) k false ≡ get_or (bits_on u) k false
  bit_same k none_ = ⊎_elim
      (λ (low : k < length u.map.used).
      kept_bit (record u { map = taken many u.map }) k (omega (arith, low, long_taken)) ∙ get_or-mark_all u.map.used (fresh_of u.map many) true k false fit ∙ ap (λ b. if b then true else get_or u.map.used k false) none_ ∙ sym (kept_bit u k low))
      (λ (high : length u.map.used ≤ k). no_bit (record u { map = taken many u.map }) k (omega (arith, high, long_taken)) ∙ sym (no_bit u k high))
      (cases_lt k (length u.map.used))

  bits_long : length (bits_on (record u { map = taken many u.map })) ≡ length (bits_on u)
  bits_long =
      length-append (taken many u.map).used (replicate (8 * u.header.allocation_fork.logical_size - length (taken many u.map).used) false)
      ∙ (λ i. long_taken i + length (replicate (8 * u.header.allocation_fork.logical_size - long_taken i) false))
      ∙ sym (length-append u.map.used (replicate (8 * u.header.allocation_fork.logical_size - length u.map.used) false))

  -- bits of sectors that weren't changed are as the content has them
  pub unchanged_taken : length u.map.changed ≡ sectors_for (length u.map.used) → (after : Content) → ((s : ℕ) → Contains (map_sectors u) s → sector after s ≡ sector a.content s) → HoldsUnchanged u a.content → HoldsUnchanged (record u { map = taken many u.map }) after
  unchanged_taken marks after stays holds k low same =
      let clear = not_touched (length u.map.used) u.map.changed (fresh_of u.map many) marks fit k same in
      bit_elsewhere (map_sectors u) a.content after stays k ∙ holds k (omega (arith, low, bits_long)) clear.1 ∙ sym (bit_same k clear.0)
