-- Behind a spill and a new record the content has the bits of those sectors of the bitmap that weren't changed, and few were.
use Rattle.std.proofs.Common.{◌≡◌, ◌≢◌, ◌⊎◌, inl, inr, ◌<◌, ◌≤◌, ℕ, ◌+◌, ◌-◌, ◌*◌, ◌/◌, min, Bool, true, false, List, [], ◌∷◌, ◌++◌, length, get_or, refl, sym, ◌∙◌, ap, subst, arith, ⊎_elim}
use Rattle.std.specs.Prelude.{Contains, Some}
use Rattle.hx_bytes.specs.declared.extents.Extent.{Extent}
use Rattle.flag_rows.specs.Bits.{count_set, sectors_for}
use Rattle.flag_rows.specs.Marks.{Fit, mark_all}
use Rattle.flag_rows.specs.Runs.{fewest_of, longest_first, runs_of}
use Rattle.fork_map.specs.Blocks.{blocks_of, fork_sectors, sectors_of}
use Rattle.alloc_bitmap.specs.Fork.{fork_bit}
use Rattle.alloc_bitmap.specs.Map.{BlockMap, free_of, none}
use Rattle.alloc_bitmap.proofs.ApartLaws.{times-append}
use Rattle.alloc_bitmap.proofs.TakeLaws.{picks_chosen}
use Rattle.btree_file.specs.State.{sectors_of_tree}
use Rattle.file_io.specs.Places.{AreUsed, fresh_of, given, taken}
use Rattle.file_io.specs.Touching.{IsOneOf}
use Rattle.cat_records.specs.declared.record.FileRecord.{FileRecord}
use Rattle.sector_disk.specs.Lists.{Content, sector}
use Rattle.sector_disk.specs.Space.{AgreesOutside, Space}
use Rattle.volume_header.specs.declared.header.VolumeHeader.{VolumeHeader}
use Rattle.hfs_volume.specs.Content.{VolumeState, volume_of}
use Rattle.hfs_volume.specs.Forks.{per_block_of}
use Rattle.volume_base.specs.Cutting.{fork_at}
use Rattle.volume_base.specs.Lists.{bits_on}
use Rattle.volume_base.specs.Mapping.{HoldsUnchanged, changed_sectors}
use Rattle.volume_base.specs.Standing.{IsSettled, IsStanding, attribute_sectors, file_sectors, map_sectors}
use Rattle.volume_space.specs.Writing.{PlacesData, blocks_put, with_spill}
use Rattle.volume_base.specs.declared.entries.Entry.{Entry}
use Rattle.volume_base.specs.declared.volume.Volume.{Volume}
use Rattle.volume_base.proofs.FilesKept.{allocation_sectors}
use Rattle.volume_space.proofs.GrownBits.{bit_elsewhere, bits_hold}
use Rattle.volume_base.proofs.Placing.{stands_once}
use Rattle.volume_space.proofs.PutBits.{few_put, taken_runs, unchanged_bit}
use Rattle.volume_space.proofs.PutBytes.{block_fresh, fresh_apart, special_block}
use Rattle.volume_space.proofs.PutStages.{fresh_fit}
use Rattle.volume_base.proofs.Resettling.{bits_here}
use Rattle.volume_space.proofs.Sounding.{sound_here}
use Rattle.volume_space.proofs.SpilledBits.{bit_same, bits_long, fresh_are}
use Rattle.volume_base.proofs.TreesSettled.{header_settled}

module _ (kind : ℕ) (v w : Volume) (a : Space) (c : Content) (was : IsStanding v a) (settled : IsSettled v a.content) (entry : Entry) (file : FileRecord) (list : List Extent) (from : ℕ) (value : List ℕ) (total free : ℕ)
    (places : PlacesData kind entry file list from value total free v w a.content c) (n : ℕ) (many : n ≡ blocks_put v (fork_at kind file).logical_size from (length value)) (enough : n ≤ count_set (free_of v.map))
    (unchanged : v.map.changed ≡ none (sectors_for (length v.map.used))) (old : List Extent) (old_fits : Fit (length v.map.used) old) (old_used : AreUsed v.map (blocks_of old))
    (map_is : w.map ≡ given old (taken n v.map))
  where
    abbrev fresh : List ℕ
    fresh = blocks_of (fresh_of v.map n)

    head_is : (volume_of a.content).head ≡ v.header
    head_is = ap (λ (l : VolumeState). l.head) settled.lists

    spilled : AgreesOutside (IsOneOf (sectors_of (per_block_of (volume_of a.content).head) (blocks_of (fresh_of v.map n)))) a.content places.between
    spilled = subst (λ (h : VolumeHeader × ℕ). AgreesOutside (IsOneOf (sectors_of (per_block_of h.0) (blocks_of (fresh_of v.map h.1)))) a.content places.between) {x = (v.header, blocks_put v (fork_at kind file).logical_size from (length value))} {y = ((volume_of a.content).head, n)} (λ i. (sym head_is i, sym many i)) places.spilled

    map_are : map_sectors v ≡ allocation_sectors (volume_of a.content)
    map_are = (λ i. sectors_of (was.forks.map_per i) (blocks_of (was.forks.map i))) ∙ sym (ap (λ (l : VolumeState). allocation_sectors l) settled.lists)

    -- no sector of the bitmap's file was spilled
    not_spilled : (s : ℕ) → Contains (map_sectors v) s → IsOneOf (sectors_of (per_block_of (volume_of a.content).head) (blocks_of (fresh_of v.map n))) s → ⊥
    not_spilled s has is =
        let none_later : AgreesOutside _ places.between places.between = record { size = refl; each = λ at. inl refl } in
        fresh_apart a.content places.between places.between (sound_here v a was settled) fresh (fresh_are v a was settled n enough) spilled none_later (s / per_block_of (volume_of a.content).head)
        (block_fresh a.content places.between places.between (sound_here v a was settled) fresh (fresh_are v a was settled n enough) spilled none_later s is)
        (special_block a.content places.between places.between (sound_here v a was settled) fresh (fresh_are v a was settled n enough) spilled none_later s (inr (inr (inl (subst (λ (l : List ℕ). Contains l s) map_are has)))))

    once : (s : ℕ) → Contains (map_sectors v) s → (s ≡ 2) ⊎ Contains (sectors_of_tree v.catalog.file) s → ⊥
    once s has (inl two) =
        omega (
          arith,
          was.apart s,
          times-append s (2 ∷ []) (file_sectors v),
          times-append s (sectors_of_tree v.extents.file) (sectors_of_tree v.catalog.file ++ (attribute_sectors v ++ map_sectors v)),
          times-append s (sectors_of_tree v.catalog.file) (attribute_sectors v ++ map_sectors v),
          times-append s (attribute_sectors v) (map_sectors v),
          stands_once s (map_sectors v) has,
          stands_once s (2 ∷ []) (0, omega arith, sym two),
        )
    once s has (inr there) =
        omega (
          arith,
          was.apart s,
          times-append s (2 ∷ []) (file_sectors v),
          times-append s (sectors_of_tree v.extents.file) (sectors_of_tree v.catalog.file ++ (attribute_sectors v ++ map_sectors v)),
          times-append s (sectors_of_tree v.catalog.file) (attribute_sectors v ++ map_sectors v),
          times-append s (attribute_sectors v) (map_sectors v),
          stands_once s (map_sectors v) has,
          stands_once s (sectors_of_tree v.catalog.file) there,
        )

    off_extents : (s : ℕ) → Contains (map_sectors v) s → Contains (sectors_of_tree v.extents.file) s → ⊥
    off_extents s has there =
        omega (
          arith,
          was.apart s,
          times-append s (2 ∷ []) (file_sectors v),
          times-append s (sectors_of_tree v.extents.file) (sectors_of_tree v.catalog.file ++ (attribute_sectors v ++ map_sectors v)),
          times-append s (sectors_of_tree v.catalog.file) (attribute_sectors v ++ map_sectors v),
          times-append s (attribute_sectors v) (map_sectors v),
          stands_once s (map_sectors v) has,
          stands_once s (sectors_of_tree v.extents.file) there,
        )

    same_sector : (s : ℕ) → Contains (map_sectors v) s → sector c s ≡ sector a.content s
    same_sector s has =
        ⊎_elim (λ same. same) (λ there. absurd (once s has there)) (places.replaces.changes.outside.each s) ∙ ⊎_elim (λ same. same) (λ there. absurd (off_extents s has there)) (places.spreads.outside.each s)
        ∙ ⊎_elim (λ same. same) (λ is. absurd (not_spilled s has is)) (spilled.each s)

    map_same : map_sectors w ≡ map_sectors v
    map_same = λ i. fork_sectors (places.keeps.fork i) (places.keeps.per_block i)

    fits : length v.map.used ≤ 8 * v.header.allocation_fork.logical_size
    fits = omega (
      arith,
      settled.blocks,
      settled.sound.blocks.files.bits,
      ap (λ (h : VolumeHeader). h.total_blocks) head_is,
      ap (λ (h : VolumeHeader). h.allocation_fork.logical_size) head_is,
    )

    bits_were : (volume_of a.content).bits ≡ bits_on v
    bits_were = ap (λ (l : VolumeState). l.bits) settled.lists

    bits_are : bits_on w ≡ bits_on (with_spill v w.map)
    bits_are = ap (λ (x : Volume). bits_on x) places.rest

    now : w.map.used ≡ mark_all (mark_all v.map.used (fresh_of v.map n) true) old false
    now = ap (λ (m : BlockMap). m.used) map_is

    pub holds_unchanged : HoldsUnchanged w c
    holds_unchanged k low same =
        let clear = unchanged_bit v.map n old unchanged (fresh_fit v.map n) old_fits w.map map_is k same in
        let there : k < length (bits_on v) = omega (
          arith,
          low,
          ap (λ (l : List Bool). length l) bits_are,
          bits_long v a was settled n enough old (fresh_fit v.map n) old_fits old_used w.map places.keeps now,
          ap (λ (l : List Bool). length l) bits_were,
        ) in
        ap (λ (l : List ℕ). fork_bit c l k) map_same
        ∙ bit_elsewhere (map_sectors v) a.content c same_sector k
        ∙ bits_hold v a was (header_settled v a.content settled) fits (sym (bits_here v a was (header_settled v a.content settled)) ∙ bits_were) k there
        ∙ sym (bit_same v a was settled n enough old (fresh_fit v.map n) old_fits old_used w.map places.keeps now k clear.0 clear.1)
        ∙ sym (ap (λ (l : List Bool). get_or l k false) bits_are)

-- how many sectors of the bitmap are changed
pub few_changed_by : (v w : Volume) (n : ℕ) (old : List Extent) → n ≤ count_set (free_of v.map) → v.map.changed ≡ none (sectors_for (length v.map.used)) → Fit (length v.map.used) old → w.map ≡ given old (taken n v.map)
    → length (changed_sectors w) ≤ min (sectors_for (length v.map.used)) (n / 4096 + 2 * fewest_of n (longest_first (runs_of (free_of v.map))) + length (blocks_of old))
few_changed_by v w n old enough unchanged old_fits map_is = omega (
  arith,
  few_put v.map n old unchanged (fresh_fit v.map n) old_fits w.map map_is (map_sectors w),
  taken_runs v.map n,
  (picks_chosen (free_of v.map) n enough).count,
)
