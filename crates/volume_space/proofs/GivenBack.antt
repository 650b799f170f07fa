-- A run of used blocks that is given back: the volume stands as before, its bitmap is put in the sectors that were changed, and no block that a
-- content has in use is lost.
use Rattle.std.proofs.Common.{◌≡◌, ◌≢◌, ◌⊎◌, inl, inr, ◌<◌, ◌≤◌, ℕ, ◌+◌, ◌-◌, ◌*◌, ◌/◌, Bool, true, false, List, [], ◌∷◌, ◌++◌, length, get_or, replicate, suc, refl, sym, ◌∙◌, ap, subst, arith, ⊎_elim, length-append}
use Rattle.std.specs.Prelude.{All, Contains, IsTrue, if◌then◌else◌}
use Rattle.std.proofs.lemmas.Bool.{cases_lt, true≢false}
use Rattle.std.proofs.lemmas.List.{get_or-append_right, length-replicate}
use Rattle.std.proofs.lemmas.List.FromFn.{length-range_with_len}
use Rattle.hx_bytes.specs.declared.extents.Extent.{Extent}
use Rattle.flag_rows.specs.Bits.{count_set, has, mark, sectors_for}
use Rattle.flag_rows.proofs.RowLaws.{get_or-mark, length-mark}
use Rattle.fork_map.specs.Blocks.{blocks_of}
use Rattle.alloc_bitmap.specs.Fork.{changed_of, fork_bit}
use Rattle.alloc_bitmap.specs.Map.{BlockMap, Have, none, touched_by}
use Rattle.alloc_bitmap.proofs.HoldLaws.{has_in, has_range}
use Rattle.sector_disk.specs.Lists.{Content, sector}
use Rattle.btree_file.specs.Frame.{PutsWithin}
use Rattle.btree_file.specs.State.{sectors_of_tree}
use Rattle.alloc_bitmap.proofs.ApartLaws.{times-append}
use Rattle.sector_disk.specs.Space.{Space}
use Rattle.volume_header.specs.Header.{FitsHeader}
use Rattle.hfs_volume.specs.Changes.{FlipsBits}
use Rattle.hfs_volume.specs.Content.{VolumeState, is_set, volume_of}
use Rattle.hfs_volume.proofs.BlockWants.{in_range, range_bounds}
use Rattle.hfs_volume.proofs.Members.{all_of, first_or_later}
use Rattle.volume_base.specs.Changing.{PutsHeader}
use Rattle.volume_space.specs.Cutting.{MayGive, PutsGiven, given_back, given_load, without_run}
use Rattle.volume_base.specs.Holding.{KeepsUsed, HoldsOn}
use Rattle.volume_base.specs.Cutting.{with_freed}
use Rattle.volume_base.specs.Lists.{bits_on}
use Rattle.volume_base.specs.Mapping.{HoldsUnchanged, PutsMap, changed_sectors}
use Rattle.volume_base.specs.Standing.{IsSettled, IsStanding, StandsOver, attribute_sectors, file_sectors, map_sectors}
use Rattle.volume_base.specs.declared.volume.Volume.{Volume}
use Rattle.volume_space.proofs.GrownBits.{bit_elsewhere, bits_hold, few_changed, marked_set, set_of, touched_few, touched_fits, touched_has}
use Rattle.volume_space.proofs.GrownRun.{blocks_one}
use Rattle.volume_base.proofs.Mapped.{kept_bit}
use Rattle.volume_base.proofs.Numbering.{stands_with}
use Rattle.volume_base.proofs.Placing.{stands_once}
use Rattle.volume_base.proofs.Resettling.{bits_at, bits_here}
use Rattle.volume_base.proofs.TreesSettled.{header_settled}

module _ (run : Extent) (v : Volume) (may : MayGive run v) where
  abbrev w : Volume
  w = given_back run v

  used_long : length (mark v.map.used run false) ≡ length v.map.used
  used_long = length-mark v.map.used run false may.used.inside

  -- ---- it stands

  module _ (marks : length v.map.changed ≡ sectors_for (length v.map.used)) where
    fits_changed : (touched_by run).start + (touched_by run).count ≤ length v.map.changed
    fits_changed = subst (λ n. (touched_by run).start + (touched_by run).count ≤ n) (sym marks) (touched_fits (sectors_for (length v.map.used)) run (omega (arith, may.used.inside)))

    changed_long : length (mark v.map.changed (touched_by run) true) ≡ length v.map.changed
    changed_long = length-mark v.map.changed (touched_by run) true fits_changed

    marks_now : length (mark v.map.changed (touched_by run) true) ≡ sectors_for (length (mark v.map.used run false))
    marks_now = changed_long ∙ marks ∙ ap (λ n. sectors_for n) (sym used_long)

  with_map : (a : Space) → StandsOver v a → StandsOver (record v { map = without_run run v.map }) a
  with_map a was = record {
    service = record {
      extents = was.service.extents;
      catalog = was.service.catalog;
      attributes = was.service.attributes;
      fits = was.service.fits;
      least = was.service.least;
      most = was.service.most;
      map_inside = was.service.map_inside;
      map_long = subst (λ n. sectors_for n ≤ length (map_sectors v)) (sym used_long) was.service.map_long;
      marks = marks_now was.service.marks;
    };
    stands = λ tells.
        let here = was.stands tells in
        record {
          trees = record { extents = here.trees.extents; catalog = here.trees.catalog; compare = here.trees.compare; attributes = here.trees.attributes };
          forks = record {
            extents = here.forks.extents;
            extents_per = here.forks.extents_per;
            catalog = here.forks.catalog;
            catalog_per = here.forks.catalog_per;
            attributes = here.forks.attributes;
            attributes_per = here.forks.attributes_per;
            map = here.forks.map;
            map_per = here.forks.map_per;
          };
          whole = here.whole;
          apart = here.apart;
          blocks = used_long ∙ here.blocks;
          closed = here.closed;
          aside = here.aside;
          large = here.large;
          inside = here.inside;
          fit = here.fit;
          live = here.live;
        };
  }

  pub stands_given : (a : Space) → FitsHeader (with_freed run.count v.header) → StandsOver v a → StandsOver (given_back run v) a
  stands_given a fits was = stands_with (with_freed run.count v.header) (record v { map = without_run run v.map }) a refl fits (with_map a was)

  -- ---- what is held

  used_is : (k : ℕ) (d : Bool) → get_or (mark v.map.used run false) k d ≡ (if has run k then false else get_or v.map.used k d)
  used_is k d = get_or-mark v.map.used run false k d may.used.inside

  module _ (long : length v.map.held ≡ length v.map.used) where
    held_is : (k : ℕ) → get_or (mark v.map.held run true) k false ≡ (if has run k then true else get_or v.map.held k false)
    held_is k = get_or-mark v.map.held run true k false (omega (arith, may.used.inside, long))

    each_given : (committed : Content) → HoldsOn committed v → (block : ℕ) → is_set (volume_of committed) block ≡ true → (get_or (mark v.map.used run false) block false ≡ true) ⊎ (get_or (mark v.map.held run true) block false ≡ true)
    each_given committed was block set = by (has run block) refl (was.1 block set)
      where
        by : (b : Bool) → has run block ≡ b → (get_or v.map.used block false ≡ true) ⊎ (get_or v.map.held block false ≡ true)
            → (get_or (mark v.map.used run false) block false ≡ true) ⊎ (get_or (mark v.map.held run true) block false ≡ true)
        by true is either = inr (held_is block ∙ ap (λ b. if b then true else get_or v.map.held block false) is)
        by false is (inl used) = inl (used_is block false ∙ ap (λ b. if b then false else get_or v.map.used block false) is ∙ used)
        by false is (inr held) = inr (held_is block ∙ ap (λ b. if b then true else get_or v.map.held block false) is ∙ held)

  -- ---- the sectors that are changed

  module _ (unchanged : v.map.changed ≡ none (sectors_for (length v.map.used))) where
    changed_is : mark v.map.changed (touched_by run) true ≡ mark (none (sectors_for (length v.map.used))) (touched_by run) true
    changed_is = ap (λ (l : List Bool). mark l (touched_by run) true) unchanged

    inside_none : (touched_by run).start + (touched_by run).count ≤ length (none (sectors_for (length v.map.used)))
    inside_none = subst (λ n. (touched_by run).start + (touched_by run).count ≤ n) (sym (length-replicate (sectors_for (length v.map.used)) false)) (touched_fits (sectors_for (length v.map.used)) run (omega (arith, may.used.inside)))

    pub few_given : length (changed_sectors (given_back run v)) ≤ given_load v
    few_given = omega (
      arith,
      few_changed (map_sectors v) (mark v.map.changed (touched_by run) true),
      set_of (mark v.map.changed (touched_by run) true),
      ap (λ (l : List Bool). length l) changed_is,
      length-mark (none (sectors_for (length v.map.used))) (touched_by run) true inside_none,
      length-replicate (sectors_for (length v.map.used)) false,
      ap (λ (l : List Bool). count_set l) changed_is,
      marked_set (sectors_for (length v.map.used)) (touched_by run),
      touched_few run,
      may.most,
    )

    -- a sector that wasn't changed has no bit of the run
    unchanged_has : (k : ℕ) → get_or (mark v.map.changed (touched_by run) true) (k / 4096) false ≡ false → has run k ≡ false
    unchanged_has k same = by (has run k) refl
      where
        by : (b : Bool) → has run k ≡ b → has run k ≡ false
        by false is = is
        by true is =
            let range = has_range run k is in
            absurd (true≢false (sym (ap (λ (l : List Bool). get_or l (k / 4096) false) changed_is ∙ get_or-mark (none (sectors_for (length v.map.used))) (touched_by run) true (k / 4096) false inside_none
            ∙ ap (λ b. if b then true else get_or (none (sectors_for (length v.map.used))) (k / 4096) false) (touched_has run k range.0 range.1)) ∙ same))

    -- ---- the bits

    module _ (a : Space) (was : IsStanding v a) (settled : IsSettled v a.content) where
      bits_were : (volume_of a.content).bits ≡ bits_on v
      bits_were = ap (λ (l : VolumeState). l.bits) settled.lists

      pub bits_long : length (bits_on (given_back run v)) ≡ length (bits_on v)
      bits_long = length-append (mark v.map.used run false) (replicate (8 * v.header.allocation_fork.logical_size - length (mark v.map.used run false)) false)
          ∙ (λ i. used_long i + length (replicate (8 * v.header.allocation_fork.logical_size - used_long i) false))
          ∙ sym (length-append v.map.used (replicate (8 * v.header.allocation_fork.logical_size - length v.map.used) false))

      bit_same : (k : ℕ) → has run k ≡ false → get_or (bits_on (given_back run v)) k false ≡ get_or (bits_on v) k false
      bit_same k isnt = ⊎_elim
          (λ (low : k < length v.map.used). kept_bit (given_back run v) k (omega (arith, low, used_long)) ∙ used_is k false ∙ ap (λ b. if b then false else get_or v.map.used k false) isnt ∙ sym (kept_bit v k low))
          (λ (high : length v.map.used ≤ k).
          get_or-append_right (mark v.map.used run false) (replicate (8 * v.header.allocation_fork.logical_size - length (mark v.map.used run false)) false) (length (mark v.map.used run false)) k false refl (omega (arith, high, used_long))
          ∙ (λ i. get_or (replicate (8 * v.header.allocation_fork.logical_size - used_long i) false) (k - used_long i) false)
          ∙ sym (get_or-append_right v.map.used (replicate (8 * v.header.allocation_fork.logical_size - length v.map.used) false) (length v.map.used) k false refl high))
          (cases_lt k (length v.map.used))

      bit_given : (k : ℕ) → run.start ≤ k → k < run.start + run.count → get_or (bits_on (given_back run v)) k false ≡ false
      bit_given k from to =
          kept_bit (given_back run v) k (omega (arith, to, may.used.inside, used_long)) ∙ used_is k false ∙ ap (λ b. if b then false else get_or v.map.used k false) (has_in run k from to)

      not_has : (k : ℕ) → (Contains (blocks_of (run ∷ [])) k → ⊥) → has run k ≡ false
      not_has k isnt = by (has run k) refl
        where
          by : (b : Bool) → has run k ≡ b → has run k ≡ false
          by false is = is
          by true is = absurd (isnt (subst (λ (l : List ℕ). Contains l k) (sym (blocks_one run)) (let range = has_range run k is in in_range run.start run.count k range.0 range.1)))

      -- the bits are those of the content but for the run's
      pub flips_given : (old new : VolumeState) → old.bits ≡ (volume_of a.content).bits → new.bits ≡ bits_on (given_back run v) → FlipsBits [] (blocks_of (run ∷ [])) old new
      flips_given old new old_is new_is = record {
        size = ap (λ (l : List Bool). length l) new_is ∙ bits_long ∙ ap (λ (l : List Bool). length l) (sym bits_were) ∙ ap (λ (l : List Bool). length l) (sym old_is);
        taken = all_of (λ (block : ℕ). is_set new block ≡ true) [] (λ block has_none. absurd (omega (arith, has_none.1)));
        given = all_of (λ (block : ℕ). is_set new block ≡ false) (blocks_of (run ∷ [])) (λ block there.
            let range = range_bounds run.start run.count block (subst (λ (l : List ℕ). Contains l block) (blocks_one run) there) in
            ap (λ (l : List Bool). get_or l block false) new_is ∙ bit_given block range.0 range.1);
        others = λ block fresh freed. ap (λ (l : List Bool). get_or l block false) new_is ∙ bit_same block (not_has block freed) ∙ ap (λ (l : List Bool). get_or l block false) (sym bits_were) ∙ ap (λ (l : List Bool). get_or l block false) (sym old_is);
      }

      fits : length v.map.used ≤ 8 * v.header.allocation_fork.logical_size
      fits = omega (
        arith,
        settled.blocks,
        settled.sound.blocks.files.bits,
        ap (λ (l : VolumeState). l.head.total_blocks) settled.lists,
        ap (λ (l : VolumeState). l.head.allocation_fork.logical_size) settled.lists,
      )

      bits_before : bits_at a.content v ≡ bits_on v
      bits_before = sym (bits_here v a was (header_settled v a.content settled)) ∙ bits_were

      pub unchanged_given : HoldsUnchanged (given_back run v) a.content
      unchanged_given k low same =
          let isnt : has run k ≡ false = unchanged_has k same in
          bits_hold v a was (header_settled v a.content settled) fits bits_before k (omega (arith, low, bits_long)) ∙ sym (bit_same k isnt)

-- what a run that is given back leaves in use or held
pub used_given : (run : Extent) (v : Volume) (may : MayGive run v) → KeepsUsed v (given_back run v)
used_given run v may = record {
  holds = λ committed was. (length-mark v.map.held run true (omega (arith, may.used.inside, was.0)) ∙ was.0 ∙ sym (used_long run v may), λ block set. each_given run v may was.0 committed was block set);
  shrunk = refl;
  capacity = refl;
}

-- bitmap and header that were put, one after the other
module _ (w : Volume) (a b c : Space) (stands : IsStanding w c) (map_put : PutsMap w a.content b.content) (header_put : PutsHeader w b.content c.content) (within : PutsWithin (2 ∷ []) b c) (told : IsTrue b.tells) where
  header_alone : (s : ℕ) → s ≢ 2 → sector c.content s ≡ sector b.content s
  header_alone s differs = ⊎_elim (λ same. same) (λ has_it. absurd (⊎_elim (λ is. differs is) (λ gone. omega (arith, gone.1)) (first_or_later 2 s [] has_it))) ((within.content told).each s)

  not_header : (s : ℕ) → Contains (map_sectors w) s → s ≢ 2
  not_header s has_it two =
      omega (
        arith,
        stands.apart s,
        times-append s (2 ∷ []) (file_sectors w),
        times-append s (sectors_of_tree w.extents.file) (sectors_of_tree w.catalog.file ++ (attribute_sectors w ++ map_sectors w)),
        times-append s (sectors_of_tree w.catalog.file) (attribute_sectors w ++ map_sectors w),
        times-append s (attribute_sectors w) (map_sectors w),
        stands_once s (map_sectors w) has_it,
        stands_once s (2 ∷ []) (0, omega arith, sym two),
      )

  pub puts_given : PutsGiven w a.content c.content
  puts_given = record {
    holds = λ k low. bit_elsewhere (map_sectors w) b.content c.content (λ s has_it. header_alone s (not_header s has_it)) k ∙ map_put.holds k low;
    headed = header_put.headed;
    lists = header_put.lists ∙ map_put.lists;
    outside = record {
      size = (within.content told).size ∙ map_put.outside.size;
      each = λ s. by s ((within.content told).each s) (map_put.outside.each s);
    };
  }
    where
      by : (s : ℕ) → (sector c.content s ≡ sector b.content s) ⊎ Contains (2 ∷ []) s → (sector b.content s ≡ sector a.content s) ⊎ Contains (map_sectors w) s → (sector c.content s ≡ sector a.content s) ⊎ ((s ≡ 2) ⊎ Contains (map_sectors w) s)
      by s (inl same) (inl first) = inl (same ∙ first)
      by s (inl same) (inr there) = inr (inr there)
      by s (inr there) first = ⊎_elim (λ is. inr (inl is)) (λ gone. absurd (omega (arith, gone.1))) (first_or_later 2 s [] there)
