-- Behind blocks that were taken for a value, a change of the attributes, and the gift of the blocks of the old value: the same as behind a trade without blocks taken.
use Rattle.std.proofs.Common.{◌≡◌, ◌≢◌, ◌⊎◌, ◌<◌, ◌≤◌, ℕ, ◌+◌, Bool, true, false, not, List, [], ◌∷◌, length, map, get_or, refl, sym, ◌∙◌, ap, subst, arith, ⊎_elim}
use Rattle.std.specs.Prelude.{◌&&◌, Contains, if◌then◌else◌}
use Rattle.std.specs.List.{range_with_len}
use Rattle.std.proofs.lemmas.Bool.{and_parts, true≢false}
use Rattle.std.proofs.lemmas.List.{get_or-map}
use Rattle.std.proofs.lemmas.List.FromFn.{get_or-range_with_len, length-range_with_len}
use Rattle.hx_bytes.specs.declared.extents.Extent.{Extent}
use Rattle.alloc_bitmap.specs.Apart.{AreApart}
use Rattle.alloc_bitmap.specs.Map.{BlockMap, free_of, touched_by, unused_of}
use Rattle.alloc_bitmap.proofs.TakeLaws.{picks_chosen}
use Rattle.btree_node.specs.Levels.{Pair}
use Rattle.file_io.specs.Places.{AreUsed, KeepsMap, fresh_of, given, taken}
use Rattle.file_io.proofs.KeepLaws.{fit_touched, keeps_both, keeps_taken, marks_then}
use Rattle.flag_rows.specs.Bits.{count_set, sectors_for}
use Rattle.flag_rows.specs.Marks.{Fit, is_held, mark_all}
use Rattle.flag_rows.proofs.TakeLaws.{get_or-mark_all, length-mark_all}
use Rattle.fork_map.specs.Blocks.{blocks_of}
use Rattle.hfs_volume.specs.Changes.{FlipsBits}
use Rattle.hfs_volume.specs.Content.{VolumeState, volume_of}
use Rattle.hfs_volume.specs.Forks.{in_use}
use Rattle.hfs_volume.proofs.Members.{all_of, each_of}
use Rattle.sector_disk.specs.Lists.{Content, sector}
use Rattle.sector_disk.specs.Space.{Space}
use Rattle.volume_base.specs.Attributing.{ChangesAttributes}
use Rattle.volume_base.specs.Giving.{PutsTraded, counted_anew, traded}
use Rattle.volume_base.specs.Lists.{bits_on, lists_of}
use Rattle.volume_base.specs.Mapping.{HoldsMap}
use Rattle.volume_base.specs.Standing.{IsSettled, IsStanding, map_sectors}
use Rattle.volume_base.specs.declared.volume.Volume.{Volume}
use Rattle.volume_base.proofs.GivenBits.{blocks_used, count_given, fit_used, given_used, held_is, set_all}
use Rattle.volume_base.proofs.ValueFreed.{free_counted}
use Rattle.volume_space.proofs.PutStages.{fresh_fit}
use Rattle.volume_space.proofs.SpilledBits.{spilled_flips}
use Rattle.volume_space.proofs.Spilled.{fresh_free}
use Rattle.volume_values.proofs.TradesThen.{TradesThen}

-- a block that is free isn't used
free_unused : (m : BlockMap) (k : ℕ) → k < length m.used → get_or (free_of m) k false ≡ true → get_or m.used k true ≡ false
free_unused m k low is =
    let place : get_or (range_with_len 0 (length m.used)) k 0 ≡ k = get_or-range_with_len 0 (length m.used) k 0 low ∙ omega arith in
    let here : get_or (free_of m) k false ≡ (not (get_or m.used k true) && not (get_or m.held k false)) =
    get_or-map (λ j. not (get_or m.used j true) && not (get_or m.held j false)) (range_with_len 0 (length m.used)) k 0 false (omega (arith, low, length-range_with_len 0 (length m.used)))
    ∙ ap (λ j. not (get_or m.used j true) && not (get_or m.held j false)) place in
    not_so (get_or m.used k true) (and_parts (not (get_or m.used k true)) (not (get_or m.held k false)) (sym here ∙ is)).0
  where
    not_so : (b : Bool) → not b ≡ true → b ≡ false
    not_so true is_not = absurd (true≢false (sym is_not))
    not_so false is_not = refl

module _ (Does : List Pair → List Pair → Type 0) (old : List Extent) (many : ℕ) (u spilled placed between : Volume) (a : Space) (first middle last : Content) (was : IsStanding u a) (settled : IsSettled u a.content) (marks : length u.map.changed ≡ sectors_for (length u.map.used))
    (enough : many ≤ count_set (free_of u.map)) (used : AreUsed u.map (blocks_of old)) (apart : AreApart (blocks_of old)) (takes : spilled ≡ record u { map = taken many u.map }) (ch : ChangesAttributes Does spilled placed first middle)
    (gives : between ≡ traded true old placed) (puts : PutsTraded true old between middle last)
  where
    abbrev m0 : BlockMap
    m0 = taken many u.map

    fit : Fit (length u.map.used) (fresh_of u.map many)
    fit = fresh_fit u.map many

    fit_old : Fit (length u.map.used) (in_use old)
    fit_old = fit_used u.map old used

    long : length (taken many u.map).used ≡ length u.map.used
    long = length-mark_all u.map.used (fresh_of u.map many) true fit

    -- used blocks stay used
    pub still_used : (k : ℕ) → get_or u.map.used k false ≡ true → get_or (taken many u.map).used k false ≡ true
    still_used k is = get_or-mark_all u.map.used (fresh_of u.map many) true k false fit ∙ by (is_held (fresh_of u.map many) k)
      where
        by : (b : Bool) → (if b then true else get_or u.map.used k false) ≡ true
        by true = refl
        by false = is

    pub used_taken : AreUsed (taken many u.map) (blocks_of old)
    used_taken = all_of (λ (block : ℕ). get_or (taken many u.map).used block false ≡ true) (blocks_of old) (λ block there. still_used block (each_of (λ (k : ℕ). get_or u.map.used k false ≡ true) (blocks_of old) used block there))

    pub placed_is : placed ≡ record u { map = taken many u.map; attributes = placed.attributes }
    placed_is = ch.rest ∙ ap (λ (x : Volume). record x { attributes = placed.attributes }) takes

    is : between ≡ counted_anew (record (record u { map = taken many u.map; attributes = placed.attributes }) { map = given old (taken many u.map) })
    is = gives ∙ ap (λ (x : Volume). counted_anew (record x { map = given old x.map })) placed_is

    keeps_first : KeepsMap u.map (taken many u.map)
    keeps_first = keeps_taken u.map many marks

    keeps : KeepsMap u.map (given old (taken many u.map))
    keeps = keeps_both u.map (taken many u.map) (given old (taken many u.map)) keeps_first (subst (λ (m : BlockMap). KeepsMap (taken many u.map) m) (sym (given_used old (taken many u.map))) (record {
      fork = refl;
      per_block = refl;
      used = length-mark_all (taken many u.map).used (in_use old) false (subst (λ n. Fit n (in_use old)) (sym long) fit_old);
      changed = length-mark_all (taken many u.map).changed (map (λ (e : Extent). touched_by e) (in_use old)) true
          (subst (λ n. Fit n (map (λ (e : Extent). touched_by e) (in_use old))) (sym (marks_then u.map (taken many u.map) keeps_first marks))
          (fit_touched (length (taken many u.map).used) (in_use old) (subst (λ n. Fit n (in_use old)) (sym long) fit_old)));
    }))

    abbrev later : Volume
    later = record u { map = given old (taken many u.map) }

    -- first over the content's own lists
    flips_there : FlipsBits (blocks_of (fresh_of u.map many)) (blocks_of (in_use old)) (volume_of a.content) (record (volume_of a.content) { bits = bits_on (record u { map = given old (taken many u.map) }) })
    flips_there = spilled_flips u a was settled many enough (in_use old) fit fit_old (subst (λ (l : List ℕ). AreUsed u.map l) (sym (blocks_used old)) used) (given old (taken many u.map)) keeps
        (ap (λ (m : BlockMap). m.used) (given_used old (taken many u.map)))

    flips_lists : FlipsBits (blocks_of (fresh_of u.map many)) (blocks_of old) (lists_of u a.content) (record (lists_of u a.content) { bits = bits_on (record u { map = given old (taken many u.map) }) })
    flips_lists =
        let it = subst (λ (k : VolumeState × List ℕ). FlipsBits (blocks_of (fresh_of u.map many)) k.1 k.0 (record k.0 { bits = bits_on (record u { map = given old (taken many u.map) }) })) {x = (volume_of a.content, blocks_of (in_use old))} (λ i. (settled.lists i, blocks_used old i)) flips_there in
        record { size = it.size; taken = it.taken; given = it.given; others = it.others }

    fresh_once : AreApart (blocks_of (fresh_of u.map many))
    fresh_once = (picks_chosen (free_of u.map) many enough).apart

    counted_taken : count_set (unused_of (taken many u.map)) + length (blocks_of (fresh_of u.map many)) ≡ count_set (unused_of u.map)
    counted_taken = set_all u.map.used (fresh_of u.map many) fit fresh_once (λ k held. let free = fresh_free u.map many enough k (held_is (fresh_of u.map many) k held) in free_unused u.map k free.0 free.1)

    pub trade_taken : TradesThen (blocks_of (fresh_of u.map many)) old u placed.attributes between a.content middle last
    trade_taken = record {
      m = given old (taken many u.map);
      n = count_set (unused_of (given old (taken many u.map)));
      is = is;
      put = subst (λ (x : Volume). lists_of x last ≡ lists_of x middle) is (puts.0 refl).lists;
      holds = subst (λ (x : Volume). HoldsMap x last) is (puts.0 refl).holds;
      headed = (puts.0 refl).headed ∙ ap (λ (x : Volume). x.header) is;
      outside = λ s differs off. ⊎_elim
          (λ same. same)
          (λ there. absurd (⊎_elim (λ two. differs two) (λ here. off (subst (λ (l : List ℕ). Contains l s) (ap (λ (x : Volume). map_sectors x) is) here)) there))
          ((puts.0 refl).outside.each s);
      flips = record { size = flips_lists.size; taken = flips_lists.taken; given = flips_lists.given; others = flips_lists.others };
      counts = let many_given = count_given (record u { map = taken many u.map }) old used_taken apart in omega (arith, many_given, counted_taken, free_counted u a.content settled);
    }
