-- A value was put into a file, from stage to stage: what the calls say of it is all that the lemmas on the volume ask for.
use Rattle.volume_base.specs.declared.forks.ForkKind.TheVariants as kinds
use Rattle.volume_base.specs.declared.forks.ForkKind.{ForkKind}
use Rattle.volume_base.specs.Cutting.{fork_at, kind_of}
use Rattle.std.proofs.Common.{◌≡◌, ◌≢◌, ◌⊎◌, inl, inr, ◌<◌, ◌≤◌, ℕ, ◌+◌, ◌-◌, ◌*◌, ◌/◌, ◌^◌, min, max, true, false, List, [], ◌∷◌, ◌++◌, length, take, drop, refl, sym, ◌∙◌, ap, subst, arith, ⊎_elim, append_assoc, length-append}
use Rattle.std.specs.Prelude.{Contains, IsTrue, Some, nat_le, slice_index_or, if◌then◌else◌}
use Rattle.std.proofs.Math.Nat.{mul-le-mul_right}
use Rattle.std.proofs.lemmas.Bool.{cases_lt}
use Rattle.std.proofs.lemmas.Bool.Decides.{eqb_tells, leb_tells}
use Rattle.std.proofs.lemmas.List.{drop-take, length-drop, length-take}
use Rattle.hx_bytes.specs.declared.extents.Extent.{Extent}
use Rattle.flag_rows.specs.Bits.{count_set}
use Rattle.flag_rows.specs.Marks.{Fit}
use Rattle.fork_map.specs.Blocks.{blocks_of}
use Rattle.fork_map.specs.Cut.{back, front}
use Rattle.fork_map.proofs.Laws.{blocks-back, blocks-front}
use Rattle.alloc_bitmap.specs.Map.{BlockMap, free_of}
use Rattle.alloc_bitmap.proofs.MapLaws.{length-open}
use Rattle.alloc_bitmap.proofs.TakeLaws.{fit_chosen, picks_chosen}
use Rattle.file_io.specs.Places.{AreUsed, blocks_for, first_block, fresh_of, middle, new_blocks, old_end}
use Rattle.file_io.proofs.PlaceLaws.{blocks_hold, blocks_least, first_of}
use Rattle.alloc_bitmap.specs.Apart.{AreApart}
use Rattle.cat_records.specs.Fits.{FitsFile}
use Rattle.cat_records.specs.declared.record.CatRecord.{CatRecord}
use Rattle.cat_records.specs.declared.record.CatRecord.TheVariants.{File}
use Rattle.cat_records.specs.declared.record.FileRecord.{FileRecord}
use Rattle.catalog.specs.Entries.{UpdatesEntry}
use Rattle.catalog.specs.Pairs.{value_at}
use Rattle.btree_file.specs.Frame.{PutsWithin}
use Rattle.file_io.specs.Bytes.{fork_bytes, written}
use Rattle.jnl_format.specs.Recovery.{header_of_volume}
use Rattle.sector_disk.specs.Lists.{Content, sector}
use Rattle.sector_disk.specs.Space.{AgreesOutside, Space}
use Rattle.hfs_volume.specs.Blocks.{HasSizes, forks_of}
use Rattle.hfs_volume.specs.Changes.{FlipsBits}
use Rattle.hfs_volume.specs.Content.{VolumeState, overflow_in_volume, records_of, volume_of}
use Rattle.hfs_volume.specs.Forks.{data_kind, extents_of}
use Rattle.hfs_volume.specs.Records.{Placed, entries_of, is_link_type}
use Rattle.hfs_volume.specs.Writing.{OthersKeepBytes}
use Rattle.hfs_volume.proofs.Members.{all_of, each_of, first_or_later}
use Rattle.volume_space.proofs.PutFork.{owned_of, owned_stands}
use Rattle.volume_space.proofs.Resized.{record_is}
use Rattle.hx_bytes.specs.declared.extents.ForkRecord.{ForkRecord}
use Rattle.hx_bytes.specs.Fork.{FitsFork}
use Rattle.volume_base.specs.Changing.{PutsHeader}
use Rattle.volume_base.specs.Lists.{bits_on, lists_of}
use Rattle.volume_base.specs.Mapping.{HoldsMap, PutsMap}
use Rattle.volume_base.specs.Standing.{IsSettled, IsStanding, attribute_sectors, file_sectors, map_sectors}
use Rattle.volume_space.specs.Writing.{IsSureToPut, PlacesData, PutsValue, blocks_put, fork_with, record_with, with_record, with_spill, with_stored, extents_in}
use Rattle.volume_base.specs.declared.entries.Entry.{Entry}
use Rattle.volume_base.specs.declared.volume.Volume.{Volume}
use Rattle.alloc_bitmap.proofs.ApartLaws.{times-append}
use Rattle.btree_file.specs.State.{sectors_of_tree}
use Rattle.volume_space.proofs.GrownBits.{bit_elsewhere}
use Rattle.volume_base.proofs.Placing.{stands_once}
use Rattle.volume_space.proofs.PutSettled.{IsPutThrough, before_it, in_drop, in_take, lists_put, makes_it, rewrites_it, settled_put, tree_put, volume_is}
use Rattle.volume_space.proofs.SpilledBits.{spilled_flips}
use Rattle.volume_space.proofs.SpilledFile.{file_fits}

-- ---- extents that are cut

pub fit_front : (total n : ℕ) (es : List Extent) → Fit total es → Fit total (front n es)
fit_front total n [] fit = tt
fit_front total n (e ∷ es) fit = ⊎_elim
    (λ whole. rw whole.0 (fit.0, fit_front total (n - e.count) es fit.1))
    (λ part. rw part.0 (⊎_elim (λ none. rw none.0 tt) (λ some. rw some.0 (omega (arith, fit.0, part.1), tt)) (eqb_tells n 0)))
    (leb_tells e.count n)

pub fit_back : (total n : ℕ) (es : List Extent) → Fit total es → Fit total (back n es)
fit_back total n [] fit = tt
fit_back total n (e ∷ es) fit = ⊎_elim
    (λ whole. rw whole.0 (fit_back total (n - e.count) es fit.1))
    (λ part. rw part.0 (omega (arith, fit.0, part.1), fit.1))
    (leb_tells e.count n)

-- the blocks of the extents between two places
pub middle_blocks : (first end : ℕ) (es : List Extent) → first ≤ end → blocks_of (middle first end es) ≡ take (end - first) (drop first (blocks_of es))
middle_blocks first end es order =
    blocks-back first (front end es) ∙ ap (drop first) (blocks-front end es) ∙ ap (λ n. drop first (take n (blocks_of es))) (let whole : end ≡ first + (end - first) = omega (arith, order) in whole) ∙ drop-take first (end - first) (blocks_of es)

-- the extents of blocks that are taken end in the bitmap
pub fresh_fit : (blocks : BlockMap) (n : ℕ) → Fit (length blocks.used) (fresh_of blocks n)
fresh_fit blocks n = subst (λ m. Fit m (fresh_of blocks n)) (length-open blocks.used blocks.held) (fit_chosen (free_of blocks) n)

-- ---- how many blocks a file has then

module _ (block size from end : ℕ) (xs fresh : List ℕ) (some : 0 < block) (order : from < end) (holds : size ≤ length xs * block) (many : length fresh ≡ new_blocks block size from end) where
  abbrev first : ℕ
  first = first_block block size from

  abbrev last : ℕ
  last = old_end block size end

  had : blocks_for block size ≤ length xs
  had = blocks_least block size (length xs) some holds

  first_size : first_block block size from ≤ blocks_for block size
  first_size = first_of block size from size some (omega arith)

  first_end : first_block block size from ≤ blocks_for block end
  first_end = first_of block size from end some (omega (arith, order))

  pub in_order : first_block block size from ≤ old_end block size end
  in_order = omega (arith, first_size, first_end)

  pub inside : old_end block size end ≤ length xs
  inside = omega (arith, had)

  pub long : length (take first xs ++ (fresh ++ drop last xs)) + (old_end block size end - first_block block size from) ≡ length xs + length fresh
  long = omega (
    arith,
    length-append (take first xs) (fresh ++ drop last xs),
    length-append fresh (drop last xs),
    length-take first xs,
    length-drop last xs,
    in_order,
    inside,
    first_size,
    had,
  )

  -- they hold the bytes
  pub still_held : max size end ≤ length (take first xs ++ (fresh ++ drop last xs)) * block
  still_held = ⊎_elim
      (λ (longer : size < end). omega (arith, longer, blocks_hold block end some, more (blocks_for block end) (omega (arith, long, many, in_order, inside, first_end))))
      (λ (shorter : end ≤ size). omega (arith, shorter, holds, more (length xs) (omega (arith, long, many, in_order, inside, first_end, least shorter))))
      (cases_lt size end)
    where
      more : (n : ℕ) → n ≤ length (take first xs ++ (fresh ++ drop last xs)) → n * block ≤ length (take first xs ++ (fresh ++ drop last xs)) * block
      more n le = mul-le-mul_right {m = n} {n = length (take first xs ++ (fresh ++ drop last xs))} block le

      least : end ≤ size → blocks_for block end ≤ blocks_for block size
      least le = blocks_least block end (blocks_for block size) some (omega (arith, le, blocks_hold block size some))

-- blocks of a part of a list are in use where all are
pub in_part : (blocks : BlockMap) (all : List ℕ) (first many : ℕ) (part : List ℕ) → part ≡ take many (drop first all) → AreUsed blocks all → AreUsed blocks part
in_part blocks all first many part is used = all_of (λ (k : ℕ). slice_index_or blocks.used k false ≡ true) part (λ k has.
    each_of (λ (b : ℕ). slice_index_or blocks.used b false ≡ true) all used k (in_drop first all k (in_take many (drop first all) k (subst (λ (l : List ℕ). Contains l k) is has))))

-- a fork of a file's record that fits
fits_at : (k : ForkKind) (moment : ℕ) (fork : ForkRecord) (file : FileRecord) → FitsFile (record_with (kind_of k) moment fork file) → FitsFork fork
fits_at kinds.Data moment fork file fits = fits.data_fork
fits_at kinds.Resource moment fork file fits = fits.resource_fork

-- ---- the stages

module _ (k : ForkKind) (v w : Volume) (a c d e : Space) (was : IsStanding v a) (settled : IsSettled v a.content) (entry : Entry) (file : FileRecord) (list : List Extent) (from : ℕ) (value : List ℕ) (total free : ℕ)
    (places : PlacesData (kind_of k) entry file list from value total free v w a.content c.content) (sure : IsSureToPut list (fork_at (kind_of k) file).logical_size v a) (some : 0 < length value) (enough : blocks_put v (fork_at (kind_of k) file).logical_size from (length value) ≤ count_set (free_of v.map))
    (p : Placed) (stands_there : Contains (entries_of (records_of (volume_of a.content))) p) (value_is : p.value ≡ File file) (list_is : list ≡ extents_in (kind_of k) a.content file)
    (there : value_at (lists_of v a.content).catalog_pairs entry.parent entry.name ≡ Some (File file)) (no_link : is_link_type file.fields ≡ false) (fits : FitsFile file)
    (counted : free + blocks_put v (fork_at (kind_of k) file).logical_size from (length value) ≡ v.header.free_blocks + (old_end v.header.block_size (fork_at (kind_of k) file).logical_size (from + length value) - first_block v.header.block_size (fork_at (kind_of k) file).logical_size from))
    (totals : total + (old_end v.header.block_size (fork_at (kind_of k) file).logical_size (from + length value) - first_block v.header.block_size (fork_at (kind_of k) file).logical_size from) ≡ (fork_at (kind_of k) file).total_blocks + blocks_put v (fork_at (kind_of k) file).logical_size from (length value))
    (stands : IsStanding w e) (told : IsTrue d.tells) (map_put : PutsMap w c.content d.content) (header_put : PutsHeader w d.content e.content) (header_within : PutsWithin (2 ∷ []) d e)
  where
    abbrev size : ℕ
    size = (fork_at (kind_of k) file).logical_size

    abbrev block : ℕ
    block = v.header.block_size

    abbrev end : ℕ
    end = from + length value

    abbrev start : ℕ
    start = first_block v.header.block_size (fork_at (kind_of k) file).logical_size from

    abbrev behind : ℕ
    behind = old_end v.header.block_size (fork_at (kind_of k) file).logical_size (from + length value)

    abbrev n : ℕ
    n = blocks_put v (fork_at (kind_of k) file).logical_size from (length value)

    abbrev fresh : List ℕ
    fresh = blocks_of (fresh_of v.map (blocks_put v (fork_at (kind_of k) file).logical_size from (length value)))

    fresh_many : length fresh ≡ n
    fresh_many = (picks_chosen (free_of v.map) n enough).count

    some_block : 0 < v.header.block_size
    some_block = omega (arith, sure.block.least)

    order : start ≤ behind
    order = in_order block size from end (blocks_of list) fresh some_block (omega (arith, some)) sure.holds fresh_many

    within : behind ≤ length (blocks_of list)
    within = inside block size from end (blocks_of list) fresh some_block (omega (arith, some)) sure.holds fresh_many

    whole : start + (behind - start) ≡ behind
    whole = omega (arith, order)

    blocks_are : blocks_of places.later ≡ take start (blocks_of list) ++ (fresh ++ drop behind (blocks_of list))
    blocks_are = places.blocks ∙ append_assoc (take start (blocks_of list)) fresh (drop behind (blocks_of list))

    later_long : length (blocks_of places.later) + (behind - start) ≡ length (blocks_of list) + length fresh
    later_long = ap (λ (l : List ℕ). length l + (behind - start)) blocks_are ∙ long block size from end (blocks_of list) fresh some_block (omega (arith, some)) sure.holds fresh_many

    sizes : HasSizes (volume_of a.content).head (overflow_in_volume (volume_of a.content)) (owned_of k file)
    sizes = each_of (HasSizes (volume_of a.content).head (overflow_in_volume (volume_of a.content))) (forks_of (volume_of a.content)) settled.sound.blocks.forks.sizes (owned_of k file) (owned_stands k (volume_of a.content) p file stands_there value_is)

    total_is : total ≡ length (blocks_of places.later)
    total_is = omega (arith, totals, later_long, fresh_many, sizes.blocks, ap (λ (l : List Extent). length (blocks_of l)) list_is)

    list_fits : Fit (length v.map.used) list
    list_fits = subst (λ (l : List Extent). Fit (length v.map.used) l) (sym list_is) (file_fits v a settled (owned_of k file) (owned_stands k (volume_of a.content) p file stands_there value_is))

    old_fits : Fit (length v.map.used) (middle start behind list)
    old_fits = fit_back (length v.map.used) start (front behind list) (fit_front (length v.map.used) behind list list_fits)

    old_used : AreUsed v.map (blocks_of (middle start behind list))
    old_used = in_part v.map (blocks_of list) start (behind - start) (blocks_of (middle start behind list)) (middle_blocks start behind list order) sure.used

    flips : FlipsBits fresh (take (behind - start) (drop start (blocks_of list))) (volume_of a.content) (record (volume_of a.content) { bits = bits_on (with_spill v w.map) })
    flips = subst (λ (l : List ℕ). FlipsBits fresh l (volume_of a.content) (record (volume_of a.content) { bits = bits_on (with_spill v w.map) })) (middle_blocks start behind list order)
        (spilled_flips v a was settled n enough (middle start behind list) (fresh_fit v.map n) old_fits old_used w.map places.keeps (ap (λ (m : BlockMap). m.used) (places.map sure.apart)))

    -- sector 2 alone is another behind the put of the header
    header_alone : (s : ℕ) → s ≢ 2 → sector e.content s ≡ sector d.content s
    header_alone s differs = ⊎_elim (λ same. same) (λ has. absurd (⊎_elim (λ is. differs is) (λ none. omega (arith, none.1)) (first_or_later 2 s [] has))) ((header_within.content told).each s)

    not_header : (s : ℕ) → Contains (map_sectors w) s → s ≢ 2
    not_header s has two =
        omega (
          arith,
          stands.apart s,
          times-append s (2 ∷ []) (file_sectors w),
          times-append s (sectors_of_tree w.extents.file) (sectors_of_tree w.catalog.file ++ (attribute_sectors w ++ map_sectors w)),
          times-append s (sectors_of_tree w.catalog.file) (attribute_sectors w ++ map_sectors w),
          times-append s (attribute_sectors w) (map_sectors w),
          stands_once s (map_sectors w) has,
          stands_once s (2 ∷ []) (0, omega arith, sym two),
        )

    map_held : HoldsMap w e.content
    map_held k low = bit_elsewhere (map_sectors w) d.content e.content (λ s has. header_alone s (not_header s has)) k ∙ map_put.holds k low

    outside : AgreesOutside (λ s. (s ≡ 2) ⊎ Contains (map_sectors w) s) c.content e.content
    outside = record {
      size = (header_within.content told).size ∙ map_put.outside.size;
      each = λ s. ⊎_elim
          (λ same. ⊎_elim (λ before. inl (same ∙ before)) (λ has. inr (inr has)) (map_put.outside.each s))
          (λ has. inr (⊎_elim (λ is. inl is) (λ none. absurd (omega (arith, none.1))) (first_or_later 2 s [] has)))
          ((header_within.content told).each s);
    }

    pub put_through : IsPutThrough k v a w.map w.extents w.catalog free places.between places.stored c.content e n entry.parent entry.name (fork_with (max size end) total places.later (fork_at (kind_of k) file)) file start (behind - start) places.later from value
    put_through = record {
      enough = enough;
      spilled = places.spilled;
      spill_lists = places.lists;
      spreads = places.spreads;
      updates = subst (λ (f : FileRecord). UpdatesEntry entry.parent entry.name (File f) (lists_of (with_stored v w.map w.extents) places.stored).catalog_pairs (lists_of (with_record v w.map w.extents w.catalog) c.content).catalog_pairs) (record_is k v.header.modify_date (fork_with (max size end) total places.later (fork_at (kind_of k) file)) file) places.replaces.updates;
      changes = places.replaces.changes;
      there = there;
      no_link = no_link;
      fits = fits;
      fits_fork = fits_at k v.header.modify_date (fork_with (max size end) total places.later (fork_at (kind_of k) file)) file places.fits;
      stands = subst (λ (x : Volume). IsStanding x e) places.rest stands;
      headed = header_put.headed ∙ ap (λ (x : Volume). x.header) places.rest;
      map_held = subst (λ (x : Volume). HoldsMap x e.content) places.rest map_held;
      lists_after = subst (λ (x : Volume). lists_of x e.content ≡ lists_of x c.content) places.rest (header_put.lists ∙ map_put.lists);
      outside = subst (λ (x : Volume). AgreesOutside (λ s. (s ≡ 2) ⊎ Contains (map_sectors x) s) c.content e.content) places.rest outside;
      gets = refl;
      total = total_is;
      size_held = subst (λ (l : List ℕ). max size end ≤ length l * block) (sym blocks_are) (still_held block size from end (blocks_of list) fresh some_block (omega (arith, some)) sure.holds fresh_many);
      blocks = blocks_are ∙ (λ i. take start (blocks_of (list_is i)) ++ (fresh ++ drop (sym whole i) (blocks_of (list_is i))));
      within = omega (arith, within, whole, ap (λ (l : List Extent). length (blocks_of l)) list_is);
      flips = subst (λ (l : List Extent). FlipsBits fresh (take (behind - start) (drop start (blocks_of l))) (volume_of a.content) (record (volume_of a.content) { bits = bits_on (with_spill v w.map) })) list_is flips;
      counts = omega (arith, counted, fresh_many);
      bytes = places.bytes ∙ ap (λ (l : List Extent). written (take size (fork_bytes a.content block l)) from value) list_is;
    }

    module _ (others_law : OthersKeepBytes) where
      pub value_put : PutsValue (kind_of k) file from value v w a.content e.content
      value_put = record {
        lists = lists_put k v a was settled w.map w.extents w.catalog free places.between places.stored c.content e n entry.parent entry.name (fork_with (max size end) total places.later (fork_at (kind_of k) file)) file start (behind - start) places.later from value put_through;
        fresh = fresh;
        many = fresh_many;
        rewrites = rewrites_it k v a was settled w.map w.extents w.catalog free places.between places.stored c.content e n entry.parent entry.name (fork_with (max size end) total places.later (fork_at (kind_of k) file)) file start (behind - start) places.later from value put_through;
        same_file = before_it k v a was settled w.map w.extents w.catalog free places.between places.stored c.content e n entry.parent entry.name (fork_with (max size end) total places.later (fork_at (kind_of k) file)) file start (behind - start) places.later from value put_through;
        makes = makes_it k v a was settled w.map w.extents w.catalog free places.between places.stored c.content e n entry.parent entry.name (fork_with (max size end) total places.later (fork_at (kind_of k) file)) file start (behind - start) places.later from value put_through others_law;
        settles = λ sound. subst (λ (x : Volume). IsSettled x e.content) (sym places.rest)
            (settled_put k v a was settled w.map w.extents w.catalog free places.between places.stored c.content e n entry.parent entry.name (fork_with (max size end) total places.later (fork_at (kind_of k) file)) file start (behind - start) places.later from value put_through sound);
        tree = tree_put k v a was settled w.map w.extents w.catalog free places.between places.stored c.content e n entry.parent entry.name (fork_with (max size end) total places.later (fork_at (kind_of k) file)) file start (behind - start) places.later from value put_through;
        now = volume_is k v a was settled w.map w.extents w.catalog free places.between places.stored c.content e n entry.parent entry.name (fork_with (max size end) total places.later (fork_at (kind_of k) file)) file start (behind - start) places.later from value put_through;
      }
