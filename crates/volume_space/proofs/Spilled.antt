-- A volume over which blocks were spilled that are free: it stands as before, whatever its bitmap says of them, and its lists but for the bits are those that it had.
use Rattle.std.proofs.Common.{◌≡◌, ◌≢◌, ◌⊎◌, inl, inr, ◌<◌, ◌≤◌, ℕ, ◌+◌, ◌-◌, ◌*◌, ◌/◌, Bool, true, false, List, [], ◌∷◌, ◌++◌, length, map, get_or, refl, sym, ◌∙◌, ap, subst, arith, ⊎_elim}
use Rattle.std.specs.List.{All, range_with_len}
use Rattle.std.specs.Prelude.{Contains, IsTrue, Some, slice_get, Result, Ok, Err, OnOk}
use Rattle.std.proofs.lemmas.List.Elements.{Contains-append_left, Contains-append_right}
use Rattle.std.proofs.lemmas.Option.{get_or_from_slice_get, slice_get_within}
use Rattle.hx_bytes.specs.declared.extents.Extent.{Extent}
use Rattle.fork_map.specs.Blocks.{blocks_of, fork_sectors, sectors_of}
use Rattle.jnl_format.specs.Recovery.{header_of_volume, info_sector_of}
use Rattle.flag_rows.specs.Bits.{count_set, sectors_for}
use Rattle.alloc_bitmap.specs.Apart.{times}
use Rattle.alloc_bitmap.specs.Map.{BlockMap, free_of}
use Rattle.alloc_bitmap.proofs.TakeLaws.{picks_chosen}
use Rattle.sector_disk.specs.Lists.{Content, sector}
use Rattle.sector_disk.specs.Clock.{TimePasses}
use Rattle.sector_disk.specs.Space.{LeavesDurable, SameRoom, SameSpace, Space}
use Rattle.btree_node.specs.Keys.{IsCatalogKey, IsExtentKey, IsAttrKey, catalog_cmp, extent_cmp, attr_cmp, is_eight_extents, anything}
use Rattle.btree_node.specs.Tree.{pairs_of}
use Rattle.btree_node.specs.TreeFile.{TreeFile as File, store_of, extents_form, catalog_form, attributes_form}
use Rattle.btree_file.specs.State.{sectors_of_tree}
use Rattle.btree_file.proofs.Edited.{file_elsewhere, held_elsewhere}
use Rattle.file_io.specs.Places.{KeepsMap, fresh_of}
use Rattle.file_io.specs.Touching.{IsOneOf, MaySpill, SpillsIn}
use Rattle.hfs_volume.specs.Content.{has_attributes, is_set, journal_place, overflow_in_volume, volume_of, VolumeState}
use Rattle.hfs_volume.specs.Forks.{allocation_id, attributes_id, catalog_id, data_kind, extents_of, per_block_of}
use Rattle.hfs_volume.specs.Records.{Overflow, overflow_of}
use Rattle.hfs_volume.proofs.BlockWants.{in_range}
use Rattle.hfs_volume.proofs.Reaching.{flat_cases}
use Rattle.volume_header.specs.Header.{header_of}
use Rattle.volume_space.specs.Growing.{TakesRun, with_run}
use Rattle.volume_base.specs.Lists.{bits_on, facts_on, lists_of}
use Rattle.volume_base.specs.Holding.{HoldsOn, IsLaidOutAs}
use Rattle.volume_base.specs.Standing.{IsKeptAside, IsSettled, IsStanding, StandsOver, attribute_sectors, file_sectors, map_sectors, own_sectors}
use Rattle.volume_base.specs.Service.{IsInService}
use Rattle.volume_base.specs.Touching.{Touches}
use Rattle.volume_base.specs.declared.volume.Volume.{Volume}
use Rattle.hfs_volume.proofs.Members.{each_of}
use Rattle.hfs_volume.proofs.Sectors.{block_is, in_block}
use Rattle.std.proofs.lemmas.Bool.{true≢false}
use Rattle.volume_base.proofs.Begun.{service_later}
use Rattle.volume_base.proofs.CatalogEdited.{there_is}
use Rattle.volume_space.proofs.GrownFree.{below_product, off_aside, off_journal, off_own}
use Rattle.volume_space.proofs.GrownRun.{blocks_one, free_there, was_clear, was_open}
use Rattle.volume_base.proofs.ListsAfter.{file_pairs, if_there}
use Rattle.volume_base.proofs.Placing.{flat_stands}
use Rattle.hfs_volume.specs.Aside.{IsFreeSector, IsJournalSector}

-- a block as an extent
abbrev one_block : ℕ → Extent
one_block block = record { start = block; count = 1 }

-- it is free to take
pub takes_one : (map : BlockMap) (block : ℕ) → block < length map.used → get_or (free_of map) block false ≡ true → TakesRun 1 (record { start = block; count = 1 }) map (with_run (record { start = block; count = 1 }) map)
takes_one map block inside free = record {
  many = refl;
  inside = omega (arith, inside);
  free = λ k low high. subst (λ n. get_or (free_of map) n false ≡ true) (let same : block ≡ k = omega (arith, low, high) in same) free;
  taken = refl;
}

module _ (v : Volume) (a b : Space) (was : IsStanding v a) (settled : IsSettled v a.content) (fresh : List ℕ) (free : (block : ℕ) → Contains fresh block → (block < length v.map.used) × (get_or (free_of v.map) block false ≡ true))
    (spills : SpillsIn (IsOneOf (sectors_of v.catalog.file.per_block fresh)) a b) (sizes : (at : ℕ) → (sector b.content at ≡ sector a.content at) ⊎ (length (sector b.content at) ≡ 512)) (later : BlockMap) (keeps : KeepsMap v.map later)
  where
    abbrev per : ℕ
    per = v.catalog.file.per_block

    abbrev w : Volume
    w = record v { map = later }

    -- the block of a sector that was spilled
    of_block : (s : ℕ) → IsOneOf (sectors_of v.catalog.file.per_block fresh) s → Contains (sectors_of v.catalog.file.per_block fresh) s
    of_block s is = (is.0, slice_get_within (sectors_of v.catalog.file.per_block fresh) is.0 s is.1, get_or_from_slice_get (sectors_of v.catalog.file.per_block fresh) is.0 s s is.1)

    at_one : (s : ℕ) → IsOneOf (sectors_of v.catalog.file.per_block fresh) s → (block : ℕ) × Contains fresh block × Contains (fork_sectors (record { start = block; count = 1 } ∷ []) v.catalog.file.per_block) s
    at_one s is =
        let found = flat_cases (λ (block : ℕ). range_with_len (block * v.catalog.file.per_block) v.catalog.file.per_block) fresh s (of_block s is) in (
          found.0,
          found.1,
          flat_stands (λ (block : ℕ). range_with_len (block * v.catalog.file.per_block) v.catalog.file.per_block) (blocks_of (record { start = found.0; count = 1 } ∷ [])) found.0 s
              (subst (λ (l : List ℕ). Contains l found.0) (sym (blocks_one (record { start = found.0; count = 1 }))) (in_range found.0 1 found.0 (omega arith) (omega arith))) found.2,
        )

    -- none of them is the volume's own, or kept aside
    pub off : (s : ℕ) → IsOneOf (sectors_of v.catalog.file.per_block fresh) s → Contains (own_sectors v) s → ⊥
    off s is own =
        let it = at_one s is in
        off_own v a was settled 1 (record { start = it.0; count = 1 }) (with_run (record { start = it.0; count = 1 }) v.map) (takes_one v.map it.0 (free it.0 it.1).0 (free it.0 it.1).1) s it.2 own

    off_kept : (s : ℕ) → IsOneOf (sectors_of v.catalog.file.per_block fresh) s → IsKeptAside v a.content s → ⊥
    off_kept s is aside =
        let it = at_one s is in
        off_aside v a was settled 1 (record { start = it.0; count = 1 }) (with_run (record { start = it.0; count = 1 }) v.map) (takes_one v.map it.0 (free it.0 it.1).0 (free it.0 it.1).1) s it.2 aside

    pub own_same : (s : ℕ) → Contains (own_sectors v) s → sector b.content s ≡ sector a.content s
    own_same s own = ⊎_elim (λ same. same) (λ is. absurd (off s is own)) (spills.content.each s)

    aside_same : (s : ℕ) → IsKeptAside v a.content s → sector b.content s ≡ sector a.content s
    aside_same s aside = ⊎_elim (λ same. same) (λ is. absurd (off_kept s is aside)) (spills.content.each s)

    size : length b.content ≡ length a.content
    size = spills.content.size

    in_files : (s : ℕ) → Contains (file_sectors v) s → Contains (own_sectors v) s
    in_files s has = Contains-append_right (2 ∷ []) (file_sectors v) s has

    extents_same : (s : ℕ) → Contains (sectors_of_tree v.extents.file) s → sector b.content s ≡ sector a.content s
    extents_same s has = own_same s (in_files s (Contains-append_left (sectors_of_tree v.extents.file) (sectors_of_tree v.catalog.file ++ (attribute_sectors v ++ map_sectors v)) s has))

    behind_extents : (s : ℕ) → Contains (sectors_of_tree v.catalog.file ++ (attribute_sectors v ++ map_sectors v)) s → Contains (own_sectors v) s
    behind_extents s has = in_files s (Contains-append_right (sectors_of_tree v.extents.file) (sectors_of_tree v.catalog.file ++ (attribute_sectors v ++ map_sectors v)) s has)

    catalog_same : (s : ℕ) → Contains (sectors_of_tree v.catalog.file) s → sector b.content s ≡ sector a.content s
    catalog_same s has = own_same s (behind_extents s (Contains-append_left (sectors_of_tree v.catalog.file) (attribute_sectors v ++ map_sectors v) s has))

    attributes_same : IsTrue (has_attributes v.header) → (s : ℕ) → Contains (sectors_of_tree v.attributes.file) s → sector b.content s ≡ sector a.content s
    attributes_same there s has =
        let here : Contains (attribute_sectors v) s = subst (λ (l : List ℕ). Contains l s) (sym (there_is (has_attributes v.header) (sectors_of_tree v.attributes.file) there)) has in
        own_same s (behind_extents s (Contains-append_right (sectors_of_tree v.catalog.file) (attribute_sectors v ++ map_sectors v) s (Contains-append_left (attribute_sectors v) (map_sectors v) s here)))

    overflow_same : overflow_in_volume (lists_of v b.content) ≡ overflow_in_volume (lists_of v a.content)
    overflow_same = ap (λ (f : File). map overflow_of (pairs_of (store_of f))) (file_elsewhere (sectors_of_tree v.extents.file) a.content b.content extents_same)

    pub map_same : map_sectors (record v { map = later }) ≡ map_sectors v
    map_same = λ i. fork_sectors (keeps.fork i) (keeps.per_block i)

    pub own_now : own_sectors (record v { map = later }) ≡ own_sectors v
    own_now = λ i. 2 ∷ sectors_of_tree v.extents.file ++ (sectors_of_tree v.catalog.file ++ (attribute_sectors v ++ map_same i))

    files_now : file_sectors (record v { map = later }) ≡ file_sectors v
    files_now = λ i. sectors_of_tree v.extents.file ++ (sectors_of_tree v.catalog.file ++ (attribute_sectors v ++ map_same i))

    own_is : (s : ℕ) → Contains (own_sectors (record v { map = later })) s → Contains (own_sectors v) s
    own_is s has = subst (λ (l : List ℕ). Contains l s) own_now has

    pub stands_spilled : IsStanding (record v { map = later }) b
    stands_spilled = record {
      trees = record {
        extents = held_elsewhere extents_form IsExtentKey is_eight_extents extent_cmp v.extents.file a.content b.content extents_same was.trees.extents;
        catalog = held_elsewhere catalog_form IsCatalogKey anything catalog_cmp v.catalog.file a.content b.content catalog_same was.trees.catalog;
        compare = was.trees.compare;
        attributes = λ there. held_elsewhere attributes_form IsAttrKey anything attr_cmp v.attributes.file a.content b.content (attributes_same there) (was.trees.attributes there);
      };
      forks = record {
        extents = was.forks.extents;
        extents_per = was.forks.extents_per;
        catalog = was.forks.catalog ∙ ap (λ (o : List Overflow). extents_of o catalog_id data_kind v.header.catalog_fork) (sym overflow_same);
        catalog_per = was.forks.catalog_per;
        attributes = λ there. was.forks.attributes there ∙ ap (λ (o : List Overflow). extents_of o attributes_id data_kind v.header.attributes_fork) (sym overflow_same);
        attributes_per = was.forks.attributes_per;
        map = keeps.fork ∙ was.forks.map ∙ ap (λ (o : List Overflow). extents_of o allocation_id data_kind v.header.allocation_fork) (sym overflow_same);
        map_per = keeps.per_block ∙ was.forks.map_per;
      };
      whole = λ at low. ⊎_elim (λ same. ap (λ (l : List ℕ). length l) same ∙ was.whole at (omega (arith, low, size))) (λ long. long) (sizes at);
      apart = λ s. subst (λ (l : List ℕ). times s l ≤ 1) (sym own_now) (was.apart s);
      blocks = keeps.used ∙ was.blocks;
      closed = λ at is has. was.closed at ((spills.closed at).0 is) (own_is at has);
      aside = λ at is has. was.aside at (subst (λ n. (at ≡ n - 2) ⊎ (at ≡ info_sector_of v.header)) size is) (own_is at has);
      large = omega (arith, was.large, size);
      inside = λ at has. was.inside at (subst (λ (l : List ℕ). Contains l at) files_now has);
      fit = omega (arith, was.fit, size);
      live = λ at is. subst (λ (l : List ℕ). Contains l at) (sym own_now) (was.live at ((spills.live at).0 is));
    }

    -- the lists, but for the bits
    pub lists_spilled : lists_of (record v { map = later }) b.content ≡ record (lists_of v a.content) { bits = bits_on (record v { map = later }) }
    lists_spilled = λ i. record {
      sectors = size i;
      head = v.header;
      alternate = header_of ((ap (λ n. sector b.content (n - 2)) size ∙ aside_same (length a.content - 2) (inl refl)) i);
      journal = journal_place (aside_same (info_sector_of v.header) (inr refl) i);
      overflow_pairs = file_pairs (sectors_of_tree v.extents.file) a.content b.content extents_same i;
      catalog_pairs = file_pairs (sectors_of_tree v.catalog.file) a.content b.content catalog_same i;
      attribute_pairs = if_there (has_attributes v.header) _ _ (λ there. file_pairs (sectors_of_tree v.attributes.file) a.content b.content (attributes_same there)) i;
      extents_tree = facts_on v.extents.file;
      catalog_tree = facts_on v.catalog.file;
      attributes_tree = facts_on v.attributes.file;
      bits = bits_on (record v { map = later });
    }

-- the blocks that are taken are free
pub fresh_free : (map : BlockMap) (n : ℕ) → n ≤ count_set (free_of map) → (block : ℕ) → Contains (blocks_of (fresh_of map n)) block → (block < length map.used) × (get_or (free_of map) block false ≡ true)
fresh_free map n enough block has =
    let free : get_or (free_of map) block false ≡ true = each_of (λ (k : ℕ). get_or (free_of map) k false ≡ true) (blocks_of (fresh_of map n)) (picks_chosen (free_of map) n enough).each block has in
    (free_there map.used map.held map refl block free, free)

-- such a volume is in service
pub service_spilled : (v : Volume) (a b : Space) (later : BlockMap) → KeepsMap v.map later → b.sectors ≡ a.sectors → IsInService v a → IsInService (record v { map = later }) b
service_spilled v a b later keeps sectors was = record {
  extents = service_later v.extents a b sectors was.extents;
  catalog = service_later v.catalog a b sectors was.catalog;
  attributes = service_later v.attributes a b sectors was.attributes;
  fits = was.fits;
  least = was.least;
  most = was.most;
  map_inside = subst (λ (k : List Extent × (ℕ × ℕ)). All (λ at. at < k.1.1) (fork_sectors k.0 k.1.0)) {x = (v.map.fork, (v.map.per_block, a.sectors))} {y = (later.fork, (later.per_block, b.sectors))} (λ i. (sym keeps.fork i, (sym keeps.per_block i, sym sectors i))) was.map_inside;
  map_long = subst (λ (k : List Extent × (ℕ × ℕ)). sectors_for k.1.1 ≤ length (fork_sectors k.0 k.1.0)) {x = (v.map.fork, (v.map.per_block, length v.map.used))} {y = (later.fork, (later.per_block, length later.used))} (λ i. (sym keeps.fork i, (sym keeps.per_block i, sym keeps.used i))) was.map_long;
  marks = keeps.changed ∙ was.marks ∙ ap sectors_for (sym keeps.used);
}

-- what holds where an answer came holds of what follows from it there
pub on_ok : {U T : Type 0} (q : Result U T) (P Q : Type 0) → (P → Q) → OnOk q P → OnOk q Q
on_ok (Ok x) P Q follows holds = follows holds
on_ok (Err y) P Q follows holds = tt

-- the sectors that were spilled, by the number of sectors that a block has
pub spilled_per : (v : Volume) (a b : Space) → IsStanding v a → (fresh : List ℕ) → SpillsIn (IsOneOf (sectors_of (v.header.block_size / 512) fresh)) a b → SpillsIn (IsOneOf (sectors_of v.catalog.file.per_block fresh)) a b
spilled_per v a b was fresh spills = subst (λ per. SpillsIn (IsOneOf (sectors_of per fresh)) a b) (sym was.forks.catalog_per) spills

pub stands_over : {U T : Type 0} (q : Result U T) (v : Volume) (a b : Space) → StandsOver v a → (IsTrue a.tells → IsSettled v a.content) → (n : ℕ) → n ≤ count_set (free_of v.map)
    → (IsTrue a.tells → SpillsIn (IsOneOf (sectors_of (v.header.block_size / 512) (blocks_of (fresh_of v.map n)))) a b) → SameSpace a b → (later : BlockMap) → KeepsMap v.map later
    → (IsTrue a.tells → OnOk q ((at : ℕ) → (sector b.content at ≡ sector a.content at) ⊎ (length (sector b.content at) ≡ 512))) → OnOk q (StandsOver (record v { map = later }) b)
stands_over (Err y) v a b over settled n enough spills same later keeps sizes = tt
stands_over (Ok x) v a b over settled n enough spills same later keeps sizes = record {
  service = service_spilled v a b later keeps same.sectors over.service;
  stands = λ told.
      let tells : IsTrue a.tells = sym same.tells ∙ told in
      let was = over.stands tells in
      stands_spilled v a b was (settled tells) (blocks_of (fresh_of v.map n)) (fresh_free v.map n enough) (spilled_per v a b was (blocks_of (fresh_of v.map n)) (spills tells)) (sizes tells) later keeps;
}

-- ---- what was committed last

-- what isn't true is false
pub clear : (b : Bool) → (b ≡ true → ⊥) → b ≡ false
clear true none = absurd (none refl)
clear false none = refl

-- a sector that was spilled was free at the last commit
pub spilled_free : (committed : Content) (v : Volume) → HoldsOn committed v → IsLaidOutAs committed v → 0 < v.header.block_size / 512 → (n : ℕ) → n ≤ count_set (free_of v.map) → (s : ℕ) → IsOneOf (sectors_of (v.header.block_size / 512) (blocks_of (fresh_of v.map n))) s
    → IsFreeSector committed s
spilled_free committed v holds alike some n enough s is =
    let here : Contains (sectors_of (v.header.block_size / 512) (blocks_of (fresh_of v.map n))) s =
    (is.0, slice_get_within (sectors_of (v.header.block_size / 512) (blocks_of (fresh_of v.map n))) is.0 s is.1, get_or_from_slice_get (sectors_of (v.header.block_size / 512) (blocks_of (fresh_of v.map n))) is.0 s s is.1) in
    let free = fresh_free v.map n enough (s / (v.header.block_size / 512)) (in_block (v.header.block_size / 512) (blocks_of (fresh_of v.map n)) s some here) in
    let takes = takes_one v.map (s / (v.header.block_size / 512)) free.0 free.1 in
    let run : Extent = record { start = s / (v.header.block_size / 512); count = 1 } in
    subst (λ k. (s / k < (header_of_volume committed).total_blocks) × (is_set (volume_of committed) (s / k) ≡ false)) (sym (ap (λ b. b / 512) alike.block)) (
      omega (arith, free.0, alike.total),
      clear (is_set (volume_of committed) (s / (v.header.block_size / 512))) (λ set. ⊎_elim
          (λ used. true≢false (sym used ∙ was_clear 1 run v.map (with_run run v.map) takes (s / (v.header.block_size / 512)) (omega arith) (omega arith)))
          (λ held. true≢false (sym held ∙ was_open 1 run v.map (with_run run v.map) takes (s / (v.header.block_size / 512)) (omega arith) (omega arith)))
          (holds.1 (s / (v.header.block_size / 512)) set)),
    )

-- so such a spill touches the space as a command does
pub touches_spilled : (committed : Content) (these : ℕ → Type 0) (v : Volume) (a b : Space) → HoldsOn committed v → IsLaidOutAs committed v → 0 < v.header.block_size / 512 → (n : ℕ) → n ≤ count_set (free_of v.map)
    → (IsTrue a.tells → SpillsIn (IsOneOf (sectors_of (v.header.block_size / 512) (blocks_of (fresh_of v.map n)))) a b) → SameSpace a b → SameRoom a b → a.faults ≤ b.faults
    → (IsTrue a.tells → TimePasses a.clock b.clock (LeavesDurable b)) → Touches committed these a b
touches_spilled committed these v a b holds alike some n enough spills same room later time = record {
  same = same;
  durable = λ tells. record {
    size = (spills tells).durable.size;
    each = λ s. ⊎_elim (λ is. inl is) (λ is. inr (spilled_free committed v holds alike some n enough s is.0, is.1)) ((spills tells).durable.each s);
  };
  spilled = λ tells s now. ⊎_elim (λ was. inl was) (λ is. inr (spilled_free committed v holds alike some n enough s is)) ((spills tells).spilled s now);
  still = λ tells s was. (spills tells).still s was;
  live = λ tells s now. inl (((spills tells).live s).0 now);
  closed = λ tells s. (spills tells).closed s;
  still_put = λ s put. subst (λ b. IsTrue b) (sym (room.put s)) put;
  spare = omega (arith, room.spare);
  faults = later;
  time = time;
}

-- ---- what may be spilled

-- a sector of a block is one of those of the block's extent
in_one : (per block s : ℕ) → block * per ≤ s → s < block * per + per → Contains (fork_sectors (record { start = block; count = 1 } ∷ []) per) s
in_one per block s low high =
    flat_stands (λ (k : ℕ). range_with_len (k * per) per) (blocks_of (record { start = block; count = 1 } ∷ [])) block s
    (subst (λ (l : List ℕ). Contains l block) (sym (blocks_one (record { start = block; count = 1 }))) (in_range block 1 block (omega arith) (omega arith))) (in_range (block * per) per s low high)

-- The sectors of free blocks may be spilled, where the volume's blocks lie in the space, the header's among them is in use, and the journal
-- alone is closed.
pub may_spill : (v : Volume) (a : Space) → StandsOver v a → (IsTrue a.tells → IsSettled v a.content) → (IsTrue a.tells → (at : ℕ) → a.closed at → IsJournalSector a.content at) → 0 < v.header.block_size / 512
    → length v.map.used * (v.header.block_size / 512) ≤ a.sectors → get_or v.map.used (2 / (v.header.block_size / 512)) false ≡ true
    → (block s : ℕ) → get_or (free_of v.map) block false ≡ true → block * (v.header.block_size / 512) ≤ s → s < block * (v.header.block_size / 512) + v.header.block_size / 512 → MaySpill a s
may_spill v a over settled shut some fits header block s free low high =
    let there = free_there v.map.used v.map.held v.map refl block free in
    let run : Extent = record { start = block; count = 1 } in
    let takes = takes_one v.map block there free in
    let is : s / (v.header.block_size / 512) ≡ block = block_is (v.header.block_size / 512) block s some low high in
    let clear_now : get_or v.map.used block false ≡ false = was_clear 1 run v.map (with_run run v.map) takes block (omega arith) (omega arith) in
    let in_run : (was : IsStanding v a) → Contains (fork_sectors (record { start = block; count = 1 } ∷ []) v.catalog.file.per_block) s =
    λ was. subst (λ per. Contains (fork_sectors (record { start = block; count = 1 } ∷ []) per) s) (sym was.forks.catalog_per) (in_one (v.header.block_size / 512) block s low high) in
    record {
      inside = omega (arith, below_product s (v.header.block_size / 512) (length v.map.used) some (omega (arith, there, is)), fits);
      no_header = λ two. true≢false (sym header ∙ ap (λ k. get_or v.map.used k false) (ap (λ k. k / (v.header.block_size / 512)) (sym two) ∙ is) ∙ clear_now);
      outside = λ tells closed. off_journal v a (over.stands tells) (settled tells) 1 run (with_run run v.map) takes s (in_run (over.stands tells)) (shut tells s closed);
      idle = λ tells live. off_own v a (over.stands tells) (settled tells) 1 run (with_run run v.map) takes s (in_run (over.stands tells)) ((over.stands tells).live s live);
    }
