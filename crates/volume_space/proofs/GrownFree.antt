-- A run of free blocks of a settled volume: none of its sectors is one of the volume's own, nor the journal's, nor the alternate header's.
use Rattle.std.proofs.Common.{◌≡◌, ◌≢◌, ◌<◌, ◌≤◌, ℕ, ◌+◌, ◌-◌, ◌*◌, ◌/◌, ◌==◌, Bool, true, false, not, List, [], ◌∷◌, ◌++◌, length, get_or, refl, sym, ◌∙◌, ap, subst, arith, inl, inr, ⊎_elim}
use Rattle.std.specs.Prelude.{Contains, if◌then◌else◌}
use Rattle.std.specs.List.{range_with_len}
use Rattle.std.specs.Str.{bytes_eq}
use Rattle.std.proofs.Math.Nat.{le-div_iff_mul-le}
use Rattle.std.proofs.lemmas.Bool.{and_parts, cases_lt, true≢false}
use Rattle.std.proofs.lemmas.Slice.Eq.{bytes_eq-Decides}
use Rattle.std.proofs.lemmas.List.Elements.{Contains-append_left, Contains-append_right, Contains-append_cases}
use Rattle.hx_bytes.specs.declared.extents.Extent.{Extent}
use Rattle.fork_map.specs.Blocks.{blocks_of, sectors_of, fork_sectors}
use Rattle.jnl_format.specs.Recovery.{info_sector_of}
use Rattle.alloc_bitmap.specs.Map.{BlockMap, free_of}
use Rattle.sector_disk.specs.Space.{Space}
use Rattle.btree_file.specs.State.{sectors_of_tree}
use Rattle.hfs_model.specs.Step.{journal_name, journal_info_name}
use Rattle.hfs_volume.specs.Aside.{IsJournalSector}
use Rattle.hfs_volume.specs.Attributes.{IsOneExtent, journal_extent, info_extent}
use Rattle.hfs_volume.specs.Blocks.{forks_of, used_in}
use Rattle.hfs_volume.specs.Content.{VolumeState, has_attributes, is_set, overflow_in_volume, records_of, volume_of}
use Rattle.hfs_volume.specs.Forks.{Owned, allocation_id, attributes_id, blocks_owned, catalog_id, data_kind, extents_id, extents_of, parts_for, per_block_of}
use Rattle.hfs_volume.specs.Records.{Placed, entries_of, is_empty, is_placed_at}
use Rattle.hfs_volume.proofs.Apart.{among, fork_is_used, reserved_is_used}
use Rattle.hfs_volume.proofs.BlockWants.{in_range, range_bounds}
use Rattle.hfs_volume.proofs.Flat.{found_some}
use Rattle.hfs_volume.proofs.Members.{first_or_later, kept_stands}
use Rattle.hfs_volume.proofs.Sectors.{block_is, from_first, in_block, in_front, to_last}
use Rattle.hfs_volume.proofs.Untouched.{HasWholeBlocks, data_fork_of, file_fork_stands, special_stands, whole_blocks}
use Rattle.volume_space.specs.Growing.{IsFreeAt, TakesRun}
use Rattle.volume_base.specs.Lists.{lists_of}
use Rattle.volume_base.specs.Standing.{IsKeptAside, IsSettled, IsStanding, attribute_sectors, map_sectors, own_sectors}
use Rattle.volume_base.specs.declared.volume.Volume.{Volume}
use Rattle.volume_space.proofs.GrownRun.{blocks_one, was_clear}
use Rattle.volume_base.proofs.Mapped.{kept_bit}
use Rattle.volume_base.proofs.TreesSettled.{header_settled}

-- a sector of the attributes file is in it where there is one
if_has : (b : Bool) (at : ℕ) (sectors : List ℕ) → Contains (if b then sectors else []) at → (b ≡ true) × Contains sectors at
if_has true at sectors has = (refl, has)
if_has false at sectors has = absurd (omega (arith, has.1))

pub below_product : (n p t : ℕ) → 0 < p → n / p < t → n < t * p
below_product n p t some less = ⊎_elim (λ (is : n < t * p). is) (λ (more : t * p ≤ n). absurd (omega (arith, less, (le-div_iff_mul-le {k = p} {x = t} {y = n} some).1 more))) (cases_lt n (t * p))

module _ (v : Volume) (a : Space) (was : IsStanding v a) (settled : IsSettled v a.content) (count : ℕ) (run : Extent) (later : BlockMap) (takes : TakesRun count run v.map later) where
  abbrev lists : VolumeState
  lists = volume_of a.content

  abbrev per : ℕ
  per = per_block_of (volume_of a.content).head

  -- the sectors of the run
  abbrev pub run_sectors : List ℕ
  run_sectors = fork_sectors (run ∷ []) v.catalog.file.per_block

  head_is : (volume_of a.content).head ≡ v.header
  head_is = ap (λ (l : VolumeState). l.head) settled.lists

  whole : HasWholeBlocks (volume_of a.content).sectors (volume_of a.content).head
  whole = whole_blocks (volume_of a.content).sectors (volume_of a.content).head settled.sound.blocks.header.accepted

  per_is : v.catalog.file.per_block ≡ per_block_of (volume_of a.content).head
  per_is = was.forks.catalog_per ∙ ap per_block_of (sym head_is)

  pub some_per : 0 < v.catalog.file.per_block
  some_per = omega (arith, per_is, whole.some)

  -- ---- its blocks

  pub run_inside : (b : ℕ) → run.start ≤ b → b < run.start + run.count → b < (volume_of a.content).head.total_blocks
  run_inside b from to = omega (arith, to, takes.inside, settled.blocks, ap (λ h. h.total_blocks) head_is)

  pub run_clear : (b : ℕ) → run.start ≤ b → b < run.start + run.count → is_set (volume_of a.content) b ≡ false
  run_clear b from to = ap (λ (l : VolumeState). get_or l.bits b false) settled.lists ∙ kept_bit v b (omega (arith, to, takes.inside)) ∙ was_clear count run v.map later takes b from to

  pub run_unused : (b : ℕ) → run.start ≤ b → b < run.start + run.count → Contains (used_in (volume_of a.content)) b → ⊥
  run_unused b from to has = true≢false (sym (among (used_in (volume_of a.content)) b has) ∙ sym (settled.sound.blocks.bits.bits b (run_inside b from to)) ∙ run_clear b from to)

  -- the block of one of its sectors
  block_there : (at : ℕ) → Contains run_sectors at → (run.start ≤ at / per) × (at / per < run.start + run.count)
  block_there at has =
      let here : Contains (sectors_of per (blocks_of (run ∷ []))) at = subst (λ n. Contains (sectors_of n (blocks_of (run ∷ []))) at) per_is has in
      range_bounds run.start run.count (at / per) (subst (λ (l : List ℕ). Contains l (at / per)) (blocks_one run) (in_block per (blocks_of (run ∷ [])) at whole.some here))

  -- which is free
  pub free_at : (at : ℕ) → Contains run_sectors at → IsFreeAt v at
  free_at at has = let there = block_there at has in subst (λ h. get_or (free_of v.map) (at / per_block_of h) false ≡ true) head_is (takes.free (at / per) there.0 there.1)

  not_there : (at : ℕ) → Contains run_sectors at → Contains (used_in (volume_of a.content)) (at / per) → ⊥
  not_there at has used = let there = block_there at has in run_unused (at / per) there.0 there.1 used

  -- ---- no sector of it is a fork's

  off_fork : (owned : Owned) → Contains (forks_of (volume_of a.content)) owned → (at : ℕ) → Contains run_sectors at → Contains (sectors_of per (blocks_owned (overflow_in_volume (volume_of a.content)) owned)) at → ⊥
  off_fork owned stands at has other = not_there at has (fork_is_used (volume_of a.content) owned (at / per) stands (in_block per (blocks_owned (overflow_in_volume (volume_of a.content)) owned) at whole.some other))

  overflow_is : overflow_in_volume (lists_of v a.content) ≡ overflow_in_volume (volume_of a.content)
  overflow_is = sym (ap (λ (l : VolumeState). overflow_in_volume l) settled.lists)

  pub off_extents : (at : ℕ) → Contains run_sectors at → Contains (sectors_of_tree v.extents.file) at → ⊥
  unfolding extents_of
  off_extents at has other = off_fork (record { id = extents_id; kind = data_kind; fork = (volume_of a.content).head.extents_fork }) (special_stands (volume_of a.content) _ (0, omega arith, refl)) at has
      (subst (λ (l : List ℕ). Contains l at) (λ i. sectors_of ((was.forks.extents_per ∙ ap per_block_of (sym head_is)) i) (blocks_of ((was.forks.extents ∙ ap (λ h. extents_of [] extents_id data_kind h.extents_fork) (sym head_is)) i))) other)

  pub off_catalog : (at : ℕ) → Contains run_sectors at → Contains (sectors_of_tree v.catalog.file) at → ⊥
  off_catalog at has other = off_fork (record { id = catalog_id; kind = data_kind; fork = (volume_of a.content).head.catalog_fork }) (special_stands (volume_of a.content) _ (1, omega arith, refl)) at has
      (subst (λ (l : List ℕ). Contains l at) (λ i. sectors_of (per_is i) (blocks_of ((was.forks.catalog ∙ (λ j. extents_of (overflow_is j) catalog_id data_kind (sym head_is j).catalog_fork)) i))) other)

  off_map : (at : ℕ) → Contains run_sectors at → Contains (map_sectors v) at → ⊥
  off_map at has other = off_fork (record { id = allocation_id; kind = data_kind; fork = (volume_of a.content).head.allocation_fork }) (special_stands (volume_of a.content) _ (2, omega arith, refl)) at has
      (subst (λ (l : List ℕ). Contains l at) (λ i. sectors_of ((was.forks.map_per ∙ ap per_block_of (sym head_is)) i) (blocks_of ((was.forks.map ∙ (λ j. extents_of (overflow_is j) allocation_id data_kind (sym head_is j).allocation_fork)) i))) other)

  pub off_attributes : (at : ℕ) → Contains run_sectors at → Contains (attribute_sectors v) at → ⊥
  off_attributes at has other =
      let it = if_has (has_attributes v.header) at (sectors_of_tree v.attributes.file) other in
      off_fork (record { id = attributes_id; kind = data_kind; fork = (volume_of a.content).head.attributes_fork }) (special_stands (volume_of a.content) _ (4, omega arith, refl)) at has
      (subst (λ (l : List ℕ). Contains l at) (λ i. sectors_of ((was.forks.attributes_per it.0 ∙ ap per_block_of (sym head_is)) i) (blocks_of ((was.forks.attributes it.0 ∙ (λ j. extents_of (overflow_is j) attributes_id data_kind (sym head_is j).attributes_fork)) i))) it.1)

  -- ---- nor the header's

  pub off_header : (at : ℕ) → Contains run_sectors at → at ≢ 2
  off_header at has two = not_there at has (subst (λ n. Contains (used_in (volume_of a.content)) (n / per)) (sym two)
      (reserved_is_used (volume_of a.content) (2 / per)
      (Contains-append_left (range_with_len 0 (parts_for 1536 lists.head.block_size)) (range_with_len ((lists.sectors * 512 - 1024) / lists.head.block_size) (lists.head.total_blocks - (lists.sectors * 512 - 1024) / lists.head.block_size)) (2 / per)
      (in_range 0 (parts_for 1536 lists.head.block_size) (2 / per) (omega arith) (omega (arith, in_front lists.head.block_size per whole.whole whole.some 1536 2 (omega arith)))))))

  -- so none is one of the volume's own
  pub off_own : (at : ℕ) → Contains run_sectors at → Contains (own_sectors v) at → ⊥
  off_own at has own = elim (Contains-append_cases (2 ∷ sectors_of_tree v.extents.file) (sectors_of_tree v.catalog.file ++ (attribute_sectors v ++ map_sectors v)) at own) [
    | inl front ↦ elim (first_or_later 2 at (sectors_of_tree v.extents.file) front) [
      | inl is ↦ absurd (off_header at has is)
      | inr extents ↦ off_extents at has extents
    ]
    | inr rest ↦ elim (Contains-append_cases (sectors_of_tree v.catalog.file) (attribute_sectors v ++ map_sectors v) at rest) [
      | inl catalog ↦ off_catalog at has catalog
      | inr more ↦ elim (Contains-append_cases (attribute_sectors v) (map_sectors v) at more) [
        | inl attributes ↦ off_attributes at has attributes
        | inr bits ↦ off_map at has bits
      ]
    ]
  ]

  -- ---- nor the journal's

  own_file : (name : List ℕ) (extent : Extent) → is_empty name ≡ false → IsOneExtent (records_of (volume_of a.content)) (overflow_in_volume (volume_of a.content)) name extent → (b : ℕ) → Contains (blocks_of (extent ∷ [])) b → Contains (used_in (volume_of a.content)) b
  own_file name extent named one b has =
      let found = found_some (is_placed_at 2 name) (records_of (volume_of a.content)) one.0 one.2 in
      let parts = and_parts (one.0.parent == 2) (bytes_eq one.0.name name) found.1 in
      let same : one.0.name ≡ name = (bytes_eq-Decides one.0.name name).0 parts.1 in
      let stands : Contains (entries_of (records_of (volume_of a.content))) one.0 = kept_stands (λ (p : Placed). not (is_empty p.name)) (records_of (volume_of a.content)) one.0 found.0 (subst (λ n. not (is_empty n) ≡ true) (sym same) (ap not named)) in
      fork_is_used (volume_of a.content) (data_fork_of one.1) b (file_fork_stands (volume_of a.content) one.0 one.1 stands one.3) (subst (λ (es : List Extent). Contains (blocks_of es) b) (sym one.4) has)

  info_used : (at : ℕ) → at ≡ info_sector_of (volume_of a.content).head → Contains (used_in (volume_of a.content)) (at / per)
  info_used at is =
      let same : at / per ≡ (volume_of a.content).head.journal_info_block = block_is per (volume_of a.content).head.journal_info_block at whole.some (omega (arith, is)) (omega (arith, is, whole.some)) in
      own_file journal_info_name (info_extent (volume_of a.content).head) refl settled.sound.attributes.info_block (at / per)
      (Contains-append_left (range_with_len (volume_of a.content).head.journal_info_block 1) [] (at / per) (in_range (volume_of a.content).head.journal_info_block 1 (at / per) (omega (arith, same)) (omega (arith, same))))

  pub off_journal : (at : ℕ) → Contains run_sectors at → IsJournalSector a.content at → ⊥
  off_journal at has (inl range) =
      let place = (volume_of a.content).journal in
      let head = (volume_of a.content).head in
      let first = from_first head.block_size per whole.whole whole.some (volume_of a.content).journal.offset at range.0 in
      let last = to_last head.block_size per whole.whole whole.some ((volume_of a.content).journal.offset + (volume_of a.content).journal.size) at range.1 in
      not_there at has (own_file journal_name (journal_extent head (volume_of a.content).journal) refl settled.sound.attributes.journal (at / per)
      (Contains-append_left (range_with_len (journal_extent head (volume_of a.content).journal).start (journal_extent head (volume_of a.content).journal).count) [] (at / per)
      (in_range (journal_extent head (volume_of a.content).journal).start (journal_extent head (volume_of a.content).journal).count (at / per) first (omega (arith, first, last)))))
  off_journal at has (inr is) = not_there at has (info_used at (is ∙ ap info_sector_of (header_settled v a.content settled ∙ sym head_is)))

  -- ---- nor kept aside

  pub off_aside : (at : ℕ) → Contains run_sectors at → IsKeptAside v a.content at → ⊥
  off_aside at has (inl last) =
      let there = block_there at has in
      let head = lists.head in
      let many : lists.sectors ≡ length a.content = ap (λ (l : VolumeState). l.sectors) settled.lists in
      let first : (lists.sectors * 512 - 1024) / lists.head.block_size ≤ at / per = from_first lists.head.block_size per whole.whole whole.some (lists.sectors * 512 - 1024) at (omega (arith, last, many)) in
      not_there at has (reserved_is_used (volume_of a.content) (at / per)
      (Contains-append_right (range_with_len 0 (parts_for 1536 lists.head.block_size)) (range_with_len ((lists.sectors * 512 - 1024) / lists.head.block_size) (lists.head.total_blocks - (lists.sectors * 512 - 1024) / lists.head.block_size)) (at / per)
      (in_range ((lists.sectors * 512 - 1024) / lists.head.block_size) (lists.head.total_blocks - (lists.sectors * 512 - 1024) / lists.head.block_size) (at / per) first (omega (arith, first, run_inside (at / per) there.0 there.1)))))
  off_aside at has (inr info) = not_there at has (info_used at (info ∙ ap info_sector_of (sym head_is)))

  -- ---- they lie in the volume's blocks

  pub run_low : (at : ℕ) → Contains run_sectors at → at < v.header.total_blocks * per_block_of v.header
  run_low at has =
      let there = block_there at has in
      let inside : at / per < (volume_of a.content).head.total_blocks = run_inside (at / per) there.0 there.1 in
      let below : at < (volume_of a.content).head.total_blocks * per = below_product at per (volume_of a.content).head.total_blocks whole.some inside in
      subst (λ h. at < h.total_blocks * per_block_of h) head_is below
