-- A growth that goes first, by a load that may be put, fits.
use Rattle.std.proofs.Common.{◌≡◌, ◌⊎◌, inl, inr, ◌<◌, ◌≤◌, ℕ, ◌+◌, ◌-◌, ◌*◌, ◌/◌, Bool, true, false, not, List, [], ◌∷◌, ◌++◌, length, get_or, map, refl, sym, ◌∙◌, ap, subst, arith, ⊎_elim, length-append}
use Rattle.std.specs.Prelude.{Contains, IsTrue, ◌==◌, ◌&&◌, if◌then◌else◌, nat_lt, slice_index}
use Rattle.std.specs.List.{count_by, range_with_len}
use Rattle.std.proofs.lemmas.Bool.{and_parts, cases_eq, true≢false, cases_lt, ne_eqb, le-leb, lt-ltb}
use Rattle.std.specs.Int.RustNames.{count_ones}
use Rattle.std.proofs.lemmas.List.{get_or_default}
use Rattle.std.proofs.lemmas.List.Elements.{Contains-append_left, Contains-append_right}
use Rattle.std.proofs.lemmas.List.FromFn.{length-range_with_len}
use Rattle.std.proofs.lemmas.List.Sums.{count_by-le-length}
use Rattle.flag_rows.specs.Bits.{count_set}
use Rattle.flag_rows.specs.Runs.{longest_of, runs_of}
use Rattle.flag_rows.proofs.SumLaws.{count_free, count_used, count_within}
use Rattle.hx_bytes.specs.declared.extents.Extent.{Extent}
use Rattle.hx_bytes.specs.declared.extents.ForkRecord.{ForkRecord}
use Rattle.alloc_bitmap.specs.Apart.{times}
use Rattle.alloc_bitmap.specs.Map.{free_of}
use Rattle.alloc_bitmap.proofs.ApartLaws.{times-append}
use Rattle.btree_file.specs.FrameLaws.{state_well_formed}
use Rattle.btree_file.specs.Standing.{Stands}
use Rattle.btree_file.specs.State.{sectors_of_tree}
use Rattle.btree_file.specs.declared.tree.TreeFile.{TreeFile}
use Rattle.sector_disk.specs.Space.{Space}
use Rattle.hfs_volume.specs.Blocks.{HasTreeSize, is_among, used_in}
use Rattle.hfs_volume.specs.Content.{TreeFacts, VolumeState, has_attributes, is_set, overflow_in_volume, volume_of}
use Rattle.hfs_volume.specs.Cost.{attributes_key, bitmap_load, catalog_key, cost_of, extents_key, growth, growth_blocks, load_of, no_tree, plan_of, tree_at, tree_load, takes_extent}
use Rattle.hfs_volume.specs.Forks.{attributes_id, catalog_id, data_kind, extents_id, extents_of, in_use, per_block_of}
use Rattle.hfs_volume.specs.Laws.{one_if}
use Rattle.hfs_volume.specs.Reclaim.{first_growth}
use Rattle.hfs_volume.specs.Weight.{cost_of_tree, extents_in_use, room_with}
use Rattle.hfs_volume.specs.declared.cost.Cost.TheVariants as cost
use Rattle.hfs_volume.specs.declared.cost.Needs.{Needs}
use Rattle.hfs_volume.specs.declared.cost.Room.{Room}
use Rattle.hfs_volume.specs.declared.cost.TreeCost.{TreeCost}
use Rattle.hfs_volume.proofs.BlockWants.{range_bounds}
use Rattle.hfs_volume.proofs.Counting.{count_cons, length_kept}
use Rattle.hfs_volume.proofs.Members.{at_front, behind, first_or_later}
use Rattle.hfs_volume.proofs.Untouched.{HasWholeBlocks, whole_blocks}
use Rattle.tree_weights.specs.Weights.{GrowsByEnough, HoldsThree, IsAfforded, LoadSaysEnough}
use Rattle.volume_base.specs.Lists.{facts_on}
use Rattle.volume_base.specs.Service.{IsInService}
use Rattle.volume_base.specs.Standing.{IsSettled, IsStanding, StandsOver, attribute_sectors, file_sectors, map_sectors}
use Rattle.volume_base.specs.declared.volume.Volume.{Volume}
use Rattle.volume_base.proofs.CatalogEdited.{there_is}
use Rattle.volume_base.proofs.Facts.{size_is}
use Rattle.volume_base.proofs.RoomKept.{few_sectors, node_size_low, cost_kept}
use Rattle.volume_base.proofs.SoundForks.{geometry}
use Rattle.volume_base.specs.Room.{room_on}
use Rattle.volume_base.specs.declared.room.FreeBlocks.TheVariants as blocks
use Rattle.volume_space.specs.SpreadGrowth.{SpreadFits, SpreadGrowthFits, growth_room_spread}
use Rattle.volume_space.specs.Spreading.{edits_load, is_met_extents, needs_extents}
use Rattle.hfs_volume.specs.declared.cost.Cost.{Cost}
use Rattle.volume_space.proofs.SpreadCounted.{nodes_more, one_low, one_met}
use Rattle.volume_space.specs.Growing.{FileFits, GrowthFits, IsShort, IsThere, WantsFirst, alone, blocks_filled, file_of, growth_load, growth_room, run_load}
use Rattle.volume_space.specs.declared.ahead.WhichTree.{WhichTree}
use Rattle.volume_space.specs.declared.ahead.WhichTree.TheVariants as which
use Rattle.volume_space.proofs.GrowthCounted.{blocks_same, few_listed, file_fits, power_of, run_counted_in, some_blocks, numbers_fit}
use Rattle.volume_base.proofs.Mapped.{kept_bit}

-- ---- blocks that are free and not held

-- its place among the trees
abbrev place_of : WhichTree → ℕ
place_of which.Extents = 0
place_of which.Catalog = 1
place_of which.Attributes = 2

-- what passes one test passes the other one not
free_apart : (f q : ℕ → Bool) (xs : List ℕ) → ((x : ℕ) → Contains xs x → f x ≡ true → q x ≡ false) → count_set (map f xs) + count_by q xs ≤ length xs
free_apart f q [] apart = omega (arith, count_within [], count_by-le-length q [])
free_apart f q (x ∷ xs) apart = by (f x) refl (free_apart f q xs (λ y has. apart y (behind x y xs has)))
  where
    one_low : (b : Bool) → one_if b ≤ 1
    one_low true = omega arith
    one_low false = omega arith

    by : (b : Bool) → f x ≡ b → count_set (map f xs) + count_by q xs ≤ length xs → count_set (f x ∷ map f xs) + count_by q (x ∷ xs) ≤ length (x ∷ xs)
    by true is rest = omega (arith, rest, ap (λ b. count_set (b ∷ map f xs)) is, count_free (map f xs), count_cons q x xs, ap one_if (apart x (at_front x xs) is))
    by false is rest = omega (arith, rest, ap (λ b. count_set (b ∷ map f xs)) is, count_used (map f xs), count_cons q x xs, one_low (q x))

not_true : (b : Bool) → not b ≡ true → b ≡ false
not_true true is = absurd (true≢false (sym is))
not_true false is = refl

-- ---- parts of a load

part_0 : (needs : Needs) (room : Room) → tree_load extents_key (tree_at room 0) (slice_index (plan_of needs room).edits 0) (slice_index (plan_of needs room).grow 0) + (bitmap_load needs room (growth_blocks (plan_of needs room) room) + 1) ≤ load_of needs room (plan_of needs room)
unfolding load_of
part_0 needs room = omega arith

part_1 : (needs : Needs) (room : Room) → tree_load catalog_key (tree_at room 1) (slice_index (plan_of needs room).edits 1) (slice_index (plan_of needs room).grow 1) + (bitmap_load needs room (growth_blocks (plan_of needs room) room) + 1) ≤ load_of needs room (plan_of needs room)
unfolding load_of
part_1 needs room = omega arith

part_2 : (needs : Needs) (room : Room) → tree_load attributes_key (tree_at room 2) (slice_index (plan_of needs room).edits 2) (slice_index (plan_of needs room).grow 2) + (bitmap_load needs room (growth_blocks (plan_of needs room) room) + 1) ≤ load_of needs room (plan_of needs room)
unfolding load_of
part_2 needs room = omega arith

parts_all : (needs : Needs) (room : Room) → 1 + tree_load extents_key (tree_at room 0) (slice_index (plan_of needs room).edits 0) (slice_index (plan_of needs room).grow 0) + tree_load catalog_key (tree_at room 1) (slice_index (plan_of needs room).edits 1) (slice_index (plan_of needs room).grow 1)
    + tree_load attributes_key (tree_at room 2) (slice_index (plan_of needs room).edits 2) (slice_index (plan_of needs room).grow 2) + bitmap_load needs room (growth_blocks (plan_of needs room) room) ≤ load_of needs room (plan_of needs room)
unfolding load_of
parts_all needs room = omega arith

-- which tree grows alone, and by how many nodes
first_is : (grow : List ℕ) (tree : WhichTree) (more : ℕ) → 0 < more → first_growth grow ≡ alone tree more → more ≡ slice_index grow (place_of tree)
first_is grow tree more some is = by (nat_lt 0 (slice_index grow 0)) (nat_lt 0 (slice_index grow 1)) tree is
  where
    by : (b c : Bool) (t : WhichTree) → (if b then slice_index grow 0 ∷ 0 ∷ 0 ∷ [] else if c then 0 ∷ slice_index grow 1 ∷ 0 ∷ [] else 0 ∷ 0 ∷ slice_index grow 2 ∷ []) ≡ alone t more → more ≡ slice_index grow (place_of t)
    by true c which.Extents same = sym (ap (λ l. slice_index l 0) same)
    by true c which.Catalog same = absurd (omega (arith, some, ap (λ l. slice_index l 1) same))
    by true c which.Attributes same = absurd (omega (arith, some, ap (λ l. slice_index l 2) same))
    by false true which.Extents same = absurd (omega (arith, some, ap (λ l. slice_index l 0) same))
    by false true which.Catalog same = sym (ap (λ l. slice_index l 1) same)
    by false true which.Attributes same = absurd (omega (arith, some, ap (λ l. slice_index l 2) same))
    by false false which.Extents same = absurd (omega (arith, some, ap (λ l. slice_index l 0) same))
    by false false which.Catalog same = absurd (omega (arith, some, ap (λ l. slice_index l 1) same))
    by false false which.Attributes same = sym (ap (λ l. slice_index l 2) same)

-- the extents overflow file gets none where another tree goes first
none_before : (grow : List ℕ) (tree : WhichTree) (more : ℕ) → 0 < more → first_growth grow ≡ alone tree more → (place_of tree ≡ 0 → ⊥) → slice_index grow 0 ≡ 0
none_before grow tree more some is other = elim (cases_lt 0 (slice_index grow 0)) [
  | inl ahead ↦ absurd (by tree other (ap (λ b. if b then slice_index grow 0 ∷ 0 ∷ 0 ∷ [] else if nat_lt 0 (slice_index grow 1) then 0 ∷ slice_index grow 1 ∷ 0 ∷ [] else 0 ∷ 0 ∷ slice_index grow 2 ∷ []) (sym (lt-ltb 0 (slice_index grow 0) ahead)) ∙ is))
  | inr none ↦ omega (arith, none)
]
  where
    by : (t : WhichTree) → (place_of t ≡ 0 → ⊥) → slice_index grow 0 ∷ 0 ∷ 0 ∷ [] ≡ alone t more → ⊥
    by which.Extents differs same = differs refl
    by which.Catalog differs same = omega (arith, some, ap (λ l. slice_index l 1) same)
    by which.Attributes differs same = omega (arith, some, ap (λ l. slice_index l 2) same)

takes_one : (tree : TreeCost) (more : ℕ) → 0 < more → 8 ≤ tree.extents → takes_extent tree more ≡ 1
takes_one tree more some long = λ i. if not (ne_eqb more 0 (λ e. omega (arith, e, some)) i) && le-leb 8 tree.extents long i then 1 else 0

-- the extents overflow file has the extents of its record alone
alone_extents : (volume : VolumeState) → extents_of [] extents_id data_kind volume.head.extents_fork ≡ extents_of (overflow_in_volume volume) extents_id data_kind volume.head.extents_fork
unfolding extents_of
alone_extents volume = refl

few_extents : (fork : ForkRecord) → length (extents_of [] extents_id data_kind fork) ≤ length fork.extents.extents
unfolding extents_of
few_extents fork = omega (
  arith,
  length-append (in_use fork.extents.extents) [],
  length_kept (λ (e : Extent). not (e.count == 0)) fork.extents.extents,
  count_by-le-length (λ (e : Extent). not (e.count == 0)) fork.extents.extents,
)

below_eight : (n : ℕ) → n ≤ 8 → (n ≡ 8 → ⊥) → n < 8
below_eight n low differs = ⊎_elim (λ full. absurd (differs full)) (λ other. omega (arith, low, other)) (cases_eq n 8)

-- ---- the volume

module _ (v : Volume) (a : Space) (was : IsStanding v a) (settled : IsSettled v a.content) where
  abbrev lists : VolumeState
  lists = volume_of a.content

  head_is : (volume_of a.content).head ≡ v.header
  head_is = ap (λ (l : VolumeState). l.head) settled.lists

  -- the header counts the free blocks, of which some may be held
  counted_free : count_set (free_of v.map) ≤ v.header.free_blocks
  counted_free =
      let used = used_in (volume_of a.content) in
      let apart = free_apart (λ k. not (get_or v.map.used k true) && not (get_or v.map.held k false)) (is_among (used_in (volume_of a.content))) (range_with_len 0 (length v.map.used)) (λ x has clear_there.
      let range = range_bounds 0 (length v.map.used) x has in
      let low : x < length v.map.used = omega (arith, range) in
      let clear : get_or v.map.used x true ≡ false = not_true (get_or v.map.used x true) (and_parts (not (get_or v.map.used x true)) (not (get_or v.map.held x false)) clear_there).0 in
      let bit : is_set (volume_of a.content) x ≡ false = ap (λ (l : VolumeState). get_or l.bits x false) settled.lists ∙ kept_bit v x low ∙ get_or_default v.map.used x false true low ∙ clear in
      sym (settled.sound.blocks.bits.bits x (omega (arith, low, settled.blocks, ap (λ h. h.total_blocks) head_is))) ∙ bit) in
      let total : count_by (is_among (used_in (volume_of a.content))) (range_with_len 0 (length v.map.used)) ≡ count_by (is_among (used_in (volume_of a.content))) (range_with_len 0 (volume_of a.content).head.total_blocks) =
      ap (λ n. count_by (is_among (used_in (volume_of a.content))) (range_with_len 0 n)) (settled.blocks ∙ ap (λ h. h.total_blocks) (sym head_is)) in
      omega (arith, apart, total, length-range_with_len 0 (length v.map.used), settled.blocks, settled.sound.blocks.bits.free, ap (λ h. h.total_blocks) head_is, ap (λ h. h.free_blocks) head_is)

  free_low : v.header.free_blocks ≤ v.header.total_blocks
  free_low = omega (arith, settled.sound.blocks.bits.free, ap (λ h. h.total_blocks) head_is, ap (λ h. h.free_blocks) head_is)

  whole : HasWholeBlocks (volume_of a.content).sectors v.header
  whole = subst (λ h. HasWholeBlocks (volume_of a.content).sectors h) head_is (whole_blocks (volume_of a.content).sectors (volume_of a.content).head settled.sound.blocks.header.accepted)

  one : count_ones (per_block_of v.header) ≡ 1
  one = subst (λ h. count_ones (per_block_of h) ≡ 1) head_is (power_of (volume_of a.content).sectors (volume_of a.content).head settled.sound.blocks.header.accepted (whole_blocks (volume_of a.content).sectors (volume_of a.content).head settled.sound.blocks.header.accepted).whole)

  per_low : per_block_of v.header < 129
  per_low = omega (arith, (geometry (volume_of a.content).sectors (volume_of a.content).head settled.sound.blocks.header.accepted).most, ap (λ h. h.block_size) head_is, whole.whole)

  long_low : length a.content ≤ 2147483648
  long_low = omega (arith, few_sectors (volume_of a.content).sectors (volume_of a.content).head settled.sound.blocks.header.accepted, ap (λ (l : VolumeState). l.sectors) settled.lists)

  inside : v.header.total_blocks * per_block_of v.header ≤ 2147483648
  inside = omega (arith, was.fit, long_low)

  -- a tree's file with the header's sector beside it is no larger than the volume
  few_of : (xs : List ℕ) → ((s : ℕ) → times s xs ≤ times s (file_sectors v)) → ((s : ℕ) → Contains xs s → Contains (file_sectors v) s) → length xs + 1 ≤ 2147483648
  few_of xs part stand = omega (
    arith,
    long_low,
    few_listed (length a.content) (2 ∷ xs) (λ s. omega (arith, part s, was.apart s, times-append s (2 ∷ []) (file_sectors v), times-append s (2 ∷ []) xs)) (λ s has. elim (first_or_later 2 s xs has) [
      | inl is ↦ omega (arith, is, was.large)
      | inr later ↦ omega (arith, was.inside s (stand s later), was.fit)
    ]),
  )

  -- ---- one tree

  module _ (needs : Needs) (room : Room) (load : ℕ) (grow : List ℕ) (afforded : IsAfforded needs room load grow) (block_is : room.block ≡ v.header.block_size) (total_is : room.total ≡ v.header.total_blocks) (long_is : room.longest ≡ longest_of (runs_of (free_of v.map))) (free_is : room.free ≡ count_set (free_of v.map)) (law : GrowsByEnough) (within : load ≤ a.spare) where
    fitted : (file : TreeFile) (fork : ForkRecord) (key extents edits more : ℕ) (tree : TreeCost) → file.per_block ≡ per_block_of v.header → Stands file a.content → HasTreeSize v.header fork (facts_on file) → length (sectors_of_tree file) + 1 ≤ 2147483648 → 3 * (key + 8) ≤ file.shape.node_size - 16 → length file.fork < 8
        → tree ≡ cost_of_tree (facts_on file) extents → more ≡ growth room.block key tree edits → 0 < more → tree_load key tree edits more + (bitmap_load needs room (growth_blocks (plan_of needs room) room) + 1) ≤ load → more * tree.node_size / room.block ≤ growth_blocks (plan_of needs room) room → FileFits more file fork v a × (growth_load v file more ≤ load)
    fitted file fork key extents edits more tree per_is stands size few three short tree_is more_is some part among =
        let is : more ≡ growth v.header.block_size key (cost_of_tree (facts_on file) extents) edits = more_is ∙ (λ i. growth (block_is i) key (tree_is i) edits) in
        let node = (state_well_formed [] file a).node_size in
        let same = blocks_same file fork v a per_is whole.whole one per_low whole.some node stands size few inside free_low extents key edits more law three is some in
        let some_here = some_blocks file fork v a per_is whole.whole one per_low whole.some node stands size few inside free_low extents key edits more law three is some in
        let among_same : more * tree.node_size / room.block ≡ more * file.shape.node_size / v.header.block_size = λ i. more * (tree_is i).node_size / block_is i in
        let among_here : blocks_filled file more ≤ growth_blocks (plan_of needs room) room = omega (arith, among, among_same, same) in
        let long : blocks_filled file more ≤ longest_of (runs_of (free_of v.map)) = ⊎_elim (λ none. absurd (omega (arith, none, some_here, among_here))) (λ wanted. omega (arith, wanted, among_here, long_is)) afforded.in_one_run in
        let enough : blocks_filled file more ≤ v.header.free_blocks = omega (arith, afforded.blocks, among_here, free_is, counted_free) in
        let map_low = run_counted_in needs room v (growth_blocks (plan_of needs room) room) (blocks_filled file more) (total_is ∙ sym settled.blocks) among_here some_here in
        let counted : tree_load key (cost_of_tree (facts_on file) extents) edits more + (run_load v (blocks_filled file more) + 1) ≤ load = omega (arith, part, ap (λ t. tree_load key t edits more) tree_is, map_low) in (
          file_fits file fork v a per_is whole.whole one per_low whole.some node stands size few inside free_low extents key edits more law three is some load long enough counted within short,
          (file_fits file fork v (record a { spare = load }) per_is whole.whole one per_low whole.some node stands size few inside free_low extents key edits more law three is some load long enough counted (omega arith) short).room,
        )

    -- a fork of any number of extents, behind whose growth the load leaves so many sectors for an edit of the extents overflow file
    spread_fitted : (file : TreeFile) (fork : ForkRecord) (key extents edits more : ℕ) (tree : TreeCost) → file.per_block ≡ per_block_of v.header → Stands file a.content → HasTreeSize v.header fork (facts_on file) → length (sectors_of_tree file) + 1 ≤ 2147483648 → 3 * (key + 8) ≤ file.shape.node_size - 16
        → tree ≡ cost_of_tree (facts_on file) extents → more ≡ growth room.block key tree edits → 0 < more → more * tree.node_size / room.block ≤ growth_blocks (plan_of needs room) room
        → (edit : ℕ) → 1 + edit + tree_load key tree edits more + bitmap_load needs room (growth_blocks (plan_of needs room) room) ≤ load → ((spare : ℕ) → 1 + edit ≤ spare → is_met_extents (cost_of (needs_extents 1) (room_on blocks.Takable v)) spare ≡ true) → SpreadFits more file fork v a × (growth_load v file more + edit ≤ load)
    spread_fitted file fork key extents edits more tree per_is stands size few three tree_is more_is some among edit part met =
        let is : more ≡ growth v.header.block_size key (cost_of_tree (facts_on file) extents) edits = more_is ∙ (λ i. growth (block_is i) key (tree_is i) edits) in
        let node = (state_well_formed [] file a).node_size in
        let same = blocks_same file fork v a per_is whole.whole one per_low whole.some node stands size few inside free_low extents key edits more law three is some in
        let some_here = some_blocks file fork v a per_is whole.whole one per_low whole.some node stands size few inside free_low extents key edits more law three is some in
        let among_same : more * tree.node_size / room.block ≡ more * file.shape.node_size / v.header.block_size = λ i. more * (tree_is i).node_size / block_is i in
        let among_here : blocks_filled file more ≤ growth_blocks (plan_of needs room) room = omega (arith, among, among_same, same) in
        let long : blocks_filled file more ≤ longest_of (runs_of (free_of v.map)) = ⊎_elim (λ none. absurd (omega (arith, none, some_here, among_here))) (λ wanted. omega (arith, wanted, among_here, long_is)) afforded.in_one_run in
        let enough : blocks_filled file more ≤ v.header.free_blocks = omega (arith, afforded.blocks, among_here, free_is, counted_free) in
        let map_low = run_counted_in needs room v (growth_blocks (plan_of needs room) room) (blocks_filled file more) (total_is ∙ sym settled.blocks) among_here some_here in
        let load_same = ap (λ t. tree_load key t edits more) tree_is in
        let numbers = numbers_fit file fork v a per_is whole.whole one per_low whole.some node stands size few inside free_low extents key edits more law three is some load long enough (omega (arith, part, load_same, map_low)) within in
        let nodes = nodes_more file a extents v.header.block_size key edits more law three is some numbers.least in (
          record {
            some = some_here;
            run = long;
            counts = numbers;
            room = omega (arith, nodes, part, load_same, map_low, within);
            edit = met (a.spare - growth_load v file more) (omega (arith, nodes, part, load_same, map_low, within));
          },
          omega (arith, nodes, part, load_same, map_low),
        )

  -- ---- the three trees

  module _ (over : IsInService v a) (capacity : ℕ) (needs : Needs) (load : ℕ) (grow : List ℕ) (says : LoadSaysEnough) (law : GrowsByEnough) (costs : cost_of needs (room_with capacity (free_of v.map) (volume_of a.content)) ≡ cost.Load load grow) (within : load ≤ a.spare) where
    room : Room
    room = room_with capacity (free_of v.map) (volume_of a.content)

    afforded : IsAfforded needs (room_with capacity (free_of v.map) (volume_of a.content)) load grow
    afforded = says needs (room_with capacity (free_of v.map) (volume_of a.content)) load grow costs

    block_here : (room_with capacity (free_of v.map) (volume_of a.content)).block ≡ v.header.block_size
    unfolding room_with
    block_here = ap (λ h. h.block_size) head_is

    total_here : (room_with capacity (free_of v.map) (volume_of a.content)).total ≡ v.header.total_blocks
    unfolding room_with
    total_here = ap (λ h. h.total_blocks) head_is

    long_here : (room_with capacity (free_of v.map) (volume_of a.content)).longest ≡ longest_of (runs_of (free_of v.map))
    unfolding room_with
    long_here = refl

    free_here : (room_with capacity (free_of v.map) (volume_of a.content)).free ≡ count_set (free_of v.map)
    unfolding room_with
    free_here = refl

    tree_0 : tree_at (room_with capacity (free_of v.map) (volume_of a.content)) 0 ≡ cost_of_tree (facts_on v.extents.file) (extents_in_use (volume_of a.content) extents_id (volume_of a.content).head.extents_fork)
    unfolding room_with
    tree_0 = ap (λ (l : VolumeState). cost_of_tree l.extents_tree (extents_in_use (volume_of a.content) extents_id (volume_of a.content).head.extents_fork)) settled.lists

    tree_1 : tree_at (room_with capacity (free_of v.map) (volume_of a.content)) 1 ≡ cost_of_tree (facts_on v.catalog.file) (extents_in_use (volume_of a.content) catalog_id (volume_of a.content).head.catalog_fork)
    unfolding room_with
    tree_1 = ap (λ (l : VolumeState). cost_of_tree l.catalog_tree (extents_in_use (volume_of a.content) catalog_id (volume_of a.content).head.catalog_fork)) settled.lists

    tree_2 : IsTrue (has_attributes v.header) → tree_at (room_with capacity (free_of v.map) (volume_of a.content)) 2 ≡ cost_of_tree (facts_on v.attributes.file) (extents_in_use (volume_of a.content) attributes_id (volume_of a.content).head.attributes_fork)
    unfolding room_with
    tree_2 there =
        ap (λ b. if b then cost_of_tree (volume_of a.content).attributes_tree (extents_in_use (volume_of a.content) attributes_id (volume_of a.content).head.attributes_fork) else no_tree) (ap (λ h. has_attributes h) head_is ∙ there)
        ∙ ap (λ (t : TreeFacts). cost_of_tree t (extents_in_use (volume_of a.content) attributes_id (volume_of a.content).head.attributes_fork)) (settled.attributes there)

    size_0 : HasTreeSize v.header v.header.extents_fork (facts_on v.extents.file)
    size_0 = subst (λ (l : VolumeState). HasTreeSize l.head l.head.extents_fork l.extents_tree) settled.lists settled.sound.blocks.files.extents

    size_1 : HasTreeSize v.header v.header.catalog_fork (facts_on v.catalog.file)
    size_1 = subst (λ (l : VolumeState). HasTreeSize l.head l.head.catalog_fork l.catalog_tree) settled.lists settled.sound.blocks.files.catalog

    size_2 : IsTrue (has_attributes v.header) → HasTreeSize v.header v.header.attributes_fork (facts_on v.attributes.file)
    size_2 there = subst (λ h. HasTreeSize h h.attributes_fork (facts_on v.attributes.file)) head_is
        (subst (λ (t : TreeFacts). HasTreeSize (volume_of a.content).head (volume_of a.content).head.attributes_fork t) (settled.attributes there) (settled.sound.blocks.files.attributes (subst (λ h. IsTrue (has_attributes h)) (sym head_is) there)))

    few_0 : length (sectors_of_tree v.extents.file) + 1 ≤ 2147483648
    few_0 = few_of (sectors_of_tree v.extents.file) (λ s. omega (arith, times-append s (sectors_of_tree v.extents.file) (sectors_of_tree v.catalog.file ++ (attribute_sectors v ++ map_sectors v))))
        (λ s has. Contains-append_left (sectors_of_tree v.extents.file) (sectors_of_tree v.catalog.file ++ (attribute_sectors v ++ map_sectors v)) s has)

    few_1 : length (sectors_of_tree v.catalog.file) + 1 ≤ 2147483648
    few_1 = few_of (sectors_of_tree v.catalog.file) (λ s. omega (arith, times-append s (sectors_of_tree v.extents.file) (sectors_of_tree v.catalog.file ++ (attribute_sectors v ++ map_sectors v)), times-append s (sectors_of_tree v.catalog.file) (attribute_sectors v ++ map_sectors v)))
        (λ s has. Contains-append_right (sectors_of_tree v.extents.file) (sectors_of_tree v.catalog.file ++ (attribute_sectors v ++ map_sectors v)) s (Contains-append_left (sectors_of_tree v.catalog.file) (attribute_sectors v ++ map_sectors v) s has))

    few_2 : IsTrue (has_attributes v.header) → length (sectors_of_tree v.attributes.file) + 1 ≤ 2147483648
    few_2 there = subst (λ (xs : List ℕ). length xs + 1 ≤ 2147483648) (there_is (has_attributes v.header) (sectors_of_tree v.attributes.file) there)
        (few_of (attribute_sectors v) (λ s. omega (
          arith,
          times-append s (sectors_of_tree v.extents.file) (sectors_of_tree v.catalog.file ++ (attribute_sectors v ++ map_sectors v)),
          times-append s (sectors_of_tree v.catalog.file) (attribute_sectors v ++ map_sectors v),
          times-append s (attribute_sectors v) (map_sectors v),
        ))
        (λ s has. Contains-append_right (sectors_of_tree v.extents.file) (sectors_of_tree v.catalog.file ++ (attribute_sectors v ++ map_sectors v)) s
        (Contains-append_right (sectors_of_tree v.catalog.file) (attribute_sectors v ++ map_sectors v) s (Contains-append_left (attribute_sectors v) (map_sectors v) s has))))

    part_in : (place : ℕ) (n : ℕ) → n ≤ load_of needs (room_with capacity (free_of v.map) (volume_of a.content)) (plan_of needs (room_with capacity (free_of v.map) (volume_of a.content))) → n ≤ load
    part_in place n low = omega (arith, low, afforded.sectors)

    extents_fit : 0 < slice_index (plan_of needs (room_with capacity (free_of v.map) (volume_of a.content))).grow 0 → FileFits (slice_index (plan_of needs (room_with capacity (free_of v.map) (volume_of a.content))).grow 0) v.extents.file v.header.extents_fork v a × (growth_load v v.extents.file (slice_index (plan_of needs (room_with capacity (free_of v.map) (volume_of a.content))).grow 0) ≤ load)
    extents_fit some =
        let low = node_size_low v.extents.file.shape.node_size (state_well_formed [] v.extents.file a).node_size in
        let fork_is : v.extents.file.fork ≡ extents_of (overflow_in_volume (volume_of a.content)) extents_id data_kind (volume_of a.content).head.extents_fork = was.forks.extents ∙ ap (λ h. extents_of [] extents_id data_kind h.extents_fork) (sym head_is) ∙ alone_extents (volume_of a.content) in
        let not_full = ⊎_elim (λ none. absurd (omega (arith, none, some))) (λ differs. differs) afforded.extents_fit in
        let short : length v.extents.file.fork < 8 = below_eight (length v.extents.file.fork)
        (omega (arith, few_extents v.header.extents_fork, ap (λ (es : List Extent). length es) was.forks.extents, over.fits.extents_fork.extents.eight))
        (λ full. not_full (ap (λ (t : TreeCost). t.extents) tree_0 ∙ sym (ap (λ (es : List Extent). length es) fork_is) ∙ full)) in
        fitted needs (room_with capacity (free_of v.map) (volume_of a.content)) load grow afforded block_here total_here long_here free_here law within v.extents.file v.header.extents_fork extents_key _ (slice_index (plan_of needs (room_with capacity (free_of v.map) (volume_of a.content))).edits 0) _ (tree_at (room_with capacity (free_of v.map) (volume_of a.content)) 0)
        was.forks.extents_per was.trees.extents.stands size_0 few_0 (omega (arith, low)) short tree_0 refl some (part_in 0 _ (part_0 needs (room_with capacity (free_of v.map) (volume_of a.content)))) (omega arith)

    catalog_fits : length v.catalog.file.fork < 8 → 0 < slice_index (plan_of needs (room_with capacity (free_of v.map) (volume_of a.content))).grow 1 → FileFits (slice_index (plan_of needs (room_with capacity (free_of v.map) (volume_of a.content))).grow 1) v.catalog.file v.header.catalog_fork v a × (growth_load v v.catalog.file (slice_index (plan_of needs (room_with capacity (free_of v.map) (volume_of a.content))).grow 1) ≤ load)
    catalog_fits short some =
        let low : 4096 ≤ v.catalog.file.shape.node_size = omega (arith, was.trees.catalog.file.has_form.least, size_is v.catalog.file a.content was.trees.catalog.stands) in
        fitted needs (room_with capacity (free_of v.map) (volume_of a.content)) load grow afforded block_here total_here long_here free_here law within v.catalog.file v.header.catalog_fork catalog_key _ (slice_index needs.edits 1) _ (tree_at (room_with capacity (free_of v.map) (volume_of a.content)) 1)
        was.forks.catalog_per was.trees.catalog.stands size_1 few_1 (omega (arith, low)) short tree_1 refl some (part_in 1 _ (part_1 needs (room_with capacity (free_of v.map) (volume_of a.content)))) (omega arith)

    attributes_fit : IsTrue (has_attributes v.header) → length v.attributes.file.fork < 8 → 0 < slice_index (plan_of needs (room_with capacity (free_of v.map) (volume_of a.content))).grow 2 → FileFits (slice_index (plan_of needs (room_with capacity (free_of v.map) (volume_of a.content))).grow 2) v.attributes.file v.header.attributes_fork v a × (growth_load v v.attributes.file (slice_index (plan_of needs (room_with capacity (free_of v.map) (volume_of a.content))).grow 2) ≤ load)
    attributes_fit there short some =
        let low : 4096 ≤ v.attributes.file.shape.node_size = omega (arith, (was.trees.attributes there).file.has_form.least, size_is v.attributes.file a.content (was.trees.attributes there).stands) in
        fitted needs (room_with capacity (free_of v.map) (volume_of a.content)) load grow afforded block_here total_here long_here free_here law within v.attributes.file v.header.attributes_fork attributes_key _ (slice_index needs.edits 2) _ (tree_at (room_with capacity (free_of v.map) (volume_of a.content)) 2)
        (was.forks.attributes_per there) (was.trees.attributes there).stands (size_2 there) (few_2 there) (omega (arith, low)) short (tree_2 there) refl some (part_in 2 _ (part_2 needs (room_with capacity (free_of v.map) (volume_of a.content)))) (omega arith)

    -- ---- forks of eight extents or more

    load_parts : 1 + tree_load extents_key (tree_at (room_with capacity (free_of v.map) (volume_of a.content)) 0) (slice_index (plan_of needs (room_with capacity (free_of v.map) (volume_of a.content))).edits 0) (slice_index (plan_of needs (room_with capacity (free_of v.map) (volume_of a.content))).grow 0) + tree_load catalog_key (tree_at (room_with capacity (free_of v.map) (volume_of a.content)) 1) (slice_index (plan_of needs (room_with capacity (free_of v.map) (volume_of a.content))).edits 1) (slice_index (plan_of needs (room_with capacity (free_of v.map) (volume_of a.content))).grow 1)
        + tree_load attributes_key (tree_at (room_with capacity (free_of v.map) (volume_of a.content)) 2) (slice_index (plan_of needs (room_with capacity (free_of v.map) (volume_of a.content))).edits 2) (slice_index (plan_of needs (room_with capacity (free_of v.map) (volume_of a.content))).grow 2) + bitmap_load needs (room_with capacity (free_of v.map) (volume_of a.content)) (growth_blocks (plan_of needs (room_with capacity (free_of v.map) (volume_of a.content))) (room_with capacity (free_of v.map) (volume_of a.content))) ≤ load
    load_parts = omega (arith, parts_all needs (room_with capacity (free_of v.map) (volume_of a.content)), afforded.sectors)

    module _ (same : capacity ≡ v.capacity) (none : slice_index (plan_of needs (room_with capacity (free_of v.map) (volume_of a.content))).grow 0 ≡ 0) (edited : 1 ≤ slice_index (plan_of needs (room_with capacity (free_of v.map) (volume_of a.content))).edits 0) where
      three_0 : HoldsThree extents_key (tree_at (room_with capacity (free_of v.map) (volume_of a.content)) 0)
      three_0 = subst (λ (t : TreeCost). HoldsThree extents_key t) (sym tree_0) (let low = node_size_low v.extents.file.shape.node_size (state_well_formed [] v.extents.file a).node_size in omega (arith, low))

      one_less : tree_load extents_key (tree_at (room_with capacity (free_of v.map) (volume_of a.content)) 0) 1 0 ≤ tree_load extents_key (tree_at (room_with capacity (free_of v.map) (volume_of a.content)) 0) (slice_index (plan_of needs (room_with capacity (free_of v.map) (volume_of a.content))).edits 0) (slice_index (plan_of needs (room_with capacity (free_of v.map) (volume_of a.content))).grow 0)
      one_less = one_low needs (room_with capacity (free_of v.map) (volume_of a.content)) load grow afforded law three_0 edited none

      met_here : (spare : ℕ) → 1 + tree_load extents_key (tree_at (room_with capacity (free_of v.map) (volume_of a.content)) 0) 1 0 ≤ spare → is_met_extents (cost_of (needs_extents 1) (room_on blocks.Takable v)) spare ≡ true
      met_here spare fits =
          let kept = cost_kept v a was settled law (omega (arith, per_low, whole.whole)) blocks.Takable (needs_extents 1) (λ wanted. absurd (omega (arith, wanted))) in
          ap (λ (c : Cost). is_met_extents c spare) (kept ∙ ap (λ n. cost_of (needs_extents 1) (room_with n (free_of v.map) (volume_of a.content))) (sym same))
          ∙ one_met needs (room_with capacity (free_of v.map) (volume_of a.content)) load grow afforded law three_0 edited none spare fits

      catalog_spreads : 0 < slice_index (plan_of needs (room_with capacity (free_of v.map) (volume_of a.content))).grow 1 → SpreadFits (slice_index (plan_of needs (room_with capacity (free_of v.map) (volume_of a.content))).grow 1) v.catalog.file v.header.catalog_fork v a × (growth_load v v.catalog.file (slice_index (plan_of needs (room_with capacity (free_of v.map) (volume_of a.content))).grow 1) + tree_load extents_key (tree_at (room_with capacity (free_of v.map) (volume_of a.content)) 0) 1 0 ≤ load)
      catalog_spreads some =
          let low : 4096 ≤ v.catalog.file.shape.node_size = omega (arith, was.trees.catalog.file.has_form.least, size_is v.catalog.file a.content was.trees.catalog.stands) in
          spread_fitted needs (room_with capacity (free_of v.map) (volume_of a.content)) load grow afforded block_here total_here long_here free_here law within v.catalog.file v.header.catalog_fork catalog_key _ (slice_index needs.edits 1) _ (tree_at (room_with capacity (free_of v.map) (volume_of a.content)) 1)
          was.forks.catalog_per was.trees.catalog.stands size_1 few_1 (omega (arith, low)) tree_1 refl some (omega arith) (tree_load extents_key (tree_at (room_with capacity (free_of v.map) (volume_of a.content)) 0) 1 0) (omega (arith, load_parts, one_less)) met_here

      attributes_spread : IsTrue (has_attributes v.header) → 0 < slice_index (plan_of needs (room_with capacity (free_of v.map) (volume_of a.content))).grow 2 → SpreadFits (slice_index (plan_of needs (room_with capacity (free_of v.map) (volume_of a.content))).grow 2) v.attributes.file v.header.attributes_fork v a × (growth_load v v.attributes.file (slice_index (plan_of needs (room_with capacity (free_of v.map) (volume_of a.content))).grow 2) + tree_load extents_key (tree_at (room_with capacity (free_of v.map) (volume_of a.content)) 0) 1 0 ≤ load)
      attributes_spread there some =
          let low : 4096 ≤ v.attributes.file.shape.node_size = omega (arith, (was.trees.attributes there).file.has_form.least, size_is v.attributes.file a.content (was.trees.attributes there).stands) in
          spread_fitted needs (room_with capacity (free_of v.map) (volume_of a.content)) load grow afforded block_here total_here long_here free_here law within v.attributes.file v.header.attributes_fork attributes_key _ (slice_index needs.edits 2) _ (tree_at (room_with capacity (free_of v.map) (volume_of a.content)) 2)
          (was.forks.attributes_per there) (was.trees.attributes there).stands (size_2 there) (few_2 there) (omega (arith, low)) (tree_2 there) refl some (omega arith) (tree_load extents_key (tree_at (room_with capacity (free_of v.map) (volume_of a.content)) 0) 1 0) (omega (arith, load_parts, one_less)) met_here

    -- the one that goes first
    fits_first : (tree : WhichTree) (more : ℕ) → 0 < more → first_growth grow ≡ alone tree more → IsThere tree v.header → IsShort tree v → GrowthFits tree more v a × (growth_room tree more v ≤ load)
    fits_first which.Extents more some first there short =
        let is = first_is grow which.Extents more some first ∙ ap (λ l. slice_index l 0) afforded.grows in
        let fits = subst (λ m. FileFits m v.extents.file v.header.extents_fork v a × (growth_load v v.extents.file m ≤ load)) (sym is) (extents_fit (subst (λ m. 0 < m) is some)) in
        ((there, fits.0), fits.1)
    fits_first which.Catalog more some first there short =
        let is = first_is grow which.Catalog more some first ∙ ap (λ l. slice_index l 1) afforded.grows in
        let fits = subst (λ m. FileFits m v.catalog.file v.header.catalog_fork v a × (growth_load v v.catalog.file m ≤ load)) (sym is) (catalog_fits short (subst (λ m. 0 < m) is some)) in
        ((there, fits.0), fits.1)
    fits_first which.Attributes more some first there short =
        let is = first_is grow which.Attributes more some first ∙ ap (λ l. slice_index l 2) afforded.grows in
        let fits = subst (λ m. FileFits m v.attributes.file v.header.attributes_fork v a × (growth_load v v.attributes.file m ≤ load)) (sym is) (attributes_fit there short (subst (λ m. 0 < m) is some)) in
        ((there, fits.0), fits.1)

    long_1 : 8 ≤ length v.catalog.file.fork → 8 ≤ (tree_at (room_with capacity (free_of v.map) (volume_of a.content)) 1).extents
    long_1 long = omega (
      arith,
      long,
      ap (λ (t : TreeCost). t.extents) tree_1,
      ap (λ (l : VolumeState). length (extents_of (overflow_in_volume l) catalog_id data_kind l.head.catalog_fork)) settled.lists,
      ap (λ (es : List Extent). length es) was.forks.catalog,
    )

    long_2 : IsTrue (has_attributes v.header) → 8 ≤ length v.attributes.file.fork → 8 ≤ (tree_at (room_with capacity (free_of v.map) (volume_of a.content)) 2).extents
    long_2 there long = omega (
      arith,
      long,
      ap (λ (t : TreeCost). t.extents) (tree_2 there),
      ap (λ (l : VolumeState). length (extents_of (overflow_in_volume l) attributes_id data_kind l.head.attributes_fork)) settled.lists,
      ap (λ (es : List Extent). length es) (was.forks.attributes there),
    )

    -- what the load counts for an edit of the extents overflow file is what such an edit puts at most
    one_edit : tree_load extents_key (tree_at (room_with capacity (free_of v.map) (volume_of a.content)) 0) 1 0 ≡ edits_load v.extents.file.shape 1
    one_edit = ap (λ (t : TreeCost). tree_load extents_key t 1 0) tree_0

    -- the one that goes first, of any number of extents
    spreads_first : (tree : WhichTree) (more : ℕ) → 0 < more → first_growth grow ≡ alone tree more → IsThere tree v.header → capacity ≡ v.capacity
        → (GrowthFits tree more v a × (growth_room tree more v ≤ load)) ⊎ (SpreadGrowthFits tree more v a × (growth_room_spread tree more v ≤ load))
    spreads_first which.Extents more some first there same = inl (fits_first which.Extents more some first there tt)
    spreads_first which.Catalog more some first there same = elim (cases_lt (length v.catalog.file.fork) 8) [
      | inl short ↦ inl (fits_first which.Catalog more some first there short)
      | inr long ↦
          let is = first_is grow which.Catalog more some first ∙ ap (λ l. slice_index l 1) afforded.grows in
          let none = sym (ap (λ l. slice_index l 0) afforded.grows) ∙ none_before grow which.Catalog more some first (λ same_tree. absurd (omega (arith, same_tree))) in
          let grows = subst (λ m. 0 < m) is some in
          let edited : 1 ≤ slice_index (plan_of needs (room_with capacity (free_of v.map) (volume_of a.content))).edits 0 = omega (arith, takes_one (tree_at (room_with capacity (free_of v.map) (volume_of a.content)) 1) (slice_index (plan_of needs (room_with capacity (free_of v.map) (volume_of a.content))).grow 1) grows (long_1 long)) in
          let fits = subst (λ m. SpreadFits m v.catalog.file v.header.catalog_fork v a × (growth_load v v.catalog.file m + tree_load extents_key (tree_at (room_with capacity (free_of v.map) (volume_of a.content)) 0) 1 0 ≤ load)) (sym is) (catalog_spreads same none edited grows) in
          inr (fits.0, subst (λ n. growth_load v v.catalog.file more + n ≤ load) one_edit fits.1)
    ]
    spreads_first which.Attributes more some first there same = elim (cases_lt (length v.attributes.file.fork) 8) [
      | inl short ↦ inl (fits_first which.Attributes more some first there short)
      | inr long ↦
          let is = first_is grow which.Attributes more some first ∙ ap (λ l. slice_index l 2) afforded.grows in
          let none = sym (ap (λ l. slice_index l 0) afforded.grows) ∙ none_before grow which.Attributes more some first (λ same_tree. absurd (omega (arith, same_tree))) in
          let grows = subst (λ m. 0 < m) is some in
          let edited : 1 ≤ slice_index (plan_of needs (room_with capacity (free_of v.map) (volume_of a.content))).edits 0 = omega (arith, takes_one (tree_at (room_with capacity (free_of v.map) (volume_of a.content)) 2) (slice_index (plan_of needs (room_with capacity (free_of v.map) (volume_of a.content))).grow 2) grows (long_2 there long)) in
          let fits = subst (λ m. SpreadFits m v.attributes.file v.header.attributes_fork v a × (growth_load v v.attributes.file m + tree_load extents_key (tree_at (room_with capacity (free_of v.map) (volume_of a.content)) 0) 1 0 ≤ load)) (sym is) (attributes_spread same none edited there grows) in
          inr ((there, fits.0), subst (λ n. growth_load v v.attributes.file more + n ≤ load) one_edit fits.1)
    ]

module _ (v : Volume) (a : Space) (over : StandsOver v a) (tells : IsTrue a.tells) (settled : IsSettled v a.content) (says : LoadSaysEnough) (law : GrowsByEnough) (tree : WhichTree) (more : ℕ) (wants : WantsFirst tree more v a) where
  short_first : IsShort tree v → GrowthFits tree more v a × (growth_room tree more v ≤ wants.load)
  short_first short = fits_first v a (over.stands tells) settled over.service wants.capacity wants.needs wants.load wants.grow says law wants.costs wants.within tree more wants.some wants.first wants.there short

  own_first : wants.capacity ≡ v.capacity → (GrowthFits tree more v a × (growth_room tree more v ≤ wants.load)) ⊎ (SpreadGrowthFits tree more v a × (growth_room_spread tree more v ≤ wants.load))
  own_first own = spreads_first v a (over.stands tells) settled over.service wants.capacity wants.needs wants.load wants.grow says law wants.costs wants.within tree more wants.some wants.first wants.there own

  -- what costs a load that may be put has its first growth made
  pub wanted_fits : GrowthFits tree more v a ⊎ SpreadGrowthFits tree more v a
  wanted_fits = ⊎_elim (λ short. inl (short_first short).0) (λ own. ⊎_elim (λ fits. inl fits.0) (λ fits. inr fits.0) (own_first own)) wants.short

  -- and what it puts is a part of the load
  pub wanted_loads : (length (file_of tree v).fork < 8 × (growth_room tree more v ≤ wants.load)) ⊎ (growth_room_spread tree more v ≤ wants.load)
  wanted_loads = ⊎_elim
      (λ short. let fits = short_first short in inl (fits.0.1.counts.extents, fits.1))
      (λ own. ⊎_elim (λ fits. inl (fits.0.1.counts.extents, fits.1)) (λ fits. inr fits.1) (own_first own))
      wants.short
