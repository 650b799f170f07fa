-- Room for a change of values that its cost tells.
use Rattle.std.proofs.Common.{◌≡◌, ◌<◌, ◌≤◌, ℕ, ◌+◌, ◌-◌, ◌*◌, ◌/◌, ◌==◌, Bool, true, false, List, [], ◌∷◌, length, refl, sym, ◌∙◌, ap, subst, arith}
use Rattle.std.specs.Prelude.{◌&&◌, min, slice_index, IsTrue, if◌then◌else◌}
use Rattle.std.proofs.lemmas.Bool.{true≢false}
use Rattle.sector_disk.specs.Lists.{Content}
use Rattle.sector_disk.specs.Space.{Space}
use Rattle.alloc_bitmap.specs.Map.{free_of}
use Rattle.flag_rows.specs.Bits.{count_set, sectors_for}
use Rattle.hfs_volume.specs.Content.{TreeFacts, VolumeState, has_attributes, volume_of}
use Rattle.hfs_volume.specs.Cost.{attributes_key, bitmap_load, catalog_key, cost_of, growth, growth_blocks, is_too_deep, load_of, node_sectors, overflow_records, plan_of, resource_refusal, tree_at, tree_load}
use Rattle.hfs_volume.specs.Forks.{attributes_id, parts_for}
use Rattle.hfs_volume.specs.Weight.{cost_of_tree, extents_in_use, room_with, runs_for}
use Rattle.hfs_volume.specs.declared.cost.Cost.TheVariants as cost
use Rattle.hfs_volume.specs.declared.cost.Needs.{Needs}
use Rattle.hfs_volume.specs.declared.cost.Room.{Room}
use Rattle.hfs_volume.specs.declared.cost.TreeCost.{TreeCost}
use Rattle.hfs_volume.specs.declared.cost.ValueChange.{ValueChange}
use Rattle.volume_header.specs.declared.header.VolumeHeader.{VolumeHeader}
use Rattle.tree_weights.specs.Weights.{IsAfforded, LoadSaysEnough, load_at}
use Rattle.volume_base.specs.Attributing.{HasRoomForValue, blocks_load, runs_taken, value_edits, value_load}
use Rattle.volume_base.specs.Changing.{HasRoomToUpdate}
use Rattle.volume_base.specs.Fitting.{is_met, takable_of}
use Rattle.volume_base.specs.Lists.{facts_on}
use Rattle.volume_base.specs.Removing.{HasRoomToBare}
use Rattle.volume_base.specs.Room.{capacity_of}
use Rattle.volume_base.specs.Standing.{IsSettled}
use Rattle.volume_base.specs.Weighing.{needs_of_change, needs_valued}
use Rattle.volume_base.specs.declared.volume.Volume.{Volume}
use Rattle.volume_base.specs.declared.weighing.Edits.{Edits}
use Rattle.volume_base.proofs.Fitted.{IsMet, IsRoomy, attributes_is, block_is, catalog_is, growth_alike, met, roomy}
use Rattle.volume_base.proofs.Loads.{load_is}

-- what so many edits of the catalog and of the attributes file ask, and a mark
abbrev pub value_asked : ℕ → ℕ → Edits
value_asked above edits = record { ids = 0; catalog = above; attributes = edits; updates = 1 }

module _ (capacity : ℕ) (free : List Bool) (volume : VolumeState) where
  free_is : (room_with capacity free volume).free ≡ count_set free
  unfolding room_with
  free_is = refl

  total_is : (room_with capacity free volume).total ≡ volume.head.total_blocks
  unfolding room_with
  total_is = refl

-- the load counts the header, the node of a record, the catalog, the attributes file and the bitmap
parts_of_load : (needs : Needs) (room : Room) → 1 + needs.updates * node_sectors (tree_at room 1) + load_at needs room 1 + load_at needs room 2 + bitmap_load needs room (growth_blocks (plan_of needs room) room) ≤ load_of needs room (plan_of needs room)
unfolding load_of
parts_of_load needs room = omega arith

-- and in the bitmap what blocks and runs take, beside a growth
bitmap_least : (needs : Needs) (room : Room) (blocks : ℕ) → min (parts_for room.total 4096) (needs.new_blocks / 4096 + 2 * needs.runs + needs.old_blocks) ≤ bitmap_load needs room blocks
bitmap_least needs room blocks = omega arith

-- a change of no block takes nothing of the bitmap
blocks_least : (v : Volume) (change : ValueChange) (runs : ℕ) → blocks_load v change runs ≤ 1 + min (sectors_for (length v.map.used)) (change.blocks / 4096 + 2 * runs + change.freed)
blocks_least v change runs = by_test ((change.blocks == 0) && (change.freed == 0))
  where
    by_test : (b : Bool) → (if b then 0 else 1 + min (sectors_for (length v.map.used)) (change.blocks / 4096 + 2 * runs + change.freed)) ≤ 1 + min (sectors_for (length v.map.used)) (change.blocks / 4096 + 2 * runs + change.freed)
    by_test true = omega arith
    by_test false = omega arith

module _ (says : LoadSaysEnough) (v : Volume) (a : Space) (settled : IsSettled v a.content) (above edits : ℕ) (change : ValueChange) (has : IsTrue (has_attributes v.header))
    (ok : is_met (cost_of (needs_valued (takable_of v) (value_asked above edits) change) (room_with (capacity_of v) (takable_of v) (volume_of a.content))) a.spare ≡ true) where
  abbrev room : Room
  room = room_with (capacity_of v) (takable_of v) (volume_of a.content)

  abbrev needs : Needs
  needs = needs_of_change (value_asked above edits) change (runs_taken v change)

  is : IsMet (cost_of needs room) a.spare
  is = met (cost_of needs room) a.spare ok

  afforded : IsAfforded needs room is.load is.grow
  afforded = says needs room is.load is.grow is.is

  same_head : (volume_of a.content).head ≡ v.header
  same_head = ap (λ (l : VolumeState). l.head) settled.lists

  node_is : node_sectors (tree_at room 1) ≡ v.catalog.file.shape.node_size / 512
  node_is = ap (λ (t : TreeCost). t.node_size / 512) (catalog_is (capacity_of v) (takable_of v) (volume_of a.content)) ∙ ap (λ (l : VolumeState). l.catalog_tree.shape.node_size / 512) settled.lists

  no_attributes : slice_index (plan_of needs room).grow 2 ≡ 0
  no_attributes = sym (ap (λ l. slice_index l 2) afforded.grows) ∙ is.attributes

  -- the sectors of the bitmap
  abbrev in_map : ℕ
  in_map = min (sectors_for (length v.map.used)) (change.blocks / 4096 + 2 * runs_taken v change + change.freed)

  sizes : parts_for room.total 4096 ≡ sectors_for (length v.map.used)
  sizes = let total = total_is (capacity_of v) (takable_of v) (volume_of a.content) ∙ ap (λ (h : VolumeHeader). h.total_blocks) same_head in omega (arith, total, settled.blocks)

  in_map_is : min (parts_for room.total 4096) (change.blocks / 4096 + 2 * runs_taken v change + change.freed) ≡ in_map
  in_map_is = ap (λ n. min n (change.blocks / 4096 + 2 * runs_taken v change + change.freed)) sizes

  parts : 1 + v.catalog.file.shape.node_size / 512 + in_map + load_at needs room 1 + load_at needs room 2 ≤ a.spare
  parts = let of_parts = parts_of_load needs room in let least = bitmap_least needs room (growth_blocks (plan_of needs room) room) in omega (arith, of_parts, least, in_map_is, node_is, afforded.sectors, is.fits)

  attributes : IsRoomy v.header.block_size attributes_key (value_edits edits change (runs_taken v change)) a.spare (1 + v.catalog.file.shape.node_size / 512 + in_map) (facts_on v.attributes.file)
  attributes =
      let same = settled.attributes has in
      let has_there : IsTrue (has_attributes (volume_of a.content).head) = subst (λ (h : VolumeHeader). IsTrue (has_attributes h)) (sym same_head) has in
      subst (λ (k : TreeFacts × VolumeHeader). IsRoomy k.1.block_size attributes_key (value_edits edits change (runs_taken v change)) a.spare (1 + v.catalog.file.shape.node_size / 512 + in_map) k.0) {x = ((volume_of a.content).attributes_tree, (volume_of a.content).head)} {y = (facts_on v.attributes.file, v.header)}
      (λ i. (same i, same_head i))
      (subst (λ block. IsRoomy block attributes_key (value_edits edits change (runs_taken v change)) a.spare (1 + v.catalog.file.shape.node_size / 512 + in_map) (volume_of a.content).attributes_tree) (block_is (capacity_of v) (takable_of v) (volume_of a.content))
      (roomy room.block attributes_key (value_edits edits change (runs_taken v change)) a.spare (1 + v.catalog.file.shape.node_size / 512 + in_map) _ _ (volume_of a.content).attributes_tree (tree_at room 2) (attributes_is (capacity_of v) (takable_of v) (volume_of a.content) has_there)
      afforded.attributes no_attributes no_attributes (omega (arith, parts))))

  blocks_there : change.blocks ≤ count_set (free_of v.map)
  blocks_there = let free = free_is (capacity_of v) (takable_of v) (volume_of a.content) in omega (arith, afforded.blocks, free)

  pub value_room : HasRoomForValue edits change v a
  value_room = record {
    update = record { told = λ tells. omega (arith, parts) };
    told = λ tells has_it. let least = blocks_least v change (runs_taken v change) in (omega (arith, attributes.load, least), attributes.shallow, attributes.none, blocks_there);
  }

  pub value_node : v.catalog.file.shape.node_size / 512 ≤ a.spare
  value_node = omega (arith, parts)

  -- ---- a folder with attributes that goes

  same_catalog : (volume_of a.content).catalog_tree ≡ facts_on v.catalog.file
  same_catalog = ap (λ (l : VolumeState). l.catalog_tree) settled.lists

  no_catalog : slice_index (plan_of needs room).grow 1 ≡ 0
  no_catalog = sym (ap (λ l. slice_index l 1) afforded.grows) ∙ is.catalog

  first : load_at needs room 1 ≡ tree_load catalog_key (cost_of_tree (facts_on v.catalog.file) 0) above 0
  first =
      (λ i. tree_load catalog_key (catalog_is (capacity_of v) (takable_of v) (volume_of a.content) i) above (no_catalog i))
      ∙ (λ i. tree_load catalog_key (cost_of_tree (same_catalog i) 0) above 0)

  second : load_at needs room 2 ≡ tree_load attributes_key (cost_of_tree (facts_on v.attributes.file) 0) (value_edits edits change (runs_taken v change)) 0
  second =
      let has_there : IsTrue (has_attributes (volume_of a.content).head) = subst (λ (h : VolumeHeader). IsTrue (has_attributes h)) (sym same_head) has in
      (λ i. tree_load attributes_key (attributes_is (capacity_of v) (takable_of v) (volume_of a.content) has_there i) (value_edits edits change (runs_taken v change)) (no_attributes i))
      ∙ (λ i. tree_load attributes_key (cost_of_tree (settled.attributes has i) 0) (value_edits edits change (runs_taken v change)) 0)

  edits_are : change.blocks ≡ 0 → value_edits edits change (runs_taken v change) ≡ edits + change.records
  edits_are none =
      let runs : runs_taken v change ≡ 0 = ap (λ n. runs_for n (free_of v.map)) none in
      let further : overflow_records (runs_taken v change) ≡ 0 = ap overflow_records runs in
      omega (arith, further)

  in_map_least : min (sectors_for (length v.map.used)) change.freed ≤ in_map
  in_map_least = omega arith

  pub owner_room : above ≡ 2 → change.blocks ≡ 0 → HasRoomToBare (record { count = edits; change = change }) v a
  owner_room two none = record {
    told = λ tells has_it.
        let in_all = ap (λ n. tree_load catalog_key (cost_of_tree (facts_on v.catalog.file) 0) n 0) two in
        let beside = ap (λ n. tree_load attributes_key (cost_of_tree (facts_on v.attributes.file) 0) n 0) (edits_are none) in (
          omega (arith, parts, first, second, in_all, beside, in_map_least),
          subst (λ n. is_too_deep attributes_key (cost_of_tree (facts_on v.attributes.file) 0) n ≡ false) (edits_are none) attributes.shallow,
          subst (λ n. growth v.header.block_size attributes_key (cost_of_tree (facts_on v.attributes.file) 0) n ≡ 0) (edits_are none) attributes.none,
        );
  }

-- without an attributes file there is only the record
pub value_alone : (edits : ℕ) (change : ValueChange) (v : Volume) (a : Space) → (has_attributes v.header ≡ false) → HasRoomToUpdate v a → HasRoomForValue edits change v a
value_alone edits change v a none room = record { update = room; told = λ tells has. absurd (true≢false (sym has ∙ none)) }

-- what a change of values puts is no more than its load
module _ (v : Volume) (content : Content) (settled : IsSettled v content) (capacity edits : ℕ) (change : ValueChange) (has : IsTrue (has_attributes v.header))
    (fits : growth v.header.block_size attributes_key (cost_of_tree (facts_on v.attributes.file) 0) (value_edits edits change (runs_taken v change)) ≡ 0) (n : ℕ) (grow : List ℕ)
    (is : cost_of (needs_of_change (value_asked 0 edits) change (runs_taken v change)) (room_with capacity (takable_of v) (volume_of content)) ≡ cost.Load n grow)
  where
    abbrev counted_room : Room
    counted_room = room_with capacity (takable_of v) (volume_of content)

    abbrev counted_needs : Needs
    counted_needs = needs_of_change (value_asked 0 edits) change (runs_taken v change)

    counted_is : n ≡ load_of (needs_of_change (value_asked 0 edits) change (runs_taken v change)) (room_with capacity (takable_of v) (volume_of content)) (plan_of (needs_of_change (value_asked 0 edits) change (runs_taken v change)) (room_with capacity (takable_of v) (volume_of content)))
    unfolding cost_of
    counted_is = load_is (resource_refusal counted_needs counted_room (plan_of counted_needs counted_room)) (load_of counted_needs counted_room (plan_of counted_needs counted_room)) n _ grow is

    head_there : (volume_of content).head ≡ v.header
    head_there = ap (λ (l : VolumeState). l.head) settled.lists

    node_there : node_sectors (tree_at (room_with capacity (takable_of v) (volume_of content)) 1) ≡ v.catalog.file.shape.node_size / 512
    node_there = ap (λ (t : TreeCost). t.node_size / 512) (catalog_is capacity (takable_of v) (volume_of content)) ∙ ap (λ (l : VolumeState). l.catalog_tree.shape.node_size / 512) settled.lists

    third_there : tree_at (room_with capacity (takable_of v) (volume_of content)) 2 ≡ cost_of_tree (volume_of content).attributes_tree (extents_in_use (volume_of content) attributes_id (volume_of content).head.attributes_fork)
    third_there = attributes_is capacity (takable_of v) (volume_of content) (subst (λ (h : VolumeHeader). IsTrue (has_attributes h)) (sym head_there) has)

    none_there : growth (room_with capacity (takable_of v) (volume_of content)).block attributes_key (tree_at (room_with capacity (takable_of v) (volume_of content)) 2) (value_edits edits change (runs_taken v change)) ≡ 0
    none_there =
        (λ i. growth (block_is capacity (takable_of v) (volume_of content) i) attributes_key (third_there i) (value_edits edits change (runs_taken v change)))
        ∙ growth_alike (volume_of content).head.block_size attributes_key (value_edits edits change (runs_taken v change)) (volume_of content).attributes_tree (extents_in_use (volume_of content) attributes_id (volume_of content).head.attributes_fork)
        ∙ (λ i. growth (head_there i).block_size attributes_key (cost_of_tree (settled.attributes has i) 0) (value_edits edits change (runs_taken v change))) ∙ fits

    load_there : load_at (needs_of_change (value_asked 0 edits) change (runs_taken v change)) (room_with capacity (takable_of v) (volume_of content)) 2 ≡ tree_load attributes_key (cost_of_tree (facts_on v.attributes.file) 0) (value_edits edits change (runs_taken v change)) 0
    load_there =
        (λ i. tree_load attributes_key (third_there i) (value_edits edits change (runs_taken v change)) (none_there i))
        ∙ (λ i. tree_load attributes_key (cost_of_tree (settled.attributes has i) 0) (value_edits edits change (runs_taken v change)) 0)

    bits_there : parts_for (room_with capacity (takable_of v) (volume_of content)).total 4096 ≡ sectors_for (length v.map.used)
    bits_there = let total = total_is capacity (takable_of v) (volume_of content) ∙ ap (λ (h : VolumeHeader). h.total_blocks) head_there in omega (arith, total, settled.blocks)

    pub value_counted : value_load edits change v ≤ n
    value_counted =
        let parts = parts_of_load counted_needs counted_room in
        let bits = bitmap_least counted_needs counted_room (growth_blocks (plan_of counted_needs counted_room) counted_room) in
        let same = ap (λ m. min m (change.blocks / 4096 + 2 * runs_taken v change + change.freed)) bits_there in
        let least = blocks_least v change (runs_taken v change) in
        omega (arith, counted_is, parts, bits, same, least, node_there, load_there)
