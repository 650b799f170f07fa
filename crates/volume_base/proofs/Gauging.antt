-- The numbers that a volume keeps are those of its content.
use Rattle.std.proofs.Common.{◌≡◌, ◌<◌, ℕ, ◌+◌, ◌-◌, ◌*◌, Bool, true, false, not, List, [], ◌∷◌, ◌++◌, length, map, replicate, get_or, refl, sym, ◌∙◌, ap, arith}
use Rattle.std.specs.Prelude.{IsTrue, if◌then◌else◌}
use Rattle.std.specs.List.{range_with_len}
use Rattle.std.proofs.Math.ListN.{get_or-map}
use Rattle.std.proofs.lemmas.List.{ext_get_or, length-map, get_or_append_left, get_or_default}
use Rattle.btree_file.specs.Map.{bits_of}
use Rattle.std.proofs.lemmas.List.FromFn.{length-range_with_len, get_or-range_with_len}
use Rattle.sector_disk.specs.Lists.{Content}
use Rattle.flag_rows.specs.Bits.{count_set}
use Rattle.flag_rows.specs.Runs.{runs_of, longest_of}
use Rattle.alloc_bitmap.specs.Map.{unused_of}
use Rattle.hfs_language.specs.declared.reply.TreeGauge.{TreeGauge}
use Rattle.hfs_volume.specs.Content.{VolumeState, TreeFacts, volume_of, is_set, has_attributes}
use Rattle.hfs_volume.specs.Cost.{no_tree}
use Rattle.hfs_volume.specs.Forks.{attributes_id}
use Rattle.hfs_volume.specs.Weight.{free_blocks, room_with, tree_gauge, cost_of_tree, extents_in_use, gauge}
use Rattle.volume_base.specs.Lists.{lists_of}
use Rattle.volume_base.specs.Room.{attributes_on, cost_on, gauge_now}
use Rattle.btree_node.specs.declared.store.TreeShape.{TreeShape}
use Rattle.volume_base.specs.Standing.{IsSettled, with_attributes_tree}
use Rattle.volume_base.specs.declared.volume.Volume.{Volume}

-- the numbers of a tree that `df` tells
abbrev gauge_on : TreeShape → TreeGauge
gauge_on shape = record { depth = shape.depth; nodes = shape.total; unused = shape.free }

module _ (volume : Volume) (content : Content) (settled : IsSettled volume content) where
  abbrev lists : VolumeState
  lists = with_attributes_tree (lists_of volume content) (volume_of content)

  free_at : (k : ℕ) → k < length volume.map.used → get_or (map (λ used. not used) volume.map.used) k true ≡ get_or (map (λ block. not (is_set lists block)) (range_with_len 0 volume.header.total_blocks)) k true
  free_at k low =
      let one : get_or (map (λ used. not used) volume.map.used) k true ≡ not (get_or volume.map.used k false) = get_or-map (λ (used : Bool). not used) volume.map.used k false in
      let two : get_or (map (λ block. not (is_set lists block)) (range_with_len 0 volume.header.total_blocks)) k (not (is_set lists 0)) ≡ not (is_set lists (get_or (range_with_len 0 volume.header.total_blocks) k 0)) =
      get_or-map (λ (block : ℕ). not (is_set lists block)) (range_with_len 0 volume.header.total_blocks) k 0 in
      let here : get_or (range_with_len 0 volume.header.total_blocks) k 0 ≡ k = get_or-range_with_len 0 volume.header.total_blocks k 0 (omega (arith, low, settled.blocks)) ∙ omega arith in
      let bit : is_set lists k ≡ get_or volume.map.used k false = get_or_append_left volume.map.used (replicate (8 * volume.header.allocation_fork.logical_size - length volume.map.used) false) false k low in
      let inside : k < length (map (λ block. not (is_set lists block)) (range_with_len 0 volume.header.total_blocks)) = omega (arith, length-map (range_with_len 0 volume.header.total_blocks) (λ block. not (is_set lists block)), length-range_with_len 0 volume.header.total_blocks, low, settled.blocks) in
      one ∙ ap not (sym bit) ∙ ap (λ b. not (is_set lists b)) (sym here) ∙ sym two ∙ get_or_default (map (λ block. not (is_set lists block)) (range_with_len 0 volume.header.total_blocks)) k (not (is_set lists 0)) true inside

  pub free_is : unused_of volume.map ≡ free_blocks lists
  unfolding free_blocks
  free_is = ext_get_or true (map (λ used. not used) volume.map.used) (map (λ block. not (is_set lists block)) (range_with_len 0 volume.header.total_blocks))
      (omega (arith, length-map volume.map.used (λ used. not used), length-map (range_with_len 0 volume.header.total_blocks) (λ block. not (is_set lists block)), length-range_with_len 0 volume.header.total_blocks, settled.blocks))
      (λ k low. free_at k (omega (arith, low, length-map volume.map.used (λ used. not used))))

  third : tree_gauge (attributes_on volume) ≡ tree_gauge (if has_attributes volume.header then cost_of_tree lists.attributes_tree (extents_in_use lists attributes_id volume.header.attributes_fork) else no_tree)
  third = by (has_attributes volume.header) (λ has. settled.attributes has)
    where
      by : (b : Bool) → (b ≡ true → (volume_of content).attributes_tree ≡ record { shape = volume.attributes.file.shape; map_bits = bits_of volume.attributes.file.map.items })
          → tree_gauge (if b then cost_on volume.attributes.file else no_tree) ≡ tree_gauge (if b then cost_of_tree lists.attributes_tree (extents_in_use lists attributes_id volume.header.attributes_fork) else no_tree)
      by true there = ap (λ (f : TreeFacts). gauge_on f.shape) (sym (there refl))
      by false there = refl

  pub gauge_is : gauge_now volume ≡ gauge volume.capacity (volume_of content)
  unfolding room_with
  gauge_is = (λ i. record {
    block = volume.header.block_size;
    total = volume.header.total_blocks;
    free = count_set (free_is i);
    longest = longest_of (runs_of (free_is i));
    capacity = volume.capacity;
    trees = gauge_on volume.extents.file.shape ∷ gauge_on volume.catalog.file.shape ∷ third i ∷ [];
  }) ∙ sym (ap (λ l. gauge volume.capacity l) settled.lists)
