-- The room for a symbolic link, by what its target weighs.
use Rattle.std.proofs.Common.{◌≡◌, ◌<◌, ◌≤◌, ℕ, ◌+◌, ◌*◌, ◌/◌, min, Bool, true, false, List, [], ◌∷◌, length, inl, refl, sym, ◌∙◌, ap, subst, arith}
use Rattle.std.specs.Prelude.{◌==◌, ◌&&◌, nat_lt, slice_index, IsTrue, if◌then◌else◌}
use Rattle.std.proofs.Math.Nat.{zero-div}
use Rattle.sector_disk.specs.Space.{Space}
use Rattle.alloc_bitmap.specs.Map.{free_of}
use Rattle.flag_rows.specs.Bits.{count_set, sectors_for}
use Rattle.flag_rows.specs.Runs.{fewest_of}
use Rattle.hfs_volume.specs.Content.{TreeFacts, VolumeState, volume_of}
use Rattle.hfs_volume.specs.Cost.{catalog_key, cost_of, growth, load_of, tree_load}
use Rattle.hfs_volume.specs.Forks.{catalog_id, parts_for}
use Rattle.hfs_volume.specs.Sound.{IsSound}
use Rattle.hfs_volume.specs.Weight.{cost_of_tree, extents_in_use, first_block, free_blocks, free_runs, new_blocks_of, room_with}
use Rattle.hfs_volume.specs.declared.cost.Cost.{Cost}
use Rattle.hfs_volume.specs.declared.cost.Cost.TheVariants as cost
use Rattle.tree_weights.specs.Cutting.{TreesHoldThree}
use Rattle.tree_weights.specs.Weights.{GrowsByEnough, IsAfforded, LoadIsOfParts, LoadSaysEnough}
use Rattle.volume_header.specs.declared.header.VolumeHeader.{VolumeHeader}
use Rattle.volume_base.specs.DataWeighing.{needs_target, target_of, target_weighed}
use Rattle.volume_base.specs.Fitting.{AreMet, takable_of, wants}
use Rattle.volume_base.specs.Lists.{facts_on}
use Rattle.volume_base.specs.Making.{HasRoomToMake, entry_load, make_load}
use Rattle.volume_base.specs.Room.{capacity_of, free_in}
use Rattle.volume_base.specs.Standing.{IsSettled}
use Rattle.volume_base.specs.Weighing.{joined}
use Rattle.volume_base.specs.declared.room.FreeBlocks.TheVariants as blocks
use Rattle.volume_base.specs.declared.volume.Volume.{Volume}
use Rattle.volume_base.specs.declared.weighing.Weight.TheVariants as answer
use Rattle.volume_base.proofs.Fitted.{growth_alike}
use Rattle.volume_step.proofs.Fewer.{fewer_met, met_load}
use Rattle.volume_links.specs.Links.{FitsTarget, IsLight, link_bits}

-- a light weight is a load of the blocks that may be taken
light_cost : (all takable : Cost) (spare : ℕ) → IsLight (joined all takable) spare → (load : ℕ) × (more : List ℕ) × (takable ≡ cost.Load load more) × (load ≤ spare)
light_cost (cost.Refused why) takable spare is = absurd is
light_cost (cost.Load whole grow) (cost.Refused why) spare is = absurd is
light_cost (cost.Load whole grow) (cost.Load taken more) spare is = by ((slice_index grow 0 == slice_index more 0) && (slice_index grow 2 == slice_index more 2)) is
  where
    by : (b : Bool) → IsLight (if b then answer.Load taken grow else answer.CommitFirst) spare → (load : ℕ) × (nodes : List ℕ) × (cost.Load taken more ≡ cost.Load load nodes) × (load ≤ spare)
    by true fits = (taken, more, refl, fits)
    by false never = absurd never

module _ (says : LoadSaysEnough) (capacity : ℕ) (free : List Bool) (volume : VolumeState) (long load : ℕ) (more : List ℕ) (is : cost_of (needs_target free volume long) (room_with capacity free volume) ≡ cost.Load load more) where
  afforded : IsAfforded (needs_target free volume long) (room_with capacity free volume) load more
  afforded = says (needs_target free volume long) (room_with capacity free volume) load more is

  abbrev tree : TreeFacts
  tree = volume.catalog_tree

  -- the header, a record updated, the edits of the catalog and the bitmap are parts of it
  pub parts_within : 1 + volume.catalog_tree.shape.node_size / 512
      + tree_load catalog_key (cost_of_tree volume.catalog_tree (extents_in_use volume catalog_id volume.head.catalog_fork)) 2 (growth volume.head.block_size catalog_key (cost_of_tree volume.catalog_tree (extents_in_use volume catalog_id volume.head.catalog_fork)) 2)
      + min (parts_for volume.head.total_blocks 4096) (new_blocks_of volume.head.block_size (target_of volume long) / 4096 + 2 * fewest_of (new_blocks_of volume.head.block_size (target_of volume long)) (free_runs free)) ≤ load
  unfolding load_of room_with
  parts_within = omega (arith, afforded.sectors)

-- what a link costs where it fits, of the numbers of a settled volume
module _ (v : Volume) (a : Space) (settled : IsSettled v a.content) (long n : ℕ) (many : n ≡ parts_for long v.header.block_size) where
  same_catalog : (volume_of a.content).catalog_tree ≡ facts_on v.catalog.file
  same_catalog = ap (λ (l : VolumeState). l.catalog_tree) settled.lists

  same_head : (volume_of a.content).head ≡ v.header
  same_head = ap (λ (l : VolumeState). l.head) settled.lists

  blocks_are : new_blocks_of (volume_of a.content).head.block_size (target_of (volume_of a.content) long) ≡ n
  blocks_are = omega (arith, either (nat_lt 0 long), no_first, ap (λ (h : VolumeHeader). parts_for long h.block_size) same_head, many)
    where
      no_first : first_block (volume_of a.content).head.block_size (target_of (volume_of a.content) long) ≡ 0
      no_first = zero-div (volume_of a.content).head.block_size

      either : (b : Bool) → (if b then parts_for long (volume_of a.content).head.block_size else parts_for long (volume_of a.content).head.block_size) ≡ parts_for long (volume_of a.content).head.block_size
      either true = refl
      either false = refl

  bits_are : min (parts_for (volume_of a.content).head.total_blocks 4096) (new_blocks_of (volume_of a.content).head.block_size (target_of (volume_of a.content) long) / 4096 + 2 * fewest_of (new_blocks_of (volume_of a.content).head.block_size (target_of (volume_of a.content) long)) (free_runs (free_of v.map))) ≡ link_bits n v
  bits_are =
      (λ i. min (parts_for (same_head i).total_blocks 4096) (blocks_are i / 4096 + 2 * fewest_of (blocks_are i) (free_runs (free_of v.map))))
      ∙ ap (λ k. min k (n / 4096 + 2 * fewest_of n (free_runs (free_of v.map)))) rows
    where
      rows : parts_for v.header.total_blocks 4096 ≡ sectors_for (length v.map.used)
      rows = omega (arith, settled.blocks)

module _ (says : LoadSaysEnough) (v : Volume) (a : Space) (settled : IsSettled v a.content) (long n : ℕ) (some : 0 < long) (many : n ≡ parts_for long v.header.block_size) (tells : IsTrue a.tells) (make : HasRoomToMake v a)
    (light : IsLight (target_weighed (capacity_of v) (free_in blocks.Takable v.map) (volume_of a.content) long) a.spare)
  where
    it : (load : ℕ) × (more : List ℕ) × (cost_of (needs_target (free_in blocks.Takable v.map) (volume_of a.content) long) (room_with (capacity_of v) (free_in blocks.Takable v.map) (volume_of a.content)) ≡ cost.Load load more) × (load ≤ a.spare)
    it = light_cost (cost_of (needs_target (free_blocks (volume_of a.content)) (volume_of a.content) long) (room_with (capacity_of v) (free_blocks (volume_of a.content)) (volume_of a.content)))
        (cost_of (needs_target (free_in blocks.Takable v.map) (volume_of a.content) long) (room_with (capacity_of v) (free_in blocks.Takable v.map) (volume_of a.content))) a.spare light

    none_grows : growth (volume_of a.content).head.block_size catalog_key (cost_of_tree (volume_of a.content).catalog_tree (extents_in_use (volume_of a.content) catalog_id (volume_of a.content).head.catalog_fork)) 2 ≡ 0
    none_grows =
        growth_alike (volume_of a.content).head.block_size catalog_key 2 (volume_of a.content).catalog_tree (extents_in_use (volume_of a.content) catalog_id (volume_of a.content).head.catalog_fork)
        ∙ (λ i. growth (same_head v a settled long n many i).block_size catalog_key (cost_of_tree (same_catalog v a settled long n many i) 0) 2)
        ∙ (make.told tells).2

    edits_are : tree_load catalog_key (cost_of_tree (volume_of a.content).catalog_tree (extents_in_use (volume_of a.content) catalog_id (volume_of a.content).head.catalog_fork)) 2
        (growth (volume_of a.content).head.block_size catalog_key (cost_of_tree (volume_of a.content).catalog_tree (extents_in_use (volume_of a.content) catalog_id (volume_of a.content).head.catalog_fork)) 2) ≡ entry_load v
    edits_are =
        ap (tree_load catalog_key (cost_of_tree (volume_of a.content).catalog_tree (extents_in_use (volume_of a.content) catalog_id (volume_of a.content).head.catalog_fork)) 2) none_grows
        ∙ ap (λ (t : TreeFacts). tree_load catalog_key (cost_of_tree t 0) 2 0) (same_catalog v a settled long n many)

    -- there is room for all that is put
    pub link_fits : make_load v + link_bits n v ≤ a.spare
    link_fits = omega (
      arith,
      parts_within says (capacity_of v) (free_in blocks.Takable v.map) (volume_of a.content) long it.0 it.1 it.2,
      it.3,
      edits_are,
      bits_are v a settled long n many,
      ap (λ (t : TreeFacts). t.shape.node_size / 512) (same_catalog v a settled long n many),
    )

-- ---- where it fits, each look at the room finds it

module _ (says : LoadSaysEnough) (v : Volume) (a : Space) (settled : IsSettled v a.content) (long n : ℕ) (many : n ≡ parts_for long v.header.block_size) (fits : FitsTarget long v a) where
  -- there are as many blocks as the target takes
  pub target_free : n ≤ count_set (free_of v.map)
  unfolding room_with
  target_free =
      let enough = says (needs_target (takable_of v) (volume_of a.content) long) (room_with (capacity_of v) (takable_of v) (volume_of a.content)) fits.load (0 ∷ 0 ∷ 0 ∷ []) fits.now in
      omega (arith, enough.blocks, blocks_are v a settled long n many)

  -- it is a light load
  pub target_light : IsLight (target_weighed (capacity_of v) (free_in blocks.Takable v.map) (volume_of a.content) long) a.spare
  target_light =
      subst (λ (k : Cost × Cost). IsLight (joined k.0 k.1) a.spare) {x = (cost.Load fits.whole (0 ∷ 0 ∷ 0 ∷ []), cost.Load fits.load (0 ∷ 0 ∷ 0 ∷ []))}
      {y = (cost_of (needs_target (free_blocks (volume_of a.content)) (volume_of a.content) long) (room_with (capacity_of v) (free_blocks (volume_of a.content)) (volume_of a.content)), cost_of (needs_target (takable_of v) (volume_of a.content) long) (room_with (capacity_of v) (takable_of v) (volume_of a.content)))}
      (λ i. (sym fits.all i, sym fits.now i)) fits.within

  -- its record and its thread can be added
  pub target_made : LoadIsOfParts → GrowsByEnough → TreesHoldThree → IsSound a.content → AreMet (wants 1 2 0 1) v a
  target_made of_parts enough three sound =
      fewer_met says of_parts enough (wants 1 2 0 1) (needs_target (takable_of v) (volume_of a.content) long) (room_with (capacity_of v) (takable_of v) (volume_of a.content)) a.spare
      (three a.content (capacity_of v) 1 (takable_of v) sound.trees (omega arith) (λ two. absurd (omega (arith, two)))) (omega arith) (omega arith) (inl refl) (omega arith)
      (met_load (cost_of (needs_target (takable_of v) (volume_of a.content) long) (room_with (capacity_of v) (takable_of v) (volume_of a.content))) fits.load a.spare fits.now fits.within)

  -- the sectors suffice
  pub target_room : HasRoomToMake v a → IsTrue a.tells → link_bits n v + 1 ≤ a.spare
  target_room make tells = omega (arith, link_fits says v a settled long n fits.some many tells make target_light)
