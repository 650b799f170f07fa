-- What a step of reclaiming puts.
use Rattle.std.proofs.Common.{◌≡◌, ◌≤◌, ◌<◌, ℕ, zero, suc, ◌+◌, ◌-◌, ◌*◌, ◌/◌, Bool, true, false, List, [], inl, inr, refl, sym, ◌∙◌, ap, subst, arith, ◌∷◌, min, length}
use Rattle.volume_space.specs.CuttingAhead.{TakesCutLoad}
use Rattle.volume_base.specs.Making.{catalog_cost}
use Rattle.std.specs.Prelude.{Option, Some, None, IsTrue, not, nat_lt, if◌then◌else◌}
use Rattle.std.specs.List.{range_with_len}
use Rattle.std.proofs.lemmas.List.FromFn.{length-range_with_len}
use Rattle.std.proofs.lemmas.List.Sums.{count_by-le-length}
use Rattle.sector_disk.specs.Lists.{Content}
use Rattle.sector_disk.specs.Space.{Space}
use Rattle.btree_edit.specs.Edits.{TakesAtMost, TreeTop, tops, top_after}
use Rattle.btree_file.specs.State.{is_written, state_of}
use Rattle.hfs_volume.specs.Content.{VolumeState, has_attributes, volume_of}
use Rattle.hfs_volume.specs.Cost.{attributes_key, bitmap_load, catalog_key, cost_of, growth, growth_blocks, load_of, no_tree, plan_of, resource_refusal, tree_at, tree_load}
use Rattle.hfs_volume.specs.Forks.{attributes_id, catalog_id, parts_for}
use Rattle.hfs_volume.specs.Reclaim.{CutOrphan, CutShrunk, DropAttribute, DropOrphan, Reclaim, next_reclaim, reclaim_cost, reclaim_cost_with}
use Rattle.hfs_volume.specs.Weight.{Edits, cost_of_tree, cut_cost, cut_load, edits, extents_in_use, free_blocks, needs_for, room_with, value_change}
use Rattle.hfs_volume.specs.declared.cost.Cost.TheVariants as cost
use Rattle.hfs_volume.specs.declared.cost.TreeCost.{TreeCost}
use Rattle.volume_header.specs.declared.header.VolumeHeader.{VolumeHeader}
use Rattle.tree_weights.specs.Weights.{EditsTakeTheirLoad, HasGrown, IsWrittenByGrowth}
use Rattle.volume_runs.specs.Rest.{cut_puts}
use Rattle.volume_base.specs.Attributing.{attributes_cost}
use Rattle.volume_base.specs.Removing.{remove_load}
use Rattle.flag_rows.specs.Bits.{sectors_for}
use Rattle.hfs_volume.specs.declared.cost.Needs.{Needs}
use Rattle.hfs_volume.specs.declared.cost.Room.{Room}
use Rattle.hfs_volume.specs.declared.cost.ValueChange.{ValueChange}
use Rattle.volume_base.specs.Weighing.{needs_valued}
use Rattle.volume_space.proofs.BareCost.{bare_cost_by}
use Rattle.volume_base.specs.Room.{capacity_of}
use Rattle.volume_base.specs.Standing.{IsSettled}
use Rattle.volume_base.specs.declared.volume.Volume.{Volume}
use Rattle.volume_base.proofs.Loads.{load_is}
use Rattle.volume_space.specs.Cutting.{PutsCut, trim_load}
use Rattle.volume_space.specs.Orphans.{PutsNext, PutsStep, TakesNextLoad, bare_edits, strip_load}
use Rattle.volume_space.proofs.EditsTaken.{load_grown}
use Rattle.volume_space.proofs.HeldUp.{cut_puts_is}
use Rattle.volume_space.proofs.Shorts.{trim_is}

-- behind reads
pub next_behind : (before between : Content) → between ≡ before → (capacity first : ℕ) → first ≡ capacity → (shrunk file : Option ℕ) → file ≡ shrunk → (spare left : ℕ) → left ≡ spare → (after : ℕ)
    → PutsNext first file (volume_of between) left after → PutsNext capacity shrunk (volume_of before) spare after
next_behind before between same capacity first one shrunk file two spare left three after was =
    subst (λ (k : Content × ℕ × Option ℕ × ℕ). PutsNext k.1 k.2 (volume_of k.0) k.3 after) {x = (between, first, file, left)} {y = (before, capacity, shrunk, spare)} (λ i. (same i, one i, two i, three i)) was

-- ---- a cut

pub cut_spent : (v : Volume) (content : Content) → IsSettled v content → (before after : ℕ) → before ≤ after + trim_load v → PutsCut (capacity_of v) (volume_of content) before after
cut_spent v content settled before after less = omega (arith, less, trim_is v content settled, cut_puts_is v content settled)

-- ---- drops

-- what a drop needs: so many edits of the catalog and of the attributes file, and so many blocks that are given back
abbrev dropping : ℕ → ℕ → ℕ → Needs
dropping catalog attributes freed = record { ids = 0; edits = 0 ∷ catalog ∷ attributes ∷ []; updates = 1; new_blocks = 0; old_blocks = freed; runs = 0 }

bitmap_least : (needs : Needs) (room : Room) (blocks : ℕ) → min (parts_for room.total 4096) (needs.new_blocks / 4096 + 2 * needs.runs + needs.old_blocks) ≤ bitmap_load needs room blocks
bitmap_least needs room blocks = omega arith

counts_all : (free : List Bool) (capacity : ℕ) (volume : VolumeState) (catalog attributes freed : ℕ) (n : ℕ) (grow : List ℕ) → cost_of (dropping catalog attributes freed) (room_with capacity free volume) ≡ cost.Load n grow
    → 1 + 1 * (volume.catalog_tree.shape.node_size / 512)
    + tree_load catalog_key (cost_of_tree volume.catalog_tree (extents_in_use volume catalog_id volume.head.catalog_fork)) catalog
    (growth volume.head.block_size catalog_key (cost_of_tree volume.catalog_tree (extents_in_use volume catalog_id volume.head.catalog_fork)) catalog)
    + tree_load attributes_key (tree_at (room_with capacity free volume) 2) attributes (growth volume.head.block_size attributes_key (tree_at (room_with capacity free volume) 2) attributes)
    + min (parts_for volume.head.total_blocks 4096) freed ≤ n
unfolding cost_of load_of room_with
counts_all free capacity volume catalog attributes freed n grow is =
    omega (
      arith,
      load_is (resource_refusal (dropping catalog attributes freed) (room_with capacity free volume) (plan_of (dropping catalog attributes freed) (room_with capacity free volume)))
          (load_of (dropping catalog attributes freed) (room_with capacity free volume) (plan_of (dropping catalog attributes freed) (room_with capacity free volume))) n _ grow is,
      bitmap_least (dropping catalog attributes freed) (room_with capacity free volume) (growth_blocks (plan_of (dropping catalog attributes freed) (room_with capacity free volume)) (room_with capacity free volume)),
    )

-- the attributes file among the trees
third_tree : (free : List Bool) (capacity : ℕ) (volume : VolumeState) → IsTrue (has_attributes volume.head)
    → tree_at (room_with capacity free volume) 2 ≡ cost_of_tree volume.attributes_tree (extents_in_use volume attributes_id volume.head.attributes_fork)
unfolding room_with
third_tree free capacity volume has = ap (λ b. if b then cost_of_tree volume.attributes_tree (extents_in_use volume attributes_id volume.head.attributes_fork) else no_tree) has

module _ (v : Volume) (content : Content) (settled : IsSettled v content) (capacity : ℕ) where
  -- the load of the drop of an entry
  drop_counts : (n : ℕ) (grow : List ℕ) → cost_of (needs_for (free_blocks (volume_of content)) (volume_of content) (edits 0 2 0 1) None) (room_with capacity (free_blocks (volume_of content)) (volume_of content)) ≡ cost.Load n grow → remove_load v ≤ n
  drop_counts n grow is =
      let tree : TreeCost = cost_of_tree (volume_of content).catalog_tree (extents_in_use (volume_of content) catalog_id (volume_of content).head.catalog_fork) in
      let here : tree_load catalog_key (cost_of_tree (volume_of content).catalog_tree (extents_in_use (volume_of content) catalog_id (volume_of content).head.catalog_fork)) 2 0 ≡ tree_load catalog_key (cost_of_tree (volume_of content).catalog_tree 0) 2 0 = refl in
      let there : tree_load catalog_key (cost_of_tree (volume_of content).catalog_tree 0) 2 0 ≡ tree_load catalog_key (catalog_cost v) 2 0 = (λ i. tree_load catalog_key (cost_of_tree (settled.lists i).catalog_tree 0) 2 0) in
      omega (
        arith,
        counts_all (free_blocks (volume_of content)) capacity (volume_of content) 2 0 0 n grow is,
        load_grown catalog_key 2 (growth (volume_of content).head.block_size catalog_key tree 2) tree,
        here,
        there,
        ap (λ (l : VolumeState). l.catalog_tree.shape.node_size / 512) settled.lists,
      )

  -- and of an attribute
  bare_counts : IsTrue (has_attributes v.header) → (change : ValueChange) (n : ℕ) (grow : List ℕ) → change.blocks ≡ 0 → cost_of (needs_valued (free_blocks (volume_of content)) bare_edits change) (room_with capacity (free_blocks (volume_of content)) (volume_of content)) ≡ cost.Load n grow
      → strip_load change v ≤ n
  bare_counts has change n grow gone is =
      let many : ℕ = 1 + change.records in
      let tree : TreeCost = tree_at (room_with capacity (free_blocks (volume_of content)) (volume_of content)) 2 in
      let third = third_tree (free_blocks (volume_of content)) capacity (volume_of content) (subst (λ (h : VolumeHeader). IsTrue (has_attributes h)) (sym (ap (λ (l : VolumeState). l.head) settled.lists)) has) in
      let counted : tree_load attributes_key (tree_at (room_with capacity (free_blocks (volume_of content)) (volume_of content)) 2) (1 + change.records) 0 ≡ tree_load attributes_key (attributes_cost v) (1 + change.records) 0 =
      ap (λ (t : TreeCost). tree_load attributes_key t (1 + change.records) 0) third ∙ (λ i. tree_load attributes_key (cost_of_tree (settled.attributes has i) 0) (1 + change.records) 0) in
      let no_more : 1 + change.records ≡ 1 + change.records + 0 = omega arith in
      let cost_is : cost_of (dropping 0 (1 + change.records) change.freed) (room_with capacity (free_blocks (volume_of content)) (volume_of content)) ≡ cost.Load n grow =
      (λ i. cost_of (dropping 0 (no_more i) change.freed) (room_with capacity (free_blocks (volume_of content)) (volume_of content)))
      ∙ (λ i. cost_of (needs_valued (free_blocks (volume_of content)) bare_edits (record { records = change.records; freed = change.freed; blocks = sym gone i })) (room_with capacity (free_blocks (volume_of content)) (volume_of content)))
      ∙ is in
      let sizes : parts_for (volume_of content).head.total_blocks 4096 ≡ sectors_for (length v.map.used) = omega (arith, ap (λ (l : VolumeState). l.head.total_blocks) settled.lists, settled.blocks) in
      omega (
        arith,
        counts_all (free_blocks (volume_of content)) capacity (volume_of content) 0 (1 + change.records) change.freed n grow cost_is,
        load_grown attributes_key (1 + change.records) (growth (volume_of content).head.block_size attributes_key tree (1 + change.records)) tree,
        counted,
        ap (λ k. min k change.freed) sizes,
      )

pub drop_spent : (v : Volume) (content : Content) → IsSettled v content → (before after : ℕ) → before ≤ after + remove_load v → (shrunk : Option ℕ) (id : ℕ) → next_reclaim (volume_of content) shrunk ≡ Some (DropOrphan id) → PutsNext (capacity_of v) shrunk (volume_of content) before after
unfolding reclaim_cost_with
drop_spent v content settled before after less shrunk id next = inr (DropOrphan id, next, λ load grow is. omega (arith, less, drop_counts v content settled (capacity_of v) load grow is))

pub bare_spent : (v : Volume) (content : Content) → IsSettled v content → IsTrue (has_attributes v.header) → (change : ValueChange) (before after : ℕ) → before ≤ after + strip_load change v → (shrunk : Option ℕ) (id : ℕ) (name : List ℕ) → change ≡ value_change (volume_of content) id name 0
    → next_reclaim (volume_of content) shrunk ≡ Some (DropAttribute id name) → PutsNext (capacity_of v) shrunk (volume_of content) before after
bare_spent v content settled has change before after less shrunk id name same next =
    inr (
      DropAttribute id name,
      next,
      λ load grow is.
          omega (arith, less, bare_counts v content settled (capacity_of v) has change load grow (ap (λ (c : ValueChange). c.blocks) same) (sym (bare_cost_by (capacity_of v) (free_blocks (volume_of content)) content change id name same) ∙ is)),
    )

-- ---- the edit of the attributes file

after_rise : (room wide depth records : ℕ) → (top_after room wide depth records).depth ≤ depth + 1
after_rise room wide zero records = omega arith
after_rise room wide (suc zero) records = omega arith
after_rise room wide (suc (suc above)) records = by (nat_lt room (wide * (records + 1)))
  where
    depth_in : TreeTop → ℕ
    depth_in top = top.depth

    by : (b : Bool) → depth_in (if b then record { depth = suc (suc (suc above)); records = 2 } else record { depth = suc (suc above); records = records + 1 }) ≤ suc (suc above) + 1
    by true = omega arith
    by false = omega arith

tops_rise : (room wide edits : ℕ) (top : TreeTop) → (tops room wide edits top).depth ≤ top.depth + edits
tops_rise room wide zero top = omega arith
tops_rise room wide (suc edits) top = omega (arith, tops_rise room wide edits (top_after room wide top.depth top.records), after_rise room wide top.depth top.records)

-- told, the edits take what is counted
pub bare_taken : EditsTakeTheirLoad → (many : ℕ) (v w : Volume) (a b : Space) → IsTrue a.tells → 4096 ≤ v.attributes.file.shape.node_size → TakesAtMost many 266 (state_of [] v.attributes.file a) (state_of [] w.attributes.file b) → a.spare ≤ b.spare + tree_load attributes_key (attributes_cost v) many 0
bare_taken law many v w a b tells large takes =
    let size : 3 * (266 + 8) ≤ v.attributes.file.shape.node_size - 16 = omega (arith, large) in
    let costs = takes tells (v.attributes.file.shape.depth + many) (tops_rise _ _ many _) in
    let grown : HasGrown (attributes_cost v) 0 (state_of [] v.attributes.file a) = record { node_size = refl; depth = refl; records = refl; total = omega arith; free = omega arith } in
    let written : IsWrittenByGrowth (attributes_cost v) 0 0 (state_of [] v.attributes.file a) = record {
      few = omega arith;
      others = omega (arith, count_by-le-length (λ n. not (is_written v.attributes.file a.put n)) (range_with_len 0 v.attributes.file.shape.total), length-range_with_len 0 v.attributes.file.shape.total);
    } in
    omega (arith, law attributes_key many 0 0 (attributes_cost v) (state_of [] v.attributes.file a) (state_of [] w.attributes.file b) tells size grown written costs.same takes)

-- ---- by its load

-- what a cut puts doesn't hang on the blocks that are free
puts_any : (capacity : ℕ) (volume : VolumeState) (one other : List Bool) → cut_puts (room_with capacity one volume) ≡ cut_puts (room_with capacity other volume)
unfolding room_with
puts_any capacity volume one other = refl

-- a cut puts no more than its load
cut_within : (capacity : ℕ) (volume : VolumeState) (free : List Bool) (n : ℕ) (grow : List ℕ) → cut_cost (room_with capacity free volume) ≡ cost.Load n grow → cut_puts (room_with capacity (free_blocks volume) volume) ≤ n
cut_within capacity volume free n grow is = omega (arith, load_is _ (cut_load (room_with capacity free volume)) n _ grow is, puts_any capacity volume free (free_blocks volume))

step_within : (capacity : ℕ) (volume : VolumeState) (step : Reclaim) (before after load : ℕ) (grow : List ℕ) → PutsStep capacity volume step before after → reclaim_cost capacity volume step ≡ cost.Load load grow → before ≤ after + load
unfolding reclaim_cost_with
step_within capacity volume (CutShrunk id) before after load grow puts is = omega (arith, puts, cut_within capacity volume (free_blocks volume) load grow is)
step_within capacity volume (CutOrphan id kind) before after load grow puts is = omega (arith, puts, cut_within capacity volume (free_blocks volume) load grow is)
step_within capacity volume (DropAttribute id name) before after load grow puts is = puts load grow is
step_within capacity volume (DropOrphan id) before after load grow puts is = puts load grow is

one_step : (step other : Reclaim) (o : Option Reclaim) → o ≡ Some step → o ≡ Some other → step ≡ other
one_step step other o first second = let same : Some step ≡ Some other = sym first ∙ second in cc same

pub next_within : (capacity : ℕ) (shrunk : Option ℕ) (volume : VolumeState) (before after : ℕ) → PutsNext capacity shrunk volume before after → TakesNextLoad capacity shrunk volume before after
next_within capacity shrunk volume before after (inl none) step load grow next is = omega (arith, none)
next_within capacity shrunk volume before after (inr (found, at, puts)) step load grow next is =
    step_within capacity volume step before after load grow (subst (λ s. PutsStep capacity volume s before after) (one_step found step (next_reclaim volume shrunk) at next) puts) is

-- ---- a cut ahead of data

-- behind reads
pub cut_behind : (before between : Content) → between ≡ before → (capacity first : ℕ) → first ≡ capacity → (spare left : ℕ) → left ≡ spare → (after : ℕ) → PutsCut first (volume_of between) left after → PutsCut capacity (volume_of before) spare after
cut_behind before between same capacity first one spare left three after was =
    subst (λ (k : Content × ℕ × ℕ). PutsCut k.1 (volume_of k.0) k.2 after) {x = (between, first, left)} {y = (before, capacity, spare)} (λ i. (same i, one i, three i)) was

-- no more than its load
pub ahead_within : (capacity : ℕ) (volume : VolumeState) (before after : ℕ) → PutsCut capacity volume before after → TakesCutLoad capacity volume before after
ahead_within capacity volume before after puts free load grow costs = omega (arith, puts, cut_within capacity volume free load grow costs)
