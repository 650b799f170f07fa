-- One edit of the extents overflow file costs no more than a plan that has one and no growth of it, and a growth leaves that much of a load.
use Rattle.std.proofs.Common.{◌≡◌, ◌<◌, ◌≤◌, ℕ, ◌+◌, ◌-◌, ◌*◌, ◌/◌, min, ⊎_elim, Bool, true, false, List, [], ◌∷◌, sym, refl, ◌∙◌, ap, subst, arith, le-ltb, mul-le-mul, mul-le-mul_right}
use Rattle.std.proofs.Math.Nat.{mul_comm}
use Rattle.std.specs.Prelude.{◌==◌, ◌&&◌, nat_lt, not, slice_index, Option, None, if◌then◌else◌}
use Rattle.std.proofs.lemmas.Bool.{cases_eq, le-leb, ne_eqb}
use Rattle.hfs_language.specs.declared.refusal.Refusal.{Refusal}
use Rattle.hfs_language.specs.declared.refusal.Refusal.TheVariants as refusal
use Rattle.hfs_volume.specs.Cost.{Plan, attributes_key, bitmap_load, catalog_key, cost_of, cost_or, deep_refusal, depth_of, extents_key, first_refusal, growth, growth_blocks, is_too_deep, load_of, load_refusal, need, new_maps, node_sectors, plan_of, resource_refusal, rises, takes_extent, tree_at, tree_load, where_}
use Rattle.btree_file.specs.declared.tree.TreeFile.{TreeFile}
use Rattle.sector_disk.specs.Space.{Space}
use Rattle.hfs_volume.specs.Weight.{cost_of_tree}
use Rattle.volume_base.specs.Lists.{facts_on}
use Rattle.volume_space.specs.Growing.{maps_among, nodes_load}
use Rattle.volume_space.proofs.GrowthCounted.{maps_low}
use Rattle.volume_space.proofs.GrowthUnits.{past_maps}
use Rattle.btree_file.specs.FrameLaws.{state_well_formed}
use Rattle.hfs_volume.specs.Forks.{parts_for}
use Rattle.hfs_volume.specs.declared.cost.Cost.{Cost}
use Rattle.hfs_volume.specs.declared.cost.Cost.TheVariants as cost
use Rattle.hfs_volume.specs.declared.cost.Needs.{Needs}
use Rattle.hfs_volume.specs.declared.cost.Room.{Room}
use Rattle.hfs_volume.specs.declared.cost.TreeCost.{TreeCost}
use Rattle.tree_weights.specs.Weights.{GrowsByEnough, HoldsThree, IsAfforded}
use Rattle.volume_space.specs.Spreading.{is_met_extents, needs_extents}
use Rattle.volume_space.proofs.FewerEdits.{growth_low, load_low, no_blocks, none_lacks, not_deep}

-- ---- the growing tree's load holds a node more than its growth puts

and_false : (b : Bool) → (b && false) ≡ false
and_false true = refl
and_false false = refl

pub load_holds_more : (key edits more : ℕ) (tree : TreeCost) → 0 < more → 0 < edits → 3 + new_maps tree more ≤ tree.nodes + more → (3 + new_maps tree more) * node_sectors tree ≤ tree_load key tree edits more
load_holds_more key edits more tree some edited nodes =
    let none : (more == 0) ≡ false = ne_eqb more 0 (λ e. omega (arith, e, some)) in
    let is : tree_load key tree edits more ≡ node_sectors tree * min (edits * (4 * (depth_of tree + 2 + rises key tree edits) + 4) + (2 + new_maps tree more)) (tree.nodes + more) =
    ap (λ b. if (edits == 0) && b then 0 else node_sectors tree * min (edits * (4 * (depth_of tree + 2 + rises key tree edits) + 4) + (if b then 0 else 2 + new_maps tree more)) (tree.nodes + more)) none
    ∙ ap (λ b. if b then 0 else node_sectors tree * min (edits * (4 * (depth_of tree + 2 + rises key tree edits) + 4) + (2 + new_maps tree more)) (tree.nodes + more)) (and_false (edits == 0)) in
    let writes : 1 * 4 ≤ edits * (4 * (depth_of tree + 2 + rises key tree edits) + 4) = mul-le-mul {n₁ = 1} {m₁ = 4} {n₂ = edits} {m₂ = 4 * (depth_of tree + 2 + rises key tree edits) + 4} (omega (arith, edited)) (omega arith) in
    let low : 3 + new_maps tree more ≤ min (edits * (4 * (depth_of tree + 2 + rises key tree edits) + 4) + (2 + new_maps tree more)) (tree.nodes + more) = omega (arith, nodes, writes) in
    subst (λ n. (3 + new_maps tree more) * node_sectors tree ≤ n) (mul_comm (min (edits * (4 * (depth_of tree + 2 + rises key tree edits) + 4) + (2 + new_maps tree more)) (tree.nodes + more)) (node_sectors tree) ∙ sym is) (mul-le-mul_right (node_sectors tree) low)

-- ---- what one edit costs

module _ (needs : Needs) (room : Room) (load : ℕ) (grow : List ℕ) (afforded : IsAfforded needs room load grow) (enough : GrowsByEnough) (three : HoldsThree extents_key (tree_at room 0)) (edited : 1 ≤ slice_index (plan_of needs room).edits 0) (none : slice_index (plan_of needs room).grow 0 ≡ 0) where
  one_none : growth room.block extents_key (tree_at room 0) 1 ≡ 0
  one_none = growth_low extents_key 1 (slice_index (plan_of needs room).edits 0) (tree_at room 0) three edited room.block enough none

  one_deep : is_too_deep extents_key (tree_at room 0) 1 ≡ false
  one_deep = not_deep extents_key 1 (slice_index (plan_of needs room).edits 0) (tree_at room 0) three edited afforded.extents

  pub one_low : tree_load extents_key (tree_at room 0) 1 0 ≤ tree_load extents_key (tree_at room 0) (slice_index (plan_of needs room).edits 0) (slice_index (plan_of needs room).grow 0)
  one_low = subst (λ n. tree_load extents_key (tree_at room 0) 1 0 ≤ tree_load extents_key (tree_at room 0) (slice_index (plan_of needs room).edits 0) n) (sym none) (load_low extents_key 1 (slice_index (plan_of needs room).edits 0) (tree_at room 0) three edited)

  planned : ℕ → ℕ → Plan
  planned c t = record {
    edits = (1 + takes_extent (tree_at room 1) c + takes_extent (tree_at room 2) t) ∷ 0 ∷ 0 ∷ [];
    grow = growth room.block extents_key (tree_at room 0) (1 + takes_extent (tree_at room 1) c + takes_extent (tree_at room 2) t) ∷ c ∷ t ∷ [];
  }

  abbrev one : Plan
  one = record { edits = 1 ∷ 0 ∷ 0 ∷ []; grow = 0 ∷ 0 ∷ 0 ∷ [] }

  plan_is : plan_of (needs_extents 1) room ≡ one
  unfolding planned
  plan_is = (λ i. planned (none_lacks room.block catalog_key (tree_at room 1) i) (none_lacks room.block attributes_key (tree_at room 2) i)) ∙ (λ i. record { edits = 1 ∷ 0 ∷ 0 ∷ []; grow = one_none i ∷ 0 ∷ 0 ∷ [] })

  blocks_none : growth_blocks one room ≡ 0
  blocks_none = omega (arith, no_blocks room.block (tree_at room 0), no_blocks room.block (tree_at room 1), no_blocks room.block (tree_at room 2))

  bitmap_none : bitmap_load (needs_extents 1) room (growth_blocks one room) ≡ 0
  bitmap_none = ap (bitmap_load (needs_extents 1) room) blocks_none ∙ none_least (parts_for room.total 4096)
    where
      none_least : (n : ℕ) → min n 0 ≡ 0
      none_least n = omega arith

  load_one : load_of (needs_extents 1) room one ≡ 1 + tree_load extents_key (tree_at room 0) 1 0
  unfolding load_of
  load_one = omega (arith, bitmap_none)

  load_part : 1 + tree_load extents_key (tree_at room 0) (slice_index (plan_of needs room).edits 0) (slice_index (plan_of needs room).grow 0) ≤ load_of needs room (plan_of needs room)
  unfolding load_of
  load_part = omega arith

  within : load_of (needs_extents 1) room one ≤ room.capacity
  within = omega (arith, load_one, one_low, load_part, afforded.sectors, afforded.within)

  nothing_missing : resource_refusal (needs_extents 1) room one ≡ None
  nothing_missing =
      (λ i. first_refusal
      (where_ (le-ltb 4294967295 (room.next_id + 0) (omega (arith, afforded.ids)) i) (refusal.NoIds room.next_id)
      ∷ where_ (one_deep i) (refusal.TooDeep (tree_at room 0).depth)
      ∷ deep_refusal catalog_key (tree_at room 1) 0
      ∷ deep_refusal attributes_key (tree_at room 2) 0
      ∷ where_ (not (0 == 0) && ((tree_at room 0).extents == 8)) (refusal.OverflowFull 8)
      ∷ where_ (le-ltb room.free (0 + growth_blocks one room) (omega (arith, blocks_none)) i) (refusal.NoSpace room.free (0 + growth_blocks one room))
      ∷ where_ (not (growth_blocks one room == 0) && nat_lt room.longest (0 + growth_blocks one room)) (refusal.NoRun room.longest (0 + growth_blocks one room))
      ∷ load_refusal (load_of (needs_extents 1) room one) room.capacity
      ∷ []))
      ∙ (λ i. first_refusal
      (where_ (not (blocks_none i == 0) && nat_lt room.longest (0 + blocks_none i)) (refusal.NoRun room.longest (0 + blocks_none i))
      ∷ where_ (le-ltb room.capacity (load_of (needs_extents 1) room one) within i) (refusal.TooBig (load_of (needs_extents 1) room one) room.capacity)
      ∷ []))

  cost_is : cost_of (needs_extents 1) room ≡ cost.Load (load_of (needs_extents 1) room one) (0 ∷ 0 ∷ 0 ∷ [])
  unfolding cost_of
  cost_is =
      ap (λ (p : Plan). cost_or (resource_refusal (needs_extents 1) room p) (load_of (needs_extents 1) room p) p.grow) plan_is
      ∙ ap (λ (r : Option Refusal). cost_or r (load_of (needs_extents 1) room one) (0 ∷ 0 ∷ 0 ∷ [])) nothing_missing

  pub one_met : (spare : ℕ) → 1 + tree_load extents_key (tree_at room 0) 1 0 ≤ spare → is_met_extents (cost_of (needs_extents 1) room) spare ≡ true
  one_met spare fits = ap (λ (c : Cost). is_met_extents c spare) cost_is ∙ le-leb (load_of (needs_extents 1) room one) spare (omega (arith, load_one, fits))

-- ---- a file

past_one : (k n : ℕ) → 0 < n → k * n + 1 ≤ (1 + k) * n
past_one k n some = omega (arith, some)

module _ (file : TreeFile) (a : Space) (extents block key edits more : ℕ) (law : GrowsByEnough) (three : HoldsThree key (cost_of_tree (facts_on file) extents)) (is : more ≡ growth block key (cost_of_tree (facts_on file) extents) edits) (some : 0 < more) where
  pub edited : 0 < edits
  edited = ⊎_elim
      (λ none. absurd (omega (arith, some, is ∙ ap (λ e. growth block key (cost_of_tree (facts_on file) extents) e) none ∙ none_lacks block key (cost_of_tree (facts_on file) extents))))
      (λ other. omega (arith, other))
      (cases_eq edits 0)

  past : new_maps (cost_of_tree (facts_on file) extents) more + 1 ≤ more
  past = subst (λ m. new_maps (cost_of_tree (facts_on file) extents) m + 1 ≤ m) (sym is) (past_maps block key (cost_of_tree (facts_on file) extents) edits law three (subst (λ m. 0 < m) is some))

  enough_nodes : 3 + new_maps (cost_of_tree (facts_on file) extents) more ≤ (cost_of_tree (facts_on file) extents).nodes + more
  enough_nodes =
      let here : need key (cost_of_tree (facts_on file) extents) edits ≤ file.shape.free + (more - new_maps (cost_of_tree (facts_on file) extents) more) = subst (λ m. need key (cost_of_tree (facts_on file) extents) edits ≤ file.shape.free + (m - new_maps (cost_of_tree (facts_on file) extents) m)) (sym is) (law block key edits (cost_of_tree (facts_on file) extents) three) in
      let takes : 1 * 3 ≤ edits * (depth_of (cost_of_tree (facts_on file) extents) + 2 + rises key (cost_of_tree (facts_on file) extents) edits) =
      mul-le-mul {n₁ = 1} {m₁ = 3} {n₂ = edits} {m₂ = depth_of (cost_of_tree (facts_on file) extents) + 2 + rises key (cost_of_tree (facts_on file) extents) edits} (omega (arith, edited)) (omega arith) in
      omega (arith, here, takes, past, (state_well_formed [] file a).free)

  pub nodes_more : 512 ≤ file.shape.node_size → nodes_load file more + 1 ≤ tree_load key (cost_of_tree (facts_on file) extents) edits more
  nodes_more least =
      let low : (3 + maps_among file more) * (file.shape.node_size / 512) ≤ (3 + new_maps (cost_of_tree (facts_on file) extents) more) * (file.shape.node_size / 512) = mul-le-mul_right (file.shape.node_size / 512) (omega (arith, maps_low file extents block key edits more law three is some least)) in
      let high : (3 + new_maps (cost_of_tree (facts_on file) extents) more) * (file.shape.node_size / 512) ≤ tree_load key (cost_of_tree (facts_on file) extents) edits more = load_holds_more key edits more (cost_of_tree (facts_on file) extents) some edited enough_nodes in
      omega (arith, low, high, past_one (2 + maps_among file more) (file.shape.node_size / 512) (omega (arith, least)))
