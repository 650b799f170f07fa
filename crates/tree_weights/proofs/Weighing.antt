-- The laws of weights.
use Rattle.std.proofs.Common.{◌≡◌, ◌⊎◌, ◌<◌, ◌≤◌, ℕ, zero, suc, ◌+◌, ◌-◌, ◌*◌, ◌/◌, ◌^◌, Bool, true, false, List, [], ◌∷◌, length, inl, inr, refl, sym, ◌∙◌, ap, subst, arith}
use Rattle.std.specs.Prelude.{◌==◌, ◌&&◌, ◌||◌, not, nat_lt, nat_le, min, max, slice_index, Option, Some, None, is_some, if◌then◌else◌}
use Rattle.std.specs.List.{AllByRecursion}
use Rattle.std.proofs.lemmas.Bool.{eqb-true, ltb-false, true≢false}
use Rattle.std.proofs.lemmas.Nat.{le-div}
use Rattle.std.proofs.Math.Nat.{mul-le-mul_left}
use Rattle.btree_node.specs.MemLaws.{whole_sectors}
use Rattle.btree_node.specs.Node.{items}
use Rattle.btree_node.specs.Store.{unwritten_sectors}
use Rattle.btree_edit.specs.Editing.{edit_writes}
use Rattle.btree_edit.specs.Edits.{top_of, tops}
use Rattle.btree_edit.specs.LevelEdit.{node_room}
use Rattle.hfs_language.specs.declared.refusal.Refusal.{Refusal}
use Rattle.hfs_language.specs.declared.refusal.Refusal.TheVariants as refusal
use Rattle.hfs_volume.specs.Cost.{depth_of, rises, need, missing, growth, growth_for, new_maps, growth_writes, tree_load, node_sectors, is_too_deep, tree_at, plan_of, growth_blocks, load_of, cost_of, cost_or, resource_refusal, first_refusal, where_, extents_key, catalog_key, attributes_key}
use Rattle.hfs_volume.specs.Weight.{changes_nothing, edits_of, data_of, needs_for, needs_cut, lacks_tree, room_with, weight_with, values_of, with_values}
use Rattle.hfs_model.specs.Step.{only_reads}
use Rattle.hfs_volume.specs.declared.cost.Cost.{Cost}
use Rattle.hfs_volume.specs.declared.cost.Cost.TheVariants as cost
use Rattle.hfs_volume.specs.declared.cost.TreeCost.{TreeCost}
use Rattle.tree_weights.specs.Weights.{deepest_of, HasGrown, IsWrittenByGrowth, GoAsDeepAsCounted, GrowsByEnough, EditsHaveRoom, EditsTakeTheirLoad, LoadSaysEnough, WeightSaysEnough, CommandsHaveRoom, LoadIsOfParts, key_at}
use Rattle.tree_weights.proofs.Heights.{low}
use Rattle.tree_weights.proofs.Growths.{grown_enough}

-- ---- tests

-- where edits aren't too many, the last two tests of it fail
last_two : (a b c d : Bool) → (not a && (b || c || d)) ≡ false → a ≡ false → (c ≡ false) × (d ≡ false)
last_two false false false false is none = (refl, refl)
last_two false false false true is none = absurd (true≢false is)
last_two false false true d is none = absurd (true≢false is)
last_two false true c d is none = absurd (true≢false is)
last_two true b c d is none = absurd (true≢false none)

either_false : (a b : Bool) → (not a && b) ≡ false → (a ≡ true) ⊎ (b ≡ false)
either_false true b is = inl refl
either_false false b is = inr is

-- ---- one tree

pub as_deep_law : GoAsDeepAsCounted
as_deep_law key edits more tree store tells holds grown =
    subst (λ n. (tops (node_room store.shape.node_size) (key + 8) edits (top_of store)).depth ≤ max n 1 + 1 + edits / ((tree.node_size - 16) / (key + 8) - 2)) grown.depth
    (subst (λ n. (tops (node_room store.shape.node_size) (key + 8) edits (top_of store)).depth ≤ max store.shape.depth 1 + 1 + edits / ((n - 16) / (key + 8) - 2)) grown.node_size
    (low (node_room store.shape.node_size) (key + 8) (omega arith) (subst (λ n. 3 * (key + 8) ≤ n - 16) (sym grown.node_size) holds) edits store.shape.depth (max 1 (length (items (store.nodes store.shape.root))))))

pub grows_law : GrowsByEnough
grows_law block key edits tree holds = by_test (missing key tree edits == 0) refl
  where
    by_test : (b : Bool) → (missing key tree edits == 0) ≡ b
        → need key tree edits ≤ tree.unused + ((if b then 0 else growth_for block tree (missing key tree edits)) - new_maps tree (if b then 0 else growth_for block tree (missing key tree edits)))
    by_test true is = let none = eqb-true (missing key tree edits) 0 is in omega (arith, none)
    by_test false is = let it = grown_enough block tree (missing key tree edits) (omega (arith, holds)) in omega (arith, it)

-- nodes that the edits write, and those that the growth wrote, are counted
counted : (key edits more nodes written : ℕ) (tree : TreeCost) → nodes ≤ edits * edit_writes (deepest_of key tree edits) → nodes + written ≤ tree.nodes + more → written ≤ growth_writes tree more
    → (nodes + written) * node_sectors tree ≤ tree_load key tree edits more
counted key edits more nodes written tree few all by_growth = by_test (edits == 0) (more == 0) refl refl
  where
    most : ℕ
    most = edits * (4 * (depth_of tree + 2 + rises key tree edits) + 4)

    same_most : edits * edit_writes (deepest_of key tree edits) ≡ most
    same_most = let it : edit_writes (deepest_of key tree edits) ≡ 4 * (depth_of tree + 2 + rises key tree edits) + 4 = omega arith in ap (λ n. edits * n) it

    whole : (nodes + written) * node_sectors tree ≤ node_sectors tree * min (most + growth_writes tree more) (tree.nodes + more)
    whole =
        let least : nodes + written ≤ min (most + growth_writes tree more) (tree.nodes + more) = omega (arith, few, all, by_growth, same_most) in
        let it = mul-le-mul_left (node_sectors tree) least in
        omega (arith, it)

    by_test : (a b : Bool) → (edits == 0) ≡ a → (more == 0) ≡ b
        → (nodes + written) * node_sectors tree ≤ (if a && b then 0 else node_sectors tree * min (most + growth_writes tree more) (tree.nodes + more))
    by_test true true no_edit no_growth =
        let none : edits ≡ 0 = eqb-true edits 0 no_edit in
        let no_write : growth_writes tree more ≡ 0 = ap (λ b. if b then 0 else 2 + new_maps tree more) no_growth in
        let no_node = ap (λ n. n * edit_writes (deepest_of key tree edits)) none in
        let nothing : nodes + written ≡ 0 = omega (arith, few, by_growth, no_write, no_node) in
        let it = ap (λ n. n * node_sectors tree) nothing in
        omega (arith, it)
    by_test true false no_edit growing = whole
    by_test false b some grows = whole

pub room_law : EditsHaveRoom
room_law block key edits written tree store tells formed holds low_records not_deep grown by_growth enough = record {
  deepest = deepest_of key tree edits;
  deep = as_deep_law key edits (growth block key tree edits) tree store tells holds grown;
  depth = λ some. let it = ltb-false 11 (depth_of tree + 1 + rises key tree edits) (tests (has_edit some)).0 in omega (arith, it);
  records = by_edits (edits == 0) refl;
  free =
      let it = grows_law block key edits tree holds in
      let same : deepest_of key tree edits + 1 ≡ depth_of tree + 2 + rises key tree edits = omega arith in
      let product = ap (λ n. edits * n) same in
      omega (arith, it, grown.free, product);
  writes = subst (λ n. min (edits * edit_writes (deepest_of key tree edits)) store.unwritten ≤ n) (sym formed.writes_left)
      (le-div (min (edits * edit_writes (deepest_of key tree edits)) store.unwritten) store.sectors_left (store.shape.node_size / 512) (whole_sectors store.shape.node_size formed.node_size).0 fits);
}
  where
    has_edit : 0 < edits → (edits == 0) ≡ false
    has_edit some = by_test (edits == 0) refl
      where
        by_test : (b : Bool) → (edits == 0) ≡ b → b ≡ false
        by_test true is = absurd (omega (arith, eqb-true edits 0 is, some))
        by_test false is = refl

    tests : (edits == 0) ≡ false → (nat_lt 11 (depth_of tree + 1 + rises key tree edits) ≡ false) × (nat_lt 4294967295 (tree.records + edits) ≡ false)
    tests some = last_two (edits == 0) (nat_le 8 tree.depth) (nat_lt 11 (depth_of tree + 1 + rises key tree edits)) (nat_lt 4294967295 (tree.records + edits)) not_deep some

    by_edits : (b : Bool) → (edits == 0) ≡ b → store.shape.leaf_records + edits ≤ 2 ^ 32 - 1
    by_edits true is = let none = eqb-true edits 0 is in omega (arith, none, grown.records, low_records)
    by_edits false is = let it = ltb-false 4294967295 (tree.records + edits) (tests is).1 in omega (arith, it, grown.records)

    fits : min (edits * edit_writes (deepest_of key tree edits)) store.unwritten * (store.shape.node_size / 512) ≤ store.sectors_left
    fits =
        let it = counted key edits (growth block key tree edits) (min (edits * edit_writes (deepest_of key tree edits)) store.unwritten) written tree (omega arith) (omega (arith, by_growth.others)) by_growth.few in
        let size = ap (λ n. min (edits * edit_writes (deepest_of key tree edits)) store.unwritten * (n / 512)) grown.node_size in
        omega (arith, it, size, enough)

pub load_law : EditsTakeTheirLoad
unfolding unwritten_sectors
load_law key edits more written tree old new tells holds grown by_growth same takes =
    let costs = takes tells (deepest_of key tree edits) (as_deep_law key edits more tree old tells holds grown) in
    let it = counted key edits more (old.unwritten - new.unwritten) written tree (omega (arith, costs.some)) (omega (arith, by_growth.others)) by_growth.few in
    let old_size = ap (λ n. old.unwritten * (n / 512)) grown.node_size in
    let new_size = ap (λ n. new.unwritten * (n / 512)) (same.node_size ∙ grown.node_size) in
    let parts : old.unwritten ≡ new.unwritten + (old.unwritten - new.unwritten) = omega (arith, costs.fewer) in
    let product = ap (λ n. n * node_sectors tree) parts in
    omega (arith, costs.sectors, it, old_size, new_size, product)

-- ---- commands

abbrev load_in : Cost → ℕ
load_in (cost.Load load grow) = load
load_in (cost.Refused why) = 0

abbrev grow_in : Cost → List ℕ
grow_in (cost.Load load grow) = grow
grow_in (cost.Refused why) = []

abbrev is_load : Cost → Bool
is_load (cost.Load load grow) = true
is_load (cost.Refused why) = false

pub of_cost : (refused : Option Refusal) (counted_ load : ℕ) (grown grow : List ℕ) → cost_or refused counted_ grown ≡ cost.Load load grow → (refused ≡ None) × (counted_ ≡ load) × (grown ≡ grow)
of_cost None counted_ load grown grow is = (refl, ap load_in is, ap grow_in is)
of_cost (Some why) counted_ load grown grow is = absurd (true≢false (sym (ap is_load is)))

pub not_some : {X : Type 0} (x : X) → Some x ≡ None → ⊥
not_some x is = true≢false (ap is_some is)

-- each refusal with whether it stands
abbrev refusals : List (Bool × Refusal) → List (Option Refusal)
refusals [] = []
refusals (one ∷ rest) = where_ one.0 one.1 ∷ refusals rest

none_stands : (all : List (Bool × Refusal)) → first_refusal (refusals all) ≡ None → AllByRecursion (λ (one : Bool × Refusal). one.0 ≡ false) all
none_stands [] is = tt
none_stands (one ∷ rest) is = by_test (none_stands rest) one.0 refl is
  where
    by_test : (first_refusal (refusals rest) ≡ None → AllByRecursion (λ (it : Bool × Refusal). it.0 ≡ false) rest)
        → (b : Bool) → one.0 ≡ b → first_refusal (where_ b one.1 ∷ refusals rest) ≡ None → AllByRecursion (λ (it : Bool × Refusal). it.0 ≡ false) (one ∷ rest)
    by_test others true stands none = absurd (not_some one.1 none)
    by_test others false stands none = (stands, others none)

pub says_law : LoadSaysEnough
unfolding cost_of
says_law needs room load grow is =
    let plan = plan_of needs room in
    let blocks = growth_blocks plan room in
    let wanted = needs.new_blocks + blocks in
    let parts = of_cost (resource_refusal needs room plan) (load_of needs room plan) load plan.grow grow is in
    let none = none_stands
    ((nat_lt 4294967295 (room.next_id + needs.ids), refusal.NoIds room.next_id)
    ∷ (is_too_deep extents_key (tree_at room 0) (slice_index plan.edits 0), refusal.TooDeep (tree_at room 0).depth)
    ∷ (is_too_deep catalog_key (tree_at room 1) (slice_index plan.edits 1), refusal.TooDeep (tree_at room 1).depth)
    ∷ (is_too_deep attributes_key (tree_at room 2) (slice_index plan.edits 2), refusal.TooDeep (tree_at room 2).depth)
    ∷ (not (slice_index plan.grow 0 == 0) && ((tree_at room 0).extents == 8), refusal.OverflowFull 8)
    ∷ (nat_lt room.free wanted, refusal.NoSpace room.free wanted)
    ∷ (not (blocks == 0) && nat_lt room.longest wanted, refusal.NoRun room.longest wanted)
    ∷ (nat_lt room.capacity (load_of needs room plan), refusal.TooBig (load_of needs room plan) room.capacity)
    ∷ []) parts.0 in
    record {
      ids = ltb-false 4294967295 (room.next_id + needs.ids) none.0;
      extents = none.1.0;
      catalog = none.1.1.0;
      attributes = none.1.1.1.0;
      extents_fit = elim (either_false (slice_index plan.grow 0 == 0) ((tree_at room 0).extents == 8) none.1.1.1.1.0) [
        | inl no_growth ↦ inl (eqb-true (slice_index plan.grow 0) 0 no_growth)
        | inr fits ↦ inr (λ eight. true≢false (ap (λ n. n == 8) (sym eight) ∙ fits))
      ];
      blocks = ltb-false room.free wanted none.1.1.1.1.1.0;
      in_one_run = elim (either_false (blocks == 0) (nat_lt room.longest wanted) none.1.1.1.1.1.1.0) [
        | inl no_growth ↦ inl (eqb-true blocks 0 no_growth)
        | inr fits ↦ inr (ltb-false room.longest wanted fits)
      ];
      sectors = sym parts.1;
      within = subst (λ n. n ≤ room.capacity) parts.1 (ltb-false room.capacity (load_of needs room plan) none.1.1.1.1.1.1.1.0);
      grows = sym parts.2;
    }

unless_refused : (a b c : Bool) (x y z : Cost) (why : Refusal) (load : ℕ) (grow : List ℕ) → a ≡ false → b ≡ false → (if a then x else if b then y else if c then cost.Refused why else z) ≡ cost.Load load grow → z ≡ cost.Load load grow
unless_refused true b c x y z why load grow no_a no_b is = absurd (true≢false no_a)
unless_refused false true c x y z why load grow no_a no_b is = absurd (true≢false no_b)
unless_refused false false true x y z why load grow no_a no_b is = absurd (true≢false (sym (ap is_load is)))
unless_refused false false false x y z why load grow no_a no_b is = is

pub weight_law : WeightSaysEnough
unfolding weight_with
weight_law capacity free volume tree asked load grow changes no_cut is =
    says_law (with_values free (values_of volume tree asked) (needs_for free volume (edits_of tree asked) (data_of tree asked))) (room_with capacity free volume) load grow
    (unless_refused (only_reads asked || changes_nothing tree asked) (needs_cut volume (data_of tree asked)) (lacks_tree volume asked) _ _ (cost_of (with_values free (values_of volume tree asked) (needs_for free volume (edits_of tree asked) (data_of tree asked))) (room_with capacity free volume)) _ load grow changes no_cut is)

pub commands_law : CommandsHaveRoom
commands_law needs room load grow afforded zero written store small tells formed holds low_records grown by_growth enough =
    room_law room.block (key_at 0) (slice_index (plan_of needs room).edits 0) written (tree_at room 0) store tells formed holds low_records afforded.extents
    (subst (λ l. HasGrown (tree_at room 0) (slice_index l 0) store) afforded.grows grown) (subst (λ l. IsWrittenByGrowth (tree_at room 0) (slice_index l 0) written store) afforded.grows by_growth) enough
commands_law needs room load grow afforded (suc zero) written store small tells formed holds low_records grown by_growth enough =
    room_law room.block (key_at 1) (slice_index (plan_of needs room).edits 1) written (tree_at room 1) store tells formed holds low_records afforded.catalog
    (subst (λ l. HasGrown (tree_at room 1) (slice_index l 1) store) afforded.grows grown) (subst (λ l. IsWrittenByGrowth (tree_at room 1) (slice_index l 1) written store) afforded.grows by_growth) enough
commands_law needs room load grow afforded (suc (suc zero)) written store small tells formed holds low_records grown by_growth enough =
    room_law room.block (key_at 2) (slice_index (plan_of needs room).edits 2) written (tree_at room 2) store tells formed holds low_records afforded.attributes
    (subst (λ l. HasGrown (tree_at room 2) (slice_index l 2) store) afforded.grows grown) (subst (λ l. IsWrittenByGrowth (tree_at room 2) (slice_index l 2) written store) afforded.grows by_growth) enough
commands_law needs room load grow afforded (suc (suc (suc place))) written store small tells formed holds low_records grown by_growth enough = absurd (omega (arith, small))

pub parts_law : LoadIsOfParts
unfolding load_of
parts_law needs room load grow afforded = omega (arith, afforded.sectors)
