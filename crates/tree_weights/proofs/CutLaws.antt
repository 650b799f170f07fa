-- The laws of cut steps, and of the trees of sound volumes.
use Rattle.std.proofs.Common.{◌≡◌, ◌<◌, ◌≤◌, ℕ, zero, suc, ◌+◌, ◌-◌, ◌*◌, ◌/◌, Bool, true, false, List, [], ◌∷◌, length, refl, sym, ◌∙◌, ap, subst, arith}
use Rattle.std.specs.Prelude.{not, nat_lt, min, count_by, None, if◌then◌else◌}
use Rattle.std.specs.List.{range_with_len}
use Rattle.std.proofs.lemmas.Bool.{ltb-false, true≢false}
use Rattle.std.proofs.lemmas.Nat.{le-div}
use Rattle.std.proofs.lemmas.List.Sums.{count_by-le-length}
use Rattle.std.proofs.lemmas.List.FromFn.{length-range_with_len}
use Rattle.std.proofs.Math.Nat.{mul-le-mul_left}
use Rattle.btree_node.specs.MemLaws.{whole_sectors}
use Rattle.btree_node.specs.Store.{Store, IsWellFormed, unwritten_sectors}
use Rattle.btree_edit.specs.Editing.{edit_writes}
use Rattle.hfs_language.specs.declared.refusal.Refusal.TheVariants as refusal
use Rattle.jnl_format.specs.Recovery.{header_of_volume}
use Rattle.hfs_volume.specs.Forks.{attributes_id, parts_for}
use Rattle.hfs_volume.specs.Content.{attributes_file, facts_of, has_attributes, volume_of}
use Rattle.hfs_volume.specs.Cost.{attributes_key, no_tree, node_sectors, tree_at, where_}
use Rattle.hfs_volume.specs.Weight.{cost_of_tree, extents_in_use, room_with, cut_load}
use Rattle.hfs_volume.specs.declared.cost.TreeCost.{TreeCost}
use Rattle.tree_weights.specs.Cutting.{TreesHoldThree, IsHeld, cut_tree_load, CutSaysEnough, CutsHaveRoom, CutsTakeTheirLoad}
use Rattle.tree_weights.specs.Weights.{HoldsThree}
use Rattle.tree_weights.proofs.Weighing.{of_cost, not_some}

holds_if : (b : Bool) (tree : TreeCost) → b ≡ true → HoldsThree attributes_key tree → HoldsThree attributes_key (if b then tree else no_tree)
holds_if true tree is holds = holds
holds_if false tree is holds = absurd (true≢false (sym is))

pub hold_three_law : TreesHoldThree
unfolding room_with volume_of
hold_three_law content capacity zero free has small there = let least = has.extents.has_form.least in omega (arith, least)
hold_three_law content capacity (suc zero) free has small there = let least = has.catalog.has_form.least in omega (arith, least)
hold_three_law content capacity (suc (suc zero)) free has small there =
    let some = there refl in
    let least = (has.attributes some).has_form.least in
    holds_if (has_attributes (header_of_volume content)) (cost_of_tree (facts_of (attributes_file content)) (extents_in_use (volume_of content) attributes_id (header_of_volume content).attributes_fork)) some (omega (arith, least))
hold_three_law content capacity (suc (suc (suc place))) free has small there = absurd (omega (arith, small))

pub cut_says_law : CutSaysEnough
cut_says_law room load grow is = by_test (nat_lt room.capacity (cut_load room)) refl
  where
    parts : (where_ (nat_lt room.capacity (cut_load room)) (refusal.TooBig (cut_load room) room.capacity) ≡ None) × (cut_load room ≡ load) × ((0 ∷ 0 ∷ 0 ∷ []) ≡ grow)
    parts = of_cost (where_ (nat_lt room.capacity (cut_load room)) (refusal.TooBig (cut_load room) room.capacity)) (cut_load room) load (0 ∷ 0 ∷ 0 ∷ []) grow is

    by_test : (b : Bool) → nat_lt room.capacity (cut_load room) ≡ b
        → (load ≤ room.capacity) × (grow ≡ 0 ∷ 0 ∷ 0 ∷ []) × (load ≡ 1 + node_sectors (tree_at room 1) + min (parts_for room.total 4096) 24 + cut_tree_load (tree_at room 0))
    by_test true large = absurd (not_some (refusal.TooBig (cut_load room) room.capacity) (ap (λ b. where_ b (refusal.TooBig (cut_load room) room.capacity)) (sym large) ∙ parts.0))
    by_test false fits = (subst (λ n. n ≤ room.capacity) parts.1 (ltb-false room.capacity (cut_load room) fits), sym parts.2, omega (arith, parts.1))

-- no more nodes are unwritten than there are
few_unwritten : (tree : TreeCost) (store : Store) → IsWellFormed store → IsHeld tree store → store.unwritten ≤ tree.nodes
few_unwritten tree store formed held =
    let some = count_by-le-length (λ (n : ℕ). not (store.written n)) (range_with_len 0 store.shape.total) in
    omega (arith, some, formed.unwritten, length-range_with_len 0 store.shape.total, held.total)

pub cut_room_law : CutsHaveRoom
cut_room_law tree store formed held enough =
    subst (λ n. min (edit_writes store.shape.depth) store.unwritten ≤ n) (sym formed.writes_left)
    (le-div (min (edit_writes store.shape.depth) store.unwritten) store.sectors_left (store.shape.node_size / 512) (whole_sectors store.shape.node_size formed.node_size).0 fits)
  where
    least : min (edit_writes store.shape.depth) store.unwritten ≤ min (edit_writes tree.depth) tree.nodes
    least = let few = few_unwritten tree store formed held in omega (arith, few, held.depth)

    fits : min (edit_writes store.shape.depth) store.unwritten * (store.shape.node_size / 512) ≤ store.sectors_left
    fits =
        let it = mul-le-mul_left (node_sectors tree) least in
        let size = ap (λ n. min (edit_writes store.shape.depth) store.unwritten * (n / 512)) held.node_size in
        omega (arith, it, size, enough)

pub cut_takes_law : CutsTakeTheirLoad
unfolding unwritten_sectors
cut_takes_law tree old new formed held costs =
    let few = few_unwritten tree old formed held in
    let least : old.unwritten - new.unwritten ≤ min (edit_writes tree.depth) tree.nodes = omega (arith, few, held.depth, costs.some) in
    let it = mul-le-mul_left (node_sectors tree) least in
    let old_size = ap (λ n. old.unwritten * (n / 512)) held.node_size in
    let new_size = ap (λ n. new.unwritten * (n / 512)) (costs.same.node_size ∙ held.node_size) in
    let parts : old.unwritten ≡ new.unwritten + (old.unwritten - new.unwritten) = omega (arith, costs.fewer) in
    let product = ap (λ n. n * node_sectors tree) parts in
    omega (arith, costs.sectors, it, old_size, new_size, product)
