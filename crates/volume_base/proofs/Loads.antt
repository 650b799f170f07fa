-- The load of a command that needs no block: the header's sector, and its nodes of the catalog, which bound what it puts.
use Rattle.std.proofs.Common.{◌≡◌, ◌≤◌, ℕ, ◌+◌, ◌*◌, ◌/◌, Bool, true, false, List, [], ◌∷◌, refl, sym, ◌∙◌, ap, subst, arith}
use Rattle.std.specs.Prelude.{Option, None, Some, Ok, if◌then◌else◌, slice_index}
use Rattle.sector_disk.specs.Lists.{Content}
use Rattle.hfs_language.specs.declared.command.Command.TheVariants as command
use Rattle.hfs_language.specs.declared.refusal.Refusal.{Refusal}
use Rattle.hfs_model.specs.Step.{Place, is_same_file, to_mv}
use Rattle.hfs_model.specs.declared.plain.PlainEntry.{PlainEntry}
use Rattle.hfs_model.specs.declared.plain.PlainTree.{PlainTree}
use Rattle.hfs_volume.specs.Content.{TreeFacts, VolumeState, volume_of}
use Rattle.hfs_volume.specs.Cost.{catalog_key, cost_of, cost_or, growth, growth_for, load_of, plan_of, resource_refusal, tree_load}
use Rattle.hfs_volume.specs.Forks.{catalog_id}
use Rattle.hfs_volume.specs.Weight.{Edits, cost_of_tree, edits, extents_in_use, free_blocks, moves_onto_itself, mv_edits, needs_for, place_edits, room_with, weight, weight_with}
use Rattle.hfs_volume.specs.declared.cost.Cost.{Cost}
use Rattle.hfs_volume.specs.declared.cost.Cost.TheVariants as cost
use Rattle.hfs_volume.specs.declared.cost.Needs.{Needs}
use Rattle.hfs_volume.specs.declared.cost.Room.{Room}
use Rattle.volume_base.specs.Changing.{catalog_node}
use Rattle.volume_base.specs.Making.{catalog_cost, entry_load, make_load, making}
use Rattle.volume_base.specs.Moving.{move_load}
use Rattle.volume_base.specs.Standing.{IsSettled}
use Rattle.volume_base.specs.declared.volume.Volume.{Volume}

load_in : ℕ → Cost → ℕ
load_in other (cost.Load n grow) = n
load_in other (cost.Refused why) = other

-- a load is the one that was counted
pub load_is : (r : Option Refusal) (counted n : ℕ) (grow told : List ℕ) → cost_or r counted grow ≡ cost.Load n told → n ≡ counted
unfolding load_in
load_is None counted n grow told is = sym (ap (load_in n) is)
load_is (Some why) counted n grow told is = absurd (let no : cost.Refused why ≡ cost.Load n told = is in cc no)

-- the load of so many updates, and of nothing else
pub counts : (free : List Bool) (capacity : ℕ) (volume : VolumeState) (many : Edits) (n : ℕ) (grow : List ℕ) → cost_of (needs_for free volume many None) (room_with capacity free volume) ≡ cost.Load n grow
    → 1 + many.updates * (volume.catalog_tree.shape.node_size / 512) ≤ n
unfolding cost_of load_of room_with
counts free capacity volume many n grow is =
    let needs : Needs = needs_for free volume many None in
    let room : Room = room_with capacity free volume in
    omega (
      arith,
      load_is (resource_refusal (needs_for free volume many None) (room_with capacity free volume) (plan_of (needs_for free volume many None) (room_with capacity free volume)))
          (load_of (needs_for free volume many None) (room_with capacity free volume) (plan_of (needs_for free volume many None) (room_with capacity free volume))) n _ grow is,
    )

-- `at` and `chmod`
pub at_load : (capacity moment : ℕ) (volume : VolumeState) (tree : PlainTree) (n : ℕ) (grow : List ℕ) → weight capacity volume tree (command.At moment) ≡ cost.Load n grow → 1 ≤ n
unfolding weight_with
at_load capacity moment volume tree n grow is = omega (arith, counts (free_blocks volume) capacity volume (edits 0 0 0 0) n grow is)

pub chmod_load : (v : Volume) (content : Content) → IsSettled v content → (capacity rights : ℕ) (path : List (List ℕ)) (tree : PlainTree) (n : ℕ) (grow : List ℕ) → weight capacity (volume_of content) tree (command.Chmod path rights) ≡ cost.Load n grow
    → catalog_node v ≤ n
unfolding weight_with
chmod_load v content settled capacity rights path tree n grow is =
    omega (arith, counts (free_blocks (volume_of content)) capacity (volume_of content) (edits 0 0 0 1) n grow is, ap (λ (l : VolumeState). l.catalog_tree.shape.node_size / 512) settled.lists)

-- ---- `mkdir` and `create`

-- how a tree grows doesn't hang on the extents of its file
pub growth_any : (block key edits one other : ℕ) (facts : TreeFacts) → growth block key (cost_of_tree facts one) edits ≡ growth block key (cost_of_tree facts other) edits
unfolding growth_for
growth_any block key edits one other facts = refl

-- the load of so many updates and edits of the catalog
pub counts_edits : (free : List Bool) (capacity : ℕ) (volume : VolumeState) (many : Edits) (n : ℕ) (grow : List ℕ) → cost_of (needs_for free volume many None) (room_with capacity free volume) ≡ cost.Load n grow
    → 1 + many.updates * (volume.catalog_tree.shape.node_size / 512)
    + tree_load catalog_key (cost_of_tree volume.catalog_tree (extents_in_use volume catalog_id volume.head.catalog_fork)) many.catalog
    (growth volume.head.block_size catalog_key (cost_of_tree volume.catalog_tree (extents_in_use volume catalog_id volume.head.catalog_fork)) many.catalog) ≤ n
unfolding cost_of load_of room_with
counts_edits free capacity volume many n grow is =
    omega (
      arith,
      load_is (resource_refusal (needs_for free volume many None) (room_with capacity free volume) (plan_of (needs_for free volume many None) (room_with capacity free volume)))
          (load_of (needs_for free volume many None) (room_with capacity free volume) (plan_of (needs_for free volume many None) (room_with capacity free volume))) n _ grow is,
    )

making_counts : (capacity : ℕ) (volume : VolumeState) (folder : Bool) (path : List (List ℕ)) (tree : PlainTree) (n : ℕ) (grow : List ℕ) → weight capacity volume tree (making folder path) ≡ cost.Load n grow
    → 1 + 1 * (volume.catalog_tree.shape.node_size / 512)
    + tree_load catalog_key (cost_of_tree volume.catalog_tree (extents_in_use volume catalog_id volume.head.catalog_fork)) 2
    (growth volume.head.block_size catalog_key (cost_of_tree volume.catalog_tree (extents_in_use volume catalog_id volume.head.catalog_fork)) 2) ≤ n
unfolding weight_with
making_counts capacity volume true path tree n grow is = counts_edits (free_blocks volume) capacity volume (edits 1 2 0 1) n grow is
making_counts capacity volume false path tree n grow is = counts_edits (free_blocks volume) capacity volume (edits 1 2 0 1) n grow is

pub make_load_told : (v : Volume) (content : Content) → IsSettled v content → growth v.header.block_size catalog_key (catalog_cost v) 2 ≡ 0 → (capacity : ℕ) (folder : Bool) (path : List (List ℕ)) (tree : PlainTree) (n : ℕ) (grow : List ℕ)
    → weight capacity (volume_of content) tree (making folder path) ≡ cost.Load n grow → make_load v ≤ n
make_load_told v content settled none capacity folder path tree n grow is = omega (arith, making_counts capacity (volume_of content) folder path tree n grow is, ap (λ (l : VolumeState). l.catalog_tree.shape.node_size / 512) settled.lists, load)
  where
    extents : ℕ
    extents = extents_in_use (volume_of content) catalog_id (volume_of content).head.catalog_fork

    same : growth (volume_of content).head.block_size catalog_key (cost_of_tree (volume_of content).catalog_tree extents) 2 ≡ 0
    same = growth_any (volume_of content).head.block_size catalog_key 2 extents 0 (volume_of content).catalog_tree ∙ (λ i. growth (settled.lists i).head.block_size catalog_key (cost_of_tree (settled.lists i).catalog_tree 0) 2) ∙ none

    load : tree_load catalog_key (cost_of_tree (volume_of content).catalog_tree extents) 2 (growth (volume_of content).head.block_size catalog_key (cost_of_tree (volume_of content).catalog_tree extents) 2) ≡ entry_load v
    load = ap (tree_load catalog_key (cost_of_tree (volume_of content).catalog_tree extents) 2) same ∙ (λ i. tree_load catalog_key (cost_of_tree (settled.lists i).catalog_tree 0) 2 0)

-- ---- `mv`

-- to a free place it weighs what three edits and three updates do
pub free_move_weight : (capacity : ℕ) (free : List Bool) (volume : VolumeState) (tree : PlainTree) (from to : List (List ℕ)) (pair : PlainEntry × Place) → to_mv tree from to ≡ Ok pair → pair.1.found ≡ None
    → weight_with capacity free volume tree (command.Mv from to) ≡ cost_of (needs_for free volume (edits 0 3 0 3) None) (room_with capacity free volume)
unfolding weight_with
free_move_weight capacity free volume tree from to pair is none =
    (λ i. if moves_onto_itself (is i) then cost.Load 0 (0 ∷ 0 ∷ 0 ∷ []) else cost_of (needs_for free volume (mv_edits tree (is i)) None) (room_with capacity free volume))
    ∙ (λ i. if is_same_file pair.0 (none i) then cost.Load 0 (0 ∷ 0 ∷ 0 ∷ []) else cost_of (needs_for free volume (place_edits tree (none i)) None) (room_with capacity free volume))

moving_counts : (capacity : ℕ) (volume : VolumeState) (from to : List (List ℕ)) (tree : PlainTree) (pair : PlainEntry × Place) → to_mv tree from to ≡ Ok pair → pair.1.found ≡ None → (n : ℕ) (grow : List ℕ) → weight capacity volume tree (command.Mv from to) ≡ cost.Load n grow
    → 1 + 3 * (volume.catalog_tree.shape.node_size / 512)
    + tree_load catalog_key (cost_of_tree volume.catalog_tree (extents_in_use volume catalog_id volume.head.catalog_fork)) 3
    (growth volume.head.block_size catalog_key (cost_of_tree volume.catalog_tree (extents_in_use volume catalog_id volume.head.catalog_fork)) 3) ≤ n
moving_counts capacity volume from to tree pair allowed none n grow is = counts_edits (free_blocks volume) capacity volume (edits 0 3 0 3) n grow (sym (free_move_weight capacity (free_blocks volume) volume tree from to pair allowed none) ∙ is)

pub move_load_told : (v : Volume) (content : Content) → IsSettled v content → growth v.header.block_size catalog_key (catalog_cost v) 3 ≡ 0 → (capacity : ℕ) (from to : List (List ℕ)) (tree : PlainTree) (pair : PlainEntry × Place) → to_mv tree from to ≡ Ok pair → pair.1.found ≡ None → (n : ℕ) (grow : List ℕ)
    → weight capacity (volume_of content) tree (command.Mv from to) ≡ cost.Load n grow → move_load v ≤ n
move_load_told v content settled none capacity from to tree pair allowed free n grow is = omega (arith, moving_counts capacity (volume_of content) from to tree pair allowed free n grow is, ap (λ (l : VolumeState). l.catalog_tree.shape.node_size / 512) settled.lists, load)
  where
    extents : ℕ
    extents = extents_in_use (volume_of content) catalog_id (volume_of content).head.catalog_fork

    same : growth (volume_of content).head.block_size catalog_key (cost_of_tree (volume_of content).catalog_tree extents) 3 ≡ 0
    same = growth_any (volume_of content).head.block_size catalog_key 3 extents 0 (volume_of content).catalog_tree ∙ (λ i. growth (settled.lists i).head.block_size catalog_key (cost_of_tree (settled.lists i).catalog_tree 0) 3) ∙ none

    load : tree_load catalog_key (cost_of_tree (volume_of content).catalog_tree extents) 3 (growth (volume_of content).head.block_size catalog_key (cost_of_tree (volume_of content).catalog_tree extents) 3) ≡ tree_load catalog_key (catalog_cost v) 3 0
    load = ap (tree_load catalog_key (cost_of_tree (volume_of content).catalog_tree extents) 3) same ∙ (λ i. tree_load catalog_key (cost_of_tree (settled.lists i).catalog_tree 0) 3 0)
