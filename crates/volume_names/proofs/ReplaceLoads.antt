-- What `mv` over a file takes of the room for puts is within its load: what the removal puts, and behind it the move.
use Rattle.std.proofs.Common.{◌≡◌, ◌<◌, ◌≤◌, ℕ, ◌+◌, ◌-◌, ◌*◌, ◌/◌, ◌==◌, Bool, true, false, List, [], ◌∷◌, min, refl, sym, ◌∙◌, ap, arith, eq-eqb}
use Rattle.std.specs.Prelude.{◌&&◌, nat_lt, IsTrue, None, Some, Ok, if◌then◌else◌}
use Rattle.std.proofs.Math.Nat.{mul-le-mul_right}
use Rattle.std.proofs.lemmas.Bool.{eqb-true, true≢false}
use Rattle.sector_disk.specs.Space.{Space}
use Rattle.hfs_language.specs.declared.command.Command.TheVariants as command
use Rattle.hfs_model.specs.Plain.{names_of, node_at}
use Rattle.hfs_model.specs.Step.{Place, is_same_file, to_mv, to_rm}
use Rattle.hfs_model.specs.declared.plain.PlainEntry.{PlainEntry}
use Rattle.hfs_model.specs.declared.plain.PlainNode.{PlainNode}
use Rattle.hfs_model.specs.declared.plain.PlainTree.{PlainTree}
use Rattle.hfs_volume.specs.Content.{VolumeState, volume_of}
use Rattle.hfs_volume.specs.Cost.{catalog_key, cost_of, depth_of, growth, growth_writes, node_sectors, rises, tree_load}
use Rattle.hfs_volume.specs.Forks.{catalog_id}
use Rattle.hfs_volume.specs.TreeOf.{tree_of}
use Rattle.hfs_volume.specs.Weight.{Edits, cost_of_tree, edits, extents_in_use, folders_made, free_blocks, moves_onto_itself, mv_edits, needs_for, over_edits, place_edits, rm_edits, rm_edits_at, room_with, weight, weight_with}
use Rattle.hfs_volume.specs.declared.cost.Cost.TheVariants as cost
use Rattle.hfs_volume.specs.declared.cost.TreeCost.{TreeCost}
use Rattle.volume_base.specs.Changing.{catalog_node}
use Rattle.volume_base.specs.Making.{catalog_cost}
use Rattle.volume_base.specs.Room.{capacity_of}
use Rattle.volume_base.specs.Standing.{IsSettled}
use Rattle.volume_base.specs.declared.volume.Volume.{Volume}
use Rattle.volume_base.proofs.Loads.{counts_edits, growth_any}
use Rattle.volume_names.specs.EditsLeft.{HasLoadFor}
use Rattle.volume_names.specs.LossLoads.{SpendsFor, loss_edits}
use Rattle.volume_names.proofs.EditsLeft.{div_grows, div_least}

-- ---- a load grows with its edits

times_grows : (few many one more : ℕ) → few ≤ many → one ≤ more → few * one ≤ many * more
times_grows few many one more less low =
    let first : few * one ≤ many * one = mul-le-mul_right {m = few} {n = many} one less in
    let second : one * many ≤ more * many = mul-le-mul_right {m = one} {n = more} many low in
    omega (arith, first, second)

holds_some : (size : ℕ) → 4096 ≤ size → 0 < (size - 16) / 524 - 2
holds_some size large = let seven = div_least 7 (size - 16) 524 (omega arith) (omega (arith, large)) in omega (arith, seven)

module _ (tree : TreeCost) (large : 4096 ≤ tree.node_size) where
  load_by : Bool → ℕ → ℕ
  load_by none edits = if none && true then 0 else node_sectors tree * min (edits * (4 * (depth_of tree + 2 + rises catalog_key tree edits) + 4) + growth_writes tree 0) (tree.nodes + 0)

  grows_some : (few many : ℕ) → few ≤ many → node_sectors tree * min (few * (4 * (depth_of tree + 2 + rises catalog_key tree few) + 4) + growth_writes tree 0) (tree.nodes + 0)
      ≤ node_sectors tree * min (many * (4 * (depth_of tree + 2 + rises catalog_key tree many) + 4) + growth_writes tree 0) (tree.nodes + 0)
  grows_some few many less =
      let higher : rises catalog_key tree few ≤ rises catalog_key tree many = div_grows few many ((tree.node_size - 16) / 524 - 2) (holds_some tree.node_size large) less in
      let writes : few * (4 * (depth_of tree + 2 + rises catalog_key tree few) + 4) ≤ many * (4 * (depth_of tree + 2 + rises catalog_key tree many) + 4) =
      times_grows few many (4 * (depth_of tree + 2 + rises catalog_key tree few) + 4) (4 * (depth_of tree + 2 + rises catalog_key tree many) + 4) less (omega (arith, higher)) in
      times_grows (node_sectors tree) (node_sectors tree) (min (few * (4 * (depth_of tree + 2 + rises catalog_key tree few) + 4) + growth_writes tree 0) (tree.nodes + 0))
      (min (many * (4 * (depth_of tree + 2 + rises catalog_key tree many) + 4) + growth_writes tree 0) (tree.nodes + 0)) (omega arith) (omega (arith, writes))

  by_none : (few many : ℕ) → few ≤ many → (a b : Bool) → (few == 0) ≡ a → (many == 0) ≡ b → load_by a few ≤ load_by b many
  unfolding load_by
  by_none few many less true b first second = omega arith
  by_none few many less false true first second = absurd (true≢false (sym (eq-eqb few 0 (omega (arith, less, eqb-true many 0 second))) ∙ first))
  by_none few many less false false first second = grows_some few many less

  pub load_grows : (few many : ℕ) → few ≤ many → tree_load catalog_key tree few 0 ≤ tree_load catalog_key tree many 0
  unfolding load_by
  load_grows few many less = by_none few many less (few == 0) (many == 0) refl refl

-- ---- the edits of both

over_by : (b linked : Bool) (f : ℕ) → (if b then edits 0 5 0 6 else if linked then edits 0 8 0 6 else edits f (6 + 2 * f) 0 6)
    ≡ (let lost : Edits = if b then edits 0 2 0 4 else if linked then edits 0 5 0 4 else edits f (3 + 2 * f) 0 4 in edits lost.ids (lost.catalog + 3) 0 6)
over_by true linked f = refl
over_by false true f = refl
over_by false false f = ap (λ n. edits f n 0 6) (omega arith)

over_is : (tree : PlainTree) (file : PlainNode) → over_edits tree (Some file) ≡ edits (rm_edits tree (Some file)).ids ((rm_edits tree (Some file)).catalog + 3) 0 6
over_is tree file = over_by (nat_lt 1 (names_of tree file.id)) file.linked (folders_made tree)

module _ (v : Volume) (a : Space) (settled : IsSettled v a.content) (from to : List (List ℕ)) (pair : PlainEntry × Place) (allowed : to_mv (tree_of a.content) from to ≡ Ok pair)
    (other : PlainEntry) (stands : pair.1.found ≡ Some other) (differs : is_same_file pair.0 pair.1.found ≡ false) (removal : to_rm (tree_of a.content) to ≡ Ok other) (file : PlainNode) (found : node_at (tree_of a.content) other.id ≡ Some file)
  where
    abbrev tree : PlainTree
    tree = tree_of a.content

    abbrev lost : Edits
    lost = rm_edits tree (Some file)

    loss_is : loss_edits tree to ≡ lost.catalog
    loss_is = ap (λ (e : Edits). e.catalog) (ap (rm_edits_at tree) removal ∙ ap (rm_edits tree) found)

    both : mv_edits tree (to_mv tree from to) ≡ edits lost.ids (lost.catalog + 3) 0 6
    both = ap (mv_edits tree) allowed ∙ ap (place_edits tree) stands ∙ ap (over_edits tree) found ∙ over_is tree file

    weighs : (n : ℕ) (grow : List ℕ) → weight (capacity_of v) (volume_of a.content) tree (command.Mv from to) ≡ cost.Load n grow
        → cost_of (needs_for (free_blocks (volume_of a.content)) (volume_of a.content) (edits lost.ids (lost.catalog + 3) 0 6) None) (room_with (capacity_of v) (free_blocks (volume_of a.content)) (volume_of a.content)) ≡ cost.Load n grow
    unfolding weight_with
    weighs n grow is =
        (λ i. if sym (ap moves_onto_itself allowed ∙ differs) i then cost.Load 0 (0 ∷ 0 ∷ 0 ∷ []) else cost_of (needs_for (free_blocks (volume_of a.content)) (volume_of a.content) (sym both i) None) (room_with (capacity_of v) (free_blocks (volume_of a.content)) (volume_of a.content)))
        ∙ is

    extents : ℕ
    extents = extents_in_use (volume_of a.content) catalog_id (volume_of a.content).head.catalog_fork

    -- its load counts the header's sector, six updates and the edits of both
    pub replace_load : growth v.header.block_size catalog_key (catalog_cost v) (loss_edits tree to + 3) ≡ 0 → (n : ℕ) (grow : List ℕ) → weight (capacity_of v) (volume_of a.content) tree (command.Mv from to) ≡ cost.Load n grow
        → 1 + 6 * catalog_node v + tree_load catalog_key (catalog_cost v) (loss_edits tree to + 3) 0 ≤ n
    unfolding extents
    replace_load none n grow is =
        let same : lost.catalog + 3 ≡ loss_edits tree to + 3 = ap (λ k. k + 3) (sym loss_is) in
        let grows : growth (volume_of a.content).head.block_size catalog_key (cost_of_tree (volume_of a.content).catalog_tree extents) (lost.catalog + 3) ≡ 0 =
        growth_any (volume_of a.content).head.block_size catalog_key (lost.catalog + 3) extents 0 (volume_of a.content).catalog_tree ∙ (λ i. growth (settled.lists i).head.block_size catalog_key (cost_of_tree (settled.lists i).catalog_tree 0) (same i)) ∙ none in
        let load : tree_load catalog_key (cost_of_tree (volume_of a.content).catalog_tree extents) (lost.catalog + 3) (growth (volume_of a.content).head.block_size catalog_key (cost_of_tree (volume_of a.content).catalog_tree extents) (lost.catalog + 3)) ≡ tree_load catalog_key (catalog_cost v) (loss_edits tree to + 3) 0 =
        ap (tree_load catalog_key (cost_of_tree (volume_of a.content).catalog_tree extents) (lost.catalog + 3)) grows ∙ (λ i. tree_load catalog_key (cost_of_tree (settled.lists i).catalog_tree 0) (same i) 0) in
        omega (
          arith,
          counts_edits (free_blocks (volume_of a.content)) (capacity_of v) (volume_of a.content) (edits lost.ids (lost.catalog + 3) 0 6) n grow (weighs n grow is),
          ap (λ (l : VolumeState). l.catalog_tree.shape.node_size / 512) settled.lists,
          load,
        )

-- what the edits of both leave beside them, the header's sector and three updates
abbrev pub rest_replaced : ℕ → Volume → Space → ℕ
rest_replaced edits v a = a.spare - (1 + 3 * catalog_node v + tree_load catalog_key (catalog_cost v) edits 0)

pub load_replaced : (edits : ℕ) (v : Volume) (a : Space) → HasLoadFor edits (1 + 6 * catalog_node v) v a → HasLoadFor edits (1 + (3 * catalog_node v + rest_replaced edits v a)) v a
load_replaced edits v a load = record { shallow = load.shallow; records = load.records; grown = load.grown; load = λ tells. omega (arith, load.load tells) }

-- the same where the move alone is asked for room
pub load_behind : (edits : ℕ) (v : Volume) (a : Space) → HasLoadFor edits (1 + 6 * catalog_node v) v a → HasLoadFor edits (1 + (3 * catalog_node v + 0)) v a
load_behind edits v a load = record { shallow = load.shallow; records = load.records; grown = load.grown; load = λ tells. omega (arith, load.load tells) }

-- what the removal puts, where it comes to a fault, is within the load of both
pub removal_within : (edits n : ℕ) (v : Volume) (a b : Space) → 4096 ≤ v.catalog.file.shape.node_size → SpendsFor edits v a b → 1 + 6 * catalog_node v + tree_load catalog_key (catalog_cost v) (edits + 3) 0 ≤ n → a.spare ≤ b.spare + n
removal_within edits n v a b large spends within = omega (arith, spends.spent, within, load_grows (catalog_cost v) large edits (edits + 3) (omega arith))

-- and so is what both put, where sectors beside them are left but for those of three updates
pub both_within : (edits n : ℕ) (v w : Volume) (a b : Space) → IsTrue a.tells → catalog_node w ≡ catalog_node v → HasLoadFor edits (1 + 6 * catalog_node v) v a → rest_replaced edits v a ≤ b.spare + 3 * catalog_node w
    → 1 + 6 * catalog_node v + tree_load catalog_key (catalog_cost v) edits 0 ≤ n → a.spare ≤ b.spare + n
both_within edits n v w a b tells same load left within = omega (arith, same, load.load tells, left, within)
