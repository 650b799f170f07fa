-- What `ln` takes of the room for puts is within its load.
use Rattle.std.proofs.Common.{◌≡◌, ◌≤◌, ℕ, ◌+◌, ◌-◌, ◌*◌, ◌/◌, Bool, List, sym, ◌∙◌, ap, arith}
use Rattle.std.specs.Prelude.{IsTrue, None, if◌then◌else◌}
use Rattle.sector_disk.specs.Space.{Space}
use Rattle.hfs_language.specs.declared.command.Command.{Command}
use Rattle.hfs_language.specs.declared.command.Command.TheVariants as command
use Rattle.hfs_volume.specs.Content.{VolumeState, volume_of}
use Rattle.hfs_volume.specs.Cost.{catalog_key, cost_of, growth, tree_load}
use Rattle.hfs_volume.specs.Forks.{catalog_id}
use Rattle.hfs_volume.specs.TreeOf.{tree_of}
use Rattle.hfs_volume.specs.Weight.{Edits, cost_of_tree, edits, edits_of, extents_in_use, free_blocks, needs_for, room_with, weight, weight_with}
use Rattle.hfs_volume.specs.declared.cost.Cost.TheVariants as cost
use Rattle.tree_weights.specs.Weights.{EditsHaveRoom}
use Rattle.volume_base.specs.Changing.{catalog_node}
use Rattle.volume_base.specs.Looking.{ReadsVolume}
use Rattle.volume_base.specs.Making.{catalog_cost}
use Rattle.volume_base.specs.Room.{capacity_of}
use Rattle.volume_base.specs.Standing.{IsSettled}
use Rattle.volume_base.specs.declared.volume.Volume.{Volume}
use Rattle.volume_base.proofs.Loads.{counts_edits, growth_any}
use Rattle.volume_names.specs.EditsLeft.{HasEditsLeft, HasLoadFor, to_put_header}
use Rattle.volume_names.specs.LinkLoads.{PutsItsLoad}
use Rattle.volume_names.specs.LossLoads.{SpendsFor}
use Rattle.volume_names.proofs.EditsLeft.{left_as, left_now, to_put_most}

-- ---- the load

module _ (v : Volume) (a : Space) (settled : IsSettled v a.content) (from to : List (List ℕ)) where
  extents : ℕ
  extents = extents_in_use (volume_of a.content) catalog_id (volume_of a.content).head.catalog_fork

  weighs : (n : ℕ) (grow : List ℕ) (many : Edits) → edits_of (tree_of a.content) (command.Ln from to) ≡ many → weight (capacity_of v) (volume_of a.content) (tree_of a.content) (command.Ln from to) ≡ cost.Load n grow
      → cost_of (needs_for (free_blocks (volume_of a.content)) (volume_of a.content) many None) (room_with (capacity_of v) (free_blocks (volume_of a.content)) (volume_of a.content)) ≡ cost.Load n grow
  unfolding weight_with
  weighs n grow many same is =
      ap (λ (k : Edits). cost_of (needs_for (free_blocks (volume_of a.content)) (volume_of a.content) k None) (room_with (capacity_of v) (free_blocks (volume_of a.content)) (volume_of a.content))) (sym same) ∙ is

  pub link_load : (ids made : ℕ) (b : Space) → edits_of (tree_of a.content) (command.Ln from to) ≡ edits ids made 0 4 → SpendsFor made v a b → PutsItsLoad (command.Ln from to) v a b
  unfolding extents
  link_load ids made b same spends n grow is =
      let grows : growth (volume_of a.content).head.block_size catalog_key (cost_of_tree (volume_of a.content).catalog_tree extents) made ≡ 0 =
      growth_any (volume_of a.content).head.block_size catalog_key made extents 0 (volume_of a.content).catalog_tree ∙ (λ i. growth (settled.lists i).head.block_size catalog_key (cost_of_tree (settled.lists i).catalog_tree 0) made) ∙ spends.grown in
      let load : tree_load catalog_key (cost_of_tree (volume_of a.content).catalog_tree extents) made (growth (volume_of a.content).head.block_size catalog_key (cost_of_tree (volume_of a.content).catalog_tree extents) made) ≡ tree_load catalog_key (catalog_cost v) made 0 =
      ap (tree_load catalog_key (cost_of_tree (volume_of a.content).catalog_tree extents) made) grows ∙ (λ i. tree_load catalog_key (cost_of_tree (settled.lists i).catalog_tree 0) made 0) in
      omega (
        arith,
        counts_edits (free_blocks (volume_of a.content)) (capacity_of v) (volume_of a.content) (edits ids made 0 4) n grow (weighs n grow (edits ids made 0 4) same is),
        ap (λ (l : VolumeState). l.catalog_tree.shape.node_size / 512) settled.lists,
        load,
        spends.spent,
      )

-- ---- behind reads

pub puts_still : (asked : Command) (v w : Volume) (a b c : Space) → ReadsVolume v w a b → IsTrue a.tells → PutsItsLoad asked w b c → PutsItsLoad asked v a c
puts_still asked v w a b c reads tells puts n grow is =
    omega (arith, reads.looks.spare, puts n grow ((λ i. weight (reads.keeps.capacity i) (volume_of (reads.looks.content tells i)) (tree_of (reads.looks.content tells i)) asked) ∙ is))

-- ---- a first link

-- what the edits leave beside them and the header's sector
abbrev pub rest_beside : Volume → Space → ℕ
rest_beside v a = a.spare - (1 + tree_load catalog_key (catalog_cost v) 7 0)

pub rest_left : EditsHaveRoom → (v : Volume) (a : Space) → (IsTrue a.tells → 4096 ≤ v.catalog.file.shape.node_size) → HasLoadFor 7 (1 + 3 * catalog_node v) v a → HasEditsLeft 7 (to_put_header a + rest_beside v a) v a
rest_left law v a large load =
    left_now law 7 (to_put_header a + rest_beside v a) v a large
    (record { shallow = load.shallow; records = load.records; grown = load.grown; load = λ tells. omega (arith, load.load tells, to_put_most a) })

pub first_spends : (v : Volume) (a b : Space) → IsTrue a.tells → HasLoadFor 7 (1 + 3 * catalog_node v) v a → rest_beside v a ≤ b.spare + 3 * catalog_node v → SpendsFor 7 v a b
first_spends v a b tells load rest = record { grown = load.grown tells; spent = omega (arith, rest, load.load tells) }

-- ---- behind the private folder, whose making put the header

abbrev pub rest_anew : Volume → Space → ℕ
rest_anew v a = a.spare - (1 + catalog_node v + tree_load catalog_key (catalog_cost v) 9 0)

pub load_anew : (v : Volume) (a : Space) → HasLoadFor 9 (1 + (catalog_node v + 3 * catalog_node v)) v a → HasLoadFor 9 (1 + (catalog_node v + rest_anew v a)) v a
load_anew v a load = record { shallow = load.shallow; records = load.records; grown = load.grown; load = λ tells. omega (arith, load.load tells) }

pub left_put : (rest : ℕ) (w : Volume) (b : Space) → (IsTrue b.tells → IsTrue (b.put 2)) → HasEditsLeft 7 rest w b → HasEditsLeft 7 (to_put_header b + rest) w b
left_put rest w b put = left_as w b 7 rest (to_put_header b + rest) (λ tells. let none : ◌≡◌ {A = ℕ} (to_put_header b) 0 = ap (λ (x : Bool). if x then 0 else 1) (put tells) in omega (arith, none))

pub anew_spends : (v : Volume) (a b : Space) → IsTrue a.tells → HasLoadFor 9 (1 + (catalog_node v + 3 * catalog_node v)) v a → rest_anew v a ≤ b.spare + 3 * catalog_node v → SpendsFor 9 v a b
anew_spends v a b tells load rest = record { grown = load.grown tells; spent = omega (arith, rest, load.load tells) }
