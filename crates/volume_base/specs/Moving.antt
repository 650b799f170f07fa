-- `mv`: what is moved and where to, the room for it, and what it does to a volume.
use Rattle.std.specs.Prelude.{◌≡◌, ◌≤◌, ℕ, ◌+◌, ◌*◌, true, false, IsTrue, List, Option, is_some, Result, Ok}
use Rattle.sector_disk.specs.Space.{Space}
use Rattle.btree_node.specs.Levels.{Pair}
use Rattle.hfs_language.specs.declared.refusal.Refusal.{Refusal}
use Rattle.hfs_language.specs.declared.refusal.Refusal.TheVariants as refusal
use Rattle.hfs_model.specs.Step.{Place, front, is_below, is_private_path, is_root, last_name, reached, then_, to_make, to_mv, to_node, to_pair, unless}
use Rattle.hfs_model.specs.declared.plain.PlainEntry.{PlainEntry}
use Rattle.hfs_model.specs.declared.plain.PlainNode.{PlainNode}
use Rattle.hfs_model.specs.declared.plain.PlainTree.{PlainTree}
use Rattle.hfs_volume.specs.Cost.{catalog_key, growth, is_too_deep, tree_load}
use Rattle.hfs_volume.specs.Records.{is_empty}
use Rattle.volume_base.specs.Changing.{catalog_node}
use Rattle.volume_base.specs.Making.{catalog_cost, free_place, site_under}
use Rattle.volume_base.specs.Owning.{owner_in}
use Rattle.volume_base.specs.Reaching.{folder_in}
use Rattle.volume_base.specs.declared.moving.Route.{Route}
use Rattle.volume_base.specs.declared.volume.Volume.{Volume}

-- ---- the way

-- the folder or file that a path stands for, the folder that it is in, and the folder that it goes to under a new name
abbrev pub route_in : List Pair → Option ℕ → List (List ℕ) → List (List ℕ) → List (List ℕ) → List ℕ → Result Route Refusal
route_in pairs private from above under name =
    then_ (owner_in pairs private from) (λ id. then_ (folder_in pairs above) (λ parent. then_ (site_under pairs under name) (λ folder. Ok (record { id = id; parent = parent; folder = folder }))))

-- what `mv` to a free place is about: what the first path stands for, and the place of the second one, where nothing stands yet
abbrev pub to_free : PlainTree → List (List ℕ) → List (List ℕ) → Result (PlainEntry × Place) Refusal
to_free tree from to = then_ (to_pair tree from to) (λ pair. then_ (unless (is_some pair.1.found) refusal.Exists pair) (unless (is_below to from) refusal.Inside))

-- on a tree, what the first path stands for may be moved to the place that the second one names
abbrev pub MayMove : PlainTree → List (List ℕ) → List (List ℕ) → PlainEntry × Place → Type 0
MayMove tree from to pair = to_mv tree from to ≡ Ok pair

-- A move is allowed on a tree: from this name in this folder, of this folder or file, to a name in another folder, or in the same one.
pub record IsMove (tree : PlainTree) (from to : List (List ℕ)) (at : PlainEntry) (parent : ℕ) (old : List ℕ) (id folder : ℕ) (name : List ℕ) : Type 0 where
  pub not_own : is_private_path from ≡ false
  pub goal_not_own : is_private_path to ≡ false
  pub allowed : to_mv tree from to ≡ Ok (at, free_place folder name)
  pub can_make : to_make tree to ≡ Ok (free_place folder name)
  pub goal_named : is_empty (last_name to) ≡ false
  pub reaches_it : reached tree from ≡ Ok at
  pub place : (at.parent ≡ parent) × (at.name ≡ old)
  pub number : at.id ≡ id
  pub not_root : is_root from ≡ false
  pub named : is_empty old ≡ false
  pub last : last_name from ≡ old
  pub above : PlainEntry
  pub reaches : reached tree (front from) ≡ Ok above
  pub above_is : (above.folder ≡ true) × (above.id ≡ parent)
  pub node : PlainNode
  pub stands : to_node tree from ≡ Ok node
  pub node_number : node.id ≡ id

-- ---- the room
-- the sectors that a move and the old folder take at most: those of three edits, and a node
abbrev pub leave_load : Volume → ℕ
leave_load volume = tree_load catalog_key (catalog_cost volume) 3 0 + catalog_node volume

-- the sectors that `mv` takes at most: also a node for the new folder, and one for what is moved
abbrev pub move_load : Volume → ℕ
move_load volume = leave_load volume + 2 * catalog_node volume

-- Where the space tells, there is room to move a folder or file, and the catalog needn't grow before.
pub record HasRoomToMove (volume : Volume) (space : Space) : Type 0 where
  pub told : IsTrue space.tells → (move_load volume ≤ space.spare) × (is_too_deep catalog_key (catalog_cost volume) 3 ≡ false) × (growth volume.header.block_size catalog_key (catalog_cost volume) 3 ≡ 0)
