-- The search of the pair behind a key.
use Rattle.std.specs.Prelude.{◌≡◌, ◌≢◌, ◌<◌, ℕ, ◌-◌, List, [], Bool, true, false, Option, Some, None, length, slice_index_or}
use Rattle.std.specs.declared.cmp.Ordering.{Ordering}
use Rattle.btree_node.specs.Node.{items, next_of}
use Rattle.btree_node.specs.Levels.{key_of, value_of}
use Rattle.btree_node.specs.Store.{Store}
use Rattle.btree_node.specs.Tree.{pairs_of, IsTreeNode}
use Rattle.btree_edit.specs.Reading.{LeadsTo, IsPlace}
use Rattle.btree_edit.specs.declared.desk.Desk.{Desk}

-- the leaf into which a key belongs is on the desk, and this is the key's place there
pub record IsInLeaf (cmp : List ℕ → List ℕ → Ordering) (key : List ℕ) (store : Store) (desk : Desk) (at : ℕ) : Type 0 where
  pub leaf : ℕ
  pub some : 0 < store.shape.depth
  pub leads : LeadsTo cmp key store (store.shape.depth - 1) leaf
  pub is : desk.node ≡ store.nodes leaf
  pub place : IsPlace cmp key (items desk.node) at

-- the place of a key in its leaf; there is none where the tree has no pair
abbrev pub IsLocated : (List ℕ → List ℕ → Ordering) → List ℕ → Store → Desk → Option ℕ → Type 0
IsLocated cmp key store desk None = length (pairs_of store) ≡ 0
IsLocated cmp key store desk (Some at) = IsInLeaf cmp key store desk at

-- the first record of the node behind the one on the desk was kept, where there is such a node
pub record StepsOver (store : Store) (old new : Desk) (found : Bool) : Type 0 where
  pub none : next_of old.node ≡ 0 → found ≡ false
  pub kept : found ≡ false → new.held ≡ old.held
  pub some : next_of old.node ≢ 0 → IsTreeNode store 1 (next_of old.node) → 0 < length (items (store.nodes (next_of old.node))) → found ≡ true
  pub key : next_of old.node ≢ 0 → found ≡ true → new.held.key ≡ key_of (slice_index_or (items (store.nodes (next_of old.node))) 0 [])
  pub value : next_of old.node ≢ 0 → found ≡ true → new.held.value ≡ value_of (slice_index_or (items (store.nodes (next_of old.node))) 0 [])
