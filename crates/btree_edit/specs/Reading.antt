-- Calls that read nodes.
use Rattle.std.specs.Prelude.{◌≡◌, ◌≢◌, ◌<◌, ◌≤◌, ℕ, ◌+◌, ◌-◌, ◌++◌, ◌∷◌, IsTrue, List, [], length, slice_index_or, Option, Some, None}
use Rattle.std.specs.declared.cmp.Ordering.{Ordering}
use Rattle.std.specs.declared.cmp.Ordering.TheVariants.{Greater}
use Rattle.btree_node.specs.Node.{items}
use Rattle.btree_node.specs.Levels.{entries, key_of, value_of, child_of, IsRank}
use Rattle.btree_node.specs.Store.{Store, SameStore, SameNodes, SameRoom}
use Rattle.btree_node.specs.Tree.{level_of, entries_of, pairs_of}
use Rattle.btree_edit.specs.declared.search.ChildStep.{ChildStep}

-- nothing changed but the count of loads, by at most so many
pub record ReadsNodes (most : ℕ) (old new : Store) : Type 0 where
  pub shape : new.shape ≡ old.shape
  pub tree : IsTrue old.tells → SameNodes old new
  pub room : SameRoom old new
  pub loads : new.loads ≤ old.loads + most
  pub same : SameStore old new

-- A place of a key among some records: the record before it has no key above this one, and the record there has, or it is the end. Where the keys
-- rise there is one such place.
pub record IsPlace (cmp : List ℕ → List ℕ → Ordering) (key : List ℕ) (records : List (List ℕ)) (place : ℕ) : Type 0 where
  pub within : place ≤ length records
  pub before : 0 < place → cmp (key_of (slice_index_or records (place - 1) [])) key ≢ Greater
  pub behind : place < length records → cmp (key_of (slice_index_or records place [])) key ≡ Greater

-- one of the records has no key
abbrev pub HasNoKey : (List ℕ → Type 0) → List (List ℕ) → Type 0
HasNoKey is_key records = (k : ℕ) × (k < length records) × (is_key (key_of (slice_index_or records k [])) → ⊥)

-- the record of an index node that leads to a key, and the child that it names
pub record IsLead (cmp : List ℕ → List ℕ → Ordering) (key : List ℕ) (records : List (List ℕ)) (step : ChildStep) : Type 0 where
  pub place : IsPlace cmp key records step.place
  pub index : step.index ≡ step.place - 1
  pub inside : step.index < length records
  pub child : 4 ≤ length (value_of (slice_index_or records step.index [])) → step.child ≡ child_of (slice_index_or records step.index [])

-- a key belongs into this node of a level, or behind its last record: its place in the node gives its place in the level
pub record LeadsTo (cmp : List ℕ → List ℕ → Ordering) (key : List ℕ) (store : Store) (below node : ℕ) : Type 0 where
  pub front : List ℕ
  pub back : List ℕ
  pub is : level_of store below ≡ front ++ node ∷ back
  pub rank : (place : ℕ) → IsPlace cmp key (items (store.nodes node)) place → IsRank cmp key (entries_of store below) (length (entries store.nodes front) + place)
  pub first : (place : ℕ) → IsPlace cmp key (items (store.nodes node)) place → place ≡ 0 → length (entries store.nodes front) ≡ 0

-- the leaf into which a key belongs; there is none where the tree has no pair
abbrev pub LeadsToLeaf : (List ℕ → List ℕ → Ordering) → List ℕ → Store → Option ℕ → Type 0
LeadsToLeaf cmp key store None = length (pairs_of store) ≡ 0
LeadsToLeaf cmp key store (Some leaf) = LeadsTo cmp key store (store.shape.depth - 1) leaf
