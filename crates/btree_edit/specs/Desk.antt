-- What a search finds.
use Rattle.std.specs.Prelude.{◌≡◌, ◌≢◌, ◌<◌, ◌≤◌, ℕ, ◌+◌, ◌-◌, ◌⊎◌, List, Bool, true, false, IsTrue, [], ◌++◌, ◌∷◌, length, slice_index_or}
use Rattle.std.specs.declared.cmp.Ordering.{Ordering}
use Rattle.std.specs.declared.cmp.Ordering.TheVariants.{Greater, Equal}
use Rattle.btree_node.specs.Node.{items, IsNode}
use Rattle.btree_node.specs.Levels.{Pair, entries, key_of, value_of}
use Rattle.btree_node.specs.Store.{Store}
use Rattle.btree_node.specs.Tree.{level_of, pairs_of}
use Rattle.btree_edit.specs.Held.{HeldPair}
use Rattle.btree_edit.specs.Reading.{IsPlace, HasNoKey}
use Rattle.btree_edit.specs.declared.desk.Desk.{Desk}
use Rattle.btree_edit.specs.declared.finding.Found.{Found}
use Rattle.btree_edit.specs.declared.finding.Found.TheVariants.{At, Absent}

-- a desk for nodes of this size
pub record IsDeskOf (size : ℕ) (desk : Desk) : Type 0 where
  pub node : length desk.node ≡ size
  pub other : length desk.other ≡ size
  pub held : desk.held.room ≡ size
  pub first : desk.first.room ≡ size
  pub second : desk.second.room ≡ size
  pub path : length desk.path ≡ 12

-- these are the bytes of this node, which the store has
pub record HoldsLeaf (store : Store) (bytes : List ℕ) (node : ℕ) : Type 0 where
  pub inside : node < store.shape.total
  pub well_formed : IsNode bytes
  pub value : IsTrue store.tells → bytes ≡ store.nodes node

-- one of the pairs has this key
abbrev pub HasKey : (List ℕ → List ℕ → Ordering) → List ℕ → List Pair → Type 0
HasKey cmp key pairs = (k : ℕ) × (k < length pairs) × (cmp (slice_index_or pairs k ([], [])).0 key ≡ Equal)

-- the desk holds this pair of the tree
pub record HoldsPair (store : Store) (desk : Desk) (place : ℕ) : Type 0 where
  pub inside : place < length (pairs_of store)
  pub key : desk.held.key ≡ (slice_index_or (pairs_of store) place ([], [])).0
  pub value : desk.held.value ≡ (slice_index_or (pairs_of store) place ([], [])).1

-- the desk holds no pair
pub record HoldsNone (desk : Desk) : Type 0 where
  pub key : desk.held.key ≡ []
  pub value : desk.held.value ≡ []

-- At: the desk holds the pair with the key, which stands in this node at this place. Absent: no pair has the key, and the desk holds none.
abbrev pub Finds : (List ℕ → List ℕ → Ordering) → List ℕ → Store → Desk → Found → Type 0
Finds cmp key store desk (At node index) =
    (cmp desk.held.key key ≡ Equal) × ((k : ℕ) × HoldsPair store desk k) × (slice_index_or (items (store.nodes node)) index [] ≡ desk.held.key ++ desk.held.value)
Finds cmp key store desk Absent = (HasKey cmp key (pairs_of store) → ⊥) × HoldsNone desk

-- the record at an index of a leaf of the tree is the one at this place of all leaves
pub record StandsIn (store : Store) (leaf index k : ℕ) : Type 0 where
  pub some : 0 < store.shape.depth
  pub front : List ℕ
  pub back : List ℕ
  pub is : level_of store (store.shape.depth - 1) ≡ front ++ leaf ∷ back
  pub inside : index < length (items (store.nodes leaf))
  pub place : k ≡ length (entries store.nodes front) + index

-- At: the node is a leaf of the tree, and the pair on the desk is the one that stands there
abbrev pub IsInTree : Store → Desk → Found → Type 0
IsInTree store desk (At node index) = (k : ℕ) × HoldsPair store desk k × StandsIn store node index k
IsInTree store desk Absent = Unit {0}

-- At: the leaf with the pair is on the desk, too
abbrev pub KeepsLeaf : Store → Desk → Found → Type 0
KeepsLeaf store desk (At node index) = HoldsLeaf store desk.node node
KeepsLeaf store desk Absent = Unit {0}

-- the search of one leaf: where the key is, its pair is kept; else what was kept is as it was
abbrev pub Picks : (List ℕ → Type 0) → (List ℕ → List ℕ → Ordering) → List ℕ → ℕ → List ℕ → HeldPair → HeldPair → Found → Type 0
Picks is_key cmp key node leaf old new (At at index) =
    (at ≡ node) × IsPlace cmp key (items leaf) (index + 1) × (cmp (key_of (slice_index_or (items leaf) index [])) key ≡ Equal)
    × (new.key ≡ key_of (slice_index_or (items leaf) index [])) × (new.value ≡ value_of (slice_index_or (items leaf) index []))
Picks is_key cmp key node leaf old new Absent =
    (new ≡ old) × (HasNoKey is_key (items leaf) ⊎ ((place : ℕ) × IsPlace cmp key (items leaf) place × (0 < place → cmp (key_of (slice_index_or (items leaf) (place - 1) [])) key ≢ Equal)))

-- the pairs before this place have no greater key, and those from there on a greater one
pub record IsAbove (cmp : List ℕ → List ℕ → Ordering) (key : List ℕ) (pairs : List Pair) (place : ℕ) : Type 0 where
  pub before : (k : ℕ) → k < place → cmp (slice_index_or pairs k ([], [])).0 key ≢ Greater
  pub behind : (k : ℕ) → place ≤ k → k < length pairs → cmp (slice_index_or pairs k ([], [])).0 key ≡ Greater

-- true: the desk holds the least pair above the key. false: there is none, and the desk holds none.
abbrev pub FindsNext : (List ℕ → List ℕ → Ordering) → List ℕ → Store → Desk → Bool → Type 0
FindsNext cmp key store desk true = (k : ℕ) × HoldsPair store desk k × IsAbove cmp key (pairs_of store) k
FindsNext cmp key store desk false = IsAbove cmp key (pairs_of store) (length (pairs_of store)) × HoldsNone desk
