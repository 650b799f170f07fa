-- A record of a leaf is replaced by another of its length.
use Rattle.std.specs.Prelude.{◌≡◌, ◌≢◌, ◌<◌, ℕ, false, IsTrue, List, [], length, slice_set, slice_index_or}
use Rattle.std.specs.declared.cmp.Ordering.{Ordering}
use Rattle.std.specs.declared.cmp.Ordering.TheVariants.{Equal}
use Rattle.btree_node.specs.Node.{items, IsNode, SameHead}
use Rattle.btree_node.specs.Store.{Store}
use Rattle.btree_node.specs.Tree.{pairs_of, IsTreeNode}
use Rattle.btree_edit.specs.Desk.{StandsIn}

-- a record of this length stands at an index of a leaf
pub record HasRecord (store : Store) (leaf index size : ℕ) : Type 0 where
  pub is_node : IsTreeNode store 1 leaf
  pub of_tree : store.reserved leaf ≡ false
  pub inside : index < length (items (store.nodes leaf))
  pub long : length (slice_index_or (items (store.nodes leaf)) index []) ≡ size

-- the record at an index of a node is another, and nothing else of the nodes and the map is changed
pub record SwapsRecord (node index : ℕ) (bytes : List ℕ) (old new : Store) : Type 0 where
  pub items : items (new.nodes node) ≡ slice_set (items (old.nodes node)) index bytes
  pub well_formed : IsNode (new.nodes node)
  pub head : SameHead (old.nodes node) (new.nodes node)
  pub others : (n : ℕ) → n ≢ node → new.nodes n ≡ old.nodes n
  pub used : (n : ℕ) → new.used n ≡ old.used n
  pub header : new.header ≡ old.header

-- the pair with this key has a value of this length
pub record HasValueOf (cmp : List ℕ → List ℕ → Ordering) (key : List ℕ) (size : ℕ) (store : Store) : Type 0 where
  pub tells : IsTrue store.tells
  pub place : ℕ
  pub inside : place < length (pairs_of store)
  pub equal : cmp (slice_index_or (pairs_of store) place ([], [])).0 key ≡ Equal
  pub long : length (slice_index_or (pairs_of store) place ([], [])).1 ≡ size

-- if a pair has this key, its value is of this length
abbrev pub HasNoOtherLength : (List ℕ → List ℕ → Ordering) → List ℕ → ℕ → Store → Type 0
HasNoOtherLength cmp key size store =
    (k : ℕ) → k < length (pairs_of store) → cmp (slice_index_or (pairs_of store) k ([], [])).0 key ≡ Equal → length (slice_index_or (pairs_of store) k ([], [])).1 ≡ size

-- the leaf with the pair of this key was written since the last commit
abbrev pub IsLeafWritten : (List ℕ → List ℕ → Ordering) → List ℕ → Store → Type 0
IsLeafWritten cmp key store = (leaf index place : ℕ) → StandsIn store leaf index place → cmp (slice_index_or (pairs_of store) place ([], [])).0 key ≡ Equal → IsTrue (store.written leaf)

-- of the nodes the leaf with the pair of this key alone is changed
pub record ChangesLeafAlone (cmp : List ℕ → List ℕ → Ordering) (key : List ℕ) (old new : Store) : Type 0 where
  pub leaf : ℕ
  pub index : ℕ
  pub place : ℕ
  pub stands : StandsIn old leaf index place
  pub equal : cmp (slice_index_or (pairs_of old) place ([], [])).0 key ≡ Equal
  pub others : (n : ℕ) → n ≢ leaf → new.nodes n ≡ old.nodes n
