-- What the writes of one level do to the nodes.
use Rattle.std.specs.Prelude.{◌≡◌, ◌≢◌, ◌≤◌, ℕ, Bool, List, length}
use Rattle.btree_node.specs.Node.{items, next_of, back_of, SameHead, SetsLinks}
use Rattle.btree_node.specs.Store.{Store}
use Rattle.btree_edit.specs.Halves.{with_put}
use Rattle.btree_edit.specs.LevelEdit.{edited, CanEdit}

-- A node, where there is such a one, names another as the one behind it. No other node and no bit of the map is changed.
pub record SetsNext (node to : ℕ) (old new : Store) : Type 0 where
  pub links : node ≢ 0 → SetsLinks to (back_of (old.nodes node)) (old.nodes node) (new.nodes node)
  pub none : node ≡ 0 → (n : ℕ) → new.nodes n ≡ old.nodes n
  pub others : (n : ℕ) → n ≢ node → new.nodes n ≡ old.nodes n
  pub used : (n : ℕ) → new.used n ≡ old.used n

-- A node, where there is such a one, names another as the one before it. No other node and no bit of the map is changed.
pub record SetsBack (node to : ℕ) (old new : Store) : Type 0 where
  pub links : node ≢ 0 → SetsLinks (next_of (old.nodes node)) to (old.nodes node) (new.nodes node)
  pub none : node ≡ 0 → (n : ℕ) → new.nodes n ≡ old.nodes n
  pub others : (n : ℕ) → n ≢ node → new.nodes n ≡ old.nodes n
  pub used : (n : ℕ) → new.used n ≡ old.used n

-- two halves stand in a node and in a fresh one behind it
pub record WritesHalves (node fresh : ℕ) (front back : List ℕ) (old new : Store) : Type 0 where
  pub in_node : SetsLinks fresh (back_of front) front (new.nodes node)
  pub in_fresh : SetsLinks (next_of front) node back (new.nodes fresh)
  pub others : (n : ℕ) → n ≢ node → n ≢ fresh → new.nodes n ≡ old.nodes n
  pub used : (n : ℕ) → new.used n ≡ old.used n

-- the node of an edit without the record that is taken out
pub record IsOpened (store : Store) (height node place : ℕ) (removed : Bool) (put : List (List ℕ)) (spare : ℕ) (bytes : List ℕ) : Type 0 where
  pub can : CanEdit store height node place removed put spare
  pub records : with_put (items bytes) place put ≡ edited store node place removed put
  pub inside : place ≤ length (items bytes)
  pub head : SameHead (store.nodes node) bytes
