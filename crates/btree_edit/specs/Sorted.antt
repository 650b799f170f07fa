-- A sorted list of pairs with one pair more, one less, or one changed.
use Rattle.std.specs.Prelude.{◌≡◌, ◌<◌, ◌≤◌, ℕ, ◌+◌, List, [], ◌∷◌, false, length, slice_index_or}
use Rattle.std.specs.declared.cmp.Ordering.{Ordering}
use Rattle.std.specs.declared.cmp.Ordering.TheVariants.{Less, Equal, Greater}
use Rattle.btree_node.specs.Levels.{Pair, splice}
use Rattle.btree_node.specs.Store.{Store}
use Rattle.btree_node.specs.Tree.{IsTree, pairs_of}
use Rattle.btree_edit.specs.declared.edits.Inserted.{Inserted}
use Rattle.btree_edit.specs.declared.edits.Inserted.TheVariants as inserted
use Rattle.btree_edit.specs.declared.edits.Removed.{Removed}
use Rattle.btree_edit.specs.declared.edits.Removed.TheVariants as removed

-- one pair more, behind those with a lesser key and before those with a greater one
pub record AddsPair (cmp : List ℕ → List ℕ → Ordering) (key value : List ℕ) (old new : List Pair) : Type 0 where
  pub place : ℕ
  pub inside : place ≤ length old
  pub before : (k : ℕ) → k < place → cmp (slice_index_or old k ([], [])).0 key ≡ Less
  pub behind : (k : ℕ) → place ≤ k → k < length old → cmp (slice_index_or old k ([], [])).0 key ≡ Greater
  pub is : new ≡ splice old place place ((key, value) ∷ [])

-- one pair less, the one with this key
pub record DropsPair (cmp : List ℕ → List ℕ → Ordering) (key : List ℕ) (old new : List Pair) : Type 0 where
  pub place : ℕ
  pub inside : place < length old
  pub equal : cmp (slice_index_or old place ([], [])).0 key ≡ Equal
  pub is : new ≡ splice old place (place + 1) []

-- the pair with this key has this value, and its own key
pub record ChangesPair (cmp : List ℕ → List ℕ → Ordering) (key value : List ℕ) (old new : List Pair) : Type 0 where
  pub place : ℕ
  pub inside : place < length old
  pub equal : cmp (slice_index_or old place ([], [])).0 key ≡ Equal
  pub is : new ≡ splice old place (place + 1) (((slice_index_or old place ([], [])).0, value) ∷ [])

-- what an insert does to the pairs, by its answer
abbrev pub InsertsPair : (List ℕ → List ℕ → Ordering) → List ℕ → List ℕ → List Pair → List Pair → Inserted → Type 0
InsertsPair cmp key value old new inserted.Exists = new ≡ old
InsertsPair cmp key value old new inserted.Done = AddsPair cmp key value old new

-- what a removal does to them
abbrev pub RemovesPair : (List ℕ → List ℕ → Ordering) → List ℕ → List Pair → List Pair → Removed → Type 0
RemovesPair cmp key old new removed.Absent = new ≡ old
RemovesPair cmp key old new removed.Done = DropsPair cmp key old new

-- what a replacement does to them
abbrev pub ReplacesPair : (List ℕ → List ℕ → Ordering) → List ℕ → List ℕ → List Pair → List Pair → Removed → Type 0
ReplacesPair cmp key value old new removed.Absent = new ≡ old
ReplacesPair cmp key value old new removed.Done = ChangesPair cmp key value old new

-- nodes that were free and are free are as they were
abbrev pub KeepsFreeNodes : Store → Store → Type 0
KeepsFreeNodes old new = (n : ℕ) → old.reserved n ≡ false → old.used n ≡ false → new.used n ≡ false → new.nodes n ≡ old.nodes n

-- a tree becomes a tree whose pairs are changed so
pub record EditsTree (is_key : List ℕ → Type 0) (cmp : List ℕ → List ℕ → Ordering) (old new : Store) (changes : List Pair → List Pair → Type 0) : Type 0 where
  pub pairs : changes (pairs_of old) (pairs_of new)
  pub tree : IsTree is_key cmp new
  pub filled : 0 < new.shape.depth → 0 < length (pairs_of new)
  pub others : KeepsFreeNodes old new

-- this is the key, as the tree has it, of the pair with a key
abbrev pub HoldsKeyOf : (List ℕ → List ℕ → Ordering) → List ℕ → Store → List ℕ → Type 0
HoldsKeyOf cmp key store own =
    (k : ℕ) × (k < length (pairs_of store)) × (cmp (slice_index_or (pairs_of store) k ([], [])).0 key ≡ Equal) × (own ≡ (slice_index_or (pairs_of store) k ([], [])).0)
