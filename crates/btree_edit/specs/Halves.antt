-- The records of a node, with others put among them, in two nodes.
use Rattle.std.specs.Prelude.{◌≡◌, ◌<◌, ◌≤◌, ℕ, ℤ, ◌+◌, ◌*◌, List, [], ◌∷◌, ◌++◌, length, take, slice_index_or}
use Rattle.btree_node.specs.Node.{items, IsNodeOf, SameHead}
use Rattle.btree_node.specs.Levels.{splice}
use Rattle.btree_edit.specs.Held.{HeldPair}
use Rattle.btree_edit.specs.LevelEdit.{taken, node_room, FitsTwo}

-- a key and its value as one record
abbrev pub record_of : HeldPair → List ℕ
record_of pair = pair.key ++ pair.value

-- the records that are put: none, the first, or both
abbrev pub put_of : ℕ → HeldPair → HeldPair → List (List ℕ)
put_of count first second = take count (record_of first ∷ record_of second ∷ [])

-- records with others put at a place
abbrev pub with_put : List (List ℕ) → ℕ → List (List ℕ) → List (List ℕ)
with_put records at others = splice records at at others

-- A cut near the middle: neither side takes more than half of all and half of the longest.
pub record IsMiddle (records : List (List ℕ)) (at : ℕ) : Type 0 where
  pub inside : at ≤ length records
  pub front : (longest : ℕ) → ((k : ℕ) → k < length records → length (slice_index_or records k []) + 2 ≤ longest) → 2 * taken (take at records) ≤ taken records + longest
  pub back : (longest : ℕ) → ((k : ℕ) → k < length records → length (slice_index_or records k []) + 2 ≤ longest) → taken records ≤ 2 * taken (take at records) + longest

-- The records stand in two nodes, in order; neither is empty, and the first keeps its links.
pub record IsSplit (kind : ℤ) (height : ℕ) (records : List (List ℕ)) (old front back : List ℕ) : Type 0 where
  pub joined : items front ++ items back ≡ records
  pub some_front : 0 < length (items front)
  pub some_back : 0 < length (items back)
  pub is_front : IsNodeOf kind height front
  pub is_back : IsNodeOf kind height back
  pub head : SameHead old front
  pub size : length back ≡ length old

-- records that are over for one node, fit in two, and have five bytes or more
pub record AreForTwo (size : ℕ) (records : List (List ℕ)) : Type 0 where
  pub over : node_room size < taken records
  pub fits : FitsTwo size records
  pub some : (k : ℕ) → k < length records → 5 ≤ length (slice_index_or records k [])
