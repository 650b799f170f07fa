-- The nodes that a scan came to, each marked once.
use Rattle.std.specs.Prelude.{◌≡◌, ◌⊎◌, ◌<◌, ◌≤◌, ℕ, ◌+◌, ◌==◌, ◌||◌, Bool, true, false, List, length, map, take, slice_index, slice_index_or}
use Rattle.std.specs.List.{list_any, Contains}
use Rattle.flag_rows.specs.Bits.{count_set}
use Rattle.btree_node.specs.Levels.{child_of}

-- Each of these nodes wasn't marked before, and is now; none of them stands twice, and no other was marked.
pub record MarksAll (ns : List ℕ) (old new : List Bool) : Type 0 where
  pub size : length new ≡ length old
  pub bits : (n : ℕ) → slice_index_or new n false ≡ (slice_index_or old n false || list_any (λ other. other == n) ns)
  pub fresh : (k : ℕ) → k < length ns → slice_index_or old (slice_index ns k) true ≡ false
  pub apart : (i j : ℕ) → i < j → j < length ns → slice_index ns i ≡ slice_index ns j → ⊥
  pub count : count_set new ≡ count_set old + length ns

-- the children that records name, in order
abbrev pub children_of : List (List ℕ) → List ℕ
children_of records = map child_of records

-- A child that no level can have, where all before it were marked: it isn't a node of the tree's file, was marked before the level or has no mark; or it stands again in its own level.
pub record IsNoChild (total : ℕ) (records : List (List ℕ)) (marks : List Bool) (n : ℕ) (again : Bool) : Type 0 where
  pub at : ℕ
  pub inside : at < length records
  pub is : n ≡ slice_index (children_of records) at
  pub now : List Bool
  pub before : MarksAll (take at (children_of records)) marks now
  pub taken : again ≡ false → (total ≤ n) ⊎ (slice_index_or marks n true ≡ true)
  pub twice : again ≡ true → Contains (take at (children_of records)) n
