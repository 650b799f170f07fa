-- A B-tree over nodes that are named by numbers: its levels from the root down, each with its records in order, and its pairs.
use Rattle.std.specs.Prelude.{◌≡◌, ◌≢◌, ◌<◌, ◌≤◌, ℕ, zero, suc, ◌+◌, List, [], ◌∷◌, ◌++◌, length, map, take, drop, slice_index_or}
use Rattle.std.specs.List.{flat_map}
use Rattle.std.specs.declared.cmp.Ordering.{Ordering}
use Rattle.std.specs.declared.cmp.Ordering.TheVariants.{Less, Greater}
use Rattle.hx_bytes.specs.Field.{big_at, big}
use Rattle.btree_node.specs.Node.{items}

-- the nodes of a tree file, by their numbers
abbrev pub Nodes : Type 0
Nodes = ℕ → List ℕ

-- a key, with its length field, and a value
abbrev pub Pair : Type 0
Pair = List ℕ × List ℕ

-- the key at the front of a record, with its length field
unfoldable pub key_of : List ℕ → List ℕ
key_of item = take (big_at 2 item 0 + 2) item

-- what stands behind the key
unfoldable pub value_of : List ℕ → List ℕ
value_of item = drop (big_at 2 item 0 + 2) item

-- a record as its key and its value
abbrev pub pair_of : List ℕ → Pair
pair_of item = (key_of item, value_of item)

-- the child that an index record names
unfoldable pub child_of : List ℕ → ℕ
child_of item = big_at 4 (value_of item) 0

-- the records of these nodes, joined in order
abbrev pub entries : Nodes → List ℕ → List (List ℕ)
entries nodes ns = flat_map (λ n. items (nodes n)) ns

-- the nodes so many levels below the root, from left to right: the children that the level above names
abbrev pub level : Nodes → ℕ → ℕ → List ℕ
level nodes root zero = root ∷ []
level nodes root (suc below) = map child_of (entries nodes (level nodes root below))

-- the pairs of the leaves, from left to right; a tree of depth 0 is empty
abbrev pub leaves : Nodes → ℕ → ℕ → List Pair
leaves nodes root zero = []
leaves nodes root (suc below) = map pair_of (entries nodes (level nodes root below))

-- the key of a node's first record
abbrev pub first_key : Nodes → ℕ → List ℕ
first_key nodes n = key_of (slice_index_or (items (nodes n)) 0 [])

-- the record that names a node in the level above: its first key and its number
abbrev pub record_for : Nodes → ℕ → List ℕ
record_for nodes n = first_key nodes n ++ big 4 n

-- the list with others in place of what stands from one place up to another
abbrev pub splice : {X : Type 0} → List X → ℕ → ℕ → List X → List X
splice xs from to others = take from xs ++ (others ++ drop to xs)

-- the keys rise strictly
abbrev pub Ascends : (List ℕ → List ℕ → Ordering) → List (List ℕ) → Type 0
Ascends cmp records = (i j : ℕ) → i < j → j < length records → cmp (key_of (slice_index_or records i [])) (key_of (slice_index_or records j [])) ≡ Less

-- where a key belongs among records: those before the place have no greater key, and those from there on a greater one
pub record IsRank (cmp : List ℕ → List ℕ → Ordering) (key : List ℕ) (records : List (List ℕ)) (place : ℕ) : Type 0 where
  pub within : place ≤ length records
  pub before : (i : ℕ) → i < place → cmp (key_of (slice_index_or records i [])) key ≢ Greater
  pub behind : (i : ℕ) → place ≤ i → i < length records → cmp (key_of (slice_index_or records i [])) key ≡ Greater
