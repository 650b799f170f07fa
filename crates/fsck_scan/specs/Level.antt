-- How far a level of a tree was read: its nodes from left to right.
use Rattle.std.specs.Prelude.{◌≡◌, ◌<◌, ◌⊎◌, ℕ, ◌+◌, ◌∷◌, List, [], length, map, take, slice_index, slice_index_or}
use Rattle.std.specs.List.{All, range_with_len}
use Rattle.std.specs.declared.cmp.Ordering.{Ordering}
use Rattle.btree_node.specs.Node.{IsNodeOf, items, next_of, back_of}
use Rattle.btree_node.specs.Levels.{Nodes, entries, key_of, Ascends}
use Rattle.btree_node.specs.Tree.{kind_at}
use Rattle.fsck_scan.specs.Good.{IsGoodRecord, Takes, IsFlawed}
use Rattle.fsck_scan.specs.declared.records.Flaw.TheVariants as flaw
use Rattle.fsck_scan.specs.declared.look.Place.{Place}
use Rattle.fsck_scan.specs.declared.look.Fault.{Fault}
use Rattle.fsck_scan.specs.declared.look.Fault.TheVariants as fault

-- the key of a node's first record
abbrev pub first_key_in : List ℕ → List ℕ
first_key_in node = key_of (slice_index_or (items node) 0 [])

-- A node is of its kind and height, names its neighbours, has the first key that the level above says, and its records go on those before it.
pub record IsRight (is_key is_value : List ℕ → Type 0) (cmp : List ℕ → List ℕ → Ordering) (place : Place) (names : List (List ℕ)) (k : ℕ) (node : List ℕ) (old new : List (List ℕ)) : Type 0 where
  pub kind : IsNodeOf (kind_at place.height) place.height node
  pub next : next_of node ≡ place.next
  pub back : back_of node ≡ place.back
  pub named : k < length names → first_key_in node ≡ key_of (slice_index_or names k [])
  pub takes : Takes is_key is_value cmp place.most place.height (items node) old new

-- what is wrong with a node: its kind or one of its records, its links or the order of its records, or its first key
abbrev pub IsWrong : (List ℕ → Type 0) → (List ℕ → Type 0) → (List ℕ → List ℕ → Ordering) → Place → List (List ℕ) → ℕ → List ℕ → List (List ℕ) → Fault → Type 0
IsWrong is_key is_value cmp place names k node old fault.Node = (IsNodeOf (kind_at place.height) place.height node → ⊥) ⊎ IsFlawed is_key is_value cmp place.most place.height (items node) old flaw.Record
IsWrong is_key is_value cmp place names k node old fault.Order = (next_of node ≡ place.next → back_of node ≡ place.back → ⊥) ⊎ IsFlawed is_key is_value cmp place.most place.height (items node) old flaw.Order
IsWrong is_key is_value cmp place names k node old fault.Name = (k < length names) × (first_key_in node ≡ key_of (slice_index_or names k []) → ⊥)

-- where the node at this place of a level stands: its height, and the nodes beside it
abbrev pub place_in : ℕ → ℕ → List ℕ → ℕ → Place
place_in most height ns k = record { most = most; height = height; next = slice_index ns (k + 1); back = slice_index (0 ∷ ns) k }

-- where the records of each of the first nodes of a level end, among those of the level
abbrev pub ends_of : Nodes → List ℕ → ℕ → List ℕ
ends_of nodes ns k = map (λ i. length (entries nodes (take (i + 1) ns))) (range_with_len 0 k)

-- The first nodes of a level were read: these are their records, node by node up to these ends, and each node is right.
pub record HasRead (is_key is_value : List ℕ → Type 0) (cmp : List ℕ → List ℕ → Ordering) (nodes : Nodes) (most height : ℕ) (ns : List ℕ) (names : List (List ℕ)) (k : ℕ) (records : List (List ℕ)) (ends : List ℕ) : Type 0 where
  pub records_are : records ≡ entries nodes (take k ns)
  pub ends_are : ends ≡ ends_of nodes ns k
  pub kinds : (i : ℕ) → i < k → IsNodeOf (kind_at height) height (nodes (slice_index ns i))
  pub good : All (IsGoodRecord is_key is_value most height) records
  pub rising : Ascends cmp records
  pub next : (i : ℕ) → i < k → next_of (nodes (slice_index ns i)) ≡ slice_index ns (i + 1)
  pub back : (i : ℕ) → i < k → back_of (nodes (slice_index ns i)) ≡ slice_index (0 ∷ ns) i
  pub named : (i : ℕ) → i < k → i < length names → first_key_in (nodes (slice_index ns i)) ≡ key_of (slice_index_or names i [])

-- The node at a place of a level is wrong, where those before it are right.
pub record FailsAt (is_key is_value : List ℕ → Type 0) (cmp : List ℕ → List ℕ → Ordering) (nodes : Nodes) (most height : ℕ) (ns : List ℕ) (names : List (List ℕ)) (k : ℕ) (wrong : Fault) : Type 0 where
  pub inside : k < length ns
  pub before : (records : List (List ℕ)) × (ends : List ℕ) × HasRead is_key is_value cmp nodes most height ns names k records ends × IsWrong is_key is_value cmp (place_in most height ns k) names k (nodes (slice_index ns k)) records wrong
