-- A node of a B-tree: a descriptor of 14 bytes, the records, free space, and the offsets of the records, which run backwards from the node's end.
use Rattle.std.specs.Prelude.{◌≡◌, ◌<◌, ◌≤◌, ◌⊎◌, ℕ, ℤ, ◌+◌, ◌-◌, ◌*◌, Bool, ◌==◌, ◌||◌, List, [], length, map, sum_by, slice_index, slice_range, drop, replicate, slice_set}
use Rattle.std.specs.List.{range_with_len}
use Rattle.std.specs.Int.{cast_signed, cast_unsigned, w8}
use Rattle.hx_bytes.specs.Field.{big_at, big, put_at}

-- a size that a node can have: a power of two from 512 to 32,768
abbrev pub IsNodeSize : ℕ → Type 0
IsNodeSize n = (n ≡ 512) ⊎ (n ≡ 1024) ⊎ (n ≡ 2048) ⊎ (n ≡ 4096) ⊎ (n ≡ 8192) ⊎ (n ≡ 16384) ⊎ (n ≡ 32768)

-- the same as a test
abbrev pub is_node_size : ℕ → Bool
is_node_size n = n == 512 || n == 1024 || n == 2048 || n == 4096 || n == 8192 || n == 16384 || n == 32768

-- the node behind this one at the same height, or 0
unfoldable pub next_of : List ℕ → ℕ
next_of node = big_at 4 node 0

-- the node before this one at the same height, or 0
unfoldable pub back_of : List ℕ → ℕ
back_of node = big_at 4 node 4

-- the kind: a leaf -1, an index 0, a header 1, a map 2
unfoldable pub kind_of : List ℕ → ℤ
kind_of node = cast_signed w8 (slice_index node 8)

-- the height: 1 for a leaf, and one more for each level above
unfoldable pub height_of : List ℕ → ℕ
height_of node = slice_index node 9

-- the number of records
unfoldable pub record_count : List ℕ → ℕ
record_count node = big_at 2 node 10

-- where a record begins; the offset behind the last record's is where free space begins
unfoldable pub offset : List ℕ → ℕ → ℕ
offset node i = big_at 2 node (length node - 2 * (i + 1))

-- the list of the records' bytes, as the offsets cut them
unfoldable pub items : List ℕ → List (List ℕ)
items node = map (λ i. slice_range node (offset node i) (offset node (i + 1))) (range_with_len 0 (record_count node))

-- the offsets lie behind the descriptor, rise, and end before the offsets themselves begin
pub record IsNode (node : List ℕ) : Type 0 where
  pub first : 14 ≤ offset node 0
  pub rising : (i : ℕ) → i < record_count node → offset node i ≤ offset node (i + 1)
  pub inside : offset node (record_count node) + 2 * (record_count node + 1) ≤ length node

-- the same, in a node of this kind and height
pub record IsNodeOf (kind : ℤ) (height : ℕ) (node : List ℕ) : Type 0 where
  pub well_formed : IsNode node
  pub has_kind : kind_of node ≡ kind
  pub has_height : height_of node ≡ height

-- how many bytes of a node of this size are left beside these records, of which each takes two bytes more for its offset
abbrev pub room_beside : ℕ → List (List ℕ) → ℕ
room_beside size records = size - 16 - sum_by (λ bytes. length bytes + 2) records

-- what no edit of records touches
pub record SameHead (old new : List ℕ) : Type 0 where
  pub size : length new ≡ length old
  pub kind : kind_of new ≡ kind_of old
  pub height : height_of new ≡ height_of old
  pub next : next_of new ≡ next_of old
  pub back : back_of new ≡ back_of old

-- the links are set, and the rest stays: in a node that is cut into records, the records too
pub record SetsLinks (behind before : ℕ) (old new : List ℕ) : Type 0 where
  pub next : next_of new ≡ behind
  pub back : back_of new ≡ before
  pub size : length new ≡ length old
  pub rest : drop 8 new ≡ drop 8 old
  pub kind : kind_of new ≡ kind_of old
  pub height : height_of new ≡ height_of old
  pub items : IsNode old → items new ≡ items old
  pub well_formed : IsNode old → IsNode new

-- the bytes of an empty node: the kind, the height and the offset of free space, and zeros
unfoldable pub empty_node : ℕ → ℤ → ℕ → List ℕ
empty_node size kind height = put_at (slice_set (slice_set (replicate size 0) 8 (cast_unsigned w8 kind)) 9 height) (size - 2) (big 2 14)

-- a node of this kind and height without records and links, and zeros in its free space
pub record ClearsNode (kind : ℤ) (height : ℕ) (old new : List ℕ) : Type 0 where
  pub is_node : IsNodeOf kind height new
  pub items : items new ≡ []
  pub next : next_of new ≡ 0
  pub back : back_of new ≡ 0
  pub size : length new ≡ length old
  pub bytes : new ≡ empty_node (length old) kind height
