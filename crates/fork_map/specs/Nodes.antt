-- The bytes and nodes of a fork in a content, which is a list of sectors.
use Rattle.std.specs.Prelude.{ℕ, ◌*◌, ◌/◌, List, [], length, take, drop, map, slice_index_or}
use Rattle.std.specs.List.{flat_map, range_with_len}

-- the bytes of these sectors, in order
abbrev pub bytes_of : List (List ℕ) → List ℕ → List ℕ
bytes_of content sectors = flat_map (λ sector. slice_index_or content sector []) sectors

-- the node with this number of a fork with these sectors, where a node has so many sectors
abbrev pub node_of : List (List ℕ) → List ℕ → ℕ → ℕ → List ℕ
node_of content sectors per_node number = bytes_of content (take per_node (drop (number * per_node) sectors))

-- the nodes of a fork with these sectors, in order
abbrev pub nodes_of : List (List ℕ) → List ℕ → ℕ → List (List ℕ)
nodes_of content sectors per_node = map (λ number. node_of content sectors per_node number) (range_with_len 0 (length sectors / per_node))
