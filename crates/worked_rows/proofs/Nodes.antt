-- Nodes, keys and the rules of a tree where they may be read in two ways: what they say, computed.
use Rattle.std.specs.Prelude.{◌≡◌, refl, ℕ, pos, negsuc, ◌+◌, ◌*◌, ◌^◌, ◌==◌, not, Bool, true, false, List, [], ◌∷◌, ◌++◌, map, replicate, length, if◌then◌else◌}
use Rattle.std.specs.List.{range_with_len, flat_map}
use Rattle.std.specs.declared.cmp.Ordering.{Ordering}
use Rattle.std.specs.declared.cmp.Ordering.TheVariants.{Less, Equal, Greater}
use Rattle.std.specs.Cmp.Lexicographic.{slice_cmp}
use Rattle.hx_bytes.specs.Field.{number_at, number_bytes}
use Rattle.flag_rows.specs.Bits.{bit_of}
use Rattle.btree_node.specs.Keys.{catalog_cmp, extent_cmp, attr_cmp}
use Rattle.btree_node.specs.Levels.{Nodes, Pair, key_of, value_of, child_of, level, leaves, record_for}
use Rattle.btree_node.specs.Node.{next_of, back_of, kind_of, height_of, record_count, offset, items, room_beside, empty_node}
use Rattle.btree_node.specs.Tree.{kind_at}
use Rattle.btree_node.specs.TreeFile.{TreeHead, TreeFile, tree_head, map_chain, map_bytes, is_reserved_in, catalog_form, extents_form}
use Rattle.hfs_volume.specs.Broken.{Want, want, form_wants, map_wants, node_place, node_size_wanted, levels_in, nodes_in, leaves_in, is_in_use}

-- ---- one node

-- a leaf of two records, behind node 0 and before node 5; its three bytes of free space aren't zeros
abbrev leaf_seven : List ℕ
leaf_seven =
    0 ∷ 0 ∷ 0 ∷ 5 ∷ 0 ∷ 0 ∷ 0 ∷ 0 ∷ 255 ∷ 1 ∷ 0 ∷ 2 ∷ 0 ∷ 0 ∷ 0 ∷ 1 ∷ 65 ∷ 9 ∷ 9 ∷ 0 ∷ 2 ∷ 65 ∷ 66 ∷ 8 ∷ 1 ∷ 2 ∷ 3 ∷ 0 ∷ 24 ∷ 0 ∷ 19 ∷ 0 ∷ 14 ∷ []

-- a leaf of one record, whose value has no byte
abbrev leaf_five : List ℕ
leaf_five = 0 ∷ 0 ∷ 0 ∷ 0 ∷ 0 ∷ 0 ∷ 0 ∷ 7 ∷ 255 ∷ 1 ∷ 0 ∷ 1 ∷ 0 ∷ 0 ∷ 0 ∷ 1 ∷ 67 ∷ 0 ∷ 17 ∷ 0 ∷ 14 ∷ []

-- an index node that names nodes 7 and 5
abbrev root_three : List ℕ
root_three =
    0 ∷ 0 ∷ 0 ∷ 0 ∷ 0 ∷ 0 ∷ 0 ∷ 0 ∷ 0 ∷ 2 ∷ 0 ∷ 2 ∷ 0 ∷ 0 ∷ 0 ∷ 1 ∷ 65 ∷ 0 ∷ 0 ∷ 0 ∷ 7 ∷ 0 ∷ 1 ∷ 67 ∷ 0 ∷ 0 ∷ 0 ∷ 5 ∷ 0 ∷ 28 ∷ 0 ∷ 21 ∷ 0 ∷ 14 ∷ []

-- the first word names the node behind, and the second the one before
links_of_a_node : (next_of leaf_seven ≡ 5) × (back_of leaf_seven ≡ 0) × (next_of leaf_five ≡ 0) × (back_of leaf_five ≡ 7)
unfolding number_at number_bytes next_of back_of
links_of_a_node = (refl, refl, refl, refl)

-- the kind has a sign, and leaves have the least height
kinds_of_nodes : (kind_of leaf_seven ≡ negsuc 0) × (kind_of root_three ≡ pos 0) × (map kind_at (1 ∷ 2 ∷ 3 ∷ []) ≡ negsuc 0 ∷ pos 0 ∷ pos 0 ∷ []) × (height_of root_three ≡ 2)
unfolding number_at number_bytes kind_of height_of
kinds_of_nodes = (refl, refl, refl, refl)

-- the offsets run backwards from the node's end, and the one behind the last record's begins the free space, which is no record
records_of_a_node : (items leaf_seven ≡ (0 ∷ 1 ∷ 65 ∷ 9 ∷ 9 ∷ []) ∷ (0 ∷ 2 ∷ 65 ∷ 66 ∷ 8 ∷ []) ∷ []) × (map (offset leaf_seven) (0 ∷ 1 ∷ 2 ∷ []) ≡ 14 ∷ 19 ∷ 24 ∷ [])
unfolding number_at number_bytes items offset record_count
records_of_a_node = (refl, refl)

-- the length before a key doesn't count its own two bytes, which are part of the key
key_of_a_record : (key_of (0 ∷ 2 ∷ 65 ∷ 66 ∷ 8 ∷ []) ≡ 0 ∷ 2 ∷ 65 ∷ 66 ∷ []) × (value_of (0 ∷ 2 ∷ 65 ∷ 66 ∷ 8 ∷ []) ≡ 8 ∷ []) × (child_of (0 ∷ 1 ∷ 65 ∷ 0 ∷ 0 ∷ 1 ∷ 4 ∷ []) ≡ 260)
unfolding number_at number_bytes key_of value_of child_of
key_of_a_record = (refl, refl, refl)

-- beside two records of five bytes, a node of 512 has 14 bytes less for its descriptor, two for each record's offset and two for the one behind them
room_in_a_node : room_beside 512 (items leaf_seven) ≡ 482
unfolding number_at number_bytes items offset record_count
room_in_a_node = refl

-- an empty node says where its free space begins, and nothing else but its kind and height
bytes_of_an_empty_node : empty_node 20 (negsuc 0) 1 ≡ replicate 8 0 ++ 255 ∷ 1 ∷ (replicate 8 0 ++ 0 ∷ 14 ∷ [])
unfolding number_at number_bytes empty_node
bytes_of_an_empty_node = refl

-- ---- levels

abbrev nodes : Nodes
nodes n = if n == 3 then root_three else if n == 5 then leaf_five else if n == 7 then leaf_seven else []

-- a level's nodes come in the order of the records that name them, not of their numbers
levels_of_a_tree : (level nodes 3 0 ≡ 3 ∷ []) × (level nodes 3 1 ≡ 7 ∷ 5 ∷ [])
unfolding number_at number_bytes items offset record_count child_of value_of
levels_of_a_tree = (refl, refl)

pairs_of_a_tree : leaves nodes 3 2 ≡ (0 ∷ 1 ∷ 65 ∷ [], 9 ∷ 9 ∷ []) ∷ (0 ∷ 2 ∷ 65 ∷ 66 ∷ [], 8 ∷ []) ∷ (0 ∷ 1 ∷ 67 ∷ [], []) ∷ []
unfolding number_at number_bytes items offset record_count child_of value_of key_of
pairs_of_a_tree = refl

-- what names a node: its first key, and its number in four bytes
record_of_a_child : map (record_for nodes) (7 ∷ 5 ∷ []) ≡ items root_three
unfolding number_at number_bytes items offset record_count key_of
record_of_a_child = refl

-- a tree without levels has no pairs, whatever stands in its nodes
no_level_no_pair : leaves nodes 3 0 ≡ []
no_level_no_pair = refl

-- ---- keys

abbrev catalog_key : ℕ → List ℕ → List ℕ
catalog_key parent units = 0 ∷ 6 ∷ 0 ∷ 0 ∷ 0 ∷ parent ∷ 0 ∷ 1 ∷ units

-- the parent comes first; a name that begins another comes before it; a unit is a number of two bytes, without a sign
catalog_keys_in_order : map (λ (k : List ℕ × List ℕ). catalog_cmp k.0 k.1)
    ((catalog_key 2 (0 ∷ 90 ∷ []), catalog_key 3 (0 ∷ 65 ∷ [])) ∷ (catalog_key 2 (0 ∷ 65 ∷ []), catalog_key 2 (0 ∷ 65 ∷ 0 ∷ 65 ∷ [])) ∷ (catalog_key 2 (255 ∷ 1 ∷ []), catalog_key 2 (0 ∷ 65 ∷ [])) ∷ (catalog_key 2 [], catalog_key 2 (0 ∷ 0 ∷ [])) ∷ [])
    ≡ Less ∷ Less ∷ Greater ∷ Less ∷ []
unfolding number_at number_bytes
catalog_keys_in_order = refl

abbrev extent_key : ℕ → ℕ → ℕ → ℕ → List ℕ
extent_key fork pad file start = 0 ∷ 10 ∷ fork ∷ pad ∷ 0 ∷ 0 ∷ 0 ∷ file ∷ 0 ∷ 0 ∷ 0 ∷ start ∷ []

-- the kind of the fork stands before the file's number and counts after it, before the block; the byte between them doesn't count
extent_keys_in_order : map (λ (k : List ℕ × List ℕ). extent_cmp k.0 k.1)
    ((extent_key 255 0 18 9, extent_key 0 0 19 8) ∷ (extent_key 0 0 18 9, extent_key 255 0 18 8) ∷ (extent_key 0 0 18 8, extent_key 0 0 18 9) ∷ (extent_key 0 7 18 8, extent_key 0 0 18 8) ∷ [])
    ≡ Less ∷ Less ∷ Less ∷ Equal ∷ []
unfolding number_at number_bytes
extent_keys_in_order = refl

abbrev attr_key : ℕ → ℕ → ℕ → List ℕ → List ℕ
attr_key pad file start units = 0 ∷ 12 ∷ pad ∷ pad ∷ 0 ∷ 0 ∷ 0 ∷ file ∷ 0 ∷ 0 ∷ 0 ∷ start ∷ 0 ∷ 1 ∷ units

-- the block stands before the name and counts after it; the two bytes before the file's number don't count
attr_keys_in_order : map (λ (k : List ℕ × List ℕ). attr_cmp k.0 k.1)
    ((attr_key 0 18 9 (0 ∷ 65 ∷ []), attr_key 0 18 8 (0 ∷ 66 ∷ [])) ∷ (attr_key 0 18 8 (0 ∷ 65 ∷ []), attr_key 0 18 9 (0 ∷ 65 ∷ [])) ∷ (attr_key 0 18 9 (0 ∷ 66 ∷ []), attr_key 0 19 8 (0 ∷ 65 ∷ [])) ∷ (attr_key 7 18 8 (0 ∷ 65 ∷ []), attr_key 0 18 8 (0 ∷ 65 ∷ [])) ∷ [])
    ≡ Less ∷ Less ∷ Less ∷ Equal ∷ []
unfolding number_at number_bytes
attr_keys_in_order = refl

-- ---- the header record and the map

-- where the fields stand in the header node (TN1150, "Header Record"), in bytes that tell their own places
fields_of_a_header : tree_head (range_with_len 0 64) ≡ record {
  depth = 0x0E0F;
  root = 0x10111213;
  leaf_records = 0x14151617;
  first = 0x18191A1B;
  last = 0x1C1D1E1F;
  node_size = 0x2021;
  max_key = 0x2223;
  total = 0x24252627;
  free = 0x28292A2B;
  compare = 51;
  attributes = 0x34353637;
}
unfolding number_at number_bytes
fields_of_a_header = refl

-- bit 7 of a byte is its first, and so node 0's
bits_of_a_map : map (bit_of (129 ∷ 64 ∷ [])) (0 ∷ 1 ∷ 7 ∷ 8 ∷ 9 ∷ []) ≡ true ∷ false ∷ true ∷ false ∷ true ∷ []
unfolding number_at number_bytes bit_of
bits_of_a_map = refl

-- map nodes that come back to themselves are followed no further than the file has nodes
chain_that_goes_round : (map_chain (λ n. 0 ∷ 0 ∷ 0 ∷ 9 ∷ []) 3 9 ≡ 9 ∷ 9 ∷ 9 ∷ []) × (map_chain (λ n. 0 ∷ 0 ∷ 0 ∷ 0 ∷ []) 3 9 ≡ 9 ∷ []) × (map_chain (λ n. 0 ∷ 0 ∷ 0 ∷ 9 ∷ []) 3 0 ≡ [])
unfolding number_at number_bytes map_chain next_of
chain_that_goes_round = (refl, refl, refl)

-- a header node of 512 bytes has a map of 256, which end before its four offsets
map_of_a_header_node : length (map_bytes (λ n. replicate 512 0) 512 []) ≡ 256
unfolding number_at number_bytes map_bytes
map_of_a_header_node = refl

-- ---- the rules of a tree, rule by rule

-- what a header record says of the tree of these nodes, of ten in all, five of which are in use
abbrev head : TreeHead
head = record { depth = 2; root = 3; leaf_records = 3; first = 7; last = 5; node_size = 4096; max_key = 516; total = 10; free = 5; compare = 0xBC; attributes = 6 }

-- node 9 has the end of the map
abbrev tree_with : TreeHead → List ℕ → TreeFile
tree_with its_head its_map = record { head = its_head; nodes = nodes; chain = 9 ∷ []; map = its_map }

abbrev tree : TreeFile
tree = tree_with head (149 ∷ 64 ∷ [])

-- the numbers that aren't those which are wanted
abbrev unmet : List Want → List Want
unmet wants = flat_map (λ (w : Want). if w.found == w.wanted then [] else w ∷ []) wants

abbrev of_header : TreeHead → List Want
of_header its_head = unmet (form_wants catalog_form 4 (tree_with its_head (149 ∷ 64 ∷ [])))

abbrev at_header : ℕ → ℕ → List Want
at_header found wanted = want (4 * 2 ^ 32) found wanted ∷ []

-- the header node, the map nodes and those of the tree are in use, and a node is told through its tree
nodes_in_use : (nodes_in tree ≡ 3 ∷ 7 ∷ 5 ∷ []) × (leaves_in tree ≡ 7 ∷ 5 ∷ []) × (map (is_in_use tree) (0 ∷ 1 ∷ 9 ∷ []) ≡ true ∷ false ∷ true ∷ []) × (map (is_reserved_in (9 ∷ [])) (0 ∷ 3 ∷ 9 ∷ []) ≡ true ∷ false ∷ true ∷ []) × (node_place 4 7 ≡ 17179869191)
unfolding number_at number_bytes items offset record_count child_of value_of height_of
nodes_in_use = (refl, refl, refl, refl, refl)

no_number_is_wrong : (of_header head ≡ []) × (unmet (map_wants 4 tree) ≡ [])
unfolding number_at number_bytes items offset record_count child_of value_of height_of key_of bit_of
no_number_is_wrong = (refl, refl)

-- the depth is the root's height; the first leaf is that of the least keys, not of the least number; the nodes that are free are those not in use
numbers_that_are_wrong : (of_header (record head { depth = 3 }) ≡ at_header 3 2) × (of_header (record head { leaf_records = 4 }) ≡ at_header 4 3) × (of_header (record head { first = 5 }) ≡ at_header 5 7)
    × (of_header (record head { last = 7 }) ≡ at_header 7 5) × (of_header (record head { free = 6 }) ≡ at_header 6 5) × (of_header (record head { max_key = 510 }) ≡ at_header 510 516)
unfolding number_at number_bytes items offset record_count child_of value_of height_of key_of
numbers_that_are_wrong = (refl, refl, refl, refl, refl, refl)

-- a tree without leaves has no root and no first leaf, and none of its nodes is in use but the header node and the map nodes
tree_without_leaves : of_header (record head { depth = 0; root = 0; leaf_records = 0; first = 0; last = 0; free = 8 }) ≡ []
unfolding number_at number_bytes items offset record_count child_of value_of height_of key_of
tree_without_leaves = refl

-- a bit too many is found also behind the last node, one too few at its node, and a map with fewer bits than nodes at the header node too
bits_that_are_wrong : (unmet (map_wants 4 (tree_with head (149 ∷ 96 ∷ []))) ≡ want (4 * 2 ^ 32 + 10) 1 0 ∷ []) × (unmet (map_wants 4 (tree_with head (149 ∷ 0 ∷ []))) ≡ want (4 * 2 ^ 32 + 9) 0 1 ∷ [])
    × (unmet (map_wants 4 (tree_with head (149 ∷ []))) ≡ want (4 * 2 ^ 32 + 9) 0 1 ∷ []) × (unmet (form_wants catalog_form 4 (tree_with head (149 ∷ []))) ≡ at_header 10 8)
unfolding number_at number_bytes items offset record_count child_of value_of height_of key_of bit_of
bits_that_are_wrong = (refl, refl, refl, refl)

-- a node size out of its range wants the nearer end, and one inside it that is no power of two 4,096
wanted_node_sizes : (map (node_size_wanted catalog_form) (512 ∷ 4096 ∷ 5000 ∷ 8192 ∷ 65536 ∷ []) ≡ 4096 ∷ 4096 ∷ 4096 ∷ 8192 ∷ 32768 ∷ []) × (map (node_size_wanted extents_form) (256 ∷ 512 ∷ []) ≡ 512 ∷ 512 ∷ [])
wanted_node_sizes = (refl, refl)
