-- Growths whose numbers are known.
use Rattle.std.proofs.Common.{◌≡◌, ◌-◌, [], ◌∷◌, refl}
use Rattle.btree_file.specs.Growth.{map_nodes_for, nodes_in}
use Rattle.btree_file.specs.Map.{bits_of}

-- the map record of a header node of 4,096 bytes has 30,720 bits
pub header_bits : bits_of (record { node = 0; at = 248; len = 4096 - 256 } ∷ []) ≡ 30720
header_bits = refl

-- so 16 nodes and 32,768 more take one new map node
pub one_map_node : map_nodes_for 4096 30720 32784 ≡ 1
one_map_node = refl

-- and 30,720 nodes take none
pub no_map_node : map_nodes_for 4096 30720 30720 ≡ 0
no_map_node = refl

-- 32,768 nodes of 4,096 bytes are as many blocks of 4,096 bytes
pub run_nodes : nodes_in (record { start = 16; count = 32768 }) 8 4096 ≡ 32768
run_nodes = refl
