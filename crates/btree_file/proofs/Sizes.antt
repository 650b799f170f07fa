-- How large a node is.
use Rattle.std.proofs.Common.{◌≡◌, ℕ, ◌*◌, ◌/◌, ◌<◌, ◌≤◌, inl, inr, arith}
use Rattle.btree_node.specs.MemLaws.{legal_size, whole_sectors}
use Rattle.btree_node.specs.Node.{IsNodeSize}
use Rattle.btree_file.specs.declared.tree.TreeFile.{TreeFile}

pub size_most : (n : ℕ) → IsNodeSize n → n ≤ 32768
size_most n (inl is) = omega (arith, is)
size_most n (inr (inl is)) = omega (arith, is)
size_most n (inr (inr (inl is))) = omega (arith, is)
size_most n (inr (inr (inr (inl is)))) = omega (arith, is)
size_most n (inr (inr (inr (inr (inl is))))) = omega (arith, is)
size_most n (inr (inr (inr (inr (inr (inl is)))))) = omega (arith, is)
size_most n (inr (inr (inr (inr (inr (inr is)))))) = omega (arith, is)

pub size_least : (n : ℕ) → IsNodeSize n → 512 ≤ n
size_least n (inl is) = omega (arith, is)
size_least n (inr (inl is)) = omega (arith, is)
size_least n (inr (inr (inl is))) = omega (arith, is)
size_least n (inr (inr (inr (inl is)))) = omega (arith, is)
size_least n (inr (inr (inr (inr (inl is))))) = omega (arith, is)
size_least n (inr (inr (inr (inr (inr (inl is)))))) = omega (arith, is)
size_least n (inr (inr (inr (inr (inr (inr is)))))) = omega (arith, is)

pub tree_size : (tree : TreeFile) → (0 < tree.shape.node_size / 512) × (tree.shape.node_size / 512 * 512 ≡ tree.shape.node_size)
tree_size tree = whole_sectors tree.shape.node_size (legal_size tree.shape.node_size tree.kept.size)

pub tree_large : (tree : TreeFile) → 512 ≤ tree.shape.node_size
tree_large tree = size_least tree.shape.node_size (legal_size tree.shape.node_size tree.kept.size)
