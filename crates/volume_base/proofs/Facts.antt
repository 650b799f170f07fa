-- What a tree file keeps of its tree are the facts of the tree in the content.
use Rattle.std.proofs.Common.{◌≡◌, ℕ, ◌*◌, ◌≤◌, List, length, refl, sym, ◌∙◌, ap}
use Rattle.std.specs.List.{flat_map}
use Rattle.sector_disk.specs.Lists.{Content}
use Rattle.btree_node.specs.Node.{next_of}
use Rattle.btree_node.specs.TreeFile.{TreeHead, map_chain, map_bytes}
use Rattle.btree_node.specs.declared.store.TreeShape.{TreeShape}
use Rattle.btree_file.specs.Held.{file_in}
use Rattle.btree_file.specs.Map.{bits_of}
use Rattle.btree_file.specs.Standing.{Stands}
use Rattle.btree_file.specs.State.{sectors_of_tree, nodes_on}
use Rattle.btree_file.specs.Walks.{names_of}
use Rattle.btree_file.specs.declared.tree.TreeFile.{TreeFile}
use Rattle.btree_file.proofs.Chains.{chain_named, few_stretches}
use Rattle.btree_file.proofs.Holding.{are_in}
use Rattle.btree_file.proofs.Joined.{AreIn, bytes_in, length_joined, map_joined}
use Rattle.btree_file.proofs.Sizes.{tree_large}
use Rattle.btree_file.proofs.StandingLaws.{head_is, shape_is}
use Rattle.hfs_volume.specs.Content.{facts_of}
use Rattle.volume_base.specs.Lists.{facts_on}

module _ (tree : TreeFile) (content : Content) (stands : Stands tree content) where
  pub size_is : (file_in (sectors_of_tree tree) content).head.node_size ≡ tree.shape.node_size
  size_is = ap (λ (h : TreeHead). h.node_size) (head_is tree content stands) ∙ stands.agrees.says_size

  pub total_is : (file_in (sectors_of_tree tree) content).head.total ≡ tree.shape.total
  total_is = ap (λ (h : TreeHead). h.total) (head_is tree content stands) ∙ stands.agrees.says_total

  few : length tree.map.items ≤ tree.shape.total
  few = few_stretches tree.map.items tree.shape.total tree.kept.map_inside tree.kept.map_apart

  chain_is : (file_in (sectors_of_tree tree) content).chain ≡ names_of tree.map.items
  chain_is =
      ap (λ n. map_chain (nodes_on (sectors_of_tree tree) n content) (file_in (sectors_of_tree tree) content).head.total (next_of (nodes_on (sectors_of_tree tree) n content 0))) size_is
      ∙ ap (λ t. map_chain (nodes_on (sectors_of_tree tree) tree.shape.node_size content) t (next_of (nodes_on (sectors_of_tree tree) tree.shape.node_size content 0))) total_is
      ∙ chain_named (nodes_on (sectors_of_tree tree) tree.shape.node_size content) tree.shape.node_size tree.shape.total tree.map.items stands.agrees.stretches tree.kept.map_apart few

  inside : AreIn (nodes_on (sectors_of_tree tree) tree.shape.node_size content) tree.map.items
  inside = are_in (nodes_on (sectors_of_tree tree) tree.shape.node_size content) tree.shape.node_size tree.map.items (tree_large tree) (ap (λ (l : List ℕ). length l) stands.agrees.header_is ∙ tree.long) stands.agrees.stretches

  map_is : (file_in (sectors_of_tree tree) content).map ≡ flat_map (bytes_in (nodes_on (sectors_of_tree tree) tree.shape.node_size content)) tree.map.items
  map_is =
      ap (λ (c : List ℕ). map_bytes (nodes_on (sectors_of_tree tree) (file_in (sectors_of_tree tree) content).head.node_size content) (file_in (sectors_of_tree tree) content).head.node_size c) chain_is
      ∙ ap (λ n. map_bytes (nodes_on (sectors_of_tree tree) n content) n (names_of tree.map.items)) size_is
      ∙ map_joined (nodes_on (sectors_of_tree tree) tree.shape.node_size content) tree.shape.node_size tree.map.items (tree_large tree) stands.agrees.stretches

  bits_are : bits_of tree.map.items ≡ 8 * length (file_in (sectors_of_tree tree) content).map
  bits_are = sym (length_joined (nodes_on (sectors_of_tree tree) tree.shape.node_size content) tree.map.items inside) ∙ ap (λ (l : List ℕ). 8 * length l) (sym map_is)

  pub facts_stand : facts_on tree ≡ facts_of (file_in (sectors_of_tree tree) content)
  facts_stand = λ i. record { shape = sym (shape_is tree content stands) i; map_bits = bits_are i }
