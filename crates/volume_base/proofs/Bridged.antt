-- The file of a tree over a content, read as a special file of a volume: the way back of Bridging.
use Rattle.std.proofs.Common.{◌≡◌, ◌≤◌, ◌<◌, ℕ, zero, suc, ◌+◌, ◌*◌, ◌/◌, List, length, refl, sym, ◌∙◌, ap, subst, arith, inl, inr}
use Rattle.std.specs.Prelude.{Contains}
use Rattle.std.specs.declared.cmp.Ordering.{Ordering}
use Rattle.sector_disk.specs.Lists.{Content, sector}
use Rattle.btree_node.specs.Levels.{Nodes}
use Rattle.btree_node.specs.Node.{IsNodeSize}
use Rattle.btree_node.specs.Tree.{pairs_of}
use Rattle.btree_node.specs.TreeFile.{TreeHead, TreeFile, TreeForm, IsTreeFile, tree_head, shape_of, file_of, store_of}
use Rattle.btree_file.specs.Held.{file_in}
use Rattle.btree_file.specs.Standing.{HoldsTree, pairs_in}
use Rattle.btree_file.specs.State.{nodes_on, sectors_of_tree}
use Rattle.btree_file.specs.declared.tree.TreeFile.{TreeFile as File}
use Rattle.btree_file.proofs.Rooms.{whole_node}
use Rattle.btree_file.proofs.StandingLaws.{head_is}
use Rattle.hfs_volume.specs.Content.{node_of_fork, tree_of_fork, facts_of}
use Rattle.volume_base.specs.Lists.{facts_on}
use Rattle.volume_base.proofs.Alike.{file_alike, map_is, pairs_alike}
use Rattle.volume_base.proofs.Bridging.{node_same, whole_size}
use Rattle.volume_base.proofs.Facts.{size_is, total_is, facts_stand}

module _ (content : Content) (limit : ℕ) (xs : List ℕ) (each : (at : ℕ) → Contains xs at → (at < limit) × (length (sector content at) ≡ 512)) (form : TreeForm) (is_key is_value : List ℕ → Type 0) (cmp : List ℕ → List ℕ → Ordering)
    (tree : IsTreeFile form is_key is_value cmp (file_in xs content)) (total : (file_in xs content).head.total * ((file_in xs content).head.node_size / 512) ≡ length xs)
  where
    abbrev h : TreeHead
    h = tree_head (nodes_on xs 512 content 0)

    size_whole : (tree_head (nodes_on xs 512 content 0)).node_size / 512 * 512 ≡ (tree_head (nodes_on xs 512 content 0)).node_size
    size_whole = whole_size (tree_head (nodes_on xs 512 content 0)).node_size tree.has_form.size

    some_sector : 1 ≤ length xs
    some_sector = some (tree_head (nodes_on xs 512 content 0)).total ((tree_head (nodes_on xs 512 content 0)).node_size / 512) (omega (arith, tree.map_nodes.ends)) (omega (arith, size_whole, least (tree_head (nodes_on xs 512 content 0)).node_size tree.has_form.size)) total
      where
        some : (m p : ℕ) → 0 < m → 0 < p → m * p ≡ length xs → 1 ≤ length xs
        some (suc m) (suc p) x y e = omega (arith, e)
        some zero p x y e = absurd (omega (arith, x))
        some (suc m) zero x y e = absurd (omega (arith, y))

        least : (n : ℕ) → IsNodeSize n → 512 ≤ n
        least n (inl e) = omega (arith, e)
        least n (inr (inl e)) = omega (arith, e)
        least n (inr (inr (inl e))) = omega (arith, e)
        least n (inr (inr (inr (inl e)))) = omega (arith, e)
        least n (inr (inr (inr (inr (inl e))))) = omega (arith, e)
        least n (inr (inr (inr (inr (inr (inl e)))))) = omega (arith, e)
        least n (inr (inr (inr (inr (inr (inr e)))))) = omega (arith, e)

    head_same : tree_head (node_of_fork content limit xs 512 0) ≡ tree_head (nodes_on xs 512 content 0)
    head_same = ap tree_head (sym (node_same content limit xs each 512 0 refl (omega (arith, some_sector))))

    nodes_same : (n : ℕ) → n < (tree_head (nodes_on xs 512 content 0)).total → node_of_fork content limit xs (tree_head (nodes_on xs 512 content 0)).node_size n ≡ nodes_on xs (tree_head (nodes_on xs 512 content 0)).node_size content n
    nodes_same n low = sym (node_same content limit xs each (tree_head (nodes_on xs 512 content 0)).node_size n size_whole
        (whole_node (tree_head (nodes_on xs 512 content 0)).total ((tree_head (nodes_on xs 512 content 0)).node_size / 512) n (length xs) (omega (arith, total)) low))

    -- the special file with the header record that both read
    in_between : tree_of_fork content limit xs ≡ file_of (tree_head (nodes_on xs 512 content 0)) (node_of_fork content limit xs (tree_head (nodes_on xs 512 content 0)).node_size)
    unfolding tree_of_fork
    in_between = ap (λ (k : TreeHead). file_of k (node_of_fork content limit xs k.node_size)) head_same

    -- the same pairs, and the same facts
    pub pairs_back : pairs_of (store_of (tree_of_fork content limit xs)) ≡ pairs_of (store_of (file_in xs content))
    pairs_back = ap (λ (f : TreeFile). pairs_of (store_of f)) in_between
        ∙ pairs_alike form is_key is_value cmp (tree_head (nodes_on xs 512 content 0)) (nodes_on xs (tree_head (nodes_on xs 512 content 0)).node_size content) (node_of_fork content limit xs (tree_head (nodes_on xs 512 content 0)).node_size) nodes_same tree

    pub facts_back : facts_of (tree_of_fork content limit xs) ≡ facts_of (file_in xs content)
    facts_back = ap facts_of in_between
        ∙ ap (λ (m : List ℕ). record { shape = shape_of (tree_head (nodes_on xs 512 content 0)); map_bits = 8 * length m })
        (map_is form is_key is_value cmp (tree_head (nodes_on xs 512 content 0)) (nodes_on xs (tree_head (nodes_on xs 512 content 0)).node_size content) (node_of_fork content limit xs (tree_head (nodes_on xs 512 content 0)).node_size) nodes_same tree)

    -- it is the file of a tree, with the same header record
    pub file_back : IsTreeFile form is_key is_value cmp (tree_of_fork content limit xs)
    file_back = subst (λ (f : TreeFile). IsTreeFile form is_key is_value cmp f) (sym in_between)
        (file_alike form is_key is_value cmp (tree_head (nodes_on xs 512 content 0)) (nodes_on xs (tree_head (nodes_on xs 512 content 0)).node_size content) (node_of_fork content limit xs (tree_head (nodes_on xs 512 content 0)).node_size) nodes_same tree)

    pub head_back : (tree_of_fork content limit xs).head ≡ (file_in xs content).head
    head_back = ap (λ (f : TreeFile). f.head) in_between

-- a tree file that holds its tree, whose sectors lie in blocks
module _ (content : Content) (limit : ℕ) (form : TreeForm) (is_key is_value : List ℕ → Type 0) (cmp : List ℕ → List ℕ → Ordering) (tree : File) (each : (at : ℕ) → Contains (sectors_of_tree tree) at → (at < limit) × (length (sector content at) ≡ 512))
    (holds : HoldsTree form is_key is_value cmp tree content)
  where
    whole : (file_in (sectors_of_tree tree) content).head.total * ((file_in (sectors_of_tree tree) content).head.node_size / 512) ≡ length (sectors_of_tree tree)
    whole = (λ i. total_is tree content holds.stands i * (size_is tree content holds.stands i / 512)) ∙ holds.stands.whole

    pub pairs_read : pairs_of (store_of (tree_of_fork content limit (sectors_of_tree tree))) ≡ pairs_in (sectors_of_tree tree) content
    pairs_read = pairs_back content limit (sectors_of_tree tree) each form is_key is_value cmp holds.file whole

    pub facts_read : facts_of (tree_of_fork content limit (sectors_of_tree tree)) ≡ facts_on tree
    facts_read = facts_back content limit (sectors_of_tree tree) each form is_key is_value cmp holds.file whole ∙ sym (facts_stand tree content holds.stands)

    pub file_read : IsTreeFile form is_key is_value cmp (tree_of_fork content limit (sectors_of_tree tree))
    file_read = file_back content limit (sectors_of_tree tree) each form is_key is_value cmp holds.file whole

    pub head_read : (tree_of_fork content limit (sectors_of_tree tree)).head ≡ tree_head tree.header
    head_read = head_back content limit (sectors_of_tree tree) each form is_key is_value cmp holds.file whole ∙ head_is tree content holds.stands
