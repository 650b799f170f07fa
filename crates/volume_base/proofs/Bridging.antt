-- The tree in the sectors of a fork, read as a special file of a volume and as the file of a tree.
use Rattle.std.proofs.Common.{◌≡◌, ◌≤◌, ◌<◌, ℕ, zero, suc, ◌+◌, ◌-◌, ◌*◌, ◌/◌, ◌++◌, Bool, true, List, [], ◌∷◌, length, take, drop, replicate, refl, sym, ◌∙◌, ap, subst, arith, inl, inr, ⊎_elim}
use Rattle.std.specs.Prelude.{Contains, nat_lt, if◌then◌else◌}
use Rattle.std.specs.List.{flat_map}
use Rattle.std.specs.declared.cmp.Ordering.{Ordering}
use Rattle.std.proofs.lemmas.Bool.{le-leb}
use Rattle.std.proofs.lemmas.List.{take_all, take-append-le, append-nil, length-append}
use Rattle.sector_disk.specs.Lists.{Content, sector}
use Rattle.fork_map.specs.Nodes.{bytes_of, node_of}
use Rattle.btree_node.specs.Levels.{Nodes, Pair}
use Rattle.btree_node.specs.Node.{IsNodeSize}
use Rattle.btree_node.specs.Tree.{pairs_of}
use Rattle.btree_node.specs.TreeFile.{TreeHead, TreeFile, TreeForm, IsTreeFile, tree_head, shape_of, file_of, store_of}
use Rattle.btree_file.specs.Held.{file_in, HoldsNodes}
use Rattle.btree_file.specs.Place.{sectors_at}
use Rattle.btree_file.specs.State.{nodes_on}
use Rattle.btree_file.proofs.PlaceLaws.{many, stands}
use Rattle.btree_file.proofs.Rooms.{whole_node, of_fork}
use Rattle.hfs_model.specs.Step.{padded}
use Rattle.hfs_volume.specs.Content.{block_sector, block_bytes, node_of_fork, tree_of_fork, facts_of}
use Rattle.hfs_volume.proofs.Members.{at_front, behind}
use Rattle.volume_base.proofs.Alike.{map_is, pairs_alike, file_alike, tree_holds}

-- a text that is long enough is padded with nothing
pub padded_full : (size : ℕ) (bytes : List ℕ) → length bytes ≡ size → padded size bytes ≡ bytes
padded_full size bytes long =
    let none : size - length bytes ≡ 0 = omega (arith, long) in
    ap (λ n. bytes ++ replicate n 0) none ∙ append-nil bytes

-- a whole sector of a block
pub whole_sector : (content : Content) (limit at : ℕ) → at < limit → length (sector content at) ≡ 512 → block_sector content limit at ≡ sector content at
unfolding block_sector
whole_sector content limit at low long =
    ap (λ b. if b then take 512 (padded 512 (sector content at)) else replicate 512 0) (le-leb (suc at) limit (omega (arith, low)))
    ∙ ap (λ (l : List ℕ). take 512 l) (padded_full 512 (sector content at) long) ∙ take_all 512 (sector content at) (omega (arith, long))

whole_bytes : (content : Content) (limit : ℕ) (xs : List ℕ) → ((at : ℕ) → Contains xs at → (at < limit) × (length (sector content at) ≡ 512)) → (block_bytes content limit xs ≡ bytes_of content xs) × (length (bytes_of content xs) ≡ length xs * 512)
unfolding block_bytes
whole_bytes content limit [] each = (refl, refl)
whole_bytes content limit (x ∷ xs) each =
    let here = each x (at_front x xs) in
    let rest = whole_bytes content limit xs (λ at has. each at (behind x at xs has)) in
    let one = whole_sector content limit x here.0 here.1 in
    ((λ i. one i ++ rest.0 i), omega (arith, length-append (sector content x) (bytes_of content xs), here.1, rest.1))

-- node sizes are whole sectors
pub whole_size : (n : ℕ) → IsNodeSize n → n / 512 * 512 ≡ n
whole_size n (inl e) = omega (arith, e)
whole_size n (inr (inl e)) = omega (arith, e)
whole_size n (inr (inr (inl e))) = omega (arith, e)
whole_size n (inr (inr (inr (inl e)))) = omega (arith, e)
whole_size n (inr (inr (inr (inr (inl e))))) = omega (arith, e)
whole_size n (inr (inr (inr (inr (inr (inl e)))))) = omega (arith, e)
whole_size n (inr (inr (inr (inr (inr (inr e)))))) = omega (arith, e)

module _ (content : Content) (limit : ℕ) (xs : List ℕ) (each : (at : ℕ) → Contains xs at → (at < limit) × (length (sector content at) ≡ 512)) where
  -- a node that the fork has
  pub node_same : (size n : ℕ) → size / 512 * 512 ≡ size → (n + 1) * (size / 512) ≤ length xs → nodes_on xs size content n ≡ node_of_fork content limit xs size n
  unfolding node_of_fork
  node_same size n whole ends =
      let both = whole_bytes content limit (sectors_at xs (size / 512) n) (λ at has. each at (of_fork xs (size / 512) n at has)) in
      let long : length (bytes_of content (sectors_at xs (size / 512) n)) ≡ size = omega (arith, both.1, ap (λ k. k * 512) (many xs (size / 512) n ends), whole) in
      sym (ap (λ (l : List ℕ). padded size l) both.0 ∙ padded_full size (bytes_of content (sectors_at xs (size / 512) n)) long)

  module _ (form : TreeForm) (is_key is_value : List ℕ → Type 0) (cmp : List ℕ → List ℕ → Ordering) (tree : IsTreeFile form is_key is_value cmp (tree_of_fork content limit xs)) (total : (tree_of_fork content limit xs).head.total * ((tree_of_fork content limit xs).head.node_size / 512) ≡ length xs) where
    abbrev h : TreeHead
    h = tree_head (node_of_fork content limit xs 512 0)

    abbrev first_nodes : Nodes
    first_nodes = node_of_fork content limit xs (tree_head (node_of_fork content limit xs 512 0)).node_size

    is_file : IsTreeFile form is_key is_value cmp (file_of (tree_head (node_of_fork content limit xs 512 0)) (node_of_fork content limit xs (tree_head (node_of_fork content limit xs 512 0)).node_size))
    unfolding tree_of_fork
    is_file = tree

    is_total : (tree_head (node_of_fork content limit xs 512 0)).total * ((tree_head (node_of_fork content limit xs 512 0)).node_size / 512) ≡ length xs
    unfolding tree_of_fork
    is_total = total

    size_whole : (tree_head (node_of_fork content limit xs 512 0)).node_size / 512 * 512 ≡ (tree_head (node_of_fork content limit xs 512 0)).node_size
    size_whole = whole_size (tree_head (node_of_fork content limit xs 512 0)).node_size is_file.has_form.size

    some_sector : 1 ≤ length xs
    some_sector = some (tree_head (node_of_fork content limit xs 512 0)).total ((tree_head (node_of_fork content limit xs 512 0)).node_size / 512) (omega (arith, is_file.map_nodes.ends)) (omega (arith, size_whole, least (tree_head (node_of_fork content limit xs 512 0)).node_size is_file.has_form.size)) is_total
      where
        some : (m p : ℕ) → 0 < m → 0 < p → m * p ≡ length xs → 1 ≤ length xs
        some (suc m) (suc p) x y e = omega (arith, e)
        some zero p x y e = absurd (omega (arith, x))
        some (suc m) zero x y e = absurd (omega (arith, y))

        least : (n : ℕ) → IsNodeSize n → 512 ≤ n
        least n (inl e) = omega (arith, e)
        least n (inr (inl e)) = omega (arith, e)
        least n (inr (inr (inl e))) = omega (arith, e)
        least n (inr (inr (inr (inl e)))) = omega (arith, e)
        least n (inr (inr (inr (inr (inl e))))) = omega (arith, e)
        least n (inr (inr (inr (inr (inr (inl e)))))) = omega (arith, e)
        least n (inr (inr (inr (inr (inr (inr e)))))) = omega (arith, e)

    head_same : tree_head (nodes_on xs 512 content 0) ≡ tree_head (node_of_fork content limit xs 512 0)
    head_same = ap tree_head (node_same 512 0 refl (omega (arith, some_sector)))

    nodes_same : (n : ℕ) → n < (tree_head (node_of_fork content limit xs 512 0)).total → nodes_on xs (tree_head (node_of_fork content limit xs 512 0)).node_size content n ≡ node_of_fork content limit xs (tree_head (node_of_fork content limit xs 512 0)).node_size n
    nodes_same n low = node_same (tree_head (node_of_fork content limit xs 512 0)).node_size n size_whole
        (whole_node (tree_head (node_of_fork content limit xs 512 0)).total ((tree_head (node_of_fork content limit xs 512 0)).node_size / 512) n (length xs) (omega (arith, is_total)) low)

    -- the file with the header record that both read
    in_between : file_in xs content ≡ file_of (tree_head (node_of_fork content limit xs 512 0)) (nodes_on xs (tree_head (node_of_fork content limit xs 512 0)).node_size content)
    in_between = ap (λ (k : TreeHead). file_of k (nodes_on xs k.node_size content)) head_same

    -- it is the file of a tree
    pub file_bridged : IsTreeFile form is_key is_value cmp (file_in xs content)
    file_bridged = subst (λ f. IsTreeFile form is_key is_value cmp f) (sym in_between)
        (file_alike form is_key is_value cmp (tree_head (node_of_fork content limit xs 512 0)) (node_of_fork content limit xs (tree_head (node_of_fork content limit xs 512 0)).node_size) (nodes_on xs (tree_head (node_of_fork content limit xs 512 0)).node_size content) nodes_same is_file)

    pub nodes_bridged : HoldsNodes xs (file_in xs content)
    nodes_bridged = tree_holds form is_key is_value cmp xs (file_in xs content) file_bridged (ap (λ (f : TreeFile). f.head.total * (f.head.node_size / 512)) in_between ∙ is_total)

    -- with the same pairs, and the same facts
    pub pairs_bridged : pairs_of (store_of (file_in xs content)) ≡ pairs_of (store_of (tree_of_fork content limit xs))
    unfolding tree_of_fork
    pairs_bridged = ap (λ f. pairs_of (store_of f)) in_between
        ∙ pairs_alike form is_key is_value cmp (tree_head (node_of_fork content limit xs 512 0)) (node_of_fork content limit xs (tree_head (node_of_fork content limit xs 512 0)).node_size) (nodes_on xs (tree_head (node_of_fork content limit xs 512 0)).node_size content) nodes_same is_file

    pub facts_bridged : facts_of (file_in xs content) ≡ facts_of (tree_of_fork content limit xs)
    unfolding tree_of_fork
    facts_bridged = ap facts_of in_between
        ∙ ap (λ (m : List ℕ). record { shape = shape_of (tree_head (node_of_fork content limit xs 512 0)); map_bits = 8 * length m })
        (map_is form is_key is_value cmp (tree_head (node_of_fork content limit xs 512 0)) (node_of_fork content limit xs (tree_head (node_of_fork content limit xs 512 0)).node_size) (nodes_on xs (tree_head (node_of_fork content limit xs 512 0)).node_size content) nodes_same is_file)

    pub head_bridged : (file_in xs content).head ≡ (tree_of_fork content limit xs).head
    unfolding tree_of_fork
    head_bridged = head_same
