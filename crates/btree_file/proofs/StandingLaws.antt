-- A tree file that stands over a content: the content has the tree that the file keeps.
use Rattle.std.proofs.Common.{◌≡◌, ℕ, ◌+◌, ◌*◌, ◌/◌, ◌≤◌, ◌<◌, true, List, drop, length, get_or, refl, sym, ◌∙◌, ap, subst, arith, ⊎_elim}
use Rattle.std.specs.Prelude.{pos}
use Rattle.std.specs.List.{All, flat_map, count_by, range_with_len}
use Rattle.std.specs.declared.cmp.Ordering.{Ordering}
use Rattle.std.proofs.Math.Nat.{mul-le-mul_right}
use Rattle.std.proofs.Math.Path.{fun_ext}
use Rattle.std.proofs.Math.ListN.{get_or-map}
use Rattle.std.proofs.lemmas.Bool.{cases_lt}
use Rattle.std.proofs.lemmas.List.{get_or-drop}
use Rattle.flag_rows.specs.Bits.{bit_of}
use Rattle.flag_rows.proofs.ByteLaws.{bit_past}
use Rattle.btree_node.specs.Levels.{Nodes, Pair}
use Rattle.btree_node.specs.MemLaws.{legal_size}
use Rattle.btree_node.specs.Node.{IsNodeSize, IsNodeOf, next_of, record_count}
use Rattle.btree_node.specs.Tree.{IsTree, HasValues, pairs_of}
use Rattle.btree_node.specs.TreeFile.{TreeHead, TreeForm, IsTreeFile, IsHeaderNode, tree_head, shape_of, map_chain, map_bytes, is_reserved_in, store_of}
use Rattle.btree_node.specs.declared.store.TreeShape.{TreeShape}
use Rattle.sector_disk.specs.Space.{Space}
use Rattle.btree_file.specs.Held.{HoldsNodes, file_in}
use Rattle.btree_file.specs.Map.{used_in, bits_of, is_reserved}
use Rattle.btree_file.specs.Standing.{Stands, HoldsTree, pairs_in}
use Rattle.btree_file.specs.State.{sectors_of_tree, nodes_on, state_of}
use Rattle.btree_file.specs.Walks.{names_of}
use Rattle.btree_file.specs.declared.tree.Stretch.{Stretch}
use Rattle.btree_file.specs.declared.tree.TreeFile.{TreeFile}
use Rattle.btree_file.proofs.Chains.{chain_named, few_stretches, reserved_same}
use Rattle.btree_file.proofs.Holding.{are_in, head_same}
use Rattle.btree_file.proofs.Joined.{AreIn, bytes_in, length_joined, used_joined, map_joined}
use Rattle.btree_file.proofs.Likeness.{tree_alike, pairs_alike}
use Rattle.btree_file.proofs.RoomLaws.{count_same}
use Rattle.btree_file.proofs.Sizes.{tree_size, tree_large}
use Rattle.btree_file.proofs.Walking.{length-names}

module _ (tree : TreeFile) (content : List (List ℕ)) (stands : Stands tree content) where
  abbrev file : Rattle.btree_node.specs.TreeFile.TreeFile
  file = file_in (sectors_of_tree tree) content

  abbrev nodes : Nodes
  nodes = nodes_on (sectors_of_tree tree) tree.shape.node_size content

  pub some_sector : 0 < length (sectors_of_tree tree)
  some_sector = omega (arith, stands.whole, mul-le-mul_right {m = 1} {n = tree.shape.total} (tree.shape.node_size / 512) stands.agrees.some, (tree_size tree).0)

  pub head_is : (file_in (sectors_of_tree tree) content).head ≡ tree_head tree.header
  head_is = sym (head_same (sectors_of_tree tree) content (tree.shape.node_size / 512) (tree_size tree).0 some_sector stands.first) ∙ ap tree_head stands.agrees.header_is

  pub shape_is : shape_of (file_in (sectors_of_tree tree) content).head ≡ tree.shape
  shape_is = ap shape_of head_is ∙ stands.settled

  size_is : (file_in (sectors_of_tree tree) content).head.node_size ≡ tree.shape.node_size
  size_is = ap (λ (h : TreeHead). h.node_size) head_is ∙ stands.agrees.says_size

  total_is : (file_in (sectors_of_tree tree) content).head.total ≡ tree.shape.total
  total_is = ap (λ (h : TreeHead). h.total) head_is ∙ stands.agrees.says_total

  free_is : (file_in (sectors_of_tree tree) content).head.free ≡ tree.shape.free
  free_is = ap (λ (s : TreeShape). s.free) shape_is

  pub nodes_are : (file_in (sectors_of_tree tree) content).nodes ≡ nodes_on (sectors_of_tree tree) tree.shape.node_size content
  nodes_are = ap (λ n. nodes_on (sectors_of_tree tree) n content) size_is

  few : length tree.map.items ≤ tree.shape.total
  few = few_stretches tree.map.items tree.shape.total tree.kept.map_inside tree.kept.map_apart

  pub chain_is : (file_in (sectors_of_tree tree) content).chain ≡ names_of tree.map.items
  chain_is =
      ap (λ n. map_chain (nodes_on (sectors_of_tree tree) n content) (file_in (sectors_of_tree tree) content).head.total (next_of (nodes_on (sectors_of_tree tree) n content 0))) size_is
      ∙ ap (λ t. map_chain (nodes_on (sectors_of_tree tree) tree.shape.node_size content) t (next_of (nodes_on (sectors_of_tree tree) tree.shape.node_size content 0))) total_is
      ∙ chain_named (nodes_on (sectors_of_tree tree) tree.shape.node_size content) tree.shape.node_size tree.shape.total tree.map.items stands.agrees.stretches tree.kept.map_apart few

  inside : AreIn (nodes_on (sectors_of_tree tree) tree.shape.node_size content) tree.map.items
  inside = are_in (nodes_on (sectors_of_tree tree) tree.shape.node_size content) tree.shape.node_size tree.map.items (tree_large tree) (ap (λ (l : List ℕ). length l) stands.agrees.header_is ∙ tree.long) stands.agrees.stretches

  pub map_is : (file_in (sectors_of_tree tree) content).map ≡ flat_map (bytes_in (nodes_on (sectors_of_tree tree) tree.shape.node_size content)) tree.map.items
  map_is =
      ap (λ (c : List ℕ). map_bytes (nodes_on (sectors_of_tree tree) (file_in (sectors_of_tree tree) content).head.node_size content) (file_in (sectors_of_tree tree) content).head.node_size c) chain_is
      ∙ ap (λ n. map_bytes (nodes_on (sectors_of_tree tree) n content) n (names_of tree.map.items)) size_is
      ∙ map_joined (nodes_on (sectors_of_tree tree) tree.shape.node_size content) tree.shape.node_size tree.map.items (tree_large tree) stands.agrees.stretches

  pub bits_are : bits_of tree.map.items ≡ 8 * length (file_in (sectors_of_tree tree) content).map
  bits_are = sym (length_joined (nodes_on (sectors_of_tree tree) tree.shape.node_size content) tree.map.items inside) ∙ ap (λ (l : List ℕ). 8 * length l) (sym map_is)

  pub used_are : (n : ℕ) → n < bits_of tree.map.items → used_in (nodes_on (sectors_of_tree tree) tree.shape.node_size content) tree.map.items n ≡ bit_of (file_in (sectors_of_tree tree) content).map n
  used_are n low = used_joined (nodes_on (sectors_of_tree tree) tree.shape.node_size content) tree.map.items inside n low ∙ ap (λ (l : List ℕ). bit_of l n) (sym map_is)

  in_map : (n : ℕ) → n < tree.shape.total → n < bits_of tree.map.items
  in_map n low = omega (arith, low, stands.agrees.bits)

  pub reserved_are : (n : ℕ) → is_reserved tree.map.items n ≡ is_reserved_in (file_in (sectors_of_tree tree) content).chain n
  reserved_are n = reserved_same (nodes_on (sectors_of_tree tree) tree.shape.node_size content) tree.shape.node_size tree.map.items n stands.agrees.stretches ∙ ap (λ (c : List ℕ). is_reserved_in c n) (sym chain_is)

  -- the node of a stretch behind the first is a map node
  map_node_at : (size : ℕ) → size ≡ tree.shape.node_size → All (λ n. (n < (file_in (sectors_of_tree tree) content).head.total) × IsNodeOf (pos 2) 0 (nodes_on (sectors_of_tree tree) size content n) × (0 < record_count (nodes_on (sectors_of_tree tree) size content n))) (names_of tree.map.items)
  map_node_at size is = subst (λ z. All (λ n. (n < (file_in (sectors_of_tree tree) content).head.total) × IsNodeOf (pos 2) 0 (nodes_on (sectors_of_tree tree) z content n) × (0 < record_count (nodes_on (sectors_of_tree tree) z content n))) (names_of tree.map.items)) (sym is)
      (λ i d low.
      let s : Stretch = record { node = d; at = 0; len = 0 } in
      let at : get_or (names_of tree.map.items) i d ≡ (get_or tree.map.items (1 + i) (record { node = d; at = 0; len = 0 })).node =
      get_or-map (λ (t : Stretch). t.node) (drop 1 tree.map.items) i (record { node = d; at = 0; len = 0 }) ∙ ap (λ (t : Stretch). t.node) (get_or-drop 1 tree.map.items i (record { node = d; at = 0; len = 0 })) in
      let there : 1 + i < length tree.map.items = omega (arith, low, length-names tree.map.items) in
      let is = stands.agrees.stretches.each (1 + i) (record { node = d; at = 0; len = 0 }) (omega arith) there in
      subst (λ n. (n < (file_in (sectors_of_tree tree) content).head.total) × IsNodeOf (pos 2) 0 (nodes_on (sectors_of_tree tree) tree.shape.node_size content n) × (0 < record_count (nodes_on (sectors_of_tree tree) tree.shape.node_size content n))) (sym at)
      (omega (arith, tree.kept.map_inside (1 + i) (record { node = d; at = 0; len = 0 }) there, total_is), is.grammar, is.some))

  name_at : (i : ℕ) → get_or (names_of tree.map.items) i 0 ≡ (get_or tree.map.items (1 + i) (record { node = 0; at = 0; len = 0 })).node
  name_at i = get_or-map (λ (t : Stretch). t.node) (drop 1 tree.map.items) i (record { node = 0; at = 0; len = 0 }) ∙ ap (λ (t : Stretch). t.node) (get_or-drop 1 tree.map.items i (record { node = 0; at = 0; len = 0 }))

  apart_names : (i j : ℕ) → i < length (names_of tree.map.items) → j < length (names_of tree.map.items) → get_or (names_of tree.map.items) i 0 ≡ get_or (names_of tree.map.items) j 0 → i ≡ j
  apart_names i j low below same =
      let e = tree.kept.map_apart (1 + i) (1 + j) (record { node = 0; at = 0; len = 0 }) (omega (arith, low, length-names tree.map.items)) (omega (arith, below, length-names tree.map.items)) (sym (name_at i) ∙ same ∙ name_at j) in
      omega (arith, e)

  -- the content has the nodes that a tree counts
  pub holds_nodes : HoldsNodes (sectors_of_tree tree) (file_in (sectors_of_tree tree) content)
  holds_nodes = record {
    size = subst IsNodeSize (sym size_is) (legal_size tree.shape.node_size tree.kept.size);
    whole = ap (λ n. n * ((file_in (sectors_of_tree tree) content).head.node_size / 512)) total_is ∙ ap (λ n. tree.shape.total * (n / 512)) size_is ∙ stands.whole;
    map_nodes = record {
      header = subst IsHeaderNode (sym (ap (λ n. nodes_on (sectors_of_tree tree) n content 0) size_is ∙ stands.agrees.header_is)) stands.agrees.header_node;
      each = subst (λ (c : List ℕ). All (λ n. (n < (file_in (sectors_of_tree tree) content).head.total) × IsNodeOf (pos 2) 0 ((file_in (sectors_of_tree tree) content).nodes n) × (0 < record_count ((file_in (sectors_of_tree tree) content).nodes n))) c) (sym chain_is)
          (map_node_at (file_in (sectors_of_tree tree) content).head.node_size size_is);
      ends = omega (arith, ap (λ (c : List ℕ). length c) chain_is, length-names tree.map.items, few, total_is, stands.agrees.some, stands.agrees.stretches.some);
      distinct = subst (λ (c : List ℕ). (i j : ℕ) → i < length c → j < length c → get_or c i 0 ≡ get_or c j 0 → i ≡ j) (sym chain_is) apart_names;
    };
    bits = omega (arith, stands.agrees.bits, bits_are, total_is);
    free = omega (
      arith,
      free_is,
      total_is,
      stands.agrees.counted,
      ap (λ t. count_by (bit_of (file_in (sectors_of_tree tree) content).map) (range_with_len 0 t)) total_is,
      count_same (used_in (nodes_on (sectors_of_tree tree) tree.shape.node_size content) tree.map.items) (bit_of (file_in (sectors_of_tree tree) content).map) 0 tree.shape.total (λ k from to. sym (used_are k (in_map k (omega (arith, to))))),
    );
    reserved = λ n low is. sym (used_are n (in_map n (omega (arith, low, total_is)))) ∙ stands.agrees.reserved n (omega (arith, low, total_is)) (reserved_are n ∙ is);
    no_more = λ n high. ⊎_elim
        (λ (less : n < bits_of tree.map.items). sym (used_are n less) ∙ stands.agrees.behind n (omega (arith, high, total_is)) less)
        (λ (more : bits_of tree.map.items ≤ n). bit_past (file_in (sectors_of_tree tree) content).map n (omega (arith, more, bits_are)))
        (cases_lt n (bits_of tree.map.items));
  }

  -- ---- the tree of the store and that of the content

  module _ (is_key : List ℕ → Type 0) (cmp : List ℕ → List ℕ → Ordering) (names : List ℕ) (space : Space) (here : space.content ≡ content) where
    nodes_here : (state_of names tree space).nodes ≡ (store_of (file_in (sectors_of_tree tree) content)).nodes
    nodes_here = ap (λ (c : List (List ℕ)). nodes_on (sectors_of_tree tree) tree.shape.node_size c) here ∙ sym nodes_are

    used_here : (n : ℕ) → n < tree.shape.total → (state_of names tree space).used n ≡ bit_of (file_in (sectors_of_tree tree) content).map n
    used_here n low = ap (λ (c : List (List ℕ)). used_in (nodes_on (sectors_of_tree tree) tree.shape.node_size c) tree.map.items n) here ∙ used_are n (in_map n low)

    pub tree_of_file : IsTree is_key cmp (store_of (file_in (sectors_of_tree tree) content)) → IsTree is_key cmp (state_of names tree space)
    tree_of_file rules = tree_alike is_key cmp (store_of (file_in (sectors_of_tree tree) content)) tree.shape (state_of names tree space).nodes (state_of names tree space).used (is_reserved tree.map.items)
        space.tells names (state_of names tree space).header (state_of names tree space).written (state_of names tree space).unwritten (state_of names tree space).writes_left space.spare tree.loads space.faults
        shape_is (sym nodes_here) (fun_ext (λ n. sym (reserved_are n))) (λ n low. used_here n (omega (arith, low, total_is))) rules

    pub file_of_tree : IsTree is_key cmp (state_of names tree space) → IsTree is_key cmp (store_of (file_in (sectors_of_tree tree) content))
    file_of_tree rules = tree_alike is_key cmp (state_of names tree space) (shape_of (file_in (sectors_of_tree tree) content).head) (file_in (sectors_of_tree tree) content).nodes (bit_of (file_in (sectors_of_tree tree) content).map)
        (is_reserved_in (file_in (sectors_of_tree tree) content).chain)
        true (store_of (file_in (sectors_of_tree tree) content)).names (shape_of (file_in (sectors_of_tree tree) content).head) (store_of (file_in (sectors_of_tree tree) content)).written (file_in (sectors_of_tree tree) content).head.total 0 0 0 0
        (sym shape_is) nodes_here (fun_ext reserved_are) (λ n low. sym (used_here n low)) rules

    -- its pairs are those of the content
    pub pairs_here : pairs_of (state_of names tree space) ≡ pairs_in (sectors_of_tree tree) content
    pairs_here = pairs_alike (state_of names tree space) (store_of (file_in (sectors_of_tree tree) content)) (sym shape_is) nodes_here

-- ---- before an edit

module _ (form : TreeForm) (is_key is_value : List ℕ → Type 0) (cmp : List ℕ → List ℕ → Ordering) (names : List ℕ) (tree : TreeFile) (space : Space) (holds : HoldsTree form is_key is_value cmp tree space.content) where
  -- the store that the file and the space are has the tree
  pub tree_held : IsTree is_key cmp (state_of names tree space)
  tree_held = tree_of_file tree space.content holds.stands is_key cmp names space refl holds.file.rules

  pub values_held : HasValues is_value (state_of names tree space)
  values_held = subst (λ (pairs : List Pair). All (λ pair. is_value pair.1) pairs) (sym (pairs_here tree space.content holds.stands is_key cmp names space refl)) holds.file.values

  pub pairs_held : pairs_of (state_of names tree space) ≡ pairs_in (sectors_of_tree tree) space.content
  pairs_held = pairs_here tree space.content holds.stands is_key cmp names space refl
