-- The nodes of a fork of one run of blocks, which holds a text and zeros behind it, and the tree that they are.
use Rattle.std.proofs.Common.{◌≡◌, ⊎_elim, ℕ, zero, suc, ◌+◌, ◌-◌, ◌*◌, ◌<◌, ◌≤◌, List, [], ◌++◌, length, take, drop, replicate, refl, sym, ◌∙◌, ap, subst, arith}
use Rattle.std.specs.List.{flat_map, range_with_len, slice_range}
use Rattle.std.proofs.lemmas.Bool.{cases_lt}
use Rattle.std.proofs.lemmas.List.{append-nil, take_all, drop_all, take_at, drop_at, take-append-drop, length-take-le, length-drop, get_or_append_left}
use Rattle.std.proofs.lemmas.List.FromFn.{length-range_with_len}
use Rattle.std.proofs.Math.Seq.{take-add}
use Rattle.std.proofs.Math.ListN.{length-replicate}
use Rattle.hx_bytes.specs.Field.{big_at}
use Rattle.hx_bytes.specs.declared.fields.Order.TheVariants.{Big}
use Rattle.hx_bytes.proofs.Laws.{number_at-front}
use Rattle.fork_map.proofs.Ranges.{range-append}
use Rattle.flag_rows.specs.Bitmap.{is_marked, nowhere, bits_bytes}
use Rattle.btree_node.specs.Levels.{Nodes}
use Rattle.btree_node.specs.Node.{next_of}
use Rattle.btree_node.specs.TreeFile.{TreeFile, TreeHead, tree_head, file_of, map_chain, map_bytes}
use Rattle.btree_node.specs.Codec.{HeaderReadsBack, head_of}
use Rattle.btree_node.specs.declared.codec.TreeHeader.{TreeHeader}
use Rattle.jnl_format.specs.Recovery.{Content, sector}
use Rattle.hfs_model.specs.Step.{padded}
use Rattle.hfs_volume.specs.Content.{block_bytes, node_of_fork, tree_of_fork}
use Rattle.volume_make.specs.Texts.{piece}
use Rattle.fresh_volume.specs.Fresh.{IsFreshTree}
use Rattle.fresh_volume.proofs.Pieces.{pieces_inside, pieces_behind, part_bytes}

-- a stretch of a range
stretch : (first count a m : ℕ) → a + m ≤ count → take m (drop a (range_with_len first count)) ≡ range_with_len (first + a) m
stretch first count a m inside =
    let rest : ℕ = count - (a + m) in
    let behind : List ℕ = range_with_len (first + a + m) rest in
    let whole : range_with_len first count ≡ range_with_len first a ++ (range_with_len (first + a) m ++ behind) =
    ap (range_with_len first) {x = count} {y = a + (m + rest)} (omega arith) ∙ range-append first a (m + rest) ∙ ap (λ (l : List ℕ). range_with_len first a ++ l) (range-append (first + a) m rest) in
    ap (λ (l : List ℕ). take m (drop a l)) whole
    ∙ ap (take m) (drop_at (range_with_len first a) (range_with_len (first + a) m ++ behind) a (length-range_with_len first a))
    ∙ take_at (range_with_len (first + a) m) behind m (length-range_with_len (first + a) m)

whole_node : (size : ℕ) (bytes : List ℕ) → length bytes ≡ size → padded size bytes ≡ bytes
whole_node size bytes long =
    ap (λ (n : ℕ). bytes ++ replicate n 0) {x = size - length bytes} {y = 0} (omega arith) ∙ append-nil bytes

chain_none : (nodes : Nodes) (total n : ℕ) → n ≡ 0 → map_chain nodes total n ≡ []
unfolding map_chain
chain_none nodes zero n none = refl
chain_none nodes (suc total) n none = ap (map_chain nodes (suc total)) none

-- the header record stands in the first sector of a node
head_of_node : (node : List ℕ) → 512 ≤ length node → tree_head (take 512 node) ≡ tree_head node
head_of_node node long =
    let front : List ℕ = take 512 node in
    let back : List ℕ = drop 512 node in
    let wide : length front ≡ 512 = length-take-le 512 node long in
    let number : (n at : ℕ) → at + n ≤ 512 → big_at n (front ++ back) at ≡ big_at n front at = λ n at within. number_at-front Big n at front back (omega (arith, wide)) in
    let joined : front ++ back ≡ node = take-append-drop 512 node in
    sym (ap tree_head (sym joined) ∙ (λ i. record {
      depth = number 2 14 (omega arith) i;
      root = number 4 16 (omega arith) i;
      leaf_records = number 4 20 (omega arith) i;
      first = number 4 24 (omega arith) i;
      last = number 4 28 (omega arith) i;
      node_size = number 2 32 (omega arith) i;
      max_key = number 2 34 (omega arith) i;
      total = number 4 36 (omega arith) i;
      free = number 4 40 (omega arith) i;
      compare = get_or_append_left front back 0 51 (omega (arith, wide)) i;
      attributes = number 4 52 (omega arith) i;
    }))

module _ (content : Content) (limit first count : ℕ) (text : List ℕ) (t : ℕ) (whole : length text ≡ t * 4096) (below : first + count ≤ limit) (holds : (k : ℕ) → k < count → sector content (first + k) ≡ piece text k) where
  abbrev sectors : List ℕ
  sectors = range_with_len first count

  stretch_bytes : (a m : ℕ) → a + m ≤ count → block_bytes content limit (take m (drop a sectors)) ≡ flat_map (piece text) (range_with_len a m)
  stretch_bytes a m inside =
      ap (block_bytes content limit) (stretch first count a m inside) ∙ part_bytes content limit first count text (t * 8) (omega (arith, whole)) below holds a m inside

  first_sector : 1 ≤ count → 512 ≤ length text → node_of_fork content limit sectors 512 0 ≡ take 512 text
  unfolding node_of_fork
  first_sector some long =
      let bytes : block_bytes content limit (take 1 (drop 0 sectors)) ≡ take 512 text = stretch_bytes 0 1 some ∙ pieces_inside text 0 1 long in
      ap (padded 512) bytes ∙ whole_node 512 (take 512 text) (length-take-le 512 text long)

  node_text : (n : ℕ) → n * 8 + 8 ≤ count → n * 4096 + 4096 ≤ length text → node_of_fork content limit sectors 4096 n ≡ take 4096 (drop (n * 4096) text)
  unfolding node_of_fork
  node_text n inside long =
      let place : drop (n * 8 * 512) text ≡ drop (n * 4096) text = ap (λ (k : ℕ). drop k text) {x = n * 8 * 512} {y = n * 4096} (omega arith) in
      let bytes : block_bytes content limit (take 8 (drop (n * 8) sectors)) ≡ take 4096 (drop (n * 4096) text) =
      stretch_bytes (n * 8) 8 inside ∙ pieces_inside text (n * 8) 8 (omega arith) ∙ ap (take 4096) place in
      ap (padded 4096) bytes ∙ whole_node 4096 (take 4096 (drop (n * 4096) text)) (length-take-le 4096 (drop (n * 4096) text) (omega (arith, length-drop (n * 4096) text)))

  long : length sectors ≡ count
  long = length-range_with_len first count

  nothing : padded 4096 (block_bytes content limit []) ≡ replicate 4096 0
  unfolding block_bytes
  nothing = refl

  node_blank : (c n : ℕ) → count ≡ c * 8 → t ≤ n → node_of_fork content limit sectors 4096 n ≡ replicate 4096 0
  unfolding node_of_fork
  node_blank c n nodes behind =
      ⊎_elim
      (λ (low : n < c).
      let bytes : block_bytes content limit (take 8 (drop (n * 8) sectors)) ≡ replicate 4096 0 = stretch_bytes (n * 8) 8 (omega arith) ∙ pieces_behind text (n * 8) 8 (omega (arith, whole)) in
      ap (padded 4096) bytes ∙ whole_node 4096 (replicate 4096 0) (length-replicate {A = ℕ} 4096 0))
      (λ (high : c ≤ n).
      let none : take 8 (drop (n * 8) sectors) ≡ [] = ap (take 8) (drop_all (n * 8) sectors (omega (arith, long))) in
      ap (λ (l : List ℕ). padded 4096 (block_bytes content limit l)) none ∙ nothing)
      (cases_lt n c)

  -- the tree in the fork
  pub fresh_tree : (c : ℕ) (tree : TreeHeader) → count ≡ c * 8 → 1 ≤ c → 1 ≤ t → tree.node_size ≡ 4096 → HeaderReadsBack (take 4096 text) tree (is_marked t nowhere) → IsFreshTree tree t (tree_of_fork content limit sectors)
  unfolding tree_of_fork map_bytes
  fresh_tree c tree nodes some one size back =
      let node : Nodes = node_of_fork content limit sectors 4096 in
      let node_is : node 0 ≡ take 4096 text = node_text 0 (omega arith) (omega (arith, whole)) in
      let long : length (take 4096 text) ≡ 4096 = length-take-le 4096 text (omega (arith, whole)) in
      let shorter : take 512 text ≡ take 512 (take 4096 text) =
      sym (ap (take 512) (take-add 512 3584 text) ∙ take_at (take 512 text) (take 3584 (drop 512 text)) 512 (length-take-le 512 text (omega (arith, whole)))) in
      let head_is : tree_head (node_of_fork content limit sectors 512 0) ≡ head_of tree =
      ap tree_head (first_sector (omega arith) (omega (arith, whole)) ∙ shorter) ∙ head_of_node (take 4096 text) (omega (arith, long)) ∙ back.head in
      let file_is : tree_of_fork content limit sectors ≡ file_of (head_of tree) node =
      ap (λ (h : TreeHead). file_of h (node_of_fork content limit sectors h.node_size)) head_is ∙ ap (λ (n : ℕ). file_of (head_of tree) (node_of_fork content limit sectors n)) size in
      let chain_is : map_chain node tree.total_nodes (next_of (node 0)) ≡ [] = chain_none node tree.total_nodes (next_of (node 0)) (ap next_of node_is ∙ back.next) in
      let map_is : map_bytes node tree.node_size (map_chain node tree.total_nodes (next_of (node 0))) ≡ bits_bytes (is_marked t nowhere) 0 3840 =
      ap (map_bytes node tree.node_size) chain_is
      ∙ append-nil (slice_range (node 0) 248 (tree.node_size - 8))
      ∙ ap (λ (b : List ℕ). slice_range b 248 (tree.node_size - 8)) node_is
      ∙ back.map
      ∙ ap (λ (n : ℕ). bits_bytes (is_marked t nowhere) 0 (n - 256)) size in
      subst (λ (file : TreeFile). IsFreshTree tree t file) (sym file_is) (record {
        head = refl;
        header = subst (λ (b : List ℕ). HeaderReadsBack b tree (is_marked t nowhere)) (sym node_is) back;
        chain = chain_is;
        map = map_is;
        rest = λ n from. node_blank c n nodes from;
      })

  -- the second node, where the text has one
  pub second_node : (tree : TreeHeader) → 16 ≤ count → t ≡ 2 → tree.node_size ≡ 4096 → HeaderReadsBack (take 4096 text) tree (is_marked t nowhere) → (tree_of_fork content limit sectors).nodes 1 ≡ drop 4096 text
  unfolding tree_of_fork
  second_node tree many two size back =
      let long : length (take 4096 text) ≡ 4096 = length-take-le 4096 text (omega (arith, whole)) in
      let shorter : take 512 text ≡ take 512 (take 4096 text) =
      sym (ap (take 512) (take-add 512 3584 text) ∙ take_at (take 512 text) (take 3584 (drop 512 text)) 512 (length-take-le 512 text (omega (arith, whole)))) in
      let head_is : tree_head (node_of_fork content limit sectors 512 0) ≡ head_of tree =
      ap tree_head (first_sector (omega arith) (omega (arith, whole)) ∙ shorter) ∙ head_of_node (take 4096 text) (omega (arith, long)) ∙ back.head in
      ap (λ (h : TreeHead). node_of_fork content limit sectors h.node_size 1) head_is
      ∙ ap (λ (n : ℕ). node_of_fork content limit sectors n 1) size
      ∙ node_text 1 (omega arith) (omega (arith, whole))
      ∙ take_all 4096 (drop 4096 text) (omega (arith, whole, length-drop 4096 text))
