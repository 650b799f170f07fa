-- The catalog of a repair that is sound: the same levels over leaves that are counted anew, so the same pairs with their values counted anew.
use Rattle.std.proofs.Common.{◌≡◌, ◌<◌, ℕ, zero, suc, ◌+◌, ◌-◌, ◌*◌, ◌/◌, ◌%◌, ◌==◌, ◌||◌, Bool, true, false, List, [], ◌∷◌, ◌++◌, length, map, take, drop, refl, sym, ◌∙◌, ap, subst, arith, if◌then◌else◌}
use Rattle.std.specs.Prelude.{Contains, Some, slice_get, slice_index, slice_range}
use Rattle.std.specs.List.{flat_map}
use Rattle.std.proofs.lemmas.Bool.{true≢false}
use Rattle.std.proofs.lemmas.List.{map-append, get_or_default}
use Rattle.std.proofs.Math.Seq.{take-append_seam, drop-append_seam}
use Rattle.hx_bytes.specs.Field.{big_at}
use Rattle.hx_bytes.specs.declared.fields.Order.TheVariants.{Big}
use Rattle.hx_bytes.proofs.Laws.{number_at-front}
use Rattle.jnl_format.specs.Recovery.{Content, sector, header_of_volume}
use Rattle.hfs_model.specs.Step.{padded}
use Rattle.btree_node.specs.Keys.{IsCatalogKey}
use Rattle.btree_node.specs.Levels.{Nodes, entries, level, leaves, child_of, key_of, value_of, pair_of}
use Rattle.btree_node.specs.Node.{items, next_of}
use Rattle.btree_node.specs.Tree.{pairs_of, IsReached}
use Rattle.btree_node.specs.TreeFile.{TreeFile, store_of, file_of, tree_head, map_chain, map_bytes, map_record, is_reserved_in, IsMapNode}
use Rattle.btree_node.proofs.Levels.{same_entries}
use Rattle.hfs_volume.specs.Records.{Placed, placed_of}
use Rattle.hfs_volume.specs.Findings.{HasBytes}
use Rattle.hfs_volume.specs.Forks.{per_block_of}
use Rattle.hfs_volume.specs.Content.{volume_of, records_of, facts_of, node_of_fork, tree_of_fork, catalog_file}
use Rattle.hfs_volume.specs.Blocks.{is_among}
use Rattle.hfs_volume.specs.Broken.{level_in, leaves_in}
use Rattle.hfs_volume.specs.Sound.{IsSound}
use Rattle.hfs_volume.proofs.Members.{at_front, behind, in_one, each_of}
use Rattle.hfs_volume.proofs.Apart.{among}
use Rattle.hfs_volume.proofs.Sectors.{block_is}
use Rattle.volume_repair.specs.Recount.{value_recounted, pair_recounted}
use Rattle.volume_repair.specs.Repair.{IsMendable, mended, leaf_mended, catalog_sectors}
use Rattle.volume_repair.specs.RepairLaws.{HasWholeSectors}
use Rattle.volume_repair.proofs.CatalogMending.{sectors_same, sizes, inside, catalog_inside, long, node_is, plain_there, leaf_there, leaf_items}
use Rattle.volume_repair.proofs.LeafMending.{item_mended}
use Rattle.volume_repair.proofs.LeafNodes.{IsLeaf, among_stands, is_leaf, leaf_level}
use Rattle.volume_repair.proofs.Mending.{head_mended, catalog_is}
use Rattle.volume_repair.proofs.Rereads.{same_bytes}
use Rattle.volume_repair.proofs.Slices.{stands_there}

first_is : (xs : List ℕ) (at : ℕ) → Contains (take 1 xs) at → slice_get xs 0 ≡ Some at
first_is [] at none = absurd (omega (arith, none.1))
first_is (x ∷ xs) at stands = ap Some (sym (in_one x at stands))

-- a record of a key and a value is cut where the key ends
cut_record : (key value : List ℕ) → IsCatalogKey key → (key_of (key ++ value) ≡ key) × (value_of (key ++ value) ≡ value)
unfolding key_of value_of
cut_record key value is =
    let same : big_at 2 (key ++ value) 0 + 2 ≡ length key = ap (λ n. n + 2) (number_at-front Big 2 0 key value (omega (arith, is.long))) ∙ sym is.size in
    (ap (λ n. take n (key ++ value)) same ∙ take-append_seam key value, ap (λ n. drop n (key ++ value)) same ∙ drop-append_seam key value)

pair_mended : (records : List Placed) (item : List ℕ) → IsCatalogKey (key_of item) → pair_of (item_mended records item) ≡ pair_recounted records (pair_of item)
pair_mended records item is =
    let cut = cut_record (key_of item) (value_recounted records (placed_of (pair_of item)) (value_of item)) is in
    λ i. (cut.0 i, cut.1 i)

pairs_mended : (records : List Placed) (xs : List (List ℕ)) → ((x : List ℕ) → Contains xs x → IsCatalogKey (key_of x)) → map pair_of (map (item_mended records) xs) ≡ map (pair_recounted records) (map pair_of xs)
pairs_mended records [] keys = refl
pairs_mended records (x ∷ xs) keys = λ i. pair_mended records x (keys x (at_front x xs)) i ∷ pairs_mended records xs (λ y stands. keys y (behind x y xs stands)) i

entries_mended : (records : List Placed) (old new : Nodes) (ns : List ℕ) → ((n : ℕ) → Contains ns n → items (new n) ≡ map (item_mended records) (items (old n))) → entries new ns ≡ map (item_mended records) (entries old ns)
entries_mended records old new [] same = refl
entries_mended records old new (n ∷ ns) same =
    (λ i. same n (at_front n ns) i ++ entries_mended records old new ns (λ m stands. same m (behind n m ns stands)) i)
    ∙ sym (map-append (item_mended records) (items (old n)) (entries old ns))

same_chain : (old new : Nodes) (more n : ℕ) → ((m : ℕ) → Contains (map_chain old more n) m → new m ≡ old m) → map_chain new more n ≡ map_chain old more n
unfolding map_chain
same_chain old new zero n same = refl
same_chain old new (suc more) n same = by (n == 0) (λ here. same_chain old new more (next_of (old n)) here) same
  where
    by : (b : Bool) → (((m : ℕ) → Contains (map_chain old more (next_of (old n))) m → new m ≡ old m) → map_chain new more (next_of (old n)) ≡ map_chain old more (next_of (old n))) → ((m : ℕ) → Contains (if b then [] else n ∷ map_chain old more (next_of (old n))) m → new m ≡ old m)
        → (if b then [] else n ∷ map_chain new more (next_of (new n))) ≡ (if b then [] else n ∷ map_chain old more (next_of (old n)))
    by true later here = refl
    by false later here =
        ap (λ (l : List ℕ). n ∷ map_chain new more (next_of l)) (here n (at_front n (map_chain old more (next_of (old n)))))
        ∙ ap (λ (l : List ℕ). n ∷ l) (later (λ m stands. here m (behind n m (map_chain old more (next_of (old n))) stands)))

same_records : (old new : Nodes) (ns : List ℕ) → ((m : ℕ) → Contains ns m → new m ≡ old m) → flat_map (λ n. map_record (new n)) ns ≡ flat_map (λ n. map_record (old n)) ns
same_records old new [] same = refl
same_records old new (n ∷ ns) same = λ i. map_record (same n (at_front n ns) i) ++ same_records old new ns (λ m stands. same m (behind n m ns stands)) i

module _ (content : Content) (bytes : HasBytes content) (whole : HasWholeSectors content) (may : IsMendable content) (sound : IsSound (mended content)) where
  abbrev new : Content
  new = mended content

  abbrev was : TreeFile
  was = catalog_file content

  abbrev cats : List ℕ
  cats = catalog_sectors content

  abbrev end : ℕ
  end = (header_of_volume content).total_blocks * per_block_of (header_of_volume content)

  -- the nodes of the repair's catalog
  abbrev nodes_new : Nodes
  nodes_new = node_of_fork new end cats was.head.node_size

  -- ---- nodes that aren't leaves

  not_leaf : (n : ℕ) → (IsLeaf was may.trees.catalog n → ⊥) → is_among (leaves_in was) n ≡ false
  not_leaf n no_leaf = by (is_among (leaves_in was) n) refl
    where
      by : (b : Bool) → is_among (leaves_in was) n ≡ b → b ≡ false
      by true is = absurd (no_leaf (is_leaf was may.trees.catalog n (among_stands (leaves_in was) n is)))
      by false is = refl

  place : (xs : List ℕ) (n : ℕ) → (stands : Contains xs n) → slice_index xs stands.0 ≡ n
  place xs n stands = get_or_default xs stands.0 0 n stands.1 ∙ stands.2

  reached : (n : ℕ) → IsLeaf was may.trees.catalog n → IsReached (store_of was) n
  reached n leaf = record { below = leaf.below; place = leaf.stands.0; of_tree = omega (arith, leaf.last); inside = leaf.stands.1; is = place (level_in was leaf.below) n leaf.stands }

  reserved_plain : (n : ℕ) → is_reserved_in was.chain n ≡ true → is_among (leaves_in was) n ≡ false
  reserved_plain n reserved = not_leaf n (λ leaf. true≢false (sym reserved ∙ may.trees.catalog.rules.mapped.of_tree n (reached n leaf)))

  upper_plain : (j k : ℕ) → j + 1 < was.head.depth → k < length (level_in was j) → is_among (leaves_in was) (slice_index (level_in was j) k) ≡ false
  upper_plain j k upper low = not_leaf (slice_index (level_in was j) k) (λ leaf.
      let same = may.trees.catalog.rules.mapped.distinct j k leaf.below leaf.stands.0 (omega (arith, upper)) low (omega (arith, leaf.last)) leaf.stands.1
      (sym (place (level_in was leaf.below) (slice_index (level_in was j) k) leaf.stands)) in
      absurd (omega (arith, same.0, leaf.last, upper)))

  plain_is : (n : ℕ) → n < was.head.total → is_among (leaves_in was) n ≡ false → nodes_new n ≡ was.nodes n
  plain_is n below plain = node_is content bytes whole may sound n below ∙ plain_there content bytes whole may sound n plain

  -- ---- the header node

  first_plain : is_among (leaves_in was) 0 ≡ false
  first_plain = reserved_plain 0 refl

  first_sector : (at : ℕ) → slice_get cats 0 ≡ Some at → Contains cats at → sector new at ≡ sector content at
  first_sector at found has =
      catalog_is content may at 0 (inside content bytes whole may sound at has) (catalog_inside content bytes whole may sound at has) found
      ∙ ap (λ b. if b then take 512 (drop (512 * (0 % (was.head.node_size / 512))) (leaf_mended (records_of (volume_of content)) (was.nodes (0 / (was.head.node_size / 512))))) else sector content at)
      (ap (is_among (leaves_in was)) (block_is (was.head.node_size / 512) 0 0 (sizes content bytes whole may sound).1 (omega arith) (omega (arith, (sizes content bytes whole may sound).1))) ∙ first_plain)

  head_bytes : node_of_fork new end cats 512 0 ≡ node_of_fork content end cats 512 0
  unfolding node_of_fork
  head_bytes = ap (padded 512) (same_bytes content new end (take 1 cats) (λ at stands below.
      let found = first_is cats at stands in first_sector at found (stands_there cats 0 at found)))

  tree_is : catalog_file new ≡ file_of was.head nodes_new
  unfolding catalog_file tree_of_fork
  tree_is =
      (λ i. let h = head_mended content may (long content bytes whole may sound) i in tree_of_fork new (h.total_blocks * per_block_of h) (sectors_same content bytes whole may sound i))
      ∙ (λ i. file_of (tree_head (head_bytes i)) (node_of_fork new end cats (tree_head (head_bytes i)).node_size))

  some_nodes : 0 < was.head.total
  some_nodes = omega (arith, may.trees.catalog.map_nodes.ends)

  header_node : nodes_new 0 ≡ was.nodes 0
  header_node = plain_is 0 some_nodes first_plain

  -- ---- the map

  map_node : (n : ℕ) → Contains was.chain n → nodes_new n ≡ was.nodes n
  map_node n stands =
      plain_is n (each_of (IsMapNode was) was.chain may.trees.catalog.map_nodes.each n stands).0
      (reserved_plain n (ap (λ b. (n == 0) || b) (among was.chain n stands) ∙ or_true (n == 0)))
    where
      or_true : (b : Bool) → (b || true) ≡ true
      or_true true = refl
      or_true false = refl

  chain_is : map_chain nodes_new was.head.total (next_of (nodes_new 0)) ≡ was.chain
  unfolding catalog_file tree_of_fork
  chain_is = ap (λ (l : List ℕ). map_chain nodes_new was.head.total (next_of l)) header_node ∙ same_chain was.nodes nodes_new was.head.total (next_of (was.nodes 0)) map_node

  map_is : map_bytes nodes_new was.head.node_size (map_chain nodes_new was.head.total (next_of (nodes_new 0))) ≡ was.map
  unfolding catalog_file tree_of_fork map_bytes
  map_is =
      ap (map_bytes nodes_new was.head.node_size) chain_is
      ∙ (λ i. slice_range (header_node i) 248 (was.head.node_size - 8) ++ same_records was.nodes nodes_new was.chain map_node i)

  pub facts_are : facts_of (catalog_file new) ≡ facts_of was
  facts_are = ap facts_of tree_is ∙ (λ i. record (facts_of was) { map_bits = 8 * length (map_is i) })

  -- ---- levels and pairs

  same_level : (j : ℕ) → j < was.head.depth → level nodes_new was.head.root j ≡ level_in was j
  same_level zero below = refl
  same_level (suc j) below =
      ap (λ l. map child_of (entries nodes_new l)) (same_level j (omega (arith, below)))
      ∙ ap (map child_of) (same_entries was.nodes nodes_new (level_in was j) (λ k low. ap items (plain_is (slice_index (level_in was j) k) (may.trees.catalog.rules.levels.nodes j k (omega (arith, below)) low).inside (upper_plain j k (omega (arith, below)) low))))

  pub pairs_are : pairs_of (store_of (catalog_file new)) ≡ map (pair_recounted (records_of (volume_of content))) (pairs_of (store_of was))
  pairs_are = ap (λ t. pairs_of (store_of t)) tree_is ∙ by was.head.depth refl
    where
      by : (d : ℕ) → was.head.depth ≡ d → leaves nodes_new was.head.root d ≡ map (pair_recounted (records_of (volume_of content))) (leaves was.nodes was.head.root d)
      by zero is = refl
      by (suc d) is =
          ap (λ l. map pair_of (entries nodes_new l)) (same_level d (omega (arith, is)))
          ∙ ap (map pair_of) (entries_mended (records_of (volume_of content)) was.nodes nodes_new (level_in was d) leaf_is)
          ∙ pairs_mended (records_of (volume_of content)) (entries was.nodes (level_in was d)) key_is
        where
          last : d + 1 ≡ was.head.depth
          last = omega (arith, is)

          leaf_is : (n : ℕ) → Contains (level_in was d) n → items (nodes_new n) ≡ map (item_mended (records_of (volume_of content))) (items (was.nodes n))
          leaf_is n stands =
              let there : Contains (leaves_in was) n = subst (λ l. Contains l n) (sym (leaf_level was may.trees.catalog d last)) stands in
              let below : n < was.head.total = subst (λ m. m < was.head.total) (place (level_in was d) n stands) (may.trees.catalog.rules.levels.nodes d stands.0 (omega (arith, is)) stands.1).inside in
              ap items (node_is content bytes whole may sound n below ∙ leaf_there content bytes whole may sound n there) ∙ leaf_items content bytes whole may sound n there

          key_is : (x : List ℕ) → Contains (entries was.nodes (level_in was d)) x → IsCatalogKey (key_of x)
          key_is x stands = subst (λ r. IsCatalogKey (key_of r)) (get_or_default (entries was.nodes (level_in was d)) stands.0 [] x stands.1 ∙ stands.2) (may.trees.catalog.rules.levels.keys d stands.0 (omega (arith, is)) stands.1)
