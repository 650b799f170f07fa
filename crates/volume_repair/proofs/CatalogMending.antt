-- The catalog file of a repair that is sound: its leaves are counted anew, and its other nodes are as they were.
use Rattle.std.proofs.Common.{◌≡◌, ◌<◌, ◌≤◌, ℕ, suc, ◌+◌, ◌-◌, ◌*◌, ◌/◌, ◌%◌, Bool, true, false, List, [], ◌++◌, length, map, take, drop, replicate, get_or, refl, sym, ◌∙◌, ap, subst, arith, inl, inr, if◌then◌else◌}
use Rattle.std.specs.Prelude.{Contains, Some, slice_get}
use Rattle.std.proofs.lemmas.List.{append-nil, length-append, length-drop, length-take, take-append-drop}
use Rattle.std.proofs.lemmas.Option.{slice_get_within}
use Rattle.std.proofs.Math.Nat.{div-add-mod, mod-lt, mul_comm, mul-le-mul_right, mul_left_comm}
use Rattle.hx_bytes.specs.Field.{big_at}
use Rattle.jnl_format.specs.Recovery.{Content, sector, header_of_volume}
use Rattle.volume_header.specs.declared.header.VolumeHeader.{VolumeHeader}
use Rattle.hfs_model.specs.Step.{padded}
use Rattle.btree_node.specs.Levels.{key_of, value_of, pair_of}
use Rattle.btree_node.specs.Node.{IsNodeSize, items, record_count}
use Rattle.btree_node.specs.Tree.{pairs_of}
use Rattle.btree_node.specs.TreeFile.{TreeFile, store_of}
use Rattle.btree_node.proofs.Items.{item-is}
use Rattle.hfs_volume.specs.Records.{placed_of}
use Rattle.hfs_volume.specs.Findings.{HasBytes}
use Rattle.hfs_volume.specs.Forks.{per_block_of}
use Rattle.hfs_volume.specs.Content.{VolumeState, volume_of, records_of, block_sector, node_of_fork, tree_of_fork, catalog_file}
use Rattle.hfs_volume.specs.Blocks.{is_among}
use Rattle.hfs_volume.specs.Broken.{leaves_in}
use Rattle.hfs_volume.specs.Sound.{IsSound}
use Rattle.hfs_volume.proofs.Apart.{among}
use Rattle.hfs_volume.proofs.Sectors.{block_is}
use Rattle.volume_repair.specs.Recount.{value_recounted}
use Rattle.volume_repair.specs.Repair.{IsMendable, mended, leaf_mended, catalog_sectors}
use Rattle.volume_repair.specs.RepairLaws.{HasWholeSectors}
use Rattle.volume_repair.proofs.Counting.{values_law}
use Rattle.volume_repair.proofs.Inside.{blocks_fit, catalog_below, catalog_long}
use Rattle.volume_repair.proofs.LeafMending.{item_mended, is_mended, items_mended}
use Rattle.volume_repair.proofs.LeafNodes.{IsLeaf, among_stands, is_leaf, leaf_is_node, leaf_long, item_stands, pair_stands}
use Rattle.volume_repair.proofs.Mending.{some_sectors, accepted, head_mended, extents_mended, catalog_is}
use Rattle.volume_repair.proofs.Rereads.{catalog_sectors_stay}
use Rattle.volume_repair.proofs.Slices.{stands_there, whole_sector, slice_of_node, taken_get, dropped_get, length_node, joined}

whole_size : (size : ℕ) → IsNodeSize size → (size ≡ 512 * (size / 512)) × (0 < size / 512)
whole_size size is = (omega (arith, is), omega (arith, is))

module _ (content : Content) (bytes : HasBytes content) (whole : HasWholeSectors content) (may : IsMendable content) (sound : IsSound (mended content)) where
  abbrev pub was : VolumeState
  was = volume_of content

  abbrev pub head : VolumeHeader
  head = header_of_volume content

  abbrev pub new : Content
  new = mended content

  abbrev pub limit : ℕ
  limit = head.total_blocks * per_block_of head

  abbrev pub tree : TreeFile
  tree = catalog_file content

  abbrev pub sectors : List ℕ
  sectors = catalog_sectors content

  abbrev pub size : ℕ
  size = tree.head.node_size

  abbrev pub per_node : ℕ
  per_node = size / 512

  pub long : length (sector content 2) ≡ 512
  long = whole 2 (omega (arith, some_sectors content may))

  pub sizes : (size ≡ 512 * per_node) × (0 < per_node)
  sizes = whole_size size may.trees.catalog.has_form.size

  pub sectors_same : catalog_sectors new ≡ sectors
  sectors_same = catalog_sectors_stay content new _ _ _ _ (head_mended content may long) (extents_mended content may long)

  pub catalog_inside : (at : ℕ) → Contains sectors at → at < limit
  catalog_inside at has = subst (λ (h : VolumeHeader). at < h.total_blocks * per_block_of h) (head_mended content may long) (catalog_below new sound at (subst (λ l. Contains l at) (sym sectors_same) has))

  pub inside : (at : ℕ) → Contains sectors at → at < length content
  inside at has = omega (arith, catalog_inside at has, blocks_fit (length content) head (accepted content may))

  long_file : tree.head.total * size ≤ 512 * length sectors
  unfolding volume_of
  long_file =
      let here : head.catalog_fork.logical_size ≤ 512 * length sectors = subst (λ (l : List ℕ). head.catalog_fork.logical_size ≤ 512 * length l) sectors_same (subst (λ (h : VolumeHeader). h.catalog_fork.logical_size ≤ 512 * length (catalog_sectors new)) (head_mended content may long) (catalog_long new sound)) in
      omega (arith, here, may.sizes.catalog.nodes)

  -- ---- leaves

  -- a node of the catalog, counted anew where it is a leaf
  pub node_mended : ℕ → List ℕ
  node_mended n = if is_among (leaves_in tree) n then leaf_mended (records_of was) (tree.nodes n) else tree.nodes n

  pub plain_there : (n : ℕ) → is_among (leaves_in tree) n ≡ false → node_mended n ≡ tree.nodes n
  unfolding node_mended
  plain_there n plain = ap (λ b. if b then leaf_mended (records_of was) (tree.nodes n) else tree.nodes n) plain

  pub leaf_there : (n : ℕ) → Contains (leaves_in tree) n → node_mended n ≡ leaf_mended (records_of was) (tree.nodes n)
  unfolding node_mended
  leaf_there n stands = ap (λ b. if b then leaf_mended (records_of was) (tree.nodes n) else tree.nodes n) (among (leaves_in tree) n stands)

  item_length : (item : List ℕ) → Contains (pairs_of (store_of tree)) (pair_of item) → length (item_mended (records_of was) item) ≡ length item
  unfolding volume_of key_of value_of
  item_length item stands =
      omega (arith, length-append (key_of item) (value_recounted (records_of was) (placed_of (pair_of item)) (value_of item)), length-append (key_of item) (value_of item), ap (λ l. length l) (take-append-drop (big_at 2 item 0 + 2) item), value_long)
    where
      value_long : length (value_recounted (records_of was) (placed_of (pair_of item)) (value_of item)) ≡ length (value_of item)
      value_long = elim (values_law was may.spelled (pair_of item) stands) [
        | inl folder ↦ folder.0.size
        | inr later ↦ elim later [
          | inl file ↦ file.0.size
          | inr same ↦ ap length same
        ]
      ]

  module _ (n : ℕ) (stands : Contains (leaves_in tree) n) where
    leaf : IsLeaf tree may.trees.catalog n
    leaf = is_leaf tree may.trees.catalog n stands

    same_long : (i : ℕ) → i < record_count (tree.nodes n) → length (item_mended (records_of was) (get_or (items (tree.nodes n)) i [])) ≡ length (get_or (items (tree.nodes n)) i [])
    same_long i below = subst (λ l. length (item_mended (records_of was) l) ≡ length l) (sym (item-is (tree.nodes n) i below))
        (item_length _ (pair_stands tree may.trees.catalog n leaf _ (item_stands tree may.trees.catalog n leaf i below)))

    leaf_size : length (leaf_mended (records_of was) (tree.nodes n)) ≡ size
    leaf_size = (is_mended (records_of was) (tree.nodes n) (leaf_is_node tree may.trees.catalog n leaf) same_long).size ∙ leaf_long tree may.trees.catalog n leaf

    pub leaf_items : items (leaf_mended (records_of was) (tree.nodes n)) ≡ map (item_mended (records_of was)) (items (tree.nodes n))
    leaf_items = items_mended (records_of was) (tree.nodes n) (leaf_is_node tree may.trees.catalog n leaf) same_long

  node_long : (n : ℕ) → length (tree.nodes n) ≡ size
  unfolding catalog_file tree_of_fork
  node_long n = length_node content limit sectors size n sizes.0

  mended_long : (n : ℕ) → length (node_mended n) ≡ size
  unfolding node_mended
  mended_long n = by (is_among (leaves_in tree) n) refl
    where
      by : (b : Bool) → is_among (leaves_in tree) n ≡ b → length (if b then leaf_mended (records_of was) (tree.nodes n) else tree.nodes n) ≡ size
      by true is = leaf_size n (among_stands (leaves_in tree) n is)
      by false is = node_long n

  -- ---- sectors

  slice_mended : (k at : ℕ) → slice_get sectors k ≡ Some at → sector new at ≡ take 512 (drop (512 * (k % per_node)) (node_mended (k / per_node)))
  unfolding node_mended catalog_file tree_of_fork
  slice_mended k at found = catalog_is content may at k (inside at has) (catalog_inside at has) found ∙ by (is_among (leaves_in tree) (k / per_node))
    where
      has : Contains sectors at
      has = stands_there sectors k at found

      by : (b : Bool) → (if b then take 512 (drop (512 * (k % per_node)) (leaf_mended (records_of was) (tree.nodes (k / per_node)))) else sector content at)
          ≡ take 512 (drop (512 * (k % per_node)) (if b then leaf_mended (records_of was) (tree.nodes (k / per_node)) else tree.nodes (k / per_node)))
      by true = refl
      by false = sym (slice_of_node content limit sectors size k at sizes.1 found ∙ whole_sector content limit at (catalog_inside at has) (whole at (inside at has)))

  slice_long : (k n : ℕ) → length (take 512 (drop (512 * (k % per_node)) (node_mended n))) ≡ 512
  slice_long k n =
      omega (arith, length-take 512 (drop (512 * (k % per_node)) (node_mended n)), length-drop (512 * (k % per_node)) (node_mended n), mended_long n, sizes.0, mod-lt k sizes.1)

  block_mended : (k at : ℕ) → slice_get sectors k ≡ Some at → block_sector new limit at ≡ take 512 (drop (512 * (k % per_node)) (node_mended (k / per_node)))
  block_mended k at found =
      whole_sector new limit at (catalog_inside at (stands_there sectors k at found)) (ap length (slice_mended k at found) ∙ slice_long k (k / per_node)) ∙ slice_mended k at found

  -- ---- nodes

  place_of : (n r : ℕ) → r < per_node → ((n * per_node + r) / per_node ≡ n) × ((n * per_node + r) % per_node ≡ r)
  place_of n r low =
      let quotient : (n * per_node + r) / per_node ≡ n = block_is per_node n (n * per_node + r) sizes.1 (omega arith) (omega (arith, low)) in
      let split = div-add-mod (n * per_node + r) per_node in
      let same : per_node * ((n * per_node + r) / per_node) ≡ n * per_node = ap (λ q. per_node * q) quotient ∙ mul_comm per_node n in
      (quotient, omega (arith, split, same))

  pub node_is : (n : ℕ) → n < tree.head.total → node_of_fork new limit sectors size n ≡ node_mended n
  unfolding node_of_fork
  node_is n below =
      ap (padded size) (joined new limit part (node_mended n) (omega (arith, mended_long n, sizes.0, part_long)) each)
      ∙ ap (λ k. node_mended n ++ replicate k 0) (let none : size - length (node_mended n) ≡ 0 = omega (arith, mended_long n) in none)
      ∙ append-nil (node_mended n)
    where
      part : List ℕ
      part = take per_node (drop (n * per_node) sectors)

      fits : n * per_node + per_node ≤ length sectors
      fits =
          let more : suc n * per_node ≤ tree.head.total * per_node = mul-le-mul_right {m = suc n} {n = tree.head.total} per_node (omega (arith, below)) in
          let next : suc n * per_node ≡ n * per_node + per_node = omega arith in
          let scaled : tree.head.total * size ≡ 512 * (tree.head.total * per_node) = ap (λ s. tree.head.total * s) sizes.0 ∙ mul_left_comm tree.head.total 512 per_node in
          omega (arith, more, next, scaled, long_file)

      part_long : length part ≡ per_node
      part_long = omega (arith, length-take per_node (drop (n * per_node) sectors), length-drop (n * per_node) sectors, fits)

      each : (r at : ℕ) → slice_get part r ≡ Some at → block_sector new limit at ≡ take 512 (drop (512 * r) (node_mended n))
      each r at found =
          let low : r < per_node = omega (arith, slice_get_within part r at found, part_long) in
          let there : slice_get sectors (n * per_node + r) ≡ Some at = sym (taken_get per_node r (drop (n * per_node) sectors) low ∙ dropped_get (n * per_node) r sectors) ∙ found in
          let place = place_of n r low in
          block_mended (n * per_node + r) at there ∙ (λ i. take 512 (drop (512 * place.1 i) (node_mended (place.0 i))))
