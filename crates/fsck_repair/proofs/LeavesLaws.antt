-- The leaves of the catalog, each named by the one before it, and what the repair has in them.
use Rattle.std.proofs.Common.{◌≡◌, ◌≢◌, ◌⊎◌, ◌<◌, ◌≤◌, ℕ, zero, suc, ◌+◌, ◌-◌, ◌*◌, ◌/◌, ◌%◌, Bool, true, false, ◌==◌, ◌||◌, ◌&&◌, nat_lt, if◌then◌else◌, List, [], length, map, take, drop, inl, inr, refl, sym, ◌∙◌, ap, subst, arith, ⊎_elim, IsTrue}
use Rattle.std.specs.Prelude.{Contains, Option, Some, None, slice_get, slice_index, slice_range}
use Rattle.std.specs.List.{list_any, range_with_len}
use Rattle.std.proofs.lemmas.Bool.{cases_lt, true≢false, ne_eqb}
use Rattle.std.proofs.Math.Nat.{div-mul-le_self, lt-div-mul-add, mod-eq-sub-div-mul}
use Rattle.sector_disk.specs.Lists.{Content, sector}
use Rattle.jnl_format.specs.Recovery.{header_of_volume}
use Rattle.cat_records.specs.Records.{is_catalog}
use Rattle.btree_node.specs.Keys.{IsCatalogKey, catalog_cmp, anything}
use Rattle.btree_node.specs.Levels.{Pair, pair_of, entries, leaves}
use Rattle.btree_node.specs.Node.{IsNodeSize, offset, record_count, items, next_of, height_of}
use Rattle.btree_node.specs.TreeFile.{TreeFile, IsTreeFile, store_of, catalog_form}
use Rattle.btree_node.specs.Tree.{pairs_of}
use Rattle.btree_node.proofs.Items.{item-is, length-items}
use Rattle.hfs_volume.specs.Broken.{levels_in, level_in, leaves_in}
use Rattle.hfs_volume.specs.Content.{volume_of, records_of, catalog_file, bitmap_sectors}
use Rattle.hfs_volume.specs.Entries.{AreSpelled}
use Rattle.hfs_volume.specs.Forks.{per_block_of}
use Rattle.hfs_volume.specs.Blocks.{is_among}
use Rattle.hfs_volume.proofs.Members.{each_of, map_stands}
use Rattle.hfs_volume.proofs.TreeWants.{at_place, stands_at, record_stands, stands_flat, among_stands}
use Rattle.fsck_core.proofs.ShownLaws.{catalog_keys}
use Rattle.volume_repair.specs.Recount.{is_bit_wanted}
use Rattle.volume_repair.specs.Repair.{IsMendable, byte_of_bits, catalog_sectors, bitmap_mended, file_sector_mended, needs_copy, place_from, sector_mended, leaf_mended}
use Rattle.fsck_repair.specs.Bitmap.{IsPlainPlace}
use Rattle.fsck_repair.specs.Changing.{IsSettled}
use Rattle.fsck_repair.specs.Counted.{IsPlain, IsHeaderSector}
use Rattle.fsck_repair.specs.Leaf.{IsGoodLeaf, AreLeaves, IsCatalogSector}
use Rattle.fsck_repair.specs.declared.mend.Change.{Change}
use Rattle.fsck_repair.proofs.MendedLaws.{mends_leaf, plain_sector}
use Rattle.fsck_repair.proofs.PlaceLaws.{place_is}
use Rattle.fsck_core.proofs.RowLaws.{not_below}

-- ---- the leaves of a tree

module _ (tree : TreeFile) (is : IsTreeFile catalog_form IsCatalogKey anything catalog_cmp tree) where
  root_is : 0 < tree.head.depth → tree.head.root ≢ 0
  root_is some zero_is =
      let reserved = is.rules.mapped.of_tree tree.head.root (record { below = 0; place = 0; of_tree = some; inside = omega arith; is = refl }) in
      absurd (true≢false (sym is.rules.mapped.header ∙ ap (λ n. (n == 0) || list_any (λ other. other == n) tree.chain) (sym zero_is) ∙ reserved))

  depth_is : (j : ℕ) → j + 1 ≡ tree.head.depth → levels_in tree ≡ tree.head.depth
  depth_is j last =
      let more : 0 < tree.head.depth = omega (arith, last) in
      ap (λ b. if b then 0 else height_of (tree.nodes tree.head.root)) (ne_eqb tree.head.root 0 (root_is more)) ∙ (is.rules.levels.nodes 0 0 more (omega arith)).kind.has_height ∙ omega arith

  leaves_none : tree.head.depth ≡ 0 → leaves_in tree ≡ []
  leaves_none none = ap (λ r. if r == 0 then [] else level_in tree (levels_in tree - 1)) (is.rules.header.empty none)

  leaves_some : (j : ℕ) → j + 1 ≡ tree.head.depth → leaves_in tree ≡ level_in tree j
  leaves_some j last =
      ap (λ b. if b then [] else level_in tree (levels_in tree - 1)) (ne_eqb tree.head.root 0 (root_is (omega (arith, last)))) ∙ ap (level_in tree) (let same : levels_in tree - 1 ≡ j = omega (arith, depth_is j last, last) in same)

  pub first_leaf : tree.head.first ≡ slice_index (leaves_in tree) 0
  first_leaf = by tree.head.depth refl
    where
      by : (d : ℕ) → tree.head.depth ≡ d → tree.head.first ≡ slice_index (leaves_in tree) 0
      by zero none = (is.rules.header.no_leaf none).0 ∙ ap (λ l. slice_index l 0) (sym (leaves_none none))
      by (suc j) last = let at : j + 1 ≡ tree.head.depth = omega (arith, last) in is.rules.header.first j at ∙ ap (λ l. slice_index l 0) (sym (leaves_some j at))

  -- no leaf is node 0
  pub some_leaf : (k : ℕ) → k < length (leaves_in tree) → slice_index (leaves_in tree) k ≡ 0 → ⊥
  some_leaf k inside zero_is = by tree.head.depth refl
    where
      by : (d : ℕ) → tree.head.depth ≡ d → ⊥
      by zero none = absurd (let no : length (leaves_in tree) ≡ 0 = ap (λ (l : List ℕ). length l) (leaves_none none) in omega (arith, no, inside))
      by (suc j) last =
          let at : j + 1 ≡ tree.head.depth = omega (arith, last) in
          let are = leaves_some j at in
          let within : k < length (level_in tree j) = subst (λ (l : List ℕ). k < length l) are inside in
          let reserved = is.rules.mapped.of_tree 0 (record { below = j; place = k; of_tree = omega (arith, at); inside = within; is = sym (ap (λ (l : List ℕ). slice_index l k) are) ∙ zero_is }) in
          true≢false (sym is.rules.mapped.header ∙ reserved)

  pub next_leaf : (k : ℕ) → k < length (leaves_in tree) → next_of (tree.nodes (slice_index (leaves_in tree) k)) ≡ slice_index (leaves_in tree) (k + 1)
  next_leaf k inside = by tree.head.depth refl
    where
      by : (d : ℕ) → tree.head.depth ≡ d → next_of (tree.nodes (slice_index (leaves_in tree) k)) ≡ slice_index (leaves_in tree) (k + 1)
      by zero none = absurd (let no : length (leaves_in tree) ≡ 0 = ap (λ (l : List ℕ). length l) (leaves_none none) in omega (arith, no, inside))
      by (suc j) last =
          let at : j + 1 ≡ tree.head.depth = omega (arith, last) in
          let are = leaves_some j at in
          subst (λ (l : List ℕ). next_of (tree.nodes (slice_index l k)) ≡ slice_index l (k + 1)) (sym are) (is.rules.ordered.next j k (omega (arith, at)) (subst (λ (l : List ℕ). k < length l) are inside))

  -- a record of a leaf is one of the tree's pairs
  pub leaf_pair : (k i : ℕ) → k < length (leaves_in tree) → i < record_count (tree.nodes (slice_index (leaves_in tree) k))
      → let node = tree.nodes (slice_index (leaves_in tree) k) in Contains (pairs_of (store_of tree)) (pair_of (slice_range node (offset node i) (offset node (i + 1))))
  leaf_pair k i inside within = by tree.head.depth refl
    where
      by : (d : ℕ) → tree.head.depth ≡ d → let node = tree.nodes (slice_index (leaves_in tree) k) in Contains (pairs_of (store_of tree)) (pair_of (slice_range node (offset node i) (offset node (i + 1))))
      by zero none = absurd (let no : length (leaves_in tree) ≡ 0 = ap (λ (l : List ℕ). length l) (leaves_none none) in omega (arith, no, inside))
      by (suc j) last =
          let at : j + 1 ≡ tree.head.depth = omega (arith, last) in
          let are = leaves_some j at in
          let n = slice_index (leaves_in tree) k in
          let node = tree.nodes n in
          let here : Contains (level_in tree j) n = subst (λ (l : List ℕ). Contains l n) are (stands_at (leaves_in tree) k inside) in
          let item : Contains (items node) (slice_range node (offset node i) (offset node (i + 1))) = subst (λ (r : List ℕ). Contains (items node) r) (item-is node i within) (record_stands (items node) i (omega (arith, within, length-items node))) in
          subst (λ d. Contains (leaves tree.nodes tree.head.root d) (pair_of (slice_range node (offset node i) (offset node (i + 1))))) (sym last)
          (map_stands pair_of (entries tree.nodes (level_in tree j)) (slice_range node (offset node i) (offset node (i + 1))) (stands_flat (λ m. items (tree.nodes m)) (level_in tree j) n (slice_range node (offset node i) (offset node (i + 1))) here item))

-- the leaves of a catalog that can be repaired
module _ (content : Content) (can : IsMendable content) (some : 0 < per_block_of (header_of_volume content)) where
  long : 0 < (catalog_file content).head.node_size / 512
  long = by can.trees.catalog.has_form.size
    where
      by : IsNodeSize (catalog_file content).head.node_size → 0 < (catalog_file content).head.node_size / 512
      by (inl is) = omega (arith, is)
      by (inr (inl is)) = omega (arith, is)
      by (inr (inr (inl is))) = omega (arith, is)
      by (inr (inr (inr (inl is)))) = omega (arith, is)
      by (inr (inr (inr (inr (inl is))))) = omega (arith, is)
      by (inr (inr (inr (inr (inr (inl is)))))) = omega (arith, is)
      by (inr (inr (inr (inr (inr (inr is)))))) = omega (arith, is)

  spelled : AreSpelled (pairs_of (store_of (catalog_file content)))
  unfolding volume_of
  spelled = can.spelled

  good_leaf : (k : ℕ) → k < length (leaves_in (catalog_file content)) → IsGoodLeaf ((catalog_file content).nodes (slice_index (leaves_in (catalog_file content)) k))
  good_leaf k inside i within =
      let node = (catalog_file content).nodes (slice_index (leaves_in (catalog_file content)) k) in
      let pair = pair_of (slice_range node (offset node i) (offset node (i + 1))) in
      let stands = leaf_pair (catalog_file content) can.trees.catalog k i inside within in
      let key = each_of (λ (p : Pair). IsCatalogKey p.0) (pairs_of (store_of (catalog_file content))) (catalog_keys (catalog_file content) can.trees.catalog) pair stands in
      record { key = key.long; value = each_of (λ (p : Pair). IsTrue (is_catalog p.1)) (pairs_of (store_of (catalog_file content))) spelled pair stands }

  pub are_leaves : AreLeaves content (catalog_sectors content) (catalog_file content).nodes ((catalog_file content).head.node_size / 512) (records_of (volume_of content)) (leaves_in (catalog_file content))
  are_leaves = record {
    some = some_leaf (catalog_file content) can.trees.catalog;
    next = next_leaf (catalog_file content) can.trees.catalog;
    good = good_leaf;
    mends = λ k inside. mends_leaf content can some (slice_index (leaves_in (catalog_file content)) k) long (stands_at (leaves_in (catalog_file content)) k inside);
  }

  -- ---- all sectors

  module _ (changes : List Change) (headers : (at : ℕ) → IsHeaderSector content at → IsSettled content changes at)
      (bitmap : (at : ℕ) → IsPlainPlace content (header_of_volume content).allocation_fork.logical_size (bitmap_sectors content) at → IsSettled content changes at)
      (catalog : (at : ℕ) → IsCatalogSector content at → IsSettled content changes at) where
    plain_settled : (at : ℕ) → IsPlain content at → (in_bitmap in_catalog : Option ℕ) → place_from 0 (bitmap_sectors content) at ≡ in_bitmap → place_from 0 (catalog_sectors content) at ≡ in_catalog → IsSettled content changes at
    plain_settled at plain (Some k) in_catalog is also inside = ⊎_elim
        (λ (within : k * 512 < (header_of_volume content).allocation_fork.logical_size).
        let place = place_is (bitmap_sectors content) 0 at k is in
        bitmap at (plain, k, within, ap (slice_get (bitmap_sectors content)) {x = k} {y = place.0} (omega (arith, place.1)) ∙ place.2) inside)
        (λ (past : (header_of_volume content).allocation_fork.logical_size ≤ k * 512).
        inl (plain_sector content at plain ∙ ap (λ o. file_sector_mended content at o (place_from 0 (catalog_sectors content) at)) is
        ∙ behind_end at k (omega (arith, past))))
        (cases_lt (k * 512) (header_of_volume content).allocation_fork.logical_size)
      where
        behind_end : (at k : ℕ) → (header_of_volume content).allocation_fork.logical_size ≤ 512 * k → bitmap_mended content at k ≡ sector content at
        behind_end at k past = ap (λ b. if b then map (λ i. if nat_lt (512 * k + i) (header_of_volume content).allocation_fork.logical_size then byte_of_bits (is_bit_wanted (volume_of content)) (512 * k + i) else slice_index (sector content at) i) (range_with_len 0 512) else sector content at) (not_below (512 * k) (header_of_volume content).allocation_fork.logical_size past)
    plain_settled at plain None None is also inside = inl (plain_sector content at plain ∙ (λ i. file_sector_mended content at (is i) (also i)))
    plain_settled at plain None (Some k) is also inside = by (is_among (leaves_in (catalog_file content)) (k / per)) refl
      where
        per : ℕ
        per = (catalog_file content).head.node_size / 512

        whole : k / per * per + k % per ≡ k
        whole = let low = div-mul-le_self k per in let rest = mod-eq-sub-div-mul k per in omega (arith, low, rest)

        below : k % per < per
        below = let rest = mod-eq-sub-div-mul k per in let high = lt-div-mul-add {a = k} {b = per} long in omega (arith, rest, high)

        by : (b : Bool) → is_among (leaves_in (catalog_file content)) (k / per) ≡ b → (sector_mended content at ≡ sector content at) ⊎ Contains (map (λ (c : Change). c.at) changes) at
        by true leaf =
            let place = place_is (catalog_sectors content) 0 at k also in
            let there = at_place (leaves_in (catalog_file content)) (k / per) (among_stands (leaves_in (catalog_file content)) (k / per) leaf) in
            let is_k : slice_index (leaves_in (catalog_file content)) there.0 * per + k % per ≡ place.0 = ap (λ n. n * per + k % per) there.2 ∙ whole ∙ omega (arith, place.1) in
            catalog at (there.0, there.1, (k % per, below, (ap (slice_get (catalog_sectors content)) is_k ∙ place.2, plain))) inside
        by false none = inl (plain_sector content at plain ∙ (λ i. file_sector_mended content at (is i) (also i)) ∙ ap (λ b. if b then take 512 (drop (512 * (k % per)) (leaf_mended (records_of (volume_of content)) ((catalog_file content).nodes (k / per)))) else sector content at) none)

    pub all_settled : (at : ℕ) → IsSettled content changes at
    all_settled at = by (at == 2) ((at == length content - 2) && needs_copy content) refl refl
      where
        by : (header copy : Bool) → (at == 2) ≡ header → ((at == length content - 2) && needs_copy content) ≡ copy → IsSettled content changes at
        by true copy is also = headers at (inl is)
        by false true is also = headers at (inr also)
        by false false is also = plain_settled at (record { no_header = is; no_copy = also }) (place_from 0 (bitmap_sectors content) at) (place_from 0 (catalog_sectors content) at) refl refl
