-- A sound content is its own repair: each of its sectors counts right already.
use Rattle.std.proofs.Common.{◌≡◌, ◌<◌, ◌≤◌, ℕ, suc, ◌+◌, ◌-◌, ◌*◌, ◌/◌, ◌%◌, ◌==◌, ◌&&◌, nat_lt, not, Bool, true, false, List, [], length, map, take, drop, get_or, ext_get_or, inl, inr, refl, sym, ◌∙◌, ap, subst, arith, ⊎_elim, if◌then◌else◌}
use Rattle.std.specs.Prelude.{Contains, Option, Some, None, slice_get, slice_index, slice_range, None}
use Rattle.std.specs.List.{range_with_len}
use Rattle.std.specs.Str.{bytes_eq}
use Rattle.std.proofs.lemmas.Bool.{cases_eq}
use Rattle.std.proofs.lemmas.Bool.Decides.{leb_tells}
use Rattle.std.proofs.lemmas.List.FromFn.{length-map-range_with_len, get_or-map-range_with_len}
use Rattle.std.proofs.lemmas.Slice.Eq.{bytes_eq-Decides}
use Rattle.jnl_format.specs.Recovery.{Content, sector, header_of_volume}
use Rattle.flag_rows.specs.Bits.{bit_of}
use Rattle.volume_header.specs.declared.header.VolumeHeader.{VolumeHeader}
use Rattle.btree_node.specs.Levels.{pair_of, value_of}
use Rattle.btree_node.specs.Node.{IsNodeSize, offset, record_count}
use Rattle.btree_node.specs.TreeFile.{TreeFile}
use Rattle.btree_node.specs.MemLaws.{count_none}
use Rattle.hfs_volume.specs.Records.{placed_of}
use Rattle.hfs_volume.specs.Findings.{HasBytes}
use Rattle.hfs_volume.specs.Forks.{per_block_of}
use Rattle.hfs_volume.specs.Content.{VolumeState, volume_of, records_of, is_set, block_limit, tree_of_fork, catalog_file, bitmap_sectors, bit_in, bit_of_sector}
use Rattle.hfs_volume.specs.Blocks.{is_among}
use Rattle.hfs_volume.specs.Broken.{bit, leaves_in}
use Rattle.hfs_volume.specs.Sound.{IsSound}
use Rattle.hfs_volume.proofs.Files.{tree_bytes}
use Rattle.volume_repair.specs.Differing.{differing}
use Rattle.volume_repair.specs.Recount.{value_recounted, is_bit_wanted}
use Rattle.volume_repair.specs.Repair.{IsMendable, IsRepair, mended, sector_mended, file_sector_mended, byte_of_bits, bitmap_mended, catalog_mended, leaf_mended, place_from, catalog_sectors, needs_copy}
use Rattle.volume_repair.specs.RepairLaws.{HasWholeSectors, SoundIsOwnRepair}
use Rattle.volume_repair.proofs.Bytes.{byte_back}
use Rattle.volume_repair.proofs.Counting.{agreement, bit_stays, value_is}
use Rattle.volume_repair.proofs.Inside.{map_below, catalog_below}
use Rattle.volume_repair.proofs.LeafNodes.{IsLeaf, among_stands, is_leaf, leaf_is_node, item_stands, pair_stands}
use Rattle.volume_repair.proofs.Leaves.{leaf_law}
use Rattle.volume_repair.proofs.Mending.{size_mended, sector_of_mended, mended_file, mended_header}
use Rattle.volume_repair.proofs.Repairing.{mendable, keeps_header}
use Rattle.volume_repair.proofs.Slices.{place_found, stands_there, whole_sector, slice_of_node}

and_false : (b : Bool) → (b && false) ≡ false
and_false true = refl
and_false false = refl

sizes_some : (size : ℕ) → IsNodeSize size → 0 < size / 512
sizes_some size is = omega (arith, is)

module _ (content : Content) (bytes : HasBytes content) (whole : HasWholeSectors content) (sound : IsSound content) where
  abbrev was : VolumeState
  was = volume_of content

  abbrev head : VolumeHeader
  head = header_of_volume content

  abbrev per : ℕ
  per = per_block_of head

  abbrev limit : ℕ
  limit = head.total_blocks * per

  may : IsMendable content
  may = mendable content sound

  -- ---- the bitmap

  module _ (at k : ℕ) (inside : at < length content) (there : slice_get (bitmap_sectors content) k ≡ Some at) where
    abbrev here : List ℕ
    here = sector content at

    set_is : (n : ℕ) → n < 8 * head.allocation_fork.logical_size → is_set was n ≡ bit_in content (bitmap_sectors content) n
    unfolding volume_of
    set_is n below = get_or-map-range_with_len (bit_in content (bitmap_sectors content)) 0 (8 * head.allocation_fork.logical_size) n n false below (omega arith)

    bit_is : (i j : ℕ) → i < 512 → j < 8 → 512 * k + i < head.allocation_fork.logical_size → is_bit_wanted was (8 * (512 * k + i) + j) ≡ bit_of here (8 * i + j)
    unfolding bit_in bit_of_sector
    bit_is i j low lower within =
        bit_stays was sound.volume (8 * (512 * k + i) + j)
        ∙ set_is (8 * (512 * k + i) + j) (omega (arith, within, lower))
        ∙ (λ m. bit_of_sector content (rest m) (slice_get (bitmap_sectors content) (place m)))
        ∙ ap (bit_of_sector content (8 * i + j)) there
        ∙ ap (λ l. bit_of l (8 * i + j)) (whole_sector content limit at (map_below content sound at (stands_there (bitmap_sectors content) k at there)) (whole at inside))
      where
        place : (8 * (512 * k + i) + j) / 4096 ≡ k
        place = omega (arith, low, lower)

        rest : (8 * (512 * k + i) + j) % 4096 ≡ 8 * i + j
        rest = omega (arith, low, lower)

    byte_is : (i : ℕ) → i < 512 → 512 * k + i < head.allocation_fork.logical_size → byte_of_bits (is_bit_wanted was) (512 * k + i) ≡ get_or here i 0
    byte_is i low within =
        (λ m. 128 * bit (first m) + 64 * bit (bit_is i 1 low (omega arith) within m) + 32 * bit (bit_is i 2 low (omega arith) within m) + 16 * bit (bit_is i 3 low (omega arith) within m)
        + 8 * bit (bit_is i 4 low (omega arith) within m) + 4 * bit (bit_is i 5 low (omega arith) within m) + 2 * bit (bit_is i 6 low (omega arith) within m) + bit (bit_is i 7 low (omega arith) within m))
        ∙ byte_back here i (bytes at)
      where
        first : is_bit_wanted was (8 * (512 * k + i)) ≡ bit_of here (8 * i)
        first = ap (is_bit_wanted was) (let same : 8 * (512 * k + i) ≡ 8 * (512 * k + i) + 0 = omega arith in same) ∙ bit_is i 0 low (omega arith) within ∙ ap (bit_of here) (let same : 8 * i + 0 ≡ 8 * i = omega arith in same)

    abbrev byte_stays : ℕ → ℕ
    byte_stays i = if nat_lt (512 * k + i) head.allocation_fork.logical_size then byte_of_bits (is_bit_wanted was) (512 * k + i) else slice_index here i

    each_byte : (i : ℕ) → i < 512 → byte_stays i ≡ get_or here i 0
    each_byte i low = ⊎_elim
        (λ (within : (nat_lt (512 * k + i) head.allocation_fork.logical_size ≡ true) × (suc (512 * k + i) ≤ head.allocation_fork.logical_size)).
        ap (λ b. if b then byte_of_bits (is_bit_wanted was) (512 * k + i) else slice_index here i) within.0 ∙ byte_is i low (omega (arith, within.1)))
        (λ (past : (nat_lt (512 * k + i) head.allocation_fork.logical_size ≡ false) × (head.allocation_fork.logical_size < suc (512 * k + i))).
        ap (λ b. if b then byte_of_bits (is_bit_wanted was) (512 * k + i) else slice_index here i) past.0)
        (leb_tells (suc (512 * k + i)) head.allocation_fork.logical_size)

    map_stays : bitmap_mended content at k ≡ here
    map_stays = by (nat_lt (512 * k) head.allocation_fork.logical_size)
      where
        long : length (map byte_stays (range_with_len 0 512)) ≡ 512
        long = length-map-range_with_len byte_stays 0 512

        all : map byte_stays (range_with_len 0 512) ≡ here
        all = ext_get_or 0 (map byte_stays (range_with_len 0 512)) here (long ∙ sym (whole at inside))
            (λ i low. get_or-map-range_with_len byte_stays 0 512 i i 0 (omega (arith, low, long)) (omega arith) ∙ each_byte i (omega (arith, low, long)))

        by : (b : Bool) → (if b then map byte_stays (range_with_len 0 512) else here) ≡ here
        by true = all
        by false = refl

  -- ---- the catalog

  module _ (at k : ℕ) (inside : at < length content) (there : slice_get (catalog_sectors content) k ≡ Some at) where
    abbrev tree : TreeFile
    tree = catalog_file content

    abbrev per_node : ℕ
    per_node = tree.head.node_size / 512

    abbrev n : ℕ
    n = k / per_node

    leaf_stays : Contains (leaves_in tree) n → leaf_mended (records_of was) (tree.nodes n) ≡ tree.nodes n
    unfolding catalog_file volume_of
    leaf_stays stands = leaf_law (records_of was) (tree.nodes n) (leaf_is_node tree sound.trees.catalog n leaf) value
      where
        leaf : IsLeaf tree sound.trees.catalog n
        leaf = is_leaf tree sound.trees.catalog n stands

        value : (i : ℕ) → i < record_count (tree.nodes n) → let item = slice_range (tree.nodes n) (offset (tree.nodes n) i) (offset (tree.nodes n) (i + 1)) in value_recounted (records_of was) (placed_of (pair_of item)) (value_of item) ≡ value_of item
        value i below =
            let item = slice_range (tree.nodes n) (offset (tree.nodes n) i) (offset (tree.nodes n) (i + 1)) in
            let there = item_stands tree sound.trees.catalog n leaf i below in
            value_is was sound.volume (pair_of item) (tree_bytes content (block_limit content) (catalog_sectors content) bytes n item there) (pair_stands tree sound.trees.catalog n leaf item there)

    node_slice : take 512 (drop (512 * (k % per_node)) (tree.nodes n)) ≡ sector content at
    unfolding catalog_file tree_of_fork
    node_slice =
        slice_of_node content limit (catalog_sectors content) tree.head.node_size k at (sizes_some tree.head.node_size sound.trees.catalog.has_form.size) there
        ∙ whole_sector content limit at (catalog_below content sound at (stands_there (catalog_sectors content) k at there)) (whole at inside)

    catalog_stays : catalog_mended content at k ≡ sector content at
    catalog_stays = by (is_among (leaves_in tree) n) refl
      where
        by : (b : Bool) → is_among (leaves_in tree) n ≡ b → (if b then take 512 (drop (512 * (k % per_node)) (leaf_mended (records_of was) (tree.nodes n))) else sector content at) ≡ sector content at
        by true is = ap (λ l. take 512 (drop (512 * (k % per_node)) l)) (leaf_stays (among_stands (leaves_in tree) n is)) ∙ node_slice
        by false is = refl

  -- ---- each sector

  no_copy : needs_copy content ≡ false
  no_copy = ap not (agreement was.head was.alternate sound.volume.blocks.alternate)

  file_stays : (at : ℕ) → at < length content → (o p : Option ℕ) → place_from 0 (bitmap_sectors content) at ≡ o → place_from 0 (catalog_sectors content) at ≡ p → file_sector_mended content at o p ≡ sector content at
  file_stays at inside (Some k) p in_map in_catalog =
      let found = place_found 0 (bitmap_sectors content) at k in_map in
      map_stays at k inside (ap (slice_get (bitmap_sectors content)) (let same : k ≡ k - 0 = omega arith in same) ∙ found.1)
  file_stays at inside None (Some k) in_map in_catalog =
      let found = place_found 0 (catalog_sectors content) at k in_catalog in
      catalog_stays at k inside (ap (slice_get (catalog_sectors content)) (let same : k ≡ k - 0 = omega arith in same) ∙ found.1)
  file_stays at inside None None in_map in_catalog = refl

  sector_stays : (at : ℕ) → at < length content → sector_mended content at ≡ sector content at
  sector_stays at inside = elim (cases_eq at 2) [
    | inl two ↦ subst (λ n. sector_mended content n ≡ sector content n) (sym two) (mended_header content ∙ keeps_header content bytes (whole 2 (omega (arith, inside, two))) sound)
    | inr not_two ↦
        mended_file content at not_two (ap (λ b. (at == length content - 2) && b) no_copy ∙ and_false (at == length content - 2))
        ∙ file_stays at inside (place_from 0 (bitmap_sectors content) at) (place_from 0 (catalog_sectors content) at) refl refl
  ]

  all_stays : mended content ≡ content
  all_stays = ext_get_or [] (mended content) content (size_mended content) (λ at inside. sector_of_mended content at (omega (arith, inside, size_mended content)) ∙ sector_stays at (omega (arith, inside, size_mended content)))

none_differ : (content : Content) → differing content content ≡ 0
none_differ content = count_none (λ at. not (bytes_eq (sector content at) (sector content at))) 0 (length content) (λ at from below. ap not ((bytes_eq-Decides (sector content at) (sector content at)).1 refl))

pub own : SoundIsOwnRepair
own content other bytes whole sound repair = (same, ap (differing content) same ∙ none_differ content)
  where
    by : IsRepair content other → other ≡ content
    by (inl (_, is)) = is ∙ all_stays content bytes whole sound
    by (inr (_, is)) = is

    same : other ≡ content
    same = by repair
