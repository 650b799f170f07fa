-- What lies aside is free: the lists, the trees and the plain tree of the other content are those of the sound one.
use Rattle.hfs_volume.proofs.Valued.{values_same}
use Rattle.std.proofs.Common.{◌≡◌, ◌<◌, ◌≤◌, ℕ, ◌-◌, ◌*◌, ◌/◌, ◌%◌, true, false, List, [], length, map, take, refl, sym, ◌∙◌, ap, subst, arith, inl, inr}
use Rattle.std.proofs.lemmas.Bool.{true≢false}
use Rattle.std.specs.Prelude.{Contains, IsTrue, Option, Some, None, slice_get, if◌then◌else◌}
use Rattle.std.specs.List.{range_with_len}
use Rattle.std.proofs.lemmas.Option.{slice_get_within, get_or_from_slice_get}
use Rattle.std.proofs.lemmas.List.Elements.{Contains-append_left, Contains-append_right}
use Rattle.sector_disk.specs.Space.{AgreesOutside}
use Rattle.jnl_format.specs.Recovery.{Content, sector, header_of_volume}
use Rattle.volume_header.specs.Header.{header_of}
use Rattle.volume_header.specs.declared.header.VolumeHeader.{VolumeHeader}
use Rattle.flag_rows.specs.Bits.{bit_of}
use Rattle.hx_bytes.specs.declared.extents.Extent.{Extent}
use Rattle.hx_bytes.specs.declared.extents.ForkRecord.{ForkRecord}
use Rattle.fork_map.specs.Blocks.{blocks_of, sectors_of}
use Rattle.btree_node.specs.Keys.{IsCatalogKey, IsExtentKey, IsAttrKey, catalog_cmp, extent_cmp, attr_cmp, is_eight_extents, anything}
use Rattle.btree_node.specs.Tree.{pairs_of}
use Rattle.btree_node.specs.TreeFile.{TreeFile, IsTreeFile, store_of, extents_form, catalog_form, attributes_form}
use Rattle.cat_records.specs.declared.record.FileRecord.{FileRecord}
use Rattle.cat_records.specs.declared.record.CatRecord.TheVariants.{File}
use Rattle.hfs_volume.specs.Records.{Placed, Overflow, overflow_of, entries_of, id_of, id_in}
use Rattle.hfs_volume.specs.Forks.{Owned, per_block_of, parts_for, data_kind, extents_of, blocks_owned, special_forks, reserved_blocks, extents_id, catalog_id, allocation_id, attributes_id}
use Rattle.hfs_volume.specs.Content.{VolumeState, volume_of, records_of, overflow_in_volume, block_sector, block_bytes, tree_of_fork, extents_file, catalog_file, attributes_file, overflow_of_content, facts_of, bit_in, bit_of_sector, has_attributes, attributes_of}
use Rattle.hfs_volume.specs.Entries.{IsUserId}
use Rattle.hfs_volume.specs.Blocks.{forks_of}
use Rattle.hfs_volume.specs.Nodes.{HasTrees}
use Rattle.hfs_volume.specs.Sound.{IsSound, IsSoundVolume}
use Rattle.hfs_volume.specs.Aside.{IsAside, NamesJournal, AsideIsFree}
use Rattle.hfs_volume.specs.TreeOf.{tree_in, tree_of, bytes_in_fork, file_bytes, is_plain_file, bytes_in, valued}
use Rattle.hfs_volume.proofs.Members.{each_of}
use Rattle.hfs_volume.proofs.BlockWants.{in_range}
use Rattle.hfs_volume.proofs.Sectors.{from_first, in_front}
use Rattle.hfs_volume.proofs.Apart.{reserved_is_used}
use Rattle.hfs_volume.proofs.Hiding.{same_entry}
use Rattle.hfs_volume.proofs.PlainBytes.{same_plain_bytes, journal_not_plain, info_not_plain}
use Rattle.hfs_volume.proofs.Rereading.{same_bytes, same_tree, same_block_sector}
use Rattle.hfs_volume.proofs.Untouched.{IsOwnFile, data_fork_of, file_fork_stands, resource_fork_of, resource_fork_stands, special_stands, blocks, journal_file, info_file, IsForeign, reserved_apart, sector_stays, fork_stays, value_stays}

module _ (content other : Content) (sound : IsSound content) (agrees : AgreesOutside (IsAside content) content other) where
  abbrev was : VolumeState
  was = volume_of content

  abbrev head_was : VolumeHeader
  head_was = header_of_volume content

  abbrev per_was : ℕ
  per_was = per_block_of head_was

  stays : (at : ℕ) → (block : ℕ) → (at / per_was ≡ block) → (at / per_was < head_was.total_blocks → Contains (reserved_blocks was.sectors was.head) (at / per_was)) → sector other at ≡ sector content at
  stays at block is reserved = sector_stays content other sound agrees at (λ inside. (reserved_is_used was (at / per_was) (reserved inside), reserved_apart content other sound agrees (at / per_was) (reserved inside)))

  -- ---- the two headers

  pub header_stays : header_of_volume other ≡ head_was
  unfolding volume_of
  header_stays = ap header_of (stays 2 (2 / per_was) refl (λ inside.
      let front : 2 / per_was < parts_for 1536 head_was.block_size = in_front head_was.block_size per_was (blocks content other sound agrees).whole (blocks content other sound agrees).some 1536 2 (omega arith) in
      Contains-append_left (range_with_len 0 (parts_for 1536 head_was.block_size)) (range_with_len ((length content * 512 - 1024) / head_was.block_size) (head_was.total_blocks - (length content * 512 - 1024) / head_was.block_size)) (2 / per_was)
      (in_range 0 (parts_for 1536 head_was.block_size) (2 / per_was) (omega arith) (omega (arith, front)))))

  alternate_stays : header_of (sector other (length other - 2)) ≡ header_of (sector content (length content - 2))
  unfolding volume_of
  alternate_stays = ap (λ n. header_of (sector other (n - 2))) agrees.size ∙ ap header_of (stays (length content - 2) ((length content - 2) / per_was) refl (λ inside.
      let from : (length content * 512 - 1024) / head_was.block_size ≤ (length content - 2) / per_was =
      from_first head_was.block_size per_was (blocks content other sound agrees).whole (blocks content other sound agrees).some (length content * 512 - 1024) (length content - 2) (omega arith) in
      Contains-append_right (range_with_len 0 (parts_for 1536 head_was.block_size)) (range_with_len ((length content * 512 - 1024) / head_was.block_size) (head_was.total_blocks - (length content * 512 - 1024) / head_was.block_size)) ((length content - 2) / per_was)
      (in_range ((length content * 512 - 1024) / head_was.block_size) (head_was.total_blocks - (length content * 512 - 1024) / head_was.block_size) ((length content - 2) / per_was) from (omega (arith, from, inside)))))

  -- ---- the special files

  own_id : (name : List ℕ) (extent : Extent) (own : IsOwnFile was name extent) → IsUserId was.head.next_catalog_id own.file.fields.id
  own_id name extent own =
      subst (λ id. IsUserId was.head.next_catalog_id id) (ap id_in own.value) (each_of (λ (p : Placed). IsUserId was.head.next_catalog_id (id_of p)) (entries_of (records_of was)) sound.volume.entries.ids.each own.entry own.stands)

  special_differs : (owned : Owned) (id : ℕ) → 2 < owned.id → owned.id < 16 → IsUserId was.head.next_catalog_id id → owned.id ≡ id → ⊥
  special_differs owned id low high (inl two) same = omega (arith, two, same, low)
  special_differs owned id low high (inr user) same = omega (arith, user, same, high)

  foreign : (owned : Owned) → 2 < owned.id → owned.id < 16 → IsForeign content other sound agrees owned
  foreign owned low high = (
    λ same. special_differs owned (journal_file content other sound agrees).file.fields.id low high (own_id _ _ (journal_file content other sound agrees)) (ap (λ o. o.id) same),
    λ same. special_differs owned (info_file content other sound agrees).file.fields.id low high (own_id _ _ (info_file content other sound agrees)) (ap (λ o. o.id) same),
  )

  special_stays : (owned : Owned) → Contains (special_forks was.head) owned → 2 < owned.id → owned.id < 16 → (at : ℕ) → Contains (sectors_of per_was (blocks_owned (overflow_in_volume was) owned)) at → sector other at ≡ sector content at
  special_stays owned stands low high at has = fork_stays content other sound agrees owned (special_stands was owned stands) (foreign owned low high) at has

  extents_stay : extents_file other ≡ extents_file content
  unfolding extents_file volume_of extents_of
  extents_stay =
      ap (λ h. tree_of_fork other (h.total_blocks * per_block_of h) (sectors_of (per_block_of h) (blocks_of (extents_of [] extents_id data_kind h.extents_fork)))) header_stays
      ∙ same_tree content other (head_was.total_blocks * per_was) (sectors_of per_was (blocks_of (extents_of [] extents_id data_kind head_was.extents_fork)))
      (λ at stands. special_stays (record { id = extents_id; kind = data_kind; fork = head_was.extents_fork }) (0, omega arith, refl) (omega arith) (omega arith) at stands)

  overflow_stays : overflow_of_content other ≡ overflow_of_content content
  unfolding overflow_of_content
  overflow_stays = ap (λ tree. map overflow_of (pairs_of (store_of tree))) extents_stay

  -- the overflow records are those of the lists
  overflow_is : overflow_in_volume was ≡ overflow_of_content content
  unfolding volume_of overflow_of_content
  overflow_is = refl

  -- the sectors of a special file by its fork
  abbrev sectors_by : VolumeHeader → List Overflow → ℕ → ForkRecord → List ℕ
  sectors_by h overflow id fork = sectors_of (per_block_of h) (blocks_of (extents_of overflow id data_kind fork))

  special_agrees : (id : ℕ) (fork : ForkRecord) → Contains (special_forks was.head) (record { id = id; kind = data_kind; fork = fork }) → 2 < id → id < 16
      → (at : ℕ) → Contains (sectors_by head_was (overflow_of_content content) id fork) at → sector other at ≡ sector content at
  special_agrees id fork stands low high at has =
      special_stays (record { id = id; kind = data_kind; fork = fork }) stands low high at (subst (λ o. Contains (sectors_by head_was o id fork) at) (sym overflow_is) has)

  catalog_stays : catalog_file other ≡ catalog_file content
  unfolding catalog_file volume_of
  catalog_stays =
      (λ i. tree_of_fork other ((header_stays i).total_blocks * per_block_of (header_stays i)) (sectors_by (header_stays i) (overflow_stays i) catalog_id (header_stays i).catalog_fork))
      ∙ same_tree content other (head_was.total_blocks * per_was) (sectors_by head_was (overflow_of_content content) catalog_id head_was.catalog_fork)
      (special_agrees catalog_id head_was.catalog_fork (1, omega arith, refl) (omega arith) (omega arith))

  attributes_stay : attributes_file other ≡ attributes_file content
  unfolding attributes_file volume_of
  attributes_stay =
      (λ i. tree_of_fork other ((header_stays i).total_blocks * per_block_of (header_stays i)) (sectors_by (header_stays i) (overflow_stays i) attributes_id (header_stays i).attributes_fork))
      ∙ same_tree content other (head_was.total_blocks * per_was) (sectors_by head_was (overflow_of_content content) attributes_id head_was.attributes_fork)
      (special_agrees attributes_id head_was.attributes_fork (4, omega arith, refl) (omega arith) (omega arith))

  -- ---- the bitmap

  abbrev map_sectors : List ℕ
  map_sectors = sectors_by head_was (overflow_of_content content) allocation_id head_was.allocation_fork

  map_agrees : (at : ℕ) → Contains map_sectors at → sector other at ≡ sector content at
  unfolding volume_of
  map_agrees = special_agrees allocation_id head_was.allocation_fork (2, omega arith, refl) (omega arith) (omega arith)

  same_bit : (k : ℕ) → bit_in other map_sectors k ≡ bit_in content map_sectors k
  unfolding bit_in bit_of_sector
  same_bit k = by (slice_get map_sectors (k / 4096)) refl
    where
      by : (o : Option ℕ) → slice_get map_sectors (k / 4096) ≡ o → bit_of_sector other (k % 4096) o ≡ bit_of_sector content (k % 4096) o
      by None found = refl
      by (Some at) found =
          let same = map_agrees at (k / 4096, slice_get_within map_sectors (k / 4096) at found, get_or_from_slice_get map_sectors (k / 4096) at at found) in
          (λ i. bit_of (block_sector other ((header_stays i).total_blocks * per_block_of (header_stays i)) at) (k % 4096))
          ∙ ap (λ s. bit_of s (k % 4096)) (same_block_sector content other (head_was.total_blocks * per_was) at same)

  bits_stay : (volume_of other).bits ≡ was.bits
  unfolding volume_of
  bits_stay =
      (λ i. map (bit_in other (sectors_by (header_stays i) (overflow_stays i) allocation_id (header_stays i).allocation_fork)) (range_with_len 0 (8 * (header_stays i).allocation_fork.logical_size)))
      ∙ (λ i. map (λ k. same_bit k i) (range_with_len 0 (8 * head_was.allocation_fork.logical_size)))

  -- ---- the lists, the trees, and the plain tree

  module _ (names : NamesJournal content other) where
    pub volume_stays : volume_of other ≡ volume_of content
    unfolding volume_of
    volume_stays = λ i. record {
      sectors = agrees.size i;
      head = header_stays i;
      alternate = alternate_stays i;
      journal = names i;
      overflow_pairs = pairs_of (store_of (extents_stay i));
      catalog_pairs = pairs_of (store_of (catalog_stays i));
      attribute_pairs = if has_attributes (header_stays i) then pairs_of (store_of (attributes_stay i)) else [];
      extents_tree = facts_of (extents_stay i);
      catalog_tree = facts_of (catalog_stays i);
      attributes_tree = facts_of (attributes_stay i);
      bits = bits_stay i;
    }

    trees_stay : HasTrees other
    trees_stay = record {
      extents = subst (IsTreeFile extents_form IsExtentKey is_eight_extents extent_cmp) (sym extents_stay) sound.trees.extents;
      catalog = subst (IsTreeFile catalog_form IsCatalogKey anything catalog_cmp) (sym catalog_stays) sound.trees.catalog;
      compare = ap (λ (tree : TreeFile). tree.head.compare) catalog_stays ∙ sound.trees.compare;
      attributes = λ has. subst (IsTreeFile attributes_form IsAttrKey anything attr_cmp) (sym attributes_stay) (sound.trees.attributes (subst (λ h. IsTrue (has_attributes h)) header_stays has));
    }

    pub stays_sound : IsSound other
    stays_sound = record { trees = trees_stay; volume = subst IsSoundVolume (sym volume_stays) sound.volume }

    -- a file that users see isn't one of the journal's
    plain_foreign : (p : Placed) (file : FileRecord) → Contains (entries_of (records_of was)) p → p.value ≡ File file → is_plain_file (records_of was) p ≡ true → IsForeign content other sound agrees (data_fork_of file)
    plain_foreign p file stands is plain = (
      λ same. not_own (journal_file content other sound agrees).entry (journal_file content other sound agrees).stands
          (journal_not_plain (records_of was) (journal_file content other sound agrees).entry (journal_file content other sound agrees).place.0 (journal_file content other sound agrees).place.1)
          (ap id_in is ∙ ap (λ (o : Owned). o.id) same ∙ sym (ap id_in (journal_file content other sound agrees).value)),
      λ same. not_own (info_file content other sound agrees).entry (info_file content other sound agrees).stands
          (info_not_plain (records_of was) (info_file content other sound agrees).entry (info_file content other sound agrees).place.0 (info_file content other sound agrees).place.1)
          (ap id_in is ∙ ap (λ (o : Owned). o.id) same ∙ sym (ap id_in (info_file content other sound agrees).value)),
    )
      where
        not_own : (own : Placed) → Contains (entries_of (records_of was)) own → is_plain_file (records_of was) own ≡ false → id_of p ≡ id_of own → ⊥
        not_own own there hidden same_id =
            let one : p ≡ own = same_entry was.head.next_catalog_id (entries_of (records_of was)) sound.volume.entries.ids p own stands there same_id in
            true≢false (sym plain ∙ ap (is_plain_file (records_of was)) one ∙ hidden)

    fork_bytes_stay : (owned : Owned) → Contains (forks_of was) owned → IsForeign content other sound agrees owned → bytes_in_fork other owned.id owned.kind owned.fork ≡ bytes_in_fork content owned.id owned.kind owned.fork
    unfolding bytes_in_fork
    fork_bytes_stay owned stands foreign_it =
        (λ i. take owned.fork.logical_size (block_bytes other ((header_stays i).total_blocks * per_block_of (header_stays i)) (sectors_of (per_block_of (header_stays i)) (blocks_owned (overflow_in_volume (volume_stays i)) owned))))
        ∙ ap (take owned.fork.logical_size) (same_bytes content other (head_was.total_blocks * per_was) (sectors_of per_was (blocks_owned (overflow_in_volume was) owned))
        (λ at has. fork_stays content other sound agrees owned stands foreign_it at has))

    plain_bytes : (p : Placed) (file : FileRecord) → Contains (entries_of (records_of was)) p → p.value ≡ File file → is_plain_file (records_of was) p ≡ true → file_bytes other file ≡ file_bytes content file
    plain_bytes p file stands is plain = λ i. record {
      data_bytes = fork_bytes_stay (data_fork_of file) (file_fork_stands was p file stands is) (plain_foreign p file stands is plain) i;
      resource_bytes = fork_bytes_stay (resource_fork_of file) (resource_fork_stands was p file stands is)
          (λ same. omega (arith, ap (λ (o : Owned). o.kind) same), λ same. omega (arith, ap (λ (o : Owned). o.kind) same)) i;
    }

    values_stay : valued (bytes_in other) (attributes_of was) ≡ valued (bytes_in content) (attributes_of was)
    unfolding volume_of
    values_stay = values_same content other (attributes_of was) (ap (λ (h : VolumeHeader). h.block_size) header_stays) (ap (λ (h : VolumeHeader). h.total_blocks) header_stays) (blocks content other sound agrees).some (value_stays content other sound agrees)

    pub tree_stays : tree_of other ≡ tree_of content
    unfolding tree_of
    tree_stays = ap (λ v. tree_in v (bytes_in other)) volume_stays ∙ same_plain_bytes was (bytes_in other) (bytes_in content) plain_bytes values_stay

-- the law
pub aside_is_free : AsideIsFree
aside_is_free content other sound agrees names = (stays_sound content other sound agrees names, volume_stays content other sound agrees names, tree_stays content other sound agrees names)
