-- A content with another version in its header: a sound one stays sound, with the same lists and the same tree.
use Rattle.std.proofs.Common.{◌≡◌, ◌≢◌, ◌≤◌, ℕ, ◌-◌, ◌*◌, ◌/◌, ◌%◌, Bool, true, false, not, List, [], length, map, take, refl, sym, ◌∙◌, ap, subst, arith, inr}
use Rattle.std.specs.Prelude.{Contains, IsTrue, Option, Some, None, slice_get, nat_le, if◌then◌else◌}
use Rattle.std.specs.List.{range_with_len}
use Rattle.std.proofs.lemmas.Bool.{and_parts, leb-true}
use Rattle.std.proofs.lemmas.Option.{slice_get_within, get_or_from_slice_get}
use Rattle.std.proofs.lemmas.List.Elements.{Contains-append_left}
use Rattle.jnl_format.specs.Recovery.{Content, sector, header_of_volume, info_sector_of}
use Rattle.volume_header.specs.Header.{header_of}
use Rattle.volume_header.specs.Refusal.{header_refusal, is_volume_size, is_locked}
use Rattle.volume_header.specs.declared.header.VolumeHeader.{VolumeHeader}
use Rattle.volume_header.specs.declared.refusal.HeaderRefusal.{HeaderRefusal}
use Rattle.volume_header.specs.declared.refusal.HeaderRefusal.TheVariants.{LimitSectors}
use Rattle.flag_rows.specs.Bits.{bit_of}
use Rattle.hx_bytes.specs.declared.extents.ForkRecord.{ForkRecord}
use Rattle.fork_map.specs.Blocks.{blocks_of, sectors_of}
use Rattle.btree_node.specs.Keys.{IsCatalogKey, IsExtentKey, IsAttrKey, catalog_cmp, extent_cmp, attr_cmp, is_eight_extents, anything}
use Rattle.btree_node.specs.Tree.{pairs_of}
use Rattle.btree_node.specs.TreeFile.{TreeFile, IsTreeFile, store_of, extents_form, catalog_form, attributes_form}
use Rattle.cat_records.specs.declared.record.FileRecord.{FileRecord}
use Rattle.cat_records.specs.declared.record.CatRecord.TheVariants.{File}
use Rattle.hfs_volume.specs.Aside.{IsAside}
use Rattle.hfs_volume.specs.Attributing.{RemountKeeps}
use Rattle.hfs_volume.specs.Records.{Placed, Overflow, overflow_of, entries_of}
use Rattle.hfs_volume.specs.Forks.{Owned, per_block_of, parts_for, data_kind, extents_of, blocks_owned, special_forks, reserved_blocks, extents_id, catalog_id, allocation_id, attributes_id}
use Rattle.hfs_volume.specs.Content.{VolumeState, volume_of, attributes_of, records_of, overflow_in_volume, block_sector, block_bytes, tree_of_fork, extents_file, catalog_file, attributes_file, overflow_of_content, facts_of, bit_in, bit_of_sector, has_attributes, journal_place}
use Rattle.hfs_volume.specs.Nodes.{HasTrees}
use Rattle.hfs_volume.specs.Blocks.{forks_of}
use Rattle.hfs_volume.specs.Sound.{IsSound, IsSoundVolume}
use Rattle.hfs_volume.specs.TreeOf.{BytesOf, bytes_in, bytes_in_fork, file_bytes, tree_in, tree_of, valued}
use Rattle.hfs_volume.specs.Values.{blocks_of_values}
use Rattle.hfs_volume.proofs.Apart.{not_reserved, value_not_reserved}
use Rattle.hfs_volume.proofs.BlockWants.{in_range}
use Rattle.hfs_volume.proofs.Bytes.{same_bytes_same_tree}
use Rattle.hfs_volume.proofs.Rereading.{same_bytes, same_tree, same_block_sector}
use Rattle.hfs_volume.proofs.Sectors.{block_is, in_block, in_front}
use Rattle.hfs_volume.proofs.Valued.{values_same}
use Rattle.hfs_volume.proofs.Untouched.{HasWholeBlocks, whole_blocks, data_fork_of, file_fork_stands, resource_fork_of, resource_fork_stands, special_stands, reserved_apart}
use Rattle.hfs_serving.specs.Runs.{KeepsPlace, SetsVersion, version_header}
use Rattle.hfs_serving.proofs.Agreeing.{agrees_self}

-- an accepted header stands on a volume of some sectors
passed : (b : Bool) (why : HeaderRefusal) (rest : Option HeaderRefusal) → (if not b then Some why else rest) ≡ None → b ≡ true
passed true why rest is = refl
passed false why rest is = absurd (cc)

many_sectors : (head : VolumeHeader) (sectors : ℕ) → header_refusal head sectors ≡ None → 2048 ≤ sectors
many_sectors head sectors accepted = leb-true 2048 sectors (and_parts (nat_le 2048 sectors) (nat_le sectors 2147483648) (passed (is_volume_size sectors) (LimitSectors sectors) _ accepted)).0

module _ (content other : Content) (sound : IsSound content) (size : length other ≡ length content) (same : (at : ℕ) → at ≢ 2 → sector other at ≡ sector content at) (head_is : header_of_volume other ≡ version_header (header_of_volume content)) where
  abbrev was : VolumeState
  was = volume_of content

  abbrev head_was : VolumeHeader
  head_was = header_of_volume content

  abbrev per_was : ℕ
  per_was = per_block_of head_was

  accepted : header_refusal head_was (length content) ≡ None
  unfolding volume_of
  accepted = sound.volume.blocks.header.accepted

  whole : HasWholeBlocks (length content) head_was
  whole = whole_blocks (length content) head_was accepted

  -- the header's block is kept back
  block_of_header : Contains (reserved_blocks was.sectors was.head) (2 / per_was)
  unfolding volume_of
  block_of_header =
      Contains-append_left (range_with_len 0 (parts_for 1536 head_was.block_size)) (range_with_len ((length content * 512 - 1024) / head_was.block_size) (head_was.total_blocks - (length content * 512 - 1024) / head_was.block_size)) (2 / per_was)
      (in_range 0 (parts_for 1536 head_was.block_size) (2 / per_was) (omega arith) (omega (arith, in_front head_was.block_size per_was whole.whole whole.some 1536 2 (omega arith))))

  -- so no fork has its sector
  fork_stays : (owned : Owned) → Contains (forks_of was) owned → (at : ℕ) → Contains (sectors_of per_was (blocks_owned (overflow_in_volume was) owned)) at → sector other at ≡ sector content at
  fork_stays owned stands at has =
      same at
      (λ two.
      not_reserved was sound.volume.blocks.forks owned (2 / per_was) block_of_header stands
      (in_block per_was (blocks_owned (overflow_in_volume was) owned) 2 whole.some (subst (λ n. Contains (sectors_of per_was (blocks_owned (overflow_in_volume was) owned)) n) two has)))

  -- nor has the info block
  info_stays : sector other (info_sector_of head_was) ≡ sector content (info_sector_of head_was)
  unfolding volume_of
  info_stays = same (info_sector_of head_was) not_2
    where
      not_2 : info_sector_of head_was ≢ 2
      not_2 two =
          let block : 2 / per_was ≡ head_was.journal_info_block = block_is per_was head_was.journal_info_block 2 whole.some (omega (arith, two)) (omega (arith, two, whole.some)) in
          reserved_apart content content sound (agrees_self (IsAside content) content) (2 / per_was) block_of_header
          (inr (Contains-append_left (range_with_len head_was.journal_info_block 1) [] (2 / per_was) (in_range head_was.journal_info_block 1 (2 / per_was) (omega (arith, block)) (omega (arith, block)))))

  alternate_stays : header_of (sector other (length other - 2)) ≡ header_of (sector content (length content - 2))
  alternate_stays =
      ap (λ n. header_of (sector other (n - 2))) size ∙ ap header_of (same (length content - 2) (λ two. absurd (omega (arith, two, many_sectors head_was (length content) accepted))))

  -- ---- the special files

  special_stays : (owned : Owned) → Contains (special_forks was.head) owned → (at : ℕ) → Contains (sectors_of per_was (blocks_owned (overflow_in_volume was) owned)) at → sector other at ≡ sector content at
  special_stays owned stands at has = fork_stays owned (special_stands was owned stands) at has

  extents_stay : extents_file other ≡ extents_file content
  unfolding extents_file volume_of extents_of
  extents_stay =
      ap (λ h. tree_of_fork other (h.total_blocks * per_block_of h) (sectors_of (per_block_of h) (blocks_of (extents_of [] extents_id data_kind h.extents_fork)))) head_is
      ∙ same_tree content other (head_was.total_blocks * per_was) (sectors_of per_was (blocks_of (extents_of [] extents_id data_kind head_was.extents_fork)))
      (λ at stands. special_stays (record { id = extents_id; kind = data_kind; fork = head_was.extents_fork }) (0, omega arith, refl) at stands)

  overflow_stays : overflow_of_content other ≡ overflow_of_content content
  unfolding overflow_of_content
  overflow_stays = ap (λ tree. map overflow_of (pairs_of (store_of tree))) extents_stay

  overflow_is : overflow_in_volume was ≡ overflow_of_content content
  unfolding volume_of overflow_of_content
  overflow_is = refl

  -- the sectors of a special file by its fork
  abbrev sectors_by : VolumeHeader → List Overflow → ℕ → ForkRecord → List ℕ
  sectors_by h overflow id fork = sectors_of (per_block_of h) (blocks_of (extents_of overflow id data_kind fork))

  special_agrees : (id : ℕ) (fork : ForkRecord) → Contains (special_forks was.head) (record { id = id; kind = data_kind; fork = fork }) → (at : ℕ) → Contains (sectors_by head_was (overflow_of_content content) id fork) at → sector other at ≡ sector content at
  special_agrees id fork stands at has = special_stays (record { id = id; kind = data_kind; fork = fork }) stands at (subst (λ o. Contains (sectors_by head_was o id fork) at) (sym overflow_is) has)

  catalog_stays : catalog_file other ≡ catalog_file content
  unfolding catalog_file volume_of
  catalog_stays =
      (λ i. tree_of_fork other ((head_is i).total_blocks * per_block_of (head_is i)) (sectors_by (head_is i) (overflow_stays i) catalog_id (head_is i).catalog_fork))
      ∙ same_tree content other (head_was.total_blocks * per_was) (sectors_by head_was (overflow_of_content content) catalog_id head_was.catalog_fork) (special_agrees catalog_id head_was.catalog_fork (1, omega arith, refl))

  attributes_stay : attributes_file other ≡ attributes_file content
  unfolding attributes_file volume_of
  attributes_stay =
      (λ i. tree_of_fork other ((head_is i).total_blocks * per_block_of (head_is i)) (sectors_by (head_is i) (overflow_stays i) attributes_id (head_is i).attributes_fork))
      ∙ same_tree content other (head_was.total_blocks * per_was) (sectors_by head_was (overflow_of_content content) attributes_id head_was.attributes_fork) (special_agrees attributes_id head_was.attributes_fork (4, omega arith, refl))

  -- ---- the bitmap

  abbrev map_sectors : List ℕ
  map_sectors = sectors_by head_was (overflow_of_content content) allocation_id head_was.allocation_fork

  map_agrees : (at : ℕ) → Contains map_sectors at → sector other at ≡ sector content at
  unfolding volume_of
  map_agrees = special_agrees allocation_id head_was.allocation_fork (2, omega arith, refl)

  same_bit : (k : ℕ) → bit_in other map_sectors k ≡ bit_in content map_sectors k
  unfolding bit_in bit_of_sector
  same_bit k = by (slice_get map_sectors (k / 4096)) refl
    where
      by : (o : Option ℕ) → slice_get map_sectors (k / 4096) ≡ o → bit_of_sector other (k % 4096) o ≡ bit_of_sector content (k % 4096) o
      by None found = refl
      by (Some at) found =
          let stays = map_agrees at (k / 4096, slice_get_within map_sectors (k / 4096) at found, get_or_from_slice_get map_sectors (k / 4096) at at found) in
          (λ i. bit_of (block_sector other ((head_is i).total_blocks * per_block_of (head_is i)) at) (k % 4096))
          ∙ ap (λ s. bit_of s (k % 4096)) (same_block_sector content other (head_was.total_blocks * per_was) at stays)

  bits_stay : (volume_of other).bits ≡ was.bits
  unfolding volume_of
  bits_stay =
      (λ i. map (bit_in other (sectors_by (head_is i) (overflow_stays i) allocation_id (head_is i).allocation_fork)) (range_with_len 0 (8 * (head_is i).allocation_fork.logical_size)))
      ∙ (λ i. map (λ k. same_bit k i) (range_with_len 0 (8 * head_was.allocation_fork.logical_size)))

  -- ---- the lists, the trees, and the plain tree

  pub volume_stays : volume_of other ≡ record (volume_of content) { head = version_header (volume_of content).head }
  unfolding volume_of
  volume_stays = λ i. record {
    sectors = size i;
    head = head_is i;
    alternate = alternate_stays i;
    journal = (ap (λ h. journal_place (sector other (info_sector_of h))) head_is ∙ ap journal_place info_stays) i;
    overflow_pairs = pairs_of (store_of (extents_stay i));
    catalog_pairs = pairs_of (store_of (catalog_stays i));
    attribute_pairs = if has_attributes (head_is i) then pairs_of (store_of (attributes_stay i)) else [];
    extents_tree = facts_of (extents_stay i);
    catalog_tree = facts_of (catalog_stays i);
    attributes_tree = facts_of (attributes_stay i);
    bits = bits_stay i;
  }

  trees_stay : HasTrees other
  trees_stay = record {
    extents = subst (IsTreeFile extents_form IsExtentKey is_eight_extents extent_cmp) (sym extents_stay) sound.trees.extents;
    catalog = subst (IsTreeFile catalog_form IsCatalogKey anything catalog_cmp) (sym catalog_stays) sound.trees.catalog;
    compare = ap (λ (tree : TreeFile). tree.head.compare) catalog_stays ∙ sound.trees.compare;
    attributes = λ has. subst (IsTreeFile attributes_form IsAttrKey anything attr_cmp) (sym attributes_stay) (sound.trees.attributes (subst (λ h. IsTrue (has_attributes h)) head_is has));
  }

  -- the bytes of a fork don't lie in the header
  bytes_there : (owned : Owned) → Contains (forks_of was) owned → bytes_in_fork other owned.id owned.kind owned.fork ≡ bytes_in_fork content owned.id owned.kind owned.fork
  unfolding bytes_in_fork
  bytes_there owned stands =
      (λ i. take owned.fork.logical_size (block_bytes other ((head_is i).total_blocks * per_block_of (head_is i)) (sectors_of (per_block_of (head_is i)) (blocks_of (extents_of (overflow_in_volume (volume_stays i)) owned.id owned.kind owned.fork)))))
      ∙ ap (take owned.fork.logical_size) (same_bytes content other (head_was.total_blocks * per_was) (sectors_of per_was (blocks_owned (overflow_in_volume was) owned)) (λ at has. fork_stays owned stands at has))

  -- nor do those of a file
  bytes_stay : (p : Placed) (file : FileRecord) → Contains (entries_of (records_of was)) p → p.value ≡ File file → file_bytes other file ≡ file_bytes content file
  bytes_stay p file stands is = λ i. record {
    data_bytes = bytes_there (data_fork_of file) (file_fork_stands was p file stands is) i;
    resource_bytes = bytes_there (resource_fork_of file) (resource_fork_stands was p file stands is) i;
  }

  -- nor do the values of attributes
  values_stay : valued (bytes_in other) (attributes_of was) ≡ valued (bytes_in content) (attributes_of was)
  values_stay =
      values_same content other (attributes_of was) (ap (λ (h : VolumeHeader). h.block_size) head_is) (ap (λ (h : VolumeHeader). h.total_blocks) head_is) whole.some
      (λ at has. same at (λ two. value_not_reserved was sound.volume.blocks.forks (2 / per_was) (subst (λ (n : ℕ). Contains (blocks_of_values (attributes_of was)) (n / per_was)) two has) block_of_header))

  module _ (law : RemountKeeps) where
    remount : (bytes_of : BytesOf) → IsSoundVolume (record was { head = version_header was.head }) × (tree_in (record was { head = version_header was.head }) bytes_of ≡ tree_in was bytes_of)
    remount bytes_of =
        law (version_header was.head) was bytes_of sound.volume (record { accepted = sound.volume.blocks.header.accepted; next_id = sound.volume.blocks.header.next_id })
        (record { files = refl; folders = refl; free = refl; next = refl; moment = refl })

    tree_stays : tree_of other ≡ tree_of content
    unfolding tree_of
    tree_stays = ap (λ v. tree_in v (bytes_in other)) volume_stays ∙ (remount (bytes_in other)).1 ∙ same_bytes_same_tree was (bytes_in other) (bytes_in content) bytes_stay values_stay

    pub sets_version : SetsVersion content other
    sets_version = record {
      volume = volume_stays;
      keeps = record { sound = record { trees = trees_stay; volume = subst IsSoundVolume (sym volume_stays) (remount (bytes_in content)).0 }; tree = tree_stays };
    }

  pub version_place : KeepsPlace content other
  version_place = record { journal = ap (λ (v : VolumeState). v.journal) volume_stays; locked = ap (λ (v : VolumeState). is_locked v.head.attributes) volume_stays }
