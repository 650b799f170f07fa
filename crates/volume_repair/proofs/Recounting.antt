-- A repair that is sound is the volume counted anew.
use Rattle.std.proofs.Common.{◌≡◌, ◌<◌, ℕ, ◌-◌, ◌^◌, not, Bool, true, false, [], length, refl, sym, ◌∙◌, ap, subst, arith, inl, inr, if◌then◌else◌}
use Rattle.std.proofs.lemmas.List.{length-map}
use Rattle.std.proofs.lemmas.List.Sums.{count_by-le-length}
use Rattle.std.proofs.Math.Nat.{mod-eq_of_lt}
use Rattle.hx_bytes.specs.declared.fields.Order.TheVariants.{Big}
use Rattle.hx_bytes.proofs.Laws.{number_at-fits}
use Rattle.jnl_format.specs.Recovery.{Content, sector, header_of_volume}
use Rattle.volume_header.specs.Header.{header_of}
use Rattle.volume_header.specs.declared.header.VolumeHeader.{VolumeHeader}
use Rattle.btree_node.specs.Tree.{pairs_of}
use Rattle.btree_node.specs.TreeFile.{store_of}
use Rattle.hfs_volume.specs.Records.{Placed, placed_of, entries_of, is_file, is_folder, is_empty}
use Rattle.hfs_volume.specs.Findings.{HasBytes}
use Rattle.hfs_volume.specs.Content.{VolumeState, volume_of, records_of, block_limit, catalog_file, facts_of, has_attributes, node_of_fork, tree_of_fork}
use Rattle.hfs_volume.specs.Sound.{IsSound}
use Rattle.hfs_volume.proofs.Counting.{length_kept}
use Rattle.volume_repair.specs.Recount.{agrees, header_recounted, alternate_mended, recounted}
use Rattle.volume_repair.specs.Repair.{IsMendable, mended, catalog_sectors}
use Rattle.volume_repair.specs.RepairLaws.{HasWholeSectors}
use Rattle.volume_repair.specs.Whole.{RepairCounts}
use Rattle.volume_repair.proofs.BitsMending.{bits_are, map_inside}
use Rattle.volume_repair.proofs.CatalogMending.{catalog_inside}
use Rattle.volume_repair.proofs.CatalogPairs.{facts_are, pairs_are}
use Rattle.volume_repair.proofs.Journals.{journal_same}
use Rattle.volume_repair.proofs.Mending.{size_mended, sector_of_mended, mended_header, some_sectors, alternate_plain, alternate_copied, head_mended, extents_mended, attributes_mended}
use Rattle.volume_repair.proofs.NodeBytes.{node_are}
use Rattle.volume_repair.proofs.Repairing.{mendable}
use Rattle.volume_repair.proofs.Rereads.{relabelled}
use Rattle.volume_repair.proofs.Words.{low}

module _ (content : Content) (bytes : HasBytes content) (whole : HasWholeSectors content) (may : IsMendable content) (sound : IsSound (mended content)) where
  abbrev was : VolumeState
  was = volume_of content

  abbrev head : VolumeHeader
  head = header_of_volume content

  abbrev new : Content
  new = mended content

  long : length (sector content 2) ≡ 512
  long = whole 2 (omega (arith, some_sectors content may))

  -- ---- each count is a number of 32 bits

  low_is : (n : ℕ) → n < 4294967296 → low n ≡ n
  low_is n small = mod-eq_of_lt small

  few_records : length was.catalog_pairs < 4294967296
  unfolding volume_of catalog_file tree_of_fork
  few_records =
      let spelled : (catalog_file content).head.leaf_records < 256 ^ 4 = number_at-fits Big 4 20 (node_of_fork content (block_limit content) (catalog_sectors content) 512 0) (node_are content (block_limit content) (catalog_sectors content) 512 0 bytes) in
      omega (arith, spelled, may.trees.catalog.rules.header.leaf_records)

  few_entries : length (entries_of (records_of was)) < 4294967296
  few_entries =
      omega (arith, few_records, length_kept (λ (placed : Placed). not (is_empty placed.name)) (records_of was), count_by-le-length (λ (placed : Placed). not (is_empty placed.name)) (records_of was), length-map was.catalog_pairs placed_of)

  files_low : low (header_recounted was).file_count ≡ (header_recounted was).file_count
  files_low = low_is (header_recounted was).file_count (omega (arith, few_entries, count_by-le-length (λ (placed : Placed). is_file placed.value) (entries_of (records_of was))))

  folders_low : low (header_recounted was).folder_count ≡ (header_recounted was).folder_count
  folders_low = low_is (header_recounted was).folder_count (omega (arith, few_entries, count_by-le-length (λ (placed : Placed). is_folder placed.value) (entries_of (records_of was))))

  free_low : low (header_recounted was).free_blocks ≡ (header_recounted was).free_blocks
  unfolding volume_of
  free_low = low_is (header_recounted was).free_blocks (omega (arith, total))
    where
      total : head.total_blocks < 256 ^ 4
      total = number_at-fits Big 4 44 (sector content 2) (bytes 2)

  head_is : header_of_volume new ≡ header_recounted was
  unfolding volume_of
  head_is = head_mended content may long ∙ (λ i. relabelled head head.last_mounted_version (files_low i) (folders_low i) (free_low i))

  -- ---- the alternate header

  alternate_is : header_of (sector new (length new - 2)) ≡ alternate_mended was
  unfolding volume_of
  alternate_is = ap (λ n. header_of (sector new (n - 2))) (size_mended content) ∙ by (agrees was.head was.alternate) refl
    where
      by : (b : Bool) → agrees was.head was.alternate ≡ b → header_of (sector new (length content - 2)) ≡ alternate_mended was
      by true is =
          ap header_of (alternate_plain content may (map_inside content whole may sound) (catalog_inside content bytes whole may sound) (ap not is))
          ∙ sym (ap (λ b. if b then was.alternate else header_recounted was) is)
      by false is =
          ap header_of (alternate_copied content may (ap not is) ∙ sym (mended_header content) ∙ sym (sector_of_mended content 2 (omega (arith, some_sectors content may))))
          ∙ head_is
          ∙ sym (ap (λ b. if b then was.alternate else header_recounted was) is)

  -- ---- all of it

  pub counts : volume_of new ≡ recounted was
  unfolding volume_of recounted
  counts = λ i. record {
    sectors = size_mended content i;
    head = head_is i;
    alternate = alternate_is i;
    journal = journal_same content may long sound i;
    overflow_pairs = pairs_of (store_of (extents_mended content may long i));
    catalog_pairs = pairs_are content bytes whole may sound i;
    attribute_pairs = if has_attributes (head_is i) then pairs_of (store_of (attributes_mended content may long i)) else [];
    extents_tree = facts_of (extents_mended content may long i);
    catalog_tree = facts_are content bytes whole may sound i;
    attributes_tree = facts_of (attributes_mended content may long i);
    bits = bits_are content whole may sound i;
  }

pub counts_law : RepairCounts
counts_law content other bytes whole (inl (may, is)) sound = ap volume_of is ∙ counts content bytes whole may (subst IsSound is sound)
counts_law content other bytes whole (inr (cannot, is)) sound = absurd (cannot (mendable content (subst IsSound is sound)))
