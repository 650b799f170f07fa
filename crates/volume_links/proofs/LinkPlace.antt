-- The place of a new link, by the records of a volume: its folder is there and can count it, and records and threads match one to one behind it.
use Rattle.std.proofs.Common.{◌≡◌, ◌<◌, ◌≤◌, ℕ, ◌+◌, ◌^◌, true, false, List, refl, ◌∙◌, ap, arith, ⊎_elim}
use Rattle.std.specs.Prelude.{◌==◌, ◌&&◌, None, Ok}
use Rattle.std.specs.Str.{bytes_eq}
use Rattle.sector_disk.specs.Lists.{Content}
use Rattle.btree_node.specs.Levels.{Pair}
use Rattle.hx_bytes.specs.declared.extents.ForkRecord.{ForkRecord}
use Rattle.cat_records.specs.declared.record.EntryFields.{EntryFields}
use Rattle.hfs_model.specs.Step.{is_private_name, journal_info_name, journal_name, private_name, to_make}
use Rattle.hfs_volume.specs.Changes.{AddsEntry}
use Rattle.hfs_volume.specs.Commands.{HasFields}
use Rattle.hfs_volume.specs.Content.{VolumeState, records_of, volume_of}
use Rattle.hfs_volume.specs.Entries.{AreThreaded, IsUserId, count_in}
use Rattle.hfs_volume.specs.Laws.{IsFolderId}
use Rattle.hfs_volume.specs.Records.{Placed, entries_of, id_of, is_empty, is_folder, is_placed_at, record_at, valence_in}
use Rattle.hfs_volume.specs.Sound.{IsSoundVolume}
use Rattle.hfs_volume.specs.TreeOf.{bytes_in, tree_in, tree_of}
use Rattle.hfs_volume.proofs.Fields.{id_of_fields}
use Rattle.hfs_volume.proofs.Making.{tree_entries}
use Rattle.hfs_volume.proofs.Members.{each_of}
use Rattle.hfs_volume.proofs.Reaching.{new_place_is}
use Rattle.hfs_volume.proofs.Threading.{threads_kept}
use Rattle.volume_base.specs.Changing.{HasFolder}
use Rattle.volume_base.specs.Making.{IsSite, free_place}
use Rattle.volume_base.proofs.Counted.{counts_low}
use Rattle.volume_names.proofs.Made.{entry_still, third_false}
use Rattle.volume_links.proofs.LinkBare.{link_entry}

module _ (content : Content) (sound : IsSoundVolume (volume_of content)) (folder : ℕ) (name : List ℕ) (site : IsSite (tree_of content) folder name) where
  abbrev old : VolumeState
  old = volume_of content

  allowed : to_make (tree_in (volume_of content) (bytes_in content)) site.path ≡ Ok (free_place folder name)
  unfolding tree_of
  allowed = site.allowed

  above : IsFolderId (entries_of (records_of (volume_of content))) folder
  above = (new_place_is (records_of (volume_of content)) (volume_of content).head.next_catalog_id sound.entries.ids sound.entries.rooted (tree_in (volume_of content) (bytes_in content)) (tree_entries (volume_of content) (bytes_in content))
      site.path (free_place folder name) allowed site.not_own site.named).0.is_folder.folder

  pub has_name : is_empty name ≡ false
  has_name = (new_place_is (records_of (volume_of content)) (volume_of content).head.next_catalog_id sound.entries.ids sound.entries.rooted (tree_in (volume_of content) (bytes_in content)) (tree_entries (volume_of content) (bytes_in content))
      site.path (free_place folder name) allowed site.not_own site.named).1

  pub nothing_there : record_at (records_of (volume_of content)) folder name ≡ None
  nothing_there = (new_place_is (records_of (volume_of content)) (volume_of content).head.next_catalog_id sound.entries.ids sound.entries.rooted (tree_in (volume_of content) (bytes_in content)) (tree_entries (volume_of content) (bytes_in content))
      site.path (free_place folder name) allowed site.not_own site.named).0.is_new

  -- it isn't one of the volume's own names
  pub not_own : ((folder == 2) && is_private_name name) ≡ false
  not_own = (new_place_is (records_of (volume_of content)) (volume_of content).head.next_catalog_id sound.entries.ids sound.entries.rooted (tree_in (volume_of content) (bytes_in content)) (tree_entries (volume_of content) (bytes_in content))
      site.path (free_place folder name) allowed site.not_own site.named).0.not_own

  pub not_private : (fork : ForkRecord) → is_placed_at 2 private_name (link_entry folder name (volume_of content).head.next_catalog_id (volume_of content).head.modify_date fork) ≡ false
  not_private fork = third_false (folder == 2) (bytes_eq name journal_name) (bytes_eq name journal_info_name) (bytes_eq name private_name) not_own

  -- the folder above isn't the link
  pub other_number : (entry : Placed) (before : EntryFields) → HasFields entry.value before → before.id ≡ folder → (fork : ForkRecord) → link_entry folder name (volume_of content).head.next_catalog_id (volume_of content).head.modify_date fork ≡ entry → ⊥
  other_number entry before has number fork same =
      let low = each_of (λ (p : Placed). IsUserId (volume_of content).head.next_catalog_id (id_of p)) (entries_of (records_of (volume_of content))) sound.entries.ids.each above.0 above.1 in
      let given : (volume_of content).head.next_catalog_id ≡ folder = ap id_of same ∙ id_of_fields entry.value before has ∙ number in
      ⊎_elim
      (λ (two : id_of above.0 ≡ 2). omega (arith, two, above.3, given, sound.blocks.header.next_id))
      (λ (high : (16 ≤ id_of above.0) × (id_of above.0 < (volume_of content).head.next_catalog_id)). omega (arith, high.1, above.3, given))
      low

  module _ (fork : ForkRecord) (full : List Pair) (added : AddsEntry (link_entry folder name (volume_of content).head.next_catalog_id (volume_of content).head.modify_date fork) (volume_of content).catalog_pairs full) where
    pub link_threads : AreThreaded full
    link_threads = threads_kept (link_entry folder name (volume_of content).head.next_catalog_id (volume_of content).head.modify_date fork) (volume_of content).catalog_pairs full added refl has_name sound.entries.threads

    pub link_folder : (volume_of content).head.next_catalog_id + 1 < 2 ^ 32 → HasFolder folder 1 full
    link_folder fits =
        let low = counts_low (volume_of content).head.next_catalog_id (entries_of (records_of (volume_of content))) sound.blocks.header.next_id sound.entries.ids (λ (p : Placed). p.parent == id_of above.0) in
        let valence = each_of (λ (p : Placed). is_folder p.value ≡ true → valence_in p.value ≡ count_in (entries_of (records_of (volume_of content))) (id_of p)) (entries_of (records_of (volume_of content))) sound.entries.counts.valences above.0 above.1 above.2 in
        record {
          entry = above.0;
          stands = entry_still (link_entry folder name (volume_of content).head.next_catalog_id (volume_of content).head.modify_date fork) (volume_of content).catalog_pairs full added above.0 above.1;
          number = above.3;
          folder = above.2;
          fits = omega (arith, valence, low, fits);
        }
