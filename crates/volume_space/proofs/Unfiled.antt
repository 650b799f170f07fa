-- Where the entry of a file that waited was removed and the private folder counts it no more, the volume is settled again, and its tree is as
-- it was.
use Rattle.std.proofs.Common.{◌≡◌, ◌⊎◌, ◌<◌, ◌≤◌, ℕ, ◌+◌, ◌-◌, ◌^◌, Bool, true, false, List, [], ◌∷◌, inl, inr, refl, sym, ◌∙◌, ap, subst, arith}
use Rattle.std.specs.Prelude.{Contains, ◌==◌, ◌&&◌, not, None, Option, Some}
use Rattle.std.proofs.lemmas.Bool.{true≢false}
use Rattle.std.proofs.lemmas.List.Elements.{Contains-append_right}
use Rattle.sector_disk.specs.Space.{Space}
use Rattle.jnl_format.specs.Recovery.{header_of_volume}
use Rattle.btree_node.specs.Levels.{Pair}
use Rattle.cat_records.specs.declared.record.CatRecord.{CatRecord}
use Rattle.cat_records.specs.declared.record.FileRecord.{FileRecord}
use Rattle.volume_header.specs.declared.header.VolumeHeader.{VolumeHeader}
use Rattle.hfs_volume.specs.Changes.{AreSorted, DropsEntry, HasSameNodes, InCatalog}
use Rattle.hfs_volume.specs.Commands.{ChangesFields, IsRecounted, with_fields}
use Rattle.hfs_volume.specs.Content.{VolumeState, records_of, volume_of}
use Rattle.hfs_volume.specs.Entries.{AreThreaded, count_in}
use Rattle.hfs_volume.specs.Laws.{HeaderChanged, IsFolderId, IsShaped, MayDrop, SoundIsBoth}
use Rattle.hfs_volume.specs.Links.{is_orphan, private_id}
use Rattle.hfs_volume.specs.Naming.{one_file_less}
use Rattle.hfs_volume.specs.Reclaim.{Does, DropOrphan}
use Rattle.hfs_volume.specs.Reclaiming.{DropsOrphanEntry, OrphanDropped}
use Rattle.hfs_volume.specs.Records.{Placed, entries_of, id_of, is_empty, is_folder, is_thread, placed_in, record_at, special_of, valence_in}
use Rattle.hfs_volume.specs.Sound.{IsSoundVolume}
use Rattle.hfs_volume.specs.TreeOf.{bytes_in, tree_in, tree_of}
use Rattle.hfs_volume.proofs.Bytes.{file_bytes_are}
use Rattle.hfs_volume.proofs.Fields.{not_thread}
use Rattle.hfs_volume.proofs.Flat.{none_or_some, some_same}
use Rattle.hfs_volume.proofs.Making.{placed_splits}
use Rattle.hfs_volume.proofs.Members.{at_front, each_of, kept_cases}
use Rattle.hfs_volume.proofs.Removing.{removed_private, removed_shaped, removed_side}
use Rattle.hfs_volume.proofs.Sides.{OneMore, entry_cases, entry_is_record}
use Rattle.hfs_volume.proofs.Swapping.{Splits, private_same}
use Rattle.volume_base.specs.Changing.{ChangesCatalog, HasFolder, TouchesFolder}
use Rattle.volume_base.specs.Lists.{facts_on, lists_of}
use Rattle.volume_space.specs.Orphans.{DropsFile, DropsWaiting, IsToDrop}
use Rattle.volume_base.specs.Orphans.{with_file_removed}
use Rattle.volume_base.specs.Standing.{IsSettled, IsStanding}
use Rattle.volume_base.specs.declared.entries.Entry.{Entry}
use Rattle.volume_base.specs.declared.volume.Volume.{Volume}
use Rattle.volume_base.proofs.Counted.{counts_low}
use Rattle.volume_base.proofs.Entered.{at_place}
use Rattle.volume_base.proofs.ListsAfter.{changes_both}
use Rattle.volume_base.proofs.ListsAgain.{lists_again}
use Rattle.volume_space.proofs.OrphanFacts.{folder_above, high, no_entries, no_folder, not_own, not_shared, stands}
use Rattle.volume_base.proofs.Rising.{settled_sorted}
use Rattle.volume_base.proofs.Settling.{lists_then, settles_again, tree_again}

module _ (v : Volume) (a : Space) (was : IsStanding v a) (settled : IsSettled v a.content) (shrunk : Option ℕ) (entry : Entry) (drop : IsToDrop shrunk a.content entry) where
  abbrev old : VolumeState
  old = volume_of a.content

  abbrev e : Placed
  e = drop.bare.entry

  pairs_are : (volume_of a.content).catalog_pairs ≡ (lists_of v a.content).catalog_pairs
  pairs_are = ap (λ (l : VolumeState). l.catalog_pairs) settled.lists

  head_is : (volume_of a.content).head ≡ v.header
  head_is = ap (λ (l : VolumeState). l.head) settled.lists

  sorted : AreSorted (volume_of a.content).catalog_pairs
  sorted = settled_sorted v a.content was.trees settled

  there : Contains (entries_of (records_of (volume_of a.content))) drop.bare.entry
  there = (kept_cases (is_orphan (records_of (volume_of a.content))) (entries_of (records_of (volume_of a.content))) drop.bare.entry drop.bare.is_orphan).0

  -- the entry stands under its key
  found_there : record_at (placed_in (lists_of v a.content).catalog_pairs) entry.parent entry.name ≡ Some drop.bare.entry
  found_there =
      (λ i. record_at (placed_in (sym pairs_are i)) (drop.parent i) (drop.name i))
      ∙ at_place (volume_of a.content).catalog_pairs settled.sound.entries.threads sorted drop.bare.entry (entry_is_record (records_of (volume_of a.content)) drop.bare.entry there)

  pub stands_under : record_at (placed_in (lists_of v a.content).catalog_pairs) entry.parent entry.name ≡ None → ⊥
  stands_under none = none_or_some drop.bare.entry (sym none ∙ found_there)

  -- ---- behind the header

  module _ (halves : (volume : VolumeState) → SoundIsBoth volume) (heads : HeaderChanged) where
    shaped : IsShaped (volume_of a.content)
    shaped = ((halves (volume_of a.content)).0 settled.sound).0

    shaped_begun : IsShaped (one_file_less (volume_of a.content))
    shaped_begun =
        (heads (volume_of a.content) (one_file_less (volume_of a.content)) (record { numbers = refl; next = omega arith }, refl) (record { accepted = settled.sound.blocks.header.accepted; next_id = settled.sound.blocks.header.next_id }) shaped).0

    may : MayDrop drop.bare.entry (one_file_less (volume_of a.content))
    may = record {
      stands = there;
      high = high (volume_of a.content) shaped drop.bare.entry drop.bare.is_orphan;
      not_own = not_own (volume_of a.content) shaped drop.bare.entry drop.bare.is_orphan;
      no_entries = no_entries (volume_of a.content) shaped drop.bare.entry drop.bare.is_orphan;
      no_attributes = λ pair has same. drop.bare.no_attributes pair has (same ∙ drop.bare.is_entry);
      empty = drop.bare.no_blocks;
      no_links = λ link has is_one shared. true≢false (sym shared ∙ not_shared (volume_of a.content) shaped drop.bare.entry drop.bare.is_orphan (special_of link));
    }

    -- ---- behind the removal

    module _ (w : Volume) (b : Space) (drops : DropsFile entry.parent entry.name v w a.content b.content) where
      same_entry : drops.removes.entry ≡ drop.bare.entry
      same_entry = some_same drops.removes.entry drop.bare.entry (sym drops.removes.found ∙ found_there)

      dropped_entry : DropsEntry drop.bare.entry (volume_of a.content).catalog_pairs (lists_of w b.content).catalog_pairs
      dropped_entry = subst (λ (k : Placed × List Pair). DropsEntry k.0 k.1 (lists_of w b.content).catalog_pairs) {x = (drops.removes.entry, (lists_of v a.content).catalog_pairs)} {y = (drop.bare.entry, (volume_of a.content).catalog_pairs)} (λ i. (same_entry i, sym pairs_are i)) drops.removes.drops

      nodes : HasSameNodes (volume_of a.content).catalog_tree (facts_on w.catalog.file)
      nodes = record {
        total = drops.changes.nodes.0 ∙ sym (ap (λ (l : VolumeState). l.catalog_tree.shape.total) settled.lists);
        size = drops.changes.nodes.1 ∙ sym (ap (λ (l : VolumeState). l.catalog_tree.shape.node_size) settled.lists);
      }

      dropped_is : lists_then a.content w b.content ≡ record (volume_of a.content) { head = with_file_removed (volume_of a.content).head; catalog_pairs = (lists_of w b.content).catalog_pairs; catalog_tree = facts_on w.catalog.file }
      dropped_is =
          (λ i. record (drops.changes.lists i) { attributes_tree = (volume_of a.content).attributes_tree })
          ∙ sym (λ i. record (settled.lists i) { head = w.header; catalog_pairs = (lists_of w b.content).catalog_pairs; catalog_tree = facts_on w.catalog.file })
          ∙ (λ i. record (volume_of a.content) { head = (drops.header ∙ ap with_file_removed (sym head_is)) i; catalog_pairs = (lists_of w b.content).catalog_pairs; catalog_tree = facts_on w.catalog.file })

      in_catalog : InCatalog (DropsEntry drop.bare.entry) (one_file_less (volume_of a.content)) (lists_then a.content w b.content)
      in_catalog = record { changes = dropped_entry; nodes = nodes; rest = dropped_is }

      shaped_dropped : IsShaped (lists_then a.content w b.content)
      shaped_dropped = removed_shaped drop.bare.entry (one_file_less (volume_of a.content)) (lists_then a.content w b.content) in_catalog sorted may shaped_begun

      -- records and threads match one to one
      pub threads_unfiled : AreThreaded (lists_of w b.content).catalog_pairs
      threads_unfiled = shaped_dropped.threads

      side : OneMore drop.bare.entry (placed_in (lists_of w b.content).catalog_pairs) (records_of (volume_of a.content))
      side = removed_side drop.bare.entry (one_file_less (volume_of a.content)) (lists_then a.content w b.content) in_catalog sorted may shaped_begun

      folder : IsFolderId (entries_of (records_of (volume_of a.content))) drop.bare.entry.parent
      folder = folder_above (volume_of a.content) shaped drop.bare.entry drop.bare.is_orphan

      folder_left : Contains (entries_of (placed_in (lists_of w b.content).catalog_pairs)) folder.0
      folder_left = elim (entry_cases side folder.0 folder.1) [
        | inl same ↦ absurd (true≢false (sym folder.2 ∙ ap (λ (p : Placed). is_folder p.value) same ∙ no_folder (volume_of a.content) shaped drop.bare.entry drop.bare.is_orphan))
        | inr left ↦ left
      ]

      -- and the private folder is there
      pub folder_unfiled : v.header.next_catalog_id < 2 ^ 32 → HasFolder entry.parent 0 (lists_of w b.content).catalog_pairs
      folder_unfiled fits =
          let next = ap (λ (h : VolumeHeader). h.next_catalog_id) head_is in
          let low = counts_low (volume_of a.content).head.next_catalog_id (entries_of (records_of (volume_of a.content))) settled.sound.blocks.header.next_id settled.sound.entries.ids (λ (p : Placed). p.parent == id_of folder.0) in
          let valence = each_of (λ (p : Placed). is_folder p.value ≡ true → valence_in p.value ≡ count_in (entries_of (records_of (volume_of a.content))) (id_of p)) (entries_of (records_of (volume_of a.content))) settled.sound.entries.counts.valences folder.0 folder.1 folder.2 in
          record {
            entry = folder.0;
            stands = folder_left;
            number = folder.3 ∙ sym drop.parent;
            folder = folder.2;
            fits = omega (arith, valence, low, next, fits);
          }

      -- ---- behind the folder's count

      module _ (u : Volume) (c : Space) (later : IsStanding u c) (t : TouchesFolder entry.parent 0 1 w u b.content c.content) (law : OrphanDropped) where
        loses : ChangesFields drop.bare.entry.parent (IsRecounted 0 1) (lists_then a.content w b.content) (lists_then a.content u c.content)
        loses = record {
          entry = t.counts.entry;
          before = t.counts.before;
          after = t.counts.after;
          has = t.counts.has;
          is_entry = t.counts.is_entry ∙ drop.parent;
          fields = record { id = t.counts.fields.id; count = t.counts.fields.count };
          changes = record {
            changes = t.counts.changes.changes;
            nodes = t.counts.changes.nodes;
            rest = λ i. record (t.counts.changes.rest i) { attributes_tree = (volume_of a.content).attributes_tree };
          };
        }

        abbrev drops_then : DropsOrphanEntry drop.id (volume_of a.content) (lists_then a.content u c.content)
        drops_then = record {
          sorted = sorted;
          entry = drop.bare.entry;
          is_orphan = drop.bare.is_orphan;
          is_entry = drop.bare.is_entry;
          no_blocks = drop.bare.no_blocks;
          no_attributes = drop.bare.no_attributes;
          dropped = lists_then a.content w b.content;
          drops = in_catalog;
          loses = loses;
        }

        does : IsSoundVolume (lists_then a.content u c.content) × (tree_in (lists_then a.content u c.content) (bytes_in a.content) ≡ tree_in (volume_of a.content) (bytes_in a.content)) × Does (DropOrphan drop.id) (volume_of a.content) (lists_then a.content u c.content)
        does = law drop.id (volume_of a.content) (lists_then a.content u c.content) (bytes_in a.content) (file_bytes_are a.content) settled.sound drops_then

        changes : ChangesCatalog v u a.content c.content
        changes = changes_both v w u a.content b.content c.content drops.changes t.changes

        headed : header_of_volume c.content ≡ u.header
        headed = t.headed ∙ drops.headed ∙ sym (ap (λ (x : Volume). x.header) t.rest)

        abbrev value : CatRecord
        value = with_fields (λ _. t.counts.after) t.counts.entry.value

        abbrev parts : Splits t.counts.entry (record t.counts.entry { value = value }) (placed_in (lists_of w b.content).catalog_pairs) (placed_in (lists_of u c.content).catalog_pairs)
        parts = placed_splits t.counts.entry value (lists_of w b.content).catalog_pairs (lists_of u c.content).catalog_pairs t.counts.changes.changes

        above_there : Contains (placed_in (lists_of w b.content).catalog_pairs) t.counts.entry
        above_there = subst (λ l. Contains l t.counts.entry) (sym parts.was) (Contains-append_right parts.front (t.counts.entry ∷ parts.back) t.counts.entry (at_front t.counts.entry parts.back))

        above_named : is_empty t.counts.entry.name ≡ false
        above_named =
            sym (each_of (λ (p : Placed). is_thread p.value ≡ is_empty p.name) (placed_in (lists_of w b.content).catalog_pairs) threads_unfiled.kinds t.counts.entry above_there)
            ∙ not_thread t.counts.entry.value t.counts.before t.counts.has

        private : private_id (placed_in (lists_of u c.content).catalog_pairs) ≡ private_id (placed_in (lists_of v a.content).catalog_pairs)
        private =
            ap private_id parts.is ∙ private_same t.counts.entry value parts.front parts.back above_named t.counts.changes.changes.alike ∙ sym (ap private_id parts.was)
            ∙ removed_private drop.bare.entry (one_file_less (volume_of a.content)) (lists_then a.content w b.content) in_catalog sorted may shaped_begun ∙ ap (λ (l : List Pair). private_id (placed_in l)) pairs_are

        settled_then : IsSettled u c.content
        settled_then = settles_again v u a c changes settled was later headed does.0 private

        again : volume_of c.content ≡ lists_then a.content u c.content
        again = lists_again v u a c changes settled was settled_then

        tree_same : tree_of c.content ≡ tree_of a.content
        unfolding tree_of
        tree_same = tree_again v u a c changes settled was later headed does.0 ∙ does.1

        pub unfiled : IsSettled u c.content × DropsWaiting shrunk a.content c.content
        unfiled = (
          settled_then,
          record {
            id = drop.id;
            next = drop.next;
            drops = subst (λ (l : VolumeState). DropsOrphanEntry drop.id (volume_of a.content) l) (sym again) drops_then;
            does = subst (λ (l : VolumeState). Does (DropOrphan drop.id) (volume_of a.content) l) (sym again) does.2;
            tree = tree_same;
          },
        )
