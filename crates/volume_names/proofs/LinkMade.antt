-- `ln` of a file that has links: behind the new link, the file's count and the folder's the volume is settled again, and its tree is the step's.
use Rattle.std.proofs.Common.{◌≡◌, inr, ◌<◌, ℕ, ◌+◌, ◌^◌, Bool, true, false, List, refl, sym, ◌∙◌, ap, subst, arith}
use Rattle.std.specs.Prelude.{Contains, ◌==◌, None, Ok, if◌then◌else◌}
use Rattle.std.specs.Str.{bytes_eq}
use Rattle.std.proofs.lemmas.Bool.{and_parts, eqb-true, true≢false}
use Rattle.std.proofs.lemmas.Slice.Eq.{bytes_eq-Decides}
use Rattle.sector_disk.specs.Lists.{Content}
use Rattle.sector_disk.specs.Space.{Space}
use Rattle.jnl_format.specs.Recovery.{header_of_volume}
use Rattle.btree_node.specs.Keys.{IsCatalogKey}
use Rattle.btree_node.specs.Levels.{Pair}
use Rattle.btree_node.specs.TreeFile.{store_of}
use Rattle.btree_file.specs.Held.{file_in}
use Rattle.btree_file.specs.State.{sectors_of_tree}
use Rattle.hx_bytes.specs.Field.{number_at}
use Rattle.cat_records.specs.declared.record.CatRecord.{CatRecord}
use Rattle.cat_records.specs.declared.record.CatRecord.TheVariants.{Folder, File, Thread}
use Rattle.hard_links.specs.Linking.{link_record}
use Rattle.hfs_language.specs.declared.command.Command.TheVariants as command
use Rattle.hfs_model.specs.Step.{journal_info_name, journal_name, private_name, step, to_ln}
use Rattle.hfs_model.specs.declared.plain.PlainEntry.{PlainEntry}
use Rattle.hfs_volume.specs.Changes.{AddsEntry, HasSameNodes, InCatalog, thread_with}
use Rattle.hfs_volume.specs.Commands.{ChangesFields, IsMarkedLinked, IsTouched, entry_in, with_made}
use Rattle.hfs_volume.specs.Content.{VolumeState, overflow_in_volume, records_of, volume_of}
use Rattle.hfs_volume.specs.Entries.{AreThreaded, LiesIn, count_in, is_it}
use Rattle.hfs_volume.specs.Laws.{IsFolderId}
use Rattle.hfs_volume.specs.Links.{IsGoodLink, private_id}
use Rattle.hfs_volume.specs.Naming.{IsLinkValue, LinksMore, LnDoes}
use Rattle.hfs_volume.specs.Records.{Placed, entries_of, id_of, is_empty, is_folder, is_link, is_placed_at, is_thread, placed_in, record_at, special_of, valence_in}
use Rattle.hfs_volume.specs.Sound.{IsSoundVolume}
use Rattle.hfs_volume.specs.TreeOf.{bytes_in, id_or_0, shared_file, tree_in, tree_of}
use Rattle.hfs_volume.proofs.Ascending.{tree_sorted}
use Rattle.hfs_volume.proofs.Bytes.{file_bytes_are}
use Rattle.hfs_volume.proofs.Flat.{found_some}
use Rattle.hfs_volume.proofs.Members.{each_of}
use Rattle.hfs_volume.proofs.Named.{IsPair, IsSeenName, named_entry, to_ln_is}
use Rattle.hfs_volume.proofs.Seeing.{private_kept}
use Rattle.hfs_volume.proofs.Sharing.{IsShared, shared_found, shared_is}
use Rattle.hfs_volume.proofs.Sides.{is_entry_of}
use Rattle.hfs_volume.proofs.Threading.{threads_kept}
use Rattle.volume_header.specs.declared.header.VolumeHeader.{VolumeHeader}
use Rattle.volume_base.specs.Changing.{ChangesCatalog, HasFolder, TouchesFolder}
use Rattle.volume_names.specs.Linking.{AddsName, CountsUp, LinksAgain}
use Rattle.volume_base.specs.Linking.{IsLinkTo, IsLinking}
use Rattle.volume_base.specs.Lists.{lists_of, facts_on}
use Rattle.volume_base.specs.Making.{free_place}
use Rattle.volume_base.specs.Standing.{IsSettled, IsStanding}
use Rattle.volume_names.specs.Unlinking.{HasShared}
use Rattle.volume_base.specs.declared.volume.Volume.{Volume}
use Rattle.volume_names.proofs.Carried.{fields_carry, fields_private, then_fields, threads_changed}
use Rattle.volume_base.proofs.Counted.{counts_low}
use Rattle.volume_base.proofs.ListsAfter.{changes_both}
use Rattle.volume_base.proofs.ListsAgain.{lists_again}
use Rattle.volume_names.proofs.Made.{entry_still, free_before, placed_adds, third_false}
use Rattle.volume_base.proofs.Rising.{settled_sorted}
use Rattle.volume_base.proofs.Settling.{lists_then, settles_again, tree_again}

-- a link is no thread
link_no_thread : (p : Placed) → is_link p ≡ true → is_thread p.value ≡ false
link_no_thread p link = by p.value refl
  where
    by : (value : CatRecord) → p.value ≡ value → is_thread value ≡ false
    by (Folder folder) is = refl
    by (File file) is = refl
    by (Thread thread) is = absurd (true≢false (sym link ∙ ap (λ (v : CatRecord). is_link (record p { value = v })) is))

-- the record of a link is one as links are
pub link_value : (next id reference number created : ℕ) → next ≡ id → number ≡ reference → IsLinkValue id number (File (link_record next reference created))
unfolding number_at
link_value next id reference number created same numbered = (same, refl, sym numbered, record { size = refl; blocks = refl; extents = refl }, record { size = refl; blocks = refl; extents = refl })

module _ (v : Volume) (a : Space) (settled : IsSettled v a.content) (was : IsStanding v a) (from to : List (List ℕ)) (at : PlainEntry) (parent : ℕ) (old : List ℕ) (id folder : ℕ) (name : List ℕ)
    (linking : IsLinking (tree_of a.content) from to at parent old id folder name)
  where
    pub pairs_are : (volume_of a.content).catalog_pairs ≡ (lists_of v a.content).catalog_pairs
    pairs_are = ap (λ (l : VolumeState). l.catalog_pairs) settled.lists

    pub head_is : (volume_of a.content).head ≡ v.header
    head_is = ap (λ (l : VolumeState). l.head) settled.lists

    pub allowed : to_ln (tree_in (volume_of a.content) (bytes_in a.content)) from to ≡ Ok (at, free_place folder name)
    unfolding tree_of
    allowed = linking.allowed

    pub pair : IsPair (volume_of a.content) (bytes_in a.content) settled.sound from to at (free_place folder name) × (at.folder ≡ false)
    pair = to_ln_is (volume_of a.content) (bytes_in a.content) settled.sound from to at (free_place folder name) allowed linking.goal_not_own

    pub above : IsFolderId (entries_of (records_of (volume_of a.content))) folder
    above = pair.0.folder.folder

    pub has_name : is_empty name ≡ false
    has_name = ap is_empty (sym pair.0.name) ∙ linking.goal_named

    -- nothing stands at the place
    pub vacant : record_at (placed_in (lists_of v a.content).catalog_pairs) folder name ≡ None
    vacant = free_before v a settled folder name (record { path = to; not_own = linking.goal_not_own; named = linking.goal_named; allowed = linking.can_make })

    -- the folder counts fewer entries than there are CNIDs
    pub above_low : v.header.next_catalog_id + 1 < 2 ^ 32 → valence_in above.0.value + 1 < 2 ^ 32
    above_low fits =
        let low = counts_low (volume_of a.content).head.next_catalog_id (entries_of (records_of (volume_of a.content))) settled.sound.blocks.header.next_id settled.sound.entries.ids (λ (p : Placed). p.parent == id_of above.0) in
        let valence = each_of (λ (p : Placed). is_folder p.value ≡ true → valence_in p.value ≡ count_in (entries_of (records_of (volume_of a.content))) (id_of p)) (entries_of (records_of (volume_of a.content))) settled.sound.entries.counts.valences
        above.0 above.1 above.2 in
        omega (arith, valence, low, ap (λ (h : VolumeHeader). h.next_catalog_id) head_is, fits)

    module _ (reference : ℕ) (link : IsLinkTo parent old reference (lists_of v a.content).catalog_pairs) where
      there : Contains (records_of (volume_of a.content)) link.entry × (is_placed_at parent old link.entry ≡ true)
      there = found_some (is_placed_at parent old) (records_of (volume_of a.content)) link.entry (ap (λ (l : List Pair). record_at (placed_in l) parent old) pairs_are ∙ link.found)

      pub parent_is : link.entry.parent ≡ parent
      parent_is = eqb-true link.entry.parent parent (and_parts (link.entry.parent == parent) (bytes_eq link.entry.name old) there.1).0

      pub name_is : link.entry.name ≡ old
      name_is = (bytes_eq-Decides link.entry.name old).0 (and_parts (link.entry.parent == parent) (bytes_eq link.entry.name old) there.1).1

      named : is_empty link.entry.name ≡ false
      named =
          sym (each_of (λ (p : Placed). is_thread p.value ≡ is_empty p.name) (records_of (volume_of a.content)) settled.sound.entries.threads.kinds link.entry there.0)
          ∙ link_no_thread link.entry link.is_one

      pub entry_stands : Contains (entries_of (records_of (volume_of a.content))) link.entry
      entry_stands = is_entry_of (records_of (volume_of a.content)) link.entry there.0 named

      -- ---- the file

      pub good : IsGoodLink (records_of (volume_of a.content)) (overflow_in_volume (volume_of a.content)) link.entry
      good = settled.sound.links.good.links link.entry entry_stands link.is_one

      pub shared : IsShared (private_id (records_of (volume_of a.content))) (special_of link.entry) good.node.0
      shared = shared_is (private_id (records_of (volume_of a.content))) (special_of link.entry) good.node.0 good.node.2

      it : IsSeenName (volume_of a.content) (bytes_in a.content) settled.sound at link.entry
      it = named_entry (volume_of a.content) (bytes_in a.content) settled.sound at link.entry (settled_sorted v a.content was.trees settled) pair.0.seen entry_stands (parent_is ∙ sym linking.place.0) (name_is ∙ sym linking.place.1)

      pub file_id : id_of good.node.0 ≡ id
      file_id =
          sym (ap id_or_0 (shared_found (records_of (volume_of a.content)) (settled_sorted v a.content was.trees settled) (special_of link.entry) good.node.0 good.node.1 good.node.2))
          ∙ sym (ap (λ b. if b then id_or_0 (shared_file (records_of (volume_of a.content)) (special_of link.entry)) else id_of link.entry) link.is_one)
          ∙ ap (λ (e : PlainEntry). e.id) it.plain ∙ linking.number

      inside : LiesIn (entries_of (records_of (volume_of a.content))) shared.folder good.node.0.parent
      inside = subst (λ n. LiesIn (entries_of (records_of (volume_of a.content))) shared.folder n) (sym shared.parent) is_it

      file_plain : is_link good.node.0 ≡ false
      file_plain = by (is_link good.node.0) refl
        where
          by : (t : Bool) → is_link good.node.0 ≡ t → t ≡ false
          by false is = refl
          by true is = absurd ((settled.sound.links.good.links good.node.0 good.node.1 is).outside (shared.folder, shared.private_is, inside))

      module _ (created : ℕ) (w : Volume) (b : Space) (adds : AddsName folder name reference created v w a.content b.content) where
        abbrev new_entry : Placed
        new_entry = entry_in (free_place folder name) (File (link_record v.header.next_catalog_id reference created))

        pub added_entry : AddsEntry (entry_in (free_place folder name) (File (link_record v.header.next_catalog_id reference created))) (volume_of a.content).catalog_pairs (lists_of w b.content).catalog_pairs
        added_entry = subst (λ (l : List Pair). AddsEntry (entry_in (free_place folder name) (File (link_record v.header.next_catalog_id reference created))) l (lists_of w b.content).catalog_pairs) (sym pairs_are) adds.adds

        -- behind it, records and threads match one to one
        pub threads_added : AreThreaded (lists_of w b.content).catalog_pairs
        threads_added = threads_kept new_entry (volume_of a.content).catalog_pairs (lists_of w b.content).catalog_pairs added_entry refl has_name settled.sound.entries.threads

        pub shared_added : HasShared id (lists_of w b.content).catalog_pairs
        shared_added = record {
          entry = good.node.0;
          stands = entry_still new_entry (volume_of a.content).catalog_pairs (lists_of w b.content).catalog_pairs added_entry good.node.0 good.node.1;
          number = file_id;
          file = shared.file;
          not_link = file_plain;
        }

        -- the new entry isn't the private folder
        private_added : private_id (placed_in (lists_of w b.content).catalog_pairs) ≡ private_id (placed_in (volume_of a.content).catalog_pairs)
        private_added =
            private_kept new_entry (placed_in (volume_of a.content).catalog_pairs) (placed_in added_entry.between) (placed_in (lists_of w b.content).catalog_pairs)
            (placed_adds new_entry added_entry.pair (volume_of a.content).catalog_pairs added_entry.between added_entry.entry_added added_entry.is_entry.stands)
            (placed_adds (thread_with added_entry.spare new_entry) added_entry.thread added_entry.between (lists_of w b.content).catalog_pairs added_entry.thread_added added_entry.is_thread.stands)
            (third_false (folder == 2) (bytes_eq name journal_name) (bytes_eq name journal_info_name) (bytes_eq name private_name) pair.0.not_own)

        module _ (x : Volume) (c : Content) (counts : CountsUp id w x b.content c) where
          pub threads_counted : AreThreaded (lists_of x c).catalog_pairs
          threads_counted = threads_changed id (lists_of w b.content) (lists_of x c) counts.marks threads_added

          pub above_after : v.header.next_catalog_id + 1 < 2 ^ 32 → HasFolder folder 1 (lists_of x c).catalog_pairs
          above_after fits =
              let carried = fields_carry id (lists_of w b.content) (lists_of x c) counts.marks threads_added 0 (omega (arith, counts.marks.fields.marked.count)) above.0
              (entry_still new_entry (volume_of a.content).catalog_pairs (lists_of w b.content).catalog_pairs added_entry above.0 above.1) in
              record {
                entry = carried.0;
                stands = carried.1;
                number = carried.2.id ∙ above.3;
                folder = carried.2.folder ∙ above.2;
                fits = omega (arith, carried.2.count, above_low fits);
              }

          -- ---- the law

          module _ (u : Volume) (e : Space) (gains : TouchesFolder folder 1 0 x u c e.content) (stands_w : IsStanding w b) (stands_u : IsStanding u e) (law : LnDoes) where
            header_x : x.header ≡ w.header
            header_x = ap (λ (z : Volume). z.header) counts.rest

            header_u : u.header ≡ w.header
            header_u = ap (λ (z : Volume). z.header) gains.rest ∙ header_x

            moment : w.header.modify_date ≡ (volume_of a.content).head.modify_date
            moment = ap (λ (h : VolumeHeader). h.modify_date) adds.header ∙ sym (ap (λ (h : VolumeHeader). h.modify_date) head_is)

            nodes : HasSameNodes (volume_of a.content).catalog_tree (facts_on w.catalog.file)
            nodes = record {
              total = adds.changes.nodes.0 ∙ sym (ap (λ (l : VolumeState). l.catalog_tree.shape.total) settled.lists);
              size = adds.changes.nodes.1 ∙ sym (ap (λ (l : VolumeState). l.catalog_tree.shape.node_size) settled.lists);
            }

            in_catalog : InCatalog (AddsEntry new_entry) (record (volume_of a.content) { head = with_made false (volume_of a.content).head }) (lists_then a.content w b.content)
            in_catalog = record {
              changes = added_entry;
              nodes = nodes;
              rest =
                  (λ i. record (adds.changes.lists i) { attributes_tree = (volume_of a.content).attributes_tree })
                  ∙ sym (λ i. record (settled.lists i) { head = w.header; catalog_pairs = (lists_of w b.content).catalog_pairs; catalog_tree = facts_on w.catalog.file })
                  ∙ (λ i. record (volume_of a.content) { head = (adds.header ∙ ap (with_made false) (sym head_is)) i; catalog_pairs = (lists_of w b.content).catalog_pairs; catalog_tree = facts_on w.catalog.file });
            }

            marked_then : ChangesFields id (IsMarkedLinked w.header.modify_date counts.links) (lists_then a.content w b.content) (lists_then a.content x c)
            marked_then = record {
              entry = counts.marks.entry;
              before = counts.marks.before;
              after = counts.marks.after;
              has = counts.marks.has;
              is_entry = counts.marks.is_entry;
              fields = counts.marks.fields;
              changes = record {
                changes = counts.marks.changes.changes;
                nodes = counts.marks.changes.nodes;
                rest = λ i. record (counts.marks.changes.rest i) { attributes_tree = (volume_of a.content).attributes_tree };
              };
            }

            marks_at : (does : ChangesFields at.id (IsMarkedLinked (volume_of a.content).head.modify_date counts.links) (lists_then a.content w b.content) (lists_then a.content x c)) × (counts.links ≡ does.before.special + 1)
            unfolding marked_then
            marks_at =
                subst (λ (k : ℕ × ℕ). (does : ChangesFields k.0 (IsMarkedLinked k.1 counts.links) (lists_then a.content w b.content) (lists_then a.content x c)) × (counts.links ≡ does.before.special + 1))
                {x = (id, w.header.modify_date)} {y = (at.id, (volume_of a.content).head.modify_date)} (λ i. (sym linking.number i, moment i)) (marked_then, counts.one_more)

            gains_at : ChangesFields folder (IsTouched (volume_of a.content).head.modify_date 1 0) (lists_then a.content x c) (lists_then a.content u e.content)
            gains_at =
                subst (λ n. ChangesFields folder (IsTouched n 1 0) (lists_then a.content x c) (lists_then a.content u e.content)) (ap (λ (h : VolumeHeader). h.modify_date) header_x ∙ moment)
                (then_fields (volume_of a.content).attributes_tree folder (lists_of x c) (lists_of u e.content) gains.counts)

            links_more : LinksMore at (free_place folder name) (volume_of a.content) (lists_then a.content u e.content)
            links_more = record {
              sorted = settled_sorted v a.content was.trees settled;
              entry = link.entry;
              is_entry = record { stands = entry_stands; place = (parent_is ∙ sym linking.place.0, name_is ∙ sym linking.place.1) };
              is_one = link.is_one;
              new_link = File (link_record v.header.next_catalog_id reference created);
              is_new_link = link_value v.header.next_catalog_id (volume_of a.content).head.next_catalog_id reference (special_of link.entry) created (sym (ap (λ (h : VolumeHeader). h.next_catalog_id) head_is)) link.number;
              linked = lists_then a.content w b.content;
              links = in_catalog;
              sorted_linked = tree_sorted IsCatalogKey (store_of (file_in (sectors_of_tree w.catalog.file) b.content)) stands_w.trees.catalog.file.rules;
              count = counts.links;
              marked = lists_then a.content x c;
              marks = marks_at.0;
              one_more = marks_at.1;
              gains = gains_at;
            }

            does : IsSoundVolume (lists_then a.content u e.content) × (tree_in (lists_then a.content u e.content) (bytes_in a.content) ≡ (step (tree_in (volume_of a.content) (bytes_in a.content)) (command.Ln from to)).1)
            does = law from to at (free_place folder name) (volume_of a.content) (lists_then a.content u e.content) (bytes_in a.content) (file_bytes_are a.content) settled.sound linking.goal_not_own linking.goal_named allowed (inr links_more)

            changes : ChangesCatalog v u a.content e.content
            changes = changes_both v x u a.content c e.content (changes_both v w x a.content b.content c adds.changes counts.changes) gains.changes

            headed : header_of_volume e.content ≡ u.header
            headed = gains.headed ∙ counts.headed ∙ adds.headed ∙ sym header_u

            private_same : private_id (placed_in (lists_of u e.content).catalog_pairs) ≡ private_id (placed_in (lists_of v a.content).catalog_pairs)
            private_same =
                fields_private folder (lists_of x c) (lists_of u e.content) gains.counts threads_counted
                ∙ fields_private id (lists_of w b.content) (lists_of x c) counts.marks threads_added
                ∙ private_added
                ∙ ap (λ (l : List Pair). private_id (placed_in l)) pairs_are

            settled_now : IsSettled u e.content
            settled_now = settles_again v u a e changes settled was stands_u headed does.0 private_same

            pub linked_does : IsSettled u e.content × (tree_of e.content ≡ (step (tree_of a.content) (command.Ln from to)).1) × LinksAgain at (free_place folder name) a.content e.content
            unfolding tree_of
            linked_does = (
              settled_now,
              tree_again v u a e changes settled was stands_u headed does.0 ∙ does.1,
              record { links = subst (λ (l : VolumeState). LinksMore at (free_place folder name) (volume_of a.content) l) (sym (lists_again v u a e changes settled was settled_now)) links_more },
            )
