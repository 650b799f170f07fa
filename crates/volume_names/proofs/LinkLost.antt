-- `rm` of a link, where its file has others: behind the removal, the file's count and the folder's the volume is settled again, and its tree is
-- the step's.
use Rattle.std.proofs.Common.{◌≡◌, inl, inr, ◌<◌, ℕ, ◌+◌, ◌^◌, Bool, true, false, List, [], ◌∷◌, refl, sym, ◌∙◌, ap, subst, arith, ⊎_elim}
use Rattle.std.specs.Prelude.{Contains, ◌==◌, ◌&&◌, Ok, if◌then◌else◌}
use Rattle.std.specs.Str.{bytes_eq}
use Rattle.std.proofs.lemmas.Bool.{and_parts, eqb-true, true≢false}
use Rattle.std.proofs.lemmas.Slice.Eq.{bytes_eq-Decides}
use Rattle.sector_disk.specs.Lists.{Content}
use Rattle.sector_disk.specs.Space.{Space}
use Rattle.jnl_format.specs.Recovery.{header_of_volume}
use Rattle.btree_node.specs.Levels.{Pair}
use Rattle.cat_records.specs.declared.record.CatRecord.{CatRecord}
use Rattle.cat_records.specs.declared.record.CatRecord.TheVariants.{Folder, File, Thread}
use Rattle.hard_links.specs.Linking.{NamesLink}
use Rattle.hard_links.specs.declared.place.EntryAt.{EntryAt}
use Rattle.hfs_language.specs.declared.command.Command.TheVariants as command
use Rattle.hfs_model.specs.Step.{is_private_name, is_root, journal_info_name, journal_name, private_name, reached, root_entry, step, to_rm}
use Rattle.hfs_model.specs.declared.plain.PlainEntry.{PlainEntry}
use Rattle.hfs_volume.specs.Changes.{DropsEntry, HasSameNodes, InCatalog}
use Rattle.hfs_volume.specs.Commands.{ChangesFields, IsMarkedLinked, IsTouched}
use Rattle.hfs_volume.specs.Content.{VolumeState, overflow_in_volume, records_of, volume_of}
use Rattle.hfs_volume.specs.Entries.{AreThreaded, LiesIn, count_in, is_it}
use Rattle.hfs_volume.specs.Laws.{IsFolderId, one_if}
use Rattle.hfs_volume.specs.Links.{IsGoodLink, private_id}
use Rattle.hfs_volume.specs.Naming.{RemovesLink, RmDoes, one_file_less}
use Rattle.hfs_volume.specs.Records.{Placed, entries_of, id_of, is_empty, is_folder, is_link, is_placed_at, placed_in, record_at, special_of, valence_in}
use Rattle.hfs_volume.specs.Sound.{IsSoundVolume}
use Rattle.hfs_volume.specs.TreeOf.{bytes_in, id_or_0, shared_file, tree_in, tree_of}
use Rattle.hfs_volume.proofs.Bytes.{file_bytes_are}
use Rattle.hfs_volume.proofs.Flat.{found_some, some_same}
use Rattle.hfs_volume.proofs.Hiding.{one_there}
use Rattle.hfs_volume.proofs.Making.{tree_entries}
use Rattle.hfs_volume.proofs.Members.{each_of}
use Rattle.hfs_volume.proofs.Named.{IsSeenName, named_entry}
use Rattle.hfs_volume.proofs.Reaching.{IsSeen, front_is, walked}
use Rattle.hfs_volume.proofs.Seeing.{private_kept, same_number}
use Rattle.hfs_volume.proofs.Sharing.{IsShared, shared_found, shared_is}
use Rattle.hfs_volume.proofs.Sides.{OneMore, count_more, entry_cases, is_entry_of, one_more, threads_without}
use Rattle.volume_header.specs.declared.header.VolumeHeader.{VolumeHeader}
use Rattle.volume_base.specs.Changing.{ChangesCatalog, HasFolder, TouchesFolder}
use Rattle.volume_base.specs.Lists.{lists_of, facts_on}
use Rattle.volume_base.specs.Losing.{IsLoss}
use Rattle.volume_base.specs.Orphans.{with_file_removed}
use Rattle.volume_base.specs.Standing.{IsSettled, IsStanding}
use Rattle.volume_names.specs.Unlinking.{CountsDown, DropsName, HasShared, Unlinks}
use Rattle.volume_base.specs.declared.volume.Volume.{Volume}
use Rattle.volume_names.proofs.Carried.{fields_carry, fields_private, then_fields, threads_changed}
use Rattle.volume_base.proofs.Counted.{counts_lower}
use Rattle.volume_base.proofs.ListsAfter.{changes_both}
use Rattle.volume_base.proofs.ListsAgain.{lists_again}
use Rattle.volume_names.proofs.Made.{third_false}
use Rattle.volume_base.proofs.Rising.{settled_sorted}
use Rattle.volume_base.proofs.Settling.{lists_then, settles_again, tree_again}

-- a link is no folder
link_no_folder : (p : Placed) → is_link p ≡ true → is_folder p.value ≡ false
link_no_folder p link = by p.value refl
  where
    by : (value : CatRecord) → p.value ≡ value → is_folder value ≡ false
    by (Folder folder) is = absurd (true≢false (sym link ∙ ap (λ (v : CatRecord). is_link (record p { value = v })) is))
    by (File file) is = refl
    by (Thread thread) is = refl

module _ (v : Volume) (a : Space) (settled : IsSettled v a.content) (was : IsStanding v a) (path : List (List ℕ)) (at : PlainEntry) (place : EntryAt) (loss : IsLoss (tree_of a.content) path at place)
    (link : NamesLink place (lists_of v a.content).catalog_pairs) (id : ℕ) (same_id : at.id ≡ id) (next_fits : v.header.next_catalog_id < 2 ^ 32)
  where
    pub pairs_are : (volume_of a.content).catalog_pairs ≡ (lists_of v a.content).catalog_pairs
    pairs_are = ap (λ (l : VolumeState). l.catalog_pairs) settled.lists

    pub head_is : (volume_of a.content).head ≡ v.header
    head_is = ap (λ (l : VolumeState). l.head) settled.lists

    pub allowed : to_rm (tree_in (volume_of a.content) (bytes_in a.content)) path ≡ Ok at
    unfolding tree_of
    allowed = loss.allowed

    pub from_folder : IsFolderId (entries_of (records_of (volume_of a.content))) loss.above.id
    unfolding tree_of
    from_folder =
        (front_is (records_of (volume_of a.content)) (volume_of a.content).head.next_catalog_id settled.sound.entries.ids settled.sound.entries.rooted (tree_in (volume_of a.content) (bytes_in a.content)) (tree_entries (volume_of a.content) (bytes_in a.content))
        path loss.above loss.not_root loss.not_own loss.reaches loss.above_is.0).0.folder

    pub not_own : ((place.parent == 2) && is_private_name place.name) ≡ false
    unfolding tree_of
    not_own =
        (λ i. (sym loss.above_is.1 i == 2) && is_private_name (sym loss.last i))
        ∙ (front_is (records_of (volume_of a.content)) (volume_of a.content).head.next_catalog_id settled.sound.entries.ids settled.sound.entries.rooted (tree_in (volume_of a.content) (bytes_in a.content)) (tree_entries (volume_of a.content) (bytes_in a.content))
        path loss.above loss.not_root loss.not_own loss.reaches loss.above_is.0).1

    -- what is removed is seen
    reach_seen : (steps : List (List ℕ)) → is_root steps ≡ false → reached (tree_in (volume_of a.content) (bytes_in a.content)) steps ≡ Ok at → IsSeen (records_of (volume_of a.content)) at
    reach_seen [] some is = absurd (true≢false some)
    reach_seen (name ∷ steps) some is =
        walked (records_of (volume_of a.content)) (volume_of a.content).head.next_catalog_id settled.sound.entries.ids settled.sound.entries.rooted (tree_in (volume_of a.content) (bytes_in a.content)) (tree_entries (volume_of a.content) (bytes_in a.content)) steps name root_entry at is

    pub seen : IsSeen (records_of (volume_of a.content)) at
    unfolding tree_of
    seen = reach_seen path loss.not_root loss.reaches_it

    -- each folder counts no more than there are CNIDs
    pub valence_low : (y : Placed) → Contains (entries_of (records_of (volume_of a.content))) y → is_folder y.value ≡ true → valence_in y.value < 2 ^ 32
    valence_low y stands kind =
        omega (
          arith,
          each_of (λ (p : Placed). is_folder p.value ≡ true → valence_in p.value ≡ count_in (entries_of (records_of (volume_of a.content))) (id_of p)) (entries_of (records_of (volume_of a.content))) settled.sound.entries.counts.valences y stands kind,
          counts_lower (volume_of a.content).head.next_catalog_id (entries_of (records_of (volume_of a.content))) settled.sound.blocks.header.next_id settled.sound.entries.ids (λ (p : Placed). p.parent == id_of y),
          ap (λ (h : VolumeHeader). h.next_catalog_id) head_is,
          next_fits,
        )

    module _ (w : Volume) (b : Content) (drops : DropsName place.parent place.name v w a.content b) where
      abbrev entry : Placed
      entry = drops.removes.entry

      there : Contains (records_of (volume_of a.content)) drops.removes.entry × (is_placed_at place.parent place.name drops.removes.entry ≡ true)
      there = found_some (is_placed_at place.parent place.name) (records_of (volume_of a.content)) drops.removes.entry (ap (λ (l : List Pair). record_at (placed_in l) place.parent place.name) pairs_are ∙ drops.removes.found)

      pub is_one : is_link drops.removes.entry ≡ true
      is_one = ap is_link (some_same drops.removes.entry link.entry (sym drops.removes.found ∙ link.found)) ∙ link.is_one

      pub parent_is : drops.removes.entry.parent ≡ place.parent
      parent_is = eqb-true drops.removes.entry.parent place.parent (and_parts (drops.removes.entry.parent == place.parent) (bytes_eq drops.removes.entry.name place.name) there.1).0

      pub name_is : drops.removes.entry.name ≡ place.name
      name_is = (bytes_eq-Decides drops.removes.entry.name place.name).0 (and_parts (drops.removes.entry.parent == place.parent) (bytes_eq drops.removes.entry.name place.name) there.1).1

      named : is_empty drops.removes.entry.name ≡ false
      named = ap is_empty name_is ∙ loss.named

      pub entry_stands : Contains (entries_of (records_of (volume_of a.content))) drops.removes.entry
      entry_stands = is_entry_of (records_of (volume_of a.content)) drops.removes.entry there.0 named

      pub dropped_entry : DropsEntry drops.removes.entry (volume_of a.content).catalog_pairs (lists_of w b).catalog_pairs
      dropped_entry = subst (λ (l : List Pair). DropsEntry drops.removes.entry l (lists_of w b).catalog_pairs) (sym pairs_are) drops.removes.drops

      pub side : OneMore drops.removes.entry (placed_in (lists_of w b).catalog_pairs) (records_of (volume_of a.content))
      side = one_more dropped_entry named

      fresh : (p : Placed) → Contains (entries_of (placed_in (lists_of w b).catalog_pairs)) p → (id_of p == id_of drops.removes.entry) ≡ false
      fresh p stands = by (id_of p == id_of drops.removes.entry) refl
        where
          by : (t : Bool) → (id_of p == id_of drops.removes.entry) ≡ t → t ≡ false
          by false is = refl
          by true is = absurd (omega (
            arith,
            settled.sound.entries.ids.distinct (id_of drops.removes.entry),
            count_more side (λ (q : Placed). id_of q == id_of drops.removes.entry),
            ap one_if (same_number (id_of drops.removes.entry)),
            one_there (λ (q : Placed). id_of q == id_of drops.removes.entry) (entries_of (placed_in (lists_of w b).catalog_pairs)) p stands is,
          ))

      -- behind it, records and threads match one to one
      pub threads_dropped : AreThreaded (lists_of w b).catalog_pairs
      threads_dropped = threads_without drops.removes.entry (lists_of w b).catalog_pairs (volume_of a.content).catalog_pairs dropped_entry named (settled_sorted v a.content was.trees settled) fresh settled.sound.entries.threads

      -- ---- the file

      pub good : IsGoodLink (records_of (volume_of a.content)) (overflow_in_volume (volume_of a.content)) drops.removes.entry
      good = settled.sound.links.good.links drops.removes.entry entry_stands is_one

      pub shared : IsShared (private_id (records_of (volume_of a.content))) (special_of drops.removes.entry) good.node.0
      shared = shared_is (private_id (records_of (volume_of a.content))) (special_of drops.removes.entry) good.node.0 good.node.2

      it : IsSeenName (volume_of a.content) (bytes_in a.content) settled.sound at drops.removes.entry
      it = named_entry (volume_of a.content) (bytes_in a.content) settled.sound at drops.removes.entry (settled_sorted v a.content was.trees settled) seen entry_stands (parent_is ∙ sym loss.is_place.0) (name_is ∙ sym loss.is_place.1)

      pub file_id : id_of good.node.0 ≡ id
      file_id =
          sym (ap id_or_0 (shared_found (records_of (volume_of a.content)) (settled_sorted v a.content was.trees settled) (special_of drops.removes.entry) good.node.0 good.node.1 good.node.2))
          ∙ sym (ap (λ b. if b then id_or_0 (shared_file (records_of (volume_of a.content)) (special_of drops.removes.entry)) else id_of drops.removes.entry) is_one)
          ∙ ap (λ (e : PlainEntry). e.id) it.plain ∙ same_id

      inside : LiesIn (entries_of (records_of (volume_of a.content))) shared.folder good.node.0.parent
      inside = subst (λ n. LiesIn (entries_of (records_of (volume_of a.content))) shared.folder n) (sym shared.parent) is_it

      pub other : good.node.0 ≡ drops.removes.entry → ⊥
      other same = good.outside (shared.folder, shared.private_is, subst (λ (p : Placed). LiesIn (entries_of (records_of (volume_of a.content))) shared.folder p.parent) same inside)

      file_plain : is_link good.node.0 ≡ false
      file_plain = by (is_link good.node.0) refl
        where
          by : (t : Bool) → is_link good.node.0 ≡ t → t ≡ false
          by false is = refl
          by true is = absurd ((settled.sound.links.good.links good.node.0 good.node.1 is).outside (shared.folder, shared.private_is, inside))

      pub shared_left : HasShared id (lists_of w b).catalog_pairs
      shared_left = record {
        entry = good.node.0;
        stands = ⊎_elim (λ same. absurd (other same)) (λ left. left) (entry_cases side good.node.0 good.node.1);
        number = file_id;
        file = shared.file;
        not_link = file_plain;
      }

      -- ---- the folder

      pub above_left : Contains (entries_of (placed_in (lists_of w b).catalog_pairs)) from_folder.0
      above_left = ⊎_elim
          (λ same. absurd (true≢false (sym from_folder.2 ∙ ap (λ (p : Placed). is_folder p.value) same ∙ link_no_folder drops.removes.entry is_one)))
          (λ left. left)
          (entry_cases side from_folder.0 from_folder.1)

      module _ (x : Volume) (c : Content) (counts : CountsDown id w x b c) where
        pub threads_counted : AreThreaded (lists_of x c).catalog_pairs
        threads_counted = threads_changed id (lists_of w b) (lists_of x c) counts.marks threads_dropped

        pub above_after : HasFolder place.parent 0 (lists_of x c).catalog_pairs
        above_after =
            let carried = fields_carry id (lists_of w b) (lists_of x c) counts.marks threads_dropped 0 (omega (arith, counts.marks.fields.marked.count)) from_folder.0 above_left in
            record {
              entry = carried.0;
              stands = carried.1;
              number = carried.2.id ∙ from_folder.3 ∙ loss.above_is.1;
              folder = carried.2.folder ∙ from_folder.2;
              fits = omega (arith, carried.2.count, valence_low from_folder.0 from_folder.1 from_folder.2);
            }

        -- ---- the law

        module _ (u : Volume) (e : Space) (loses : TouchesFolder place.parent 0 1 x u c e.content) (stands_u : IsStanding u e) (law : RmDoes) where
          header_x : x.header ≡ w.header
          header_x = ap (λ (z : Volume). z.header) counts.rest

          header_u : u.header ≡ w.header
          header_u = ap (λ (z : Volume). z.header) loses.rest ∙ header_x

          moment : w.header.modify_date ≡ (volume_of a.content).head.modify_date
          moment = ap (λ (h : VolumeHeader). h.modify_date) drops.header ∙ sym (ap (λ (h : VolumeHeader). h.modify_date) head_is)

          nodes : HasSameNodes (volume_of a.content).catalog_tree (facts_on w.catalog.file)
          nodes = record {
            total = drops.changes.nodes.0 ∙ sym (ap (λ (l : VolumeState). l.catalog_tree.shape.total) settled.lists);
            size = drops.changes.nodes.1 ∙ sym (ap (λ (l : VolumeState). l.catalog_tree.shape.node_size) settled.lists);
          }

          in_catalog : InCatalog (DropsEntry drops.removes.entry) (one_file_less (volume_of a.content)) (lists_then a.content w b)
          in_catalog = record {
            changes = dropped_entry;
            nodes = nodes;
            rest =
                (λ i. record (drops.changes.lists i) { attributes_tree = (volume_of a.content).attributes_tree })
                ∙ sym (λ i. record (settled.lists i) { head = w.header; catalog_pairs = (lists_of w b).catalog_pairs; catalog_tree = facts_on w.catalog.file })
                ∙ (λ i. record (volume_of a.content) { head = (drops.header ∙ ap with_file_removed (sym head_is)) i; catalog_pairs = (lists_of w b).catalog_pairs; catalog_tree = facts_on w.catalog.file });
          }

          marked_then : ChangesFields id (IsMarkedLinked w.header.modify_date counts.links) (lists_then a.content w b) (lists_then a.content x c)
          marked_then = record {
            entry = counts.marks.entry;
            before = counts.marks.before;
            after = counts.marks.after;
            has = counts.marks.has;
            is_entry = counts.marks.is_entry;
            fields = counts.marks.fields;
            changes = record {
              changes = counts.marks.changes.changes;
              nodes = counts.marks.changes.nodes;
              rest = λ i. record (counts.marks.changes.rest i) { attributes_tree = (volume_of a.content).attributes_tree };
            };
          }

          marks_at : (does : ChangesFields at.id (IsMarkedLinked (volume_of a.content).head.modify_date counts.links) (lists_then a.content w b) (lists_then a.content x c)) × (does.before.special ≡ counts.links + 1)
          unfolding marked_then
          marks_at =
              subst (λ (k : ℕ × ℕ). (does : ChangesFields k.0 (IsMarkedLinked k.1 counts.links) (lists_then a.content w b) (lists_then a.content x c)) × (does.before.special ≡ counts.links + 1))
              {x = (id, w.header.modify_date)} {y = (at.id, (volume_of a.content).head.modify_date)} (λ i. (sym same_id i, moment i)) (marked_then, counts.was)

          loses_at : ChangesFields at.parent (IsTouched (volume_of a.content).head.modify_date 0 1) (lists_then a.content x c) (lists_then a.content u e.content)
          loses_at =
              subst (λ (k : ℕ × ℕ). ChangesFields k.0 (IsTouched k.1 0 1) (lists_then a.content x c) (lists_then a.content u e.content)) {x = (place.parent, x.header.modify_date)} {y = (at.parent, (volume_of a.content).head.modify_date)}
              (λ i. (sym loss.is_place.0 i, (ap (λ (h : VolumeHeader). h.modify_date) header_x ∙ moment) i)) (then_fields (volume_of a.content).attributes_tree place.parent (lists_of x c) (lists_of u e.content) loses.counts)

          removes_link : RemovesLink at (volume_of a.content) (lists_then a.content u e.content)
          removes_link = record {
            sorted = settled_sorted v a.content was.trees settled;
            entry = drops.removes.entry;
            is_entry = record { stands = entry_stands; place = (parent_is ∙ sym loss.is_place.0, name_is ∙ sym loss.is_place.1) };
            is_one = is_one;
            dropped = lists_then a.content w b;
            drops = in_catalog;
            links = counts.links;
            marked = lists_then a.content x c;
            marks = marks_at.0;
            others = (marks_at.1, counts.some);
            loses = loses_at;
          }

          does : IsSoundVolume (lists_then a.content u e.content) × (tree_in (lists_then a.content u e.content) (bytes_in a.content) ≡ (step (tree_in (volume_of a.content) (bytes_in a.content)) (command.Rm path)).1)
          does = law path at (volume_of a.content) (lists_then a.content u e.content) (bytes_in a.content) (file_bytes_are a.content) settled.sound allowed (inr (inl removes_link))

          changes : ChangesCatalog v u a.content e.content
          changes = changes_both v x u a.content c e.content (changes_both v w x a.content b c drops.changes counts.changes) loses.changes

          headed : header_of_volume e.content ≡ u.header
          headed = loses.headed ∙ counts.headed ∙ drops.headed ∙ sym header_u

          private_same : private_id (placed_in (lists_of u e.content).catalog_pairs) ≡ private_id (placed_in (lists_of v a.content).catalog_pairs)
          private_same =
              fields_private place.parent (lists_of x c) (lists_of u e.content) loses.counts threads_counted
              ∙ fields_private id (lists_of w b) (lists_of x c) counts.marks threads_dropped
              ∙ sym (private_kept drops.removes.entry (placed_in (lists_of w b).catalog_pairs) side.mid (records_of (volume_of a.content)) side.first side.second
              ((λ i. (parent_is i == 2) && bytes_eq (name_is i) private_name) ∙ third_false (place.parent == 2) (bytes_eq place.name journal_name) (bytes_eq place.name journal_info_name) (bytes_eq place.name private_name) not_own))
              ∙ ap (λ (l : List Pair). private_id (placed_in l)) pairs_are

          settled_now : IsSettled u e.content
          settled_now = settles_again v u a e changes settled was stands_u headed does.0 private_same

          pub unlinked_does : IsSettled u e.content × (tree_of e.content ≡ (step (tree_of a.content) (command.Rm path)).1) × Unlinks at a.content e.content
          unfolding tree_of
          unlinked_does = (
            settled_now,
            tree_again v u a e changes settled was stands_u headed does.0 ∙ does.1,
            record { removes = subst (λ (l : VolumeState). RemovesLink at (volume_of a.content) l) (sym (lists_again v u a e changes settled was settled_now)) removes_link },
          )
