-- `rm` of a last link: the file waits in the private folder to be removed; the volume is settled again, and its tree is the step's.
use Rattle.std.proofs.Common.{◌≡◌, inr, ◌<◌, ◌≤◌, ℕ, ◌^◌, Bool, true, false, List, [], ◌∷◌, length, refl, sym, ◌∙◌, ap, subst, arith, ⊎_elim}
use Rattle.std.specs.Prelude.{Contains, ◌==◌, ◌&&◌, Some}
use Rattle.std.specs.Str.{bytes_eq}
use Rattle.std.proofs.Math.Bool.{and-false}
use Rattle.std.proofs.lemmas.Bool.{and_parts, eqb-true, true≢false}
use Rattle.std.proofs.lemmas.Slice.Eq.{bytes_eq-Decides}
use Rattle.sector_disk.specs.Lists.{Content}
use Rattle.sector_disk.specs.Space.{Space}
use Rattle.jnl_format.specs.Recovery.{header_of_volume}
use Rattle.btree_node.specs.Keys.{IsCatalogKey}
use Rattle.btree_node.specs.Levels.{Pair}
use Rattle.btree_node.specs.TreeFile.{store_of}
use Rattle.btree_file.specs.Held.{file_in}
use Rattle.btree_file.specs.State.{sectors_of_tree}
use Rattle.cat_records.specs.declared.record.CatRecord.{CatRecord}
use Rattle.cat_records.specs.declared.record.CatRecord.TheVariants.{Folder, File, Thread}
use Rattle.hard_links.specs.Linking.{NamesLink}
use Rattle.hard_links.specs.Orphans.{MakesOrphan, NamesFile}
use Rattle.hard_links.specs.declared.place.EntryAt.{EntryAt}
use Rattle.hfs_language.specs.declared.command.Command.TheVariants as command
use Rattle.hfs_model.specs.Step.{journal_info_name, journal_name, private_name, step}
use Rattle.hfs_model.specs.declared.plain.PlainEntry.{PlainEntry}
use Rattle.hfs_volume.specs.Changes.{AreSorted, DropsEntry, HasSameNodes, InCatalog, MovesEntry}
use Rattle.hfs_volume.specs.Commands.{ChangesFields, IsTouched}
use Rattle.hfs_volume.specs.Content.{VolumeState, records_of, volume_of}
use Rattle.hfs_volume.specs.Entries.{AreThreaded}
use Rattle.hfs_volume.specs.Laws.{one_if}
use Rattle.hfs_volume.specs.Links.{is_link_to, private_id}
use Rattle.hfs_volume.specs.Naming.{RemovesLastLink, RmDoes, one_file_less, orphan_name}
use Rattle.hfs_volume.specs.Records.{Placed, entries_of, id_of, is_empty, is_file, is_folder, is_placed_at, is_thread, placed_in, record_at, special_of}
use Rattle.hfs_volume.specs.Sound.{IsSoundVolume}
use Rattle.hfs_volume.specs.TreeOf.{bytes_in, tree_in, tree_of}
use Rattle.hfs_volume.proofs.Ascending.{tree_sorted}
use Rattle.hfs_volume.proofs.Bytes.{file_bytes_are}
use Rattle.hfs_volume.proofs.Counting.{length_kept}
use Rattle.hfs_volume.proofs.Flat.{found_some, some_same}
use Rattle.hfs_volume.proofs.Hiding.{one_there, same_entry}
use Rattle.hfs_volume.proofs.Seeing.{private_kept, same_number}
use Rattle.hfs_volume.proofs.Sides.{OneMore, count_more, entry_cases, found_same, is_entry_of, one_more, still_entry, the_entry, threads_without}
use Rattle.hfs_volume.proofs.Threading.{threads_kept}
use Rattle.volume_header.specs.declared.header.VolumeHeader.{VolumeHeader}
use Rattle.volume_base.specs.Changing.{ChangesCatalog, HasFolder, TouchesFolder}
use Rattle.volume_base.specs.Lists.{lists_of, facts_on}
use Rattle.volume_base.specs.Losing.{IsLoss}
use Rattle.volume_names.specs.Losing.{PutsAside}
use Rattle.volume_base.specs.Orphans.{with_file_removed}
use Rattle.volume_base.specs.Standing.{HoldsTrees, IsSettled, IsStanding}
use Rattle.volume_names.specs.Unlinking.{DropsName, IsLastOf, UnlinksLast, links_in}
use Rattle.volume_base.specs.declared.volume.Volume.{Volume}
use Rattle.volume_names.proofs.Carried.{fields_private, then_fields}
use Rattle.volume_names.proofs.LinkLost as one
use Rattle.volume_base.proofs.ListsAfter.{changes_both}
use Rattle.volume_base.proofs.ListsAgain.{lists_again}
use Rattle.volume_names.proofs.Made.{third_false}
use Rattle.volume_base.proofs.Rising.{settled_sorted}
use Rattle.volume_base.proofs.Settling.{lists_then, settles_again, tree_again}

-- a file is no thread
file_no_thread : (value : CatRecord) → is_file value ≡ true → is_thread value ≡ false
file_no_thread (Folder folder) is = refl
file_no_thread (File file) is = refl
file_no_thread (Thread thread) is = absurd (true≢false (sym is))

file_no_folder : (value : CatRecord) → is_file value ≡ true → is_folder value ≡ false
file_no_folder (Folder folder) is = absurd (true≢false (sym is))
file_no_folder (File file) is = refl
file_no_folder (Thread thread) is = refl

links_are : (p : Placed) → is_file p.value ≡ true → special_of p ≡ links_in p.value
links_are p is_a = by p.value refl
  where
    by : (value : CatRecord) → p.value ≡ value → special_of p ≡ links_in value
    by (Folder folder) is = absurd (true≢false (sym is_a ∙ ap is_file is))
    by (File file) is = ap (λ (v : CatRecord). special_of (record p { value = v })) is
    by (Thread thread) is = absurd (true≢false (sym is_a ∙ ap is_file is))

no_units : (name : List ℕ) → is_empty name ≡ false → bytes_eq [] name ≡ false
no_units [] some = absurd (true≢false some)
no_units (unit ∷ units) some = refl

-- a name with units isn't empty
pub named_file : (name : List ℕ) → 1 ≤ length name → is_empty name ≡ false
named_file [] some = absurd (omega (arith, some))
named_file (unit ∷ units) some = refl

never : (b : Bool) → (b && false) ≡ false
never true = refl
never false = refl

module _ (v : Volume) (a : Space) (settled : IsSettled v a.content) (was : IsStanding v a) (path : List (List ℕ)) (at : PlainEntry) (place : EntryAt) (loss : IsLoss (tree_of a.content) path at place)
    (link : NamesLink place (lists_of v a.content).catalog_pairs) (id : ℕ) (same_id : at.id ≡ id) (next_fits : v.header.next_catalog_id < 2 ^ 32)
    (file : EntryAt) (last : IsLastOf id file (lists_of v a.content).catalog_pairs) (some_file : is_empty file.name ≡ false) (private : ℕ) (here : v.private ≡ Some private)
    (w : Volume) (b : Content) (drops : DropsName place.parent place.name v w a.content b) (holds_w : HoldsTrees w b)
  where
    found_file : record_at (records_of (volume_of a.content)) file.parent file.name ≡ Some last.entry
    found_file = ap (λ (l : List Pair). record_at (placed_in l) file.parent file.name) (one.pairs_are v a settled was path at place loss link id same_id next_fits) ∙ last.found

    there : Contains (records_of (volume_of a.content)) last.entry × (is_placed_at file.parent file.name last.entry ≡ true)
    there = found_some (is_placed_at file.parent file.name) (records_of (volume_of a.content)) last.entry found_file

    file_name : last.entry.name ≡ file.name
    file_name = (bytes_eq-Decides last.entry.name file.name).0 (and_parts (last.entry.parent == file.parent) (bytes_eq last.entry.name file.name) there.1).1

    file_named : is_empty last.entry.name ≡ false
    file_named = ap is_empty file_name ∙ some_file

    file_stands : Contains (entries_of (records_of (volume_of a.content))) last.entry
    file_stands = is_entry_of (records_of (volume_of a.content)) last.entry there.0 file_named

    -- it is the file of the link
    it_is : last.entry ≡ (one.good v a settled was path at place loss link id same_id next_fits w b drops).node.0
    it_is = same_entry (volume_of a.content).head.next_catalog_id (entries_of (records_of (volume_of a.content))) settled.sound.entries.ids last.entry (one.good v a settled was path at place loss link id same_id next_fits w b drops).node.0 file_stands (one.good v a settled was path at place loss link id same_id next_fits w b drops).node.1 (last.number ∙ sym (one.file_id v a settled was path at place loss link id same_id next_fits w b drops))

    it_file : is_file last.entry.value ≡ true
    it_file = ap (λ (p : Placed). is_file p.value) it_is ∙ (one.shared v a settled was path at place loss link id same_id next_fits w b drops).file

    it_parent : last.entry.parent ≡ private
    it_parent = ap (λ (p : Placed). p.parent) it_is ∙ (one.shared v a settled was path at place loss link id same_id next_fits w b drops).parent ∙ some_same (one.shared v a settled was path at place loss link id same_id next_fits w b drops).folder private (sym (one.shared v a settled was path at place loss link id same_id next_fits w b drops).private_is ∙ sym settled.private ∙ here)

    -- it has just this link
    it_last : special_of last.entry ≡ 1
    it_last =
        let counted = settled.sound.links.counts (special_of drops.removes.entry) (one.good v a settled was path at place loss link id same_id next_fits w b drops).node.0 (one.good v a settled was path at place loss link id same_id next_fits w b drops).node.1 (one.good v a settled was path at place loss link id same_id next_fits w b drops).node.2 in
        let one_link = one_there (is_link_to (special_of drops.removes.entry)) (entries_of (records_of (volume_of a.content))) drops.removes.entry (one.entry_stands v a settled was path at place loss link id same_id next_fits w b drops) ((λ i. (one.is_one v a settled was path at place loss link id same_id next_fits w b drops) i && same_number (special_of drops.removes.entry) i)) in
        omega (
          arith,
          counted,
          one_link,
          length_kept (is_link_to (special_of drops.removes.entry)) (entries_of (records_of (volume_of a.content))),
          ap special_of it_is,
          links_are last.entry it_file,
          last.last,
        )

    -- ---- behind the link's removal

    not_link_place : is_placed_at file.parent file.name drops.removes.entry ≡ false
    not_link_place = by (is_placed_at file.parent file.name drops.removes.entry) refl
      where
        by : (t : Bool) → is_placed_at file.parent file.name drops.removes.entry ≡ t → t ≡ false
        by false is = refl
        by true is =
            let tests = and_parts (drops.removes.entry.parent == file.parent) (bytes_eq drops.removes.entry.name file.name) is in
            let parent_same : place.parent ≡ file.parent = sym (one.parent_is v a settled was path at place loss link id same_id next_fits w b drops) ∙ eqb-true drops.removes.entry.parent file.parent tests.0 in
            let name_same : place.name ≡ file.name = sym (one.name_is v a settled was path at place loss link id same_id next_fits w b drops) ∙ (bytes_eq-Decides drops.removes.entry.name file.name).0 tests.1 in
            absurd ((one.other v a settled was path at place loss link id same_id next_fits w b drops) (sym it_is ∙ some_same last.entry drops.removes.entry (sym last.found ∙ (λ i. record_at (placed_in (lists_of v a.content).catalog_pairs) (sym parent_same i) (sym name_same i)) ∙ drops.removes.found)))

    found_left : record_at (placed_in (lists_of w b).catalog_pairs) file.parent file.name ≡ Some last.entry
    found_left =
        sym (found_same (one.side v a settled was path at place loss link id same_id next_fits w b drops) (is_placed_at file.parent file.name) not_link_place (ap (λ t. (id_of drops.removes.entry == file.parent) && t) (no_units file.name some_file) ∙ and-false (id_of drops.removes.entry == file.parent)))
        ∙ found_file

    -- the file's record is there
    pub file_left : NamesFile file (lists_of w b).catalog_pairs
    file_left = record { entry = last.entry; found = found_left; file = it_file }

    sorted_left : AreSorted (lists_of w b).catalog_pairs
    sorted_left = tree_sorted IsCatalogKey (store_of (file_in (sectors_of_tree w.catalog.file) b)) holds_w.catalog.file.rules

    threads_left : AreThreaded (lists_of w b).catalog_pairs
    threads_left = one.threads_dropped v a settled was path at place loss link id same_id next_fits w b drops

    module _ (x : Volume) (c : Content) (aside : PutsAside private file w x b c) (holds_x : HoldsTrees x c) where
      orphaned : MakesOrphan private file (lists_of w b).catalog_pairs (lists_of x c).catalog_pairs
      orphaned = aside.moves

      moved_is : orphaned.entry ≡ last.entry
      moved_is = some_same orphaned.entry last.entry (sym orphaned.found ∙ found_left)

      abbrev gone : Placed
      gone = record orphaned.entry { parent = private; name = orphan_name orphaned.number }

      named : is_empty orphaned.entry.name ≡ false
      named = ap (λ (p : Placed). is_empty p.name) moved_is ∙ file_named

      gone_named : is_empty (orphan_name orphaned.number) ≡ false
      gone_named = refl

      side_out : OneMore orphaned.entry (placed_in orphaned.moves.between) (placed_in (lists_of w b).catalog_pairs)
      side_out = one_more orphaned.moves.out named

      side_back : OneMore gone (placed_in orphaned.moves.between) (placed_in (lists_of x c).catalog_pairs)
      side_back = one_more orphaned.moves.back gone_named

      fresh : (p : Placed) → Contains (entries_of (placed_in orphaned.moves.between)) p → (id_of p == id_of orphaned.entry) ≡ false
      fresh p stands = by (id_of p == id_of orphaned.entry) refl
        where
          by : (t : Bool) → (id_of p == id_of orphaned.entry) ≡ t → t ≡ false
          by false is = refl
          by true is = absurd (omega (
            arith,
            settled.sound.entries.ids.distinct (id_of orphaned.entry),
            count_more (one.side v a settled was path at place loss link id same_id next_fits w b drops) (λ (q : Placed). id_of q == id_of orphaned.entry),
            count_more side_out (λ (q : Placed). id_of q == id_of orphaned.entry),
            ap one_if (same_number (id_of orphaned.entry)),
            one_there (λ (q : Placed). id_of q == id_of orphaned.entry) (entries_of (placed_in orphaned.moves.between)) p stands is,
          ))

      kind : is_thread orphaned.entry.value ≡ false
      kind = file_no_thread orphaned.entry.value (ap (λ (p : Placed). is_file p.value) moved_is ∙ it_file)

      threads_between : AreThreaded orphaned.moves.between
      threads_between = threads_without orphaned.entry orphaned.moves.between (lists_of w b).catalog_pairs orphaned.moves.out named sorted_left fresh threads_left

      -- behind it, records and threads match one to one
      pub threads_waiting : AreThreaded (lists_of x c).catalog_pairs
      threads_waiting = threads_kept gone orphaned.moves.between (lists_of x c).catalog_pairs orphaned.moves.back kind gone_named threads_between

      above_there : Contains (entries_of (placed_in (lists_of x c).catalog_pairs)) (one.from_folder v a settled was path at place loss link id same_id next_fits).0
      above_there = still_entry side_back (one.from_folder v a settled was path at place loss link id same_id next_fits).0 (⊎_elim
          (λ same. absurd (true≢false (sym (one.from_folder v a settled was path at place loss link id same_id next_fits).2 ∙ ap (λ (p : Placed). is_folder p.value) (same ∙ moved_is) ∙ file_no_folder last.entry.value it_file)))
          (λ kept. kept)
          (entry_cases side_out (one.from_folder v a settled was path at place loss link id same_id next_fits).0 (one.above_left v a settled was path at place loss link id same_id next_fits w b drops)))

      pub above_waiting : HasFolder place.parent 0 (lists_of x c).catalog_pairs
      above_waiting = record {
        entry = (one.from_folder v a settled was path at place loss link id same_id next_fits).0;
        stands = above_there;
        number = (one.from_folder v a settled was path at place loss link id same_id next_fits).3 ∙ loss.above_is.1;
        folder = (one.from_folder v a settled was path at place loss link id same_id next_fits).2;
        fits = omega (arith, one.valence_low v a settled was path at place loss link id same_id next_fits (one.from_folder v a settled was path at place loss link id same_id next_fits).0 (one.from_folder v a settled was path at place loss link id same_id next_fits).1 (one.from_folder v a settled was path at place loss link id same_id next_fits).2);
      }

      -- ---- the law

      module _ (u : Volume) (e : Space) (loses : TouchesFolder place.parent 0 1 x u c e.content) (stands_u : IsStanding u e) (law : RmDoes) where
        header_x : x.header ≡ w.header
        header_x = ap (λ (z : Volume). z.header) aside.rest

        header_u : u.header ≡ w.header
        header_u = ap (λ (z : Volume). z.header) loses.rest ∙ header_x

        moment : w.header.modify_date ≡ (volume_of a.content).head.modify_date
        moment = ap (λ (h : VolumeHeader). h.modify_date) drops.header ∙ sym (ap (λ (h : VolumeHeader). h.modify_date) (one.head_is v a settled was path at place loss link id same_id next_fits))

        nodes : HasSameNodes (volume_of a.content).catalog_tree (facts_on w.catalog.file)
        nodes = record {
          total = drops.changes.nodes.0 ∙ sym (ap (λ (l : VolumeState). l.catalog_tree.shape.total) settled.lists);
          size = drops.changes.nodes.1 ∙ sym (ap (λ (l : VolumeState). l.catalog_tree.shape.node_size) settled.lists);
        }

        in_catalog : InCatalog (DropsEntry drops.removes.entry) (one_file_less (volume_of a.content)) (lists_then a.content w b)
        in_catalog = record {
          changes = one.dropped_entry v a settled was path at place loss link id same_id next_fits w b drops;
          nodes = nodes;
          rest =
              (λ i. record (drops.changes.lists i) { attributes_tree = (volume_of a.content).attributes_tree })
              ∙ sym (λ i. record (settled.lists i) { head = w.header; catalog_pairs = (lists_of w b).catalog_pairs; catalog_tree = facts_on w.catalog.file })
              ∙ (λ i. record (volume_of a.content) { head = (drops.header ∙ ap with_file_removed (sym (one.head_is v a settled was path at place loss link id same_id next_fits))) i; catalog_pairs = (lists_of w b).catalog_pairs; catalog_tree = facts_on w.catalog.file });
        }

        moves_then : InCatalog (MovesEntry orphaned.entry private (orphan_name orphaned.number)) (lists_then a.content w b) (lists_then a.content x c)
        moves_then = record {
          changes = orphaned.moves;
          nodes = record { total = aside.changes.nodes.0; size = aside.changes.nodes.1 };
          rest =
              (λ i. record (aside.changes.lists i) { attributes_tree = (volume_of a.content).attributes_tree })
              ∙ (λ i. record (lists_then a.content w b) { head = header_x i; catalog_pairs = (lists_of x c).catalog_pairs; catalog_tree = facts_on x.catalog.file });
        }

        loses_at : ChangesFields at.parent (IsTouched (volume_of a.content).head.modify_date 0 1) (lists_then a.content x c) (lists_then a.content u e.content)
        loses_at =
            subst (λ (k : ℕ × ℕ). ChangesFields k.0 (IsTouched k.1 0 1) (lists_then a.content x c) (lists_then a.content u e.content)) {x = (place.parent, x.header.modify_date)} {y = (at.parent, (volume_of a.content).head.modify_date)}
            (λ i. (sym loss.is_place.0 i, (ap (λ (h : VolumeHeader). h.modify_date) header_x ∙ moment) i)) (then_fields (volume_of a.content).attributes_tree place.parent (lists_of x c) (lists_of u e.content) loses.counts)

        removes_last : RemovesLastLink at (volume_of a.content) (lists_then a.content u e.content)
        removes_last = record {
          sorted = settled_sorted v a.content was.trees settled;
          entry = drops.removes.entry;
          is_entry = record { stands = one.entry_stands v a settled was path at place loss link id same_id next_fits w b drops; place = ((one.parent_is v a settled was path at place loss link id same_id next_fits w b drops) ∙ sym loss.is_place.0, (one.name_is v a settled was path at place loss link id same_id next_fits w b drops) ∙ sym loss.is_place.1) };
          is_one = one.is_one v a settled was path at place loss link id same_id next_fits w b drops;
          dropped = lists_then a.content w b;
          drops = in_catalog;
          file = orphaned.entry;
          is_file = (the_entry side_out, ap id_of moved_is ∙ last.number ∙ sym same_id);
          last = ap special_of moved_is ∙ it_last;
          number = orphaned.number;
          moved = lists_then a.content x c;
          moves = subst (λ p. InCatalog (MovesEntry orphaned.entry p (orphan_name orphaned.number)) (lists_then a.content w b) (lists_then a.content x c)) (sym (ap (λ (p : Placed). p.parent) moved_is ∙ it_parent)) moves_then;
          sorted_again = tree_sorted IsCatalogKey (store_of (file_in (sectors_of_tree x.catalog.file) c)) holds_x.catalog.file.rules;
          loses = loses_at;
        }

        does : IsSoundVolume (lists_then a.content u e.content) × (tree_in (lists_then a.content u e.content) (bytes_in a.content) ≡ (step (tree_in (volume_of a.content) (bytes_in a.content)) (command.Rm path)).1)
        does = law path at (volume_of a.content) (lists_then a.content u e.content) (bytes_in a.content) (file_bytes_are a.content) settled.sound (one.allowed v a settled was path at place loss link id same_id next_fits) (inr (inr removes_last))

        changes : ChangesCatalog v u a.content e.content
        changes = changes_both v x u a.content c e.content (changes_both v w x a.content b c drops.changes aside.changes) loses.changes

        headed : header_of_volume e.content ≡ u.header
        headed = loses.headed ∙ aside.headed ∙ drops.headed ∙ sym header_u

        it_name : bytes_eq orphaned.entry.name private_name ≡ false
        it_name = ap (λ (p : Placed). bytes_eq p.name private_name) (moved_is ∙ it_is) ∙ ap (λ (n : List ℕ). bytes_eq n private_name) (one.shared v a settled was path at place loss link id same_id next_fits w b drops).name

        private_after : private_id (placed_in (lists_of u e.content).catalog_pairs) ≡ private_id (placed_in (lists_of v a.content).catalog_pairs)
        private_after =
            fields_private place.parent (lists_of x c) (lists_of u e.content) loses.counts threads_waiting
            ∙ private_kept gone (placed_in orphaned.moves.between) side_back.mid (placed_in (lists_of x c).catalog_pairs) side_back.first side_back.second (never (private == 2))
            ∙ sym (private_kept orphaned.entry (placed_in orphaned.moves.between) side_out.mid (placed_in (lists_of w b).catalog_pairs) side_out.first side_out.second (ap (λ t. (orphaned.entry.parent == 2) && t) it_name ∙ never (orphaned.entry.parent == 2)))
            ∙ sym (private_kept drops.removes.entry (placed_in (lists_of w b).catalog_pairs) (one.side v a settled was path at place loss link id same_id next_fits w b drops).mid (records_of (volume_of a.content)) (one.side v a settled was path at place loss link id same_id next_fits w b drops).first (one.side v a settled was path at place loss link id same_id next_fits w b drops).second
            ((λ i. ((one.parent_is v a settled was path at place loss link id same_id next_fits w b drops) i == 2) && bytes_eq ((one.name_is v a settled was path at place loss link id same_id next_fits w b drops) i) private_name) ∙ third_false (place.parent == 2) (bytes_eq place.name journal_name) (bytes_eq place.name journal_info_name) (bytes_eq place.name private_name) (one.not_own v a settled was path at place loss link id same_id next_fits)))
            ∙ ap (λ (l : List Pair). private_id (placed_in l)) (one.pairs_are v a settled was path at place loss link id same_id next_fits)

        settled_now : IsSettled u e.content
        settled_now = settles_again v u a e changes settled was stands_u headed does.0 private_after

        pub last_does : IsSettled u e.content × (tree_of e.content ≡ (step (tree_of a.content) (command.Rm path)).1) × UnlinksLast at a.content e.content
        unfolding tree_of
        last_does = (
          settled_now,
          tree_again v u a e changes settled was stands_u headed does.0 ∙ does.1,
          record { removes = subst (λ (l : VolumeState). RemovesLastLink at (volume_of a.content) l) (sym (lists_again v u a e changes settled was settled_now)) removes_last },
        )
