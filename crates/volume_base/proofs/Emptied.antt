-- `rmdir`: where the folder was removed and the folder above counts it no more, the volume is settled again, and its tree is the step's.
use Rattle.std.proofs.Common.{◌≡◌, ◌⊎◌, inl, inr, ◌<◌, ℕ, ◌^◌, Bool, true, false, not, List, [], ◌∷◌, length, refl, sym, ◌∙◌, ap, subst, arith}
use Rattle.std.specs.Prelude.{Contains, ◌==◌, ◌&&◌, ◌||◌, insert, None, Some, Ok, if◌then◌else◌}
use Rattle.std.specs.Str.{bytes_eq}
use Rattle.std.proofs.lemmas.Bool.{and_parts, eqb-true, true≢false, not-false}
use Rattle.std.proofs.lemmas.List.{length-map}
use Rattle.std.proofs.lemmas.List.Elements.{Contains-append_right}
use Rattle.std.proofs.lemmas.Slice.Eq.{bytes_eq-Decides}
use Rattle.sector_disk.specs.Space.{Space}
use Rattle.jnl_format.specs.Recovery.{header_of_volume}
use Rattle.btree_node.specs.Levels.{Pair}
use Rattle.cat_records.specs.declared.record.CatRecord.{CatRecord}
use Rattle.cat_records.specs.declared.record.FileRecord.{FileRecord}
use Rattle.hfs_language.specs.declared.command.Command.TheVariants as command
use Rattle.hfs_language.specs.declared.refusal.Refusal.TheVariants as refusal
use Rattle.hfs_model.specs.Plain.{entries_in}
use Rattle.hfs_model.specs.Step.{is_root, journal_info_name, journal_name, private_name, reached, root_entry, step, then_, to_rmdir, unless}
use Rattle.hfs_model.specs.declared.plain.PlainEntry.{PlainEntry}
use Rattle.hfs_model.specs.declared.plain.PlainTree.{PlainTree}
use Rattle.volume_header.specs.declared.header.VolumeHeader.{VolumeHeader}
use Rattle.hfs_volume.specs.Changes.{Adds, HasSameNodes, InAttributes, InCatalog, DropsEntry, thread_with}
use Rattle.hfs_volume.specs.Commands.{ChangesFields, DropsAttributes, IsTouched, RemovesFolder, RmdirDoes, with_fields, with_folder_removed}
use Rattle.hfs_volume.specs.Content.{VolumeState, volume_of, records_of}
use Rattle.hfs_volume.specs.Books.{SoundHasPlainTree}
use Rattle.hfs_volume.specs.Entries.{AreThreaded, IsRoot, LiesIn, below, count_in, is_it}
use Rattle.hfs_volume.specs.Laws.{IsFolderId}
use Rattle.hfs_volume.specs.Links.{private_id}
use Rattle.hfs_volume.specs.Records.{Placed, entries_of, id_of, is_empty, is_folder, is_placed_at, is_thread, placed_in, placed_of, record_at, special_of, valence_in}
use Rattle.hfs_volume.specs.Sound.{IsSoundVolume}
use Rattle.hfs_volume.specs.TreeOf.{bytes_in, id_or_0, shared_file, tree_in, tree_of, BytesOf}
use Rattle.hfs_volume.specs.Data.{PutsInValues}
use Rattle.volume_base.proofs.Taken.{bares_nothing}
use Rattle.hfs_volume.proofs.Bytes.{file_bytes_are}
use Rattle.hfs_volume.proofs.Counting.{map_insert}
use Rattle.hfs_volume.proofs.Dropping.{Leaves, threads_less}
use Rattle.hfs_volume.proofs.Fields.{not_thread}
use Rattle.hfs_volume.proofs.Fitting.{differs}
use Rattle.hfs_volume.proofs.Flat.{found_none, found_some}
use Rattle.hfs_volume.proofs.Hiding.{one_there}
use Rattle.hfs_volume.proofs.Making.{placed_splits, tree_entries}
use Rattle.hfs_volume.proofs.Members.{at_front, each_of, inserted_cases, kept_stands}
use Rattle.hfs_volume.proofs.Named.{IsSeenName, named_entry}
use Rattle.hfs_volume.proofs.Reaching.{IsSeen, folder_no_link, seen_shows, seen_visible, then_ok, unless_ok, walked}
use Rattle.hfs_volume.proofs.Seeing.{entries_added, private_kept, same_number}
use Rattle.hfs_volume.proofs.Swapping.{Splits, private_same}
use Rattle.volume_base.specs.Changing.{ChangesCatalog, HasFolder, TouchesFolder}
use Rattle.volume_base.specs.Lists.{lists_of, facts_on}
use Rattle.volume_base.specs.Removing.{DropsFolder, HasNoAttributes, IsLeaving, TakesFolder, folder_at}
use Rattle.volume_base.specs.Standing.{IsStanding, IsSettled}
use Rattle.volume_base.specs.declared.removing.Leaving.{Leaving}
use Rattle.volume_base.specs.declared.volume.Volume.{Volume}
use Rattle.volume_base.proofs.Counted.{counts_low}
use Rattle.volume_base.proofs.ListsAgain.{lists_again}
use Rattle.volume_base.proofs.ListsAfter.{changes_both}
use Rattle.volume_base.proofs.NodeIs.{elsewhere}
use Rattle.volume_base.proofs.Recounting.{no_thread}
use Rattle.volume_base.proofs.Rising.{settled_is_plain, settled_sorted}
use Rattle.volume_base.proofs.Settling.{lists_then, settles_again, tree_again}

-- ---- what `rmdir` names

placed_adds : (entry : Placed) (pair : Pair) (old new : List Pair) → Adds pair old new → placed_of pair ≡ entry → Adds entry (placed_in old) (placed_in new)
placed_adds entry pair old new added stands = record {
  place = added.place;
  within = omega (arith, added.within, length-map old placed_of);
  is = ap placed_in added.is ∙ map_insert placed_of old added.place pair ∙ ap (insert (placed_in old) added.place) stands;
}

third_false : (a b c d : Bool) → (a && (b || c || d)) ≡ false → (a && d) ≡ false
third_false false b c d is = refl
third_false true true c d is = absurd (true≢false is)
third_false true false true d is = absurd (true≢false is)
third_false true false false d is = is

module _ (old : VolumeState) (bytes_of : BytesOf) (sound : IsSoundVolume old) where
  abbrev tree : PlainTree
  tree = tree_in old bytes_of

  reach_seen : (path : List (List ℕ)) (at : PlainEntry) → is_root path ≡ false → reached (tree_in old bytes_of) path ≡ Ok at → IsSeen (records_of old) at
  reach_seen [] at not_root is = absurd (true≢false not_root)
  reach_seen (name ∷ path) at not_root is = walked (records_of old) old.head.next_catalog_id sound.entries.ids sound.entries.rooted (tree_in old bytes_of) (tree_entries old bytes_of) path name root_entry at is

  seen_where_left : (path : List (List ℕ)) (at : PlainEntry) → to_rmdir (tree_in old bytes_of) path ≡ Ok at → IsSeen (records_of old) at × ((length (entries_in (tree_in old bytes_of) at.id) == 0) ≡ true)
  seen_where_left path at allowed =
      let first = then_ok (unless (is_root path) refusal.Root path)
      (λ named. then_ (reached tree named) (λ x. then_ (unless (not x.folder) refusal.NotFolder x) (λ folder. unless (not (length (entries_in tree folder.id) == 0)) refusal.NotEmpty folder))) at allowed in
      let root = unless_ok (is_root path) refusal.Root path first.0 first.1 in
      let second = then_ok (reached tree first.0) (λ x. then_ (unless (not x.folder) refusal.NotFolder x) (λ folder. unless (not (length (entries_in tree folder.id) == 0)) refusal.NotEmpty folder)) at first.2 in
      let third = then_ok (unless (not second.0.folder) refusal.NotFolder second.0) (λ folder. unless (not (length (entries_in tree folder.id) == 0)) refusal.NotEmpty folder) at second.2 in
      let kind = unless_ok (not second.0.folder) refusal.NotFolder second.0 third.0 third.1 in
      let empty = unless_ok (not (length (entries_in tree third.0.id) == 0)) refusal.NotEmpty third.0 at third.2 in
      let same : second.0 ≡ at = kind.1 ∙ empty.1 in (
        subst (IsSeen (records_of old)) same (reach_seen path second.0 root.0 (ap (reached tree) root.1 ∙ second.1)),
        ap (λ (x : PlainEntry). length (entries_in tree x.id) == 0) (sym empty.1) ∙ not-false (length (entries_in tree third.0.id) == 0) empty.0,
      )

module _ (v : Volume) (a : Space) (was : IsStanding v a) (settled : IsSettled v a.content) (at : Leaving) (name : List ℕ) (leaving : IsLeaving (tree_of a.content) at name) where
  abbrev old : VolumeState
  old = volume_of a.content

  pairs_are : (volume_of a.content).catalog_pairs ≡ (lists_of v a.content).catalog_pairs
  pairs_are = ap (λ (l : VolumeState). l.catalog_pairs) settled.lists

  head_is : (volume_of a.content).head ≡ v.header
  head_is = ap (λ (l : VolumeState). l.head) settled.lists

  allowed : to_rmdir (tree_in (volume_of a.content) (bytes_in a.content)) leaving.path ≡ Ok (folder_at at name)
  unfolding tree_of
  allowed = leaving.allowed

  pub left : IsSeen (records_of (volume_of a.content)) (folder_at at name) × ((length (entries_in (tree_in (volume_of a.content) (bytes_in a.content)) at.id) == 0) ≡ true)
  left = seen_where_left (volume_of a.content) (bytes_in a.content) settled.sound leaving.path (folder_at at name) allowed

  -- the entry that stands under this key is the folder
  entry_there : (entry : Placed) → record_at (placed_in (volume_of a.content).catalog_pairs) at.parent name ≡ Some entry → is_empty name ≡ false → IsSeenName (volume_of a.content) (bytes_in a.content) settled.sound (folder_at at name) entry
  entry_there entry found some =
      let it = found_some (is_placed_at at.parent name) (placed_in (volume_of a.content).catalog_pairs) entry found in
      let tests = and_parts (entry.parent == at.parent) (bytes_eq entry.name name) it.1 in
      let same : entry.name ≡ name = (bytes_eq-Decides entry.name name).0 tests.1 in
      named_entry (volume_of a.content) (bytes_in a.content) settled.sound (folder_at at name) entry (settled_sorted v a.content was.trees settled) left.0
      (kept_stands (λ (placed : Placed). not (is_empty placed.name)) (records_of (volume_of a.content)) entry it.0 (ap not (ap is_empty same ∙ some))) (eqb-true entry.parent at.parent tests.0) same

  -- it has a name, and something stands under its key
  pub has_name : is_empty name ≡ false
  has_name = ap is_empty (sym (ap (λ (e : PlainEntry). e.name) left.0.is)) ∙ (seen_shows (records_of (volume_of a.content)) left.0.placed left.0.seen).named

  pub stands_there : record_at (placed_in (lists_of v a.content).catalog_pairs) at.parent name ≡ None → ⊥
  stands_there none =
      let placed = left.0.placed in
      let here : is_placed_at at.parent name placed ≡ true = (λ i. (ap (λ (e : PlainEntry). e.parent) left.0.is i == at.parent) && bytes_eq (ap (λ (e : PlainEntry). e.name) left.0.is i) name) ∙ (λ i. same_number at.parent i && (bytes_eq-Decides name name).1 refl i) in
      true≢false (sym here ∙ found_none (is_placed_at at.parent name) (records_of (volume_of a.content)) (ap (λ (l : List Pair). record_at (placed_in l) at.parent name) pairs_are ∙ none) placed left.0.stands)

  module _ (w : Volume) (b : Space) (some : is_empty name ≡ false) (drops : DropsFolder at.parent name v w a.content b.content) where
    entry : Placed
    entry = drops.removes.entry

    it : IsSeenName (volume_of a.content) (bytes_in a.content) settled.sound (folder_at at name) drops.removes.entry
    it = entry_there drops.removes.entry (ap (λ (l : List Pair). record_at (placed_in l) at.parent name) pairs_are ∙ drops.removes.found) some

    is_a : is_folder drops.removes.entry.value ≡ true
    is_a = ap (λ (e : PlainEntry). e.folder) it.plain

    its_id : id_of drops.removes.entry ≡ at.id
    its_id =
        sym (ap (λ b. if b then id_or_0 (shared_file (records_of (volume_of a.content)) (special_of drops.removes.entry)) else id_of drops.removes.entry) (folder_no_link drops.removes.entry is_a))
        ∙ ap (λ (e : PlainEntry). e.id) it.plain

    parent_is : drops.removes.entry.parent ≡ at.parent
    parent_is = ap (λ (e : PlainEntry). e.parent) it.plain

    dropped_entry : DropsEntry drops.removes.entry (volume_of a.content).catalog_pairs (lists_of w b.content).catalog_pairs
    dropped_entry = subst (λ (l : List Pair). DropsEntry drops.removes.entry l (lists_of w b.content).catalog_pairs) (sym pairs_are) drops.removes.drops

    -- it has no entries, and may leave
    module _ (plain : SoundHasPlainTree) where
      childless : count_in (entries_of (records_of (volume_of a.content))) (id_of drops.removes.entry) ≡ 0
      unfolding tree_of
      childless =
          sym (elsewhere (volume_of a.content) settled.sound (settled_sorted v a.content was.trees settled) (tree_in (volume_of a.content) (bytes_in a.content)) (tree_entries (volume_of a.content) (bytes_in a.content))
          (settled_is_plain plain v a.content was.trees settled) (id_of drops.removes.entry)
          (record {
            folder = (drops.removes.entry, it.stands, is_a, refl);
            visible = seen_visible (records_of (volume_of a.content)) (volume_of a.content).head.next_catalog_id settled.sound.entries.ids settled.sound.entries.rooted drops.removes.entry it.stands it.shows;
          })
          (differs (id_of drops.removes.entry) 2 (λ two. omega (arith, two, it.high))))
          ∙ ap (λ n. length (entries_in (tree_in (volume_of a.content) (bytes_in a.content)) n)) its_id
          ∙ eqb-true (length (entries_in (tree_in (volume_of a.content) (bytes_in a.content)) at.id)) 0 left.1

      above : IsFolderId (entries_of (records_of (volume_of a.content))) drops.removes.entry.parent
      above = elim (each_of (λ (q : Placed). IsRoot q ⊎ LiesIn (entries_of (records_of (volume_of a.content))) 2 q.parent) (entries_of (records_of (volume_of a.content))) settled.sound.entries.rooted.each drops.removes.entry it.stands) [
        | inl root ↦ absurd (omega (arith, root.id, it.high))
        | inr lies ↦ of_lies drops.removes.entry.parent lies
      ]
        where
          of_lies : (id : ℕ) → LiesIn (entries_of (records_of (volume_of a.content))) 2 id → IsFolderId (entries_of (records_of (volume_of a.content))) id
          of_lies _ is_it = let root = settled.sound.entries.rooted.root in (root.0, root.1, root.2.folder, root.2.id)
          of_lies _ (below id f there is_a same lies) = (f, there, is_a, same)

      may_leave : Leaves drops.removes.entry (volume_of a.content).head.next_catalog_id (records_of (volume_of a.content))
      may_leave = record {
        kind = no_thread drops.removes.entry.value is_a;
        named = it.shows.named;
        not_link = folder_no_link drops.removes.entry is_a;
        high = it.high;
        not_own = it.shows.not_own;
        folder = above;
        visible = it.shows.visible;
        childless = childless;
      }

      -- behind the removal, records and threads match one to one
      pub threads_after : AreThreaded (lists_of w b.content).catalog_pairs
      threads_after =
          threads_less drops.removes.entry (lists_of w b.content).catalog_pairs (volume_of a.content).catalog_pairs dropped_entry (volume_of a.content).head.next_catalog_id may_leave (settled_sorted v a.content was.trees settled)
          settled.sound.entries.threads settled.sound.entries.rooted settled.sound.entries.ids

      -- and the folder above is there
      above_left : Contains (entries_of (placed_in (lists_of w b.content).catalog_pairs)) above.0
      above_left =
          let added = entries_added drops.removes.entry (placed_in (lists_of w b.content).catalog_pairs) (placed_in dropped_entry.between) (placed_in (volume_of a.content).catalog_pairs)
          (placed_adds drops.removes.entry dropped_entry.pair (lists_of w b.content).catalog_pairs dropped_entry.between dropped_entry.entry_added dropped_entry.is_entry.stands)
          (placed_adds (thread_with dropped_entry.spare drops.removes.entry) dropped_entry.thread dropped_entry.between (volume_of a.content).catalog_pairs dropped_entry.thread_added dropped_entry.is_thread.stands)
          it.shows.named in
          elim (inserted_cases (entries_of (placed_in (lists_of w b.content).catalog_pairs)) added.place drops.removes.entry above.0 (subst (λ l. Contains l above.0) added.is above.1)) [
            | inl same ↦ absurd (omega (
              arith,
              childless,
              one_there (λ (p : Placed). p.parent == id_of drops.removes.entry) (entries_of (records_of (volume_of a.content))) drops.removes.entry it.stands (ap (λ n. n == id_of drops.removes.entry) (sym above.3 ∙ ap id_of same) ∙ same_number (id_of drops.removes.entry)),
            ))
            | inr stands ↦ stands
          ]

      pub folder_after : v.header.next_catalog_id < 2 ^ 32 → HasFolder at.parent 0 (lists_of w b.content).catalog_pairs
      folder_after fits =
          let next = ap (λ (h : VolumeHeader). h.next_catalog_id) head_is in
          let low = counts_low (volume_of a.content).head.next_catalog_id (entries_of (records_of (volume_of a.content))) settled.sound.blocks.header.next_id settled.sound.entries.ids (λ (p : Placed). p.parent == id_of above.0) in
          let valence = each_of (λ (p : Placed). is_folder p.value ≡ true → valence_in p.value ≡ count_in (entries_of (records_of (volume_of a.content))) (id_of p)) (entries_of (records_of (volume_of a.content))) settled.sound.entries.counts.valences
          above.0 above.1 above.2 in
          record {
            entry = above.0;
            stands = above_left;
            number = above.3 ∙ parent_is;
            folder = above.2;
            fits = omega (arith, valence, low, next, fits);
          }

    -- the folder that was removed isn't the private folder
    private_dropped : private_id (placed_in (volume_of a.content).catalog_pairs) ≡ private_id (placed_in (lists_of w b.content).catalog_pairs)
    private_dropped =
        let added = dropped_entry in
        private_kept drops.removes.entry (placed_in (lists_of w b.content).catalog_pairs) (placed_in dropped_entry.between) (placed_in (volume_of a.content).catalog_pairs)
        (placed_adds drops.removes.entry dropped_entry.pair (lists_of w b.content).catalog_pairs dropped_entry.between dropped_entry.entry_added dropped_entry.is_entry.stands)
        (placed_adds (thread_with dropped_entry.spare drops.removes.entry) dropped_entry.thread dropped_entry.between (volume_of a.content).catalog_pairs dropped_entry.thread_added dropped_entry.is_thread.stands)
        (third_false (drops.removes.entry.parent == 2) (bytes_eq drops.removes.entry.name journal_name) (bytes_eq drops.removes.entry.name journal_info_name) (bytes_eq drops.removes.entry.name private_name) it.shows.not_own)

    nodes : HasSameNodes (volume_of a.content).catalog_tree (facts_on w.catalog.file)
    nodes = record {
      total = drops.changes.nodes.0 ∙ sym (ap (λ (l : VolumeState). l.catalog_tree.shape.total) settled.lists);
      size = drops.changes.nodes.1 ∙ sym (ap (λ (l : VolumeState). l.catalog_tree.shape.node_size) settled.lists);
    }

    -- behind the removal
    dropped_is : lists_then a.content w b.content ≡ record (volume_of a.content) { head = with_folder_removed (volume_of a.content).head; catalog_pairs = (lists_of w b.content).catalog_pairs; catalog_tree = facts_on w.catalog.file }
    dropped_is =
        (λ i. record (drops.changes.lists i) { attributes_tree = (volume_of a.content).attributes_tree })
        ∙ sym (λ i. record (settled.lists i) { head = w.header; catalog_pairs = (lists_of w b.content).catalog_pairs; catalog_tree = facts_on w.catalog.file })
        ∙ (λ i. record (volume_of a.content) { head = (drops.header ∙ ap with_folder_removed (sym head_is)) i; catalog_pairs = (lists_of w b.content).catalog_pairs; catalog_tree = facts_on w.catalog.file })

    module _ (bare : HasNoAttributes at.id (volume_of a.content).attribute_pairs) (u : Volume) (c : Space) (stands : IsStanding u c) (t : TouchesFolder at.parent 0 1 w u b.content c.content) (law : RmdirDoes) where
      moment : w.header.modify_date ≡ (volume_of a.content).head.modify_date
      moment = ap (λ (h : VolumeHeader). h.modify_date) drops.header ∙ sym (ap (λ (h : VolumeHeader). h.modify_date) head_is)

      counts : ChangesFields drops.removes.entry.parent (IsTouched (volume_of a.content).head.modify_date 0 1) (lists_then a.content w b.content) (lists_then a.content u c.content)
      counts = record {
        entry = t.counts.entry;
        before = t.counts.before;
        after = t.counts.after;
        has = t.counts.has;
        is_entry = t.counts.is_entry ∙ sym parent_is;
        fields = subst (λ n. IsTouched n 0 1 t.counts.before t.counts.after) moment t.counts.fields;
        changes = record {
          changes = t.counts.changes.changes;
          nodes = t.counts.changes.nodes;
          rest = λ i. record (t.counts.changes.rest i) { attributes_tree = (volume_of a.content).attributes_tree };
        };
      }

      in_catalog : InCatalog (DropsEntry drops.removes.entry) (record (volume_of a.content) { head = with_folder_removed (volume_of a.content).head }) (lists_then a.content w b.content)
      in_catalog = record { changes = dropped_entry; nodes = nodes; rest = dropped_is }

      abbrev removes : RemovesFolder at.id (volume_of a.content) (lists_then a.content u c.content)
      removes = record {
        entry = drops.removes.entry;
        stands = it.stands;
        is_entry = its_id;
        bared = volume_of a.content;
        bares = bares_nothing at.id (volume_of a.content) bare;
        dropped = lists_then a.content w b.content;
        drops = in_catalog;
        sorted = settled_sorted v a.content was.trees settled;
        counts = counts;
      }

      does : IsSoundVolume (lists_then a.content u c.content) × (tree_in (lists_then a.content u c.content) (bytes_in a.content) ≡ (step (tree_in (volume_of a.content) (bytes_in a.content)) (command.Rmdir leaving.path)).1)
          × PutsInValues (tree_in (volume_of a.content) (bytes_in a.content)) (command.Rmdir leaving.path) (volume_of a.content) (lists_then a.content u c.content)
      does = law leaving.path (folder_at at name) (volume_of a.content) (lists_then a.content u c.content) (bytes_in a.content) (file_bytes_are a.content) settled.sound allowed removes

      changes : ChangesCatalog v u a.content c.content
      changes = changes_both v w u a.content b.content c.content drops.changes t.changes

      headed : header_of_volume c.content ≡ u.header
      headed = t.headed ∙ drops.headed ∙ sym (ap (λ (x : Volume). x.header) t.rest)

      abbrev value : CatRecord
      value = with_fields (λ _. t.counts.after) t.counts.entry.value

      abbrev parts : Splits t.counts.entry (record t.counts.entry { value = value }) (placed_in (lists_of w b.content).catalog_pairs) (placed_in (lists_of u c.content).catalog_pairs)
      parts = placed_splits t.counts.entry value (lists_of w b.content).catalog_pairs (lists_of u c.content).catalog_pairs t.counts.changes.changes

      module _ (threads : AreThreaded (lists_of w b.content).catalog_pairs) where
        above_there : Contains (placed_in (lists_of w b.content).catalog_pairs) t.counts.entry
        above_there = subst (λ l. Contains l t.counts.entry) (sym parts.was) (Contains-append_right parts.front (t.counts.entry ∷ parts.back) t.counts.entry (at_front t.counts.entry parts.back))

        above_named : is_empty t.counts.entry.name ≡ false
        above_named =
            sym (each_of (λ (p : Placed). is_thread p.value ≡ is_empty p.name) (placed_in (lists_of w b.content).catalog_pairs) threads.kinds t.counts.entry above_there)
            ∙ not_thread t.counts.entry.value t.counts.before t.counts.has

        private : private_id (placed_in (lists_of u c.content).catalog_pairs) ≡ private_id (placed_in (lists_of v a.content).catalog_pairs)
        private =
            ap private_id parts.is ∙ private_same t.counts.entry value parts.front parts.back above_named t.counts.changes.changes.alike ∙ sym (ap private_id parts.was)
            ∙ sym private_dropped ∙ ap (λ (l : List Pair). private_id (placed_in l)) pairs_are

        pub emptied_does : IsSettled u c.content × (tree_of c.content ≡ (step (tree_of a.content) (command.Rmdir leaving.path)).1)
        unfolding tree_of
        emptied_does = (
          settles_again v u a c changes settled was stands headed does.0 private,
          tree_again v u a c changes settled was stands headed does.0 ∙ does.1,
        )

        -- in the lists of the content
        takes_then : TakesFolder at.id (volume_of a.content) (lists_then a.content u c.content)
        takes_then = record { removes = removes; folder = is_a }

        pub emptied_takes : TakesFolder at.id (volume_of a.content) (volume_of c.content)
        emptied_takes = subst (λ (l : VolumeState). TakesFolder at.id (volume_of a.content) l) (sym (lists_again v u a c changes settled was emptied_does.0)) takes_then
