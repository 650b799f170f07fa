-- `rm` of an only name: where the file was put aside, and both folders count it, the volume is settled again, and its tree is the step's.
use Rattle.std.proofs.Common.{◌≡◌, inl, ◌<◌, ◌≤◌, ℕ, ◌+◌, ◌^◌, Bool, true, false, List, refl, sym, ◌∙◌, ap, subst, arith, ⊎_elim}
use Rattle.std.specs.Prelude.{Contains, ◌==◌, ◌&&◌, IsTrue, Option, None, Some, Ok, is_some, if◌then◌else◌}
use Rattle.std.specs.Str.{bytes_eq}
use Rattle.std.proofs.lemmas.Bool.{and_parts, eqb-true}
use Rattle.std.proofs.lemmas.Slice.Eq.{bytes_eq-Decides}
use Rattle.sector_disk.specs.Lists.{Content}
use Rattle.sector_disk.specs.Space.{Space}
use Rattle.jnl_format.specs.Recovery.{header_of_volume}
use Rattle.btree_node.specs.Keys.{IsCatalogKey}
use Rattle.btree_node.specs.Levels.{Pair}
use Rattle.btree_node.specs.TreeFile.{store_of}
use Rattle.btree_file.specs.Held.{file_in}
use Rattle.btree_file.specs.State.{sectors_of_tree}
use Rattle.btree_file.specs.Frame.{FollowsOn}
use Rattle.btree_file.specs.Standing.{pairs_in}
use Rattle.hard_links.specs.Orphans.{MakesOrphan}
use Rattle.hard_links.specs.declared.place.EntryAt.{EntryAt}
use Rattle.hfs_language.specs.declared.command.Command.TheVariants as command
use Rattle.hfs_model.specs.Step.{is_private_name, journal_info_name, journal_name, private_name, step, to_rm}
use Rattle.hfs_model.specs.declared.plain.PlainEntry.{PlainEntry}
use Rattle.volume_header.specs.declared.header.VolumeHeader.{VolumeHeader}
use Rattle.hfs_volume.specs.Changes.{HasSameNodes, InCatalog, MovesEntry}
use Rattle.hfs_volume.specs.Commands.{ChangesFields, IsRecounted, IsTouched, with_counts}
use Rattle.hfs_volume.specs.Content.{VolumeState, volume_of, records_of}
use Rattle.hfs_volume.specs.Entries.{AreThreaded, count_in}
use Rattle.hfs_volume.specs.Laws.{IsFolderId, one_if}
use Rattle.hfs_volume.specs.Links.{private_id}
use Rattle.hfs_volume.specs.Naming.{RemovesFile, RmDoes, orphan_name, private_ids}
use Rattle.hfs_volume.specs.Records.{Placed, entries_of, id_of, is_empty, is_folder, is_link, is_placed_at, is_thread, placed_in, record_at, valence_in}
use Rattle.hfs_volume.specs.Sound.{IsSoundVolume}
use Rattle.hfs_volume.specs.TreeOf.{bytes_in, tree_in, tree_of}
use Rattle.hfs_volume.proofs.Ascending.{tree_sorted}
use Rattle.hfs_volume.proofs.Bytes.{file_bytes_are}
use Rattle.hfs_volume.proofs.Flat.{found_some}
use Rattle.hfs_volume.proofs.Hiding.{one_there, private_is}
use Rattle.hfs_volume.proofs.Making.{tree_entries}
use Rattle.hfs_volume.proofs.Members.{each_of}
use Rattle.hfs_volume.proofs.Reaching.{front_is}
use Rattle.hfs_volume.proofs.Seeing.{private_kept, same_number}
use Rattle.hfs_volume.proofs.Sides.{OneMore, count_more, entry_cases, is_entry_of, one_more, still_entry, the_entry, threads_without}
use Rattle.hfs_volume.proofs.Threading.{threads_kept}
use Rattle.volume_base.specs.Changing.{ChangesCatalog, HasFolder, TouchesFolder}
use Rattle.volume_base.specs.Lists.{lists_of, facts_on}
use Rattle.volume_names.specs.Losing.{Buries, Loses, PutsAside}
use Rattle.volume_base.specs.Losing.{IsLoss, IsOnlyName}
use Rattle.volume_base.specs.Standing.{HoldsTrees, IsStanding, IsSettled}
use Rattle.volume_base.specs.declared.volume.Volume.{Volume}
use Rattle.volume_names.proofs.Carried.{AreCarried, both_carry, fields_carry, fields_private, then_fields, threads_changed}
use Rattle.volume_base.proofs.Counted.{counts_lower}
use Rattle.volume_base.proofs.CatalogEdited.{catalog_same}
use Rattle.volume_base.proofs.ListsAgain.{lists_again}
use Rattle.volume_base.proofs.ListsAfter.{catalog_changes, changes_both, header_stays}
use Rattle.volume_names.proofs.Made.{third_false}
use Rattle.volume_base.proofs.Rising.{settled_sorted}
use Rattle.volume_base.proofs.Settling.{lists_then, settles_again, tree_again, header_settled}

-- what putting a file aside does to a volume
pub puts_aside : (v w : Volume) (a b : Space) (private : ℕ) (place : EntryAt) → IsStanding v a → IsTrue a.tells → FollowsOn v.catalog.file w.catalog.file a b → w ≡ record v { catalog = w.catalog } → IsStanding w b
    → MakesOrphan private place (pairs_in (sectors_of_tree v.catalog.file) a.content) (pairs_in (sectors_of_tree v.catalog.file) b.content) → PutsAside private place v w a.content b.content
puts_aside v w a b private place was tells follows rest stands moves = record {
  moves = subst (λ (l : List ℕ). MakesOrphan private place (pairs_in (sectors_of_tree v.catalog.file) a.content) (pairs_in l b.content)) (sym (catalog_same v a b w.catalog follows)) moves;
  changes = subst (λ (x : Volume). ChangesCatalog v x a.content b.content) (sym rest) (catalog_changes v a b w.catalog follows was tells stands.trees.catalog);
  rest = rest;
  headed = header_stays v a b w.catalog follows was tells stands.trees.catalog;
}

never : (b : Bool) → (b && false) ≡ false
never true = refl
never false = refl

abbrev entry_or : Placed → Option Placed → Placed
entry_or other None = other
entry_or other (Some p) = p

-- a folder whose entries changed at a moment counts them
pub recounted : (moment up down id : ℕ) (old new : VolumeState) → ChangesFields id (IsTouched moment up down) old new → ChangesFields id (IsRecounted up down) old new
recounted moment up down id old new t = record {
  entry = t.entry;
  before = t.before;
  after = t.after;
  has = t.has;
  is_entry = t.is_entry;
  fields = record { id = t.fields.id; count = t.fields.count };
  changes = t.changes;
}

-- a private folder that is there takes no CNID
abbrev pub opened_with : ℕ → VolumeState → VolumeState
opened_with more old = record old { head = with_counts (old.head.next_catalog_id + more) old.head.file_count (old.head.folder_count + more) old.head }

plus_none : (n : ℕ) → n + 0 ≡ n
plus_none n = omega arith

own_counts : (h : VolumeHeader) → with_counts h.next_catalog_id h.file_count h.folder_count h ≡ h
own_counts h = refl

own_head : (old : VolumeState) → record old { head = old.head } ≡ old
own_head old = refl

pub unopened : (old : VolumeState) → opened_with 0 old ≡ old
unopened old =
    (λ i. record old { head = with_counts (plus_none old.head.next_catalog_id i) old.head.file_count (plus_none old.head.folder_count i) old.head })
    ∙ ap (λ (h : VolumeHeader). record old { head = h }) (own_counts old.head) ∙ own_head old

-- so it lost its name
pub loses_there : (entry : PlainEntry) (before after : Content) → IsSoundVolume (volume_of before) → Buries entry before after → Loses entry before after
loses_there entry before after sound buries = record { opened = volume_of before; opens = inl refl; sound = sound; there = buries.there; removes = buries.removes }

module _ (v : Volume) (a : Space) (settled : IsSettled v a.content) (was : IsStanding v a) (path : List (List ℕ)) (at : PlainEntry) (place : EntryAt) (loss : IsLoss (tree_of a.content) path at place)
    (only : IsOnlyName place (lists_of v a.content).catalog_pairs) (private : ℕ) (here : v.private ≡ Some private) (next_fits : v.header.next_catalog_id < 2 ^ 32)
  where
    pairs_are : (volume_of a.content).catalog_pairs ≡ (lists_of v a.content).catalog_pairs
    pairs_are = ap (λ (l : VolumeState). l.catalog_pairs) settled.lists

    head_is : (volume_of a.content).head ≡ v.header
    head_is = ap (λ (l : VolumeState). l.head) settled.lists

    allowed : to_rm (tree_in (volume_of a.content) (bytes_in a.content)) path ≡ Ok at
    unfolding tree_of
    allowed = loss.allowed

    private_here : private_id (records_of (volume_of a.content)) ≡ Some private
    private_here = sym settled.private ∙ here

    -- ---- the places, by the records

    private_folder : IsFolderId (entries_of (records_of (volume_of a.content))) private
    private_folder = let p = private_is (records_of (volume_of a.content)) private private_here in (p.0, p.1, p.2, p.3)

    from_folder : IsFolderId (entries_of (records_of (volume_of a.content))) loss.above.id
    unfolding tree_of
    from_folder =
        (front_is (records_of (volume_of a.content)) (volume_of a.content).head.next_catalog_id settled.sound.entries.ids settled.sound.entries.rooted (tree_in (volume_of a.content) (bytes_in a.content)) (tree_entries (volume_of a.content) (bytes_in a.content))
        path loss.above loss.not_root loss.not_own loss.reaches loss.above_is.0).0.folder

    from_not_own : ((place.parent == 2) && is_private_name place.name) ≡ false
    unfolding tree_of
    from_not_own =
        (λ i. (sym loss.above_is.1 i == 2) && is_private_name (sym loss.last i))
        ∙ (front_is (records_of (volume_of a.content)) (volume_of a.content).head.next_catalog_id settled.sound.entries.ids settled.sound.entries.rooted (tree_in (volume_of a.content) (bytes_in a.content)) (tree_entries (volume_of a.content) (bytes_in a.content))
        path loss.above loss.not_root loss.not_own loss.reaches loss.above_is.0).1

    -- each folder counts less than there are CNIDs
    valence_low : (y : Placed) → Contains (entries_of (records_of (volume_of a.content))) y → is_folder y.value ≡ true → valence_in y.value + 1 < 2 ^ 32
    valence_low y stands kind =
        omega (
          arith,
          each_of (λ (p : Placed). is_folder p.value ≡ true → valence_in p.value ≡ count_in (entries_of (records_of (volume_of a.content))) (id_of p)) (entries_of (records_of (volume_of a.content))) settled.sound.entries.counts.valences y stands kind,
          counts_lower (volume_of a.content).head.next_catalog_id (entries_of (records_of (volume_of a.content))) settled.sound.blocks.header.next_id settled.sound.entries.ids (λ (p : Placed). p.parent == id_of y),
          ap (λ (h : VolumeHeader). h.next_catalog_id) head_is,
          next_fits,
        )

    has_folder : (more up : ℕ) → more + up ≤ 1 → (n : ℕ) (pairs : List Pair) → AreCarried more (volume_of a.content).catalog_pairs pairs → IsFolderId (entries_of (records_of (volume_of a.content))) n → HasFolder n up pairs
    has_folder more up few n pairs carry of =
        let it = carry of.0 of.1 in
        record { entry = it.0; stands = it.1; number = it.2.id ∙ of.3; folder = it.2.folder ∙ of.2; fits = omega (arith, few, it.2.count, valence_low of.0 of.1 of.2) }

    module _ (w : Volume) (b : Content) (aside : PutsAside private place v w a.content b) (holds_w : HoldsTrees w b) where
      orphaned : MakesOrphan private place (volume_of a.content).catalog_pairs (lists_of w b).catalog_pairs
      orphaned = subst (λ (l : List Pair). MakesOrphan private place l (lists_of w b).catalog_pairs) (sym pairs_are) aside.moves

      abbrev gone : Placed
      gone = record orphaned.entry { parent = private; name = orphan_name orphaned.number }

      there : Contains (records_of (volume_of a.content)) orphaned.entry × (is_placed_at place.parent place.name orphaned.entry ≡ true)
      there = found_some (is_placed_at place.parent place.name) (records_of (volume_of a.content)) orphaned.entry orphaned.found

      parent_is : orphaned.entry.parent ≡ place.parent
      parent_is = eqb-true orphaned.entry.parent place.parent (and_parts (orphaned.entry.parent == place.parent) (bytes_eq orphaned.entry.name place.name) there.1).0

      name_is : orphaned.entry.name ≡ place.name
      name_is = (bytes_eq-Decides orphaned.entry.name place.name).0 (and_parts (orphaned.entry.parent == place.parent) (bytes_eq orphaned.entry.name place.name) there.1).1

      named : is_empty orphaned.entry.name ≡ false
      named = ap is_empty name_is ∙ loss.named

      entry_stands : Contains (entries_of (records_of (volume_of a.content))) orphaned.entry
      entry_stands = is_entry_of (records_of (volume_of a.content)) orphaned.entry there.0 named

      not_link : is_link orphaned.entry ≡ false
      not_link =
          ap is_link (ap (entry_or orphaned.entry) (sym orphaned.found ∙ ap (λ (l : List Pair). record_at (placed_in l) place.parent place.name) pairs_are ∙ only.names.found)) ∙ only.not_link

      kind : is_thread orphaned.entry.value ≡ false
      kind = each_of (λ (p : Placed). is_thread p.value ≡ is_empty p.name) (records_of (volume_of a.content)) settled.sound.entries.threads.kinds orphaned.entry there.0 ∙ named

      gone_named : is_empty (orphan_name orphaned.number) ≡ false
      gone_named = refl

      side_out : OneMore orphaned.entry (placed_in orphaned.moves.between) (records_of (volume_of a.content))
      side_out = one_more orphaned.moves.out named

      side_back : OneMore gone (placed_in orphaned.moves.between) (placed_in (lists_of w b).catalog_pairs)
      side_back = one_more orphaned.moves.back gone_named

      fresh : (p : Placed) → Contains (entries_of (placed_in orphaned.moves.between)) p → (id_of p == id_of orphaned.entry) ≡ false
      fresh p stands = by (id_of p == id_of orphaned.entry) refl
        where
          by : (t : Bool) → (id_of p == id_of orphaned.entry) ≡ t → t ≡ false
          by false is = refl
          by true is = absurd (omega (
            arith,
            settled.sound.entries.ids.distinct (id_of orphaned.entry),
            count_more side_out (λ (q : Placed). id_of q == id_of orphaned.entry),
            ap one_if (same_number (id_of orphaned.entry)),
            one_there (λ (q : Placed). id_of q == id_of orphaned.entry) (entries_of (placed_in orphaned.moves.between)) p stands is,
          ))

      threads_between : AreThreaded orphaned.moves.between
      threads_between = threads_without orphaned.entry orphaned.moves.between (volume_of a.content).catalog_pairs orphaned.moves.out named (settled_sorted v a.content was.trees settled) fresh settled.sound.entries.threads

      -- behind it, records and threads match one to one
      pub threads_aside : AreThreaded (lists_of w b).catalog_pairs
      threads_aside = threads_kept gone orphaned.moves.between (lists_of w b).catalog_pairs orphaned.moves.back kind gone_named threads_between

      carried : AreCarried 0 (volume_of a.content).catalog_pairs (lists_of w b).catalog_pairs
      carried y stands = ⊎_elim
          (λ same. (gone, the_entry side_back, record { id = sym (ap id_of same); folder = sym (ap (λ (p : Placed). is_folder p.value) same); count = omega (arith, ap (λ (p : Placed). valence_in p.value) same) }))
          (λ kept. (y, still_entry side_back y kept, record { id = refl; folder = refl; count = omega arith }))
          (entry_cases side_out y stands)

      pub private_after : HasFolder private 1 (lists_of w b).catalog_pairs
      private_after = has_folder 0 1 (omega arith) private (lists_of w b).catalog_pairs carried private_folder

      module _ (x : Volume) (c : Content) (first : TouchesFolder private 1 0 w x b c) where
        pub threads_hidden : AreThreaded (lists_of x c).catalog_pairs
        threads_hidden = threads_changed private (lists_of w b) (lists_of x c) first.counts threads_aside

        carried_first : AreCarried 1 (volume_of a.content).catalog_pairs (lists_of x c).catalog_pairs
        carried_first = both_carry 0 1 (volume_of a.content).catalog_pairs (lists_of w b).catalog_pairs (lists_of x c).catalog_pairs carried
            (fields_carry private (lists_of w b) (lists_of x c) first.counts threads_aside 1 (omega (arith, first.counts.fields.count)))

        pub from_after : HasFolder place.parent 0 (lists_of x c).catalog_pairs
        from_after = has_folder 1 0 (omega arith) place.parent (lists_of x c).catalog_pairs carried_first (subst (λ n. IsFolderId (entries_of (records_of (volume_of a.content))) n) loss.above_is.1 from_folder)

        -- ---- the law

        module _ (u : Volume) (e : Space) (loses : TouchesFolder place.parent 0 1 x u c e.content) (stands_u : IsStanding u e) (law : RmDoes) where
          header_w : w.header ≡ v.header
          header_w = ap (λ (z : Volume). z.header) aside.rest

          header_x : x.header ≡ v.header
          header_x = ap (λ (z : Volume). z.header) first.rest ∙ header_w

          header_u : u.header ≡ v.header
          header_u = ap (λ (z : Volume). z.header) loses.rest ∙ header_x

          moment : (h : VolumeHeader) → h ≡ v.header → h.modify_date ≡ (volume_of a.content).head.modify_date
          moment h same = ap (λ (k : VolumeHeader). k.modify_date) (same ∙ sym head_is)

          nodes : HasSameNodes (volume_of a.content).catalog_tree (facts_on w.catalog.file)
          nodes = record {
            total = aside.changes.nodes.0 ∙ sym (ap (λ (l : VolumeState). l.catalog_tree.shape.total) settled.lists);
            size = aside.changes.nodes.1 ∙ sym (ap (λ (l : VolumeState). l.catalog_tree.shape.node_size) settled.lists);
          }

          in_catalog : InCatalog (MovesEntry orphaned.entry private (orphan_name orphaned.number)) (volume_of a.content) (lists_then a.content w b)
          in_catalog = record {
            changes = orphaned.moves;
            nodes = nodes;
            rest =
                (λ i. record (aside.changes.lists i) { attributes_tree = (volume_of a.content).attributes_tree })
                ∙ sym (λ i. record (settled.lists i) { head = w.header; catalog_pairs = (lists_of w b).catalog_pairs; catalog_tree = facts_on w.catalog.file })
                ∙ (λ i. record (volume_of a.content) { head = (header_w ∙ sym head_is) i; catalog_pairs = (lists_of w b).catalog_pairs; catalog_tree = facts_on w.catalog.file });
          }

          none_more : private_ids (records_of (volume_of a.content)) ≡ 0
          none_more = ap (λ (o : Option ℕ). if is_some o then 0 else 1) private_here

          opened_is : opened_with (private_ids (records_of (volume_of a.content))) (volume_of a.content) ≡ volume_of a.content
          opened_is = ap (λ k. opened_with k (volume_of a.content)) none_more ∙ unopened (volume_of a.content)

          filled_at : ChangesFields private (IsRecounted 1 0) (lists_then a.content w b) (lists_then a.content x c)
          filled_at = recounted w.header.modify_date 1 0 private (lists_then a.content w b) (lists_then a.content x c) (then_fields (volume_of a.content).attributes_tree private (lists_of w b) (lists_of x c) first.counts)

          lost_at : ChangesFields at.parent (IsTouched (volume_of a.content).head.modify_date 0 1) (lists_then a.content x c) (lists_then a.content u e.content)
          lost_at =
              subst (λ (k : ℕ × ℕ). ChangesFields k.0 (IsTouched k.1 0 1) (lists_then a.content x c) (lists_then a.content u e.content)) {x = (place.parent, x.header.modify_date)} {y = (at.parent, (volume_of a.content).head.modify_date)}
              (λ i. (sym loss.is_place.0 i, moment x.header header_x i)) (then_fields (volume_of a.content).attributes_tree place.parent (lists_of x c) (lists_of u e.content) loses.counts)

          removes_file : RemovesFile at (volume_of a.content) (lists_then a.content u e.content)
          removes_file = record {
            sorted = settled_sorted v a.content was.trees settled;
            entry = orphaned.entry;
            is_entry = record { stands = entry_stands; place = (parent_is ∙ sym loss.is_place.0, name_is ∙ sym loss.is_place.1) };
            not_link = not_link;
            private = private;
            opened = opened_with (private_ids (records_of (volume_of a.content))) (volume_of a.content);
            opens = inl (private_here, refl);
            number = orphaned.number;
            moved = lists_then a.content w b;
            moves = subst (λ (l : VolumeState). InCatalog (MovesEntry orphaned.entry private (orphan_name orphaned.number)) l (lists_then a.content w b)) (sym opened_is) in_catalog;
            sorted_again = tree_sorted IsCatalogKey (store_of (file_in (sectors_of_tree w.catalog.file) b)) holds_w.catalog.file.rules;
            filled = lists_then a.content x c;
            fills = filled_at;
            loses = lost_at;
          }

          does : IsSoundVolume (lists_then a.content u e.content) × (tree_in (lists_then a.content u e.content) (bytes_in a.content) ≡ (step (tree_in (volume_of a.content) (bytes_in a.content)) (command.Rm path)).1)
          does = law path at (volume_of a.content) (lists_then a.content u e.content) (bytes_in a.content) (file_bytes_are a.content) settled.sound allowed (inl removes_file)

          changes : ChangesCatalog v u a.content e.content
          changes = changes_both v x u a.content c e.content (changes_both v w x a.content b c aside.changes first.changes) loses.changes

          headed : header_of_volume e.content ≡ u.header
          headed = loses.headed ∙ first.headed ∙ aside.headed ∙ header_settled v a.content settled ∙ sym header_u

          private_same : private_id (placed_in (lists_of u e.content).catalog_pairs) ≡ private_id (placed_in (lists_of v a.content).catalog_pairs)
          private_same =
              fields_private place.parent (lists_of x c) (lists_of u e.content) loses.counts threads_hidden
              ∙ fields_private private (lists_of w b) (lists_of x c) first.counts threads_aside
              ∙ private_kept gone (placed_in orphaned.moves.between) side_back.mid (placed_in (lists_of w b).catalog_pairs) side_back.first side_back.second (never (private == 2))
              ∙ sym (private_kept orphaned.entry (placed_in orphaned.moves.between) side_out.mid (records_of (volume_of a.content)) side_out.first side_out.second
              ((λ i. (parent_is i == 2) && bytes_eq (name_is i) private_name) ∙ third_false (place.parent == 2) (bytes_eq place.name journal_name) (bytes_eq place.name journal_info_name) (bytes_eq place.name private_name) from_not_own))
              ∙ ap (λ (l : List Pair). private_id (placed_in l)) pairs_are

          settled_now : IsSettled u e.content
          settled_now = settles_again v u a e changes settled was stands_u headed does.0 private_same

          pub buried_does : IsSettled u e.content × (tree_of e.content ≡ (step (tree_of a.content) (command.Rm path)).1) × Buries at a.content e.content
          unfolding tree_of
          buried_does = (
            settled_now,
            tree_again v u a e changes settled was stands_u headed does.0 ∙ does.1,
            record { there = ap (λ (o : Option ℕ). is_some o) private_here; removes = subst (λ (l : VolumeState). RemovesFile at (volume_of a.content) l) (sym (lists_again v u a e changes settled was settled_now)) removes_file },
          )
