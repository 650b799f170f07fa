-- `mv`: where the entry was moved, both folders count it, and what was moved is dated, the volume is settled again, and its tree is the step's.
use Rattle.std.proofs.Common.{◌≡◌, ◌<◌, ◌≤◌, ℕ, ◌+◌, ◌^◌, Bool, true, false, List, [], ◌∷◌, eq-eqb, inl, refl, sym, ◌∙◌, ap, subst, arith, ⊎_elim}
use Rattle.std.specs.Prelude.{Contains, ◌==◌, ◌&&◌, IsTrue, None, Ok}
use Rattle.std.specs.Str.{bytes_eq}
use Rattle.std.proofs.lemmas.Bool.{and_parts, eqb-true, true≢false}
use Rattle.std.proofs.lemmas.Slice.Eq.{bytes_eq-Decides}
use Rattle.sector_disk.specs.Lists.{Content}
use Rattle.sector_disk.specs.Space.{Space}
use Rattle.jnl_format.specs.Recovery.{header_of_volume}
use Rattle.btree_node.specs.Keys.{IsCatalogKey}
use Rattle.btree_node.specs.Levels.{Pair}
use Rattle.btree_node.specs.TreeFile.{store_of}
use Rattle.btree_file.specs.Held.{file_in}
use Rattle.btree_file.specs.State.{sectors_of_tree}
use Rattle.btree_file.specs.Frame.{FollowsOn}
use Rattle.btree_file.specs.Standing.{pairs_in}
use Rattle.catalog.specs.Entries.{AnswersMove, Moving, RelocatesEntry}
use Rattle.catalog.specs.declared.moving.Moved.{Moved}
use Rattle.catalog.specs.declared.moving.Moved.TheVariants as moved
use Rattle.hfs_language.specs.declared.command.Command.TheVariants as command
use Rattle.hfs_model.specs.Step.{is_private_name, journal_info_name, journal_name, private_name, is_root, reached, root_entry, step, to_make, to_mv}
use Rattle.hfs_model.specs.declared.plain.PlainEntry.{PlainEntry}
use Rattle.hfs_model.specs.declared.plain.PlainNode.{PlainNode}
use Rattle.volume_header.specs.declared.header.VolumeHeader.{VolumeHeader}
use Rattle.hfs_volume.specs.Changes.{HasSameNodes, InCatalog, MovesEntry}
use Rattle.hfs_volume.specs.Commands.{ChangesFields, IsMarkedAlone, IsTouched}
use Rattle.hfs_volume.specs.Content.{VolumeState, volume_of, records_of, attributes_of}
use Rattle.hfs_volume.specs.Entries.{AreThreaded, count_in}
use Rattle.hfs_volume.specs.Laws.{IsFolderId, one_if}
use Rattle.hfs_volume.specs.Links.{private_id}
use Rattle.hfs_volume.specs.Naming.{MovesName, MvDoes}
use Rattle.hfs_volume.specs.Records.{Placed, entries_of, id_of, is_empty, is_folder, is_placed_at, is_thread, placed_in, record_at, valence_in}
use Rattle.hfs_volume.specs.Sound.{IsSoundVolume}
use Rattle.hfs_volume.specs.TreeOf.{bytes_in, tree_in, tree_of, valued}
use Rattle.hfs_volume.proofs.Ascending.{tree_sorted}
use Rattle.hfs_volume.proofs.Bytes.{file_bytes_are}
use Rattle.hfs_volume.proofs.Flat.{found_none, found_some}
use Rattle.hfs_volume.proofs.Hiding.{one_there}
use Rattle.hfs_volume.proofs.Making.{tree_entries}
use Rattle.hfs_volume.proofs.Members.{each_of}
use Rattle.hfs_volume.proofs.NodesOf.{IsNodeOf, nodes_from}
use Rattle.hfs_volume.proofs.Reaching.{front_is, new_place_is, seen_entry_of, walked}
use Rattle.hfs_volume.proofs.Seeing.{private_kept, same_number}
use Rattle.hfs_volume.proofs.Sides.{OneMore, count_more, entry_cases, entry_is_record, is_entry_of, one_more, still_entry, the_entry, threads_without}
use Rattle.hfs_volume.proofs.Threading.{threads_kept}
use Rattle.volume_base.specs.Changing.{ChangesCatalog, HasFolder, TouchesFolder}
use Rattle.volume_names.specs.Changing.{DatesEntry, HasEntry}
use Rattle.volume_base.specs.Lists.{lists_of, facts_on}
use Rattle.volume_base.specs.Making.{free_place}
use Rattle.volume_base.specs.Moving.{IsMove}
use Rattle.volume_names.specs.Moving.{MovesTo}
use Rattle.volume_base.specs.Standing.{HoldsTrees, IsStanding, IsSettled}
use Rattle.volume_base.specs.declared.volume.Volume.{Volume}
use Rattle.volume_names.proofs.Carried.{AreCarried, both_carry, fields_carry, fields_private, then_fields, threads_changed}
use Rattle.volume_base.proofs.Counted.{counts_lower}
use Rattle.volume_base.proofs.Listed.{nodes_are}
use Rattle.volume_base.proofs.CatalogEdited.{catalog_same}
use Rattle.volume_base.proofs.ListsAgain.{lists_again}
use Rattle.volume_base.proofs.ListsAfter.{catalog_changes, changes_both, header_stays}
use Rattle.volume_names.proofs.Made.{third_false}
use Rattle.volume_base.proofs.Rising.{settled_sorted}
use Rattle.volume_base.proofs.Settling.{lists_then, settles_again, tree_again, header_settled}
use Rattle.volume_base.proofs.ToNode.{node_there}

-- what moving an entry does to a volume
pub replaced_move : (v w : Volume) (a b : Space) (parent : ℕ) (old : List ℕ) (folder : ℕ) (name : List ℕ) → IsStanding v a → IsTrue a.tells → FollowsOn v.catalog.file w.catalog.file a b → w ≡ record v { catalog = w.catalog } → IsStanding w b
    → (record_at (placed_in (lists_of v a.content).catalog_pairs) parent old ≡ None → ⊥) → record_at (placed_in (lists_of v a.content).catalog_pairs) folder name ≡ None → (answer : Moved)
    → AnswersMove (record_at (placed_in (pairs_in (sectors_of_tree v.catalog.file) a.content)) parent old) (record_at (placed_in (pairs_in (sectors_of_tree v.catalog.file) a.content)) folder name) answer
    → Moving parent old folder name (pairs_in (sectors_of_tree v.catalog.file) a.content) (pairs_in (sectors_of_tree v.catalog.file) b.content) answer → MovesTo parent old folder name v w a.content b.content
replaced_move v w a b parent old folder name was tells follows rest stands some free moved.Absent answers moves = absurd (some answers)
replaced_move v w a b parent old folder name was tells follows rest stands some free moved.Exists answers moves = absurd (answers.1 free)
replaced_move v w a b parent old folder name was tells follows rest stands some free moved.Done answers moves = record {
  moves = subst (λ (l : List ℕ). RelocatesEntry parent old folder name (pairs_in (sectors_of_tree v.catalog.file) a.content) (pairs_in l b.content)) (sym (catalog_same v a b w.catalog follows)) moves;
  changes = subst (λ (x : Volume). ChangesCatalog v x a.content b.content) (sym rest) (catalog_changes v a b w.catalog follows was tells stands.trees.catalog);
  rest = rest;
  headed = header_stays v a b w.catalog follows was tells stands.trees.catalog;
}

-- a folder or file stands still behind a count of another one
pub entry_carried : (folder id : ℕ) (v w : Volume) (a b : Content) (t : TouchesFolder folder 1 0 v w a b) → AreThreaded (lists_of v a).catalog_pairs → HasEntry id (lists_of v a).catalog_pairs → HasEntry id (lists_of w b).catalog_pairs
entry_carried folder id v w a b t threads had =
    let it = fields_carry folder (lists_of v a) (lists_of w b) t.counts threads 1 (omega (arith, t.counts.fields.count)) had.entry had.stands in
    record { entry = it.0; stands = it.1; number = it.2.id ∙ had.number }

module _ (v : Volume) (a : Space) (settled : IsSettled v a.content) (was : IsStanding v a) (from to : List (List ℕ)) (at : PlainEntry) (parent : ℕ) (old : List ℕ) (id folder : ℕ) (name : List ℕ) (move : IsMove (tree_of a.content) from to at parent old id folder name) (next_fits : v.header.next_catalog_id < 2 ^ 32) where
  abbrev before : VolumeState
  before = volume_of a.content

  pairs_are : (volume_of a.content).catalog_pairs ≡ (lists_of v a.content).catalog_pairs
  pairs_are = ap (λ (l : VolumeState). l.catalog_pairs) settled.lists

  head_is : (volume_of a.content).head ≡ v.header
  head_is = ap (λ (l : VolumeState). l.head) settled.lists

  allowed : to_mv (tree_in (volume_of a.content) (bytes_in a.content)) from to ≡ Ok (at, free_place folder name)
  unfolding tree_of
  allowed = move.allowed

  can_make : to_make (tree_in (volume_of a.content) (bytes_in a.content)) to ≡ Ok (free_place folder name)
  unfolding tree_of
  can_make = move.can_make

  -- ---- the places, by the records

  goal_folder : IsFolderId (entries_of (records_of (volume_of a.content))) folder
  goal_folder =
      (new_place_is (records_of (volume_of a.content)) (volume_of a.content).head.next_catalog_id settled.sound.entries.ids settled.sound.entries.rooted (tree_in (volume_of a.content) (bytes_in a.content)) (tree_entries (volume_of a.content) (bytes_in a.content))
      to (free_place folder name) can_make move.goal_not_own move.goal_named).0.is_folder.folder

  goal_named : is_empty name ≡ false
  goal_named =
      (new_place_is (records_of (volume_of a.content)) (volume_of a.content).head.next_catalog_id settled.sound.entries.ids settled.sound.entries.rooted (tree_in (volume_of a.content) (bytes_in a.content)) (tree_entries (volume_of a.content) (bytes_in a.content))
      to (free_place folder name) can_make move.goal_not_own move.goal_named).1

  goal_not_own : ((folder == 2) && is_private_name name) ≡ false
  goal_not_own =
      (new_place_is (records_of (volume_of a.content)) (volume_of a.content).head.next_catalog_id settled.sound.entries.ids settled.sound.entries.rooted (tree_in (volume_of a.content) (bytes_in a.content)) (tree_entries (volume_of a.content) (bytes_in a.content))
      to (free_place folder name) can_make move.goal_not_own move.goal_named).0.not_own

  pub goal_free : record_at (placed_in (lists_of v a.content).catalog_pairs) folder name ≡ None
  goal_free = ap (λ (l : List Pair). record_at (placed_in l) folder name) (sym pairs_are)
      ∙ (new_place_is (records_of (volume_of a.content)) (volume_of a.content).head.next_catalog_id settled.sound.entries.ids settled.sound.entries.rooted (tree_in (volume_of a.content) (bytes_in a.content)) (tree_entries (volume_of a.content) (bytes_in a.content))
      to (free_place folder name) can_make move.goal_not_own move.goal_named).0.is_new

  -- what is moved stands there
  source : (from : List (List ℕ)) → is_root from ≡ false → reached (tree_in (volume_of a.content) (bytes_in a.content)) from ≡ Ok at
      → (p : Placed) × Contains (entries_of (records_of (volume_of a.content))) p × (p.parent ≡ at.parent) × (p.name ≡ at.name)
  source [] some is = absurd (true≢false some)
  source (first ∷ path) some is =
      let seen = walked (records_of (volume_of a.content)) (volume_of a.content).head.next_catalog_id settled.sound.entries.ids settled.sound.entries.rooted (tree_in (volume_of a.content) (bytes_in a.content)) (tree_entries (volume_of a.content) (bytes_in a.content))
      path first root_entry at is in
      let stands = seen_entry_of (records_of (volume_of a.content)) (volume_of a.content).head.next_catalog_id settled.sound.entries.ids settled.sound.entries.rooted (tree_in (volume_of a.content) (bytes_in a.content)) (tree_entries (volume_of a.content) (bytes_in a.content)) at seen in
      (seen.placed, stands, ap (λ (e : PlainEntry). e.parent) seen.is, ap (λ (e : PlainEntry). e.name) seen.is)

  source_here : (p : Placed) × Contains (entries_of (records_of (volume_of a.content))) p × (p.parent ≡ at.parent) × (p.name ≡ at.name)
  unfolding tree_of
  source_here = source from move.not_root move.reaches_it

  pub source_stands : record_at (placed_in (lists_of v a.content).catalog_pairs) parent old ≡ None → ⊥
  source_stands none =
      let p = source_here in
      let absent = found_none (is_placed_at parent old) (records_of (volume_of a.content)) (ap (λ (l : List Pair). record_at (placed_in l) parent old) pairs_are ∙ none) p.0 (entry_is_record (records_of (volume_of a.content)) p.0 p.1) in
      true≢false (sym ((λ i. (eq-eqb p.0.parent parent (p.2 ∙ move.place.0) i) && ((bytes_eq-Decides p.0.name old).1 (p.3 ∙ move.place.1) i))) ∙ absent)

  from_folder : IsFolderId (entries_of (records_of (volume_of a.content))) move.above.id
  unfolding tree_of
  from_folder =
      (front_is (records_of (volume_of a.content)) (volume_of a.content).head.next_catalog_id settled.sound.entries.ids settled.sound.entries.rooted (tree_in (volume_of a.content) (bytes_in a.content)) (tree_entries (volume_of a.content) (bytes_in a.content))
      from move.above move.not_root move.not_own move.reaches move.above_is.0).0.folder

  from_not_own : ((parent == 2) && is_private_name old) ≡ false
  unfolding tree_of
  from_not_own =
      (λ i. (sym move.above_is.1 i == 2) && is_private_name (sym move.last i))
      ∙ (front_is (records_of (volume_of a.content)) (volume_of a.content).head.next_catalog_id settled.sound.entries.ids settled.sound.entries.rooted (tree_in (volume_of a.content) (bytes_in a.content)) (tree_entries (volume_of a.content) (bytes_in a.content))
      from move.above move.not_root move.not_own move.reaches move.above_is.0).1

  node_of : IsNodeOf (valued (bytes_in a.content) (attributes_of (volume_of a.content))) (bytes_in a.content) (records_of (volume_of a.content)) move.node
  node_of = nodes_from (valued (bytes_in a.content) (attributes_of (volume_of a.content))) (bytes_in a.content) (records_of (volume_of a.content)) move.node
      (subst (λ (l : List PlainNode). Contains l move.node) (nodes_are a.content) (node_there (tree_of a.content) from move.node move.stands))

  -- each folder counts less than there are CNIDs
  valence_low : (y : Placed) → Contains (entries_of (records_of (volume_of a.content))) y → is_folder y.value ≡ true → valence_in y.value + 1 < 2 ^ 32
  valence_low y stands kind =
      omega (
        arith,
        each_of (λ (p : Placed). is_folder p.value ≡ true → valence_in p.value ≡ count_in (entries_of (records_of (volume_of a.content))) (id_of p)) (entries_of (records_of (volume_of a.content))) settled.sound.entries.counts.valences y stands kind,
        counts_lower (volume_of a.content).head.next_catalog_id (entries_of (records_of (volume_of a.content))) settled.sound.blocks.header.next_id settled.sound.entries.ids (λ (p : Placed). p.parent == id_of y),
        ap (λ (h : VolumeHeader). h.next_catalog_id) head_is,
        next_fits,
      )

  module _ (w : Volume) (b : Content) (moves : MovesTo parent old folder name v w a.content b) (holds_w : HoldsTrees w b) where
    relocates : RelocatesEntry parent old folder name (volume_of a.content).catalog_pairs (lists_of w b).catalog_pairs
    relocates = subst (λ (l : List Pair). RelocatesEntry parent old folder name l (lists_of w b).catalog_pairs) (sym pairs_are) moves.moves

    abbrev entry : Placed
    entry = relocates.entry

    abbrev gone : Placed
    gone = record relocates.entry { parent = folder; name = name }

    there : Contains (records_of (volume_of a.content)) relocates.entry × (is_placed_at parent old relocates.entry ≡ true)
    there = found_some (is_placed_at parent old) (records_of (volume_of a.content)) relocates.entry relocates.found

    parent_is : relocates.entry.parent ≡ parent
    parent_is = eqb-true relocates.entry.parent parent (and_parts (relocates.entry.parent == parent) (bytes_eq relocates.entry.name old) there.1).0

    name_is : relocates.entry.name ≡ old
    name_is = (bytes_eq-Decides relocates.entry.name old).0 (and_parts (relocates.entry.parent == parent) (bytes_eq relocates.entry.name old) there.1).1

    named : is_empty relocates.entry.name ≡ false
    named = ap is_empty name_is ∙ move.named

    entry_stands : Contains (entries_of (records_of (volume_of a.content))) relocates.entry
    entry_stands = is_entry_of (records_of (volume_of a.content)) relocates.entry there.0 named

    kind : is_thread relocates.entry.value ≡ false
    kind = each_of (λ (p : Placed). is_thread p.value ≡ is_empty p.name) (records_of (volume_of a.content)) settled.sound.entries.threads.kinds relocates.entry there.0 ∙ named

    side_out : OneMore relocates.entry (placed_in relocates.moves.between) (records_of (volume_of a.content))
    side_out = one_more relocates.moves.out named

    side_back : OneMore gone (placed_in relocates.moves.between) (placed_in (lists_of w b).catalog_pairs)
    side_back = one_more relocates.moves.back goal_named

    fresh : (p : Placed) → Contains (entries_of (placed_in relocates.moves.between)) p → (id_of p == id_of relocates.entry) ≡ false
    fresh p stands = by (id_of p == id_of relocates.entry) refl
      where
        by : (t : Bool) → (id_of p == id_of relocates.entry) ≡ t → t ≡ false
        by false is = refl
        by true is = absurd (omega (
          arith,
          settled.sound.entries.ids.distinct (id_of relocates.entry),
          count_more side_out (λ (q : Placed). id_of q == id_of relocates.entry),
          ap one_if (same_number (id_of relocates.entry)),
          one_there (λ (q : Placed). id_of q == id_of relocates.entry) (entries_of (placed_in relocates.moves.between)) p stands is,
        ))

    threads_between : AreThreaded relocates.moves.between
    threads_between = threads_without relocates.entry relocates.moves.between (volume_of a.content).catalog_pairs relocates.moves.out named (settled_sorted v a.content was.trees settled) fresh settled.sound.entries.threads

    -- behind the move, records and threads match one to one
    pub threads_moved : AreThreaded (lists_of w b).catalog_pairs
    threads_moved = threads_kept gone relocates.moves.between (lists_of w b).catalog_pairs relocates.moves.back kind goal_named threads_between

    carried : AreCarried 0 (volume_of a.content).catalog_pairs (lists_of w b).catalog_pairs
    carried y stands = ⊎_elim
        (λ same. (gone, the_entry side_back, record { id = sym (ap id_of same); folder = sym (ap (λ (p : Placed). is_folder p.value) same); count = omega (arith, ap (λ (p : Placed). valence_in p.value) same) }))
        (λ kept. (y, still_entry side_back y kept, record { id = refl; folder = refl; count = omega arith }))
        (entry_cases side_out y stands)

    has_folder : (up : ℕ) → up ≤ 1 → (n : ℕ) (pairs : List Pair) → AreCarried 0 (volume_of a.content).catalog_pairs pairs → IsFolderId (entries_of (records_of (volume_of a.content))) n → HasFolder n up pairs
    has_folder up few n pairs carry of =
        let it = carry of.0 of.1 in
        record { entry = it.0; stands = it.1; number = it.2.id ∙ of.3; folder = it.2.folder ∙ of.2; fits = omega (arith, few, it.2.count, valence_low of.0 of.1 of.2) }

    pub from_after : HasFolder parent 0 (lists_of w b).catalog_pairs
    from_after = has_folder 0 (omega arith) parent (lists_of w b).catalog_pairs carried (subst (λ n. IsFolderId (entries_of (records_of (volume_of a.content))) n) move.above_is.1 from_folder)

    module _ (x : Volume) (c : Content) (first : TouchesFolder parent 0 1 w x b c) where
      pub threads_first : AreThreaded (lists_of x c).catalog_pairs
      threads_first = threads_changed parent (lists_of w b) (lists_of x c) first.counts threads_moved

      carried_first : AreCarried 0 (volume_of a.content).catalog_pairs (lists_of x c).catalog_pairs
      carried_first = both_carry 0 0 (volume_of a.content).catalog_pairs (lists_of w b).catalog_pairs (lists_of x c).catalog_pairs carried
          (fields_carry parent (lists_of w b) (lists_of x c) first.counts threads_moved 0 (omega (arith, first.counts.fields.count)))

      pub goal_after : HasFolder folder 1 (lists_of x c).catalog_pairs
      goal_after = has_folder 1 (omega arith) folder (lists_of x c).catalog_pairs carried_first goal_folder

      pub entry_after : HasEntry id (lists_of x c).catalog_pairs
      entry_after =
          let it = carried_first node_of.entry node_of.stands in
          record { entry = it.0; stands = it.1; number = it.2.id ∙ sym node_of.id ∙ move.node_number }

      module _ (y : Volume) (d : Content) (second : TouchesFolder folder 1 0 x y c d) where
        threads_second : AreThreaded (lists_of y d).catalog_pairs
        threads_second = threads_changed folder (lists_of x c) (lists_of y d) second.counts threads_first

        -- ---- the law

        module _ (u : Volume) (e : Space) (dates : DatesEntry id y u d e.content) (stands_u : IsStanding u e) (law : MvDoes) where
          header_w : w.header ≡ v.header
          header_w = ap (λ (z : Volume). z.header) moves.rest

          header_x : x.header ≡ v.header
          header_x = ap (λ (z : Volume). z.header) first.rest ∙ header_w

          header_y : y.header ≡ v.header
          header_y = ap (λ (z : Volume). z.header) second.rest ∙ header_x

          header_u : u.header ≡ v.header
          header_u = ap (λ (z : Volume). z.header) dates.rest ∙ header_y

          moment : (h : VolumeHeader) → h ≡ v.header → h.modify_date ≡ (volume_of a.content).head.modify_date
          moment h same = ap (λ (k : VolumeHeader). k.modify_date) (same ∙ sym head_is)

          nodes : HasSameNodes (volume_of a.content).catalog_tree (facts_on w.catalog.file)
          nodes = record {
            total = moves.changes.nodes.0 ∙ sym (ap (λ (l : VolumeState). l.catalog_tree.shape.total) settled.lists);
            size = moves.changes.nodes.1 ∙ sym (ap (λ (l : VolumeState). l.catalog_tree.shape.node_size) settled.lists);
          }

          in_catalog : InCatalog (MovesEntry relocates.entry folder name) (volume_of a.content) (lists_then a.content w b)
          in_catalog = record {
            changes = relocates.moves;
            nodes = nodes;
            rest =
                (λ i. record (moves.changes.lists i) { attributes_tree = (volume_of a.content).attributes_tree })
                ∙ sym (λ i. record (settled.lists i) { head = w.header; catalog_pairs = (lists_of w b).catalog_pairs; catalog_tree = facts_on w.catalog.file })
                ∙ (λ i. record (volume_of a.content) { head = (header_w ∙ sym head_is) i; catalog_pairs = (lists_of w b).catalog_pairs; catalog_tree = facts_on w.catalog.file });
          }

          lost_at : ChangesFields at.parent (IsTouched (volume_of a.content).head.modify_date 0 1) (lists_then a.content w b) (lists_then a.content x c)
          lost_at =
              subst (λ (k : ℕ × ℕ). ChangesFields k.0 (IsTouched k.1 0 1) (lists_then a.content w b) (lists_then a.content x c)) {x = (parent, w.header.modify_date)} {y = (at.parent, (volume_of a.content).head.modify_date)}
              (λ i. (sym move.place.0 i, moment w.header header_w i)) (then_fields (volume_of a.content).attributes_tree parent (lists_of w b) (lists_of x c) first.counts)

          gained_at : ChangesFields folder (IsTouched (volume_of a.content).head.modify_date 1 0) (lists_then a.content x c) (lists_then a.content y d)
          gained_at =
              subst (λ n. ChangesFields folder (IsTouched n 1 0) (lists_then a.content x c) (lists_then a.content y d)) (moment x.header header_x)
              (then_fields (volume_of a.content).attributes_tree folder (lists_of x c) (lists_of y d) second.counts)

          marked_at : ChangesFields at.id (IsMarkedAlone (volume_of a.content).head.modify_date) (lists_then a.content y d) (lists_then a.content u e.content)
          marked_at =
              subst (λ (k : ℕ × ℕ). ChangesFields k.0 (IsMarkedAlone k.1) (lists_then a.content y d) (lists_then a.content u e.content)) {x = (id, y.header.modify_date)} {y = (at.id, (volume_of a.content).head.modify_date)}
              (λ i. (sym move.number i, moment y.header header_y i)) (then_fields (volume_of a.content).attributes_tree id (lists_of y d) (lists_of u e.content) dates.dates)

          moves_name : MovesName at (free_place folder name) (volume_of a.content) (lists_then a.content u e.content)
          moves_name = record {
            sorted = settled_sorted v a.content was.trees settled;
            entry = relocates.entry;
            stands = entry_stands;
            is_entry = (parent_is ∙ sym move.place.0, name_is ∙ sym move.place.1);
            moved = lists_then a.content w b;
            moves = in_catalog;
            sorted_again = tree_sorted IsCatalogKey (store_of (file_in (sectors_of_tree w.catalog.file) b)) holds_w.catalog.file.rules;
            lost = lists_then a.content x c;
            loses = lost_at;
            gained = lists_then a.content y d;
            gains = gained_at;
            marks = marked_at;
          }

          does : IsSoundVolume (lists_then a.content u e.content) × (tree_in (lists_then a.content u e.content) (bytes_in a.content) ≡ (step (tree_in (volume_of a.content) (bytes_in a.content)) (command.Mv from to)).1)
          does = law from to at (free_place folder name) (volume_of a.content) (lists_then a.content u e.content) (bytes_in a.content) (file_bytes_are a.content) settled.sound move.goal_not_own move.goal_named allowed (inl (refl, moves_name))

          changes : ChangesCatalog v u a.content e.content
          changes = changes_both v y u a.content d e.content (changes_both v x y a.content c d (changes_both v w x a.content b c moves.changes first.changes) second.changes) dates.changes

          headed : header_of_volume e.content ≡ u.header
          headed = dates.headed ∙ second.headed ∙ first.headed ∙ moves.headed ∙ header_settled v a.content settled ∙ sym header_u

          private : private_id (placed_in (lists_of u e.content).catalog_pairs) ≡ private_id (placed_in (lists_of v a.content).catalog_pairs)
          private =
              fields_private id (lists_of y d) (lists_of u e.content) dates.dates threads_second
              ∙ fields_private folder (lists_of x c) (lists_of y d) second.counts threads_first
              ∙ fields_private parent (lists_of w b) (lists_of x c) first.counts threads_moved
              ∙ private_kept gone (placed_in relocates.moves.between) side_back.mid (placed_in (lists_of w b).catalog_pairs) side_back.first side_back.second
              (third_false (folder == 2) (bytes_eq name journal_name) (bytes_eq name journal_info_name) (bytes_eq name private_name) goal_not_own)
              ∙ sym (private_kept relocates.entry (placed_in relocates.moves.between) side_out.mid (records_of (volume_of a.content)) side_out.first side_out.second
              ((λ i. (parent_is i == 2) && bytes_eq (name_is i) private_name) ∙ third_false (parent == 2) (bytes_eq old journal_name) (bytes_eq old journal_info_name) (bytes_eq old private_name) from_not_own))
              ∙ ap (λ (l : List Pair). private_id (placed_in l)) pairs_are

          settled_now : IsSettled u e.content
          settled_now = settles_again v u a e changes settled was stands_u headed does.0 private

          pub moved_does : IsSettled u e.content × (tree_of e.content ≡ (step (tree_of a.content) (command.Mv from to)).1) × MovesName at (free_place folder name) (volume_of a.content) (volume_of e.content)
          unfolding tree_of
          moved_does = (
            settled_now,
            tree_again v u a e changes settled was stands_u headed does.0 ∙ does.1,
            subst (λ (l : VolumeState). MovesName at (free_place folder name) (volume_of a.content) l) (sym (lists_again v u a e changes settled was settled_now)) moves_name,
          )
