-- `rmdir` on the lists of a sound volume.
use Rattle.hfs_volume.proofs.Valued.{kept_within, kept_mapped, valued_left}
use Rattle.std.proofs.Common.{◌≡◌, ◌⊎◌, ℕ, ◌+◌, ◌<◌, ◌≤◌, Bool, true, false, List, [], ◌∷◌, ◌++◌, length, map, inl, inr, refl, sym, ◌∙◌, ap, subst, arith}
use Rattle.std.specs.Prelude.{Contains, ◌==◌, ◌&&◌, ◌||◌, not, count_by, slice_index_or, Option, None, Some, Ok, is_some, if◌then◌else◌}
use Rattle.std.specs.List.{flat_map}
use Rattle.std.proofs.lemmas.Bool.{eqb-true, not-true, not-false, true≢false}
use Rattle.volume_header.specs.declared.header.VolumeHeader.{VolumeHeader}
use Rattle.btree_node.specs.Levels.{Pair}
use Rattle.cat_records.specs.declared.record.CatRecord.{CatRecord}
use Rattle.cat_records.specs.declared.record.CatRecord.TheVariants.{Folder, File, Thread}
use Rattle.hfs_language.specs.declared.reply.Reply.TheVariants as reply
use Rattle.hfs_language.specs.declared.refusal.Refusal.TheVariants as refusal
use Rattle.hfs_model.specs.Sorted.{kept}
use Rattle.hfs_model.specs.Step.{on, to_rmdir, is_root, unless, then_, reached, root_entry, removed_folder, touched, is_private_name}
use Rattle.hfs_model.specs.Plain.{entries_in, is_node, with_changed, without_node, without_entry}
use Rattle.hfs_volume.specs.Records.{Placed, Attribute, attribute_of, entries_of, entry_of, id_of, id_in, is_empty, is_folder, is_file, is_thread, valence_in, special_of}
use Rattle.hfs_volume.specs.Entries.{AreCounted, IsUserId, IsRoot, LiesIn, is_it, below, count_in}
use Rattle.hfs_volume.specs.Links.{private_id, is_shared, HaveLinkCounts, links_to, is_link_to}
use Rattle.hfs_volume.specs.Forks.{forks_in}
use Rattle.hfs_volume.specs.Content.{VolumeState, records_of, attributes_of}
use Rattle.hfs_volume.specs.Blocks.{used_in, is_among, count_used, HasBits}
use Rattle.hfs_volume.specs.Sound.{IsSoundVolume}
use Rattle.hfs_volume.specs.TreeOf.{is_seen, tree_in, is_hidden, plain_entry, plain_node, plain_attributes, plain_attribute, node_in, node_found, threaded_node, is_plain_folder, is_plain_file, is_linked, BytesOf, valued, empty_forks}
use Rattle.hfs_volume.specs.Changes.{AreSorted, DropsEntry, InCatalog, InValues}
use Rattle.hfs_volume.specs.Commands.{AreBytesOf, ChangesFields, IsTouched, RemovesFolder, DropsAttributes, blocks_of_all, with_fields, with_folder_removed, RmdirDoes}
use Rattle.hfs_volume.specs.Values.{value_blocks}
use Rattle.hfs_volume.specs.Data.{DropsFolderBlocks, KeepsValuesBut}
use Rattle.hfs_volume.proofs.AttributesTree.{attributes_tree}
use Rattle.hfs_volume.proofs.BlockSound.{recounted, recounted_tree}
use Rattle.hfs_volume.proofs.PutValues.{bared_sound}
use Rattle.hfs_volume.proofs.ValueTrades.{blocks_gone, blocks_stay, none_kept}
use Rattle.hfs_volume.specs.Laws.{IsShaped, one_if}
use Rattle.hfs_model.specs.declared.plain.PlainEntry.{PlainEntry}
use Rattle.hfs_model.specs.declared.plain.PlainNode.{PlainNode}
use Rattle.hfs_model.specs.declared.plain.PlainTree.{PlainTree}
use Rattle.hfs_volume.proofs.Fields.{dated, touched_views, makes_of, not_thread, id_of_fields, valence_now, folder_is_no_file}
use Rattle.hfs_volume.proofs.Members.{all_of, each_of, kept_stands, kept_cases}
use Rattle.hfs_volume.proofs.Flat.{flat_agree, found_some}
use Rattle.hfs_volume.proofs.Hiding.{same_entry, or_true, one_there}
use Rattle.hfs_volume.proofs.Counting.{length_kept}
use Rattle.hfs_volume.proofs.Seeing.{same_number}
use Rattle.hfs_volume.proofs.Fitting.{differs, not_same, none_counted}
use Rattle.hfs_volume.proofs.Heading.{numbered_shaped, used_numbered}
use Rattle.hfs_volume.proofs.Reaching.{then_ok, unless_ok, IsSeen, Shows, seen_shows, shows_seen, seen_stands, walked, seen_entry_of, folder_no_link, folder_id_is, seen_not_root, seen_visible}
use Rattle.hfs_volume.proofs.Making.{tree_entries}
use Rattle.hfs_volume.proofs.Finishing.{sound_is_both, shared_is_file}
use Rattle.hfs_volume.proofs.Keeping.{value_changed, value_counts, value_links, value_used, value_private, value_cases, value_there, value_was}
use Rattle.hfs_volume.proofs.Marking.{value_tree}
use Rattle.hfs_volume.proofs.Dropping.{counted_less, still, private_less, dropped_used, Leaves, folder_dropped, entries_dropped, nodes_dropped}

-- ---- attributes of one CNID removed

-- which attributes are left without those of one CNID
abbrev pub not_of : ℕ → ℕ → List ℕ → Bool
not_of id other name = not (other == id)

-- the attributes of another CNID are as they were
kept_twice : (id other : ℕ) → (other == id) ≡ false → (attributes : List Attribute) → kept (λ (a : Attribute). a.id == other) (kept (λ a. not (a.id == id)) attributes) ≡ kept (λ (a : Attribute). a.id == other) attributes
kept_twice id other differ attributes = kept_within (λ (a : Attribute). a.id == other) (λ a. not (a.id == id)) (λ a is. ap not (differs a.id id (λ same. not_same other id differ (sym (eqb-true a.id other is) ∙ same)))) attributes

-- nodes of records none of whose attributes have changed
pub same_attributes : (one other : List Attribute) (records : List Placed) (bytes_of : BytesOf) → ((p : Placed) → Contains (entries_of records) p → plain_attributes one (id_of p) ≡ plain_attributes other (id_of p))
    → flat_map (threaded_node one records bytes_of) records ≡ flat_map (threaded_node other records bytes_of) records
same_attributes one other records bytes_of same = flat_agree (threaded_node one records bytes_of) (threaded_node other records bytes_of) records (λ p stands. at p)
  where
    of_value : (p : Placed) (value : CatRecord) → plain_attributes one (id_in value) ≡ plain_attributes other (id_in value) → node_in one records bytes_of p value ≡ node_in other records bytes_of p value
    of_value p (Folder f) is = λ i. if is_plain_folder records p then (record (plain_node other f.fields true empty_forks false) { attributes = is i }) ∷ [] else []
    of_value p (File f) is = λ i. if is_plain_file records p then (record (plain_node other f.fields false (bytes_of.file f) (is_linked records p)) { attributes = is i }) ∷ [] else []
    of_value p (Thread f) is = refl

    of_found : (id : ℕ) (o : Option Placed) → entry_of records id ≡ o → node_found one records bytes_of o ≡ node_found other records bytes_of o
    of_found id None found = refl
    of_found id (Some e) found = of_value e e.value (same e (found_some (λ (p : Placed). id_of p == id) (entries_of records) e found).0)

    at : (p : Placed) → threaded_node one records bytes_of p ≡ threaded_node other records bytes_of p
    at p = ap (λ l. if is_empty p.name then l else []) (of_found p.parent (entry_of records p.parent) refl)

folder_kind : (value : CatRecord) → is_folder value ≡ true → is_thread value ≡ false
folder_kind (Folder f) is = refl
folder_kind (File f) is = refl
folder_kind (Thread f) is = absurd (true≢false (sym is))

-- the node of a folder that users see
folder_node : (attributes : List Attribute) (records : List Placed) (bytes_of : BytesOf) (e : Placed) (value : CatRecord) → is_folder value ≡ true → is_seen records e ≡ true
    → (node : PlainNode) × (node_in attributes records bytes_of e value ≡ node ∷ []) × (node.id ≡ id_in value)
folder_node attributes records bytes_of e (Folder f) is seen = (
  plain_node attributes f.fields true empty_forks false,
  (λ i. if (id_of e == 2) || seen i then plain_node attributes f.fields true empty_forks false ∷ [] else []) ∙ ap (λ b. if b then plain_node attributes f.fields true empty_forks false ∷ [] else []) (or_true (id_of e == 2)),
  refl,
)
folder_node attributes records bytes_of e (File f) is seen = absurd (true≢false (sym is))
folder_node attributes records bytes_of e (Thread f) is seen = absurd (true≢false (sym is))

folder_forks : (value : CatRecord) → is_folder value ≡ true → forks_in value ≡ []
folder_forks (Folder f) is = refl
folder_forks (File f) is = absurd (true≢false (sym is))
folder_forks (Thread f) is = absurd (true≢false (sym is))

-- ---- what `rmdir` names

module _ (old : VolumeState) (bytes_of : BytesOf) (sound : IsSoundVolume old) where
  abbrev tree : PlainTree
  tree = tree_in old bytes_of

  abbrev before : List Placed
  before = records_of old

  abbrev next : ℕ
  next = old.head.next_catalog_id

  pub reach_seen : (path : List (List ℕ)) (at : PlainEntry) → is_root path ≡ false → reached tree path ≡ Ok at → IsSeen before at
  reach_seen [] at not_root is = absurd (true≢false not_root)
  reach_seen (name ∷ path) at not_root is = walked before next sound.entries.ids sound.entries.rooted tree (tree_entries old bytes_of) path name root_entry at is

  -- an empty folder that users see
  pub record IsEmptyFolder (at : PlainEntry) : Type 0 where
    pub seen : IsSeen before at
    pub folder : at.folder ≡ true
    pub empty : (length (entries_in tree at.id) == 0) ≡ true

  pub to_rmdir_is : (path : List (List ℕ)) (at : PlainEntry) → to_rmdir tree path ≡ Ok at → IsEmptyFolder at
  to_rmdir_is path at allowed =
      let first = then_ok (unless (is_root path) refusal.Root path)
      (λ named. then_ (reached tree named) (λ x. then_ (unless (not x.folder) refusal.NotFolder x) (λ folder. unless (not (length (entries_in tree folder.id) == 0)) refusal.NotEmpty folder))) at allowed in
      let root = unless_ok (is_root path) refusal.Root path first.0 first.1 in
      let second = then_ok (reached tree first.0) (λ x. then_ (unless (not x.folder) refusal.NotFolder x) (λ folder. unless (not (length (entries_in tree folder.id) == 0)) refusal.NotEmpty folder)) at first.2 in
      let third = then_ok (unless (not second.0.folder) refusal.NotFolder second.0) (λ folder. unless (not (length (entries_in tree folder.id) == 0)) refusal.NotEmpty folder) at second.2 in
      let kind = unless_ok (not second.0.folder) refusal.NotFolder second.0 third.0 third.1 in
      let empty = unless_ok (not (length (entries_in tree third.0.id) == 0)) refusal.NotEmpty third.0 at third.2 in
      let same : second.0 ≡ at = kind.1 ∙ empty.1 in
      record {
        seen = subst (IsSeen before) same (reach_seen path second.0 root.0 (ap (reached tree) root.1 ∙ second.1));
        folder = ap (λ (x : PlainEntry). x.folder) (sym same) ∙ not-false second.0.folder kind.0;
        empty = ap (λ (x : PlainEntry). length (entries_in tree x.id) == 0) (sym empty.1) ∙ not-false (length (entries_in tree third.0.id) == 0) empty.0;
      }

  module _ (at : PlainEntry) (is : IsEmptyFolder at) (entry : Placed) (stands : Contains (entries_of before) entry) (same_id : id_of entry ≡ at.id) where
    it_is : is.seen.placed ≡ entry
    it_is =
        same_entry next (entries_of before) sound.entries.ids is.seen.placed entry
        (seen_entry_of before next sound.entries.ids sound.entries.rooted tree (tree_entries old bytes_of) at is.seen) stands
        ((folder_id_is before next sound.entries.ids sound.entries.rooted tree (tree_entries old bytes_of) at is.seen is.folder).1 ∙ sym same_id)

    pub is_a_folder : is_folder entry.value ≡ true
    is_a_folder = ap (λ (p : Placed). is_folder p.value) (sym it_is) ∙ (folder_id_is before next sound.entries.ids sound.entries.rooted tree (tree_entries old bytes_of) at is.seen is.folder).0

    pub entry_shows : Shows before entry
    entry_shows = subst (Shows before) it_is (seen_shows before is.seen.placed is.seen.seen)

    pub entry_plain : plain_entry before entry ≡ at
    entry_plain = ap (plain_entry before) (sym it_is) ∙ is.seen.is

    high : 16 ≤ id_of entry
    high = elim (each_of (λ (p : Placed). IsUserId next (id_of p)) (entries_of before) sound.entries.ids.each entry stands) [
      | inl two ↦ absurd (seen_not_root before next sound.entries.ids sound.entries.rooted entry stands entry_shows two)
      | inr user ↦ user.0
    ]

    above_folder : (placed : Placed) × Contains (entries_of before) placed × (is_folder placed.value ≡ true) × (id_of placed ≡ entry.parent)
    above_folder = elim (each_of (λ (q : Placed). IsRoot q ⊎ LiesIn (entries_of before) 2 q.parent) (entries_of before) sound.entries.rooted.each entry stands) [
      | inl root ↦ absurd (omega (arith, root.id, high))
      | inr lies ↦ of_lies entry.parent lies
    ]
      where
        of_lies : (id : ℕ) → LiesIn (entries_of before) 2 id → (placed : Placed) × Contains (entries_of before) placed × (is_folder placed.value ≡ true) × (id_of placed ≡ id)
        of_lies _ is_it = let root = sound.entries.rooted.root in (root.0, root.1, root.2.folder, root.2.id)
        of_lies _ (below id f there is_a same lies) = (f, there, is_a, same)

    no_child : (p : Placed) → Contains (entries_of before) p → (p.parent == id_of entry) ≡ false
    no_child p there = by_test (p.parent == id_of entry) refl
      where
        by_test : (b : Bool) → (p.parent == id_of entry) ≡ b → b ≡ false
        by_test false is_not = refl
        by_test true is_in =
            let parent : p.parent ≡ id_of entry = eqb-true p.parent (id_of entry) is_in in
            let parts = kept_cases (λ (q : Placed). not (is_empty q.name)) before p there in
            let shows : Shows before p = record {
              named = not-true (is_empty p.name) parts.1;
              parent = differs p.parent 1 (λ one. omega (arith, parent, one, high));
              visible = ap (is_hidden before) parent ∙ seen_visible before next sound.entries.ids sound.entries.rooted entry stands entry_shows;
              not_own = ap (λ b. b && is_private_name p.name) (differs p.parent 2 (λ two. omega (arith, parent, two, high)));
            } in
            let in_tree = subst (λ l. Contains l (plain_entry before p)) (sym (tree_entries old bytes_of)) (seen_stands before p parts.0 (shows_seen before p shows)) in
            let in_folder = kept_stands (λ (e : PlainEntry). e.parent == at.id) tree.entries (plain_entry before p) in_tree (ap (λ n. n == at.id) (parent ∙ same_id) ∙ same_number at.id) in
            absurd (omega (arith, in_folder.1, eqb-true (length (entries_in tree at.id)) 0 is.empty))

    pub leaves : Leaves entry next before
    leaves = record {
      kind = folder_kind entry.value is_a_folder;
      named = entry_shows.named;
      not_link = folder_no_link entry is_a_folder;
      high = high;
      not_own = entry_shows.not_own;
      folder = above_folder;
      visible = entry_shows.visible;
      childless = none_counted (λ (p : Placed). p.parent == id_of entry) (entries_of before) no_child;
    }

folder_file : (value : CatRecord) → is_folder value ≡ true → is_file value ≡ false
folder_file (Folder f) is = refl
folder_file (File f) is = absurd (true≢false (sym is))
folder_file (Thread f) is = refl

-- The folder of this CNID, which has no attributes, isn't there any more, and the folder above has one entry less.
record RemovesBare (id : ℕ) (old new : VolumeState) : Type 0 where
  pub entry : Placed
  pub stands : Contains (entries_of (records_of old)) entry
  pub is_entry : id_of entry ≡ id
  pub none : (pair : Pair) → Contains old.attribute_pairs pair → (attribute_of pair).id ≡ id → ⊥
  pub dropped : VolumeState
  pub drops : InCatalog (DropsEntry entry) (record old { head = with_folder_removed old.head }) dropped
  pub sorted : AreSorted old.catalog_pairs
  pub counts : ChangesFields entry.parent (IsTouched old.head.modify_date 0 1) dropped new

module _ (at : PlainEntry) (old new : VolumeState) (bytes_of : BytesOf) (are : AreBytesOf bytes_of) (sound : IsSoundVolume old) (is_empty_one : IsEmptyFolder old bytes_of sound at) (does : RemovesBare at.id old new) where
  abbrev was : List Placed
  was = records_of old

  abbrev gone : List Placed
  gone = records_of does.dropped

  abbrev is : List Placed
  is = records_of new

  abbrev entry : Placed
  entry = does.entry

  abbrev begun : VolumeState
  begun = record old { head = with_folder_removed old.head }

  abbrev value : CatRecord
  value = with_fields (λ _. does.counts.after) does.counts.entry.value

  abbrev it : Placed
  it = record does.counts.entry { value = value }

  leav : Leaves entry old.head.next_catalog_id was
  leav = leaves old bytes_of sound at is_empty_one entry does.stands does.is_entry

  is_a : is_folder entry.value ≡ true
  is_a = is_a_folder old bytes_of sound at is_empty_one entry does.stands does.is_entry

  plain : plain_entry was entry ≡ at
  plain = entry_plain old bytes_of sound at is_empty_one entry does.stands does.is_entry

  shaped_begun : IsShaped begun
  shaped_begun = numbered_shaped old (with_folder_removed old.head) (omega arith) (record { accepted = sound.blocks.header.accepted; next_id = sound.blocks.header.next_id }) ((sound_is_both old).0 sound).0

  no_attributes : (pair : Pair) → Contains old.attribute_pairs pair → (attribute_of pair).id ≡ id_of entry → ⊥
  no_attributes pair stands same = does.none pair stands (same ∙ does.is_entry)

  shaped_dropped : IsShaped does.dropped
  shaped_dropped = folder_dropped entry begun does.dropped does.drops leav (folder_forks entry.value is_a) does.sorted no_attributes shaped_begun

  above_kind : is_thread does.counts.entry.value ≡ false
  above_kind = not_thread does.counts.entry.value does.counts.before does.counts.has

  shaped_new : IsShaped new
  shaped_new = value_changed does.counts.entry value does.dropped new does.counts.changes above_kind shaped_dropped

  head_is : new.head ≡ with_folder_removed old.head
  head_is = ap (λ (v : VolumeState). v.head) does.counts.changes.rest ∙ ap (λ (v : VolumeState). v.head) does.drops.rest

  -- ---- the tree

  seen_entry_is : is_seen was entry ≡ true
  seen_entry_is = shows_seen was entry (entry_shows old bytes_of sound at is_empty_one entry does.stands does.is_entry)

  nodes_gone : flat_map (threaded_node (valued bytes_of (attributes_of old)) gone bytes_of) gone ≡ kept (λ n. not (is_node (id_of entry) n)) (flat_map (threaded_node (valued bytes_of (attributes_of old)) was bytes_of) was)
  nodes_gone =
      let node = folder_node (valued bytes_of (attributes_of old)) was bytes_of entry entry.value is_a seen_entry_is in
      nodes_dropped entry does.dropped.catalog_pairs old.catalog_pairs does.drops.changes old.head.next_catalog_id leav does.sorted sound.entries.threads sound.entries.rooted sound.entries.ids
      (valued bytes_of (attributes_of old)) bytes_of node.0 node.1 node.2

  tree_gone : tree_in does.dropped bytes_of ≡ without_node (id_of entry) (without_entry entry.parent entry.name (tree_in old bytes_of))
  unfolding tree_in
  tree_gone = λ i. record {
    entries = entries_dropped entry does.dropped.catalog_pairs old.catalog_pairs does.drops.changes old.head.next_catalog_id leav does.sorted sound.entries.threads sound.entries.rooted sound.entries.ids i;
    nodes = ((λ j. flat_map (threaded_node (valued bytes_of (ap attributes_of does.drops.rest j)) gone bytes_of) gone) ∙ nodes_gone) i;
    next_id = (ap (λ (v : VolumeState). v.head) does.drops.rest i).next_catalog_id;
    has_private = is_some (sym (private_less entry does.dropped.catalog_pairs old.catalog_pairs does.drops.changes old.head.next_catalog_id leav does.sorted sound.entries.threads sound.entries.rooted sound.entries.ids) i);
    moment = (ap (λ (v : VolumeState). v.head) does.drops.rest i).modify_date;
  }

  above_at : id_of does.counts.entry ≡ entry.parent
  above_at = id_of_fields does.counts.entry.value does.counts.before does.counts.has ∙ does.counts.is_entry

  tree_removed : tree_in new bytes_of ≡ removed_folder at (tree_in old bytes_of)
  unfolding tree_in
  tree_removed =
      value_tree does.counts.entry value does.dropped new does.counts.changes above_kind shaped_dropped bytes_of (dated old.head.modify_date) (makes_of (valued bytes_of (attributes_of does.dropped)) bytes_of are.by_fork (dated old.head.modify_date) does.counts.before does.counts.after (touched_views old.head.modify_date 0 1 does.counts.before does.counts.after does.counts.fields) does.counts.fields.id does.counts.entry.value does.counts.has)
      ∙ ap (with_changed (id_of does.counts.entry) (dated old.head.modify_date)) tree_gone
      ∙ (λ i. with_changed ((above_at ∙ ap (λ (e : PlainEntry). e.parent) plain) i) (dated old.head.modify_date)
      (without_node (does.is_entry i) (without_entry ((ap (λ (e : PlainEntry). e.parent) plain) i) ((ap (λ (e : PlainEntry). e.name) plain) i) (tree_in old bytes_of))))

  -- ---- the counts

  counts_were : (test : Placed → Bool) → test it ≡ test does.counts.entry → count_by test (entries_of was) ≡ count_by test (entries_of is) + one_if (test entry)
  counts_were test same =
      counted_less entry does.dropped.catalog_pairs old.catalog_pairs does.drops.changes old.head.next_catalog_id leav does.sorted sound.entries.threads sound.entries.rooted sound.entries.ids test
      ∙ ap (λ n. n + one_if (test entry)) (sym (value_counts does.counts.entry value does.dropped new does.counts.changes above_kind shaped_dropped test same))

  in_folder_was : (id : ℕ) → count_in (entries_of was) id ≡ count_in (entries_of is) id + one_if (entry.parent == id)
  in_folder_was id = counts_were (λ (p : Placed). p.parent == id) refl

  there : (p : Placed) → Contains (entries_of gone) p → Contains (entries_of was) p
  there = still entry does.dropped.catalog_pairs old.catalog_pairs does.drops.changes old.head.next_catalog_id leav does.sorted sound.entries.threads sound.entries.rooted sound.entries.ids

  was_valence : (p : Placed) → Contains (entries_of was) p → is_folder p.value ≡ true → valence_in p.value ≡ count_in (entries_of was) (id_of p)
  was_valence p stands folder = each_of (λ (q : Placed). is_folder q.value ≡ true → valence_in q.value ≡ count_in (entries_of was) (id_of q)) (entries_of was) sound.entries.counts.valences p stands folder

  id_same : id_of it ≡ id_of does.counts.entry
  id_same = does.counts.changes.changes.alike.id

  above_gone : Contains (entries_of gone) does.counts.entry
  above_gone = value_was does.counts.entry value does.dropped new does.counts.changes above_kind shaped_dropped

  counting_folder : is_folder does.counts.entry.value ≡ true
  counting_folder =
      ap (λ (p : Placed). is_folder p.value) (same_entry old.head.next_catalog_id (entries_of was) sound.entries.ids does.counts.entry leav.folder.0 (there does.counts.entry above_gone) leav.folder.1 (above_at ∙ sym leav.folder.3)) ∙ leav.folder.2

  counting_counts : (valence_in does.counts.entry.value ≡ does.counts.before.count) × (valence_in value ≡ does.counts.after.count)
  counting_counts = valence_now does.counts.entry.value does.counts.before does.counts.after does.counts.has counting_folder

  it_valence : valence_in value ≡ count_in (entries_of is) (id_of it)
  it_valence =
      omega (
        arith,
        in_folder_was (id_of it),
        was_valence does.counts.entry (there does.counts.entry above_gone) counting_folder,
        counting_counts.0,
        counting_counts.1,
        does.counts.fields.count,
        ap (count_in (entries_of was)) id_same,
        ap one_if (ap (λ n. entry.parent == n) (id_same ∙ above_at) ∙ same_number entry.parent),
      )

  valence_new : (p : Placed) → Contains (entries_of is) p → is_folder p.value ≡ true → valence_in p.value ≡ count_in (entries_of is) (id_of p)
  valence_new p stands folder = elim (value_cases does.counts.entry value does.dropped new does.counts.changes above_kind shaped_dropped p stands) [
    | inl same ↦ subst (λ (q : Placed). valence_in q.value ≡ count_in (entries_of is) (id_of q)) (sym same) it_valence
    | inr left ↦ by_test left (entry.parent == id_of p) refl
  ]
    where
      by_test : Contains (entries_of gone) p → (b : Bool) → (entry.parent == id_of p) ≡ b → valence_in p.value ≡ count_in (entries_of is) (id_of p)
      by_test left false differ = omega (arith, was_valence p (there p left) folder, in_folder_was (id_of p), ap one_if differ)
      by_test left true same =
          let it_is : it ≡ p = same_entry new.head.next_catalog_id (entries_of is) shaped_new.ids it p (value_there does.counts.entry value does.dropped new does.counts.changes above_kind shaped_dropped) stands (id_same ∙ above_at ∙ eqb-true entry.parent (id_of p) same) in
          subst (λ (q : Placed). valence_in q.value ≡ count_in (entries_of is) (id_of q)) it_is it_valence

  some_folder : 1 ≤ count_by (λ (p : Placed). is_folder p.value) (entries_of is)
  some_folder = one_there (λ (p : Placed). is_folder p.value) (entries_of is) it (value_there does.counts.entry value does.dropped new does.counts.changes above_kind shaped_dropped) (does.counts.changes.changes.alike.kind.0 ∙ counting_folder)

  counted_new : AreCounted new.head (entries_of is)
  counted_new = record {
    valences = all_of (λ (q : Placed). is_folder q.value ≡ true → valence_in q.value ≡ count_in (entries_of is) (id_of q)) (entries_of is) valence_new;
    files = omega (arith, ap (λ (h : VolumeHeader). h.file_count) head_is, sound.entries.counts.files, counts_were (λ (p : Placed). is_file p.value) does.counts.changes.changes.alike.kind.1, ap one_if (folder_file entry.value is_a));
    folders = omega (arith, ap (λ (h : VolumeHeader). h.folder_count) head_is, sound.entries.counts.folders, counts_were (λ (p : Placed). is_folder p.value) does.counts.changes.changes.alike.kind.0, ap one_if is_a, some_folder);
  }

  private_is_same : private_id is ≡ private_id was
  private_is_same =
      value_private does.counts.entry value does.dropped new does.counts.changes above_kind shaped_dropped
      ∙ sym (private_less entry does.dropped.catalog_pairs old.catalog_pairs does.drops.changes old.head.next_catalog_id leav does.sorted sound.entries.threads sound.entries.rooted sound.entries.ids)

  links_same : (reference : ℕ) → length (links_to was reference) ≡ length (links_to is reference)
  links_same reference =
      omega (
        arith,
        length_kept (is_link_to reference) (entries_of was),
        length_kept (is_link_to reference) (entries_of gone),
        counted_less entry does.dropped.catalog_pairs old.catalog_pairs does.drops.changes old.head.next_catalog_id leav does.sorted sound.entries.threads sound.entries.rooted sound.entries.ids (is_link_to reference),
        ap (λ b. one_if (b && (special_of entry == reference))) leav.not_link,
        value_links does.counts.entry value does.dropped new does.counts.changes above_kind shaped_dropped reference,
      )

  link_counts_new : HaveLinkCounts is
  link_counts_new reference file stands shared = elim (value_cases does.counts.entry value does.dropped new does.counts.changes above_kind shaped_dropped file stands) [
    | inl same ↦ absurd (true≢false (sym (shared_is_file (private_id is) reference file shared) ∙ ap (λ (q : Placed). is_file q.value) same ∙ does.counts.changes.changes.alike.kind.1 ∙ folder_is_no_file does.counts.entry.value counting_folder))
    | inr left ↦ sound.links.counts reference file (there file left) (ap (λ private. is_shared private reference file) (sym private_is_same) ∙ shared) ∙ links_same reference
  ]

  used_new : used_in new ≡ used_in old
  used_new =
      value_used does.counts.entry value does.dropped new does.counts.changes above_kind shaped_dropped
      ∙ dropped_used entry begun does.dropped does.drops leav (folder_forks entry.value is_a) does.sorted no_attributes shaped_begun
      ∙ used_numbered old (with_folder_removed old.head)

  bits_new : new.bits ≡ old.bits
  bits_new = ap (λ (v : VolumeState). v.bits) does.counts.changes.rest ∙ ap (λ (v : VolumeState). v.bits) does.drops.rest

  bits_right : HasBits new
  bits_right = record {
    bits = λ block inside.
        ap (λ bits. slice_index_or bits block false) bits_new ∙ sound.blocks.bits.bits block (subst (λ (h : VolumeHeader). block < h.total_blocks) head_is inside) ∙ sym (ap (λ l. is_among l block) used_new);
    free = (λ i. (head_is i).free_blocks + count_used (head_is i).total_blocks (used_new i)) ∙ sound.blocks.bits.free ∙ sym (ap (λ (h : VolumeHeader). h.total_blocks) head_is);
  }

  sound_removed : IsSoundVolume new
  sound_removed = (sound_is_both new).1 (shaped_new, record { entries = counted_new; links = link_counts_new; bits = bits_right })

-- ---- behind its attributes

-- which attributes go
abbrev is_its : ℕ → ℕ → List ℕ → Bool
is_its id other name = other == id

-- a node that goes may have been changed before
node_gone : (id : ℕ) (change : PlainNode → PlainNode) → ((n : PlainNode) → (change n).id ≡ n.id) → (nodes : List PlainNode)
    → kept (λ n. not (is_node id n)) (map (λ (n : PlainNode). if is_node id n then change n else n) nodes) ≡ kept (λ n. not (is_node id n)) nodes
node_gone id change same [] = refl
node_gone id change same (n ∷ nodes) = by_test (is_node id n) refl (node_gone id change same nodes)
  where
    by_test : (b : Bool) → is_node id n ≡ b → kept (λ x. not (is_node id x)) (map (λ (x : PlainNode). if is_node id x then change x else x) nodes) ≡ kept (λ x. not (is_node id x)) nodes
        → (if not (is_node id (if b then change n else n)) then (if b then change n else n) ∷ [] else []) ++ kept (λ x. not (is_node id x)) (map (λ (x : PlainNode). if is_node id x then change x else x) nodes)
        ≡ (if not b then n ∷ [] else []) ++ kept (λ x. not (is_node id x)) nodes
    by_test true is rest =
        ap (λ c. (if not c then change n ∷ [] else []) ++ kept (λ x. not (is_node id x)) (map (λ (x : PlainNode). if is_node id x then change x else x) nodes)) (ap (λ k. k == id) (same n) ∙ is) ∙ rest
    by_test false is rest =
        ap (λ c. (if not c then n ∷ [] else []) ++ kept (λ x. not (is_node id x)) (map (λ (x : PlainNode). if is_node id x then change x else x) nodes)) is ∙ ap (λ l. n ∷ l) rest

module _ (at : PlainEntry) (old new : VolumeState) (bytes_of : BytesOf) (are : AreBytesOf bytes_of) (sound : IsSoundVolume old) (is_empty_one : IsEmptyFolder old bytes_of sound at) (does : RemovesFolder at.id old new) where
  abbrev bared : VolumeState
  bared = does.bared

  left : attributes_of bared ≡ kept (λ a. not (a.id == at.id)) (attributes_of old)
  left = ap (map attribute_of) does.bares.changes ∙ kept_mapped attribute_of (λ a. not (a.id == at.id)) old.attribute_pairs

  sound_bared : IsSoundVolume bared
  sound_bared = bared_sound (is_its at.id) (blocks_of_all (attributes_of old) at.id) old bared refl (as_gone does.bares) sound
    where
      as_gone : InValues (DropsAttributes at.id) [] (blocks_of_all (attributes_of old) at.id) old bared
          → InValues (λ before after. after ≡ kept (λ pair. not ((attribute_of pair).id == at.id)) before) [] (blocks_of_all (attributes_of old) at.id) old bared
      as_gone has = record { changes = has.changes; are_fresh = has.are_fresh; flips = has.flips; nodes = has.nodes; free = has.free; next = has.next; counts = has.counts; rest = has.rest }

  abbrev bare_node : PlainNode → PlainNode
  bare_node node = record node { attributes = [] }

  valued_bare : valued bytes_of (attributes_of bared) ≡ kept (λ a. not (a.id == at.id)) (valued bytes_of (attributes_of old))
  valued_bare = ap (valued bytes_of) left ∙ valued_left bytes_of (not_of at.id) (attributes_of old)

  tree_bared : tree_in bared bytes_of ≡ with_changed at.id bare_node (tree_in old bytes_of)
  tree_bared =
      attributes_tree at.id (recounted does.bares.free does.bares.next old) bared bytes_of does.bares.rest (λ l. [])
      (ap (λ l. plain_attributes l at.id) valued_bare ∙ ap (map plain_attribute) (none_kept (λ (a : Attribute). a.id == at.id) (λ a. not (a.id == at.id)) (λ a is. ap not is) (valued bytes_of (attributes_of old))))
      (λ other differ. ap (λ l. plain_attributes l other) valued_bare ∙ ap (map plain_attribute) (kept_twice at.id other differ (valued bytes_of (attributes_of old))))
      ∙ ap (with_changed at.id bare_node) (recounted_tree does.bares.free does.bares.next old bytes_of)

  records_same : records_of bared ≡ records_of old
  records_same = ap records_of does.bares.rest

  none_there : (pair : Pair) → Contains bared.attribute_pairs pair → (attribute_of pair).id ≡ at.id → ⊥
  none_there pair stands same =
      let parts = kept_cases (λ (p : Pair). not ((attribute_of p).id == at.id)) old.attribute_pairs pair (subst (λ l. Contains l pair) does.bares.changes stands) in
      true≢false (sym parts.1 ∙ ap not (ap (λ n. n == at.id) same ∙ same_number at.id))

  moment_same : bared.head.modify_date ≡ old.head.modify_date
  moment_same = ap (λ (v : VolumeState). v.head.modify_date) does.bares.rest

  removes : RemovesBare at.id bared new
  removes = record {
    entry = does.entry;
    stands = subst (λ l. Contains (entries_of l) does.entry) (sym records_same) does.stands;
    is_entry = does.is_entry;
    none = none_there;
    dropped = does.dropped;
    drops = does.drops;
    sorted = subst AreSorted (sym (ap (λ (v : VolumeState). v.catalog_pairs) does.bares.rest)) does.sorted;
    counts = subst (λ m. ChangesFields does.entry.parent (IsTouched m 0 1) does.dropped new) (sym moment_same) does.counts;
  }

  empty_still : IsEmptyFolder bared bytes_of sound_bared at
  empty_still = record {
    seen = subst (λ l. IsSeen l at) (sym records_same) is_empty_one.seen;
    folder = is_empty_one.folder;
    empty = ap (λ (t : PlainTree). length (entries_in t at.id) == 0) tree_bared ∙ is_empty_one.empty;
  }

  pub sound_behind : IsSoundVolume new
  sound_behind = sound_removed at bared new bytes_of are sound_bared empty_still removes

  pub tree_behind : tree_in new bytes_of ≡ removed_folder at (tree_in old bytes_of)
  tree_behind =
      tree_removed at bared new bytes_of are sound_bared empty_still removes
      ∙ ap (removed_folder at) tree_bared
      ∙ (λ i. touched at.parent (record (without_entry at.parent at.name (tree_in old bytes_of)) { nodes = node_gone at.id bare_node (λ n. refl) (tree_in old bytes_of).nodes i }))

  -- the attributes are those of the volume that has none of the folder's any more
  attributes_same : attributes_of new ≡ attributes_of bared
  attributes_same = ap attributes_of does.counts.changes.rest ∙ ap attributes_of does.drops.rest

  pub blocks_behind : ((name : List ℕ) → value_blocks (attributes_of new) at.id name ≡ []) × KeepsValuesBut (λ id name. id == at.id) old new
  blocks_behind = (
    λ name. ap (λ l. value_blocks l at.id name) attributes_same ∙ blocks_gone (is_its at.id) (attributes_of old) (attributes_of bared) left at.id name (same_number at.id),
    λ id name differ. ap (λ l. value_blocks l id name) attributes_same ∙ blocks_stay (is_its at.id) (attributes_of old) (attributes_of bared) left id name differ,
  )

-- `rmdir`
pub rmdir_law : RmdirDoes
rmdir_law path at old new bytes_of are sound allowed does =
    let is = to_rmdir_is old bytes_of sound path at allowed in (
      sound_behind at old new bytes_of are sound is does,
      tree_behind at old new bytes_of are sound is does ∙ sym (ap (λ r. (on (tree_in old bytes_of) r (λ x. (reply.Ok, removed_folder x (tree_in old bytes_of)))).1) allowed),
      subst (λ r. DropsFolderBlocks r old new) (sym allowed) (blocks_behind at old new bytes_of are sound is does),
    )
