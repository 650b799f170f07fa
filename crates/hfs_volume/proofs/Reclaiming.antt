-- The last steps of an orphan's removal on the lists of a sound volume.
use Rattle.hfs_volume.specs.Values.{value_blocks}
use Rattle.std.proofs.Common.{◌≡◌, ◌⊎◌, ℕ, ◌+◌, ◌-◌, ◌≤◌, Bool, true, false, List, [], inl, inr, refl, sym, ◌∙◌, ap, subst, arith}
use Rattle.std.specs.Prelude.{Contains, ◌==◌, ◌&&◌, not, Option, None, Some, codes, drop}
use Rattle.std.specs.Str.Parse.{digits_value}
use Rattle.std.proofs.lemmas.Bool.{eqb-true, not-true, true≢false}
use Rattle.std.proofs.lemmas.Slice.Eq.{bytes_eq-Decides}
use Rattle.volume_header.specs.declared.header.VolumeHeader.{VolumeHeader}
use Rattle.cat_records.specs.declared.record.CatRecord.{CatRecord}
use Rattle.cat_records.specs.declared.record.CatRecord.TheVariants.{Folder, File, Thread}
use Rattle.hfs_model.specs.Step.{is_private_name}
use Rattle.hfs_model.specs.declared.plain.PlainNode.{PlainNode}
use Rattle.hfs_model.specs.Plain.{without_attribute}
use Rattle.hfs_volume.specs.Records.{Placed, Attribute, entries_of, id_of, is_folder, is_file, is_link, is_numbered, special_of, valence_in, is_empty, is_thread}
use Rattle.hfs_volume.specs.Entries.{IsUserId, IsRoot, LiesIn, count_in}
use Rattle.hfs_volume.specs.Forks.{forks_in, all_forks}
use Rattle.hfs_volume.specs.Blocks.{HasSizes, GoesOn}
use Rattle.hfs_volume.specs.Links.{private_id, is_in, is_in_private, is_shared_file, is_orphan, orphans_of}
use Rattle.hfs_volume.specs.Content.{VolumeState, records_of, overflow_in_volume, attributes_of}
use Rattle.hfs_volume.specs.Sound.{IsSoundVolume}
use Rattle.hfs_volume.specs.Reclaim.{Does, DropOrphan, blocks_at}
use Rattle.hfs_volume.specs.TreeOf.{tree_in, is_seen, node_in, BytesOf, valued}
use Rattle.hfs_volume.specs.Laws.{IsShaped, MayAdd, MayDrop, IsFolderId, AreEmptyForks, is_own, one_if}
use Rattle.hfs_volume.specs.Changes.{AddsEntry, InCatalog}
use Rattle.hfs_volume.specs.Commands.{with_counts}
use Rattle.hfs_volume.specs.Naming.{one_file_less, orphan_name}
use Rattle.hfs_volume.specs.Reclaiming.{DropsOrphanEntry, OrphanDropped, OrphanBared}
use Rattle.hfs_volume.proofs.Fields.{valence_now, BytesBy}
use Rattle.hfs_volume.proofs.Members.{kept_cases, each_of, all_of}
use Rattle.hfs_volume.proofs.Hiding.{same_entry, one_there}
use Rattle.hfs_volume.proofs.Seeing.{same_number}
use Rattle.hfs_volume.proofs.Fitting.{differs}
use Rattle.hfs_volume.proofs.Finishing.{sound_is_both}
use Rattle.hfs_volume.proofs.Sharing.{four, shared_is}
use Rattle.hfs_volume.proofs.Folders.{parent_folder, lies_in_folder}
use Rattle.hfs_volume.proofs.MovingOver.{not_shared_unlinked}
use Rattle.hfs_volume.proofs.Marks.{orphan_no_node, private_hidden, private_not_root, hidden_unseen, unseen_no_node}
use Rattle.hfs_volume.proofs.Sides.{OneMore, entry_cases, entry_is_record, entry_is_named}
use Rattle.hfs_volume.proofs.Owning.{fork_there}
use Rattle.hfs_volume.proofs.Removing.{removed_side, removed_shaped, removed_fresh, removed_private}
use Rattle.hfs_volume.proofs.AddingSeen.{tree_unseen}
use Rattle.hfs_volume.proofs.Trees.{nodes_over}
use Rattle.hfs_volume.proofs.NodesOf.{nodes_from, changed_none}
use Rattle.hfs_volume.proofs.Accounts.{Account, Debts, no_debts, opened, closed, heads, drops}
use Rattle.hfs_volume.proofs.Refielding.{recount_account, id_is, there_was, folder_is}
use Rattle.hfs_volume.proofs.Telling.{counted_tree, next_is, private_counts_tree}
use Rattle.hfs_volume.proofs.Attributing.{attribute_bared, bared_tree}
use Rattle.hfs_volume.proofs.DropSteps.{orphan_drop_does, attribute_drop_does}

in_folder : (o : Option ℕ) (p : Placed) → is_in o p ≡ true → (id : ℕ) × (o ≡ Some id) × (p.parent ≡ id)
in_folder None p is = absurd (true≢false (sym is))
in_folder (Some id) p is = (id, refl, eqb-true p.parent id is)

file_no_folder : (value : CatRecord) → is_file value ≡ true → is_folder value ≡ false
file_no_folder (Folder f) is = absurd (true≢false (sym is))
file_no_folder (File f) is = refl
file_no_folder (Thread f) is = refl

-- ---- what is an orphan

module _ (volume : VolumeState) (shaped : IsShaped volume) (entry : Placed) (orphan : Contains (orphans_of (records_of volume)) entry) where
  abbrev records : List Placed
  records = records_of volume

  pub stands : Contains (entries_of records) entry
  stands = (kept_cases (is_orphan records) (entries_of records) entry orphan).0

  tests : (is_in_private records entry ≡ true) × (is_file entry.value ≡ true) × (not (is_link entry) ≡ true) × (is_numbered (codes "temp") entry.name ≡ true)
  tests = four (is_in_private records entry) (is_file entry.value) (not (is_link entry)) (is_numbered (codes "temp") entry.name) (kept_cases (is_orphan records) (entries_of records) entry orphan).1

  pub a_file : is_file entry.value ≡ true
  a_file = tests.1

  pub no_link : is_link entry ≡ false
  no_link = not-true (is_link entry) tests.2

  pub private_is : private_id records ≡ Some entry.parent
  private_is = let it = in_folder (private_id records) entry tests.0 in it.1 ∙ ap Some (sym it.2)

  named : entry.name ≡ orphan_name (digits_value 10 (drop 4 entry.name))
  named = (bytes_eq-Decides entry.name (orphan_name (digits_value 10 (drop 4 entry.name)))).0 tests.3

  pub unseen : is_seen records entry ≡ false
  unseen = hidden_unseen volume shaped entry (private_hidden volume shaped entry.parent private_is)

  pub not_shared : (reference : ℕ) → is_shared_file records reference entry ≡ false
  not_shared reference = by_test (is_shared_file records reference entry) refl
    where
      by_test : (b : Bool) → is_shared_file records reference entry ≡ b → b ≡ false
      by_test false isnt = refl
      by_test true shared = absurd (orphan_no_node (digits_value 10 (drop 4 entry.name)) reference (sym named ∙ (shared_is (private_id records) reference entry shared).name))

  pub no_node : (attributes : List Attribute) (bytes_of : BytesOf) → node_in attributes records bytes_of entry entry.value ≡ []
  no_node attributes bytes_of = unseen_no_node volume shaped attributes bytes_of entry a_file unseen (not_shared_unlinked records entry not_shared)

  pub not_own : is_own entry ≡ false
  not_own = ap (λ b. b && is_private_name entry.name) (differs entry.parent 2 (λ two. private_not_root volume shaped entry.parent private_is two))

  pub no_folder : is_folder entry.value ≡ false
  no_folder = file_no_folder entry.value a_file

  pub high : 16 ≤ id_of entry
  high = elim (each_of (λ (p : Placed). IsUserId volume.head.next_catalog_id (id_of p)) (entries_of records) shaped.ids.each entry stands) [
    | inl two ↦
        let root = shaped.rooted.root in
        let same : entry ≡ root.0 = same_entry volume.head.next_catalog_id (entries_of records) shaped.ids entry root.0 stands root.1 (two ∙ sym root.2.id) in
        absurd (true≢false (sym root.2.folder ∙ ap (λ (p : Placed). is_folder p.value) (sym same) ∙ no_folder))
    | inr user ↦ user.0
  ]

  no_child : (p : Placed) → Contains (entries_of records) p → p.parent ≡ id_of entry → ⊥
  no_child p there same = elim (each_of (λ (q : Placed). IsRoot q ⊎ LiesIn (entries_of records) 2 q.parent) (entries_of records) shaped.rooted.each p there) [
    | inl root ↦ omega (arith, root.parent, same, high)
    | inr lies ↦
        let folder = lies_in_folder (entries_of records) shaped.rooted p.parent lies in
        let one : folder.0 ≡ entry = same_entry volume.head.next_catalog_id (entries_of records) shaped.ids folder.0 entry folder.1 stands (folder.3 ∙ same) in
        true≢false (sym folder.2 ∙ ap (λ (q : Placed). is_folder q.value) one ∙ no_folder)
  ]

  pub no_entries : (p : Placed) → Contains (entries_of records) p → (p.parent == id_of entry) ≡ false
  no_entries p there = differs p.parent (id_of entry) (no_child p there)

-- ---- the entry goes

module _ (id : ℕ) (old new : VolumeState) (bytes_of : BytesOf) (by_fork : BytesBy bytes_of) (sound : IsSoundVolume old) (does : DropsOrphanEntry id old new) where
  abbrev entry : Placed
  entry = does.entry

  abbrev was : List Placed
  was = records_of old

  abbrev less : List Placed
  less = records_of does.dropped

  abbrev begun : VolumeState
  begun = one_file_less old

  abbrev head : VolumeHeader
  head = with_counts old.head.next_catalog_id (old.head.file_count - 1) old.head.folder_count old.head

  shaped_old : IsShaped old
  shaped_old = ((sound_is_both old).0 sound).0

  some_file : 1 ≤ old.head.file_count
  some_file = omega (arith, sound.entries.counts.files, one_there (λ (p : Placed). is_file p.value) (entries_of was) entry (stands old shaped_old entry does.is_orphan) (a_file old shaped_old entry does.is_orphan))

  abbrev debts_begun : Debts
  debts_begun = record no_debts { file_more = 0 + 1; file_less = 0 + 0; folder_more = 0 + 0; folder_less = 0 + 0 }

  account_begun : Account old begun debts_begun
  account_begun = heads old old no_debts head 0 1 0 0 (omega arith) refl (omega (arith, some_file)) refl (opened old sound does.sorted) (record { accepted = sound.blocks.header.accepted; next_id = sound.blocks.header.next_id })

  shaped : IsShaped begun
  shaped = account_begun.shaped

  may : MayDrop entry begun
  may = record {
    stands = stands old shaped_old entry does.is_orphan;
    high = high old shaped_old entry does.is_orphan;
    not_own = not_own old shaped_old entry does.is_orphan;
    no_entries = no_entries old shaped_old entry does.is_orphan;
    no_attributes = λ pair there same. does.no_attributes pair there (same ∙ does.is_entry);
    empty = does.no_blocks;
    no_links = λ link there is_one shared. true≢false (sym shared ∙ not_shared old shaped_old entry does.is_orphan (special_of link));
  }

  side : OneMore entry less was
  side = removed_side entry begun does.dropped does.drops does.sorted may shaped

  shaped_dropped : IsShaped does.dropped
  shaped_dropped = removed_shaped entry begun does.dropped does.drops does.sorted may shaped

  above : IsFolderId (entries_of less) entry.parent
  above =
      let folder = parent_folder begun shaped entry may.stands may.high in
      elim (entry_cases side folder.0 folder.1) [
        | inl same ↦ absurd (true≢false (sym folder.2 ∙ ap (λ (p : Placed). is_folder p.value) same ∙ no_folder old shaped_old entry does.is_orphan))
        | inr left ↦ (folder.0, left, folder.2, folder.3)
      ]

  pub sound_dropped : IsSoundVolume new
  sound_dropped =
      let first = drops old begun does.dropped debts_begun account_begun entry does.drops may in
      let second = recount_account old does.dropped new _ entry.parent 0 1 first does.loses above does.loses.fields.count (enough first.valences) in
      closed old new _ sound second (record {
        valences = λ n. let out : one_if (id_of does.loses.entry == n) ≡ one_if (entry.parent == n) = ap (λ m. one_if (m == n)) (id_is entry.parent does.dropped new does.loses) in omega (arith, out);
        specials = λ reference file there shared. omega (arith, ap (λ b. one_if (b && (special_of entry == reference))) (no_link old shaped_old entry does.is_orphan));
        files = omega (arith, ap one_if (a_file old shaped_old entry does.is_orphan));
        folders = omega (arith, ap one_if (no_folder old shaped_old entry does.is_orphan));
      })
    where
      enough : ((p : Placed) → Contains (entries_of (records_of does.dropped)) p → is_folder p.value ≡ true
          → valence_in p.value + 0 ≡ count_in (entries_of (records_of does.dropped)) (id_of p) + (0 + one_if (entry.parent == id_of p))) → 1 ≤ does.loses.before.count + 0
      enough valences =
          let folder_was = folder_is entry.parent does.dropped new does.loses shaped_dropped above in
          let account = valences does.loses.entry (there_was entry.parent does.dropped new does.loses shaped_dropped) folder_was in
          let counts = (valence_now does.loses.entry.value does.loses.before does.loses.after does.loses.has folder_was).0 in
          let here : one_if (entry.parent == id_of does.loses.entry) ≡ 1 = ap (λ n. one_if (entry.parent == n)) (id_is entry.parent does.dropped new does.loses) ∙ ap one_if (same_number entry.parent) in
          omega (arith, account, counts, here)

  -- ---- the tree

  flipped : InCatalog (AddsEntry entry) does.dropped begun
  flipped = record {
    changes = does.drops.changes;
    nodes = record { total = sym does.drops.nodes.total; size = sym does.drops.nodes.size };
    rest = sym (ap (λ (v : VolumeState). record v { catalog_pairs = begun.catalog_pairs; catalog_tree = begun.catalog_tree }) does.drops.rest);
  }

  empty_forks : AreEmptyForks begun.head (overflow_in_volume begun) (forks_in entry.value)
  empty_forks = record {
    sizes = all_of (HasSizes begun.head (overflow_in_volume begun)) (forks_in entry.value) (λ owned has. each_of (HasSizes begun.head (overflow_in_volume begun)) (all_forks begun.head was) shaped.forks.sizes owned (fork_there side begun.head owned has));
    goes_on = all_of (GoesOn (overflow_in_volume begun)) (forks_in entry.value) (λ owned has. each_of (GoesOn (overflow_in_volume begun)) (all_forks begun.head was) shaped.forks.goes_on owned (fork_there side begun.head owned has));
    none = may.empty;
  }

  may_back : MayAdd entry does.dropped
  may_back = record {
    kind = each_of (λ (p : Placed). is_thread p.value ≡ is_empty p.name) was shaped.threads.kinds entry (entry_is_record was entry may.stands) ∙ entry_is_named was entry may.stands;
    named = entry_is_named was entry may.stands;
    folder = above;
    id = subst (λ (v : VolumeState). IsUserId v.head.next_catalog_id (id_of entry)) (sym does.drops.rest) (each_of (λ (p : Placed). IsUserId begun.head.next_catalog_id (id_of p)) (entries_of was) shaped.ids.each entry may.stands);
    fresh = removed_fresh entry begun does.dropped does.drops does.sorted may shaped;
    empty = subst (λ (v : VolumeState). AreEmptyForks v.head (overflow_in_volume v) (forks_in entry.value)) (sym does.drops.rest) empty_forks;
    link = λ link. absurd (true≢false (sym link ∙ no_link old shaped_old entry does.is_orphan));
    own = inl may.not_own;
  }

  tree_begun : tree_in begun bytes_of ≡ tree_in old bytes_of
  tree_begun = counted_tree old bytes_of old.head.next_catalog_id (old.head.file_count - 1) old.head.folder_count ∙ (λ i. record (tree_in old bytes_of) { next_id = sym (next_is old bytes_of) i })

  pub tree_dropped : tree_in new bytes_of ≡ tree_in old bytes_of
  tree_dropped =
      private_counts_tree entry.parent does.dropped new does.loses bytes_of by_fork does.loses.fields.id shaped_dropped
      (removed_private entry begun does.dropped does.drops does.sorted may shaped ∙ private_is old shaped_old entry does.is_orphan)
      ∙ sym (tree_unseen entry does.dropped begun flipped may_back shaped_dropped does.sorted bytes_of may.not_own (no_link old shaped_old entry does.is_orphan) (unseen old shaped_old entry does.is_orphan) (no_node old shaped_old entry does.is_orphan (valued bytes_of (attributes_of does.dropped)) bytes_of))
      ∙ tree_begun

  same_blocks : (other kind : ℕ) → blocks_at begun other kind ≡ blocks_at old other kind
  unfolding all_forks
  same_blocks other kind = refl

  pub dropped_does : Does (DropOrphan id) old new
  dropped_does = orphan_drop_does id old begun new does does.drops does.sorted may shaped shaped_dropped same_blocks refl

pub orphan_dropped_law : OrphanDropped
orphan_dropped_law id old new bytes_of are sound does = (
  sound_dropped id old new bytes_of are.by_fork sound does,
  tree_dropped id old new bytes_of are.by_fork sound does,
  dropped_does id old new bytes_of are.by_fork sound does,
)

-- ---- an attribute goes

nodes_are : (volume : VolumeState) (bytes_of : BytesOf) → (tree_in volume bytes_of).nodes ≡ nodes_over (valued bytes_of (attributes_of volume)) bytes_of (records_of volume) (records_of volume)
unfolding tree_in
nodes_are volume bytes_of = refl

pub orphan_bared_law : OrphanBared
orphan_bared_law entry name old new bytes_of sorted sound orphan does = (
  attribute_bared (id_of entry) name old new does sound,
  bared_tree (id_of entry) name (value_blocks (attributes_of old) (id_of entry) name) old new bytes_of does
      ∙ changed_none (id_of entry) (without_attribute name) (tree_in old bytes_of) (λ n there same. absurd (no_such n (subst (λ l. Contains l n) (nodes_are old bytes_of) there) same)),
  attribute_drop_does (id_of entry) name (value_blocks (attributes_of old) (id_of entry) name) old new does,
)
  where
    no_such : (n : PlainNode) → Contains (nodes_over (valued bytes_of (attributes_of old)) bytes_of (records_of old) (records_of old)) n → n.id ≡ id_of entry → ⊥
    no_such n there same =
        let shaped = ((sound_is_both old).0 sound).0 in
        let it = nodes_from (valued bytes_of (attributes_of old)) bytes_of (records_of old) n there in
        let one : it.entry ≡ entry = same_entry old.head.next_catalog_id (entries_of (records_of old)) shaped.ids it.entry entry it.stands (stands old shaped entry orphan) (sym it.id ∙ same) in
        omega (arith, (subst (λ l. Contains l n) (no_node old shaped entry orphan (valued bytes_of (attributes_of old)) bytes_of) (subst (λ (e : Placed). Contains (node_in (valued bytes_of (attributes_of old)) (records_of old) bytes_of e e.value) n) one it.has)).1)
