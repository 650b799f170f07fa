-- The private folder, made by itself: a sound volume is sound behind it, and its tree says that there is one.
use Rattle.std.proofs.Common.{◌≡◌, ℕ, ◌+◌, ◌<◌, ◌≤◌, Bool, true, false, List, [], ◌∷◌, inl, inr, refl, sym, ◌∙◌, ap, subst, arith}
use Rattle.std.proofs.Math.Bool.{and-false}
use Rattle.std.proofs.lemmas.Bool.{eqb-true, true≢false}
use Rattle.std.specs.Prelude.{Contains, ◌%◌, ◌==◌, ◌&&◌, count_by, Option, None, Some, is_some, slice_index_or, if◌then◌else◌}
use Rattle.std.specs.List.{range_with_len}
use Rattle.std.specs.Str.{bytes_eq}
use Rattle.volume_header.specs.declared.header.VolumeHeader.{VolumeHeader}
use Rattle.cat_records.specs.declared.record.EntryFields.{EntryFields}
use Rattle.cat_records.specs.declared.record.CatRecord.{CatRecord}
use Rattle.cat_records.specs.declared.record.CatRecord.TheVariants.{Folder, File, Thread}
use Rattle.hfs_model.specs.Step.{private_name, with_private}
use Rattle.hfs_model.specs.declared.plain.PlainTree.{PlainTree}
use Rattle.hfs_model.specs.Plain.{new_node}
use Rattle.hfs_volume.specs.Blocks.{HasBits, HasSizes, GoesOn, is_among, used_in}
use Rattle.hfs_volume.specs.Commands.{IsRecountedAlone, with_fields, with_made}
use Rattle.hfs_volume.specs.Content.{VolumeState, records_of, overflow_in_volume}
use Rattle.hfs_volume.specs.Entries.{AreCounted, IsUserId, count_in}
use Rattle.hfs_volume.specs.Forks.{forks_in}
use Rattle.hfs_volume.specs.Laws.{AreEmptyForks, HeaderChanged, IsFirstPrivate, IsShaped, MayAdd, one_if}
use Rattle.hfs_volume.specs.Links.{HaveLinkCounts, folder_id, private_id}
use Rattle.hfs_volume.specs.Records.{Overflow, Placed, entries_of, id_of, is_empty, is_file, is_folder, is_placed_at, is_thread, record_at, valence_in}
use Rattle.hfs_volume.specs.Sound.{IsSoundVolume}
use Rattle.hfs_volume.specs.TreeOf.{BytesOf, empty_forks, plain_attributes, plain_node, tree_in, type_bits_in}
use Rattle.hfs_volume.proofs.Adding.{added_count, added_shaped, added_side, added_used, first_private, no_child_yet}
use Rattle.hfs_volume.proofs.AddingSeen.{tree_private}
use Rattle.hfs_volume.proofs.Fields.{BytesBy, Views, id_of_fields, not_thread, valence_now}
use Rattle.hfs_volume.proofs.Fitting.{differs, none_counted, not_same}
use Rattle.hfs_volume.proofs.Flat.{none_or_some, some_same}
use Rattle.hfs_volume.proofs.Hiding.{same_entry}
use Rattle.hfs_volume.proofs.Keeping.{parts, value_cases, value_changed, value_counts, value_private, value_there, value_used, value_was}
use Rattle.hfs_volume.proofs.Making.{NewFacts, new_facts}
use Rattle.hfs_volume.proofs.Members.{all_of, each_of}
use Rattle.hfs_volume.proofs.NodesOf.{changed_none}
use Rattle.hfs_volume.proofs.Refielding.{fields_tree}
use Rattle.hfs_volume.proofs.Sharing.{shared_is}
use Rattle.hfs_volume.proofs.Sides.{OneMore, entry_cases, found_same}
use Rattle.hfs_volume.proofs.Swapping.{find_swap}
use Rattle.hfs_volume.proofs.Telling.{counted_tree, has_private_is, next_is}
use Rattle.volume_names.specs.PrivateFolder.{OpensPrivate, with_one_folder}

-- fields of which users see nothing else
alone_views : (up down : ℕ) (before after : EntryFields) → IsRecountedAlone up down before after → Views (λ n. n) before after
alone_views up down before after is attributes folder bytes linked = λ i. record (plain_node attributes before folder bytes linked) {
  id = sym is.recounted.id i;
  type_bits = type_bits_in (sym is.mode i);
  mode = sym is.mode i % 4096;
  created = sym is.created i;
  changed = sym is.changed i;
  attribute = sym is.attribute i;
  attributes = plain_attributes attributes (sym is.recounted.id i);
}

-- a name with units isn't the empty one
no_units : (name : List ℕ) → is_empty name ≡ false → bytes_eq [] name ≡ false
no_units [] some = absurd (true≢false some)
no_units (unit ∷ units) some = refl

-- where there is no private folder, nothing has its name
pub nothing_there : (records : List Placed) → private_id records ≡ None → ((p : Placed) → record_at records 2 private_name ≡ Some p → is_folder p.value ≡ true) → record_at records 2 private_name ≡ None
nothing_there records absent a_folder = by (record_at records 2 private_name) refl
  where
    by : (o : Option Placed) → record_at records 2 private_name ≡ o → o ≡ None
    by None found = refl
    by (Some p) found = absurd (none_or_some (id_of p) (sym absent ∙ ap folder_id found ∙ ap (λ b. if b then Some (id_of p) else None) (a_folder p found)))

-- a folder has no forks
no_forks_in : (head : VolumeHeader) (overflow : List Overflow) (value : CatRecord) → is_folder value ≡ true → AreEmptyForks head overflow (forks_in value)
no_forks_in head overflow (Folder f) is =
    record { sizes = all_of (HasSizes head overflow) [] (λ x stands. absurd (omega (arith, stands.1))); goes_on = all_of (GoesOn overflow) [] (λ x stands. absurd (omega (arith, stands.1))); none = refl }
no_forks_in head overflow (File f) is = absurd (true≢false (sym is))
no_forks_in head overflow (Thread t) is = absurd (true≢false (sym is))

module _ (law : HeaderChanged) (old new : VolumeState) (sound : IsSoundVolume old) (made : OpensPrivate old new) where
  abbrev was : List Placed
  was = records_of old

  abbrev mid : List Placed
  mid = records_of made.added

  abbrev is : List Placed
  is = records_of new

  abbrev begun : VolumeState
  begun = with_one_folder old

  abbrev folder : Placed
  folder = record { parent = 2; name = private_name; value = made.value }

  -- no file has a byte, nor has a value
  abbrev no_bytes : BytesOf
  no_bytes = record { file = λ _. empty_forks; value = λ size extents. [] }

  facts : NewFacts true old.head.next_catalog_id (new_node true old.head.next_catalog_id old.head.modify_date) no_bytes made.value
  facts = new_facts true old.head.next_catalog_id old.head.modify_date no_bytes made.value (λ file none other. refl) made.is_new

  number : id_of folder ≡ old.head.next_catalog_id
  number = facts.id

  low : 16 ≤ old.head.next_catalog_id
  low = sound.blocks.header.next_id

  -- ---- it may be added

  shaped_old : IsShaped old
  shaped_old = record {
    threads = sound.entries.threads;
    rooted = sound.entries.rooted;
    ids = sound.entries.ids;
    links = sound.links.good;
    attributes = sound.attributes;
    header = sound.blocks.header;
    alternate = sound.blocks.alternate;
    files = sound.blocks.files;
    forks = sound.blocks.forks;
  }

  begins : IsShaped (with_one_folder old) × ((block : ℕ) → is_among (used_in (with_one_folder old)) block ≡ is_among (used_in old) block)
  begins =
      let it = law old (with_one_folder old) (record { numbers = refl; next = omega arith }, refl) (record { accepted = sound.blocks.header.accepted; next_id = omega (arith, sound.blocks.header.next_id) }) shaped_old in
      (it.0, it.1.used)

  not_there : record_at (records_of old) 2 private_name ≡ None
  not_there = nothing_there (records_of old) made.absent sound.links.good.private_folder

  fresh : (p : Placed) → Contains (entries_of (records_of old)) p → (id_of p == id_of folder) ≡ false
  fresh p stands = differs (id_of p) (id_of folder) (λ same. elim (each_of (λ (q : Placed). IsUserId old.head.next_catalog_id (id_of q)) (entries_of (records_of old)) sound.entries.ids.each p stands) [
    | inl two ↦ omega (arith, two, same, number, low)
    | inr high ↦ omega (arith, high.1, same, number)
  ])

  first : IsFirstPrivate folder (records_of old)
  first = record { place = (refl, refl); folder = facts.is_a; is_new = not_there }

  may : MayAdd folder (with_one_folder old)
  may = record {
    kind = facts.kind;
    named = refl;
    folder = (sound.entries.rooted.root.0, sound.entries.rooted.root.1, sound.entries.rooted.root.2.folder, sound.entries.rooted.root.2.id);
    id = inr (omega (arith, number, low), omega (arith, number));
    fresh = fresh;
    empty = no_forks_in (with_made true old.head) (overflow_in_volume old) made.value facts.is_a;
    link = λ link. absurd (true≢false (sym link ∙ facts.no_link 2 private_name));
    own = inr first;
  }

  shaped_added : IsShaped made.added
  shaped_added = added_shaped folder (with_one_folder old) made.added made.adds may begins.0

  pub side : OneMore folder (records_of old) (records_of made.added)
  side = added_side folder (with_one_folder old) made.added made.adds may begins.0

  -- ---- the root counts it

  abbrev value : CatRecord
  value = with_fields (λ _. made.counts.after) made.counts.entry.value

  abbrev it : Placed
  it = record made.counts.entry { value = with_fields (λ _. made.counts.after) made.counts.entry.value }

  kind : is_thread made.counts.entry.value ≡ false
  kind = not_thread made.counts.entry.value made.counts.before made.counts.has

  shaped_new : IsShaped new
  shaped_new = value_changed made.counts.entry value made.added new made.counts.changes kind shaped_added

  counts_new : (test : Placed → Bool) → test it ≡ test made.counts.entry → count_by test (entries_of (records_of new)) ≡ count_by test (entries_of (records_of old)) + one_if (test folder)
  counts_new test same =
      value_counts made.counts.entry value made.added new made.counts.changes kind shaped_added test same
      ∙ added_count folder (with_one_folder old) made.added made.adds may begins.0 test

  root_id : id_of made.counts.entry ≡ 2
  root_id = id_of_fields made.counts.entry.value made.counts.before made.counts.has ∙ made.counts.is_entry

  it_id : id_of it ≡ id_of made.counts.entry
  it_id = made.counts.changes.changes.alike.id

  in_folder_new : (id : ℕ) → count_in (entries_of (records_of new)) id ≡ count_in (entries_of (records_of old)) id + one_if (2 == id)
  in_folder_new id = counts_new (λ (p : Placed). p.parent == id) refl

  root_was : Contains (entries_of (records_of old)) made.counts.entry
  root_was = elim (entry_cases side made.counts.entry (value_was made.counts.entry value made.added new made.counts.changes kind shaped_added)) [
    | inl same ↦ absurd (omega (arith, root_id, ap id_of same, number, low))
    | inr there ↦ there
  ]

  root_is : made.counts.entry ≡ sound.entries.rooted.root.0
  root_is = same_entry old.head.next_catalog_id (entries_of (records_of old)) sound.entries.ids made.counts.entry sound.entries.rooted.root.0 root_was sound.entries.rooted.root.1 (root_id ∙ sym sound.entries.rooted.root.2.id)

  pub root_parent : made.counts.entry.parent ≡ 1
  root_parent = ap (λ (p : Placed). p.parent) root_is ∙ sound.entries.rooted.root.2.parent

  root_folder : is_folder made.counts.entry.value ≡ true
  root_folder = ap (λ (p : Placed). is_folder p.value) root_is ∙ sound.entries.rooted.root.2.folder

  root_counts : (valence_in made.counts.entry.value ≡ made.counts.before.count) × (valence_in value ≡ made.counts.after.count)
  root_counts = valence_now made.counts.entry.value made.counts.before made.counts.after made.counts.has root_folder

  was_valence : (p : Placed) → Contains (entries_of (records_of old)) p → is_folder p.value ≡ true → valence_in p.value ≡ count_in (entries_of (records_of old)) (id_of p)
  was_valence p stands is_a = each_of (λ (q : Placed). is_folder q.value ≡ true → valence_in q.value ≡ count_in (entries_of (records_of old)) (id_of q)) (entries_of (records_of old)) sound.entries.counts.valences p stands is_a

  it_valence : valence_in value ≡ count_in (entries_of (records_of new)) (id_of it)
  it_valence =
      let before = was_valence made.counts.entry root_was root_folder in
      omega (
        arith,
        in_folder_new (id_of it),
        before,
        root_counts.0,
        root_counts.1,
        made.counts.fields.recounted.count,
        ap (count_in (entries_of (records_of old))) it_id,
        ap (λ n. one_if (2 == n)) (it_id ∙ root_id),
      )

  other_valence : (p : Placed) → Contains (entries_of (records_of made.added)) p → (2 == id_of p) ≡ false → is_folder p.value ≡ true → valence_in p.value ≡ count_in (entries_of (records_of new)) (id_of p)
  other_valence p stands other is_a = elim (entry_cases side p stands) [
    | inl same ↦
        let none = none_counted (λ (q : Placed). q.parent == id_of folder) (entries_of (records_of old)) (no_child_yet folder (with_one_folder old) made.added made.adds may begins.0) in
        omega (arith, in_folder_new (id_of p), ap one_if other, none, ap (λ (q : Placed). count_in (entries_of (records_of old)) (id_of q)) same, ap (λ (q : Placed). valence_in q.value) same, facts.valence)
    | inr there ↦ omega (arith, in_folder_new (id_of p), ap one_if other, was_valence p there is_a)
  ]

  valence_new : (p : Placed) → Contains (entries_of (records_of new)) p → is_folder p.value ≡ true → valence_in p.value ≡ count_in (entries_of (records_of new)) (id_of p)
  valence_new p stands is_a = elim (value_cases made.counts.entry value made.added new made.counts.changes kind shaped_added p stands) [
    | inl same ↦ subst (λ (q : Placed). valence_in q.value ≡ count_in (entries_of (records_of new)) (id_of q)) (sym same) it_valence
    | inr there ↦ by_test there (2 == id_of p) refl
  ]
    where
      by_test : Contains (entries_of (records_of made.added)) p → (b : Bool) → (2 == id_of p) ≡ b → valence_in p.value ≡ count_in (entries_of (records_of new)) (id_of p)
      by_test there false other = other_valence p there other is_a
      by_test there true same =
          let it_is : it ≡ p = same_entry new.head.next_catalog_id (entries_of (records_of new)) shaped_new.ids it p (value_there made.counts.entry value made.added new made.counts.changes kind shaped_added) stands (it_id ∙ root_id ∙ eqb-true 2 (id_of p) same) in
          subst (λ (q : Placed). valence_in q.value ≡ count_in (entries_of (records_of new)) (id_of q)) it_is it_valence

  pub head_is : new.head ≡ with_made true old.head
  head_is = ap (λ (v : VolumeState). v.head) made.counts.changes.rest ∙ ap (λ (v : VolumeState). v.head) made.adds.rest

  counted_new : AreCounted new.head (entries_of (records_of new))
  counted_new = record {
    valences = all_of (λ (q : Placed). is_folder q.value ≡ true → valence_in q.value ≡ count_in (entries_of (records_of new)) (id_of q)) (entries_of (records_of new)) valence_new;
    files = omega (arith, ap (λ (h : VolumeHeader). h.file_count) head_is, sound.entries.counts.files, counts_new (λ (p : Placed). is_file p.value) made.counts.changes.changes.alike.kind.1, ap one_if facts.is_file_);
    folders = omega (arith, ap (λ (h : VolumeHeader). h.folder_count) head_is, sound.entries.counts.folders, counts_new (λ (p : Placed). is_folder p.value) made.counts.changes.changes.alike.kind.0, ap one_if facts.is_a);
  }

  -- ---- nothing stands in it

  pub private_new : private_id (records_of new) ≡ Some old.head.next_catalog_id
  private_new =
      value_private made.counts.entry value made.added new made.counts.changes kind shaped_added
      ∙ first_private folder (with_one_folder old) made.added made.adds may begins.0 first ∙ ap (λ n. Some n) number

  childless : (p : Placed) → Contains (entries_of (records_of new)) p → p.parent ≡ old.head.next_catalog_id → ⊥
  childless p stands same = elim (value_cases made.counts.entry value made.added new made.counts.changes kind shaped_added p stands) [
    | inl is_it ↦ of_old made.counts.entry root_was (sym (ap (λ (q : Placed). q.parent) is_it) ∙ same)
    | inr there ↦ elim (entry_cases side p there) [
      | inl new_one ↦ omega (arith, ap (λ (q : Placed). q.parent) new_one, same, low)
      | inr before ↦ of_old p before same
    ]
  ]
    where
      of_old : (q : Placed) → Contains (entries_of (records_of old)) q → q.parent ≡ old.head.next_catalog_id → ⊥
      of_old q there is_so = not_same q.parent (id_of folder) (no_child_yet folder (with_one_folder old) made.added made.adds may begins.0 q there) (is_so ∙ sym number)

  link_counts : HaveLinkCounts (records_of new)
  link_counts reference file stands shared =
      let one = shared_is (private_id (records_of new)) reference file shared in
      absurd (childless file stands (one.parent ∙ some_same one.folder old.head.next_catalog_id (sym one.private_is ∙ private_new)))

  -- ---- blocks

  used_new : (block : ℕ) → is_among (used_in new) block ≡ is_among (used_in old) block
  used_new block =
      ap (λ l. is_among l block) (value_used made.counts.entry value made.added new made.counts.changes kind shaped_added)
      ∙ added_used folder (with_one_folder old) made.added made.adds may begins.0 block ∙ begins.1 block

  bits_new : new.bits ≡ old.bits
  bits_new = ap (λ (v : VolumeState). v.bits) made.counts.changes.rest ∙ ap (λ (v : VolumeState). v.bits) made.adds.rest

  bits_right : HasBits new
  bits_right = record {
    bits = λ block inside.
        ap (λ bits. slice_index_or bits block false) bits_new ∙ sound.blocks.bits.bits block (subst (λ (h : VolumeHeader). block < h.total_blocks) head_is inside) ∙ sym (used_new block);
    free = (λ i. (head_is i).free_blocks + count_by (λ block. used_new block i) (range_with_len 0 (head_is i).total_blocks)) ∙ sound.blocks.bits.free ∙ sym (ap (λ (h : VolumeHeader). h.total_blocks) head_is);
  }

  pub sound_opened : IsSoundVolume new
  sound_opened = record {
    entries = record { threads = shaped_new.threads; rooted = shaped_new.rooted; ids = shaped_new.ids; counts = counted_new };
    links = record { good = shaped_new.links; counts = link_counts };
    attributes = shaped_new.attributes;
    blocks = record { header = shaped_new.header; alternate = shaped_new.alternate; files = shaped_new.files; forks = shaped_new.forks; bits = bits_right };
  }

  -- ---- the tree

  pub tree_opened : (bytes_of : BytesOf) → BytesBy bytes_of → tree_in new bytes_of ≡ with_private (tree_in old bytes_of)
  tree_opened bytes_of by_fork =
      fields_tree 2 made.added new made.counts bytes_of by_fork (λ n. n) (alone_views 1 0 made.counts.before made.counts.after made.counts.fields) made.counts.fields.recounted.id shaped_added
      ∙ changed_none 2 (λ n. n) (tree_in made.added bytes_of) (λ n stands same. refl)
      ∙ tree_private folder (with_one_folder old) made.added made.adds may begins.0 made.sorted bytes_of first
      ∙ ap (λ (t : PlainTree). record t { has_private = true }) (counted_tree old bytes_of (old.head.next_catalog_id + 1) old.head.file_count (old.head.folder_count + 1))
      ∙ (λ i. record (tree_in old bytes_of) { next_id = sym (next_is old bytes_of) i + (if sym (has_private_is old bytes_of ∙ ap (λ (o : Option ℕ). is_some o) made.absent) i then 0 else 1); has_private = true })

  -- ---- other records are found as before

  pub record_same : (parent : ℕ) (name : List ℕ) → is_empty name ≡ false → (parent ≡ 1 → ⊥) → is_placed_at parent name folder ≡ false → record_at (records_of new) parent name ≡ record_at (records_of old) parent name
  record_same parent name some not_one other =
      let places = parts made.counts.entry value made.added new made.counts.changes kind shaped_added in
      let root_not : is_placed_at parent name made.counts.entry ≡ false = ap (λ b. b && bytes_eq made.counts.entry.name name) (differs made.counts.entry.parent parent (λ same. not_one (sym same ∙ root_parent))) in
      ap (λ (l : List Placed). record_at l parent name) places.is
      ∙ find_swap (λ (o : Option Placed). o) (λ (o : Option Placed). o) (is_placed_at parent name) made.counts.entry it places.front places.back refl refl (λ is_it. absurd (true≢false (sym is_it ∙ root_not))) (λ z stands is_it. refl)
      ∙ sym (ap (λ (l : List Placed). record_at l parent name) places.was)
      ∙ found_same side (is_placed_at parent name) other (ap (λ b. (id_of folder == parent) && b) (no_units name some) ∙ and-false (id_of folder == parent))
