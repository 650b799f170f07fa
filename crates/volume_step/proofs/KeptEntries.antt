-- What commands that make, move or remove an entry keep of a volume.
use Rattle.std.proofs.Common.{◌≡◌, ◌⊎◌, ◌≤◌, ℕ, ◌+◌, ◌-◌, Bool, true, false, List, [], ◌∷◌, ◌++◌, length, inl, inr, refl, sym, ◌∙◌, ap, subst, arith}
use Rattle.std.specs.Prelude.{Contains, ◌==◌, is_some, not, Option}
use Rattle.std.specs.List.{flat_map}
use Rattle.std.proofs.lemmas.Bool.{true≢false}
use Rattle.std.proofs.lemmas.List.{length-append}
use Rattle.std.proofs.lemmas.List.Elements.{Contains-append_left, Contains-append_right}
use Rattle.cat_records.specs.declared.record.EntryFields.{EntryFields}
use Rattle.cat_records.specs.declared.record.CatRecord.{CatRecord}
use Rattle.cat_records.specs.declared.record.CatRecord.TheVariants.{Folder, File, Thread}
use Rattle.hfs_model.specs.Step.{Place, private_name}
use Rattle.hfs_model.specs.declared.plain.PlainEntry.{PlainEntry}
use Rattle.hfs_volume.specs.Blocks.{HasSizes, forks_of}
use Rattle.hfs_volume.specs.Changes.{ChangesValue, DropsEntry, InCatalog, MovesEntry}
use Rattle.hfs_volume.specs.Commands.{ChangesFields, IsMarkedAlone, IsMarkedLinked, IsNewValue, IsRecounted, IsRecountedAlone, IsTouched, MakesEntry, RemovesFolder, entry_in, with_counts, with_fields, with_folder_removed, with_made}
use Rattle.hfs_volume.specs.Content.{VolumeState, overflow_in_volume, records_of}
use Rattle.hfs_volume.specs.Entries.{IsUserId}
use Rattle.hfs_volume.specs.Forks.{Owned, all_forks, blocks_owned, data_kind, file_forks, forks_in, resource_kind, special_forks}
use Rattle.hfs_volume.specs.Laws.{one_if}
use Rattle.hfs_volume.specs.Links.{private_id}
use Rattle.hfs_volume.specs.Naming.{MovesName, IsNameOf, RemovesFile, RemovesLastLink, RemovesLink, one_file_less, orphan_name, private_ids}
use Rattle.hfs_volume.specs.Reclaim.{blocks_at, blocks_found}
use Rattle.hfs_volume.specs.Records.{Overflow, Placed, entries_of, id_in, id_of, is_empty, is_folder, is_link, placed_in}
use Rattle.hfs_volume.specs.Sound.{IsSoundVolume}
use Rattle.hfs_volume.proofs.Fitting.{differs, not_same}
use Rattle.hfs_volume.proofs.Making.{placed_splits}
use Rattle.hfs_volume.proofs.Members.{each_of, first_or_later, in_one, kept_cases}
use Rattle.hfs_volume.proofs.Seeing.{same_number}
use Rattle.hfs_volume.proofs.Flat.{Pieces, flat_none, flat_pieces}
use Rattle.hfs_volume.proofs.Hiding.{one_there}
use Rattle.hfs_volume.proofs.Sides.{OneMore, count_more, entries_more, entry_cases, one_more, still_entry}
use Rattle.hfs_volume.proofs.Swapping.{Splits}
use Rattle.volume_names.specs.PrivateFolder.{OpensPrivate, with_one_folder}
use Rattle.volume_step.proofs.Forks.{forks_swapped, found_more, found_moved}
use Rattle.volume_step.proofs.Kept.{Keeps, KeepsForks, catalog_keeps, fields_keep, forks_are, forks_both, keeps_both, keeps_none, values_keep}

-- ---- other numbers in the header

made_blocks : (folder : Bool) (old : VolumeState) (id kind : ℕ) → blocks_at (record old { head = with_made folder old.head }) id kind ≡ blocks_at old id kind
unfolding all_forks
made_blocks folder old id kind = refl

made_head : (folder : Bool) (old : VolumeState) → Keeps old (record old { head = with_made folder old.head })
made_head folder old = record {
  forks = record {
    blocks = λ id kind. made_blocks folder old id kind;
    extents = refl;
    catalog = refl;
    attributes = refl;
    journal = refl;
    flags = refl;
    same = record { signature = refl; version = refl; last_mounted = refl; info_block = refl; block_size = refl; total_blocks = refl; bit_12 = refl; bit_13 = refl; bit_15 = refl };
  };
  pairs = refl;
}

-- ---- a new folder or file

new_number : (folder : Bool) (drawn moment : ℕ) (value : CatRecord) → IsNewValue folder drawn moment value → id_in value ≡ drawn
new_number true drawn moment (Folder f) is = is.id
new_number true drawn moment (File f) never = absurd never
new_number true drawn moment (Thread t) never = absurd never
new_number false drawn moment (Folder f) never = absurd never
new_number false drawn moment (File f) is = is.0.id
new_number false drawn moment (Thread t) never = absurd never

-- it has no blocks
new_empty : (folder : Bool) (drawn moment : ℕ) (value : CatRecord) → IsNewValue folder drawn moment value → (owned : Owned) → Contains (forks_in value) owned → owned.fork.total_blocks ≡ 0
new_empty true drawn moment (Folder f) is owned stands = absurd (omega (arith, stands.1))
new_empty true drawn moment (File f) never owned stands = absurd never
new_empty true drawn moment (Thread t) never owned stands = absurd never
new_empty false drawn moment (Folder f) never owned stands = absurd never
new_empty false drawn moment (File f) is owned stands =
    let one : Owned = record { id = f.fields.id; kind = data_kind; fork = f.data_fork } in
    let two : Owned = record { id = f.fields.id; kind = resource_kind; fork = f.resource_fork } in
    elim (first_or_later one owned (two ∷ []) stands) [
      | inl same ↦ ap (λ (o : Owned). o.fork.total_blocks) same ∙ is.2.blocks
      | inr later ↦ ap (λ (o : Owned). o.fork.total_blocks) (in_one two owned later) ∙ is.3.blocks
    ]
new_empty false drawn moment (Thread t) never owned stands = absurd never

pub no_items : (xs : List ℕ) → length xs ≡ 0 → xs ≡ []
no_items [] none = refl
no_items (x ∷ xs) none = absurd (omega (arith, none))

-- other fields leave the forks as they were
pub fields_forks : (id : ℕ) (Changes : EntryFields → EntryFields → Type 0) (old new : VolumeState) → ChangesFields id Changes old new → file_forks (records_of new) ≡ file_forks (records_of old)
fields_forks id Changes old new does =
    let value : CatRecord = with_fields (λ _. does.after) does.entry.value in
    let change : ChangesValue does.entry (with_fields (λ _. does.after) does.entry.value) old.catalog_pairs new.catalog_pairs = does.changes.changes in
    let parts : Splits does.entry (record does.entry { value = with_fields (λ _. does.after) does.entry.value }) (records_of old) (records_of new) = placed_splits does.entry (with_fields (λ _. does.after) does.entry.value) old.catalog_pairs new.catalog_pairs does.changes.changes in
    ap file_forks parts.is ∙ forks_swapped does.entry (with_fields (λ _. does.after) does.entry.value) does.changes.changes.forks parts.front parts.back ∙ sym (ap file_forks parts.was)

module _ (folder : Bool) (at : Place) (old new : VolumeState) (sound : IsSoundVolume old) (after : IsSoundVolume new) (named : is_empty at.name ≡ false) (does : MakesEntry folder at old new) where
  abbrev begun : VolumeState
  begun = record old { head = with_made folder old.head }

  abbrev entry : Placed
  entry = entry_in at does.value

  number : id_of entry ≡ old.head.next_catalog_id
  number = new_number folder old.head.next_catalog_id old.head.modify_date does.value does.is_new

  side : OneMore entry (records_of old) (records_of does.added)
  side = one_more does.adds.changes named

  fresh : (p : Placed) → Contains (entries_of (records_of old)) p → (id_of p == id_of entry) ≡ false
  fresh p stands = differs (id_of p) (id_of entry) (λ same. elim (each_of (λ (q : Placed). IsUserId old.head.next_catalog_id (id_of q)) (entries_of (records_of old)) sound.entries.ids.each p stands) [
    | inl two ↦ omega (arith, two, same, number, sound.blocks.header.next_id)
    | inr user ↦ omega (arith, user.1, same, number)
  ])

  overflow_same : overflow_in_volume new ≡ overflow_in_volume old
  overflow_same = ap (λ (v : VolumeState). overflow_in_volume v) does.counts.changes.rest ∙ ap (λ (v : VolumeState). overflow_in_volume v) does.adds.rest

  head_same : new.head ≡ with_made folder old.head
  head_same = ap (λ (v : VolumeState). v.head) does.counts.changes.rest ∙ ap (λ (v : VolumeState). v.head) does.adds.rest

  -- the new entry's forks are forks of the volume
  new_there : (owned : Owned) → Contains (file_forks (records_of does.added)) owned → Contains (forks_of new) owned
  unfolding all_forks
  new_there owned stands = Contains-append_right (special_forks new.head) (file_forks (records_of new)) owned (subst (λ l. Contains l owned) (sym (fields_forks at.folder (IsTouched old.head.modify_date 1 0) does.added new does.counts)) stands)

  pieces : Pieces (λ (p : Placed). forks_in p.value) (entry_in at does.value) (entries_of (records_of old)) (entries_of (records_of does.added))
  pieces = flat_pieces (λ (p : Placed). forks_in p.value) (entry_in at does.value) (entries_of (records_of old)) (entries_of (records_of does.added)) (entries_more side)

  among : (owned : Owned) → Contains (forks_in does.value) owned → Contains (file_forks (records_of does.added)) owned
  among owned stands = subst (λ l. Contains l owned) (sym pieces.is) (Contains-append_right pieces.front (forks_in does.value ++ pieces.back) owned (Contains-append_left (forks_in does.value) pieces.back owned stands))

  no_blocks : (owned : Owned) → Contains (forks_in does.value) owned → blocks_owned (overflow_in_volume old) owned ≡ []
  no_blocks owned stands =
      let sizes = each_of (HasSizes new.head (overflow_in_volume new)) (forks_of new) after.blocks.forks.sizes owned (new_there owned (among owned stands)) in
      no_items (blocks_owned (overflow_in_volume old) owned)
      (ap (λ (l : List Overflow). length (blocks_owned l owned)) (sym overflow_same) ∙ sizes.blocks ∙ new_empty folder old.head.next_catalog_id old.head.modify_date does.value does.is_new owned stands)

  added_blocks : (id kind : ℕ) → blocks_at does.added id kind ≡ blocks_at begun id kind
  added_blocks id kind =
      ap (λ (v : VolumeState). blocks_at v id kind) does.adds.rest
      ∙ found_more side (omega (arith, number, sound.blocks.header.next_id)) fresh (with_made folder old.head) (overflow_in_volume old) no_blocks id kind

  pub made_keeps : Keeps old new
  made_keeps =
      keeps_both old begun new (made_head folder old)
      (keeps_both begun does.added new (catalog_keeps begun does.added does.adds.rest does.adds.nodes added_blocks) (fields_keep at.folder (IsTouched old.head.modify_date 1 0) does.added new does.counts))

-- ---- a folder or file at another place

pub named_entry : (records : List Placed) (p : Placed) → Contains (entries_of records) p → is_empty p.name ≡ false
named_entry records p stands = by (is_empty p.name) (kept_cases (λ (q : Placed). not (is_empty q.name)) records p stands).1
  where
    by : (b : Bool) → not b ≡ true → b ≡ false
    by true is = absurd (true≢false (sym is))
    by false is = refl

-- where a value has no forks, the forks are those without it
pub none_more : {entry : Placed} {less more : List Placed} → OneMore entry less more → forks_in entry.value ≡ [] → file_forks more ≡ file_forks less
none_more {entry} {less} {more} one none = flat_none (λ (p : Placed). forks_in p.value) entry (entries_of less) (entries_of more) (entries_more one) none

module _ (at : PlainEntry) (to : Place) (old new : VolumeState) (sound : IsSoundVolume old) (named : is_empty to.name ≡ false) (does : MovesName at to old new) where
  abbrev between : List Placed
  between = placed_in does.moves.changes.between

  out : OneMore does.entry (placed_in does.moves.changes.between) (records_of old)
  out = one_more does.moves.changes.out (named_entry (records_of old) does.entry does.stands)

  back : OneMore (record does.entry { parent = to.folder; name = to.name }) (placed_in does.moves.changes.between) (records_of does.moved)
  back = one_more does.moves.changes.back named

  alone : (p : Placed) → Contains (entries_of (placed_in does.moves.changes.between)) p → (id_of p == id_of does.entry) ≡ false
  alone p stands = by (id_of p == id_of does.entry) refl
    where
      by : (t : Bool) → (id_of p == id_of does.entry) ≡ t → t ≡ false
      by false is = refl
      by true is = absurd (omega (
        arith,
        sound.entries.ids.distinct (id_of does.entry),
        count_more out (λ (q : Placed). id_of q == id_of does.entry),
        ap one_if (same_number (id_of does.entry)),
        one_there (λ (q : Placed). id_of q == id_of does.entry) (entries_of (placed_in does.moves.changes.between)) p stands is,
      ))

  -- a file isn't the root
  high : is_folder does.entry.value ≡ false → 16 ≤ id_of does.entry
  high isnt = elim (each_of (λ (q : Placed). IsUserId old.head.next_catalog_id (id_of q)) (entries_of (records_of old)) sound.entries.ids.each does.entry does.stands) [
    | inl two ↦
        let root = sound.entries.rooted.root in
        elim (entry_cases out root.0 root.1) [
          | inl same ↦ absurd (true≢false (sym root.2.folder ∙ ap (λ (p : Placed). is_folder p.value) same ∙ isnt))
          | inr there ↦ absurd (not_same (id_of root.0) (id_of does.entry) (alone root.0 there) (root.2.id ∙ sym two))
        ]
    | inr user ↦ user.0
  ]

  moved_blocks : (id kind : ℕ) → blocks_at does.moved id kind ≡ blocks_at old id kind
  unfolding all_forks
  moved_blocks id kind = by does.entry.value refl
    where
      empty : forks_in does.entry.value ≡ [] → blocks_at does.moved id kind ≡ blocks_at old id kind
      empty none = forks_are old does.moved does.moves.rest (none_more back none ∙ sym (none_more out none)) id kind

      by : (value : CatRecord) → does.entry.value ≡ value → blocks_at does.moved id kind ≡ blocks_at old id kind
      by (Folder f) is = empty (ap forks_in is)
      by (Thread t) is = empty (ap forks_in is)
      by (File f) is =
          ap (λ (v : VolumeState). blocks_at v id kind) does.moves.rest
          ∙ ap (blocks_found (overflow_in_volume old)) (found_moved out back (high (ap is_folder is)) alone old.head id kind)

  pub moved_keeps : Keeps old new
  moved_keeps =
      keeps_both old does.moved new (catalog_keeps old does.moved does.moves.rest does.moves.nodes moved_blocks)
      (keeps_both does.moved does.lost new (fields_keep at.parent (IsTouched old.head.modify_date 0 1) does.moved does.lost does.loses)
      (keeps_both does.lost does.gained new (fields_keep to.folder (IsTouched old.head.modify_date 1 0) does.lost does.gained does.gains)
      (fields_keep at.id (IsMarkedAlone old.head.modify_date) does.gained new does.marks)))

-- ---- a folder less

removed_blocks : (old : VolumeState) (id kind : ℕ) → blocks_at (record old { head = with_folder_removed old.head }) id kind ≡ blocks_at old id kind
unfolding all_forks
removed_blocks old id kind = refl

removed_head : (old : VolumeState) → Keeps old (record old { head = with_folder_removed old.head })
removed_head old = record {
  forks = record {
    blocks = λ id kind. removed_blocks old id kind;
    extents = refl;
    catalog = refl;
    attributes = refl;
    journal = refl;
    flags = refl;
    same = record { signature = refl; version = refl; last_mounted = refl; info_block = refl; block_size = refl; total_blocks = refl; bit_12 = refl; bit_13 = refl; bit_15 = refl };
  };
  pairs = refl;
}

folder_forks : (value : CatRecord) → is_folder value ≡ true → forks_in value ≡ []
folder_forks (Folder f) is = refl
folder_forks (File f) is = absurd (true≢false (sym is))
folder_forks (Thread t) is = refl

module _ (id : ℕ) (old new : VolumeState) (does : RemovesFolder id old new) (folder : is_folder does.entry.value ≡ true) where
  abbrev counted_less : VolumeState
  counted_less = record does.bared { head = with_folder_removed does.bared.head }

  records_same : records_of counted_less ≡ records_of old
  records_same = ap (λ (v : VolumeState). records_of v) does.bares.rest

  gone : OneMore does.entry (records_of does.dropped) (records_of counted_less)
  gone = one_more does.drops.changes (subst (λ l. Contains (entries_of l) does.entry → is_empty does.entry.name ≡ false) (sym records_same) (named_entry (records_of old) does.entry) (subst (λ l. Contains (entries_of l) does.entry) (sym records_same) does.stands))

  dropped_blocks : (n kind : ℕ) → blocks_at does.dropped n kind ≡ blocks_at counted_less n kind
  dropped_blocks n kind = forks_are counted_less does.dropped does.drops.rest (sym (none_more gone (folder_forks does.entry.value folder))) n kind

  pub removed_keeps : KeepsForks old new
  removed_keeps =
      forks_both old does.bared new (values_keep _ _ _ old does.bared does.bares)
      (keeps_both does.bared counted_less new (removed_head does.bared)
      (keeps_both counted_less does.dropped new (catalog_keeps counted_less does.dropped does.drops.rest does.drops.nodes dropped_blocks)
      (fields_keep does.entry.parent (IsTouched old.head.modify_date 0 1) does.dropped new does.counts))).forks

-- ---- a file that loses its only name

counted_blocks : (next files folders : ℕ) (old : VolumeState) (id kind : ℕ) → blocks_at (record old { head = with_counts next files folders old.head }) id kind ≡ blocks_at old id kind
unfolding all_forks
counted_blocks next files folders old id kind = refl

pub counted_head : (next files folders : ℕ) (old : VolumeState) → Keeps old (record old { head = with_counts next files folders old.head })
counted_head next files folders old = record {
  forks = record {
    blocks = λ id kind. counted_blocks next files folders old id kind;
    extents = refl;
    catalog = refl;
    attributes = refl;
    journal = refl;
    flags = refl;
    same = record { signature = refl; version = refl; last_mounted = refl; info_block = refl; block_size = refl; total_blocks = refl; bit_12 = refl; bit_13 = refl; bit_15 = refl };
  };
  pairs = refl;
}

-- a name of a numbered file isn't empty
orphan_named : (number : ℕ) → is_empty (orphan_name number) ≡ false
orphan_named number = refl

module _ (at : PlainEntry) (old new : VolumeState) (sound : IsSoundVolume old) (here : is_some (private_id (records_of old)) ≡ true) (does : RemovesFile at old new) where
  abbrev counted : VolumeState
  counted = record old { head = with_counts (old.head.next_catalog_id + private_ids (records_of old)) old.head.file_count (old.head.folder_count + private_ids (records_of old)) old.head }

  opened_is : does.opened ≡ counted
  opened_is = elim does.opens [
    | inl same ↦ same.1
    | inr made ↦ absurd (true≢false (sym here ∙ ap (λ (o : Option ℕ). is_some o) made.1.absent))
  ]

  lost_moves : InCatalog (MovesEntry does.entry does.private (orphan_name does.number)) counted does.moved
  lost_moves = subst (λ (v : VolumeState). InCatalog (MovesEntry does.entry does.private (orphan_name does.number)) v does.moved) opened_is does.moves

  lost_out : OneMore does.entry (placed_in lost_moves.changes.between) (records_of old)
  lost_out = one_more lost_moves.changes.out (named_entry (records_of old) does.entry does.is_entry.stands)

  lost_back : OneMore (record does.entry { parent = does.private; name = orphan_name does.number }) (placed_in lost_moves.changes.between) (records_of does.moved)
  lost_back = one_more lost_moves.changes.back (orphan_named does.number)

  lost_alone : (p : Placed) → Contains (entries_of (placed_in lost_moves.changes.between)) p → (id_of p == id_of does.entry) ≡ false
  lost_alone p stands = by (id_of p == id_of does.entry) refl
    where
      by : (t : Bool) → (id_of p == id_of does.entry) ≡ t → t ≡ false
      by false is = refl
      by true is = absurd (omega (
        arith,
        sound.entries.ids.distinct (id_of does.entry),
        count_more lost_out (λ (q : Placed). id_of q == id_of does.entry),
        ap one_if (same_number (id_of does.entry)),
        one_there (λ (q : Placed). id_of q == id_of does.entry) (entries_of (placed_in lost_moves.changes.between)) p stands is,
      ))

  -- a file isn't the root
  lost_high : is_folder does.entry.value ≡ false → 16 ≤ id_of does.entry
  lost_high isnt = elim (each_of (λ (q : Placed). IsUserId old.head.next_catalog_id (id_of q)) (entries_of (records_of old)) sound.entries.ids.each does.entry does.is_entry.stands) [
    | inl two ↦
        let root = sound.entries.rooted.root in
        elim (entry_cases lost_out root.0 root.1) [
          | inl same ↦ absurd (true≢false (sym root.2.folder ∙ ap (λ (p : Placed). is_folder p.value) same ∙ isnt))
          | inr there ↦ absurd (not_same (id_of root.0) (id_of does.entry) (lost_alone root.0 there) (root.2.id ∙ sym two))
        ]
    | inr user ↦ user.0
  ]

  lost_blocks : (id kind : ℕ) → blocks_at does.moved id kind ≡ blocks_at counted id kind
  unfolding all_forks
  lost_blocks id kind = by does.entry.value refl
    where
      empty : forks_in does.entry.value ≡ [] → blocks_at does.moved id kind ≡ blocks_at counted id kind
      empty none = forks_are counted does.moved lost_moves.rest (none_more lost_back none ∙ sym (none_more lost_out none)) id kind

      by : (value : CatRecord) → does.entry.value ≡ value → blocks_at does.moved id kind ≡ blocks_at counted id kind
      by (Folder f) is = empty (ap forks_in is)
      by (Thread t) is = empty (ap forks_in is)
      by (File f) is =
          ap (λ (v : VolumeState). blocks_at v id kind) lost_moves.rest
          ∙ ap (blocks_found (overflow_in_volume old)) (found_moved lost_out lost_back (lost_high (ap is_folder is)) lost_alone counted.head id kind)

  pub lost_keeps : Keeps old new
  lost_keeps =
      keeps_both old counted new (counted_head (old.head.next_catalog_id + private_ids (records_of old)) old.head.file_count (old.head.folder_count + private_ids (records_of old)) old)
      (keeps_both counted does.moved new (catalog_keeps counted does.moved lost_moves.rest lost_moves.nodes lost_blocks)
      (keeps_both does.moved does.filled new (fields_keep does.private (IsRecounted 1 0) does.moved does.filled does.fills)
      (fields_keep at.parent (IsTouched old.head.modify_date 0 1) does.filled new does.loses)))

-- ---- the private folder, made where it wasn't there

new_folder : (id moment : ℕ) (value : CatRecord) → IsNewValue true id moment value → is_folder value ≡ true
new_folder id moment (Folder f) is = refl
new_folder id moment (File f) never = absurd never
new_folder id moment (Thread t) never = absurd never

module _ (old new : VolumeState) (made : OpensPrivate old new) where
  private_side : OneMore (record { parent = 2; name = private_name; value = made.value }) (records_of old) (records_of made.added)
  private_side = one_more made.adds.changes refl

  private_blocks : (id kind : ℕ) → blocks_at made.added id kind ≡ blocks_at (with_one_folder old) id kind
  private_blocks id kind =
      forks_are (with_one_folder old) made.added made.adds.rest (none_more private_side (folder_forks made.value (new_folder old.head.next_catalog_id old.head.modify_date made.value made.is_new))) id kind

  private_keeps : Keeps old new
  private_keeps =
      keeps_both old (with_one_folder old) new (made_head true old)
      (keeps_both (with_one_folder old) made.added new (catalog_keeps (with_one_folder old) made.added made.adds.rest made.adds.nodes private_blocks) (fields_keep 2 (IsRecountedAlone 1 0) made.added new made.counts))

pub opened_keeps : (old new : VolumeState) → (new ≡ old) ⊎ OpensPrivate old new → Keeps old new
opened_keeps old new (inl same) = subst (λ (v : VolumeState). Keeps old v) (sym same) (keeps_none old)
opened_keeps old new (inr made) = private_keeps old new made

-- ---- a link less

link_kind : (p : Placed) → is_link p ≡ true → is_folder p.value ≡ false
link_kind p link = by p.value refl
  where
    by : (value : CatRecord) → p.value ≡ value → is_folder value ≡ false
    by (Folder f) is = absurd (true≢false (sym link ∙ ap (λ (v : CatRecord). is_link (record p { value = v })) is))
    by (File f) is = refl
    by (Thread t) is = refl

flat_empty : (f : Owned → List ℕ) (xs : List Owned) (x : Owned) → flat_map f xs ≡ [] → Contains xs x → f x ≡ []
flat_empty f [] x none stands = absurd (omega (arith, stands.1))
flat_empty f (y ∷ ys) x none stands =
    let parts : length (f y) + length (flat_map f ys) ≡ 0 = sym (length-append (f y) (flat_map f ys)) ∙ ap length none in
    elim (first_or_later y x ys stands) [
      | inl same ↦ ap f same ∙ no_items (f y) (omega (arith, parts))
      | inr later ↦ flat_empty f ys x (no_items (flat_map f ys) (omega (arith, parts))) later
    ]

module _ (at : PlainEntry) (old dropped : VolumeState) (sound : IsSoundVolume old) (entry : Placed) (is_entry : IsNameOf at entry old) (is_one : is_link entry ≡ true) (drops : InCatalog (DropsEntry entry) (one_file_less old) dropped) where
  link_side : OneMore entry (records_of dropped) (records_of old)
  link_side = one_more drops.changes (named_entry (records_of old) entry is_entry.stands)

  link_alone : (p : Placed) → Contains (entries_of (records_of dropped)) p → (id_of p == id_of entry) ≡ false
  link_alone p stands = by (id_of p == id_of entry) refl
    where
      by : (t : Bool) → (id_of p == id_of entry) ≡ t → t ≡ false
      by false is = refl
      by true is = absurd (omega (
        arith,
        sound.entries.ids.distinct (id_of entry),
        count_more link_side (λ (q : Placed). id_of q == id_of entry),
        ap one_if (same_number (id_of entry)),
        one_there (λ (q : Placed). id_of q == id_of entry) (entries_of (records_of dropped)) p stands is,
      ))

  link_high : 16 ≤ id_of entry
  link_high = elim (each_of (λ (q : Placed). IsUserId old.head.next_catalog_id (id_of q)) (entries_of (records_of old)) sound.entries.ids.each entry is_entry.stands) [
    | inl two ↦
        let root = sound.entries.rooted.root in
        elim (entry_cases link_side root.0 root.1) [
          | inl same ↦ absurd (true≢false (sym root.2.folder ∙ ap (λ (p : Placed). is_folder p.value) same ∙ link_kind entry is_one))
          | inr there ↦ absurd (not_same (id_of root.0) (id_of entry) (link_alone root.0 there) (root.2.id ∙ sym two))
        ]
    | inr user ↦ user.0
  ]

  link_empty : (owned : Owned) → Contains (forks_in entry.value) owned → blocks_owned (overflow_in_volume old) owned ≡ []
  link_empty owned stands = flat_empty (blocks_owned (overflow_in_volume old)) (forks_in entry.value) owned (sound.links.good.links entry is_entry.stands is_one).empty stands

  link_blocks : (id kind : ℕ) → blocks_at dropped id kind ≡ blocks_at (one_file_less old) id kind
  link_blocks id kind =
      ap (λ (v : VolumeState). blocks_at v id kind) drops.rest
      ∙ sym (found_more link_side link_high link_alone (one_file_less old).head (overflow_in_volume old) link_empty id kind)

  dropped_link : Keeps old dropped
  dropped_link =
      keeps_both old (one_file_less old) dropped (counted_head old.head.next_catalog_id (old.head.file_count - 1) old.head.folder_count old)
      (catalog_keeps (one_file_less old) dropped drops.rest drops.nodes link_blocks)

pub link_keeps : (at : PlainEntry) (old new : VolumeState) → IsSoundVolume old → RemovesLink at old new → Keeps old new
link_keeps at old new sound does =
    keeps_both old does.dropped new (dropped_link at old does.dropped sound does.entry does.is_entry does.is_one does.drops)
    (keeps_both does.dropped does.marked new (fields_keep at.id (IsMarkedLinked old.head.modify_date does.links) does.dropped does.marked does.marks)
    (fields_keep at.parent (IsTouched old.head.modify_date 0 1) does.marked new does.loses))

-- ---- a last link

module _ (at : PlainEntry) (old new : VolumeState) (sound : IsSoundVolume old) (does : RemovesLastLink at old new) where
  first_side : OneMore does.entry (records_of does.dropped) (records_of old)
  first_side = link_side at old does.dropped sound does.entry does.is_entry does.is_one does.drops

  last_out : OneMore does.file (placed_in does.moves.changes.between) (records_of does.dropped)
  last_out = one_more does.moves.changes.out (named_entry (records_of does.dropped) does.file does.is_file.0)

  last_back : OneMore (record does.file { parent = does.file.parent; name = orphan_name does.number }) (placed_in does.moves.changes.between) (records_of does.moved)
  last_back = one_more does.moves.changes.back (orphan_named does.number)

  last_alone : (p : Placed) → Contains (entries_of (placed_in does.moves.changes.between)) p → (id_of p == id_of does.file) ≡ false
  last_alone p stands = by (id_of p == id_of does.file) refl
    where
      by : (t : Bool) → (id_of p == id_of does.file) ≡ t → t ≡ false
      by false is = refl
      by true is = absurd (omega (
        arith,
        sound.entries.ids.distinct (id_of does.file),
        count_more first_side (λ (q : Placed). id_of q == id_of does.file),
        count_more last_out (λ (q : Placed). id_of q == id_of does.file),
        ap one_if (same_number (id_of does.file)),
        one_there (λ (q : Placed). id_of q == id_of does.file) (entries_of (placed_in does.moves.changes.between)) p stands is,
      ))

  -- a file isn't the root
  last_high : is_folder does.file.value ≡ false → 16 ≤ id_of does.file
  last_high isnt = elim (each_of (λ (q : Placed). IsUserId old.head.next_catalog_id (id_of q)) (entries_of (records_of old)) sound.entries.ids.each does.file (still_entry first_side does.file does.is_file.0)) [
    | inl two ↦
        let root = sound.entries.rooted.root in
        elim (entry_cases first_side root.0 root.1) [
          | inl same ↦ absurd (true≢false (sym root.2.folder ∙ ap (λ (p : Placed). is_folder p.value) same ∙ link_kind does.entry does.is_one))
          | inr left ↦ elim (entry_cases last_out root.0 left) [
            | inl same ↦ absurd (true≢false (sym root.2.folder ∙ ap (λ (p : Placed). is_folder p.value) same ∙ isnt))
            | inr there ↦ absurd (not_same (id_of root.0) (id_of does.file) (last_alone root.0 there) (root.2.id ∙ sym two))
          ]
        ]
    | inr user ↦ user.0
  ]

  last_blocks : (id kind : ℕ) → blocks_at does.moved id kind ≡ blocks_at does.dropped id kind
  unfolding all_forks
  last_blocks id kind = by does.file.value refl
    where
      empty : forks_in does.file.value ≡ [] → blocks_at does.moved id kind ≡ blocks_at does.dropped id kind
      empty none = forks_are does.dropped does.moved does.moves.rest (none_more last_back none ∙ sym (none_more last_out none)) id kind

      by : (value : CatRecord) → does.file.value ≡ value → blocks_at does.moved id kind ≡ blocks_at does.dropped id kind
      by (Folder f) is = empty (ap forks_in is)
      by (Thread t) is = empty (ap forks_in is)
      by (File f) is =
          ap (λ (v : VolumeState). blocks_at v id kind) does.moves.rest
          ∙ ap (blocks_found (overflow_in_volume does.dropped)) (found_moved last_out last_back (last_high (ap is_folder is)) last_alone does.dropped.head id kind)

  pub last_keeps : Keeps old new
  last_keeps =
      keeps_both old does.dropped new (dropped_link at old does.dropped sound does.entry does.is_entry does.is_one does.drops)
      (keeps_both does.dropped does.moved new (catalog_keeps does.dropped does.moved does.moves.rest does.moves.nodes last_blocks) (fields_keep at.parent (IsTouched old.head.modify_date 0 1) does.moved new does.loses))
