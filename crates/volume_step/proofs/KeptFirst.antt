-- What the first links of a file keep of a volume, where the private folder is there.
use Rattle.std.proofs.Common.{◌≡◌, ◌≤◌, ◌<◌, ℕ, ◌+◌, Bool, true, false, List, [], ◌++◌, length, inl, inr, refl, sym, ◌∙◌, ap, subst, arith}
use Rattle.std.specs.Prelude.{Contains, ◌==◌, is_some, Option}
use Rattle.std.proofs.lemmas.Bool.{true≢false}
use Rattle.std.proofs.lemmas.List.Elements.{Contains-append_cases, Contains-append_left, Contains-append_right}
use Rattle.cat_records.specs.declared.record.CatRecord.{CatRecord}
use Rattle.cat_records.specs.declared.record.CatRecord.TheVariants.{Folder, File, Thread}
use Rattle.hfs_model.specs.Step.{Place}
use Rattle.hfs_model.specs.declared.plain.PlainEntry.{PlainEntry}
use Rattle.hfs_volume.specs.Blocks.{HasSizes, forks_of}
use Rattle.hfs_volume.specs.Changes.{AddsEntry, InCatalog, MovesEntry}
use Rattle.hfs_volume.specs.Commands.{IsMarkedLinked, IsRecounted, IsTouched, with_counts}
use Rattle.hfs_volume.specs.Content.{VolumeState, overflow_in_volume, records_of}
use Rattle.hfs_volume.specs.Entries.{IsUserId}
use Rattle.hfs_volume.specs.Forks.{Owned, all_forks, blocks_owned, file_forks, forks_in, special_forks}
use Rattle.hfs_volume.specs.Laws.{one_if}
use Rattle.hfs_volume.specs.Links.{node_name, private_id}
use Rattle.hfs_volume.specs.Naming.{IsLinkValue, LinksFirst, private_ids}
use Rattle.hfs_volume.specs.Reclaim.{blocks_at, blocks_found}
use Rattle.hfs_volume.specs.Records.{Overflow, Placed, entries_of, id_of, is_empty, is_folder, placed_in}
use Rattle.hfs_volume.specs.Sound.{IsSoundVolume}
use Rattle.hfs_volume.proofs.Fitting.{differs, not_same}
use Rattle.hfs_volume.proofs.Flat.{Pieces, flat_pieces}
use Rattle.hfs_volume.proofs.Hiding.{one_there}
use Rattle.hfs_volume.proofs.Members.{each_of}
use Rattle.hfs_volume.proofs.Seeing.{same_number}
use Rattle.hfs_volume.proofs.Sides.{OneMore, count_more, entries_more, entry_cases, one_more, still_entry}
use Rattle.volume_step.proofs.Forks.{found_more, found_moved}
use Rattle.volume_step.proofs.Kept.{Keeps, catalog_keeps, fields_keep, forks_are, keeps_both}
use Rattle.volume_step.proofs.KeptEntries.{counted_head, fields_forks, named_entry, no_items, none_more}
use Rattle.volume_step.proofs.KeptLinks.{link_bare, link_number}

node_named : (number : ℕ) → is_empty (node_name number) ≡ false
node_named number = refl

-- ---- one link more in a catalog

module _ (drawn reference parent : ℕ) (name : List ℕ) (value : CatRecord) (named : is_empty name ≡ false) (is : IsLinkValue drawn reference value) (high : 16 ≤ drawn) (first second new : VolumeState)
    (adds : InCatalog (AddsEntry (record { parent = parent; name = name; value = value })) first second) (fresh : (p : Placed) → Contains (entries_of (records_of first)) p → id_of p < drawn)
    (after : IsSoundVolume new) (overflow_same : overflow_in_volume new ≡ overflow_in_volume first) (there : (owned : Owned) → Contains (file_forks (records_of second)) owned → Contains (forks_of new) owned)
  where
    added_side : OneMore (record { parent = parent; name = name; value = value }) (records_of first) (records_of second)
    added_side = one_more adds.changes named

    added_number : id_of (record { parent = parent; name = name; value = value }) ≡ drawn
    added_number = link_number drawn reference value is

    added_pieces : Pieces (λ (p : Placed). forks_in p.value) (record { parent = parent; name = name; value = value }) (entries_of (records_of first)) (entries_of (records_of second))
    added_pieces = flat_pieces (λ (p : Placed). forks_in p.value) (record { parent = parent; name = name; value = value }) (entries_of (records_of first)) (entries_of (records_of second)) (entries_more added_side)

    -- its own forks, and those that were there, are there
    own_there : (owned : Owned) → Contains (forks_in value) owned → Contains (file_forks (records_of second)) owned
    own_there owned stands =
        subst (λ l. Contains l owned) (sym added_pieces.is) (Contains-append_right added_pieces.front (forks_in value ++ added_pieces.back) owned (Contains-append_left (forks_in value) added_pieces.back owned stands))

    pub were_there : (owned : Owned) → Contains (file_forks (records_of first)) owned → Contains (file_forks (records_of second)) owned
    were_there owned stands = subst (λ l. Contains l owned) (sym added_pieces.is) (elim (Contains-append_cases added_pieces.front added_pieces.back owned (subst (λ l. Contains l owned) added_pieces.was stands)) [
      | inl before ↦ Contains-append_left added_pieces.front (forks_in value ++ added_pieces.back) owned before
      | inr behind ↦ Contains-append_right added_pieces.front (forks_in value ++ added_pieces.back) owned (Contains-append_right (forks_in value) added_pieces.back owned behind)
    ])

    added_none : (owned : Owned) → Contains (forks_in value) owned → blocks_owned (overflow_in_volume first) owned ≡ []
    added_none owned stands =
        let sizes = each_of (HasSizes new.head (overflow_in_volume new)) (forks_of new) after.blocks.forks.sizes owned (there owned (own_there owned stands)) in
        no_items (blocks_owned (overflow_in_volume first) owned)
        (ap (λ (l : List Overflow). length (blocks_owned l owned)) (sym overflow_same) ∙ sizes.blocks ∙ link_bare drawn reference value is owned stands)

    added_blocks : (id kind : ℕ) → blocks_at second id kind ≡ blocks_at first id kind
    added_blocks id kind =
        ap (λ (v : VolumeState). blocks_at v id kind) adds.rest
        ∙ found_more added_side (omega (arith, added_number, high)) (λ p stands. differs (id_of p) (id_of (record { parent = parent; name = name; value = value })) (λ same. omega (arith, fresh p stands, same, added_number)))
        first.head (overflow_in_volume first) added_none id kind

    pub added_keeps : Keeps first second
    added_keeps = catalog_keeps first second adds.rest adds.nodes added_blocks

-- ---- the first links

module _ (at : PlainEntry) (to : Place) (old new : VolumeState) (sound : IsSoundVolume old) (after : IsSoundVolume new) (here : is_some (private_id (records_of old)) ≡ true) (goal_named : is_empty to.name ≡ false) (does : LinksFirst at to old new) where
  abbrev counted : VolumeState
  counted = record old { head = with_counts (old.head.next_catalog_id + private_ids (records_of old) + 2) (old.head.file_count + 2) (old.head.folder_count + private_ids (records_of old)) old.head }

  opened_is : does.opened ≡ counted
  opened_is = elim does.opens [
    | inl same ↦ same.1
    | inr made ↦ absurd (true≢false (sym here ∙ ap (λ (o : Option ℕ). is_some o) made.1.absent))
  ]

  gone_moves : InCatalog (MovesEntry does.entry does.private (node_name does.reference)) counted does.moved
  gone_moves = subst (λ (v : VolumeState). InCatalog (MovesEntry does.entry does.private (node_name does.reference)) v does.moved) opened_is does.moves

  entry_named : is_empty does.entry.name ≡ false
  entry_named = named_entry (records_of old) does.entry does.is_entry.stands

  gone_out : OneMore does.entry (placed_in gone_moves.changes.between) (records_of old)
  gone_out = one_more gone_moves.changes.out entry_named

  gone_back : OneMore (record does.entry { parent = does.private; name = node_name does.reference }) (placed_in gone_moves.changes.between) (records_of does.moved)
  gone_back = one_more gone_moves.changes.back (node_named does.reference)

  gone_alone : (p : Placed) → Contains (entries_of (placed_in gone_moves.changes.between)) p → (id_of p == id_of does.entry) ≡ false
  gone_alone p stands = by (id_of p == id_of does.entry) refl
    where
      by : (t : Bool) → (id_of p == id_of does.entry) ≡ t → t ≡ false
      by false is = refl
      by true is = absurd (omega (
        arith,
        sound.entries.ids.distinct (id_of does.entry),
        count_more gone_out (λ (q : Placed). id_of q == id_of does.entry),
        ap one_if (same_number (id_of does.entry)),
        one_there (λ (q : Placed). id_of q == id_of does.entry) (entries_of (placed_in gone_moves.changes.between)) p stands is,
      ))

  -- a file isn't the root
  gone_high : is_folder does.entry.value ≡ false → 16 ≤ id_of does.entry
  gone_high isnt = elim (each_of (λ (q : Placed). IsUserId old.head.next_catalog_id (id_of q)) (entries_of (records_of old)) sound.entries.ids.each does.entry does.is_entry.stands) [
    | inl two ↦
        let root = sound.entries.rooted.root in
        elim (entry_cases gone_out root.0 root.1) [
          | inl same ↦ absurd (true≢false (sym root.2.folder ∙ ap (λ (p : Placed). is_folder p.value) same ∙ isnt))
          | inr there ↦ absurd (not_same (id_of root.0) (id_of does.entry) (gone_alone root.0 there) (root.2.id ∙ sym two))
        ]
    | inr user ↦ user.0
  ]

  gone_blocks : (id kind : ℕ) → blocks_at does.moved id kind ≡ blocks_at counted id kind
  unfolding all_forks
  gone_blocks id kind = by does.entry.value refl
    where
      empty : forks_in does.entry.value ≡ [] → blocks_at does.moved id kind ≡ blocks_at counted id kind
      empty none = forks_are counted does.moved gone_moves.rest (none_more gone_back none ∙ sym (none_more gone_out none)) id kind

      by : (value : CatRecord) → does.entry.value ≡ value → blocks_at does.moved id kind ≡ blocks_at counted id kind
      by (Folder f) is = empty (ap forks_in is)
      by (Thread t) is = empty (ap forks_in is)
      by (File f) is =
          ap (λ (v : VolumeState). blocks_at v id kind) gone_moves.rest
          ∙ ap (blocks_found (overflow_in_volume old)) (found_moved gone_out gone_back (gone_high (ap is_folder is)) gone_alone counted.head id kind)

  -- each number is below the next one, before and behind the move
  low : (p : Placed) → Contains (entries_of (records_of old)) p → id_of p < old.head.next_catalog_id
  low p stands = elim (each_of (λ (q : Placed). IsUserId old.head.next_catalog_id (id_of q)) (entries_of (records_of old)) sound.entries.ids.each p stands) [
    | inl two ↦ omega (arith, two, sound.blocks.header.next_id)
    | inr user ↦ user.1
  ]

  moved_low : (p : Placed) → Contains (entries_of (records_of does.moved)) p → id_of p < old.head.next_catalog_id + private_ids (records_of old)
  moved_low p stands = elim (entry_cases gone_back p stands) [
    | inl same ↦ omega (arith, ap id_of same, low does.entry does.is_entry.stands)
    | inr kept ↦ omega (arith, low p (still_entry gone_out p kept))
  ]

  -- the records of extents are those that they were
  marked_overflow : overflow_in_volume new ≡ overflow_in_volume does.linked
  marked_overflow =
      ap (λ (v : VolumeState). overflow_in_volume v) does.gains.changes.rest ∙ ap (λ (v : VolumeState). overflow_in_volume v) does.marks.changes.rest ∙ ap (λ (v : VolumeState). overflow_in_volume v) does.fills.changes.rest

  second_overflow : overflow_in_volume new ≡ overflow_in_volume does.replaced
  second_overflow = marked_overflow ∙ ap (λ (v : VolumeState). overflow_in_volume v) does.links.rest

  first_overflow : overflow_in_volume new ≡ overflow_in_volume does.moved
  first_overflow = second_overflow ∙ ap (λ (v : VolumeState). overflow_in_volume v) does.replaces.rest

  -- the forks behind both links are forks of the volume
  linked_there : (owned : Owned) → Contains (file_forks (records_of does.linked)) owned → Contains (forks_of new) owned
  unfolding all_forks
  linked_there owned stands =
      Contains-append_right (special_forks new.head) (file_forks (records_of new)) owned
      (subst (λ l. Contains l owned)
      (sym (fields_forks to.folder (IsTouched old.head.modify_date 1 0) does.marked new does.gains ∙ fields_forks at.id (IsMarkedLinked old.head.modify_date 2) does.filled does.marked does.marks
      ∙ fields_forks does.private (IsRecounted 1 0) does.linked does.filled does.fills)) stands)

  old_high : 16 ≤ old.head.next_catalog_id + private_ids (records_of old)
  old_high = omega (arith, sound.blocks.header.next_id)

  new_high : 16 ≤ old.head.next_catalog_id + private_ids (records_of old) + 1
  new_high = omega (arith, old_high)

  replaced_low : (p : Placed) → Contains (entries_of (records_of does.replaced)) p → id_of p < old.head.next_catalog_id + private_ids (records_of old) + 1
  replaced_low p stands = elim (entry_cases (one_more does.replaces.changes entry_named) p stands) [
    | inl same ↦ omega (arith, ap id_of same, link_number (old.head.next_catalog_id + private_ids (records_of old)) does.reference does.old_link does.is_old_link)
    | inr kept ↦ omega (arith, moved_low p kept)
  ]

  second_keeps : Keeps does.replaced does.linked
  second_keeps =
      added_keeps (old.head.next_catalog_id + private_ids (records_of old) + 1) does.reference to.folder to.name does.new_link goal_named does.is_new_link new_high does.replaced does.linked new does.links replaced_low after second_overflow linked_there

  replaced_there : (owned : Owned) → Contains (file_forks (records_of does.replaced)) owned → Contains (forks_of new) owned
  replaced_there owned stands =
      linked_there owned
      (were_there (old.head.next_catalog_id + private_ids (records_of old) + 1) does.reference to.folder to.name does.new_link goal_named does.is_new_link new_high does.replaced does.linked new does.links replaced_low after second_overflow linked_there owned stands)

  replaced_keeps : Keeps does.moved does.replaced
  replaced_keeps =
      added_keeps (old.head.next_catalog_id + private_ids (records_of old)) does.reference does.entry.parent does.entry.name does.old_link entry_named does.is_old_link old_high does.moved does.replaced new does.replaces moved_low after first_overflow replaced_there

  pub first_keeps : Keeps old new
  first_keeps =
      keeps_both old counted new (counted_head (old.head.next_catalog_id + private_ids (records_of old) + 2) (old.head.file_count + 2) (old.head.folder_count + private_ids (records_of old)) old)
      (keeps_both counted does.moved new (catalog_keeps counted does.moved gone_moves.rest gone_moves.nodes gone_blocks)
      (keeps_both does.moved does.replaced new replaced_keeps
      (keeps_both does.replaced does.linked new second_keeps
      (keeps_both does.linked does.filled new (fields_keep does.private (IsRecounted 1 0) does.linked does.filled does.fills)
      (keeps_both does.filled does.marked new (fields_keep at.id (IsMarkedLinked old.head.modify_date 2) does.filled does.marked does.marks)
      (fields_keep to.folder (IsTouched old.head.modify_date 1 0) does.marked new does.gains))))))
