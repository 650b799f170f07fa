-- What another link of a file keeps of a volume.
use Rattle.std.proofs.Common.{◌≡◌, ℕ, ◌+◌, false, List, [], ◌∷◌, ◌++◌, length, inl, inr, sym, ◌∙◌, ap, subst, arith}
use Rattle.std.specs.Prelude.{Contains, ◌==◌}
use Rattle.std.proofs.lemmas.List.Elements.{Contains-append_left, Contains-append_right}
use Rattle.cat_records.specs.declared.record.CatRecord.{CatRecord}
use Rattle.cat_records.specs.declared.record.CatRecord.TheVariants.{Folder, File, Thread}
use Rattle.hfs_model.specs.Step.{Place}
use Rattle.hfs_model.specs.declared.plain.PlainEntry.{PlainEntry}
use Rattle.hfs_volume.specs.Blocks.{HasSizes, forks_of}
use Rattle.hfs_volume.specs.Commands.{IsMarkedLinked, IsTouched, with_counts}
use Rattle.hfs_volume.specs.Content.{VolumeState, overflow_in_volume, records_of}
use Rattle.hfs_volume.specs.Entries.{IsUserId}
use Rattle.hfs_volume.specs.Forks.{Owned, all_forks, blocks_owned, data_kind, file_forks, forks_in, resource_kind, special_forks}
use Rattle.hfs_volume.specs.Naming.{IsLinkValue, LinksMore}
use Rattle.hfs_volume.specs.Reclaim.{blocks_at}
use Rattle.hfs_volume.specs.Records.{Overflow, Placed, entries_of, id_in, id_of, is_empty, special_of}
use Rattle.hfs_volume.specs.Sound.{IsSoundVolume}
use Rattle.hfs_volume.proofs.Fitting.{differs}
use Rattle.hfs_volume.proofs.Flat.{Pieces, flat_pieces}
use Rattle.hfs_volume.proofs.Members.{each_of, first_or_later, in_one}
use Rattle.hfs_volume.proofs.Sides.{OneMore, entries_more, one_more}
use Rattle.volume_step.proofs.Forks.{found_more}
use Rattle.volume_step.proofs.Kept.{Keeps, catalog_keeps, fields_keep, keeps_both}
use Rattle.volume_step.proofs.KeptEntries.{counted_head, fields_forks, no_items}

-- ---- a link

pub link_number : (drawn reference : ℕ) (value : CatRecord) → IsLinkValue drawn reference value → id_in value ≡ drawn
link_number drawn reference (Folder f) never = absurd never
link_number drawn reference (File f) is = is.0
link_number drawn reference (Thread t) never = absurd never

-- it has no blocks
pub link_bare : (drawn reference : ℕ) (value : CatRecord) → IsLinkValue drawn reference value → (owned : Owned) → Contains (forks_in value) owned → owned.fork.total_blocks ≡ 0
link_bare drawn reference (Folder f) never owned stands = absurd never
link_bare drawn reference (Thread t) never owned stands = absurd never
link_bare drawn reference (File f) is owned stands =
    let one : Owned = record { id = f.fields.id; kind = data_kind; fork = f.data_fork } in
    let two : Owned = record { id = f.fields.id; kind = resource_kind; fork = f.resource_fork } in
    elim (first_or_later one owned (two ∷ []) stands) [
      | inl same ↦ ap (λ (o : Owned). o.fork.total_blocks) same ∙ is.3.blocks
      | inr later ↦ ap (λ (o : Owned). o.fork.total_blocks) (in_one two owned later) ∙ is.4.blocks
    ]

module _ (at : PlainEntry) (to : Place) (old new : VolumeState) (sound : IsSoundVolume old) (after : IsSoundVolume new) (named : is_empty to.name ≡ false) (does : LinksMore at to old new) where
  abbrev begun : VolumeState
  begun = record old { head = with_counts (old.head.next_catalog_id + 1) (old.head.file_count + 1) old.head.folder_count old.head }

  abbrev entry : Placed
  entry = record { parent = to.folder; name = to.name; value = does.new_link }

  number : id_of entry ≡ old.head.next_catalog_id
  number = link_number old.head.next_catalog_id (special_of does.entry) does.new_link does.is_new_link

  side : OneMore entry (records_of old) (records_of does.linked)
  side = one_more does.links.changes named

  fresh : (p : Placed) → Contains (entries_of (records_of old)) p → (id_of p == id_of entry) ≡ false
  fresh p stands = differs (id_of p) (id_of entry) (λ same. elim (each_of (λ (q : Placed). IsUserId old.head.next_catalog_id (id_of q)) (entries_of (records_of old)) sound.entries.ids.each p stands) [
    | inl two ↦ omega (arith, two, same, number, sound.blocks.header.next_id)
    | inr user ↦ omega (arith, user.1, same, number)
  ])

  overflow_same : overflow_in_volume new ≡ overflow_in_volume old
  overflow_same =
      ap (λ (v : VolumeState). overflow_in_volume v) does.gains.changes.rest ∙ ap (λ (v : VolumeState). overflow_in_volume v) does.marks.changes.rest ∙ ap (λ (v : VolumeState). overflow_in_volume v) does.links.rest

  -- the link's forks are forks of the volume
  new_there : (owned : Owned) → Contains (file_forks (records_of does.linked)) owned → Contains (forks_of new) owned
  unfolding all_forks
  new_there owned stands =
      Contains-append_right (special_forks new.head) (file_forks (records_of new)) owned
      (subst (λ l. Contains l owned)
      (sym (fields_forks to.folder (IsTouched old.head.modify_date 1 0) does.marked new does.gains ∙ fields_forks at.id (IsMarkedLinked old.head.modify_date does.count) does.linked does.marked does.marks)) stands)

  pieces : Pieces (λ (p : Placed). forks_in p.value) entry (entries_of (records_of old)) (entries_of (records_of does.linked))
  pieces = flat_pieces (λ (p : Placed). forks_in p.value) entry (entries_of (records_of old)) (entries_of (records_of does.linked)) (entries_more side)

  among : (owned : Owned) → Contains (forks_in does.new_link) owned → Contains (file_forks (records_of does.linked)) owned
  among owned stands = subst (λ l. Contains l owned) (sym pieces.is) (Contains-append_right pieces.front (forks_in does.new_link ++ pieces.back) owned (Contains-append_left (forks_in does.new_link) pieces.back owned stands))

  no_blocks : (owned : Owned) → Contains (forks_in does.new_link) owned → blocks_owned (overflow_in_volume old) owned ≡ []
  no_blocks owned stands =
      let sizes = each_of (HasSizes new.head (overflow_in_volume new)) (forks_of new) after.blocks.forks.sizes owned (new_there owned (among owned stands)) in
      no_items (blocks_owned (overflow_in_volume old) owned)
      (ap (λ (l : List Overflow). length (blocks_owned l owned)) (sym overflow_same) ∙ sizes.blocks ∙ link_bare old.head.next_catalog_id (special_of does.entry) does.new_link does.is_new_link owned stands)

  linked_blocks : (id kind : ℕ) → blocks_at does.linked id kind ≡ blocks_at begun id kind
  linked_blocks id kind =
      ap (λ (v : VolumeState). blocks_at v id kind) does.links.rest
      ∙ found_more side (omega (arith, number, sound.blocks.header.next_id)) fresh begun.head (overflow_in_volume old) no_blocks id kind

  pub more_keeps : Keeps old new
  more_keeps =
      keeps_both old begun new (counted_head (old.head.next_catalog_id + 1) (old.head.file_count + 1) old.head.folder_count old)
      (keeps_both begun does.linked new (catalog_keeps begun does.linked does.links.rest does.links.nodes linked_blocks)
      (keeps_both does.linked does.marked new (fields_keep at.id (IsMarkedLinked old.head.modify_date does.count) does.linked does.marked does.marks)
      (fields_keep to.folder (IsTouched old.head.modify_date 1 0) does.marked new does.gains)))
