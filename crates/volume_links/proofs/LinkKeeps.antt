-- What a link without a block leaves of a volume: every fork has the blocks that it had, and the trees have their nodes.
use Rattle.std.proofs.Common.{◌≡◌, ℕ, ◌++◌, false, List, [], ◌∷◌, length, inl, inr, refl, sym, ◌∙◌, ap, subst, arith}
use Rattle.std.specs.Prelude.{Contains, ◌==◌}
use Rattle.std.proofs.lemmas.List.Elements.{Contains-append_left, Contains-append_right}
use Rattle.cat_records.specs.declared.record.CatRecord.{CatRecord}
use Rattle.cat_records.specs.declared.record.CatRecord.TheVariants.{Folder, File, Thread}
use Rattle.hfs_model.specs.Step.{Place}
use Rattle.hfs_volume.specs.Blocks.{HasSizes, forks_of}
use Rattle.hfs_volume.specs.Commands.{IsTouched, entry_in, with_made}
use Rattle.hfs_volume.specs.Content.{VolumeState, overflow_in_volume, records_of}
use Rattle.hfs_volume.specs.Entries.{IsUserId}
use Rattle.hfs_volume.specs.Forks.{Owned, all_forks, blocks_owned, data_kind, file_forks, forks_in, resource_kind, special_forks}
use Rattle.hfs_volume.specs.Kinds.{IsNewLink}
use Rattle.hfs_volume.specs.Reclaim.{blocks_at}
use Rattle.hfs_volume.specs.Records.{Overflow, Placed, entries_of, id_in, id_of, is_empty}
use Rattle.hfs_volume.specs.Sound.{IsSoundVolume}
use Rattle.hfs_volume.proofs.Fitting.{differs}
use Rattle.hfs_volume.proofs.Flat.{Pieces, flat_pieces}
use Rattle.hfs_volume.proofs.Making.{Enters}
use Rattle.hfs_volume.proofs.Members.{each_of, first_or_later, in_one}
use Rattle.hfs_volume.proofs.Sides.{OneMore, entries_more, one_more}
use Rattle.volume_step.proofs.Forks.{found_more}
use Rattle.volume_step.proofs.Kept.{Keeps, catalog_keeps, fields_keep, keeps_both}
use Rattle.volume_step.proofs.KeptEntries.{fields_forks, no_items}

head_keeps : (old : VolumeState) → Keeps old (record old { head = with_made false old.head })
unfolding all_forks
head_keeps old = record {
  forks = record {
    blocks = λ id kind. refl;
    extents = refl;
    catalog = refl;
    attributes = refl;
    journal = refl;
    flags = refl;
    same = record { signature = refl; version = refl; last_mounted = refl; info_block = refl; block_size = refl; total_blocks = refl; bit_12 = refl; bit_13 = refl; bit_15 = refl };
  };
  pairs = refl;
}

link_number : (drawn moment : ℕ) (value : CatRecord) → IsNewLink drawn moment value → id_in value ≡ drawn
link_number drawn moment (Folder f) never = absurd never
link_number drawn moment (File f) is = is.0.id
link_number drawn moment (Thread t) never = absurd never

link_empty : (drawn moment : ℕ) (value : CatRecord) → IsNewLink drawn moment value → (owned : Owned) → Contains (forks_in value) owned → owned.fork.total_blocks ≡ 0
link_empty drawn moment (Folder f) never owned stands = absurd never
link_empty drawn moment (File f) is owned stands =
    let one : Owned = record { id = f.fields.id; kind = data_kind; fork = f.data_fork } in
    let two : Owned = record { id = f.fields.id; kind = resource_kind; fork = f.resource_fork } in
    elim (first_or_later one owned (two ∷ []) stands) [
      | inl same ↦ ap (λ (o : Owned). o.fork.total_blocks) same ∙ is.3.blocks
      | inr later ↦ ap (λ (o : Owned). o.fork.total_blocks) (in_one two owned later) ∙ is.4.blocks
    ]
link_empty drawn moment (Thread t) never owned stands = absurd never

module _ (at : Place) (old new : VolumeState) (sound : IsSoundVolume old) (after : IsSoundVolume new) (named : is_empty at.name ≡ false) (does : Enters false at old new) (is_new : IsNewLink old.head.next_catalog_id old.head.modify_date does.value) where
  abbrev begun : VolumeState
  begun = record old { head = with_made false old.head }

  abbrev entry : Placed
  entry = entry_in at does.value

  number : id_of entry ≡ old.head.next_catalog_id
  number = link_number old.head.next_catalog_id old.head.modify_date does.value is_new

  side : OneMore entry (records_of old) (records_of does.added)
  side = one_more does.adds.changes named

  fresh : (p : Placed) → Contains (entries_of (records_of old)) p → (id_of p == id_of entry) ≡ false
  fresh p stands = differs (id_of p) (id_of entry) (λ same. elim (each_of (λ (q : Placed). IsUserId old.head.next_catalog_id (id_of q)) (entries_of (records_of old)) sound.entries.ids.each p stands) [
    | inl two ↦ omega (arith, two, same, number, sound.blocks.header.next_id)
    | inr user ↦ omega (arith, user.1, same, number)
  ])

  overflow_same : overflow_in_volume new ≡ overflow_in_volume old
  overflow_same = ap (λ (v : VolumeState). overflow_in_volume v) does.counts.changes.rest ∙ ap (λ (v : VolumeState). overflow_in_volume v) does.adds.rest

  -- the link's forks are forks of the volume
  new_there : (owned : Owned) → Contains (file_forks (records_of does.added)) owned → Contains (forks_of new) owned
  unfolding all_forks
  new_there owned stands = Contains-append_right (special_forks new.head) (file_forks (records_of new)) owned (subst (λ l. Contains l owned) (sym (fields_forks at.folder (IsTouched old.head.modify_date 1 0) does.added new does.counts)) stands)

  pieces : Pieces (λ (p : Placed). forks_in p.value) (entry_in at does.value) (entries_of (records_of old)) (entries_of (records_of does.added))
  pieces = flat_pieces (λ (p : Placed). forks_in p.value) (entry_in at does.value) (entries_of (records_of old)) (entries_of (records_of does.added)) (entries_more side)

  among : (owned : Owned) → Contains (forks_in does.value) owned → Contains (file_forks (records_of does.added)) owned
  among owned stands = subst (λ l. Contains l owned) (sym pieces.is) (Contains-append_right pieces.front (forks_in does.value ++ pieces.back) owned (Contains-append_left (forks_in does.value) pieces.back owned stands))

  no_blocks : (owned : Owned) → Contains (forks_in does.value) owned → blocks_owned (overflow_in_volume old) owned ≡ []
  no_blocks owned stands =
      let sizes = each_of (HasSizes new.head (overflow_in_volume new)) (forks_of new) after.blocks.forks.sizes owned (new_there owned (among owned stands)) in
      no_items (blocks_owned (overflow_in_volume old) owned)
      (ap (λ (l : List Overflow). length (blocks_owned l owned)) (sym overflow_same) ∙ sizes.blocks ∙ link_empty old.head.next_catalog_id old.head.modify_date does.value is_new owned stands)

  added_blocks : (id kind : ℕ) → blocks_at does.added id kind ≡ blocks_at begun id kind
  added_blocks id kind =
      ap (λ (v : VolumeState). blocks_at v id kind) does.adds.rest
      ∙ found_more side (omega (arith, number, sound.blocks.header.next_id)) fresh (with_made false old.head) (overflow_in_volume old) no_blocks id kind

  pub link_keeps : Keeps old new
  link_keeps =
      keeps_both old begun new (head_keeps old)
      (keeps_both begun does.added new (catalog_keeps begun does.added does.adds.rest does.adds.nodes added_blocks) (fields_keep at.folder (IsTouched old.head.modify_date 1 0) does.added new does.counts))
