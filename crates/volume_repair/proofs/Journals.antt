-- Where a sound volume's journal lies: in no special file, and on neither of the headers. So a repair that is sound leaves it alone.
use Rattle.std.proofs.Common.{◌≡◌, ◌<◌, ◌≤◌, ℕ, ◌+◌, ◌-◌, ◌/◌, List, [], ◌∷◌, length, refl, sym, ◌∙◌, ap, subst, arith, inl, inr, ⊎_elim}
use Rattle.std.specs.Prelude.{Contains, None}
use Rattle.std.specs.List.{range_with_len}
use Rattle.std.proofs.lemmas.Bool.{cases_lt}
use Rattle.std.proofs.lemmas.List.{get_or_past}
use Rattle.std.proofs.lemmas.List.Elements.{Contains-append_left}
use Rattle.sector_disk.specs.Space.{AgreesOutside}
use Rattle.jnl_format.specs.Recovery.{Content, sector, header_of_volume, info_sector_of}
use Rattle.fork_map.specs.Blocks.{blocks_of, sectors_of}
use Rattle.hx_bytes.specs.declared.extents.Extent.{Extent}
use Rattle.volume_header.specs.Refusal.{header_refusal}
use Rattle.volume_header.specs.declared.header.VolumeHeader.{VolumeHeader}
use Rattle.hfs_model.specs.Step.{journal_name, journal_info_name}
use Rattle.hfs_volume.specs.Aside.{IsAside, IsJournalSector}
use Rattle.hfs_volume.specs.Attributes.{journal_extent, info_extent}
use Rattle.hfs_volume.specs.Entries.{IsUserId}
use Rattle.hfs_volume.specs.Records.{Placed, entries_of, id_of, id_in}
use Rattle.hfs_volume.specs.Forks.{Owned, per_block_of, data_kind, extents_of, blocks_owned, special_forks, reserved_blocks, extents_id, catalog_id, allocation_id, attributes_id}
use Rattle.hfs_volume.specs.Content.{VolumeState, JournalPlace, volume_of, records_of, overflow_in_volume, overflow_of_content, bitmap_sectors, journal_place}
use Rattle.hfs_volume.specs.Sound.{IsSound}
use Rattle.hfs_volume.proofs.Members.{each_of}
use Rattle.hfs_volume.proofs.BlockWants.{in_range}
use Rattle.hfs_volume.proofs.Sectors.{from_first, to_last, block_is, in_block}
use Rattle.hfs_volume.proofs.Untouched.{HasWholeBlocks, IsOwnFile, IsJournalBlock, IsForeign, whole_blocks, journal_file, info_file, reserved_apart, fork_apart, data_fork_of, file_fork_stands, blocks_inside, special_stands}
use Rattle.volume_repair.specs.Repair.{IsMendable, mended, catalog_sectors}
use Rattle.volume_repair.proofs.Alone.{header_kept, alternate_kept}
use Rattle.volume_repair.proofs.Rereads.{sectors_by, bitmap_sectors_stay, catalog_sectors_stay}
use Rattle.volume_repair.proofs.Mending.{size_mended, sector_of_mended, mended_else, head_mended, extents_mended}
use Rattle.volume_repair.proofs.Words.{low}

module _ (content : Content) (sound : IsSound content) where
  abbrev was : VolumeState
  was = volume_of content

  abbrev head : VolumeHeader
  head = header_of_volume content

  abbrev per : ℕ
  per = per_block_of head

  itself : AgreesOutside (IsAside content) content content
  itself = record { size = refl; each = λ at. inl refl }

  accepted : header_refusal head (length content) ≡ None
  unfolding volume_of
  accepted = sound.volume.blocks.header.accepted

  whole : HasWholeBlocks (length content) head
  whole = whole_blocks (length content) head accepted

  -- the block of a sector of the journal
  journal_block : (at : ℕ) → IsJournalSector content at → IsJournalBlock was was.journal (at / per)
  unfolding volume_of
  journal_block at (inl range) =
      let first = from_first head.block_size per whole.whole whole.some was.journal.offset at range.0 in
      let last = to_last head.block_size per whole.whole whole.some (was.journal.offset + was.journal.size) at range.1 in
      inl (Contains-append_left (range_with_len (journal_extent was.head was.journal).start (journal_extent was.head was.journal).count) [] (at / per)
      (in_range (journal_extent was.head was.journal).start (journal_extent was.head was.journal).count (at / per) first (omega (arith, first, last))))
  journal_block at (inr is) =
      let same : at / per ≡ head.journal_info_block = block_is per head.journal_info_block at whole.some (omega (arith, is)) (omega (arith, is, whole.some)) in
      inr (Contains-append_left (range_with_len head.journal_info_block 1) [] (at / per) (in_range head.journal_info_block 1 (at / per) (omega (arith, same)) (omega (arith, same))))

  own_id : (name : List ℕ) (extent : Extent) (own : IsOwnFile was name extent) → IsUserId was.head.next_catalog_id own.file.fields.id
  own_id name extent own =
      subst (λ id. IsUserId was.head.next_catalog_id id) (ap id_in own.value) (each_of (λ (p : Placed). IsUserId was.head.next_catalog_id (id_of p)) (entries_of (records_of was)) sound.volume.entries.ids.each own.entry own.stands)

  special_differs : (owned : Owned) (id : ℕ) → 2 < owned.id → owned.id < 16 → IsUserId was.head.next_catalog_id id → owned.id ≡ id → ⊥
  special_differs owned id low high (inl two) same = omega (arith, two, same, low)
  special_differs owned id low high (inr user) same = omega (arith, user, same, high)

  foreign : (owned : Owned) → 2 < owned.id → owned.id < 16 → IsForeign content content sound itself owned
  foreign owned low high = (
    λ same. special_differs owned (journal_file content content sound itself).file.fields.id low high (own_id _ _ (journal_file content content sound itself)) (ap (λ o. o.id) same),
    λ same. special_differs owned (info_file content content sound itself).file.fields.id low high (own_id _ _ (info_file content content sound itself)) (ap (λ o. o.id) same),
  )

  special_free : (owned : Owned) → Contains (special_forks was.head) owned → 2 < owned.id → owned.id < 16 → (at : ℕ) → Contains (sectors_of per (blocks_owned (overflow_in_volume was) owned)) at → IsJournalSector content at → ⊥
  special_free owned stands low high at has journal =
      fork_apart content content sound itself owned (at / per) (special_stands was owned stands) (foreign owned low high) (in_block per (blocks_owned (overflow_in_volume was) owned) at whole.some has) (journal_block at journal)

  overflow_is : overflow_in_volume was ≡ overflow_of_content content
  unfolding volume_of overflow_of_content
  overflow_is = refl

  pub map_free : (at : ℕ) → Contains (bitmap_sectors content) at → IsJournalSector content at → ⊥
  unfolding volume_of
  map_free at has = special_free (record { id = allocation_id; kind = data_kind; fork = head.allocation_fork }) (2, omega arith, refl) (omega arith) (omega arith) at
      (subst (λ o. Contains (sectors_by head o allocation_id head.allocation_fork) at) (sym overflow_is) has)

  pub catalog_free : (at : ℕ) → Contains (catalog_sectors content) at → IsJournalSector content at → ⊥
  unfolding volume_of
  catalog_free at has = special_free (record { id = catalog_id; kind = data_kind; fork = head.catalog_fork }) (1, omega arith, refl) (omega arith) (omega arith) at
      (subst (λ o. Contains (sectors_by head o catalog_id head.catalog_fork) at) (sym overflow_is) has)

  pub extents_free : (at : ℕ) → Contains (sectors_by head [] extents_id head.extents_fork) at → IsJournalSector content at → ⊥
  unfolding volume_of extents_of
  extents_free at has = special_free (record { id = extents_id; kind = data_kind; fork = head.extents_fork }) (0, omega arith, refl) (omega arith) (omega arith) at has

  pub attributes_free : (at : ℕ) → Contains (sectors_by head (overflow_of_content content) attributes_id head.attributes_fork) at → IsJournalSector content at → ⊥
  unfolding volume_of
  attributes_free at has = special_free (record { id = attributes_id; kind = data_kind; fork = head.attributes_fork }) (4, omega arith, refl) (omega arith) (omega arith) at
      (subst (λ o. Contains (sectors_by head o attributes_id head.attributes_fork) at) (sym overflow_is) has)

  kept_is : reserved_blocks was.sectors was.head ≡ reserved_blocks (length content) head
  unfolding volume_of
  kept_is = refl

  kept_free : (at : ℕ) → Contains (reserved_blocks (length content) head) (at / per) → IsJournalSector content at → ⊥
  kept_free at kept journal = reserved_apart content content sound itself (at / per) (subst (λ l. Contains l (at / per)) (sym kept_is) kept) (journal_block at journal)

  own_inside : (name : List ℕ) (extent : Extent) (own : IsOwnFile was name extent) (block : ℕ) → Contains (blocks_of (extent ∷ [])) block → block < was.head.total_blocks
  own_inside name extent own block stands =
      blocks_inside was (data_fork_of own.file) block sound.volume.blocks.forks (file_fork_stands was own.entry own.file own.stands own.value) (subst (λ l. Contains l block) (sym own.blocks) stands)

  journal_inside : (block : ℕ) → IsJournalBlock was was.journal block → block < was.head.total_blocks
  journal_inside block (inl journal) = own_inside journal_name (journal_extent was.head was.journal) (journal_file content content sound itself) block journal
  journal_inside block (inr info) = own_inside journal_info_name (info_extent was.head) (info_file content content sound itself) block info

  pub header_free : IsJournalSector content 2 → ⊥
  header_free journal = kept_free 2 (header_kept (length content) head accepted) journal

  pub alternate_free : IsJournalSector content (length content - 2) → ⊥
  unfolding volume_of
  alternate_free journal =
      let inside = journal_inside ((length content - 2) / per) (journal_block (length content - 2) journal) in
      kept_free (length content - 2) (alternate_kept (length content) head accepted inside) journal

-- ---- a content whose repair is sound

module _ (content : Content) (may : IsMendable content) (long : length (sector content 2) ≡ 512) (sound : IsSound (mended content)) where
  abbrev new : Content
  new = mended content

  info_same : info_sector_of (header_of_volume new) ≡ info_sector_of (header_of_volume content)
  info_same = ap info_sector_of (head_mended content may long)

  map_same : bitmap_sectors new ≡ bitmap_sectors content
  map_same = bitmap_sectors_stay content new _ _ _ _ (head_mended content may long) (extents_mended content may long)

  catalog_same : catalog_sectors new ≡ catalog_sectors content
  catalog_same = catalog_sectors_stay content new _ _ _ _ (head_mended content may long) (extents_mended content may long)

  -- a sector of the repair's journal is as it was
  pub journal_stays : (at : ℕ) → IsJournalSector new at → sector new at ≡ sector content at
  journal_stays at journal = ⊎_elim
      (λ (inside : at < length content). sector_of_mended content at inside ∙ mended_else content at
      (λ two. header_free new sound (subst (IsJournalSector new) two journal))
      (λ same. alternate_free new sound (subst (IsJournalSector new) (same ∙ ap (λ n. n - 2) (sym (size_mended content))) journal))
      (λ has. map_free new sound at (subst (λ l. Contains l at) (sym map_same) has) journal)
      (λ has. catalog_free new sound at (subst (λ l. Contains l at) (sym catalog_same) has) journal))
      (λ (past : length content ≤ at). get_or_past new at [] (omega (arith, size_mended content, past)) ∙ sym (get_or_past content at [] past))
      (cases_lt at (length content))

  pub journal_same : (volume_of new).journal ≡ (volume_of content).journal
  unfolding volume_of
  journal_same =
      ap journal_place (journal_stays (info_sector_of (header_of_volume new)) (inr refl))
      ∙ ap (λ n. journal_place (sector content n)) info_same

  -- the content's journal is that of its repair
  pub journal_there : (at : ℕ) → IsJournalSector content at → IsJournalSector new at
  journal_there at (inl range) = inl (subst (λ (j : JournalPlace). (j.offset / 512 ≤ at) × (at < (j.offset + j.size) / 512)) (sym journal_same) range)
  journal_there at (inr is) = inr (is ∙ sym info_same)
