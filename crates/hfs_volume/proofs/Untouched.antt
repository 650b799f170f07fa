-- What lies aside is free: a sound content with other bytes in free blocks and in the journal reads as the same volume.
use Rattle.hfs_volume.specs.Values.{blocks_of_values}
use Rattle.std.proofs.Common.{◌≡◌, ◌≢◌, ◌⊎◌, ◌<◌, ◌≤◌, ℕ, ◌+◌, ◌*◌, ◌/◌, ◌==◌, Bool, true, false, List, [], ◌∷◌, length, refl, sym, ◌∙◌, ap, subst, arith, inl, inr, ⊎_elim}
use Rattle.std.specs.Prelude.{Contains, Option, Some, None, ◌&&◌, not, nat_le, if◌then◌else◌}
use Rattle.std.specs.Int.{is_power_of_two}
use Rattle.std.specs.List.{flat_map, range_with_len}
use Rattle.std.specs.Str.{bytes_eq}
use Rattle.std.proofs.lemmas.Slice.Eq.{bytes_eq-Decides}
use Rattle.std.proofs.lemmas.Bool.{leb-true, eqb-true, and_parts, true≢false}
use Rattle.std.proofs.lemmas.List.Elements.{Contains-append_left, Contains-append_right, Contains-append_cases}
use Rattle.sector_disk.specs.Space.{AgreesOutside}
use Rattle.jnl_format.specs.Recovery.{Content, sector, header_of_volume}
use Rattle.hx_bytes.specs.declared.extents.Extent.{Extent}
use Rattle.fork_map.specs.Blocks.{blocks_of, sectors_of}
use Rattle.volume_header.specs.Refusal.{header_refusal, is_volume_size, is_hfsx, is_block_size}
use Rattle.volume_header.specs.declared.header.VolumeHeader.{VolumeHeader}
use Rattle.volume_header.specs.declared.refusal.HeaderRefusal.{HeaderRefusal}
use Rattle.volume_header.specs.declared.refusal.HeaderRefusal.TheVariants.{LimitSectors, NotHfsx, BadGeometry}
use Rattle.cat_records.specs.declared.record.FileRecord.{FileRecord}
use Rattle.cat_records.specs.declared.record.CatRecord.TheVariants.{File}
use Rattle.hfs_model.specs.Sorted.{kept}
use Rattle.hfs_model.specs.Step.{journal_name, journal_info_name}
use Rattle.hfs_volume.specs.Records.{Placed, Overflow, entries_of, is_empty, is_placed_at}
use Rattle.hfs_volume.specs.Forks.{Owned, per_block_of, data_kind, resource_kind, extents_id, extents_of, in_use, is_of, overflow_in, blocks_owned, forks_in, file_forks, all_forks, special_forks, reserved_blocks}
use Rattle.hfs_volume.specs.Content.{VolumeState, volume_of, records_of, overflow_in_volume, JournalPlace, attributes_of}
use Rattle.hfs_volume.specs.Attributes.{IsOneExtent, journal_extent, info_extent}
use Rattle.hfs_volume.specs.Blocks.{forks_of, used_in, is_among, HasForks, HasSizes, LieInside}
use Rattle.hfs_volume.specs.Sound.{IsSound}
use Rattle.hfs_volume.specs.Aside.{IsAside, IsFreeSector, IsJournalSector}
use Rattle.hfs_volume.proofs.Members.{each_of, at_front, behind, kept_stands, kept_cases}
use Rattle.hfs_volume.proofs.Flat.{found_some}
use Rattle.hfs_volume.proofs.Reaching.{flat_stands, flat_cases}
use Rattle.hfs_volume.proofs.BlockWants.{in_range}
use Rattle.hfs_volume.proofs.Sectors.{range_cases, whole_sectors, from_first, to_last, block_is, in_block}
use Rattle.hfs_volume.proofs.Apart.{fork_is_used, not_reserved, not_in_both, among, value_is_used, value_not_in_fork}

-- ---- block sizes

passed : (b : Bool) (why : HeaderRefusal) (rest : Option HeaderRefusal) → (if not b then Some why else rest) ≡ None → (b ≡ true) × (rest ≡ None)
passed true why rest is = (refl, is)
passed false why rest is = absurd (cc)

-- the blocks of an accepted header are whole sectors
pub record HasWholeBlocks (sectors : ℕ) (head : VolumeHeader) : Type 0 where
  pub whole : head.block_size ≡ 512 * per_block_of head
  pub some : 0 < per_block_of head

pub whole_blocks : (sectors : ℕ) (head : VolumeHeader) → header_refusal head sectors ≡ None → HasWholeBlocks sectors head
whole_blocks sectors head accepted =
    let p1 = passed (is_volume_size sectors) (LimitSectors sectors) _ accepted in
    let p2 = passed (is_hfsx head) (NotHfsx head.signature head.version) _ p1.1 in
    let p3 = passed (is_block_size head.block_size) (BadGeometry 40) _ p2.1 in
    let most = and_parts (is_power_of_two head.block_size && nat_le 512 head.block_size) (nat_le head.block_size 65536) p3.0 in
    let least = and_parts (is_power_of_two head.block_size) (nat_le 512 head.block_size) most.0 in
    let large : 512 ≤ head.block_size = leb-true 512 head.block_size least.1 in
    let whole = whole_sectors head.block_size least.0 large in
    record { whole = whole; some = omega (arith, whole, large) }

-- ---- the blocks of the journal's two files

-- the data fork of a file
abbrev pub data_fork_of : FileRecord → Owned
data_fork_of file = record { id = file.fields.id; kind = data_kind; fork = file.data_fork }

-- a block of one of the journal's two files
abbrev pub IsJournalBlock : VolumeState → JournalPlace → ℕ → Type 0
IsJournalBlock volume place block =
    Contains (blocks_of (journal_extent volume.head place ∷ [])) block ⊎ Contains (blocks_of (info_extent volume.head ∷ [])) block

pub file_fork_stands : (volume : VolumeState) (p : Placed) (file : FileRecord) → Contains (entries_of (records_of volume)) p → p.value ≡ File file → Contains (forks_of volume) (data_fork_of file)
unfolding all_forks
file_fork_stands volume p file stands is =
    Contains-append_right (special_forks volume.head) (file_forks (records_of volume)) (data_fork_of file)
    (flat_stands (λ (q : Placed). forks_in q.value) (entries_of (records_of volume)) p (data_fork_of file) stands (subst (λ v. Contains (forks_in v) (data_fork_of file)) (sym is) (at_front (data_fork_of file) (record { id = file.fields.id; kind = resource_kind; fork = file.resource_fork } ∷ []))))

abbrev pub resource_fork_of : FileRecord → Owned
resource_fork_of file = record { id = file.fields.id; kind = resource_kind; fork = file.resource_fork }

pub resource_fork_stands : (volume : VolumeState) (p : Placed) (file : FileRecord) → Contains (entries_of (records_of volume)) p → p.value ≡ File file → Contains (forks_of volume) (resource_fork_of file)
unfolding all_forks
resource_fork_stands volume p file stands is =
    Contains-append_right (special_forks volume.head) (file_forks (records_of volume)) (resource_fork_of file)
    (flat_stands (λ (q : Placed). forks_in q.value) (entries_of (records_of volume)) p (resource_fork_of file) stands (subst (λ v. Contains (forks_in v) (resource_fork_of file)) (sym is) (behind (data_fork_of file) (resource_fork_of file) (resource_fork_of file ∷ []) (at_front (resource_fork_of file) []))))

pub special_stands : (volume : VolumeState) (owned : Owned) → Contains (special_forks volume.head) owned → Contains (forks_of volume) owned
unfolding all_forks
special_stands volume owned stands = Contains-append_left (special_forks volume.head) (file_forks (records_of volume)) owned stands

overflow_there : (overflow : List Overflow) (id kind : ℕ) (more : Overflow) → Contains (overflow_in overflow id kind) more → Contains overflow more
overflow_there overflow id kind more stands = by (id == extents_id) stands
  where
    by : (b : Bool) → Contains (if b then [] else kept (is_of id kind) overflow) more → Contains overflow more
    by true none = absurd (omega (arith, none.1))
    by false some = (kept_cases (is_of id kind) overflow more some).0

-- the blocks of a fork lie in the volume
pub blocks_inside : (volume : VolumeState) (owned : Owned) (block : ℕ) → HasForks volume → Contains (forks_of volume) owned → Contains (blocks_owned (overflow_in_volume volume) owned) block → block < volume.head.total_blocks
unfolding extents_of
blocks_inside volume owned block forks stands has =
    let overflow = overflow_in_volume volume in
    let found = flat_cases (λ (extent : Extent). range_with_len extent.start extent.count) (extents_of overflow owned.id owned.kind owned.fork) block has in
    let range = range_cases found.0.start found.0.count block found.2 in
    elim (Contains-append_cases (in_use owned.fork.extents.extents) (flat_map (λ (more : Overflow). in_use more.extents) (overflow_in overflow owned.id owned.kind)) found.0 found.1) [
      | inl first ↦
          let inside : found.0.start + found.0.count ≤ volume.head.total_blocks =
          each_of (λ (e : Extent). e.start + e.count ≤ volume.head.total_blocks) (in_use owned.fork.extents.extents) (each_of (HasSizes volume.head overflow) (forks_of volume) forks.sizes owned stands).inside found.0 first in
          omega (arith, range, inside)
      | inr later ↦
          let more = flat_cases (λ (more : Overflow). in_use more.extents) (overflow_in overflow owned.id owned.kind) found.0 later in
          let inside : found.0.start + found.0.count ≤ volume.head.total_blocks =
          each_of (λ (e : Extent). e.start + e.count ≤ volume.head.total_blocks) (in_use more.0.extents)
          (each_of (λ (m : Overflow). LieInside volume.head.total_blocks m.extents) overflow forks.more_inside more.0 (overflow_there overflow owned.id owned.kind more.0 more.1)) found.0 more.2 in
          omega (arith, range, inside)
    ]

-- The data fork of one of the journal's files.
pub record IsOwnFile (volume : VolumeState) (name : List ℕ) (extent : Extent) : Type 0 where
  pub entry : Placed
  pub file : FileRecord
  pub stands : Contains (entries_of (records_of volume)) entry
  pub value : entry.value ≡ File file
  pub place : (entry.parent ≡ 2) × (entry.name ≡ name)
  pub blocks : blocks_owned (overflow_in_volume volume) (data_fork_of file) ≡ blocks_of (extent ∷ [])

own_file : (volume : VolumeState) (name : List ℕ) (extent : Extent) → is_empty name ≡ false → IsOneExtent (records_of volume) (overflow_in_volume volume) name extent → IsOwnFile volume name extent
own_file volume name extent named one =
    let found = found_some (is_placed_at 2 name) (records_of volume) one.0 one.2 in
    let parts = and_parts (one.0.parent == 2) (bytes_eq one.0.name name) found.1 in
    let same : one.0.name ≡ name = (bytes_eq-Decides one.0.name name).0 parts.1 in
    record {
      entry = one.0;
      file = one.1;
      stands = kept_stands (λ (p : Placed). not (is_empty p.name)) (records_of volume) one.0 found.0 (subst (λ n. not (is_empty n) ≡ true) (sym same) (ap not named));
      value = one.3;
      place = (eqb-true one.0.parent 2 parts.0, same);
      blocks = ap blocks_of one.4;
    }

-- ---- sectors that stay

module _ (content other : Content) (sound : IsSound content) (agrees : AgreesOutside (IsAside content) content other) where
  abbrev pub volume : VolumeState
  volume = volume_of content

  abbrev pub head : VolumeHeader
  head = header_of_volume content

  abbrev pub per : ℕ
  per = per_block_of head

  head_is : volume.head ≡ head
  unfolding volume_of
  head_is = refl

  pub blocks : HasWholeBlocks (length content) head
  unfolding volume_of
  blocks = whole_blocks (length content) head sound.volume.blocks.header.accepted

  forks : HasForks volume
  forks = sound.volume.blocks.forks

  pub journal_file : IsOwnFile volume journal_name (journal_extent volume.head volume.journal)
  journal_file = own_file volume journal_name (journal_extent volume.head volume.journal) refl sound.volume.attributes.journal

  pub info_file : IsOwnFile volume journal_info_name (info_extent volume.head)
  info_file = own_file volume journal_info_name (info_extent volume.head) refl sound.volume.attributes.info_block

  -- the fork isn't that of one of the journal's files
  abbrev pub IsForeign : Owned → Type 0
  IsForeign owned = (owned ≢ data_fork_of journal_file.file) × (owned ≢ data_fork_of info_file.file)

  journal_stands : Contains (forks_of volume) (data_fork_of journal_file.file)
  journal_stands = file_fork_stands volume journal_file.entry journal_file.file journal_file.stands journal_file.value

  info_stands : Contains (forks_of volume) (data_fork_of info_file.file)
  info_stands = file_fork_stands volume info_file.entry info_file.file info_file.stands info_file.value

  in_journal : (block : ℕ) → Contains (blocks_of (journal_extent volume.head volume.journal ∷ [])) block → Contains (blocks_owned (overflow_in_volume volume) (data_fork_of journal_file.file)) block
  in_journal block stands = subst (λ l. Contains l block) (sym journal_file.blocks) stands

  in_info : (block : ℕ) → Contains (blocks_of (info_extent volume.head ∷ [])) block → Contains (blocks_owned (overflow_in_volume volume) (data_fork_of info_file.file)) block
  in_info block stands = subst (λ l. Contains l block) (sym info_file.blocks) stands

  pub reserved_apart : (block : ℕ) → Contains (reserved_blocks volume.sectors volume.head) block → IsJournalBlock volume volume.journal block → ⊥
  reserved_apart block stands (inl journal) = not_reserved volume forks (data_fork_of journal_file.file) block stands journal_stands (in_journal block journal)
  reserved_apart block stands (inr info) = not_reserved volume forks (data_fork_of info_file.file) block stands info_stands (in_info block info)

  pub fork_apart : (owned : Owned) (block : ℕ) → Contains (forks_of volume) owned → IsForeign owned → Contains (blocks_owned (overflow_in_volume volume) owned) block → IsJournalBlock volume volume.journal block → ⊥
  fork_apart owned block stands foreign has (inl journal) = not_in_both volume forks owned (data_fork_of journal_file.file) block stands journal_stands foreign.0 has (in_journal block journal)
  fork_apart owned block stands foreign has (inr info) = not_in_both volume forks owned (data_fork_of info_file.file) block stands info_stands foreign.1 has (in_info block info)

  journal_inside : (block : ℕ) → IsJournalBlock volume volume.journal block → block < volume.head.total_blocks
  journal_inside block (inl journal) = blocks_inside volume (data_fork_of journal_file.file) block forks journal_stands (in_journal block journal)
  journal_inside block (inr info) = blocks_inside volume (data_fork_of info_file.file) block forks info_stands (in_info block info)

  journal_block : (at : ℕ) → IsJournalSector content at → IsJournalBlock volume volume.journal (at / per)
  unfolding volume_of
  journal_block at (inl range) =
      let first = from_first head.block_size per blocks.whole blocks.some volume.journal.offset at range.0 in
      let last = to_last head.block_size per blocks.whole blocks.some (volume.journal.offset + volume.journal.size) at range.1 in
      inl (Contains-append_left (range_with_len (journal_extent volume.head volume.journal).start (journal_extent volume.head volume.journal).count) [] (at / per)
      (in_range (journal_extent volume.head volume.journal).start (journal_extent volume.head volume.journal).count (at / per) first (omega (arith, first, last))))
  journal_block at (inr is) =
      let same : at / per ≡ head.journal_info_block = block_is per head.journal_info_block at blocks.some (omega (arith, is)) (omega (arith, is, blocks.some)) in
      inr (Contains-append_left (range_with_len head.journal_info_block 1) [] (at / per) (in_range head.journal_info_block 1 (at / per) (omega (arith, same)) (omega (arith, same))))

  -- a sector of a used block stays, unless it is the journal's; and so does one that is in no block
  pub sector_stays : (at : ℕ) → (at / per < head.total_blocks → Contains (used_in volume) (at / per) × (IsJournalBlock volume volume.journal (at / per) → ⊥)) → sector other at ≡ sector content at
  unfolding volume_of
  sector_stays at own = ⊎_elim (λ (same : sector other at ≡ sector content at). same) (λ (aside : IsAside content at). absurd (not_aside aside)) (agrees.each at)
    where
      not_aside : IsAside content at → ⊥
      not_aside (inl free) =
          let used : is_among (used_in volume) (at / per) ≡ true = among (used_in volume) (at / per) (own free.0).0 in
          let bit = sound.volume.blocks.bits.bits (at / per) free.0 in
          true≢false (sym used ∙ sym bit ∙ free.1)
      not_aside (inr journal) =
          let block = journal_block at journal in
          (own (journal_inside (at / per) block)).1 block

  -- a block of one of the journal's files is used
  journal_used : (block : ℕ) → IsJournalBlock volume volume.journal block → Contains (used_in volume) block
  journal_used block (inl journal) = fork_is_used volume (data_fork_of journal_file.file) block journal_stands (in_journal block journal)
  journal_used block (inr info) = fork_is_used volume (data_fork_of info_file.file) block info_stands (in_info block info)

  -- no sector of the journal is free
  pub journal_not_free : (at : ℕ) → IsJournalSector content at → IsFreeSector content at → ⊥
  unfolding volume_of
  journal_not_free at journal free =
      let used : is_among (used_in volume) (at / per) ≡ true = among (used_in volume) (at / per) (journal_used (at / per) (journal_block at journal)) in
      let bit = sound.volume.blocks.bits.bits (at / per) free.0 in
      true≢false (sym used ∙ sym bit ∙ free.1)

  pub fork_stays : (owned : Owned) → Contains (forks_of volume) owned → IsForeign owned → (at : ℕ) → Contains (sectors_of per (blocks_owned (overflow_in_volume volume) owned)) at → sector other at ≡ sector content at
  fork_stays owned stands foreign at has =
      let block = in_block per (blocks_owned (overflow_in_volume volume) owned) at blocks.some has in
      sector_stays at (λ inside. (fork_is_used volume owned (at / per) stands block, fork_apart owned (at / per) stands foreign block))

  -- and so does a sector of a value
  pub value_stays : (at : ℕ) → Contains (blocks_of_values (attributes_of volume)) (at / per) → sector other at ≡ sector content at
  value_stays at has = sector_stays at (λ inside. (value_is_used volume (at / per) has, of_journal))
    where
      of_journal : IsJournalBlock volume volume.journal (at / per) → ⊥
      of_journal (inl journal) = value_not_in_fork volume forks (data_fork_of journal_file.file) (at / per) has journal_stands (in_journal (at / per) journal)
      of_journal (inr info) = value_not_in_fork volume forks (data_fork_of info_file.file) (at / per) has info_stands (in_info (at / per) info)
