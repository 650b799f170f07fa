-- The two files of the journal of a volume that was just made, in its content.
use Rattle.hfs_volume.specs.Values.{IsValue}
use Rattle.std.proofs.Common.{◌≡◌, ℕ, ◌+◌, ◌-◌, ◌*◌, ◌/◌, ◌^◌, ◌<◌, ◌==◌, Bool, true, false, List, [], ◌∷◌, length, if◌then◌else◌, IsTrue, refl, sym, ◌∙◌, ap, subst, arith}
use Rattle.std.specs.List.{All, AllByRecursion}
use Rattle.std.proofs.lemmas.List.Elements.{All-nil}
use Rattle.hx_bytes.specs.declared.extents.Extent.{Extent}
use Rattle.volume_header.specs.declared.header.VolumeHeader.{VolumeHeader}
use Rattle.btree_node.specs.Levels.{Pair}
use Rattle.jnl_format.specs.Info.{info_of}
use Rattle.jnl_format.specs.Recovery.{Content, sector, info_sector_of, header_of_volume}
use Rattle.jnl_format.specs.declared.structures.Info.{Info}
use Rattle.hfs_model.specs.Step.{journal_name, journal_info_name}
use Rattle.hfs_model.specs.Fresh.{new_entry, no_fork}
use Rattle.hfs_volume.specs.Records.{Placed, Overflow, Attribute}
use Rattle.hfs_volume.specs.Forks.{extents_of, data_kind, parts_for}
use Rattle.hfs_volume.specs.Content.{JournalPlace, volume_of, records_of, overflow_in_volume, has_attributes}
use Rattle.hfs_volume.specs.Attributes.{IsAttribute, IsOneExtent, journal_extent, info_extent}
use Rattle.volume_make.specs.declared.layout.Layout.{Layout}
use Rattle.volume_make.specs.Layout.{CanBe, IsFitting, layout_of, count_of}
use Rattle.volume_make.specs.Refusal.{is_name}
use Rattle.volume_make.specs.Laws.{fresh_info}
use Rattle.volume_make.specs.Texts.{file_fork, fresh_header, new_file}
use Rattle.volume_make.specs.Written.{IsFormatted}
use Rattle.volume_make.proofs.Sizes.{each_size, fitting}
use Rattle.fresh_volume.specs.Fresh.{HasFreshRecords, HasFreshPairs, HasSoundAttributes, fresh_records}
use Rattle.fresh_volume.proofs.Trees.{head_is, run_extents, has_blocks}
use Rattle.fresh_volume.proofs.Pairs.{has_fresh_pairs}
use Rattle.fresh_volume.proofs.EmptyJournal.{info_sector, found}
use Rattle.fresh_volume.proofs.SixRecords.{has_fresh_records, info_one}

-- the data fork of a file of the journal is one run
file_extents : (id block : ℕ) (part : Extent) → (part.count == 0) ≡ false → extents_of [] id data_kind (file_fork block part) ≡ record { start = part.start; count = part.count } ∷ []
unfolding extents_of
file_extents id block part some = run_extents [] id block part refl some

none_left : (P : Pair → Type 0) (b : Bool) (pairs : List Pair) → pairs ≡ [] → All P (if b then pairs else [])
none_left P true pairs none = subst (λ (l : List Pair). All P l) (sym none) (All-nil P)
none_left P false pairs none = All-nil P

module _ (sectors block journal : ℕ) (name : List ℕ) (old new : Content) (size : length old ≡ sectors) (can : CanBe sectors block journal) (named : IsTrue (is_name name)) (units : AllByRecursion (λ unit. unit < 2 ^ 16) name) (made : IsFormatted (layout_of sectors block journal) name old new) where
  abbrev layout : Layout
  layout = layout_of sectors block journal

  fit : IsFitting layout
  fit = fitting sectors block journal can

  start_is : layout.journal.start * layout.block / layout.block ≡ layout.journal.start
  start_is =
      let s : ℕ = layout.journal.start in
      each_size (λ n. s * n / n ≡ s) (omega arith) (omega arith) (omega arith) (omega arith) (omega arith) (omega arith) (omega arith) (omega arith) layout.block fit.block_size

  count_is : parts_for (layout.journal.start * layout.block + layout.journal.count * layout.block) layout.block - layout.journal.start * layout.block / layout.block ≡ layout.journal.count
  count_is =
      let s : ℕ = layout.journal.start in
      let c : ℕ = layout.journal.count in
      each_size (λ n. parts_for (s * n + c * n) n - s * n / n ≡ c) (omega arith) (omega arith) (omega arith) (omega arith) (omega arith) (omega arith) (omega arith) (omega arith) layout.block fit.block_size

  abbrev place : JournalPlace
  place = record { offset = layout.journal.start * layout.block; size = layout.journal.count * layout.block }

  journal_run : record { start = layout.journal.start; count = layout.journal.count } ≡ journal_extent (fresh_header layout) place
  journal_run = λ i. record { start = sym start_is i; count = sym count_is i }

  info_run : record { start = layout.info.start; count = layout.info.count } ≡ info_extent (fresh_header layout)
  info_run = λ i. record { start = layout.info.start; count = info_one sectors block journal i }

  journal_stands : IsOneExtent (fresh_records layout name) [] journal_name (journal_extent (fresh_header layout) place)
  journal_stands = (
    record { parent = 2; name = journal_name; value = new_file layout.block 17 layout.journal },
    record { fields = new_entry 2 0 17 0x81A4; data_fork = file_fork layout.block layout.journal; resource_fork = no_fork },
    refl,
    refl,
    file_extents 17 layout.block layout.journal (has_blocks layout layout.journal (count_of layout layout.journal) refl (omega (arith, fit.journal_room))) ∙ ap (λ (e : Extent). e ∷ []) journal_run,
  )

  info_stands : IsOneExtent (fresh_records layout name) [] journal_info_name (info_extent (fresh_header layout))
  info_stands = (
    record { parent = 2; name = journal_info_name; value = new_file layout.block 16 layout.info },
    record { fields = new_entry 2 0 16 0x81A4; data_fork = file_fork layout.block layout.info; resource_fork = no_fork },
    refl,
    refl,
    file_extents 16 layout.block layout.info (has_blocks layout layout.info (count_of layout layout.info) refl (omega (arith, fit.info_room))) ∙ ap (λ (e : Extent). e ∷ []) info_run,
  )

  place_is : (volume_of new).journal ≡ place
  unfolding volume_of
  place_is =
      let read : info_of (sector new (info_sector_of (header_of_volume new))) ≡ fresh_info layout = ap info_of (info_sector sectors block journal name old new size can made) ∙ (found sectors block journal name old new size can made).info in
      ap (λ (info : Info). record { offset = info.offset; size = info.size }) read

  moved : (file : List ℕ) (known extent : Extent) → extent ≡ known → HasFreshRecords layout name new → IsOneExtent (fresh_records layout name) [] file known → IsOneExtent (records_of (volume_of new)) (overflow_in_volume (volume_of new)) file extent
  moved file known extent same records stands =
      subst (λ (r : List Placed). IsOneExtent r (overflow_in_volume (volume_of new)) file extent) (sym records.records)
      (subst (λ (o : List Overflow). IsOneExtent (fresh_records layout name) o file extent) (sym records.overflow) (subst (λ (e : Extent). IsOneExtent (fresh_records layout name) [] file e) (sym same) stands))

  head_of_state : (volume_of new).head ≡ fresh_header layout
  unfolding volume_of
  head_of_state = head_is sectors block journal name old new can named made

  no_pairs_left : HasFreshPairs layout name new → All (IsAttribute (records_of (volume_of new))) (volume_of new).attribute_pairs
  unfolding volume_of
  no_pairs_left pairs = none_left (IsAttribute (records_of (volume_of new))) (has_attributes (header_of_volume new)) _ pairs.attributes

  pub has_sound_attributes : HasSoundAttributes new
  has_sound_attributes =
      let records : HasFreshRecords layout name new = has_fresh_records sectors block journal name old new can named units made in
      let pairs : HasFreshPairs layout name new = has_fresh_pairs sectors block journal name old new can named made in
      let head = head_of_state in
      record {
        each = no_pairs_left pairs;
        values = subst (λ (l : List Attribute). All (IsValue l) l) (sym records.attributes) (All-nil (IsValue []));
        journal = moved journal_name (journal_extent (fresh_header layout) place) (journal_extent (volume_of new).head (volume_of new).journal)
            (ap (λ (h : VolumeHeader). journal_extent h (volume_of new).journal) head ∙ ap (journal_extent (fresh_header layout)) place_is) records journal_stands;
        info_block = moved journal_info_name (info_extent (fresh_header layout)) (info_extent (volume_of new).head) (ap info_extent head) records info_stands;
      }
