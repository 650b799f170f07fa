-- The file of a node that isn't a folder, as data is put into it: its record, by its CNID, and its size.
use Rattle.std.proofs.Common.{◌≡◌, ◌⊎◌, ◌<◌, ℕ, ◌+◌, true, false, List, length, refl, sym, ◌∙◌, ap, subst, arith, ⊎_elim}
use Rattle.std.specs.Prelude.{Contains, IsTrue, Some}
use Rattle.sector_disk.specs.Space.{Space}
use Rattle.catalog.specs.Pairs.{value_at}
use Rattle.cat_records.specs.declared.record.CatRecord.{CatRecord}
use Rattle.cat_records.specs.declared.record.CatRecord.TheVariants.{Folder, File, Thread}
use Rattle.cat_records.specs.declared.record.FileRecord.{FileRecord}
use Rattle.cat_records.specs.declared.record.FolderRecord.{FolderRecord}
use Rattle.cat_records.specs.declared.record.ThreadRecord.{ThreadRecord}
use Rattle.hfs_model.specs.declared.plain.PlainNode.{PlainNode}
use Rattle.hfs_volume.specs.Content.{VolumeState, records_of, volume_of}
use Rattle.hfs_volume.specs.Records.{Placed, entries_of, id_in}
use Rattle.hfs_volume.specs.TreeOf.{bytes_in, bytes_in_fork, tree_of}
use Rattle.alloc_bitmap.specs.Map.{free_of}
use Rattle.file_io.specs.Places.{blocks_for}
use Rattle.flag_rows.specs.Runs.{fewest_of}
use Rattle.hfs_volume.specs.Cost.{overflow_records}
use Rattle.hfs_volume.specs.Forks.{data_kind, resource_kind}
use Rattle.hfs_volume.specs.Weight.{Data, file_extents, free_runs, needs_cut_in}
use Rattle.hfs_volume.proofs.Hiding.{same_entry}
use Rattle.volume_base.specs.Cutting.{fork_at}
use Rattle.volume_base.specs.Lists.{lists_of}
use Rattle.volume_base.specs.Reading.{HasFile}
use Rattle.volume_base.specs.Standing.{IsSettled, StandsOver}
use Rattle.volume_space.specs.Recording.{records_in}
use Rattle.volume_space.specs.Spreading.{edits_load}
use Rattle.volume_space.specs.Writing.{IsAt, IsToldFile, bytes_at, can_put, data_load, extents_in, has_more, is_data_met_in, is_put_met, is_put_now_in, put_load, records_load_in, spread_put_load}
use Rattle.volume_base.specs.declared.entries.Entry.{Entry}
use Rattle.volume_base.specs.declared.volume.Volume.{Volume}
use Rattle.volume_base.proofs.FileBytes.{bytes_long}
use Rattle.volume_base.proofs.FoundEntry.{IsThere}
use Rattle.volume_space.proofs.NextCut.{stands_there}
use Rattle.volume_base.proofs.PlainFiles.{IsFileOf, file_of_node}
use Rattle.volume_space.proofs.HeldRecords.{held_is}
use Rattle.volume_space.proofs.PutAllowed.{load_is}
use Rattle.volume_space.proofs.PutMet.{data_is_met}
use Rattle.volume_space.proofs.PutNumbers.{fresh_is}
use Rattle.volume_space.proofs.PutWhere.{many, put_now, surplus}
use Rattle.volume_base.proofs.Rising.{settled_sorted}

abbrev file_or : FileRecord → CatRecord → FileRecord
file_or other (Folder folder) = other
file_or other (File file) = file
file_or other (Thread thread) = other

pub same_file : (one other : FileRecord) → File one ≡ File other → one ≡ other
same_file one other is = ap (file_or one) is

pub not_folder : (folder : FolderRecord) (file : FileRecord) → Folder folder ≡ File file → ⊥
not_folder folder file same = cc same

pub not_thread : (thread : ThreadRecord) (file : FileRecord) → Thread thread ≡ File file → ⊥
not_thread thread file same = cc same

module _ (k : ℕ) (is_kind : (k ≡ data_kind) ⊎ (k ≡ resource_kind)) (v : Volume) (a : Space) (holds : StandsOver v a) (tells : IsTrue a.tells) (settled : IsSettled v a.content) (node : PlainNode) (stands : Contains (tree_of a.content).nodes node) (kind : node.folder ≡ false) where
  pub its : IsFileOf (volume_of a.content) (bytes_in a.content) node
  unfolding tree_of
  its = file_of_node (volume_of a.content) settled.sound (settled_sorted v a.content (holds.stands tells).trees settled) (bytes_in a.content) node stands kind

  -- its bytes in the fork of this kind
  pub bytes_are : bytes_at k node ≡ bytes_in_fork a.content its.file.fields.id k (fork_at k its.file)
  bytes_are = ⊎_elim (λ (same : k ≡ data_kind). subst (λ j. bytes_at j node ≡ bytes_in_fork a.content its.file.fields.id j (fork_at j its.file)) (sym same) its.bytes)
      (λ (same : k ≡ resource_kind). subst (λ j. bytes_at j node ≡ bytes_in_fork a.content its.file.fields.id j (fork_at j its.file)) (sym same) its.resource) is_kind

  -- a file with its CNID is this
  pub only : (file : FileRecord) → HasFile (records_of (volume_of a.content)) file → file.fields.id ≡ node.id → its.file ≡ file
  only file has number =
      let one : has.entry ≡ its.entry = same_entry (volume_of a.content).head.next_catalog_id (entries_of (records_of (volume_of a.content))) settled.sound.entries.ids has.entry its.entry has.stands its.stands
      (ap id_in has.value ∙ number ∙ its.id ∙ sym (ap id_in its.value)) in
      sym (same_file file its.file (sym has.value ∙ ap (λ (p : Placed). p.value) one ∙ its.value))

  -- and so is the entry that is found by it
  pub entry_is : (id : ℕ) (entry : Entry) → node.id ≡ id → IsThere (lists_of v a.content).catalog_pairs id entry → entry.rec ≡ File its.file
  entry_is id entry number there =
      let e = stands_there (volume_of a.content) settled.sound entry.parent entry.name entry.rec there.kind (ap (λ (l : VolumeState). value_at l.catalog_pairs entry.parent entry.name) settled.lists ∙ there.value) in
      let one : e.0 ≡ its.entry = same_entry (volume_of a.content).head.next_catalog_id (entries_of (records_of (volume_of a.content))) settled.sound.entries.ids e.0 its.entry e.1 its.stands
      (ap id_in e.2 ∙ there.number ∙ sym number ∙ its.id ∙ sym (ap id_in its.value)) in
      sym e.2 ∙ ap (λ (p : Placed). p.value) one ∙ its.value

  module _ (file : FileRecord) (same : its.file ≡ file) where
    pub told_is : IsToldFile k file (extents_in k a.content file) a.content
    told_is = subst (λ (f : FileRecord). IsToldFile k f (extents_in k a.content f) a.content) same (record { entry = its.entry; stands = its.stands; value = its.value; extents_are = refl; no_link = its.no_link })

    pub has_it : HasFile (records_of (volume_of a.content)) file
    has_it = subst (λ (f : FileRecord). HasFile (records_of (volume_of a.content)) f) same (record { entry = its.entry; stands = its.stands; value = its.value })

    pub number_is : file.fields.id ≡ node.id
    number_is = sym (its.id ∙ ap (λ (f : FileRecord). f.fields.id) same)

    pub long_is : length (bytes_at k node) ≡ (fork_at k file).logical_size
    long_is = ap (λ (l : List ℕ). length l) bytes_are ∙ bytes_long a.content settled.sound k is_kind its.file its.entry its.stands its.value ∙ ap (λ (f : FileRecord). (fork_at k f).logical_size) same

    -- whether data can be put into it now
    pub now_is : (put : Data) (from long spare : ℕ) → put.id ≡ node.id → IsAt put (length (bytes_at k node)) from (from + long)
        → can_put v spare (length (extents_in k a.content file)) (fork_at k file).total_blocks (fork_at k file).logical_size from long ≡ is_put_now_in k v spare (volume_of a.content) (Some put)
    now_is put from long spare number at =
        put_now k is_kind v a.content settled file has_it put from long (number ∙ sym number_is) (subst (λ n. IsAt put n from (from + long)) long_is at) (omega (arith, holds.service.least)) spare

    -- whether blocks of it go first
    pub cut_is : (put : Data) (from long : ℕ) → put.id ≡ node.id → IsAt put (length (bytes_at k node)) from (from + long)
        → has_more (fork_at k file).logical_size (from + long) (blocks_for v.header.block_size (fork_at k file).logical_size) (fork_at k file).total_blocks ≡ needs_cut_in k (volume_of a.content) (Some put)
    cut_is put from long number at =
        surplus k is_kind v a.content settled file has_it put from long (number ∙ sym number_is) (subst (λ n. IsAt put n from (from + long)) long_is at) (omega (arith, holds.service.least))

    -- where it is met by what it costs, the numbers of the put are
    pub data_met : (put : Data) (from long : ℕ) → put.id ≡ node.id → IsAt put (length (bytes_at k node)) from (from + long) → 0 < long → (spare : ℕ) → is_data_met_in k v spare (volume_of a.content) (Some put) ≡ true
        → is_put_met v (volume_of a.content) spare (records_in k (volume_of a.content) file.fields.id) (length (extents_in k a.content file)) (fork_at k file).total_blocks (fork_at k file).logical_size from long ≡ true
    data_met put from long number at longer spare ok =
        data_is_met k is_kind v a.content settled file has_it put from long (number ∙ sym number_is) (subst (λ n. IsAt put n from (from + long)) long_is at) (omega (arith, holds.service.least)) longer spare ok

    -- and what it loads
    pub load_now : (put : Data) (from long : ℕ) → IsAt put (length (bytes_at k node)) from (from + long) → put_load v (fork_at k file).logical_size from long ≡ data_load v put
    load_now put from long at = load_is v put (fork_at k file).logical_size from long (subst (λ n. IsAt put n from (from + long)) long_is at) (omega (arith, holds.service.least))

    -- and what it loads for the records of its fork
    pub records_now : (put : Data) (from long : ℕ) → put.id ≡ node.id → IsAt put (length (bytes_at k node)) from (from + long)
        → spread_put_load v (records_in k (volume_of a.content) file.fields.id) (length (extents_in k a.content file)) (fork_at k file).logical_size from long ≡ records_load_in k v (volume_of a.content) put
    records_now put from long number at =
        let here : IsAt put (fork_at k file).logical_size from (from + long) = subst (λ n. IsAt put n from (from + long)) long_is at in
        λ i. edits_load v.extents.file.shape (records_in k (volume_of a.content) (sym (number ∙ sym number_is) i)
        + overflow_records (many k is_kind v a.content settled file has_it put from long (number ∙ sym number_is) here (omega (arith, holds.service.least)) i
        + 1 + fewest_of (sym (fresh_is put (fork_at k file).logical_size from (from + long) v.header.block_size here (omega (arith, holds.service.least))) i) (free_runs (free_of v.map))))

  -- its fork has as many overflow records as its extents fill
  pub records_are : (put : Data) (from long : ℕ) → put.id ≡ node.id → IsAt put (length (bytes_at k node)) from (from + long) → records_in k (volume_of a.content) put.id ≡ overflow_records (length (file_extents (volume_of a.content) put.id k))
  records_are put from long number at =
      let is : put.id ≡ its.file.fields.id = number ∙ sym (number_is its.file refl) in
      ap (records_in k (volume_of a.content)) is
      ∙ held_is k is_kind v a.content settled its.file (has_it its.file refl)
      ∙ ap overflow_records (many k is_kind v a.content settled its.file (has_it its.file refl) put from long is (subst (λ n. IsAt put n from (from + long)) (long_is its.file refl) at) (omega (arith, holds.service.least)))

-- the file is the same one behind a keep, or a read
pub same_files : (kind_of_fork : ℕ) (is_kind : (kind_of_fork ≡ data_kind) ⊎ (kind_of_fork ≡ resource_kind)) (v k : Volume) (a : Space) (holds : StandsOver v a) (held : StandsOver k a) (tells : IsTrue a.tells) (settled : IsSettled v a.content) (kept : IsSettled k a.content) (node : PlainNode) (stands : Contains (tree_of a.content).nodes node) (kind : node.folder ≡ false)
    → (its kind_of_fork is_kind v a holds tells settled node stands kind).file ≡ (its kind_of_fork is_kind k a held tells kept node stands kind).file
same_files kind_of_fork is_kind v k a holds held tells settled kept node stands kind =
    only kind_of_fork is_kind v a holds tells settled node stands kind (its kind_of_fork is_kind k a held tells kept node stands kind).file (has_it kind_of_fork is_kind k a held tells kept node stands kind (its kind_of_fork is_kind k a held tells kept node stands kind).file refl)
    (number_is kind_of_fork is_kind k a held tells kept node stands kind (its kind_of_fork is_kind k a held tells kept node stands kind).file refl)
