-- The file that data is put into: what its record says of its extents and its blocks.
use Rattle.std.proofs.Common.{◌≡◌, ◌⊎◌, inl, inr, ◌<◌, ◌≤◌, ℕ, ◌+◌, ◌*◌, ◌^◌, false, true, List, [], ◌∷◌, length, refl, sym, ◌∙◌, ap, subst, arith}
use Rattle.std.specs.Prelude.{Contains, IfSome, Option, Some, None, is_some}
use Rattle.std.specs.Option.{option_map}
use Rattle.std.proofs.Math.Nat.{mul-le-mul_left, mul-le-mul_right}
use Rattle.hx_bytes.specs.declared.extents.Extent.{Extent}
use Rattle.hx_bytes.specs.declared.extents.ForkRecord.{ForkRecord}
use Rattle.sector_disk.specs.Lists.{Content}
use Rattle.fork_map.specs.Blocks.{blocks_of}
use Rattle.btree_node.specs.Levels.{Pair}
use Rattle.cat_records.specs.Fits.{FitsFile, FitsRecord}
use Rattle.cat_records.specs.declared.record.CatRecord.{CatRecord}
use Rattle.cat_records.specs.declared.record.CatRecord.TheVariants.{File}
use Rattle.cat_records.specs.declared.record.FileRecord.{FileRecord}
use Rattle.catalog.specs.Pairs.{value_at}
use Rattle.hfs_model.specs.declared.plain.PlainNode.{PlainNode}
use Rattle.hfs_volume.specs.Blocks.{HasSizes}
use Rattle.hfs_volume.specs.Content.{VolumeState, overflow_in_volume, records_of, volume_of}
use Rattle.hfs_volume.specs.Forks.{data_kind, extents_of, resource_kind}
use Rattle.hfs_volume.specs.Records.{Placed, entries_of, entry_of, id_in, id_of, is_empty, is_placed_at, is_thread, record_at}
use Rattle.hfs_volume.specs.TreeOf.{bytes_in, bytes_in_fork, tree_of}
use Rattle.hfs_volume.specs.Weight.{extents_found, file_blocks, file_extents, file_fork}
use Rattle.hfs_volume.proofs.Flat.{found_some, some_same}
use Rattle.hfs_volume.proofs.Hiding.{same_entry}
use Rattle.hfs_volume.proofs.Members.{each_of}
use Rattle.hfs_volume.proofs.NodesOf.{entry_of_is}
use Rattle.hfs_volume.proofs.Sides.{is_entry_of}
use Rattle.volume_weights.specs.DataWeighing.{IsFileOfPut, bytes_at, file_of_record}
use Rattle.volume_base.specs.Cutting.{fork_at}
use Rattle.volume_base.specs.Entering.{entry_by_id}
use Rattle.volume_base.specs.Lists.{lists_of}
use Rattle.volume_base.specs.Standing.{HoldsTrees, IsSettled}
use Rattle.volume_base.specs.declared.data_cost.Put.{Put}
use Rattle.volume_base.specs.declared.entries.Entry.{Entry}
use Rattle.volume_base.specs.declared.volume.Volume.{Volume}
use Rattle.volume_base.proofs.FileBytes.{bytes_long, geometry_is, sizes, size_is}
use Rattle.volume_base.proofs.FoundEntry.{IsThere, entry_there}
use Rattle.volume_base.proofs.PlainFiles.{IsFileOf, file_of_node}
use Rattle.volume_base.proofs.Rising.{settled_sorted}

abbrev file_or : FileRecord → CatRecord → FileRecord
file_or other (File file) = file
file_or other _ = other

-- the node of a file has the bytes of its fork
bytes_of_kind : (kind : ℕ) → (kind ≡ data_kind) ⊎ (kind ≡ resource_kind) → (volume : VolumeState) (content : Content) (node : PlainNode) (it : IsFileOf volume (bytes_in content) node) → bytes_at kind node ≡ bytes_in_fork content it.file.fields.id kind (fork_at kind it.file)
bytes_of_kind kind (inl data_one) volume content node it =
    subst (λ k. bytes_at k node ≡ bytes_in_fork content it.file.fields.id k (fork_at k it.file)) (sym data_one) it.bytes
bytes_of_kind kind (inr resource_one) volume content node it =
    subst (λ k. bytes_at k node ≡ bytes_in_fork content it.file.fields.id k (fork_at k it.file)) (sym resource_one) it.resource

-- the fork of a file's entry
fork_of_file : (kind : ℕ) → (kind ≡ data_kind) ⊎ (kind ≡ resource_kind) → (e : Placed) (file : FileRecord) → file_fork kind (Some (record e { value = File file })) ≡ Some (fork_at kind file)
fork_of_file kind (inl data_one) e file = subst (λ k. file_fork k (Some (record e { value = File file })) ≡ Some (fork_at k file)) (sym data_one) refl
fork_of_file kind (inr resource_one) e file = subst (λ k. file_fork k (Some (record e { value = File file })) ≡ Some (fork_at k file)) (sym resource_one) refl

module _ (fork_kind : ℕ) (is_kind : (fork_kind ≡ data_kind) ⊎ (fork_kind ≡ resource_kind)) (v : Volume) (content : Content) (holds : HoldsTrees v content) (settled : IsSettled v content) (put : Put) (node : PlainNode) (there : Contains (tree_of content).nodes node) (kind : node.folder ≡ false) (number : node.id ≡ put.id)
    (long : length (bytes_at fork_kind node) ≡ put.old_size) (entry : Entry) (found : Some entry ≡ entry_by_id (lists_of v content).catalog_pairs put.id)
  where
    its : IsFileOf (volume_of content) (bytes_in content) node
    unfolding tree_of
    its = file_of_node (volume_of content) settled.sound (settled_sorted v content holds settled) (bytes_in content) node there kind

    here : IsThere (lists_of v content).catalog_pairs put.id entry
    here = entry_there v content holds settled put.id node there number entry found

    here_now : value_at (volume_of content).catalog_pairs entry.parent entry.name ≡ Some entry.rec
    here_now = ap (λ (l : VolumeState). value_at l.catalog_pairs entry.parent entry.name) settled.lists ∙ here.value

    by_record : (o : Option Placed) → record_at (records_of (volume_of content)) entry.parent entry.name ≡ o → option_map (λ (p : Placed). p.value) o ≡ Some entry.rec → entry.rec ≡ File its.file
    by_record None none same = absurd (let no : None ≡ Some entry.rec = same in cc no)
    by_record (Some e) at same =
        let value : e.value ≡ entry.rec = some_same e.value entry.rec same in
        let stands = found_some (is_placed_at entry.parent entry.name) (records_of (volume_of content)) e at in
        let named : is_empty e.name ≡ false = sym (each_of (λ (p : Placed). is_thread p.value ≡ is_empty p.name) (records_of (volume_of content)) settled.sound.entries.threads.kinds e stands.0) ∙ ap is_thread value ∙ here.kind in
        let one : e ≡ its.entry = same_entry (volume_of content).head.next_catalog_id (entries_of (records_of (volume_of content))) settled.sound.entries.ids e its.entry
        (is_entry_of (records_of (volume_of content)) e stands.0 named) its.stands
        (ap id_in value ∙ here.number ∙ sym number ∙ its.id ∙ sym (ap id_in its.value)) in
        sym value ∙ ap (λ (p : Placed). p.value) one ∙ its.value

    rec_is : entry.rec ≡ File its.file
    rec_is = by_record (record_at (records_of (volume_of content)) entry.parent entry.name) refl here_now

    fork_is : file_fork fork_kind (entry_of (records_of (volume_of content)) put.id) ≡ Some (fork_at fork_kind its.file)
    fork_is =
        let at : id_of its.entry ≡ put.id = ap id_in its.value ∙ sym its.id ∙ number in
        ap (λ n. file_fork fork_kind (entry_of (records_of (volume_of content)) n)) (sym at)
        ∙ ap (file_fork fork_kind) (entry_of_is (records_of (volume_of content)) (volume_of content).head.next_catalog_id settled.sound.entries.ids its.entry its.stands)
        ∙ ap (λ (v : CatRecord). file_fork fork_kind (Some (record its.entry { value = v }))) its.value ∙ fork_of_file fork_kind is_kind its.entry its.file

    -- what stands in the fork that was found
    extents_are : file_extents (volume_of content) put.id fork_kind ≡ extents_of (overflow_in_volume (volume_of content)) its.file.fields.id fork_kind (fork_at fork_kind its.file)
    extents_are = ap (extents_found (overflow_in_volume (volume_of content)) put.id fork_kind) fork_is ∙ ap (λ n. extents_of (overflow_in_volume (volume_of content)) n fork_kind (fork_at fork_kind its.file)) (sym number ∙ its.id)

    low : FitsFile its.file → put.old_size ≤ 2 ^ 48
    low fits =
        let held = (sizes content settled.sound fork_kind is_kind its.file its.entry its.stands its.value).bytes in
        let size : put.old_size ≡ (fork_at fork_kind its.file).logical_size = sym long ∙ ap (λ (l : List ℕ). length l) (bytes_of_kind fork_kind is_kind (volume_of content) content node its) ∙ bytes_long content settled.sound fork_kind is_kind its.file its.entry its.stands its.value in
        let first = mul-le-mul_right {m = (fork_at fork_kind its.file).total_blocks} {n = 2 ^ 32} (volume_of content).head.block_size (omega (arith, few fits)) in
        let second : 2 ^ 32 * (volume_of content).head.block_size ≤ 2 ^ 32 * 65536 = mul-le-mul_left {m = (volume_of content).head.block_size} {n = 65536} (2 ^ 32) (omega (arith, size_is content settled.sound, (geometry_is content settled.sound).most)) in
        omega (arith, held, size, first, second)
      where
        few : FitsFile its.file → (fork_at fork_kind its.file).total_blocks < 2 ^ 32
        few fits = elim is_kind [
          | inl data_one ↦ subst (λ k. (fork_at k its.file).total_blocks < 2 ^ 32) (sym data_one) fits.data_fork.total_blocks
          | inr resource_one ↦ subst (λ k. (fork_at k its.file).total_blocks < 2 ^ 32) (sym resource_one) fits.resource_fork.total_blocks
        ]

    -- the record of the entry that was found is the file's
    file_found : (file : FileRecord) → entry.rec ≡ File file → (is_thread entry.rec ≡ false → FitsRecord entry.rec) → IsFileOfPut fork_kind (volume_of content) file put
    file_found file is fits =
        let same : its.file ≡ file = ap (file_or its.file) (sym rec_is ∙ is) in
        subst (λ (f : FileRecord). IsFileOfPut fork_kind (volume_of content) f put) same (record {
          has = record { entry = its.entry; stands = its.stands; value = its.value };
          id = sym its.id ∙ number;
          fork = fork_is;
          blocks = ap (λ (l : List Extent). length (blocks_of l)) extents_are ∙ (sizes content settled.sound fork_kind is_kind its.file its.entry its.stands its.value).blocks;
          small = low (subst FitsRecord rec_is (fits here.kind));
        })

    -- so it is told, and it is
    pub file_told : (is_thread entry.rec ≡ false → FitsRecord entry.rec) → IfSome (file_of_record entry.rec) (λ file. IsFileOfPut fork_kind (volume_of content) file put)
    file_told fits = subst (λ (r : CatRecord). IfSome (file_of_record r) (λ file. IsFileOfPut fork_kind (volume_of content) file put)) (sym rec_is) (file_found its.file rec_is fits)

    pub some_told : is_some (file_of_record entry.rec) ≡ true
    some_told = ap (λ (r : CatRecord). is_some (file_of_record r)) rec_is

-- the extents of the file that data is put into
pub extents_at : (kind : ℕ) (volume : VolumeState) (file : FileRecord) (put : Put) → IsFileOfPut kind volume file put → file_extents volume put.id kind ≡ extents_of (overflow_in_volume volume) file.fields.id kind (fork_at kind file)
extents_at kind volume file put it = ap (extents_found (overflow_in_volume volume) put.id kind) it.fork ∙ ap (λ n. extents_of (overflow_in_volume volume) n kind (fork_at kind file)) (sym it.id)
