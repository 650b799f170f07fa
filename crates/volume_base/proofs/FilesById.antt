-- The file that is found by its CNID has its record, and of a file of the tree the bytes are those there.
use Rattle.std.proofs.Common.{◌≡◌, ℕ, Bool, true, false, List, refl, sym, ◌∙◌, ap, subst}
use Rattle.std.specs.Prelude.{Contains, nat_lt, take, drop, length, Option, None, Some, if◌then◌else◌}
use Rattle.std.specs.Option.{option_map}
use Rattle.sector_disk.specs.Lists.{Content}
use Rattle.btree_node.specs.Levels.{Pair}
use Rattle.cat_records.specs.declared.record.CatRecord.{CatRecord}
use Rattle.cat_records.specs.declared.record.CatRecord.TheVariants.{Folder, File, Thread}
use Rattle.cat_records.specs.declared.record.FileRecord.{FileRecord}
use Rattle.cat_records.specs.declared.record.ThreadRecord.{ThreadRecord}
use Rattle.catalog.specs.Pairs.{thread_at, value_at}
use Rattle.hfs_model.specs.Plain.{is_node, node_at}
use Rattle.hfs_model.specs.declared.plain.PlainNode.{PlainNode}
use Rattle.hfs_volume.specs.Content.{VolumeState, volume_of, records_of}
use Rattle.hfs_volume.specs.Records.{Placed, entries_of, id_in, id_of, is_empty, is_placed_at, is_thread, placed_in, record_at}
use Rattle.hfs_volume.specs.TreeOf.{tree_of, bytes_in, file_bytes}
use Rattle.std.proofs.lemmas.Bool.{eqb-true}
use Rattle.hfs_volume.proofs.Flat.{found_some}
use Rattle.hfs_volume.proofs.Members.{each_of}
use Rattle.hfs_volume.proofs.Sides.{is_entry_of}
use Rattle.volume_base.specs.Entering.{entry_by_id, entry_told, entry_under, entry_with}
use Rattle.volume_base.specs.Lists.{lists_of}
use Rattle.volume_base.specs.Reading.{HasFile, bytes_by_id, file_in_record, file_of}
use Rattle.volume_base.specs.Standing.{HoldsTrees, IsSettled}
use Rattle.volume_base.specs.declared.entries.Entry.{Entry}
use Rattle.volume_base.specs.declared.volume.Volume.{Volume}
use Rattle.volume_base.proofs.FoundEntry.{found_is}
use Rattle.volume_base.proofs.PlainFiles.{IsFileOf, file_of_node}
use Rattle.volume_base.proofs.Rising.{settled_sorted}

abbrev some_or : {X : Type 0} → X → Option X → X
some_or other None = other
some_or other (Some x) = x

no_file : (file : FileRecord) → None ≡ Some file → ⊥
no_file file same = cc same

module _ (v : Volume) (content : Content) (holds : HoldsTrees v content) (settled : IsSettled v content) where
  pairs_are : (volume_of content).catalog_pairs ≡ (lists_of v content).catalog_pairs
  pairs_are = ap (λ (l : VolumeState). l.catalog_pairs) settled.lists

  -- a file that was found by its CNID has its record
  pub file_has : (id : ℕ) (file : FileRecord) → file_of (entry_by_id (lists_of v content).catalog_pairs id) ≡ Some file → HasFile (records_of (volume_of content)) file
  file_has id file found = by_thread (thread_at (volume_of content).catalog_pairs id) (ap (λ (l : List Pair). file_of (entry_by_id l id)) pairs_are ∙ found)
    where
      by_value : (p : Placed) → Contains (records_of (volume_of content)) p → (value : CatRecord) → p.value ≡ value → file_in_record value ≡ Some file → HasFile (records_of (volume_of content)) file
      by_value p stands (Folder folder) is same = absurd (no_file file same)
      by_value p stands (Thread thread) is same = absurd (no_file file same)
      by_value p stands (File other) is same = record {
        entry = p;
        stands = is_entry_of (records_of (volume_of content)) p stands (sym (each_of (λ (q : Placed). is_thread q.value ≡ is_empty q.name) (records_of (volume_of content)) settled.sound.entries.threads.kinds p stands) ∙ ap is_thread is);
        value = is ∙ ap (λ (o : Option FileRecord). File (some_or other o)) same;
      }

      by_record : (thread : ThreadRecord) (o : Option Placed) → record_at (records_of (volume_of content)) thread.parent thread.name ≡ o → file_of (option_map (entry_with thread) (option_map (λ (p : Placed). p.value) o)) ≡ Some file → HasFile (records_of (volume_of content)) file
      by_record thread None at same = absurd (no_file file same)
      by_record thread (Some p) at same = by_value p (found_some (is_placed_at thread.parent thread.name) (records_of (volume_of content)) p at).0 p.value refl same

      by_length : (thread : ThreadRecord) (b : Bool) → file_of (if b then None else option_map (entry_with thread) (value_at (volume_of content).catalog_pairs thread.parent thread.name)) ≡ Some file → HasFile (records_of (volume_of content)) file
      by_length thread true same = absurd (no_file file same)
      by_length thread false same = by_record thread (record_at (records_of (volume_of content)) thread.parent thread.name) refl same

      by_thread : (o : Option ThreadRecord) → file_of (entry_told (volume_of content).catalog_pairs o) ≡ Some file → HasFile (records_of (volume_of content)) file
      by_thread None same = absurd (no_file file same)
      by_thread (Some thread) same = by_length thread (nat_lt 255 (length thread.name)) same

  -- of a file of the tree its bytes are told
  pub bytes_seen : (id from long : ℕ) (node : PlainNode) → node_at (tree_of content) id ≡ Some node → node.folder ≡ false → bytes_by_id content (lists_of v content).catalog_pairs id from long ≡ Some (take long (drop from node.bytes))
  unfolding tree_of
  bytes_seen id from long node found kind =
      let at = found_some (is_node id) (tree_of content).nodes node found in
      let its : IsFileOf (volume_of content) (bytes_in content) node = file_of_node (volume_of content) settled.sound (settled_sorted v content holds settled) (bytes_in content) node at.0 kind in
      let number : id ≡ id_of its.entry = sym (eqb-true node.id id at.1) ∙ its.id ∙ sym (ap id_in its.value) in
      (λ i. option_map (λ (file : FileRecord). take long (drop from (file_bytes content file).data_bytes)) (file_of (entry_by_id (sym pairs_are i) (number i))))
      ∙ ap (λ (o : Option Entry). option_map (λ (file : FileRecord). take long (drop from (file_bytes content file).data_bytes)) (file_of o)) (found_is v content holds settled its.entry its.stands)
      ∙ ap (λ (value : CatRecord). option_map (λ (file : FileRecord). take long (drop from (file_bytes content file).data_bytes)) (file_in_record value)) its.value
      ∙ ap (λ (bytes : List ℕ). Some (take long (drop from bytes))) (sym its.bytes)

  abbrev these : ℕ → ℕ → Option FileRecord → Option (List ℕ)
  these from long found = option_map (λ (file : FileRecord). take long (drop from (file_bytes content file).data_bytes)) found

  module _ (id from long : ℕ) (found : Option Entry) (is : found ≡ entry_by_id (lists_of v content).catalog_pairs id) where
    -- no file has the CNID
    pub bytes_none : None ≡ file_of found → None ≡ bytes_by_id content (lists_of v content).catalog_pairs id from long
    bytes_none none = ap (these from long) none ∙ ap (λ (o : Option Entry). these from long (file_of o)) is

    -- this one has it
    module _ (file : FileRecord) (one : Some file ≡ file_of found) where
      pub file_stands : HasFile (records_of (volume_of content)) file
      file_stands = file_has id file (sym (one ∙ ap file_of is))

      pub bytes_some : (bytes : List ℕ) → bytes ≡ take long (drop from (file_bytes content file).data_bytes) → Some bytes ≡ bytes_by_id content (lists_of v content).catalog_pairs id from long
      bytes_some bytes same = ap Some same ∙ ap (these from long) one ∙ ap (λ (o : Option Entry). these from long (file_of o)) is
