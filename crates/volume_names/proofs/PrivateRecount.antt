-- A folder that counts more entries out of sight, with its record in the place of the old one.
use Rattle.std.proofs.Common.{◌≡◌, ℕ, Bool, true, refl, sym, ◌∙◌, ap, subst, arith}
use Rattle.std.specs.Prelude.{IsTrue, Option, None, Some}
use Rattle.std.proofs.lemmas.Bool.{true≢false}
use Rattle.sector_disk.specs.Lists.{Content}
use Rattle.sector_disk.specs.Space.{Space}
use Rattle.jnl_format.specs.Recovery.{header_of_volume}
use Rattle.cat_records.specs.declared.record.CatRecord.{CatRecord}
use Rattle.cat_records.specs.declared.record.CatRecord.TheVariants.{Folder, File, Thread}
use Rattle.cat_records.specs.declared.record.EntryFields.{EntryFields}
use Rattle.catalog.specs.Pairs.{value_at}
use Rattle.hfs_volume.specs.Commands.{ChangesFields, IsRecountedAlone}
use Rattle.hfs_volume.specs.Content.{VolumeState}
use Rattle.hfs_volume.specs.Records.{id_in, is_folder}
use Rattle.volume_base.specs.Changing.{ReplacesRecord}
use Rattle.volume_base.specs.Lists.{lists_of, facts_on}
use Rattle.volume_base.specs.Looking.{ReadsVolume}
use Rattle.volume_names.specs.PrivateFolder.{RecountsFolder, recounted, with_more}
use Rattle.volume_base.specs.declared.entries.Entry.{Entry}
use Rattle.volume_base.specs.declared.volume.Volume.{Volume}
use Rattle.volume_base.proofs.ListsAfter.{changes_both}
use Rattle.volume_base.proofs.Recounting.{no_thread, read_changes}
use Rattle.volume_base.proofs.Refielded.{FieldsChange, KeepsEntry, changes_fields, refielded}
use Rattle.volume_base.proofs.Still.{lists_still}

abbrev counting : (up : ℕ) → FieldsChange
counting up folder = with_more up

counting_keeps : (up : ℕ) → KeepsEntry (counting up)
counting_keeps up = record { id = λ folder fields. refl; special = λ folder fields. refl; finder = λ folder fields. refl }

counting_recounts : (up : ℕ) (folder : Bool) (fields : EntryFields) → IsRecountedAlone up 0 fields (counting up folder fields)
counting_recounts up folder fields = record { recounted = record { id = refl; count = omega arith }; mode = refl; created = refl; changed = refl; attribute = refl }

abbrev value_or : CatRecord → Option CatRecord → CatRecord
value_or other None = other
value_or other (Some r) = r

recounted_is : (up : ℕ) (rec new : CatRecord) → recounted up rec ≡ Some new → new ≡ refielded (counting up) rec
recounted_is up (Folder folder) new is = sym (ap (value_or new) is)
recounted_is up (File file) new is = absurd (let no : None ≡ Some new = is in cc no)
recounted_is up (Thread thread) new is = absurd (let no : None ≡ Some new = is in cc no)

pub recounted_some : (up : ℕ) (rec : CatRecord) → is_folder rec ≡ true → recounted up rec ≡ None → ⊥
recounted_some up (Folder folder) kind none = cc none
recounted_some up (File file) kind none = true≢false (sym kind)
recounted_some up (Thread thread) kind none = true≢false (sym kind)

-- ---- the record was put

pub recounts_folder : (up : ℕ) (v w : Volume) (before after : Content) (entry : Entry) (rec : CatRecord) → value_at (lists_of v before).catalog_pairs entry.parent entry.name ≡ Some entry.rec
    → is_folder entry.rec ≡ true → recounted up entry.rec ≡ Some rec → ReplacesRecord entry rec v w before after → RecountsFolder (id_in entry.rec) up v w before after
recounts_folder up v w before after entry rec there kind made r = record {
  counts = changes_fields (counting up) (counting_keeps up) (IsRecountedAlone up 0) (id_in entry.rec) entry.parent entry.name rec (lists_of v before) (lists_of w after) r.updates
      (record { total = r.changes.nodes.0; size = r.changes.nodes.1 })
      (r.changes.lists ∙ (λ i. record (lists_of v before) { head = (ap (λ (x : Volume). x.header) r.rest) i; catalog_pairs = (lists_of w after).catalog_pairs; catalog_tree = facts_on w.catalog.file }))
      entry.rec there (recounted_is up entry.rec rec made) (no_thread entry.rec kind) refl (λ fields has. counting_recounts up (is_folder entry.rec) fields);
  changes = r.changes;
  rest = r.rest;
  headed = r.headed;
}

-- ---- a read, and then the change

pub recounts_read : (v u : Volume) (a m : Space) (reads : ReadsVolume v u a m) (tells : IsTrue a.tells) (rest : u ≡ record v { catalog = u.catalog }) (id up : ℕ) (w : Volume) (after : Content)
    → RecountsFolder id up u w m.content after → RecountsFolder id up v w a.content after
recounts_read v u a m reads tells rest id up w after t = record {
  counts = subst (λ (l : VolumeState). ChangesFields id (IsRecountedAlone up 0) l (lists_of w after)) (lists_still v u a m reads tells) t.counts;
  changes = changes_both v u w a.content m.content after (read_changes v u a m reads tells rest) t.changes;
  rest = t.rest ∙ (λ i. record (rest i) { catalog = w.catalog });
  headed = t.headed ∙ ap header_of_volume (reads.looks.content tells);
}
