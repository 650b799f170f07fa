-- A folder or file that was marked has the fields that the laws of `setattr` and `delattr` speak of.
use Rattle.std.proofs.Common.{◌≡◌, ℕ, ◌+◌, ◌*◌, ◌/◌, ◌%◌, ◌<◌, ◌≤◌, ◌^◌, Bool, true, false, List, refl, sym, ◌∙◌, ap, subst, arith}
use Rattle.std.specs.Prelude.{Option, None, Some, if◌then◌else◌}
use Rattle.std.proofs.lemmas.Bool.{true≢false}
use Rattle.btree_node.specs.Levels.{Pair}
use Rattle.cat_records.specs.Fits.{FitsEntry}
use Rattle.cat_records.specs.declared.record.CatRecord.{CatRecord}
use Rattle.cat_records.specs.declared.record.CatRecord.TheVariants.{Folder, File, Thread}
use Rattle.cat_records.specs.declared.record.EntryFields.{EntryFields}
use Rattle.catalog.specs.Entries.{UpdatesEntry, IsOfKind}
use Rattle.catalog.specs.Pairs.{value_at}
use Rattle.hfs_volume.specs.Changes.{HasSameNodes}
use Rattle.hfs_volume.specs.Commands.{ChangesFields, HasFields, IsMarkedAlone}
use Rattle.hfs_volume.specs.Content.{VolumeState}
use Rattle.hfs_volume.specs.Records.{id_in, is_thread}
use Rattle.volume_base.specs.Attributing.{marked_fields, with_attribute_flag, with_mark}
use Rattle.volume_base.proofs.Refielded.{FieldsChange, KeepsEntry, changes_fields, refielded, refielded_kind}

-- ---- the fields

flag_fits : (has : Bool) (flags : ℕ) → flags < 2 ^ 16 → with_attribute_flag has flags < 2 ^ 16
flag_fits true flags low = omega (arith, low)
flag_fits false flags low = omega (arith, low)

pub marks_fit : (has : Bool) (flags moment : ℕ) (fields : EntryFields) → flags ≡ with_attribute_flag has fields.flags → moment < 2 ^ 32 → FitsEntry fields → FitsEntry (record fields { flags = flags; attribute = moment })
marks_fit has flags moment fields is low was = record {
  flags = subst (λ n. n < 2 ^ 16) (sym is) (flag_fits has fields.flags was.flags);
  count = was.count;
  id = was.id;
  created = was.created;
  changed = was.changed;
  attribute = low;
  accessed = was.accessed;
  backup = was.backup;
  owner = was.owner;
  group = was.group;
  admin_flags = was.admin_flags;
  owner_flags = was.owner_flags;
  mode = was.mode;
  special = was.special;
  finder_length = was.finder_length;
  finder = was.finder;
  encoding = was.encoding;
  rest = was.rest;
}

-- ---- the change

abbrev pub mark : Bool → ℕ → FieldsChange
mark has moment folder fields = marked_fields has moment fields

keeps : (has : Bool) (moment : ℕ) → KeepsEntry (mark has moment)
keeps has moment = record { id = λ folder fields. refl; special = λ folder fields. refl; finder = λ folder fields. refl }

is_marked : (has : Bool) (moment : ℕ) (fields : EntryFields) → IsMarkedAlone moment fields (marked_fields has moment fields)
is_marked has moment fields = record { marked = record { id = refl; count = refl; mode = refl; created = refl; changed = refl; attribute = refl }; special = refl }

abbrev value_or : CatRecord → Option CatRecord → CatRecord
value_or other None = other
value_or other (Some r) = r

-- a record that is marked has other fields
mark_is : (has : Bool) (moment : ℕ) (old new : CatRecord) → with_mark has moment old ≡ Some new → new ≡ refielded (mark has moment) old
mark_is has moment (Folder folder) new is = sym (ap (value_or new) is)
mark_is has moment (File file) new is = sym (ap (value_or new) is)
mark_is has moment (Thread thread) new is = absurd (let no : None ≡ Some new = is in cc no)

-- it is of the same kind
pub mark_kind : (has : Bool) (moment : ℕ) (old new : CatRecord) → with_mark has moment old ≡ Some new → IsOfKind new old
mark_kind has moment old new is = subst (λ (r : CatRecord). IsOfKind r old) (sym (mark_is has moment old new is)) (refielded_kind (mark has moment) (keeps has moment) old)

-- the record of a folder or file can be marked
pub mark_some : (has : Bool) (moment : ℕ) (rec : CatRecord) → is_thread rec ≡ false → with_mark has moment rec ≡ None → ⊥
mark_some has moment (Folder folder) kind none = cc none
mark_some has moment (File file) kind none = cc none
mark_some has moment (Thread thread) kind none = true≢false kind

pub changes_mark : (has : Bool) (moment parent : ℕ) (name : List ℕ) (old_rec new_rec : CatRecord) (old new : VolumeState) → UpdatesEntry parent name new_rec old.catalog_pairs new.catalog_pairs → HasSameNodes old.catalog_tree new.catalog_tree
    → new ≡ record old { catalog_pairs = new.catalog_pairs; catalog_tree = new.catalog_tree } → value_at old.catalog_pairs parent name ≡ Some old_rec → with_mark has moment old_rec ≡ Some new_rec → is_thread old_rec ≡ false
    → ChangesFields (id_in old_rec) (IsMarkedAlone moment) old new
changes_mark has moment parent name old_rec new_rec old new updates nodes rest there made kind =
    changes_fields (mark has moment) (keeps has moment) (IsMarkedAlone moment) (id_in old_rec) parent name new_rec old new updates nodes rest old_rec there (mark_is has moment old_rec new_rec made) kind refl
    (λ fields has_it. is_marked has moment fields)
