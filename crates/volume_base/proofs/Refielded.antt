-- A record with other fields in the place of one is what a command changes of a folder or file.
use Rattle.std.proofs.Common.{◌≡◌, ℕ, Bool, true, false, List, [], ◌∷◌, refl, sym, ◌∙◌, ap, subst}
use Rattle.std.specs.Prelude.{◌==◌, ◌&&◌, Option, None, Some}
use Rattle.std.specs.Option.{option_map}
use Rattle.std.proofs.lemmas.Bool.{true≢false}
use Rattle.hx_bytes.specs.Field.{big_at}
use Rattle.cat_records.specs.declared.record.CatRecord.{CatRecord}
use Rattle.cat_records.specs.declared.record.CatRecord.TheVariants.{Folder, File, Thread}
use Rattle.cat_records.specs.declared.record.EntryFields.{EntryFields}
use Rattle.catalog.specs.Entries.{UpdatesEntry, IsOfKind}
use Rattle.catalog.specs.Pairs.{value_at}
use Rattle.hfs_volume.specs.Changes.{HasSameNodes, Spells}
use Rattle.hfs_volume.specs.Commands.{ChangesFields, HasFields}
use Rattle.hfs_volume.specs.Content.{VolumeState}
use Rattle.hfs_volume.specs.Forks.{data_kind, resource_kind}
use Rattle.hfs_volume.specs.Records.{Placed, id_in, is_folder, is_thread}

-- a change of the fields of a folder (true) or file (false)
abbrev pub FieldsChange : Type 0
FieldsChange = Bool → EntryFields → EntryFields

-- the record with its fields changed so
abbrev pub refielded : FieldsChange → CatRecord → CatRecord
refielded change (Folder folder) = Folder (record { fields = change true folder.fields })
refielded change (File file) = File (record file { fields = change false file.fields })
refielded change (Thread thread) = Thread thread

-- A change leaves the CNID, the special word and the Finder's data.
pub record KeepsEntry (change : FieldsChange) : Type 0 where
  pub id : (folder : Bool) (fields : EntryFields) → (change folder fields).id ≡ fields.id
  pub special : (folder : Bool) (fields : EntryFields) → (change folder fields).special ≡ fields.special
  pub finder : (folder : Bool) (fields : EntryFields) → (change folder fields).finder ≡ fields.finder

-- the record is of the same kind
pub refielded_kind : (change : FieldsChange) → KeepsEntry change → (rec : CatRecord) → IsOfKind (refielded change rec) rec
refielded_kind change keeps (Folder folder) = record { folder = refl; file = refl; id = keeps.id true folder.fields }
refielded_kind change keeps (File file) = record { folder = refl; file = refl; id = keeps.id false file.fields }
refielded_kind change keeps (Thread thread) = record { folder = refl; file = refl; id = refl }

abbrev value_or : CatRecord → Option CatRecord → CatRecord
value_or other None = other
value_or other (Some r) = r

-- The folder or file of this CNID has other fields, and it is a folder where this record is one's.
pub record ChangesAs (rec : CatRecord) (id : ℕ) (Changes : EntryFields → EntryFields → Type 0) (old new : VolumeState) : Type 0 where
  pub does : ChangesFields id Changes old new
  pub kind : is_folder does.entry.value ≡ is_folder rec

module _ (change : FieldsChange) (keeps : KeepsEntry change) (Changes : EntryFields → EntryFields → Type 0)
    (id parent : ℕ) (name : List ℕ) (new_rec : CatRecord) (old new : VolumeState) (updates : UpdatesEntry parent name new_rec old.catalog_pairs new.catalog_pairs) (nodes : HasSameNodes old.catalog_tree new.catalog_tree)
    (rest : new ≡ record old { catalog_pairs = new.catalog_pairs; catalog_tree = new.catalog_tree })
  where
    of_value : (p : ℕ) (n : List ℕ) (value : CatRecord) → updates.entry ≡ record { parent = p; name = n; value = value } → new_rec ≡ refielded change value → is_thread value ≡ false → id_in value ≡ id
        → ((fields : EntryFields) → HasFields value fields → Changes fields (change (is_folder value) fields)) → ChangesAs value id Changes old new
    of_value p n (Folder folder) is made kind number does = record {
      does = record {
        entry = record { parent = p; name = n; value = Folder folder };
        before = folder.fields;
        after = change true folder.fields;
        has = refl;
        is_entry = number;
        fields = does folder.fields refl;
        changes = record {
          changes = record {
            pair = updates.pair;
            is_entry = updates.is_entry.stands ∙ is;
            other = updates.other;
            is_other = subst (λ (q : Placed). Spells q updates.other) (λ i. record (is i) { value = made i }) updates.is_other;
            swapped = updates.swapped;
            alike = record { place = (refl, refl); kind = (refl, refl); id = keeps.id true folder.fields; link = refl; reference = λ _. keeps.special true folder.fields };
            forks = refl;
          };
          nodes = nodes;
          rest = rest;
        };
      };
      kind = refl;
    }
    of_value p n (File file) is made kind number does = record {
      does = record {
        entry = record { parent = p; name = n; value = File file };
        before = file.fields;
        after = change false file.fields;
        has = refl;
        is_entry = number;
        fields = does file.fields refl;
        changes = record {
          changes = record {
            pair = updates.pair;
            is_entry = updates.is_entry.stands ∙ is;
            other = updates.other;
            is_other = subst (λ (q : Placed). Spells q updates.other) (λ i. record (is i) { value = made i }) updates.is_other;
            swapped = updates.swapped;
            alike = record {
              place = (refl, refl);
              kind = (refl, refl);
              id = keeps.id false file.fields;
              link = ap (λ (f : List ℕ). (big_at 4 f 0 == 0x686C6E6B) && (big_at 4 f 4 == 0x6866732B)) (keeps.finder false file.fields);
              reference = λ _. keeps.special false file.fields;
            };
            forks = λ i. record { id = keeps.id false file.fields i; kind = data_kind; fork = file.data_fork } ∷ record { id = keeps.id false file.fields i; kind = resource_kind; fork = file.resource_fork } ∷ [];
          };
          nodes = nodes;
          rest = rest;
        };
      };
      kind = refl;
    }
    of_value p n (Thread thread) is made kind number does = absurd (true≢false kind)

    -- the folder or file of this CNID has other fields, and is of the kind that it was
    pub changes_as : (old_rec : CatRecord) → value_at old.catalog_pairs parent name ≡ Some old_rec → new_rec ≡ refielded change old_rec → is_thread old_rec ≡ false → id_in old_rec ≡ id
        → ((fields : EntryFields) → HasFields old_rec fields → Changes fields (change (is_folder old_rec) fields)) → ChangesAs old_rec id Changes old new
    changes_as old_rec there made kind number does =
        let same : old_rec ≡ updates.entry.value = sym (ap (value_or old_rec) (sym (ap (option_map (λ (p : Placed). p.value)) updates.found) ∙ there)) in
        subst (λ (r : CatRecord). ChangesAs r id Changes old new) (sym same)
        (of_value updates.entry.parent updates.entry.name updates.entry.value refl (made ∙ ap (refielded change) same) (subst (λ (r : CatRecord). is_thread r ≡ false) same kind) (sym (ap id_in same) ∙ number)
        (subst (λ (r : CatRecord). (fields : EntryFields) → HasFields r fields → Changes fields (change (is_folder r) fields)) same does))

    -- the folder or file of this CNID has other fields
    pub changes_fields : (old_rec : CatRecord) → value_at old.catalog_pairs parent name ≡ Some old_rec → new_rec ≡ refielded change old_rec → is_thread old_rec ≡ false → id_in old_rec ≡ id
        → ((fields : EntryFields) → HasFields old_rec fields → Changes fields (change (is_folder old_rec) fields)) → ChangesFields id Changes old new
    changes_fields old_rec there made kind number does = (changes_as old_rec there made kind number does).does
