-- Rights that were set in the record of a folder or file are what `chmod` changes.
use Rattle.std.proofs.Common.{◌≡◌, ℕ, ◌+◌, ◌*◌, ◌/◌, ◌%◌, ◌<◌, ◌≤◌, ◌^◌, Bool, true, false, List, refl, sym, ◌∙◌, ap, subst, arith}
use Rattle.std.specs.Prelude.{◌==◌, Option, None, Some, if◌then◌else◌}
use Rattle.std.proofs.lemmas.Bool.{eqb-true, true≢false}
use Rattle.cat_records.specs.Fits.{FitsEntry}
use Rattle.cat_records.specs.declared.record.CatRecord.{CatRecord}
use Rattle.cat_records.specs.declared.record.CatRecord.TheVariants.{Folder, File, Thread}
use Rattle.cat_records.specs.declared.record.EntryFields.{EntryFields}
use Rattle.catalog.specs.Entries.{UpdatesEntry, IsOfKind}
use Rattle.catalog.specs.Pairs.{value_at}
use Rattle.hfs_model.specs.Plain.{type_bits_kept}
use Rattle.hfs_volume.specs.Changes.{HasSameNodes}
use Rattle.hfs_volume.specs.Commands.{ChangesMode, HasNewMode}
use Rattle.hfs_volume.specs.Content.{VolumeState}
use Rattle.hfs_volume.specs.Records.{id_in, is_folder, is_thread}
use Rattle.hfs_volume.specs.TreeOf.{type_bits_in}
use Rattle.hfs_volume.proofs.Fitting.{differs}
use Rattle.volume_names.specs.Entering.{kind_bits, with_rights, with_mode}
use Rattle.volume_base.proofs.Refielded.{FieldsChange, changes_as, refielded}

-- ---- modes

kind_whole : (folder : Bool) (mode : ℕ) → kind_bits folder mode % 4096 ≡ 0
kind_whole folder mode = by (mode / 4096 == 0) folder
  where
    by : (b f : Bool) → (if b then (if f then 16384 else 32768) else mode / 4096 * 4096) % 4096 ≡ 0
    by true true = refl
    by true false = refl
    by false f = omega arith

pub new_rights : (folder : Bool) (mode rights : ℕ) → rights < 4096 → (kind_bits folder mode + rights % 4096) % 4096 ≡ rights
new_rights folder mode rights low = omega (arith, low, kind_whole folder mode)

pub rights_fit : (bits moment rights : ℕ) (fields : EntryFields) → bits ≤ 61440 → moment < 2 ^ 32 → FitsEntry fields → FitsEntry (record fields { attribute = moment; mode = bits + rights % 4096 })
rights_fit bits moment rights fields most low was = record {
  flags = was.flags;
  count = was.count;
  id = was.id;
  created = was.created;
  changed = was.changed;
  attribute = low;
  accessed = was.accessed;
  backup = was.backup;
  owner = was.owner;
  group = was.group;
  admin_flags = was.admin_flags;
  owner_flags = was.owner_flags;
  mode = omega (arith, most);
  special = was.special;
  finder_length = was.finder_length;
  finder = was.finder;
  encoding = was.encoding;
  rest = was.rest;
}

-- ---- the change

-- the type bits are those that it has, or those of a new one where it has none
kept_bits : (folder : Bool) (mode rights : ℕ) → rights < 4096 → type_bits_in (kind_bits folder mode + rights % 4096) ≡ type_bits_kept folder (type_bits_in mode)
kept_bits folder mode rights low = by (mode / 4096 == 0) folder refl
  where
    zero_bits : mode / 4096 ≡ 0 → (mode / 4096 * 4096 == 0) ≡ true
    zero_bits none = ap (λ n. n * 4096 == 0) none

    zero_high : mode / 4096 * 4096 ≡ 0 → mode / 4096 ≡ 0
    zero_high none = omega (arith, none)

    by : (b f : Bool) → (mode / 4096 == 0) ≡ b → ((if b then (if f then 16384 else 32768) else mode / 4096 * 4096) + rights % 4096) / 4096 * 4096 ≡ (if mode / 4096 * 4096 == 0 then (if f then 16384 else 32768) else mode / 4096 * 4096)
    by true true none = omega (arith, low) ∙ sym (ap (λ b. if b then 16384 else mode / 4096 * 4096) (zero_bits (eqb-true (mode / 4096) 0 none)))
    by true false none = omega (arith, low) ∙ sym (ap (λ b. if b then 32768 else mode / 4096 * 4096) (zero_bits (eqb-true (mode / 4096) 0 none)))
    by false f some = omega (arith, low) ∙ sym (ap (λ b. if b then (if f then 16384 else 32768) else mode / 4096 * 4096) (differs (mode / 4096 * 4096) 0 (λ none. true≢false (sym (ap (λ n. n == 0) (zero_high none)) ∙ some))))

has_mode : (folder : Bool) (moment rights : ℕ) (fields : EntryFields) → rights < 4096 → HasNewMode folder rights moment fields (with_rights folder moment rights fields)
has_mode folder moment rights fields low = record {
  id = refl;
  count = refl;
  kept = kept_bits folder fields.mode rights low;
  mode = new_rights folder fields.mode rights low;
  created = refl;
  changed = refl;
  attribute = refl;
  special = refl;
}

abbrev value_or : CatRecord → Option CatRecord → CatRecord
value_or other None = other
value_or other (Some r) = r

-- the record is of the same kind
pub kind_kept : (moment rights : ℕ) (old new : CatRecord) → with_mode moment rights old ≡ Some new → IsOfKind new old
kind_kept moment rights (Folder folder) new is = subst (λ (r : CatRecord). IsOfKind r (Folder folder)) (ap (value_or new) is) (record { folder = refl; file = refl; id = refl })
kind_kept moment rights (File file) new is = subst (λ (r : CatRecord). IsOfKind r (File file)) (ap (value_or new) is) (record { folder = refl; file = refl; id = refl })
kind_kept moment rights (Thread thread) new is = absurd (let no : None ≡ Some new = is in cc no)

-- rights as a change of fields
abbrev righting : ℕ → ℕ → FieldsChange
righting moment rights folder = with_rights folder moment rights

righted_is : (moment rights : ℕ) (old new : CatRecord) → with_mode moment rights old ≡ Some new → (new ≡ refielded (righting moment rights) old) × (is_thread old ≡ false)
righted_is moment rights (Folder folder) new is = (sym (ap (value_or new) is), refl)
righted_is moment rights (File file) new is = (sym (ap (value_or new) is), refl)
righted_is moment rights (Thread thread) new is = absurd (let no : None ≡ Some new = is in cc no)

pub changes_mode : (id rights parent : ℕ) (name : List ℕ) (new_rec : CatRecord) (old new : VolumeState) → rights < 4096 → UpdatesEntry parent name new_rec old.catalog_pairs new.catalog_pairs → HasSameNodes old.catalog_tree new.catalog_tree
    → new ≡ record old { catalog_pairs = new.catalog_pairs; catalog_tree = new.catalog_tree }
    → (old_rec : CatRecord) → value_at old.catalog_pairs parent name ≡ Some old_rec → with_mode old.head.modify_date rights old_rec ≡ Some new_rec → id_in old_rec ≡ id → ChangesMode id rights old new
changes_mode id rights parent name new_rec old new low updates nodes rest old_rec there made number =
    let is = righted_is old.head.modify_date rights old_rec new_rec made in
    let changes = changes_as (righting old.head.modify_date rights) (record { id = λ folder fields. refl; special = λ folder fields. refl; finder = λ folder fields. refl }) (HasNewMode (is_folder old_rec) rights old.head.modify_date)
    id parent name new_rec old new updates nodes rest old_rec there is.0 is.1 number (λ fields has. has_mode (is_folder old_rec) old.head.modify_date rights fields low) in
    record { folder = is_folder old_rec; does = changes.does; kind = changes.kind }

-- the record of a folder or file can have rights
pub mode_some : (moment rights : ℕ) (rec : CatRecord) → is_thread rec ≡ false → with_mode moment rights rec ≡ None → ⊥
mode_some moment rights (Folder folder) kind none = cc none
mode_some moment rights (File file) kind none = cc none
mode_some moment rights (Thread thread) kind none = true≢false kind
