-- Folders, files and threads that were written are read as they were.
use Rattle.std.proofs.Common.{◌≡◌, ℕ, List, ◌∷◌, ◌++◌, length, refl, ◌∙◌, arith, append_assoc}
use Rattle.std.proofs.lemmas.List.{length-append}
use Rattle.hx_bytes.specs.Field.{big}
use Rattle.hx_bytes.specs.declared.fields.Order.TheVariants.{Big}
use Rattle.hx_bytes.proofs.Laws.{length-number_bytes}
use Rattle.hx_bytes.proofs.Reading.{Behind, behind_number, behind_part, behind_byte, number_here, part_here, byte_here}
use Rattle.cat_records.specs.Records.{entry_bytes, entry_of}
use Rattle.cat_records.specs.Fits.{FitsEntry}
use Rattle.cat_records.specs.declared.record.EntryFields.{EntryFields}

-- the fields of an entry, joined from the right
abbrev nested_bytes : EntryFields → List ℕ → List ℕ
nested_bytes fields behind =
    big 2 fields.flags ++ (big 4 fields.count ++ (big 4 fields.id ++ (big 4 fields.created ++ (
    big 4 fields.changed ++ (big 4 fields.attribute ++ (big 4 fields.accessed ++ (big 4 fields.backup ++ (
    big 4 fields.owner ++ (big 4 fields.group ++ (fields.admin_flags ∷ (fields.owner_flags ∷ (
    big 2 fields.mode ++ (big 4 fields.special ++ (fields.finder ++ (big 4 fields.encoding ++ (
    big 4 fields.rest ++ behind))))))))))))))))

nested-is : (fields : EntryFields) (behind : List ℕ) → entry_bytes fields ++ behind ≡ nested_bytes fields behind
unfolding entry_bytes
nested-is fields behind = simp append_assoc

-- the entry that stands behind the type
pub entry_here : (whole behind : List ℕ) (fields : EntryFields) → FitsEntry fields → Behind whole (entry_bytes fields ++ behind) 2 → entry_of whole ≡ fields
unfolding entry_of
entry_here whole behind fields fits here =
    let at_flags : Behind whole (nested_bytes fields behind) 2 = record { is = here.is ∙ nested-is fields behind } in
    let flags = number_here _ 2 fields.flags fits.flags at_flags in
    let at_count = behind_number 2 fields.flags at_flags in
    let count = number_here _ 4 fields.count fits.count at_count in
    let at_id = behind_number 4 fields.count at_count in
    let id = number_here _ 4 fields.id fits.id at_id in
    let at_created = behind_number 4 fields.id at_id in
    let created = number_here _ 4 fields.created fits.created at_created in
    let at_changed = behind_number 4 fields.created at_created in
    let changed = number_here _ 4 fields.changed fits.changed at_changed in
    let at_attribute = behind_number 4 fields.changed at_changed in
    let attribute = number_here _ 4 fields.attribute fits.attribute at_attribute in
    let at_accessed = behind_number 4 fields.attribute at_attribute in
    let accessed = number_here _ 4 fields.accessed fits.accessed at_accessed in
    let at_backup = behind_number 4 fields.accessed at_accessed in
    let backup = number_here _ 4 fields.backup fits.backup at_backup in
    let at_owner = behind_number 4 fields.backup at_backup in
    let owner = number_here _ 4 fields.owner fits.owner at_owner in
    let at_group = behind_number 4 fields.owner at_owner in
    let group = number_here _ 4 fields.group fits.group at_group in
    let at_admin_flags = behind_number 4 fields.group at_group in
    let admin_flags = byte_here _ fields.admin_flags at_admin_flags in
    let at_owner_flags = behind_byte fields.admin_flags at_admin_flags in
    let owner_flags = byte_here _ fields.owner_flags at_owner_flags in
    let at_mode = behind_byte fields.owner_flags at_owner_flags in
    let mode = number_here _ 2 fields.mode fits.mode at_mode in
    let at_special = behind_number 2 fields.mode at_mode in
    let special = number_here _ 4 fields.special fits.special at_special in
    let at_finder = behind_number 4 fields.special at_special in
    let finder = part_here _ fields.finder 32 fits.finder_length at_finder in
    let at_encoding = behind_part fields.finder 32 fits.finder_length at_finder in
    let encoding = number_here _ 4 fields.encoding fits.encoding at_encoding in
    let at_rest = behind_number 4 fields.encoding at_encoding in
    let rest = number_here _ 4 fields.rest fits.rest at_rest in
    rw (flags, count, id, created, changed, attribute, accessed, backup, owner, group, admin_flags, owner_flags, mode, special, finder, encoding, rest) refl

-- an entry has 86 bytes
pub length-entry_bytes : (fields : EntryFields) → length fields.finder ≡ 32 → length (entry_bytes fields) ≡ 86
unfolding entry_bytes
length-entry_bytes fields long = omega (arith, length-append {A = ℕ}, length-number_bytes Big, long)
