-- Folders and files by their CNID, and their records with other fields.
use Rattle.std.specs.Prelude.{ℕ, ◌+◌, ◌*◌, ◌/◌, ◌%◌, ◌==◌, Bool, true, false, Option, None, Some, if◌then◌else◌}
use Rattle.cat_records.specs.declared.record.CatRecord.{CatRecord}
use Rattle.cat_records.specs.declared.record.CatRecord.TheVariants.{Folder, File, Thread}
use Rattle.cat_records.specs.declared.record.EntryFields.{EntryFields}

-- ---- rights
-- the bits of a mode that tell the kind: those that it has, or those of a folder or a file where it has none
abbrev pub kind_bits : Bool → ℕ → ℕ
kind_bits folder mode = if mode / 4096 == 0 then (if folder then 16384 else 32768) else mode / 4096 * 4096

-- the fields with these rights, set at this moment
abbrev pub with_rights : Bool → ℕ → ℕ → EntryFields → EntryFields
with_rights folder moment rights fields = record fields { attribute = moment; mode = kind_bits folder fields.mode + rights % 4096 }

-- the record of a folder or file with these rights
abbrev pub with_mode : ℕ → ℕ → CatRecord → Option CatRecord
with_mode moment rights (Folder folder) = Some (Folder (record { fields = with_rights true moment rights folder.fields }))
with_mode moment rights (File file) = Some (File (record file { fields = with_rights false moment rights file.fields }))
with_mode moment rights (Thread thread) = None

-- ---- something was done to a folder or file
-- the record of a folder or file to which something was done at this moment, but not to what it holds
abbrev pub dated : (moment : ℕ) → CatRecord → Option CatRecord
dated moment (Folder folder) = Some (Folder (record { fields = record folder.fields { attribute = moment } }))
dated moment (File file) = Some (File (record file { fields = record file.fields { attribute = moment } }))
dated moment (Thread thread) = None
