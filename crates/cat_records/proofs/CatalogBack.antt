-- A record that was written is read as it was.
use Rattle.std.proofs.Common.{◌≡◌, ℕ, [], ◌++◌, length, None, refl, sym, ◌∙◌, arith, append_assoc}
use Rattle.std.proofs.lemmas.List.{append-nil, length-append}
use Rattle.hx_bytes.specs.Field.{big, big_at}
use Rattle.hx_bytes.specs.Fork.{fork_bytes}
use Rattle.hx_bytes.specs.declared.fields.Order.TheVariants.{Big}
use Rattle.hx_bytes.proofs.Laws.{length-number_bytes}
use Rattle.hx_bytes.proofs.Forks.{length-fork_bytes, length-extents_bytes}
use Rattle.hx_bytes.proofs.Reading.{Behind, behind_start, behind_number, behind_part, number_here, fork_here}
use Rattle.cat_records.specs.Records.{catalog_bytes, catalog_fault, catalog_of, entry_bytes}
use Rattle.cat_records.specs.Fits.{FitsEntry, FitsFile}
use Rattle.cat_records.specs.declared.record.FolderRecord.{FolderRecord}
use Rattle.cat_records.specs.declared.record.FileRecord.{FileRecord}
use Rattle.cat_records.specs.declared.record.CatRecord.TheVariants.{Folder, File}
use Rattle.cat_records.proofs.EntryBack.{entry_here, length-entry_bytes}

pub folder_back : (folder : FolderRecord) → FitsEntry folder.fields → catalog_of (catalog_bytes (Folder folder)) ≡ Folder folder
folder_back folder fits =
    let whole = big 2 1 ++ entry_bytes folder.fields in
    let start = behind_start whole in
    let kind : big_at 2 whole 0 ≡ 1 = number_here _ 2 1 (omega arith) start in
    let here : Behind whole (entry_bytes folder.fields ++ []) 2 = record { is = (behind_number 2 1 start).is ∙ sym (append-nil (entry_bytes folder.fields)) } in
    let fields = entry_here whole [] folder.fields fits here in
    rw (kind, fields) refl

pub folder_spells : (folder : FolderRecord) → FitsEntry folder.fields → catalog_fault (catalog_bytes (Folder folder)) ≡ None
folder_spells folder fits =
    let whole = big 2 1 ++ entry_bytes folder.fields in
    let kind : big_at 2 whole 0 ≡ 1 = number_here _ 2 1 (omega arith) (behind_start whole) in
    let long : length whole ≡ 88 = omega (arith, length-append (big 2 1) (entry_bytes folder.fields), length-number_bytes Big 2 1, length-entry_bytes folder.fields fits.finder_length) in
    rw (long, kind) refl

pub file_back : (file : FileRecord) → FitsFile file → catalog_of (catalog_bytes (File file)) ≡ File file
file_back file fits =
    let whole = catalog_bytes (File file) in
    let data_bytes = fork_bytes file.data_fork in
    let resource_bytes = fork_bytes file.resource_fork in
    let start : Behind whole (big 2 2 ++ (entry_bytes file.fields ++ (data_bytes ++ (resource_bytes ++ [])))) 0 = record { is = simp (append_assoc, append-nil) } in
    let kind : big_at 2 whole 0 ≡ 2 = number_here _ 2 2 (omega arith) start in
    let at_fields = behind_number 2 2 start in
    let fields = entry_here whole _ file.fields fits.fields at_fields in
    let at_data = behind_part (entry_bytes file.fields) 86 (length-entry_bytes file.fields fits.fields.finder_length) at_fields in
    let data_fork = fork_here whole _ _ file.data_fork fits.data_fork at_data in
    let at_resource = behind_part data_bytes 80 (length-fork_bytes file.data_fork (length-extents_bytes file.data_fork.extents fits.data_fork.extents.eight)) at_data in
    let resource_fork = fork_here whole _ _ file.resource_fork fits.resource_fork at_resource in
    rw (kind, fields, data_fork, resource_fork) refl

pub file_spells : (file : FileRecord) → FitsFile file → catalog_fault (catalog_bytes (File file)) ≡ None
file_spells file fits =
    let whole = catalog_bytes (File file) in
    let data_bytes = fork_bytes file.data_fork in
    let resource_bytes = fork_bytes file.resource_fork in
    let start : Behind whole (big 2 2 ++ (entry_bytes file.fields ++ (data_bytes ++ (resource_bytes ++ [])))) 0 = record { is = simp (append_assoc, append-nil) } in
    let kind : big_at 2 whole 0 ≡ 2 = number_here _ 2 2 (omega arith) start in
    let long : length whole ≡ 248 = omega (arith, length-append {A = ℕ}, length-number_bytes Big 2 2, length-entry_bytes file.fields fits.fields.finder_length, length-fork_bytes file.data_fork (length-extents_bytes file.data_fork.extents fits.data_fork.extents.eight), length-fork_bytes file.resource_fork (length-extents_bytes file.resource_fork.extents fits.resource_fork.extents.eight)) in
    rw (long, kind) refl
