use Rattle.std.proofs.Common.{◌≡◌, None}
use Rattle.cat_records.specs.Records.{catalog_bytes, catalog_fault, catalog_of}
use Rattle.cat_records.specs.Fits.{FitsRecord}
use Rattle.cat_records.specs.declared.record.CatRecord.{CatRecord}
use Rattle.cat_records.specs.declared.record.CatRecord.TheVariants.{Folder, File, Thread}
use Rattle.cat_records.proofs.CatalogBack.{folder_back, folder_spells, file_back, file_spells}
use Rattle.cat_records.proofs.ThreadBack.{thread_back, thread_spells}
use Rattle.cat_records.proofs.CatalogSpelled.{catalog_spelled, no_fault}
use Rattle.cat_records.proofs.laws.catalog_round_trip.Goals as goal

spelled : (rec : CatRecord) → FitsRecord rec → catalog_fault (catalog_bytes rec) ≡ None
spelled (Folder folder) fits = folder_spells folder fits
spelled (File file) fits = file_spells file fits
spelled (Thread thread) fits = thread_spells thread fits

read_back : (rec : CatRecord) → FitsRecord rec → catalog_of (catalog_bytes rec) ≡ rec
read_back (Folder folder) fits = folder_back folder fits
read_back (File file) fits = file_back file fits
read_back (Thread thread) fits = thread_back thread fits

pub returns : goal.returns
returns c = record {
  spelled = spelled;
  read_back = read_back;
  written_back = λ value are none. catalog_spelled value are (no_fault value none);
}
