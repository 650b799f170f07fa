-- The record of a folder or file that was read from bytes fits its fields.
use Rattle.std.proofs.Common.{◌≡◌, ℕ, ◌+◌, ◌<◌, ◌≤◌, ◌^◌, Bool, true, false, List, [], ◌∷◌, length, take, drop, get_or, refl, sym, ◌∙◌, ap, subst, arith, inl, inr}
use Rattle.std.specs.Prelude.{IsTrue, T, ◌==◌}
use Rattle.std.proofs.lemmas.Bool.{cases_lt}
use Rattle.std.proofs.lemmas.List.{length-take, length-drop, get_or-take, get_or-drop}
use Rattle.std.proofs.Math.ListN.{get_or-eq_default}
use Rattle.hx_bytes.specs.Field.{AreBytes, big_at}
use Rattle.hx_bytes.specs.Fork.{fork_at, extents_at, FitsFork, FitsExtent}
use Rattle.hx_bytes.specs.declared.fields.Order.TheVariants.{Big}
use Rattle.hx_bytes.proofs.Laws.{number_at-fits}
use Rattle.cat_records.specs.Fits.{FitsEntry, FitsFile, FitsRecord}
use Rattle.cat_records.specs.Records.{catalog_of, is_catalog, entry_of, thread_of}
use Rattle.cat_records.specs.declared.record.CatRecord.{CatRecord}
use Rattle.cat_records.specs.declared.record.FileRecord.{FileRecord}
use Rattle.cat_records.specs.declared.record.FolderRecord.{FolderRecord}
use Rattle.cat_records.specs.declared.record.ThreadRecord.{ThreadRecord}
use Rattle.hfs_volume.specs.Records.{is_folder, is_thread}
use Rattle.catalog.proofs.RecordLengths.{picked, long_of, record_long}

pub taken_are : (n at : ℕ) (bytes : List ℕ) → AreBytes bytes → AreBytes (take n (drop at bytes))
taken_are n at bytes are k = elim (cases_lt k n) [
  | inl inside ↦ omega (arith, get_or-take n (drop at bytes) k 0 inside, get_or-drop at bytes k 0, are (at + k))
  | inr past ↦ omega (arith, get_or-eq_default (take n (drop at bytes)) 0 {n = k} (omega (arith, past, length-take n (drop at bytes))))
]

entry_fits : (bytes : List ℕ) → AreBytes bytes → 88 ≤ length bytes → FitsEntry (entry_of bytes)
unfolding entry_of
entry_fits bytes are long = record {
  flags = number_at-fits Big 2 2 bytes are;
  count = number_at-fits Big 4 4 bytes are;
  id = number_at-fits Big 4 8 bytes are;
  created = number_at-fits Big 4 12 bytes are;
  changed = number_at-fits Big 4 16 bytes are;
  attribute = number_at-fits Big 4 20 bytes are;
  accessed = number_at-fits Big 4 24 bytes are;
  backup = number_at-fits Big 4 28 bytes are;
  owner = number_at-fits Big 4 32 bytes are;
  group = number_at-fits Big 4 36 bytes are;
  admin_flags = are 40;
  owner_flags = are 41;
  mode = number_at-fits Big 2 42 bytes are;
  special = number_at-fits Big 4 44 bytes are;
  finder_length = omega (arith, length-take 32 (drop 48 bytes), length-drop 48 bytes, long);
  finder = taken_are 32 48 bytes are;
  encoding = number_at-fits Big 4 80 bytes are;
  rest = number_at-fits Big 4 84 bytes are;
}

pub fork_fits : (bytes : List ℕ) (at : ℕ) → AreBytes bytes → FitsFork (fork_at bytes at)
unfolding extents_at
fork_fits bytes at are = record {
  logical_size = number_at-fits Big 8 at bytes are;
  clump_size = number_at-fits Big 4 (at + 8) bytes are;
  total_blocks = number_at-fits Big 4 (at + 12) bytes are;
  extents = record {
    eight = refl;
    each = (one (at + 16), (one (at + 16 + 8), (one (at + 16 + 16), (one (at + 16 + 24), (one (at + 16 + 32), (one (at + 16 + 40), (one (at + 16 + 48), (one (at + 16 + 56), tt))))))));
  };
}
  where
    one : (place : ℕ) → FitsExtent (record { start = big_at 4 bytes place; count = big_at 4 bytes (place + 4) })
    one place = record { start = number_at-fits Big 4 place bytes are; count = number_at-fits Big 4 (place + 4) bytes are }

by_kind : (one two : Bool) (folder : FolderRecord) (file : FileRecord) (thread : ThreadRecord) → FitsEntry folder.fields → FitsFile file → is_thread (picked one two folder file thread) ≡ false → FitsRecord (picked one two folder file thread)
by_kind true two folder file thread folder_fits file_fits named = folder_fits
by_kind false true folder file thread folder_fits file_fits named = file_fits
by_kind false false folder file thread folder_fits file_fits named = absurd (subst T named tt)

at_least : (b : Bool) → 88 ≤ long_of b
at_least true = omega arith
at_least false = omega arith

-- a folder's or a file's record that bytes spell has fields that fit
pub read_fits : (bytes : List ℕ) → AreBytes bytes → is_catalog bytes ≡ true → is_thread (catalog_of bytes) ≡ false → FitsRecord (catalog_of bytes)
read_fits bytes are spelled named =
    let long = record_long bytes spelled named in
    let entry = entry_fits bytes are (omega (arith, long, at_least (is_folder (catalog_of bytes)))) in
    by_kind (big_at 2 bytes 0 == 1) (big_at 2 bytes 0 == 2) (record { fields = entry_of bytes }) (record { fields = entry_of bytes; data_fork = fork_at bytes 88; resource_fork = fork_at bytes 168 }) (thread_of bytes)
    entry (record { fields = entry; data_fork = fork_fits bytes 88 are; resource_fork = fork_fits bytes 168 are }) named
