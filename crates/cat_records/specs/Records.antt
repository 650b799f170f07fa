-- Catalog records as they stand in bytes, all numbers big-endian (TN1150, "Catalog File").
use Rattle.std.specs.Prelude.{ℕ, zero, suc, ◌+◌, ◌*◌, min, Bool, ◌&&◌, ◌||◌, nat_lt, nat_le, ◌==◌, if◌then◌else◌, false, List, [], ◌∷◌, ◌++◌, length, take, drop, slice_index, Option, Some, None}
use Rattle.std.specs.List.{flat_map}
use Rattle.std.specs.Int.{w16, cast_signed, cast_unsigned}
use Rattle.hx_bytes.specs.Field.{big, big_at}
use Rattle.hx_bytes.specs.Fork.{fork_at, fork_bytes}
use Rattle.cat_records.specs.declared.record.EntryFields.{EntryFields}
use Rattle.cat_records.specs.declared.record.ThreadRecord.{ThreadRecord}
use Rattle.cat_records.specs.declared.record.CatRecord.{CatRecord}
use Rattle.cat_records.specs.declared.record.CatRecord.TheVariants.{Folder, File, Thread}
use Rattle.cat_records.specs.declared.fault.RecordFault.{RecordFault}
use Rattle.cat_records.specs.declared.fault.RecordFault.TheVariants.{BadRecord}

-- the units of a name, two bytes each
abbrev pub units_bytes : List ℕ → List ℕ
units_bytes units = flat_map (λ unit. big 2 unit) units

-- so many units from a place on
abbrev pub units_at : List ℕ → ℕ → ℕ → List ℕ
units_at bytes at zero = []
units_at bytes at (suc count) = big_at 2 bytes at ∷ units_at bytes (at + 2) count

-- flags, valence and id: bytes 2 to 11 of a folder's or a file's record
abbrev pub identity_bytes : EntryFields → List ℕ
identity_bytes fields = big 2 fields.flags ++ big 4 fields.count ++ big 4 fields.id

-- the dates: bytes 12 to 31
abbrev pub dates_bytes : EntryFields → List ℕ
dates_bytes fields =
    big 4 fields.created ++ big 4 fields.changed ++ big 4 fields.attribute ++ big 4 fields.accessed ++ big 4 fields.backup

-- owner, group and mode: bytes 32 to 47
abbrev pub rights_bytes : EntryFields → List ℕ
rights_bytes fields =
    big 4 fields.owner ++ big 4 fields.group ++ (fields.admin_flags ∷ fields.owner_flags ∷ []) ++ big 2 fields.mode ++ big 4 fields.special

-- the Finder's bytes, the encoding and the last word: bytes 48 to 87
abbrev pub finder_bytes : EntryFields → List ℕ
finder_bytes fields = fields.finder ++ big 4 fields.encoding ++ big 4 fields.rest

-- the fields that a folder and a file share: bytes 2 to 87
unfoldable pub entry_bytes : EntryFields → List ℕ
entry_bytes fields = identity_bytes fields ++ dates_bytes fields ++ rights_bytes fields ++ finder_bytes fields

-- those fields, each at its offset
unfoldable pub entry_of : List ℕ → EntryFields
entry_of bytes = record {
  flags = big_at 2 bytes 2;
  count = big_at 4 bytes 4;
  id = big_at 4 bytes 8;
  created = big_at 4 bytes 12;
  changed = big_at 4 bytes 16;
  attribute = big_at 4 bytes 20;
  accessed = big_at 4 bytes 24;
  backup = big_at 4 bytes 28;
  owner = big_at 4 bytes 32;
  group = big_at 4 bytes 36;
  admin_flags = slice_index bytes 40;
  owner_flags = slice_index bytes 41;
  mode = big_at 2 bytes 42;
  special = big_at 4 bytes 44;
  finder = take 32 (drop 48 bytes);
  encoding = big_at 4 bytes 80;
  rest = big_at 4 bytes 84;
}

-- the type of a file's thread is 4, that of a folder's 3
abbrev pub thread_kind : Bool → ℕ
thread_kind of_file = if of_file then 4 else 3

-- a thread: its type, a reserved word, the parent, and the name behind its length
abbrev pub thread_bytes : ThreadRecord → List ℕ
thread_bytes thread =
    big 2 (thread_kind thread.of_file) ++ big 2 (cast_unsigned w16 thread.spare) ++ big 4 thread.parent
    ++ big 2 (length thread.name) ++ units_bytes thread.name

-- the thread in bytes, each field at its offset
abbrev pub thread_of : List ℕ → ThreadRecord
thread_of bytes = record {
  of_file = big_at 2 bytes 0 == 4;
  spare = cast_signed w16 (big_at 2 bytes 2);
  parent = big_at 4 bytes 4;
  name = units_at bytes 10 (big_at 2 bytes 8);
}

-- the bytes of a record: 1 is a folder, 2 a file, 3 and 4 are their threads
abbrev pub catalog_bytes : CatRecord → List ℕ
catalog_bytes (Folder folder) = big 2 1 ++ entry_bytes folder.fields
catalog_bytes (File file) = big 2 2 ++ entry_bytes file.fields ++ fork_bytes file.data_fork ++ fork_bytes file.resource_fork
catalog_bytes (Thread thread) = thread_bytes thread

-- the type of a record, or 0 where there are no two bytes for it
abbrev pub catalog_kind : List ℕ → ℕ
catalog_kind bytes = if nat_lt (length bytes) 2 then 0 else big_at 2 bytes 0

-- a thread has its ten bytes and two for each unit of its name
abbrev pub has_thread_length : List ℕ → Bool
has_thread_length bytes = nat_le 10 (length bytes) && (length bytes == 10 + 2 * big_at 2 bytes 8)

-- the type is 1 to 4, and the length is that of the type
abbrev pub is_catalog : List ℕ → Bool
is_catalog bytes =
    if catalog_kind bytes == 1 then length bytes == 88
    else if catalog_kind bytes == 2 then length bytes == 248
    else if (catalog_kind bytes == 3) || (catalog_kind bytes == 4) then has_thread_length bytes
    else false

-- the record in bytes that are one
abbrev pub catalog_of : List ℕ → CatRecord
catalog_of bytes =
    if big_at 2 bytes 0 == 1 then Folder (record { fields = entry_of bytes })
    else if big_at 2 bytes 0 == 2 then File (record { fields = entry_of bytes; data_fork = fork_at bytes 88; resource_fork = fork_at bytes 168 })
    else Thread (thread_of bytes)

-- a type and a length that don't go together; a length over the largest u32 is told as that
abbrev pub bad_record : ℕ → ℕ → RecordFault
bad_record kind long = BadRecord kind (min long 4294967295)

-- why bytes are no catalog record, or none where they are one
abbrev pub catalog_fault : List ℕ → Option RecordFault
catalog_fault bytes = if is_catalog bytes then None else Some (bad_record (catalog_kind bytes) (length bytes))
