-- Folders and files by their CNID, and their records with other fields.
use Rattle.std.specs.Prelude.{ℕ, ◌+◌, ◌-◌, ◌*◌, ◌/◌, ◌%◌, nat_lt, List, length, Option, None, Some, if◌then◌else◌}
use Rattle.std.specs.Option.{option_map}
use Rattle.btree_node.specs.Levels.{Pair}
use Rattle.cat_records.specs.declared.record.CatRecord.{CatRecord}
use Rattle.cat_records.specs.declared.record.CatRecord.TheVariants.{Folder, File, Thread}
use Rattle.cat_records.specs.declared.record.EntryFields.{EntryFields}
use Rattle.cat_records.specs.declared.record.ThreadRecord.{ThreadRecord}
use Rattle.catalog.specs.Pairs.{value_at, thread_at}
use Rattle.volume_base.specs.declared.entries.Entry.{Entry}

-- a record at the place that a thread tells
abbrev pub entry_with : ThreadRecord → CatRecord → Entry
entry_with thread rec = record { parent = thread.parent; name = thread.name; rec = rec }

-- the folder or file that a thread tells of; no name is longer than 255 units
abbrev pub entry_under : List Pair → ThreadRecord → Option Entry
entry_under pairs thread = if nat_lt 255 (length thread.name) then None else option_map (entry_with thread) (value_at pairs thread.parent thread.name)

abbrev pub entry_told : List Pair → Option ThreadRecord → Option Entry
entry_told pairs None = None
entry_told pairs (Some thread) = entry_under pairs thread

-- the folder or file with a CNID, by its thread
abbrev pub entry_by_id : List Pair → ℕ → Option Entry
entry_by_id pairs id = entry_told pairs (thread_at pairs id)

-- ---- entries that come and go
-- the flags of a folder that doesn't count its folders apart (0x0010)
abbrev pub uncounted : ℕ → ℕ
uncounted flags = flags - flags / 16 % 2 * 16

-- the fields of a folder to which so many entries came, and from which so many went, at this moment
abbrev pub with_entries : (moment up down : ℕ) → EntryFields → EntryFields
with_entries moment up down fields = record fields { flags = uncounted fields.flags; count = fields.count + up - down; changed = moment; attribute = moment; rest = 0 }

-- the record of such a folder
abbrev pub touched : (moment up down : ℕ) → CatRecord → Option CatRecord
touched moment up down (Folder folder) = Some (Folder (record { fields = with_entries moment up down folder.fields }))
touched moment up down (File file) = None
touched moment up down (Thread thread) = None
