-- `rm` of a link, where its file has others: what is removed, and what the file says behind it.
use Rattle.std.specs.Prelude.{◌≡◌, ◌⊎◌, ◌<◌, ◌≤◌, ℕ, ◌+◌, Bool, true, false, not, List, Option, None, Some}
use Rattle.std.specs.List.{Contains}
use Rattle.sector_disk.specs.Lists.{Content}
use Rattle.jnl_format.specs.Recovery.{header_of_volume}
use Rattle.btree_node.specs.Levels.{Pair}
use Rattle.cat_records.specs.declared.record.CatRecord.{CatRecord}
use Rattle.cat_records.specs.declared.record.CatRecord.TheVariants.{Folder, File, Thread}
use Rattle.cat_records.specs.declared.record.EntryFields.{EntryFields}
use Rattle.catalog.specs.Entries.{RemovesEntry}
use Rattle.hard_links.specs.declared.place.EntryAt.{EntryAt}
use Rattle.hfs_model.specs.declared.plain.PlainEntry.{PlainEntry}
use Rattle.hfs_volume.specs.Commands.{ChangesFields, IsMarkedLinked}
use Rattle.hfs_volume.specs.Content.{volume_of}
use Rattle.hfs_volume.specs.Naming.{RemovesLastLink, RemovesLink}
use Rattle.hfs_volume.specs.Records.{Placed, entries_of, id_of, is_file, is_link, is_link_type, placed_in, record_at}
use Rattle.volume_base.specs.Changing.{ChangesCatalog}
use Rattle.volume_base.specs.Lists.{lists_of}
use Rattle.volume_base.specs.Orphans.{with_file_removed}
use Rattle.volume_base.specs.declared.volume.Volume.{Volume}

-- ---- the records

-- the fields of a file that has so many links from this moment on
abbrev pub with_links : (moment links : ℕ) → EntryFields → EntryFields
with_links moment links fields = record fields { special = links; attribute = moment }

-- the record of such a file
abbrev pub relinked : (moment links : ℕ) → CatRecord → Option CatRecord
relinked moment links (Folder folder) = None
relinked moment links (File file) = Some (File (record file { fields = with_links moment links file.fields }))
relinked moment links (Thread thread) = None

-- how many links a file says that it has
abbrev pub links_in : CatRecord → ℕ
links_in (Folder folder) = 0
links_in (File file) = file.fields.special
links_in (Thread thread) = 0

-- it isn't a link
abbrev pub is_plain : CatRecord → Bool
is_plain (Folder folder) = true
is_plain (File file) = not (is_link_type file.fields)
is_plain (Thread thread) = true

-- The file with this CNID is there, and is no link.
pub record HasShared (id : ℕ) (pairs : List Pair) : Type 0 where
  pub entry : Placed
  pub stands : Contains (entries_of (placed_in pairs)) entry
  pub number : id_of entry ≡ id
  pub file : is_file entry.value ≡ true
  pub not_link : is_link entry ≡ false

-- ---- the change
-- The record of a name in a folder isn't there any more, nor is its thread; the header counts a file less and was put.
pub record DropsName (parent : ℕ) (name : List ℕ) (old new : Volume) (before after : Content) : Type 0 where
  pub removes : RemovesEntry parent name (lists_of old before).catalog_pairs (lists_of new after).catalog_pairs
  pub changes : ChangesCatalog old new before after
  pub header : new.header ≡ with_file_removed old.header
  pub headed : header_of_volume after ≡ new.header

-- The file with this CNID says that it has so many links, where it said that it had so many; its attribute date says when. Nothing else of the volume
-- is changed, and the header wasn't put.
pub record SaysLinks (id links had : ℕ) (old new : Volume) (before after : Content) : Type 0 where
  pub marks : ChangesFields id (IsMarkedLinked old.header.modify_date links) (lists_of old before) (lists_of new after)
  pub was : marks.before.special ≡ had
  pub changes : ChangesCatalog old new before after
  pub rest : new ≡ record old { catalog = new.catalog }
  pub headed : header_of_volume after ≡ header_of_volume before

-- The file with this CNID says that it has one link less, and others; its attribute date says when. Nothing else of the volume is changed, and
-- the header wasn't put.
pub record CountsDown (id : ℕ) (old new : Volume) (before after : Content) : Type 0 where
  pub links : ℕ
  pub some : 0 < links
  pub marks : ChangesFields id (IsMarkedLinked old.header.modify_date links) (lists_of old before) (lists_of new after)
  pub was : marks.before.special ≡ links + 1
  pub changes : ChangesCatalog old new before after
  pub rest : new ≡ record old { catalog = new.catalog }
  pub headed : header_of_volume after ≡ header_of_volume before

-- A file lost one of its links, in the lists of the content, and has others.
pub record Unlinks (entry : PlainEntry) (before after : Content) : Type 0 where
  pub removes : RemovesLink entry (volume_of before) (volume_of after)

-- The record at a place is the file's with this CNID, which says that it has one link at most.
pub record IsLastOf (id : ℕ) (file : EntryAt) (pairs : List Pair) : Type 0 where
  pub entry : Placed
  pub found : record_at (placed_in pairs) file.parent file.name ≡ Some entry
  pub number : id_of entry ≡ id
  pub last : links_in entry.value ≤ 1

-- A file lost its last link, in the lists of the content: it waits in the private folder to be removed.
pub record UnlinksLast (entry : PlainEntry) (before after : Content) : Type 0 where
  pub removes : RemovesLastLink entry (volume_of before) (volume_of after)

-- A file lost one of its links.
abbrev pub LosesLink : PlainEntry → Content → Content → Type 0
LosesLink entry before after = Unlinks entry before after ⊎ UnlinksLast entry before after
