-- `ln`: what the first link of a file does to a volume.
use Rattle.std.specs.Prelude.{◌≡◌, ℕ, ◌+◌, List}
use Rattle.sector_disk.specs.Lists.{Content}
use Rattle.jnl_format.specs.Recovery.{header_of_volume}
use Rattle.volume_header.specs.declared.header.VolumeHeader.{VolumeHeader}
use Rattle.cat_records.specs.declared.record.CatRecord.TheVariants.{File}
use Rattle.catalog.specs.Entries.{RelocatesEntry}
use Rattle.hard_links.specs.Linking.{link_record}
use Rattle.hfs_volume.specs.Changes.{AddsEntry}
use Rattle.hfs_volume.specs.Commands.{entry_in, with_counts}
use Rattle.hfs_volume.specs.Links.{node_name}
use Rattle.volume_base.specs.Changing.{ChangesCatalog}
use Rattle.volume_base.specs.Lists.{lists_of}
use Rattle.volume_base.specs.Making.{free_place}
use Rattle.volume_base.specs.Standing.{HoldsTrees}
use Rattle.volume_base.specs.declared.volume.Volume.{Volume}

-- the header after two links got the next CNIDs
abbrev pub with_two_made : VolumeHeader → VolumeHeader
with_two_made head = with_counts (head.next_catalog_id + 2) (head.file_count + 2) head.folder_count head

-- A file stands in the private folder under a number, with its thread; the header counts two links and was put.
pub record SharesFile (parent : ℕ) (name : List ℕ) (private reference : ℕ) (old new : Volume) (before after : Content) : Type 0 where
  pub moves : RelocatesEntry parent name private (node_name reference) (lists_of old before).catalog_pairs (lists_of new after).catalog_pairs
  pub changes : ChangesCatalog old new before after
  pub header : new.header ≡ with_two_made old.header
  pub headed : header_of_volume after ≡ new.header

-- A link with this CNID, to the file with a number, stands in a folder under a name, with its thread. Nothing else of the volume is changed, and the
-- header wasn't put.
pub record PutsLink (folder : ℕ) (name : List ℕ) (id reference created : ℕ) (old new : Volume) (before after : Content) : Type 0 where
  pub adds : AddsEntry (entry_in (free_place folder name) (File (link_record id reference created))) (lists_of old before).catalog_pairs (lists_of new after).catalog_pairs
  pub changes : ChangesCatalog old new before after
  pub rest : new ≡ record old { catalog = new.catalog }
  pub headed : header_of_volume after ≡ header_of_volume before

-- A file stands in the private folder under a number, and links to it have its old name and a new one.
pub record LinksBoth (parent : ℕ) (old : List ℕ) (private number folder : ℕ) (name : List ℕ) (created : ℕ) (from to : Volume) (before after : Content) : Type 0 where
  pub moved : Volume
  pub moved_in : Content
  pub shares : SharesFile parent old private number from moved before moved_in
  pub holds_moved : HoldsTrees moved moved_in
  pub replaced : Volume
  pub replaced_in : Content
  pub one : PutsLink parent old from.header.next_catalog_id number created moved replaced moved_in replaced_in
  pub holds_replaced : HoldsTrees replaced replaced_in
  pub two : PutsLink folder name (from.header.next_catalog_id + 1) number created replaced to replaced_in after
  pub holds : HoldsTrees to after
