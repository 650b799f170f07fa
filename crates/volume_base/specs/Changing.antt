-- What a command that changes the catalog and the numbers of the header does to a volume.
use Rattle.std.specs.Prelude.{◌≡◌, ◌⊎◌, ◌<◌, ◌≤◌, ℕ, ◌+◌, ◌*◌, ◌/◌, ◌^◌, IsTrue, true, List}
use Rattle.std.specs.List.{Contains}
use Rattle.btree_file.specs.State.{sectors_of_tree}
use Rattle.btree_node.specs.Levels.{Pair}
use Rattle.jnl_format.specs.Recovery.{header_of_volume}
use Rattle.cat_records.specs.declared.record.CatRecord.{CatRecord}
use Rattle.catalog.specs.Entries.{UpdatesEntry}
use Rattle.hfs_volume.specs.Changes.{with_numbers}
use Rattle.hfs_volume.specs.Commands.{ChangesFields, IsTouched}
use Rattle.hfs_volume.specs.Records.{Placed, entries_of, id_of, is_folder, placed_in, valence_in}
use Rattle.sector_disk.specs.Lists.{Content}
use Rattle.sector_disk.specs.Space.{Space, AgreesOutside}
use Rattle.volume_base.specs.Lists.{lists_of, facts_on}
use Rattle.volume_base.specs.declared.entries.Entry.{Entry}
use Rattle.volume_base.specs.declared.volume.Volume.{Volume}

-- The catalog and the numbers of the header may have changed, and no sector but theirs. All else of the volume is as it was.
pub record ChangesCatalog (old new : Volume) (before after : Content) : Type 0 where
  pub lists : lists_of new after ≡ record (lists_of old before) { head = new.header; catalog_pairs = (lists_of new after).catalog_pairs; catalog_tree = facts_on new.catalog.file }
  pub numbers : new.header ≡ with_numbers old.header new.header
  pub map : new.map ≡ old.map
  pub extents : new.extents ≡ old.extents
  pub attributes : new.attributes ≡ old.attributes
  pub private : new.private ≡ old.private
  pub catalog : sectors_of_tree new.catalog.file ≡ sectors_of_tree old.catalog.file
  pub nodes : (new.catalog.file.shape.total ≡ old.catalog.file.shape.total) × (new.catalog.file.shape.node_size ≡ old.catalog.file.shape.node_size)
  pub outside : AgreesOutside (λ s. (s ≡ 2) ⊎ Contains (sectors_of_tree old.catalog.file) s) before after

-- The blocks in use, the file shrunk last and the capacity are as they were.
pub record KeepsBlocks (old new : Volume) : Type 0 where
  pub map : new.map ≡ old.map
  pub shrunk : new.shrunk ≡ old.shrunk
  pub capacity : new.capacity ≡ old.capacity

-- The header was put: the content has it, and the volume's lists over it are as they were.
pub record PutsHeader (volume : Volume) (before after : Content) : Type 0 where
  pub headed : header_of_volume after ≡ volume.header
  pub lists : lists_of volume after ≡ lists_of volume before
  pub changes : ChangesCatalog volume volume before after

-- The sectors of a node of the catalog.
abbrev pub catalog_node : Volume → ℕ
catalog_node volume = volume.catalog.file.shape.node_size / 512

-- Where the space tells, there is room to put a node of the catalog.
pub record HasRoomToUpdate (volume : Volume) (space : Space) : Type 0 where
  pub told : IsTrue space.tells → catalog_node volume ≤ space.spare

-- Where the space tells, there is room to update so many records in place, one after another.
pub record HasRoomToUpdates (many : ℕ) (volume : Volume) (space : Space) : Type 0 where
  pub told : IsTrue space.tells → many * catalog_node volume ≤ space.spare

-- A folder or file has another record where it stands, and nothing else of the volume is changed; the header wasn't put.
pub record ReplacesRecord (entry : Entry) (rec : CatRecord) (old new : Volume) (before after : Content) : Type 0 where
  pub updates : UpdatesEntry entry.parent entry.name rec (lists_of old before).catalog_pairs (lists_of new after).catalog_pairs
  pub changes : ChangesCatalog old new before after
  pub rest : new ≡ record old { catalog = new.catalog }
  pub headed : header_of_volume after ≡ header_of_volume before

-- The folder with this CNID is there, and can count so many entries more.
pub record HasFolder (id up : ℕ) (pairs : List Pair) : Type 0 where
  pub entry : Placed
  pub stands : Contains (entries_of (placed_in pairs)) entry
  pub number : id_of entry ≡ id
  pub folder : is_folder entry.value ≡ true
  pub fits : valence_in entry.value + up < 2 ^ 32

-- The folder with this CNID counts so many entries more and so many less, at the volume's moment. Nothing else of the volume is changed, and
-- the header wasn't put.
pub record TouchesFolder (id up down : ℕ) (old new : Volume) (before after : Content) : Type 0 where
  pub counts : ChangesFields id (IsTouched old.header.modify_date up down) (lists_of old before) (lists_of new after)
  pub changes : ChangesCatalog old new before after
  pub rest : new ≡ record old { catalog = new.catalog }
  pub headed : header_of_volume after ≡ header_of_volume before
