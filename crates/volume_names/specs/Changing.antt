-- What a command that changes the catalog and the numbers of the header does to a volume.
use Rattle.std.specs.Prelude.{◌≡◌, ℕ, List, Some}
use Rattle.std.specs.List.{Contains}
use Rattle.btree_node.specs.Levels.{Pair}
use Rattle.jnl_format.specs.Recovery.{header_of_volume}
use Rattle.cat_records.specs.declared.record.CatRecord.{CatRecord}
use Rattle.hfs_volume.specs.Commands.{ChangesFields, IsMarkedAlone}
use Rattle.hfs_volume.specs.Records.{Placed, entries_of, id_of, placed_in}
use Rattle.sector_disk.specs.Lists.{Content}
use Rattle.volume_names.specs.Entering.{with_mode}
use Rattle.volume_base.specs.Lists.{lists_of}
use Rattle.volume_base.specs.declared.entries.Entry.{Entry}
use Rattle.volume_base.specs.declared.volume.Volume.{Volume}
use Rattle.volume_base.specs.Changing.{ChangesCatalog, ReplacesRecord}

-- It has these rights, set at this moment.
pub record SetsRights (moment rights : ℕ) (entry : Entry) (old new : Volume) (before after : Content) : Type 0 where
  pub rec : CatRecord
  pub made : with_mode moment rights entry.rec ≡ Some rec
  pub replaces : ReplacesRecord entry rec old new before after

-- The folder or file with this CNID is there.
pub record HasEntry (id : ℕ) (pairs : List Pair) : Type 0 where
  pub entry : Placed
  pub stands : Contains (entries_of (placed_in pairs)) entry
  pub number : id_of entry ≡ id

-- Something was done at the volume's moment to the folder or file with this CNID, but not to what it holds: its attribute date says so. Nothing
-- else of the volume is changed, and the header wasn't put.
pub record DatesEntry (id : ℕ) (old new : Volume) (before after : Content) : Type 0 where
  pub dates : ChangesFields id (IsMarkedAlone old.header.modify_date) (lists_of old before) (lists_of new after)
  pub changes : ChangesCatalog old new before after
  pub rest : new ≡ record old { catalog = new.catalog }
  pub headed : header_of_volume after ≡ header_of_volume before
