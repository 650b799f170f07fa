-- The private folder, made by itself in a volume that has none.
use Rattle.std.specs.Prelude.{◌≡◌, ℕ, ◌+◌, true, Option, None, Some}
use Rattle.jnl_format.specs.Recovery.{header_of_volume}
use Rattle.cat_records.specs.declared.record.CatRecord.{CatRecord}
use Rattle.cat_records.specs.declared.record.CatRecord.TheVariants.{Folder, File, Thread}
use Rattle.cat_records.specs.declared.record.EntryFields.{EntryFields}
use Rattle.hfs_model.specs.Step.{with_private}
use Rattle.hfs_volume.specs.Commands.{ChangesFields, IsRecountedAlone, with_made}
use Rattle.hfs_volume.specs.Content.{VolumeState, volume_of}
use Rattle.hfs_volume.specs.Naming.{MakesPrivate}
use Rattle.hfs_volume.specs.TreeOf.{tree_of}
use Rattle.sector_disk.specs.Lists.{Content}
use Rattle.volume_base.specs.Changing.{ChangesCatalog}
use Rattle.volume_base.specs.Entering.{uncounted}
use Rattle.volume_base.specs.Lists.{lists_of}
use Rattle.volume_base.specs.Standing.{IsSettled}
use Rattle.volume_base.specs.declared.volume.Volume.{Volume}

-- ---- the root, which counts it

-- the fields of a folder to which so many entries came out of sight: no date says so
abbrev pub with_more : (up : ℕ) → EntryFields → EntryFields
with_more up fields = record fields { flags = uncounted fields.flags; count = fields.count + up; rest = 0 }

-- the record of such a folder
abbrev pub recounted : (up : ℕ) → CatRecord → Option CatRecord
recounted up (Folder folder) = Some (Folder (record { fields = with_more up folder.fields }))
recounted up (File file) = None
recounted up (Thread thread) = None

-- The folder with this CNID counts so many entries more, and keeps its dates. Nothing else of the volume is changed, and the header wasn't put.
pub record RecountsFolder (id up : ℕ) (old new : Volume) (before after : Content) : Type 0 where
  pub counts : ChangesFields id (IsRecountedAlone up 0) (lists_of old before) (lists_of new after)
  pub changes : ChangesCatalog old new before after
  pub rest : new ≡ record old { catalog = new.catalog }
  pub headed : header_of_volume after ≡ header_of_volume before

-- ---- the change
-- the lists of a volume whose header counts one folder more, which got the next CNID
abbrev pub with_one_folder : VolumeState → VolumeState
with_one_folder volume = record volume { head = with_made true volume.head }

-- The private folder is made, with the next CNID: the header counts it, and it stands in the root, which has one entry more.
abbrev pub OpensPrivate : VolumeState → VolumeState → Type 0
OpensPrivate old new = MakesPrivate old.head.next_catalog_id old.head.modify_date (with_one_folder old) new

-- A volume has its private folder from now on, and is settled; users see nothing of it.
pub record HasOpened (new : Volume) (before after : Content) : Type 0 where
  pub settled : IsSettled new after
  pub opens : OpensPrivate (volume_of before) (volume_of after)
  pub tree : tree_of after ≡ with_private (tree_of before)
