-- Which records have a spelling: each number fits its field.
use Rattle.std.specs.Prelude.{◌≡◌, ◌^◌, ◌<◌, FitsSigned, length}
use Rattle.std.specs.List.{AllByRecursion}
use Rattle.std.specs.Int.{w16}
use Rattle.hx_bytes.specs.Field.{AreBytes}
use Rattle.hx_bytes.specs.Fork.{FitsFork, FitsExtents}
use Rattle.cat_records.specs.declared.record.EntryFields.{EntryFields}
use Rattle.cat_records.specs.declared.record.ThreadRecord.{ThreadRecord}
use Rattle.cat_records.specs.declared.record.FileRecord.{FileRecord}
use Rattle.cat_records.specs.declared.record.CatRecord.{CatRecord}
use Rattle.cat_records.specs.declared.record.CatRecord.TheVariants.{Folder, File, Thread}
use Rattle.cat_records.specs.declared.attribute.AttrRecord.{AttrRecord}
use Rattle.cat_records.specs.declared.attribute.AttrRecord.TheVariants.{Inline, Fork, More}

-- each number of a folder's or a file's fields fits its bits
pub record FitsEntry (fields : EntryFields) : Type 0 where
  pub flags : fields.flags < 2 ^ 16
  pub count : fields.count < 2 ^ 32
  pub id : fields.id < 2 ^ 32
  pub created : fields.created < 2 ^ 32
  pub changed : fields.changed < 2 ^ 32
  pub attribute : fields.attribute < 2 ^ 32
  pub accessed : fields.accessed < 2 ^ 32
  pub backup : fields.backup < 2 ^ 32
  pub owner : fields.owner < 2 ^ 32
  pub group : fields.group < 2 ^ 32
  pub admin_flags : fields.admin_flags < 2 ^ 8
  pub owner_flags : fields.owner_flags < 2 ^ 8
  pub mode : fields.mode < 2 ^ 16
  pub special : fields.special < 2 ^ 32
  pub finder_length : length fields.finder ≡ 32
  pub finder : AreBytes fields.finder
  pub encoding : fields.encoding < 2 ^ 32
  pub rest : fields.rest < 2 ^ 32

-- the fields and both forks fit
pub record FitsFile (file : FileRecord) : Type 0 where
  pub fields : FitsEntry file.fields
  pub data_fork : FitsFork file.data_fork
  pub resource_fork : FitsFork file.resource_fork

-- each number fits its bits, and so does the number of units
pub record FitsThread (thread : ThreadRecord) : Type 0 where
  pub spare : FitsSigned w16 thread.spare
  pub parent : thread.parent < 2 ^ 32
  pub long : length thread.name < 2 ^ 16
  pub units : AllByRecursion (λ unit. unit < 2 ^ 16) thread.name

-- a catalog record fits its fields
abbrev pub FitsRecord : CatRecord → Type 0
FitsRecord (Folder folder) = FitsEntry folder.fields
FitsRecord (File file) = FitsFile file
FitsRecord (Thread thread) = FitsThread thread

-- an attribute record fits its fields
abbrev pub FitsAttr : AttrRecord → Type 0
FitsAttr (Inline value) = length value < 2 ^ 32
FitsAttr (Fork fork) = FitsFork fork
FitsAttr (More extents) = FitsExtents extents
