-- Which files macOS keeps compressed, by the flags of their records.
use Rattle.std.specs.Prelude.{◌≡◌, ◌==◌, ◌/◌, ◌%◌, ℕ, Bool, false, List, Contains, Result, Ok, Err, if◌then◌else◌}
use Rattle.cat_records.specs.declared.record.CatRecord.TheVariants.{File}
use Rattle.cat_records.specs.declared.record.FileRecord.{FileRecord}
use Rattle.jnl_format.specs.Recovery.{Content}
use Rattle.hfs_language.specs.declared.refusal.Refusal.{Refusal}
use Rattle.hfs_language.specs.declared.refusal.Refusal.TheVariants as refusal
use Rattle.hfs_model.specs.Step.{is_private_path, to_file}
use Rattle.hfs_model.specs.declared.plain.PlainNode.{PlainNode}
use Rattle.hfs_model.specs.declared.plain.PlainTree.{PlainTree}
use Rattle.hfs_volume.specs.Content.{VolumeState, records_of, volume_of}
use Rattle.hfs_volume.specs.Records.{Placed, entries_of}
use Rattle.hfs_volume.specs.TreeOf.{tree_of}

-- its owner's flags have the bit 0x20, by which macOS keeps a file's bytes compressed
abbrev pub is_compressed : FileRecord → Bool
is_compressed file = file.fields.owner_flags / 32 % 2 == 1

-- This is said of a file of the tree, by its record.
pub record IsSaidOf (volume : VolumeState) (node : PlainNode) (said : Bool) : Type 0 where
  pub file : FileRecord
  pub entry : Placed
  pub stands : Contains (entries_of (records_of volume)) entry
  pub value : entry.value ≡ File file
  pub id : node.id ≡ file.fields.id
  pub is : said ≡ is_compressed file

-- it is said of the file that was found, and where there is none, that it isn't one
abbrev pub IsSaidOfFound : VolumeState → Result PlainNode Refusal → Bool → Type 0
IsSaidOfFound volume (Ok node) said = IsSaidOf volume node said
IsSaidOfFound volume (Err why) said = said ≡ false

-- the file that users see under a path
abbrev pub file_seen : PlainTree → List (List ℕ) → Result PlainNode Refusal
file_seen tree path = if is_private_path path then Err refusal.Private else to_file tree path

-- whether the file of a path is one that macOS keeps compressed, by its record as it stands in this content
abbrev pub IsCompressedAs : Content → List (List ℕ) → Bool → Type 0
IsCompressedAs content path said = IsSaidOfFound (volume_of content) (file_seen (tree_of content) path) said
