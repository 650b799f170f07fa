-- `ln`: the name that a file has, the place of the new one, and what a link does to a volume.
use Rattle.std.specs.Prelude.{◌≡◌, ℕ, true, false, List, Option, Some, None, Ok, if◌then◌else◌}
use Rattle.btree_node.specs.Levels.{Pair}
use Rattle.cat_records.specs.declared.record.CatRecord.{CatRecord}
use Rattle.cat_records.specs.declared.record.CatRecord.TheVariants.{Folder, File, Thread}
use Rattle.hfs_model.specs.Step.{Place, is_private_path, last_name, to_ln, to_make}
use Rattle.hfs_model.specs.declared.plain.PlainEntry.{PlainEntry}
use Rattle.hfs_model.specs.declared.plain.PlainTree.{PlainTree}
use Rattle.hfs_volume.specs.Records.{Placed, is_empty, is_link, is_link_type, placed_in, record_at, special_of}
use Rattle.volume_base.specs.Making.{free_place}
use Rattle.volume_base.specs.declared.linking.NameRecord.{NameRecord}
use Rattle.volume_base.specs.declared.linking.NameRecord.TheVariants as kind

-- ---- the name

-- what the record under a name is: a link with the number of its file, a file's own, or neither
abbrev pub name_record : Option CatRecord → NameRecord
name_record None = kind.Other
name_record (Some (Folder folder)) = kind.Other
name_record (Some (File file)) = if is_link_type file.fields then kind.Link file.fields.special else kind.Own
name_record (Some (Thread thread)) = kind.Other

-- The record of this name in this folder is that of a link to the file with this number.
pub record IsLinkTo (parent : ℕ) (name : List ℕ) (reference : ℕ) (pairs : List Pair) : Type 0 where
  pub entry : Placed
  pub found : record_at (placed_in pairs) parent name ≡ Some entry
  pub is_one : is_link entry ≡ true
  pub number : special_of entry ≡ reference

-- on a tree, what the first path stands for may get the name that the second one says
abbrev pub MayLink : PlainTree → List (List ℕ) → List (List ℕ) → PlainEntry × Place → Type 0
MayLink tree from to pair = to_ln tree from to ≡ Ok pair

-- A link is allowed on a tree: another name for the file with this CNID, of which this is a name, in this folder.
pub record IsLinking (tree : PlainTree) (from to : List (List ℕ)) (at : PlainEntry) (parent : ℕ) (old : List ℕ) (id folder : ℕ) (name : List ℕ) : Type 0 where
  pub goal_not_own : is_private_path to ≡ false
  pub goal_named : is_empty (last_name to) ≡ false
  pub allowed : to_ln tree from to ≡ Ok (at, free_place folder name)
  pub can_make : to_make tree to ≡ Ok (free_place folder name)
  pub place : (at.parent ≡ parent) × (at.name ≡ old)
  pub number : at.id ≡ id
