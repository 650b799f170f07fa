-- A folder that is removed: where it stands, the room for its edits, and what its removal does to a volume.
use Rattle.std.specs.Prelude.{◌≡◌, ℕ, ◌+◌, List, Ok, if◌then◌else◌}
use Rattle.sector_disk.specs.Lists.{Content}
use Rattle.sector_disk.specs.Space.{Space}
use Rattle.hfs_model.specs.Step.{to_rmdir}
use Rattle.hfs_model.specs.declared.plain.PlainEntry.{PlainEntry}
use Rattle.hfs_model.specs.declared.plain.PlainTree.{PlainTree}
use Rattle.hfs_language.specs.declared.command.Command.TheVariants as command
use Rattle.hfs_volume.specs.Content.{volume_of}
use Rattle.hfs_volume.specs.Data.{PutsInValues}
use Rattle.hfs_volume.specs.TreeOf.{tree_of}
use Rattle.volume_base.specs.Removing.{TakesFolder}

-- on a tree, what a path stands for is this folder, and it may be removed
abbrev pub MayRemove : PlainTree → List (List ℕ) → PlainEntry → Type 0
MayRemove tree path entry = to_rmdir tree path ≡ Ok entry

-- The folder that a path stands for was removed, in the lists of the content.
pub record HasRemoved (path : List (List ℕ)) (before after : Content) : Type 0 where
  pub entry : PlainEntry
  pub allowed : to_rmdir (tree_of before) path ≡ Ok entry
  pub takes : TakesFolder entry.id (volume_of before) (volume_of after)
  pub values : PutsInValues (tree_of before) (command.Rmdir path) (volume_of before) (volume_of after)

-- the space, with a sector more to spare where the header was put since the last commit: put again, it takes none
abbrev pub counting_header : Space → Space
counting_header space = record space { spare = space.spare + (if space.put 2 then 1 else 0) }
