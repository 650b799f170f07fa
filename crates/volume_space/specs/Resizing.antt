-- `trunc` where it puts no data: to the size that a file has, or to a smaller one.
use Rattle.std.specs.Prelude.{◌≡◌, ◌≤◌, ℕ, Bool, is_some, List, [], length, Option, None, Some, Ok}
use Rattle.jnl_format.specs.Recovery.{Content}
use Rattle.cat_records.specs.declared.record.CatRecord.{CatRecord}
use Rattle.cat_records.specs.declared.record.CatRecord.TheVariants.{Folder, File, Thread}
use Rattle.hfs_language.specs.declared.command.Command.TheVariants as command
use Rattle.hfs_model.specs.Step.{to_trunc}
use Rattle.hfs_model.specs.declared.plain.PlainNode.{PlainNode}
use Rattle.hfs_model.specs.declared.plain.PlainTree.{PlainTree}
use Rattle.hfs_volume.specs.Content.{volume_of}
use Rattle.hfs_volume.specs.Reclaim.{blocks_at}
use Rattle.hfs_volume.specs.TreeOf.{tree_of}
use Rattle.hfs_volume.specs.Weight.{data_of}
use Rattle.hfs_volume.specs.Writing.{RewritesFile}
use Rattle.volume_base.specs.Changing.{ReplacesRecord}
use Rattle.volume_base.specs.declared.entries.Entry.{Entry}
use Rattle.volume_base.specs.declared.volume.Volume.{Volume}

-- the record of a file that got this size at this moment, in the blocks that it has
abbrev pub with_size : (moment size : ℕ) → CatRecord → Option CatRecord
with_size moment size (Folder folder) = None
with_size moment size (File file) = Some (File (record file { fields = record file.fields { changed = moment; attribute = moment }; data_fork = record file.data_fork { logical_size = size } }))
with_size moment size (Thread thread) = None

-- It has this size, set at this moment.
pub record SetsSize (moment size : ℕ) (entry : Entry) (old new : Volume) (before after : Content) : Type 0 where
  pub rec : CatRecord
  pub made : with_size moment size entry.rec ≡ Some rec
  pub replaces : ReplacesRecord entry rec old new before after

-- The file that a path stands for got a size that isn't larger than its own: its record alone is another one, and every fork has the blocks
-- that it had.
pub record IsShortened (path : List (List ℕ)) (size : ℕ) (before after : Content) : Type 0 where
  pub file : PlainNode
  pub allowed : to_trunc (tree_of before) path size ≡ Ok file
  pub short : size ≤ length file.bytes
  pub rewrites : RewritesFile file.id 0 0 [] (volume_of before) (volume_of after)
  pub blocks : (id kind : ℕ) → blocks_at (volume_of after) id kind ≡ blocks_at (volume_of before) id kind

-- whether `trunc` to this size puts data: the file is shorter
abbrev pub puts_data : PlainTree → List (List ℕ) → ℕ → Bool
puts_data tree path size = is_some (data_of tree (command.Trunc path size))
