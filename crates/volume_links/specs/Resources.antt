-- The resource fork that `rwrite` puts bytes into.
use Rattle.std.specs.Prelude.{◌≡◌, ◌≤◌, ℕ, ◌+◌, ◌||◌, nat_lt, Bool, false, List, length, Some, Result, Ok, Err, if◌then◌else◌}
use Rattle.cat_records.specs.declared.record.FileRecord.{FileRecord}
use Rattle.jnl_format.specs.Recovery.{Content}
use Rattle.hfs_language.specs.declared.refusal.Refusal.{Refusal}
use Rattle.hfs_language.specs.declared.refusal.Refusal.TheVariants as refusal
use Rattle.hfs_language.specs.declared.reply.Reply.TheVariants as reply
use Rattle.hfs_model.specs.Kinds.{kind_told}
use Rattle.hfs_model.specs.Step.{is_private_path, most_bytes, most_size, to_write}
use Rattle.hfs_model.specs.declared.kinds.KindEdit.TheVariants as edit
use Rattle.hfs_model.specs.declared.plain.PlainNode.{PlainNode}
use Rattle.hfs_model.specs.declared.plain.PlainTree.{PlainTree}
use Rattle.hfs_model.specs.declared.kinds.KindEdit.{KindEdit}
use Rattle.hfs_volume.specs.Content.{volume_of}
use Rattle.hfs_volume.specs.Data.{PutsInForkOf}
use Rattle.hfs_volume.specs.Forks.{resource_kind}
use Rattle.hfs_volume.specs.KindWeight.{kind_data_of}
use Rattle.hfs_volume.specs.TreeOf.{tree_of}
use Rattle.hfs_volume.specs.Weight.{Data, first_block, needs_cut_in, old_blocks_of}
use Rattle.hfs_volume.specs.Writing.{RewritesFork}
use Rattle.volume_links.specs.declared.resources.Resource.{Resource}

-- so many bytes from a place on are more than a fork or a command may have
abbrev pub is_too_large : ℕ → ℕ → Bool
is_too_large from long = nat_lt most_size (from + long) || nat_lt most_bytes long

-- the resource fork of a file into which so many bytes go, or what stands against them
abbrev pub resource_found : ℕ → ℕ → FileRecord → Result Resource Refusal
resource_found from long file = if is_too_large from long then Err refusal.TooLarge else Ok (record { id = file.fields.id; size = file.resource_fork.logical_size })

-- The fork is that of a file of the tree against which nothing stands.
pub record IsResourceOf (tree : PlainTree) (path : List (List ℕ)) (from : ℕ) (value : List ℕ) (fork : Resource) : Type 0 where
  pub file : PlainNode
  pub not_own : is_private_path path ≡ false
  pub allowed : to_write tree path from value ≡ Ok file
  pub id : file.id ≡ fork.id
  pub size : length file.resource ≡ fork.size

-- A file has the data of an `rwrite` in its resource fork: it has fresh blocks in place of those from the first that is written on, its size and its
-- dates are others, and the header counts the free blocks anew; nothing else of the lists is changed, and of all forks this one alone has other blocks.
pub record HasResourceData (asked : KindEdit) (before after : Content) : Type 0 where
  pub put : Data
  pub is_asked : kind_data_of (tree_of before) asked ≡ Some put
  pub no_cut : needs_cut_in resource_kind (volume_of before) (Some put) ≡ false
  pub fresh : List ℕ
  pub rewrites : RewritesFork put.id resource_kind (first_block (volume_of before).head.block_size put) (old_blocks_of (volume_of before).head.block_size put) fresh (volume_of before) (volume_of after)
  pub forks : PutsInForkOf resource_kind (Some put) (volume_of before) (volume_of after)
  pub user : 16 ≤ put.id

-- it was found, or the command is refused for this reason, which keeps the tree
abbrev pub IsToldResource : PlainTree → List (List ℕ) → ℕ → List ℕ → Result Resource Refusal → Type 0
IsToldResource tree path from value (Ok fork) = IsResourceOf tree path from value fork
IsToldResource tree path from value (Err why) = kind_told tree (edit.ResourceWrite path from value) ≡ (reply.No why, tree)
