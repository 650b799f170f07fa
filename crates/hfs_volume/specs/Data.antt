-- What becomes of a file's blocks where data is put into it.
use Rattle.hfs_language.specs.declared.command.Command.TheVariants as command
use Rattle.hfs_language.specs.declared.command.Command.{Command}
use Rattle.hfs_language.specs.declared.refusal.Refusal.{Refusal}
use Rattle.hfs_model.specs.declared.plain.PlainAttribute.{PlainAttribute}
use Rattle.hfs_model.specs.declared.plain.PlainEntry.{PlainEntry}
use Rattle.hfs_model.specs.declared.plain.PlainNode.{PlainNode}
use Rattle.hfs_model.specs.declared.plain.PlainTree.{PlainTree}
use Rattle.hfs_model.specs.Step.{to_set, to_attribute, to_rmdir}
use Rattle.hfs_volume.specs.Values.{value_blocks}
use Rattle.std.specs.Str.{bytes_eq}
use Rattle.std.specs.Prelude.{◌≡◌, ◌≢◌, ◌⊎◌, ◌<◌, ℕ, ◌+◌, false, List, ◌++◌, length, take, drop, All, Option, Some, None, ◌==◌, ◌&&◌, Bool, [], Result, Ok, Err}
use Rattle.alloc_bitmap.specs.Apart.{AreApart}
use Rattle.hfs_volume.specs.Forks.{data_kind}
use Rattle.hfs_volume.specs.Content.{VolumeState, is_set, attributes_of}
use Rattle.hfs_volume.specs.Weight.{Data, first_block, new_blocks_of, old_blocks_of, blocks_for_value}
use Rattle.hfs_volume.specs.Reclaim.{IsTreeFork, blocks_at, SameValues}

-- blocks that were free, each once
pub record AreFresh (volume : VolumeState) (blocks : List ℕ) : Type 0 where
  pub inside : All (λ block. block < volume.head.total_blocks) blocks
  pub free : All (λ block. is_set volume block ≡ false) blocks
  pub once : AreApart blocks

-- New blocks stand in place of the old ones of a fork from the first that is written on.
pub record PutsDataIn (kind : ℕ) (put : Data) (old new : VolumeState) : Type 0 where
  pub fresh : List ℕ
  pub are_fresh : AreFresh old fresh
  pub many : length fresh ≡ new_blocks_of old.head.block_size put
  pub is : blocks_at new put.id kind
      ≡ take (first_block old.head.block_size put) (blocks_at old put.id kind)
      ++ (fresh ++ drop (first_block old.head.block_size put + old_blocks_of old.head.block_size put) (blocks_at old put.id kind))

-- what becomes of the forks of files: the one of this kind that data is put into has it, and all others have the blocks that they had
abbrev pub PutsInForkOf : ℕ → Option Data → VolumeState → VolumeState → Type 0
PutsInForkOf fork None old new = (id kind : ℕ) → ¬ IsTreeFork id → blocks_at new id kind ≡ blocks_at old id kind
PutsInForkOf fork (Some put) old new = PutsDataIn fork put old new × ((id kind : ℕ) → ¬ IsTreeFork id → (id ≢ put.id) ⊎ (kind ≢ fork) → blocks_at new id kind ≡ blocks_at old id kind)

-- the same of a data fork
abbrev pub PutsData : Data → VolumeState → VolumeState → Type 0
PutsData put old new = PutsDataIn data_kind put old new

-- the same where the data goes into a data fork
abbrev pub PutsInFork : Option Data → VolumeState → VolumeState → Type 0
PutsInFork put old new = PutsInForkOf data_kind put old new

-- ---- the values of attributes

-- The value of this attribute has so many blocks that were free, in place of all that it had.
pub record PutsValue (id : ℕ) (name : List ℕ) (count : ℕ) (old new : VolumeState) : Type 0 where
  pub fresh : List ℕ
  pub are_fresh : AreFresh old fresh
  pub many : length fresh ≡ count
  pub is : value_blocks (attributes_of new) id name ≡ fresh

-- all values but those of these attributes have the blocks that they had
abbrev pub KeepsValuesBut : (ℕ → List ℕ → Bool) → VolumeState → VolumeState → Type 0
KeepsValuesBut changed old new = (id : ℕ) (name : List ℕ) → changed id name ≡ false → value_blocks (attributes_of new) id name ≡ value_blocks (attributes_of old) id name

-- this attribute
abbrev pub is_this : ℕ → List ℕ → ℕ → List ℕ → Bool
is_this id name other other_name = (other == id) && bytes_eq other_name name

-- A value that is set has the number of blocks that its bytes need, and all others keep theirs; where the command is refused, all do.
abbrev pub SetsValueBlocks : List ℕ → ℕ → Result PlainNode Refusal → VolumeState → VolumeState → Type 0
SetsValueBlocks name long (Ok node) old new = PutsValue node.id name (blocks_for_value old.head.block_size long) old new × KeepsValuesBut (is_this node.id name) old new
SetsValueBlocks name long (Err why) old new = SameValues old new

-- An attribute that is deleted has no block any more, and all others keep theirs; where the command is refused, all do.
abbrev pub DropsValueBlocks : List ℕ → Result (PlainNode × PlainAttribute) Refusal → VolumeState → VolumeState → Type 0
DropsValueBlocks name (Ok pair) old new = (value_blocks (attributes_of new) pair.0.id name ≡ []) × KeepsValuesBut (is_this pair.0.id name) old new
DropsValueBlocks name (Err why) old new = SameValues old new

-- The attributes of a folder that is removed have no block any more, and all others keep theirs; where the command is refused, all do.
abbrev pub DropsFolderBlocks : Result PlainEntry Refusal → VolumeState → VolumeState → Type 0
DropsFolderBlocks (Ok entry) old new = ((name : List ℕ) → value_blocks (attributes_of new) entry.id name ≡ []) × KeepsValuesBut (λ id name. id == entry.id) old new
DropsFolderBlocks (Err why) old new = SameValues old new

-- What becomes of the blocks of values: a value that is set has new ones, one that is dropped has none, and all others have theirs.
abbrev pub PutsInValues : PlainTree → Command → VolumeState → VolumeState → Type 0
PutsInValues tree (command.SetAttr path name value) old new = SetsValueBlocks name (length value) (to_set tree path value) old new
PutsInValues tree (command.DelAttr path name) old new = DropsValueBlocks name (to_attribute tree path name) old new
PutsInValues tree (command.Rmdir path) old new = DropsFolderBlocks (to_rmdir tree path) old new
PutsInValues tree _ old new = SameValues old new
