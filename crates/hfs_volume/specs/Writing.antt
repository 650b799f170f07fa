-- What `write`, `trunc` and the steps that cut a file do to the lists of a volume, and what the growth of a tree does: the changes that their
-- code hands in, and what they lead to.
use Rattle.std.specs.Prelude.{◌≡◌, ◌≢◌, ◌⊎◌, ◌<◌, ◌≤◌, ℕ, ◌+◌, ◌/◌, ◌==◌, false, List, [], length, take, Contains, Some, None, Ok, if◌then◌else◌}
use Rattle.sector_disk.specs.Space.{AgreesOutside}
use Rattle.hx_bytes.specs.Field.{put_at}
use Rattle.jnl_format.specs.Recovery.{Content, header_of_volume}
use Rattle.cat_records.specs.declared.record.EntryFields.{EntryFields}
use Rattle.cat_records.specs.declared.record.FileRecord.{FileRecord}
use Rattle.cat_records.specs.declared.record.CatRecord.TheVariants.{File}
use Rattle.hfs_language.specs.declared.command.Command.TheVariants as command
use Rattle.hfs_model.specs.declared.plain.PlainNode.{PlainNode}
use Rattle.hfs_model.specs.Step.{step, to_write, to_trunc, padded}
use Rattle.hfs_volume.specs.Records.{Placed, entries_of, id_of}
use Rattle.hfs_volume.specs.Forks.{Owned, data_kind, blocks_owned, per_block_of, reserved_blocks, special_forks}
use Rattle.hfs_volume.specs.Links.{orphans_of}
use Rattle.hfs_volume.specs.Content.{VolumeState, volume_of, records_of, attributes_of, overflow_in_volume}
use Rattle.hfs_volume.specs.Blocks.{forks_of}
use Rattle.hfs_volume.specs.Reclaim.{IsTreeFork, GrowsTree, CutsAlone, Does, CutOrphan, blocks_at, blocks_wanted, is_fork, SameValues}
use Rattle.hfs_volume.specs.Data.{PutsInFork, PutsInForkOf}
use Rattle.hfs_volume.specs.Weight.{Data, first_block, new_blocks_of, old_blocks_of}
use Rattle.hfs_volume.specs.Aside.{IsFreeSector}
use Rattle.hfs_volume.specs.Sound.{IsSound, IsSoundVolume}
use Rattle.hfs_volume.specs.TreeOf.{tree_in, bytes_in, bytes_in_fork, valued, BytesOf, ForkBytes}
use Rattle.hfs_volume.specs.Changes.{PutsBlocks, GrowsFile, with_fork, with_free}
use Rattle.hfs_volume.specs.Commands.{AreBytesOf, ChangesFields, IsTouched}
use Rattle.hfs_volume.specs.Laws.{IsUserFile}

-- ---- the changes

-- Some blocks of a file's fork have fresh ones in their place, and the header counts the free blocks anew.
pub record PutsAndCounts (id kind from count : ℕ) (fresh : List ℕ) (old new : VolumeState) : Type 0 where
  pub free : ℕ
  pub next : ℕ
  pub counts : free + length fresh ≡ old.head.free_blocks + count
  pub puts : PutsBlocks id kind from count fresh (record old { head = with_free free next old.head }) new

-- A file after its bytes changed at this moment. Its special word is as it was.
pub record IsRewritten (moment : ℕ) (before after : EntryFields) : Type 0 where
  pub touched : IsTouched moment 0 0 before after
  pub special : after.special ≡ before.special

-- Some blocks of a file's fork have fresh ones in their place, the header counts the free blocks anew, and the file has new content and
-- attribute dates.
pub record RewritesFork (id kind from count : ℕ) (fresh : List ℕ) (old new : VolumeState) : Type 0 where
  pub put : VolumeState
  pub puts : PutsAndCounts id kind from count fresh old put
  pub dates : ChangesFields id (IsRewritten old.head.modify_date) put new

-- `write` and `trunc` do so with the data fork
abbrev pub RewritesFile : (id from count : ℕ) → List ℕ → VolumeState → VolumeState → Type 0
RewritesFile id from count fresh old new = RewritesFork id data_kind from count fresh old new

-- the record of the file before its fork is another one, and after it
abbrev pub file_before : {id kind from count : ℕ} {fresh : List ℕ} {old new : VolumeState} → PutsAndCounts id kind from count fresh old new → FileRecord
file_before puts = puts.puts.file.file

abbrev pub file_after : {id kind from count : ℕ} {fresh : List ℕ} {old new : VolumeState} → PutsAndCounts id kind from count fresh old new → FileRecord
file_after {id} {kind} puts = with_fork kind puts.puts.file.fork puts.puts.file.file

-- all values of attributes have the bytes that they had
abbrev pub KeepsValues : VolumeState → BytesOf → BytesOf → Type 0
KeepsValues volume bytes_of bytes_after = valued bytes_after (attributes_of volume) ≡ valued bytes_of (attributes_of volume)

-- all files but this one have the bytes that they had
abbrev pub KeepsFiles : ℕ → VolumeState → BytesOf → BytesOf → Type 0
KeepsFiles id volume bytes_of bytes_after = (p : Placed) (file : FileRecord) → Contains (entries_of (records_of volume)) p → p.value ≡ File file → id_of p ≢ id → bytes_after.file file ≡ bytes_of.file file

-- all files but this one and all values have the bytes that they had
abbrev pub KeepsOthers : ℕ → VolumeState → BytesOf → BytesOf → Type 0
KeepsOthers id volume bytes_of bytes_after = KeepsFiles id volume bytes_of bytes_after × KeepsValues volume bytes_of bytes_after

-- a file's bytes with those of one fork made of what it had; the other fork has its own
abbrev pub in_fork : ℕ → (List ℕ → List ℕ) → ForkBytes → ForkBytes
in_fork kind make bytes = if kind == data_kind then record bytes { data_bytes = make bytes.data_bytes } else record bytes { resource_bytes = make bytes.resource_bytes }

-- The file has in this fork the bytes that are made of those that it had; its other fork and all other files have theirs.
pub record MakesBytes (make : List ℕ → List ℕ) {id kind from count : ℕ} {fresh : List ℕ} {old new : VolumeState} (does : RewritesFork id kind from count fresh old new) (bytes_of bytes_after : BytesOf) : Type 0 where
  pub made : bytes_after.file (file_after does.puts) ≡ in_fork kind make (bytes_of.file (file_before does.puts))
  pub others : KeepsOthers id old bytes_of bytes_after

-- Blocks at the end of a fork are cut, and the header counts the free blocks anew: so many are left.
pub record CutsBlocks (id kind left count : ℕ) (old new : VolumeState) : Type 0 where
  pub puts : PutsAndCounts id kind left count [] old new
  pub some : 0 < count
  pub whole : length (blocks_at old id kind) ≡ left + count

-- The file of a tree grows, and the header counts the free blocks anew.
pub record GrowsAndCounts (id more : ℕ) (fresh : List ℕ) (old new : VolumeState) : Type 0 where
  pub free : ℕ
  pub next : ℕ
  pub counts : free + length fresh ≡ old.head.free_blocks
  pub grows : GrowsFile id more fresh (record old { head = with_free free next old.head }) new

-- ---- what they lead to

-- what is written at this place of these bytes: zeros in a gap before it, and then the value
abbrev pub written_bytes : ℕ → List ℕ → List ℕ → List ℕ
written_bytes from value bytes = put_at (padded from bytes) from value

-- so many of these bytes, with zeros where they are fewer
abbrev pub resized_bytes : ℕ → List ℕ → List ℕ
resized_bytes size bytes = take size (padded size bytes)

-- `write` of a byte or more: where the step refuses nothing, the lists that the changes lead to are those of a sound volume, and tell the
-- step's tree.
abbrev pub WriteDoes : Type 0
WriteDoes =
    (path : List (List ℕ)) (at : ℕ) (value : List ℕ) (file : PlainNode) (from count : ℕ) (fresh : List ℕ) (old new : VolumeState) (bytes_of bytes_after : BytesOf) → AreBytesOf bytes_after → IsSoundVolume old → 0 < length value
    → to_write (tree_in old bytes_of) path at value ≡ Ok file → (does : RewritesFile file.id from count fresh old new) → MakesBytes (written_bytes at value) does bytes_of bytes_after
    → IsSoundVolume new × (tree_in new bytes_after ≡ (step (tree_in old bytes_of) (command.Write path at value)).1)

-- `write` of no byte: the step's tree is the one that was told.
abbrev pub WriteNothingDoes : Type 0
WriteNothingDoes = (path : List (List ℕ)) (at : ℕ) (file : PlainNode) (old : VolumeState) (bytes_of : BytesOf) → to_write (tree_in old bytes_of) path at [] ≡ Ok file → tree_in old bytes_of ≡ (step (tree_in old bytes_of) (command.Write path at [])).1

-- The same for `trunc`, to a larger size, to a smaller one and to the one that the file has.
abbrev pub TruncDoes : Type 0
TruncDoes =
    (path : List (List ℕ)) (size : ℕ) (file : PlainNode) (from count : ℕ) (fresh : List ℕ) (old new : VolumeState) (bytes_of bytes_after : BytesOf) → AreBytesOf bytes_after → IsSoundVolume old
    → to_trunc (tree_in old bytes_of) path size ≡ Ok file → (does : RewritesFile file.id from count fresh old new) → MakesBytes (resized_bytes size) does bytes_of bytes_after
    → IsSoundVolume new × (tree_in new bytes_after ≡ (step (tree_in old bytes_of) (command.Trunc path size)).1)

-- A step that cuts blocks past the size of a file's fork: the volume is sound, its tree is as it was, and of all forks this one alone is cut.
abbrev pub ShrunkCut : Type 0
ShrunkCut =
    (id kind left count : ℕ) (old new : VolumeState) (bytes_of bytes_after : BytesOf) → IsSoundVolume old → IsUserFile id old → (does : CutsBlocks id kind left count old new) → blocks_wanted old id kind ≤ left
    → bytes_after.file (file_after does.puts) ≡ bytes_of.file (file_before does.puts) → KeepsOthers id old bytes_of bytes_after → IsSoundVolume new × (tree_in new bytes_after ≡ tree_in old bytes_of) × CutsAlone id kind (blocks_wanted old id kind) old new

-- A step that cuts blocks of a file that lost its last name: the same, whatever its bytes are.
abbrev pub OrphanCut : Type 0
OrphanCut =
    (entry : Placed) (kind left count : ℕ) (old new : VolumeState) (bytes_of bytes_after : BytesOf) → IsSoundVolume old → Contains (orphans_of (records_of old)) entry → CutsBlocks (id_of entry) kind left count old new
    → KeepsOthers (id_of entry) old bytes_of bytes_after → IsSoundVolume new × (tree_in new bytes_after ≡ tree_in old bytes_of) × Does (CutOrphan (id_of entry) kind) old new

-- Data that is put into a fork: it has the new blocks in place of the old ones from the first that is written on, and every other fork of a
-- file has the blocks that it had.
abbrev pub RewritePuts : Type 0
RewritePuts =
    (kind : ℕ) (put : Data) (fresh : List ℕ) (old new : VolumeState) → IsSoundVolume old → IsUserFile put.id old
    → RewritesFork put.id kind (first_block old.head.block_size put) (old_blocks_of old.head.block_size put) fresh old new → length fresh ≡ new_blocks_of old.head.block_size put → PutsInForkOf kind (Some put) old new

-- Where they put none, every fork of a file has the blocks that it had.
abbrev pub RewriteKeepsBlocks : Type 0
RewriteKeepsBlocks = (id from : ℕ) (old new : VolumeState) → IsSoundVolume old → IsUserFile id old → RewritesFile id from 0 [] old new → PutsInFork None old new

-- The growth of a tree: the volume is sound, its tree is as it was, the file has so many nodes more, and every other fork has the blocks
-- that it had.
abbrev pub GrowthKeeps : Type 0
GrowthKeeps =
    (id more : ℕ) (fresh : List ℕ) (old new : VolumeState) (bytes_of : BytesOf) → IsTreeFork id → IsSoundVolume old → GrowsAndCounts id more fresh old new
    → IsSoundVolume new × (tree_in new bytes_of ≡ tree_in old bytes_of) × GrowsTree id more old new
    × ((other kind : ℕ) → (other ≢ id) ⊎ (kind ≢ data_kind) → blocks_at new other kind ≡ blocks_at old other kind) × SameValues old new

-- ---- the bytes of other files

-- a sector that such changes may write: of a block that was free, of the blocks at both ends of the volume, or of a special file
abbrev pub IsPutSector : Content → ℕ → Type 0
IsPutSector content at =
    IsFreeSector content at ⊎ (Contains (reserved_blocks (volume_of content).sectors (volume_of content).head) (at / per_block_of (header_of_volume content))
    ⊎ ((owned : Owned) × Contains (special_forks (volume_of content).head) owned × Contains (blocks_owned (overflow_in_volume (volume_of content)) owned) (at / per_block_of (header_of_volume content))))

-- every fork of a file but this one has the bytes that it had
abbrev pub KeepsForksBut : ℕ → ℕ → Content → Content → Type 0
KeepsForksBut id kind content other =
    (p : Placed) (file : FileRecord) → Contains (entries_of (records_of (volume_of content))) p → p.value ≡ File file → (owned : Owned) → owned.id ≡ file.fields.id → Contains (forks_of (volume_of content)) owned → is_fork id kind owned ≡ false
    → bytes_in_fork other owned.id owned.kind owned.fork ≡ bytes_in_fork content owned.id owned.kind owned.fork

-- Contents before and after blocks of a file's fork are others, which differ in such sectors alone: every other file has the bytes that it
-- had, and so has the file's other fork.
abbrev pub OthersKeepBytes : Type 0
OthersKeepBytes =
    (id kind from count : ℕ) (fresh : List ℕ) (content other : Content) (put : VolumeState) → IsSound content → PutsAndCounts id kind from count fresh (volume_of content) put → (volume_of other).head ≡ put.head
    → (volume_of other).overflow_pairs ≡ put.overflow_pairs → AgreesOutside (IsPutSector content) content other → KeepsOthers id (volume_of content) (bytes_in content) (bytes_in other) × KeepsForksBut id kind content other
