-- What data weighs that a command puts into a file.
use Rattle.std.specs.Prelude.{◌≡◌, ◌≤◌, ℕ, ◌^◌, ◌&&◌, nat_le, nat_lt, max, Bool, true, false, List, [], ◌∷◌, length, Ok, Option, None, Some, ◌==◌, if◌then◌else◌}
use Rattle.flag_rows.specs.Runs.{fewest_of}
use Rattle.cat_records.specs.declared.record.CatRecord.{CatRecord}
use Rattle.cat_records.specs.declared.record.CatRecord.TheVariants.{Folder, File, Thread}
use Rattle.cat_records.specs.declared.record.FileRecord.{FileRecord}
use Rattle.jnl_format.specs.Recovery.{Content}
use Rattle.hfs_language.specs.declared.command.Command.{Command}
use Rattle.hfs_model.specs.Step.{refuses}
use Rattle.hfs_model.specs.declared.plain.PlainNode.{PlainNode}
use Rattle.hfs_volume.specs.Content.{VolumeState, records_of, volume_of}
use Rattle.hfs_volume.specs.Forks.{data_kind, parts_for}
use Rattle.hfs_volume.specs.Records.{entry_of}
use Rattle.hfs_volume.specs.TreeOf.{tree_of}
use Rattle.hfs_volume.specs.Weight.{Data, data_of, edits, extents_edits, file_blocks, file_fork, free_runs, needs_cut, new_blocks_of, old_blocks_of}
use Rattle.hfs_volume.specs.declared.cost.Needs.{Needs}
use Rattle.volume_base.specs.Cutting.{fork_at}
use Rattle.volume_base.specs.Reading.{HasFile}
use Rattle.volume_base.specs.declared.data_cost.Put.{Put}
use Rattle.volume_base.specs.declared.weighing.Weight.{Weight}
use Rattle.volume_base.specs.declared.weighing.Weight.TheVariants as answer

-- blocks have 512 bytes at least, a file at most 2^48, and data ends by 2^40
abbrev pub are_usual : ℕ → Put → Bool
are_usual block put = nat_le 512 block && (nat_le put.old_size 281474976710656 && nat_le put.end 1099511627776)

-- what it needs of a volume with blocks of this size, where these blocks are free and the file's fork has so many extents
abbrev pub needs_put : List Bool → ℕ → ℕ → Data → Needs
needs_put free block extents put =
    let blocks = new_blocks_of block put in
    let runs = fewest_of blocks (free_runs free) in
    record { ids = 0; edits = extents_edits extents runs blocks ∷ 0 ∷ 0 ∷ []; updates = 1; new_blocks = blocks; old_blocks = old_blocks_of block put; runs = runs }

-- what a new link needs whose data this is, where these blocks are free
abbrev pub needs_link : List Bool → ℕ → Data → Needs
needs_link free block put =
    let blocks = new_blocks_of block put in
    let runs = fewest_of blocks (free_runs free) in
    record { ids = 1; edits = extents_edits 0 runs blocks ∷ 2 ∷ 0 ∷ []; updates = 1; new_blocks = blocks; old_blocks = old_blocks_of block put; runs = runs }

-- the file grows and has more blocks than its size takes
abbrev pub has_more : ℕ → ℕ → Put → Bool
has_more block blocks put = nat_lt put.old_size (max put.old_size put.end) && nat_lt (parts_for put.old_size block) blocks

-- Its step doesn't refuse the command, but it puts data where blocks past a file's size go first.
abbrev pub WaitsForCut : Content → Command → Type 0
WaitsForCut content asked = (refuses (tree_of content) (Ok asked) ≡ false) × (needs_cut (volume_of content) (data_of (tree_of content) asked) ≡ true)

-- the command is refused, by its step or for want of a resource
abbrev pub IsRefused : Weight → Type 0
IsRefused (answer.Refused why) = Unit {0}
IsRefused _ = ⊥

-- the file whose record this is
abbrev pub file_of_record : CatRecord → Option FileRecord
file_of_record (Folder folder) = None
file_of_record (File file) = Some file
file_of_record (Thread thread) = None

-- the bytes of a file in its fork of this kind
abbrev pub bytes_at : ℕ → PlainNode → List ℕ
bytes_at kind node = if kind == data_kind then node.bytes else node.resource

-- A record is that of the file that data is put into, and its fork of this kind has the size that the data says.
pub record IsFileOfPut (kind : ℕ) (volume : VolumeState) (file : FileRecord) (put : Put) : Type 0 where
  pub has : HasFile (records_of volume) file
  pub id : file.fields.id ≡ put.id
  pub fork : file_fork kind (entry_of (records_of volume) put.id) ≡ Some (fork_at kind file)
  pub blocks : length (file_blocks volume put.id kind) ≡ (fork_at kind file).total_blocks
  pub small : put.old_size ≤ 2 ^ 48
