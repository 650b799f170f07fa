-- Symbolic links and resource forks: what a command on them takes of a volume.
use Rattle.std.specs.Prelude.{ℕ, ◌+◌, ◌==◌, Bool, false, true, List, [], ◌∷◌, length, Option, Some, None, Result, Ok, Err, if◌then◌else◌}
use Rattle.hfs_language.specs.declared.refusal.Refusal.{Refusal}
use Rattle.hfs_model.specs.Kinds.{to_symlink}
use Rattle.hfs_model.specs.Step.{Place, size_written, to_file}
use Rattle.hfs_model.specs.declared.kinds.KindEdit.{KindEdit}
use Rattle.hfs_model.specs.declared.kinds.KindEdit.TheVariants as edit
use Rattle.hfs_model.specs.declared.plain.PlainNode.{PlainNode}
use Rattle.hfs_model.specs.declared.plain.PlainTree.{PlainTree}
use Rattle.hfs_volume.specs.Content.{VolumeState}
use Rattle.hfs_volume.specs.Cost.{cost_of}
use Rattle.hfs_volume.specs.Forks.{data_kind, resource_kind}
use Rattle.hfs_volume.specs.Weight.{Data, Edits, cut_cost, edits, free_blocks, needs_cut_in, needs_in, room_with, zeros_before_value}
use Rattle.hfs_volume.specs.declared.cost.Cost.{Cost}
use Rattle.hfs_volume.specs.declared.cost.Cost.TheVariants as cost

-- the fork that a command puts data into: a link's target is the bytes of its file
abbrev pub fork_of_edit : KindEdit → ℕ
fork_of_edit (edit.Symlink path value) = data_kind
fork_of_edit (edit.ResourceWrite path from value) = resource_kind
fork_of_edit (edit.ResourceRead path from long) = resource_kind

-- the data of a new link, whose file has no block yet
abbrev pub target_data : ℕ → ℕ → Result Place Refusal → Option Data
target_data id long (Ok at) = Some (record { id = id; old_size = 0; new_size = long; from = 0; end = long })
target_data id long (Err why) = None

-- the data that a value of some bytes puts into a resource fork
abbrev pub resource_data : ℕ → ℕ → Result PlainNode Refusal → Option Data
resource_data from long (Ok file) =
    if long == 0 then None
    else Some (record { id = file.id; old_size = length file.resource; new_size = size_written (length file.resource) from long; from = from; end = from + long })
resource_data from long (Err why) = None

-- the data that a command puts into a fork, where it puts some
abbrev pub kind_data_of : PlainTree → KindEdit → Option Data
kind_data_of tree (edit.Symlink path value) = target_data tree.next_id (length value) (to_symlink tree path value)
kind_data_of tree (edit.ResourceWrite path from value) = resource_data from (length value) (to_file tree path)
kind_data_of tree (edit.ResourceRead path from long) = None

-- `symlink` draws an id, adds a record and its thread and updates the folder; `rwrite` updates the file
abbrev pub kind_edits_of : KindEdit → Edits
kind_edits_of (edit.Symlink path value) = edits 1 2 0 1
kind_edits_of (edit.ResourceWrite path from value) = edits 0 0 0 1
kind_edits_of (edit.ResourceRead path from long) = edits 0 0 0 0

-- the command changes nothing on any tree
abbrev pub kind_only_reads : KindEdit → Bool
kind_only_reads (edit.Symlink path value) = false
kind_only_reads (edit.ResourceWrite path from value) = false
kind_only_reads (edit.ResourceRead path from long) = true

-- how many of its new blocks hold nothing but the zeros of a growth
abbrev pub kind_zero_blocks : ℕ → PlainTree → KindEdit → ℕ
kind_zero_blocks block tree asked = zeros_before_value block (kind_data_of tree asked)

-- The load of a command on a volume, or the first resource refusal, where the blocks that are free are these. Its step doesn't refuse it.
unfoldable pub kind_weight_with : ℕ → List Bool → VolumeState → PlainTree → KindEdit → Cost
kind_weight_with capacity free volume tree asked =
    if kind_only_reads asked then cost.Load 0 (0 ∷ 0 ∷ 0 ∷ [])
    else if needs_cut_in (fork_of_edit asked) volume (kind_data_of tree asked) then cut_cost (room_with capacity free volume)
    else cost_of (needs_in (fork_of_edit asked) free volume (kind_edits_of asked) (kind_data_of tree asked)) (room_with capacity free volume)

-- the same where no block is held
abbrev pub kind_weight : ℕ → VolumeState → PlainTree → KindEdit → Cost
kind_weight capacity volume tree asked = kind_weight_with capacity (free_blocks volume) volume tree asked
