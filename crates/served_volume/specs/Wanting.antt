-- What a volume wants a commit for before its next step: room in the transaction, the blocks that are held until the commit, or an empty transaction
-- for many zero blocks.
use Rattle.std.specs.Prelude.{◌≡◌, ◌≢◌, ◌⊎◌, ◌<◌, ℕ, List, Option, None, Some, true, false, slice_index}
use Rattle.sector_disk.specs.Space.{Space}
use Rattle.alloc_bitmap.specs.Map.{free_of}
use Rattle.hfs_language.specs.declared.command.Command.{Command}
use Rattle.hfs_language.specs.declared.refusal.Refusal.{Refusal}
use Rattle.hfs_model.specs.Step.{only_reads}
use Rattle.hfs_volume.specs.declared.asked.Asked.{Asked}
use Rattle.hfs_volume.specs.declared.asked.Asked.TheVariants.{Kind, Plain}
use Rattle.hfs_volume.specs.Content.{volume_of}
use Rattle.hfs_volume.specs.Cost.{cost_of}
use Rattle.hfs_volume.specs.TreeOf.{tree_of}
use Rattle.hfs_volume.specs.Weight.{Data, data_of, most_zeros, needs_cut, room_with, weight, weight_with, zero_blocks}
use Rattle.hfs_volume.specs.declared.cost.Cost.{Cost}
use Rattle.hfs_volume.specs.declared.cost.Cost.TheVariants as cost
use Rattle.volume_base.specs.DataWeighing.{needs_data}
use Rattle.volume_base.specs.Fitting.{takable_of}
use Rattle.volume_base.specs.Room.{capacity_of}
use Rattle.volume_base.specs.declared.volume.Volume.{Volume}
use Rattle.volume_links.specs.Wanting.{KindWantsCommit}
use Rattle.volume_step.specs.Steps.{LacksCutRoom}
use Rattle.volume_step.specs.Tidying.{LacksRoom}
use Rattle.served_volume.specs.declared.served.ServedVolume.{ServedVolume}

-- what a command costs now, of the blocks that may be taken: those that are free and aren't held until the commit
abbrev pub cost_now : Command → Volume → Space → Option Data → Cost
cost_now asked volume space None = weight_with (capacity_of volume) (takable_of volume) (volume_of space.content) (tree_of space.content) asked
cost_now asked volume space (Some put) = cost_of (needs_data (free_of volume.map) (volume_of space.content) put) (room_with volume.capacity (free_of volume.map) (volume_of space.content))

-- A cut goes ahead of the command, and there is too little room in the transaction for it.
pub record LacksRoomToCut (asked : Command) (volume : Volume) (space : Space) : Type 0 where
  pub needs : needs_cut (volume_of space.content) (data_of (tree_of space.content) asked) ≡ true
  pub room : LacksCutRoom volume space

-- The command's load is more than there is room for in the transaction.
pub record LacksRoomForLoad (asked : Command) (volume : Volume) (space : Space) : Type 0 where
  pub load : ℕ
  pub grow : List ℕ
  pub costs : cost_now asked volume space (data_of (tree_of space.content) asked) ≡ cost.Load load grow
  pub room : space.spare < load

-- The blocks that may be taken now don't do for the command: a resource is missing among them.
pub record LacksBlocks (asked : Command) (volume : Volume) (space : Space) : Type 0 where
  pub why : Refusal
  pub costs : cost_now asked volume space (data_of (tree_of space.content) asked) ≡ cost.Refused why

-- A tree has to grow for the command: of the blocks that may be taken now by another number of nodes than of all that are free, or ahead of data that is
-- put into a file.
pub record GrowsOtherwise (asked : Command) (volume : Volume) (space : Space) : Type 0 where
  pub load : ℕ
  pub grow : List ℕ
  pub costs : cost_now asked volume space (data_of (tree_of space.content) asked) ≡ cost.Load load grow
  pub other : ((whole : ℕ) × (nodes : List ℕ) × (weight (capacity_of volume) (volume_of space.content) (tree_of space.content) asked ≡ cost.Load whole nodes) × ((slice_index nodes 0 ≢ slice_index grow 0) ⊎ (slice_index nodes 2 ≢ slice_index grow 2))) ⊎ (slice_index grow 0 ≢ 0)

-- The command puts more zero blocks into a file than one step fills, and something was put since the last commit.
pub record HasManyZeros (asked : Command) (volume : Volume) (space : Space) : Type 0 where
  pub many : most_zeros < zero_blocks (volume_of space.content).head.block_size (tree_of space.content) asked
  pub put : space.spare < capacity_of volume

-- why a volume wants a commit before a step of this command, which isn't one that only reads, or of housekeeping where there is none
abbrev pub WantsCommit : Volume → Space → Option Asked → Type 0
WantsCommit volume space None = LacksRoom volume space
WantsCommit volume space (Some (Kind asked)) = KindWantsCommit volume space asked
WantsCommit volume space (Some (Plain asked)) =
    (only_reads asked ≡ false) × (LacksRoomToCut asked volume space ⊎ LacksRoomForLoad asked volume space ⊎ LacksBlocks asked volume space ⊎ GrowsOtherwise asked volume space ⊎ HasManyZeros asked volume space)

-- the same of a volume that is served
abbrev pub ServedWants : ServedVolume → Space → Option Asked → Type 0
ServedWants served space asked = WantsCommit served.volume space asked
