-- What a command on a symbolic link or a resource fork wants a commit for before its step: room in the transaction, the blocks that are held until the
-- commit, or an empty transaction for many zero blocks.
use Rattle.std.specs.Prelude.{◌≡◌, ◌≢◌, ◌⊎◌, ◌<◌, ◌≤◌, ℕ, List, true, false, slice_index}
use Rattle.jnl_format.specs.Recovery.{Content}
use Rattle.sector_disk.specs.Space.{Space}
use Rattle.hfs_language.specs.declared.refusal.Refusal.{Refusal}
use Rattle.hfs_model.specs.declared.kinds.KindEdit.{KindEdit}
use Rattle.hfs_volume.specs.Content.{volume_of}
use Rattle.hfs_volume.specs.KindWeight.{fork_of_edit, kind_data_of, kind_only_reads, kind_weight, kind_weight_with, kind_zero_blocks}
use Rattle.hfs_volume.specs.TreeOf.{tree_of}
use Rattle.hfs_volume.specs.Weight.{most_zeros, needs_cut_in}
use Rattle.hfs_volume.specs.declared.cost.Cost.{Cost}
use Rattle.hfs_volume.specs.declared.cost.Cost.TheVariants as cost
use Rattle.volume_base.specs.Fitting.{takable_of}
use Rattle.volume_base.specs.Room.{capacity_of}
use Rattle.volume_base.specs.declared.volume.Volume.{Volume}
use Rattle.volume_step.specs.Steps.{LacksCutRoom}

-- what a command costs now, of the blocks that may be taken: those that are free and aren't held until the commit
abbrev pub kind_cost_now : KindEdit → Volume → Space → Cost
kind_cost_now asked volume space = kind_weight_with (capacity_of volume) (takable_of volume) (volume_of space.content) (tree_of space.content) asked

-- That is a load for which there is room in the transaction, and the trees grow by so many nodes.
pub record KindFitsNow (grow : List ℕ) (volume : Volume) (space : Space) (asked : KindEdit) : Type 0 where
  pub load : ℕ
  pub costs : kind_cost_now asked volume space ≡ cost.Load load grow
  pub within : load ≤ space.spare

-- Nothing is missing for the command: it costs a load.
pub record KindFitsAnew (asked : KindEdit) (volume : Volume) (content : Content) : Type 0 where
  pub load : ℕ
  pub grow : List ℕ
  pub affords : kind_weight (capacity_of volume) (volume_of content) (tree_of content) asked ≡ cost.Load load grow

-- ---- why a commit is wanted

-- A cut goes ahead of the command, and there is too little room in the transaction for it.
pub record KindLacksRoomToCut (volume : Volume) (space : Space) (asked : KindEdit) : Type 0 where
  pub needs : needs_cut_in (fork_of_edit asked) (volume_of space.content) (kind_data_of (tree_of space.content) asked) ≡ true
  pub room : LacksCutRoom volume space

-- The command's load is more than there is room for in the transaction.
pub record KindLacksRoomForLoad (volume : Volume) (space : Space) (asked : KindEdit) : Type 0 where
  pub load : ℕ
  pub grow : List ℕ
  pub costs : kind_cost_now asked volume space ≡ cost.Load load grow
  pub room : space.spare < load

-- The blocks that may be taken now don't do for the command: a resource is missing among them.
pub record KindLacksBlocks (volume : Volume) (space : Space) (asked : KindEdit) : Type 0 where
  pub why : Refusal
  pub costs : kind_cost_now asked volume space ≡ cost.Refused why

-- The extents overflow file or the attributes file has to grow for the command, of the blocks that may be taken now by another number of nodes than of all
-- that are free.
pub record KindGrowsOtherwise (volume : Volume) (space : Space) (asked : KindEdit) : Type 0 where
  pub load : ℕ
  pub grow : List ℕ
  pub costs : kind_cost_now asked volume space ≡ cost.Load load grow
  pub whole : ℕ
  pub nodes : List ℕ
  pub weighs : kind_weight (capacity_of volume) (volume_of space.content) (tree_of space.content) asked ≡ cost.Load whole nodes
  pub other : (slice_index nodes 0 ≢ slice_index grow 0) ⊎ (slice_index nodes 2 ≢ slice_index grow 2)

-- The command puts more zero blocks into a fork than one step fills, and something was put since the last commit.
pub record KindHasManyZeros (volume : Volume) (space : Space) (asked : KindEdit) : Type 0 where
  pub many : most_zeros < kind_zero_blocks (volume_of space.content).head.block_size (tree_of space.content) asked
  pub put : space.spare < capacity_of volume

-- what stands in the way of a command ahead of which no cut goes, and of which no zero blocks are filled
abbrev pub KindLacksNow : Volume → Space → KindEdit → Type 0
KindLacksNow volume space asked = KindLacksRoomForLoad volume space asked ⊎ KindLacksBlocks volume space asked ⊎ KindGrowsOtherwise volume space asked

-- why a volume wants a commit before a step of this command, which isn't one that only reads
abbrev pub KindWantsCommit : Volume → Space → KindEdit → Type 0
KindWantsCommit volume space asked =
    (kind_only_reads asked ≡ false) × (KindLacksRoomToCut volume space asked ⊎ KindLacksNow volume space asked ⊎ KindHasManyZeros volume space asked)
