-- A transaction to which nothing was put, and a command that wants no other.
use Rattle.std.specs.Prelude.{◌≡◌, ◌≤◌, ℕ, List, length}
use Rattle.jnl_format.specs.Recovery.{Content}
use Rattle.sector_disk.specs.Space.{Space}
use Rattle.alloc_bitmap.specs.Map.{none}
use Rattle.hfs_language.specs.declared.command.Command.{Command}
use Rattle.hfs_volume.specs.Content.{volume_of}
use Rattle.hfs_volume.specs.TreeOf.{tree_of}
use Rattle.hfs_volume.specs.Weight.{weight, weight_with}
use Rattle.hfs_volume.specs.declared.cost.Cost.TheVariants as cost
use Rattle.volume_base.specs.Fitting.{takable_of}
use Rattle.volume_base.specs.Room.{capacity_of}
use Rattle.volume_base.specs.declared.volume.Volume.{Volume}

-- A transaction to which nothing was put: no block is held for what was committed last, and as many sectors may be put as one holds.
pub record IsAnew (volume : Volume) (space : Space) : Type 0 where
  pub held : volume.map.held ≡ none (length volume.map.used)
  pub whole : capacity_of volume ≤ space.spare

-- Nothing is missing for the command: it costs a load.
pub record FitsAnew (asked : Command) (volume : Volume) (content : Content) : Type 0 where
  pub load : ℕ
  pub grow : List ℕ
  pub affords : weight (capacity_of volume) (volume_of content) (tree_of content) asked ≡ cost.Load load grow

-- What the command costs of all free blocks it costs of those that may be taken, a load that the room suffices for; and nothing was put yet.
pub record FitsAlike (asked : Command) (volume : Volume) (space : Space) : Type 0 where
  pub load : ℕ
  pub grow : List ℕ
  pub affords : weight (capacity_of volume) (volume_of space.content) (tree_of space.content) asked ≡ cost.Load load grow
  pub costs : weight_with (capacity_of volume) (takable_of volume) (volume_of space.content) (tree_of space.content) asked ≡ cost.Load load grow
  pub within : load ≤ space.spare
  pub whole : capacity_of volume ≤ space.spare
