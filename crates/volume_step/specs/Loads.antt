-- What the load of a command bounds.
use Rattle.std.specs.Prelude.{◌≡◌, ◌≤◌, ℕ, ◌+◌, List}
use Rattle.hfs_language.specs.declared.command.Command.{Command}
use Rattle.hfs_volume.specs.Content.{volume_of}
use Rattle.hfs_volume.specs.TreeOf.{tree_of}
use Rattle.hfs_volume.specs.Weight.{weight_with}
use Rattle.hfs_volume.specs.declared.cost.Cost.TheVariants as cost
use Rattle.sector_disk.specs.Space.{Space}
use Rattle.volume_base.specs.Fitting.{takable_of}
use Rattle.volume_base.specs.Room.{capacity_of}
use Rattle.volume_base.specs.declared.volume.Volume.{Volume}

-- Where what a command costs of the blocks that may be taken is a load, no more sectors than it names were put between two spaces.
abbrev pub IsWithinLoad : Command → Volume → Space → Space → Type 0
IsWithinLoad asked volume before after =
    (load : ℕ) (grow : List ℕ) → weight_with (capacity_of volume) (takable_of volume) (volume_of before.content) (tree_of before.content) asked ≡ cost.Load load grow → before.spare ≤ after.spare + load
