-- What `ln` takes of the room for puts.
use Rattle.std.specs.Prelude.{◌≡◌, ◌≤◌, ℕ, ◌+◌, List}
use Rattle.sector_disk.specs.Space.{Space}
use Rattle.hfs_language.specs.declared.command.Command.{Command}
use Rattle.hfs_volume.specs.Content.{volume_of}
use Rattle.hfs_volume.specs.TreeOf.{tree_of}
use Rattle.hfs_volume.specs.Weight.{weight}
use Rattle.hfs_volume.specs.declared.cost.Cost.TheVariants as cost
use Rattle.volume_base.specs.Room.{capacity_of}
use Rattle.volume_base.specs.declared.volume.Volume.{Volume}

-- Where what a command costs is a load, no more sectors than it names were put between two spaces.
abbrev pub PutsItsLoad : Command → Volume → Space → Space → Type 0
PutsItsLoad asked volume before after =
    (n : ℕ) (grow : List ℕ) → weight (capacity_of volume) (volume_of before.content) (tree_of before.content) asked ≡ cost.Load n grow → before.spare ≤ after.spare + n
