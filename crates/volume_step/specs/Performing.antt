-- What each command leaves of its volume and of the space, whatever it came to.
use Rattle.std.specs.Prelude.{◌≡◌, ℕ, Result, OnOk}
use Rattle.hx_bytes.specs.declared.faults.Trouble.{Trouble}
use Rattle.sector_disk.specs.Lists.{Content}
use Rattle.sector_disk.specs.Space.{SameSpace, Space}
use Rattle.btree_edit.specs.Causes.{HasTroubleCause}
use Rattle.volume_base.specs.Frame.{Serves}
use Rattle.volume_base.specs.Room.{capacity_of}
use Rattle.volume_base.specs.Service.{IsInService}
use Rattle.volume_base.specs.Touching.{Touches}
use Rattle.volume_base.specs.declared.volume.Volume.{Volume}
use Rattle.volume_base.specs.Holding.{IsLaidOutAs}
use Rattle.volume_base.specs.Holding.{HoldsOn}

-- A command was seen to, with an answer or a fault: what lies below followed, Disk comes only where that failed, the volume is in service, and behind an
-- answer it serves, and loses no block that a content has in use. It put these sectors alone, or spilled into blocks that were free at the last commit,
-- of a content with the volume's blocks.
pub record Performs {S T : Type 0} (space_of : S → Space) (follows : S → S → Type 0) (these : ℕ → Type 0) (old new : Volume) (before after : S) (result : Result T Trouble) : Type 0 where
  pub below : follows before after
  pub cause : HasTroubleCause (space_of before).faults (space_of after).faults result
  pub service : IsInService new (space_of after)
  pub serves : OnOk result (Serves new (space_of after))
  pub holds : (committed : Content) → HoldsOn committed old → OnOk result (HoldsOn committed new)
  pub capacity : capacity_of new ≡ capacity_of old
  pub touches : (committed : Content) → HoldsOn committed old → IsLaidOutAs committed old → Touches committed these (space_of before) (space_of after)
  pub same : SameSpace (space_of before) (space_of after)
