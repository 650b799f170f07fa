-- The header's mark of a volume that is served.
use Rattle.std.specs.Prelude.{◌≡◌, ℕ, Bool, Option}
use Rattle.jnl_format.specs.Recovery.{Content}
use Rattle.sector_disk.specs.Space.{Space}
use Rattle.hfs_volume.specs.Content.{volume_of}
use Rattle.hfs_volume.specs.Reclaim.{KeepsTree}
use Rattle.hfs_serving.specs.Going.{Stands}
use Rattle.hfs_serving.specs.Grounds.{KeepsHeading}
use Rattle.hfs_serving.specs.Outside.{Outside}
use Rattle.hfs_serving.specs.Runs.{KeepsPlace}
use Rattle.hfs_serving.specs.Serving.{IsRead}
use Rattle.volume_names.specs.Mounting.{marked_header}
use Rattle.volume_base.specs.declared.volume.Volume.{Volume}
use Rattle.served_volume.specs.Knowing.{Knows}

-- for some capacity, contents and shrunk file it stands
abbrev pub SomeKnown : Volume → Space → Outside → Type 0
SomeKnown volume space outside = (capacity : ℕ) × (committed : Content) × (now : Content) × (shrunk : Option ℕ) × Stands (λ was is file. Knows volume capacity was is file space) committed now shrunk space outside

-- The mark was put: the header alone is another, the volume is sound as it was, and has the tree that it had.
pub record IsMarkedAs (in_use : Bool) (volume : Volume) (capacity : ℕ) (committed now : Content) (shrunk : Option ℕ) (space : Space) : Type 0 where
  pub marked : Content
  pub lists : volume_of marked ≡ record (volume_of now) { head = marked_header in_use (volume_of now).head }
  pub keeps : KeepsTree now marked
  pub place : KeepsPlace now marked
  pub reads : IsRead marked space
  pub heads : KeepsHeading space
  pub known : Knows volume capacity committed marked shrunk space
