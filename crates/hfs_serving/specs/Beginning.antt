-- The begin of a run.
use Rattle.std.specs.Prelude.{◌≡◌, ◌⊎◌, Option, ℕ, []}
use Rattle.sector_disk.specs.Space.{Space}
use Rattle.jnl_format.specs.Recovery.{Content}
use Rattle.hfs_volume.specs.Reclaim.{MarksHeader}
use Rattle.hfs_serving.specs.Going.{Knowing, Stands}
use Rattle.hfs_serving.specs.Grounds.{KeepsHeading}
use Rattle.hfs_serving.specs.Outside.{Outside}
use Rattle.hfs_serving.specs.Runs.{KeepsPlace, Serves}
use Rattle.hfs_serving.specs.Serving.{IsRead}
use Rattle.hfs_serving.specs.Stages.{MayTurn, Turns}

-- The header's mark of a mount was put.
pub record IsMarkedMounted (knows : Knowing) (committed now : Content) (shrunk : Option ℕ) (space : Space) : Type 0 where
  pub begun : Content
  pub marks : MarksHeader now begun
  pub place : KeepsPlace now begun
  pub reads : IsRead begun space
  pub heads : KeepsHeading space
  pub known : knows committed begun shrunk

-- A run was begun: the mark of a mount is committed, which is a stretch without an entry, and the volume stands for what it left.
pub record BeginsRun (capacity : ℕ) (knows : Knowing) (start : Content) (shrunk : Option ℕ) (old : Outside) (space : Space) (new : Outside) : Type 0 where
  pub begun : Content
  pub marks : MarksHeader start begun
  pub place : KeepsPlace start begun
  pub turns : Turns start begun old new
  pub serves : Serves capacity shrunk start old [] [] begun new
  pub stands : Stands knows begun begun shrunk space new

-- The begin of a run, whatever ended it: a crash leaves the content as it was, or with the mark of a mount.
pub record MayBegin (start : Content) (old new : Outside) : Type 0 where
  pub begun : Content
  pub marked : (begun ≡ start) ⊎ MarksHeader start begun
  pub place : KeepsPlace start begun
  pub may : MayTurn start begun old new
