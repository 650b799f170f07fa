-- The end of a run.
use Rattle.std.specs.Prelude.{Option, ℕ}
use Rattle.sector_disk.specs.Space.{Space}
use Rattle.jnl_format.specs.Recovery.{Content}
use Rattle.hfs_serving.specs.Going.{Knowing}
use Rattle.hfs_serving.specs.Grounds.{KeepsHeading}
use Rattle.hfs_serving.specs.Outside.{Outside}
use Rattle.hfs_serving.specs.Runs.{IsMarked, KeepsPlace, SetsUnmounted}
use Rattle.hfs_serving.specs.Serving.{IsRead}
use Rattle.hfs_serving.specs.Stages.{MayTurn, Turns}

-- The header's mark of the end was put.
pub record IsClosed (knows : Knowing) (committed now : Content) (shrunk : Option ℕ) (space : Space) : Type 0 where
  pub ended : Content
  pub sets : SetsUnmounted now ended
  pub place : KeepsPlace now ended
  pub reads : IsRead ended space
  pub heads : KeepsHeading space
  pub known : knows committed ended shrunk

-- The end of a run, whatever ended it: a crash leaves the content as it was, or with the mark.
pub record MayFinish (now : Content) (before after : Outside) : Type 0 where
  pub ended : Content
  pub marked : IsMarked now ended
  pub place : KeepsPlace now ended
  pub may : MayTurn now ended before after

-- an end that was made: the mark is set
pub record Finishes (now : Content) (before after : Outside) : Type 0 where
  pub ended : Content
  pub sets : SetsUnmounted now ended
  pub place : KeepsPlace now ended
  pub turns : Turns now ended before after
