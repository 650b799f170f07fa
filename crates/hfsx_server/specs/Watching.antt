-- What watchers heard of a run of the program.
use Rattle.std.specs.Prelude.{◌≡◌, ℕ, List}
use Rattle.sector_disk.specs.Disk.{State}
use Rattle.sector_disk.specs.Source.{Stream}
use Rattle.jnl_format.specs.Recovery.{Content}
use Rattle.hfs_language.specs.declared.reply.Change.{Change}
use Rattle.hfs_serving.specs.Watching.{FinishesHeard, KeepsHeard, LastHeard, StopsHeard}
use Rattle.hfsx_server.specs.declared.status.Status.{Status}
use Rattle.hfsx_server.specs.declared.status.Status.TheVariants as status

-- Of a run that ended with this status these changes were heard: those of its first lines, in order, each once and before its reply; with status 0
-- of all lines, with status 4 of each whole line that was taken, with status 7 of each before the one too many.
pub record IsHeard (ended : Status) (heard : List Change) (capacity : ℕ) (start : Content) (old : State) (source : Stream) (new : State) (source_new : Stream) : Type 0 where
  pub keeps : KeepsHeard heard capacity start old source new source_new
  pub finished : ended ≡ status.Done → FinishesHeard heard capacity start old source new source_new
  pub stopped : ended ≡ status.Source → StopsHeard heard capacity start old source new source_new
  pub last : ended ≡ status.TooMany → LastHeard heard capacity start old source new source_new
