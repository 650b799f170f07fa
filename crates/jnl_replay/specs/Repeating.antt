-- Sectors that are written again as they are read.
use Rattle.std.specs.Prelude.{◌≡◌, ◌/◌, ℕ, zero, suc, List, length, Contains}
use Rattle.sector_disk.specs.Lists.{last}
use Rattle.sector_disk.specs.Disk.{Candidates, CrashesLeave, IsImage, State, candidates_of, content, with_candidate}
use Rattle.jnl_ring.specs.Span.{sector_after}
use Rattle.jnl_ring.specs.declared.span.Span.{Span}
use Rattle.jnl_replay.specs.Text.{text_in}
use Rattle.jnl_replay.specs.declared.plan.Plan.{Plan}
use Rattle.jnl_replay.specs.declared.text.Text.{Text}

-- a sector, written again as it is read
abbrev pub repeat_at : Candidates → ℕ → Candidates
repeat_at disk at = with_candidate disk at (last (candidates_of disk at))

-- the first so many sectors of the ring from an offset on, written again one after another
unfoldable pub repeat_ring : Candidates → Span → ℕ → ℕ → Candidates
repeat_ring disk span at zero = disk
repeat_ring disk span at (suc k) = repeat_at (repeat_ring disk span at k) (sector_after span at k)

-- all on which a replay acts, written again: the volume header, the info block, the journal header and the live lists
abbrev pub repeat_all : Plan → Candidates → Candidates
repeat_all plan disk =
    let text : Text = text_in plan.info plan.header in
    repeat_ring (repeat_at (repeat_at (repeat_at disk 2) plan.place.info_sector) (plan.info.offset / 512)) text.span text.start (text.length / 512)

-- Sectors were written again: the disk reads as before, and a crash then or now leaves what it might have left before.
pub record Repeats (old new : State) : Type 0 where
  pub size : length new.candidates ≡ length old.candidates
  pub content : content new ≡ content old
  pub each : (at : ℕ) (value : List ℕ) → Contains (candidates_of new.candidates at) value → Contains (candidates_of old.candidates at) value
  pub crash : CrashesLeave old new (IsImage old.candidates)
