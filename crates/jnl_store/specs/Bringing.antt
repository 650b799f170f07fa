-- A live sector brought home: its newest bytes, which stand in the journal's text, written into it.
use Rattle.std.specs.Prelude.{◌≡◌, ◌≢◌, ◌<◌, ◌≤◌, ◌+◌, ℕ, List, length}
use Rattle.sector_disk.specs.Lists.{Content, sector}
use Rattle.jnl_format.specs.Named.{IsHomeOf}
use Rattle.jnl_format.specs.Text.{bytes_at}
use Rattle.jnl_format.specs.declared.blocks.Home.{Home}
use Rattle.jnl_ring.specs.Span.{IsOnDisk}
use Rattle.jnl_replay.specs.declared.plan.Plan.{Plan}
use Rattle.jnl_store.specs.InUse.{used_of}
use Rattle.jnl_store.specs.Plan.{span_of}

-- the journal lies on the disk, and its live text has the bytes of this home, as those of one of these homes
pub record IsLiveHome (plan : Plan) (sectors : ℕ) (text : List ℕ) (homes : List Home) (home : Home) : Type 0 where
  pub on_disk : IsOnDisk (span_of plan) sectors
  pub placed : home.place + 512 ≤ used_of plan
  pub of : IsHomeOf text homes home.sector (bytes_at text home.place 512)

-- the sector, where there is one, has these bytes, and each other one is as it was
pub record IsBrought (at : ℕ) (value : List ℕ) (old new : Content) : Type 0 where
  pub size : length new ≡ length old
  pub here : at < length old → sector new at ≡ value
  pub others : (s : ℕ) → s ≢ at → sector new s ≡ sector old s
