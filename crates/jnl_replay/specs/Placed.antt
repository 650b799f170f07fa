-- Places that have a sector's bytes.
use Rattle.std.specs.Prelude.{◌≡◌, ◌+◌, ◌≤◌, ℕ, List, Some}
use Rattle.jnl_replay.specs.Runs.{place_in_runs}
use Rattle.jnl_replay.specs.declared.runs.Run.{Run}

-- each place has 512 bytes of a text of this length
abbrev pub ArePlaced : ℕ → List Run → Type 0
ArePlaced long runs = (at place : ℕ) → place_in_runs runs at ≡ Some place → place + 512 ≤ long
