-- What a peek shows: a content with sectors of a journal's text in place of some of its own.
use Rattle.std.specs.Prelude.{ℕ, List, map, length, Option, None, Some}
use Rattle.std.specs.List.{range_with_len}
use Rattle.sector_disk.specs.Lists.{Content, sector}
use Rattle.jnl_format.specs.Text.{bytes_at}
use Rattle.jnl_replay.specs.Runs.{place_in_runs}
use Rattle.jnl_replay.specs.Text.{words}
use Rattle.jnl_replay.specs.declared.index.Peek.{Peek}

-- the place of a sector's bytes, where the journal has any
abbrev pub place_in : Peek → ℕ → Option ℕ
place_in peek at = place_in_runs peek.index at

-- the bytes of a text, or else those of a content
abbrev pub seen : List ℕ → Content → ℕ → Option ℕ → List ℕ
seen text content at None = sector content at
seen text content at (Some place) = bytes_at text place 512

-- what a peek shows over a content
abbrev pub peeked : Peek → Content → Content
peeked peek content = map (λ at. seen (words peek.text content) content at (place_in peek at)) (range_with_len 0 (length content))
