-- A journal's text, as it is read piece by piece.
use Rattle.std.specs.Prelude.{◌<◌, ◌≤◌, ◌+◌, ◌-◌, ◌/◌, ℕ, List, take}
use Rattle.jnl_format.specs.Ring.{journal_bytes, bytes_from, distance}
use Rattle.jnl_format.specs.declared.structures.Info.{Info}
use Rattle.jnl_format.specs.declared.structures.Header.{Header}
use Rattle.jnl_ring.specs.Span.{IsSpan}
use Rattle.jnl_replay.specs.declared.text.Text.{Text}

-- the bytes of the text
unfoldable pub words : Text → List (List ℕ) → List ℕ
words text content = take text.length (bytes_from (journal_bytes content text.span.base text.span.size) text.start)

-- a text that lies on a disk of so many sectors
pub record IsText (sectors : ℕ) (text : Text) : Type 0 where
  pub span : IsSpan text.span
  pub low : 512 ≤ text.start
  pub high : text.start < text.span.size
  pub fits : text.length ≤ text.span.size - 512
  pub blhdr : 512 ≤ text.blhdr
  pub on_disk : text.span.base + text.span.size / 512 ≤ sectors

-- the text of a journal
abbrev pub text_in : Info → Header → Text
text_in info header = record {
  span = record { base = info.offset / 512; size = info.size };
  start = header.start;
  length = distance info.size header.start header.end;
  order = header.order;
  blhdr = header.blhdr;
}
