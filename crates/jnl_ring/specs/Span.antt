-- Where a journal lies.
use Rattle.std.specs.Prelude.{◌≡◌, ◌≤◌, ◌<◌, ◌+◌, ◌*◌, ◌/◌, ◌%◌, ◌^◌, ℕ}
use Rattle.jnl_format.specs.Ring.{offset_after}
use Rattle.jnl_ring.specs.declared.span.Span.{Span}

-- whole sectors, of which there are three at least
pub record IsSpan (span : Span) : Type 0 where
  pub whole : span.size % 512 ≡ 0
  pub least : 1536 ≤ span.size
  pub most : span.size ≤ 2 ^ 40

-- an offset behind the journal's header
pub record InBuffer (span : Span) (at : ℕ) : Type 0 where
  pub after_header : 512 ≤ at
  pub inside : at < span.size

-- the journal lies on a disk of so many sectors
abbrev pub IsOnDisk : Span → ℕ → Type 0
IsOnDisk span sectors = span.base + span.size / 512 ≤ sectors

-- the sector of the disk in which the k-th sector from an offset on lies
abbrev pub sector_after : Span → ℕ → ℕ → ℕ
sector_after span at k = span.base + offset_after span.size at (512 * k) / 512
