-- Where the sectors of a list lie in the ring.
use Rattle.std.proofs.Common.{◌≡◌, ◌≢◌, ◌<◌, ◌≤◌, ◌+◌, ◌-◌, ◌*◌, ◌/◌, ◌%◌, ℕ, inl, inr, sym, ◌∙◌, ap, subst, arith}
use Rattle.std.proofs.lemmas.Bool.{cases_lt}
use Rattle.jnl_format.specs.Ring.{offset_after}
use Rattle.jnl_ring.specs.Span.{InBuffer, IsOnDisk, IsSpan, sector_after}
use Rattle.jnl_ring.specs.declared.span.Span.{Span}
use Rattle.jnl_ring.proofs.Wrap.{offset_before, offset_behind, offset_steps}

-- an offset at which a sector of the buffer begins
pub record IsWholeOffset (span : Span) (offset : ℕ) : Type 0 where
  pub whole : offset % 512 ≡ 0
  pub after_header : 512 ≤ offset
  pub inside : offset + 512 ≤ span.size

-- so many sectors on there is such an offset
pub whole_offset : (span : Span) (at k : ℕ) → IsSpan span → InBuffer span at → at % 512 ≡ 0 → 512 * k ≤ span.size - 512 → IsWholeOffset span (offset_after span.size at (512 * k))
whole_offset span at k is from whole below = elim (cases_lt (at + 512 * k) span.size) [
  | inl before ↦ subst (IsWholeOffset span) (sym (offset_before span.size at (512 * k) before))
      (record { whole = omega (arith, whole); after_header = omega (arith, from.after_header); inside = omega (arith, before, whole, is.whole) })
  | inr behind ↦ subst (IsWholeOffset span) (sym (offset_behind span.size at (512 * k) behind))
      (record { whole = omega (arith, whole, is.whole, behind); after_header = omega arith; inside = omega (arith, behind, below, whole, from.inside, is.whole) })
]

-- the sector of a byte, and its place there
pub record IsAt (span : Span) (at j : ℕ) : Type 0 where
  pub sector : span.base + offset_after span.size at j / 512 ≡ sector_after span at (j / 512)
  pub byte : offset_after span.size at j % 512 ≡ j % 512
  pub inside : offset_after span.size at j < span.size

pub byte_at : (span : Span) (at j : ℕ) → IsSpan span → InBuffer span at → at % 512 ≡ 0 → j < span.size - 512 → IsAt span at j
byte_at span at j is from whole below =
    let first = offset_after span.size at (512 * (j / 512)) in
    let there : IsWholeOffset span first = whole_offset span at (j / 512) is from whole (omega (arith, below)) in
    let here : offset_after span.size at j ≡ first + j % 512 =
    ap (offset_after span.size at) (omega arith) ∙ offset_steps span.size at (512 * (j / 512)) (j % 512) from.inside (omega (arith, there.inside)) in
    record {
      sector = ap (λ n. span.base + n) (omega (arith, here, there.whole));
      byte = omega (arith, here, there.whole);
      inside = omega (arith, here, there.inside);
    }

-- the sectors are apart
pub apart : (span : Span) (at j k : ℕ) → IsSpan span → InBuffer span at → at % 512 ≡ 0 → j < k → 512 * k + 512 ≤ span.size - 512 → sector_after span at j ≢ sector_after span at k
apart span at j k is from whole before below same =
    elim (cases_lt (at + 512 * j) span.size) [
      | inl j_before ↦ elim (cases_lt (at + 512 * k) span.size) [
        | inl k_before ↦ omega (arith, same, offset_before span.size at (512 * j) j_before, offset_before span.size at (512 * k) k_before, whole, is.whole, before)
        | inr k_behind ↦ omega (arith, same, offset_before span.size at (512 * j) j_before, offset_behind span.size at (512 * k) k_behind, whole, is.whole, before, below)
      ]
      | inr j_behind ↦ elim (cases_lt (at + 512 * k) span.size) [
        | inl k_before ↦ omega (arith, k_before, j_behind, before)
        | inr k_behind ↦ omega (arith, same, offset_behind span.size at (512 * j) j_behind, offset_behind span.size at (512 * k) k_behind, whole, is.whole, before)
      ]
    ]

-- they lie on the disk
pub on_disk : (span : Span) (at k sectors : ℕ) → IsSpan span → InBuffer span at → at % 512 ≡ 0 → 512 * k ≤ span.size - 512 → IsOnDisk span sectors → sector_after span at k < sectors
on_disk span at k sectors is from whole below fits =
    let there = whole_offset span at k is from whole below in
    omega (arith, there.inside, there.whole, fits, is.whole)
