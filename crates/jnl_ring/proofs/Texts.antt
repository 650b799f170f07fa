-- The text of the ring after a list was written.
use Rattle.std.proofs.Common.{◌≡◌, ◌<◌, ◌≤◌, ◌-◌, ◌*◌, ◌/◌, ◌%◌, ℕ, List, ◌++◌, inl, inr, length, get_or, drop, sym, ◌∙◌, ap, arith, length-append, length-drop}
use Rattle.std.proofs.lemmas.Bool.{cases_lt}
use Rattle.std.proofs.lemmas.List.{ext_get_or, get_or-drop, get_or_append_left, get_or-append_right}
use Rattle.std.specs.List.{concat}
use Rattle.sector_disk.specs.Lists.{Content, sector}
use Rattle.jnl_format.specs.Ring.{bytes_from, journal_bytes, offset_after}
use Rattle.jnl_ring.specs.Span.{InBuffer, IsSpan, sector_after}
use Rattle.jnl_ring.specs.Writing.{PutsInRing}
use Rattle.jnl_ring.specs.declared.span.Span.{Span}
use Rattle.jnl_ring.proofs.Bytes.{HasJournal, get_or-concat, journal_byte, length-concat, length-journal}
use Rattle.jnl_ring.specs.Whole.{AreWhole}
use Rattle.jnl_ring.proofs.Placing.{apart, byte_at}
use Rattle.jnl_ring.proofs.Wrap.{byte_from, length-from}

-- the journal's bytes in a content
abbrev pub journal_in : Content → Span → List ℕ
journal_in content span = journal_bytes content span.base span.size

-- each byte of the ring, from an offset at which a sector begins
pub ring_byte : (span : Span) (content : Content) (at j : ℕ) → IsSpan span → HasJournal span.base span.size content → InBuffer span at → at % 512 ≡ 0 → j < span.size - 512
    → get_or (bytes_from (journal_in content span) at) j 0 ≡ get_or (sector content (sector_after span at (j / 512))) (j % 512) 0
ring_byte span content at j is has from whole below =
    let there = byte_at span at j is from whole below in
    byte_from (journal_in content span) span.size at j (length-journal span.base span.size content has) from.after_header from.inside below
    ∙ journal_byte span.base span.size content (offset_after span.size at j) has there.inside
    ∙ ap (λ n. get_or (sector content n) (offset_after span.size at j % 512) 0) there.sector
    ∙ ap (λ n. get_or (sector content (sector_after span at (j / 512))) n 0) there.byte

-- the new bytes, and then what was there
pub text_put : (span : Span) (at : ℕ) (list old new : Content) → IsSpan span → HasJournal span.base span.size old → HasJournal span.base span.size new → InBuffer span at → at % 512 ≡ 0 → 512 * length list ≤ span.size - 512 → AreWhole list
    → PutsInRing span at list old new → bytes_from (journal_in new span) at ≡ concat list ++ drop (512 * length list) (bytes_from (journal_in old span) at)
text_put span at list old new is had has from whole room good puts =
    let was = bytes_from (journal_in old span) at in
    let now = bytes_from (journal_in new span) at in
    let front : length (concat list) ≡ 512 * length list = length-concat list good in
    let long : length was ≡ span.size - 512 = length-from (journal_in old span) span.size at (length-journal span.base span.size old had) from.after_header from.inside in
    let size : length now ≡ span.size - 512 = length-from (journal_in new span) span.size at (length-journal span.base span.size new has) from.after_header from.inside in
    let n = 512 * length list in
    ext_get_or 0 now (concat list ++ drop n was) (omega (arith, size, front, long, room, length-append (concat list) (drop n was), length-drop n was))
    (λ j inside.
    let below : j < span.size - 512 = omega (arith, inside, size) in
    elim (cases_lt j n) [
      | inl before ↦
          ring_byte span new at j is has from whole below ∙ ap (λ (v : List ℕ). get_or v (j % 512) 0) (puts.there (j / 512) (omega (arith, before)))
          ∙ sym (get_or-concat list (j / 512) (j % 512) good (omega (arith, before)) (omega arith)) ∙ ap (λ k. get_or (concat list) k 0) (omega arith)
          ∙ sym (get_or_append_left (concat list) (drop n was) 0 j (omega (arith, before, front)))
      | inr behind ↦
          ring_byte span new at j is has from whole below
          ∙ ap (λ (v : List ℕ). get_or v (j % 512) 0) (puts.elsewhere (sector_after span at (j / 512)) (λ k earlier same. apart span at k (j / 512) is from whole (omega (arith, behind, earlier)) (omega (arith, below, is.whole)) (sym same)))
          ∙ sym (ring_byte span old at j is had from whole below) ∙ ap (λ k. get_or was k 0) (omega (arith, behind)) ∙ sym (get_or-drop n was (j - n) 0)
          ∙ sym (get_or-append_right (concat list) (drop n was) n j 0 front behind)
    ])
