-- A piece of the text is a piece of the ring.
use Rattle.std.proofs.Common.{◌≡◌, ◌<◌, ◌≤◌, ◌+◌, ◌-◌, ℕ, List, IsTrue, inl, inr, length, get_or, take, drop, sym, ◌∙◌, ap, arith, length-drop}
use Rattle.std.proofs.lemmas.Bool.{cases_lt}
use Rattle.std.proofs.lemmas.List.{ext_get_or, get_or-take, get_or-drop, length-take-le}
use Rattle.std.proofs.lemmas.List.{drop-drop}
use Rattle.std.proofs.Common.{take-append-drop}
use Rattle.hx_bytes.specs.Field.{number_at}
use Rattle.hx_bytes.specs.declared.fields.Order.{Order}
use Rattle.hx_bytes.proofs.Laws.{number_at-front, number_at-drop}
use Rattle.jnl_format.specs.List.{entry_at}
use Rattle.jnl_format.specs.Ring.{journal_bytes, bytes_from, offset_after}
use Rattle.jnl_format.specs.Text.{bytes_at}
use Rattle.jnl_ring.proofs.Wrap.{offset_before, offset_behind, length-from, byte_from}
use Rattle.jnl_ring.proofs.Bytes.{disk_has, length-journal}
use Rattle.sector_disk.specs.Disk.{State, IsDisk, content}
use Rattle.jnl_replay.specs.Text.{words, IsText}
use Rattle.jnl_replay.specs.declared.text.Text.{Text}

-- an offset and another behind it
offset_both : (size start at i : ℕ) → 512 ≤ start → start < size → at + i < size - 512 → offset_after size (offset_after size start at) i ≡ offset_after size start (at + i)
offset_both size start at i low high below = elim (cases_lt (start + at) size) [
  | inl one ↦
      let e : offset_after size start at ≡ start + at = offset_before size start at one in
      ap (λ n. offset_after size n i) e ∙ (elim (cases_lt (start + at + i) size) [
        | inl two ↦ offset_before size (start + at) i two ∙ sym (offset_before size start (at + i) (omega arith) ∙ omega arith)
        | inr two ↦ offset_behind size (start + at) i two ∙ sym (offset_behind size start (at + i) (omega arith) ∙ omega arith)
      ])
  | inr one ↦
      let e : offset_after size start at ≡ start + at - size + 512 = offset_behind size start at one in
      ap (λ n. offset_after size n i) e ∙ offset_before size (start + at - size + 512) i (omega arith) ∙ sym (offset_behind size start (at + i) (omega arith) ∙ omega arith)
]

offset_in : (size start at : ℕ) → 512 ≤ start → start < size → at ≤ size - 512 → (512 ≤ offset_after size start at) × (offset_after size start at < size)
offset_in size start at low high below = elim (cases_lt (start + at) size) [
  | inl one ↦ let e = offset_before size start at one in (omega arith, omega arith)
  | inr one ↦ let e = offset_behind size start at one in (omega arith, omega arith)
]

pub length-piece : (text : List ℕ) (at n : ℕ) → at + n ≤ length text → length (bytes_at text at n) ≡ n
length-piece text at n fits = length-take-le n (drop at text) (omega (arith, length-drop at text))

pub text_piece : (journal : List ℕ) (size start long at n : ℕ) → length journal ≡ size → 512 ≤ start → start < size → long ≤ size - 512 → at + n ≤ long
    → take n (bytes_from journal (offset_after size start at)) ≡ bytes_at (take long (bytes_from journal start)) at n
text_piece journal size start long at n is low high fits inside =
    let whole = bytes_from journal start in
    let off = offset_in size start at low high (omega arith) in
    let l1 : length whole ≡ size - 512 = length-from journal size start is low high in
    let l2 : length (bytes_from journal (offset_after size start at)) ≡ size - 512 = length-from journal size (offset_after size start at) is off.0 off.1 in
    let l3 : length (take long whole) ≡ long = length-take-le long whole (omega arith) in
    let l4 : length (take n (bytes_from journal (offset_after size start at))) ≡ n = length-take-le n (bytes_from journal (offset_after size start at)) (omega arith) in
    ext_get_or 0 (take n (bytes_from journal (offset_after size start at))) (bytes_at (take long whole) at n)
    (l4 ∙ sym (length-piece (take long whole) at n (omega arith)))
    (λ i below.
    let small : i < n = omega arith in
    get_or-take n (bytes_from journal (offset_after size start at)) i 0 small
    ∙ byte_from journal size (offset_after size start at) i is off.0 off.1 (omega arith)
    ∙ ap (λ k. get_or journal k 0) (offset_both size start at i low high (omega arith))
    ∙ sym (byte_from journal size start (at + i) is low high (omega arith))
    ∙ sym (get_or-take n (drop at (take long whole)) i 0 small ∙ get_or-drop at (take long whole) i 0 ∙ get_or-take long whole (at + i) 0 (omega arith)))

-- the length of the text
pub length-words : (disk : State) (text : Text) → IsDisk disk → IsTrue disk.tells → IsText disk.sectors text → length (words text (content disk)) ≡ text.length
unfolding words
length-words disk text is tells fits =
    let j = length-journal text.span.base text.span.size (content disk) (disk_has disk text.span.base text.span.size is tells fits.on_disk fits.span.whole) in
    length-take-le text.length (bytes_from (journal_bytes (content disk) text.span.base text.span.size) text.start)
    (omega (arith, fits.fits, length-from (journal_bytes (content disk) text.span.base text.span.size) text.span.size text.start j fits.low fits.high))

pub read_piece : (disk : State) (text : Text) (at n : ℕ) (value : List ℕ) → IsDisk disk → IsTrue disk.tells → IsText disk.sectors text → at + n ≤ text.length
    → value ≡ take n (bytes_from (journal_bytes (content disk) text.span.base text.span.size) (offset_after text.span.size text.start at)) → value ≡ bytes_at (words text (content disk)) at n
unfolding words
read_piece disk text at n value is tells fits inside e =
    let j = length-journal text.span.base text.span.size (content disk) (disk_has disk text.span.base text.span.size is tells fits.on_disk fits.span.whole) in
    e ∙ text_piece (journal_bytes (content disk) text.span.base text.span.size) text.span.size text.start text.length at n j fits.low fits.high fits.fits inside

-- a number in a piece of the text
pub number_in : (order : Order) (n k at m : ℕ) (text : List ℕ) → k + n ≤ m → at + m ≤ length text → number_at order n (bytes_at text at m) k ≡ number_at order n text (at + k)
number_in order n k at m text small fits =
    sym (number_at-front order n k (take m (drop at text)) (drop m (drop at text)) (omega (arith, length-piece text at m fits)))
    ∙ ap (λ (l : List ℕ). number_at order n l k) (take-append-drop m (drop at text))
    ∙ number_at-drop order n k (drop at text)
    ∙ ap (λ (l : List ℕ). number_at order n l 0) (drop-drop k at text ∙ ap (λ i. drop i text) (omega arith))
    ∙ sym (number_at-drop order n (at + k) text)

pub entry_in : (order : Order) (at : ℕ) (text : List ℕ) → at + 16 ≤ length text → entry_at order (bytes_at text at 16) 0 ≡ entry_at order text at
entry_in order at text fits =
    let a : number_at order 8 (bytes_at text at 16) 0 ≡ number_at order 8 text at = number_in order 8 0 at 16 text (omega arith) fits ∙ ap (λ i. number_at order 8 text i) (omega arith) in
    let b = number_in order 4 8 at 16 text (omega arith) fits in
    let d = number_in order 4 12 at 16 text (omega arith) fits in
    cc
