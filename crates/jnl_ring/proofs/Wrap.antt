-- The bytes of the ring, once round from an offset on.
use Rattle.std.proofs.Common.{◌≡◌, ◌<◌, ◌≤◌, ◌+◌, ◌-◌, ◌%◌, ℕ, List, inl, inr, length, get_or, take, drop, sym, ◌∙◌, ap, arith, length-append, length-take-le, length-drop}
use Rattle.std.proofs.lemmas.Bool.{cases_lt}
use Rattle.std.proofs.lemmas.Bool.Decides.{nat_tests}
use Rattle.std.proofs.lemmas.List.{get_or-take, get_or-drop, get_or_append_left, get_or-append_right}
use Rattle.jnl_format.specs.Ring.{bytes_from, distance, offset_after}

pub offset_before : (size at by : ℕ) → at + by < size → offset_after size at by ≡ at + by
offset_before size at by before = grind (arith, nat_tests)

pub offset_behind : (size at by : ℕ) → size ≤ at + by → offset_after size at by ≡ at + by - size + 512
offset_behind size at by behind = grind (arith, nat_tests)

pub length-from : (journal : List ℕ) (size at : ℕ) → length journal ≡ size → 512 ≤ at → at < size → length (bytes_from journal at) ≡ size - 512
length-from journal size at long after inside =
    omega (arith, long, after, inside, length-append (drop at journal) (take (at - 512) (drop 512 journal)), length-drop at journal, length-drop 512 journal, length-take-le (at - 512) (drop 512 journal) (omega (arith, long, inside, length-drop 512 journal)))

pub byte_from : (journal : List ℕ) (size at j : ℕ) → length journal ≡ size → 512 ≤ at → at < size → j < size - 512 → get_or (bytes_from journal at) j 0 ≡ get_or journal (offset_after size at j) 0
byte_from journal size at j long after inside below =
    let front : length (drop at journal) ≡ size - at = omega (arith, long, length-drop at journal) in
    elim (cases_lt (at + j) size) [
      | inl before ↦
          get_or_append_left (drop at journal) (take (at - 512) (drop 512 journal)) 0 j (omega (arith, front, before, inside)) ∙ get_or-drop at journal j 0
          ∙ ap (λ n. get_or journal n 0) (sym (offset_before size at j before))
      | inr behind ↦
          get_or-append_right (drop at journal) (take (at - 512) (drop 512 journal)) (size - at) j 0 front (omega (arith, behind))
          ∙ get_or-take (at - 512) (drop 512 journal) (j - (size - at)) 0 (omega (arith, behind, below, inside, after)) ∙ get_or-drop 512 journal (j - (size - at)) 0
          ∙ ap (λ n. get_or journal n 0) (omega (arith, behind, inside) ∙ sym (offset_behind size at j behind))
    ]

-- a step that stays before the journal's end
pub offset_steps : (size at by more : ℕ) → at < size → offset_after size at by + more < size → offset_after size at (by + more) ≡ offset_after size at by + more
offset_steps size at by more inside below = elim (cases_lt (at + by) size) [
  | inl before ↦
      let is = offset_before size at by before in
      offset_before size at (by + more) (omega (arith, is, below)) ∙ omega (arith, is)
  | inr behind ↦
      let is = offset_behind size at by behind in
      offset_behind size at (by + more) (omega (arith, behind)) ∙ omega (arith, is, behind)
]

-- two steps are one
pub offset_sum : (size at a b : ℕ) → 512 ≤ at → at < size → a + b ≤ size - 512 → offset_after size (offset_after size at a) b ≡ offset_after size at (a + b)
offset_sum size at a b after inside short = elim (cases_lt (at + a) size) [
  | inl before ↦
      let is = offset_before size at a before in
      ap (λ n. offset_after size n b) is ∙ elim (cases_lt (at + a + b) size) [
        | inl both ↦ offset_before size (at + a) b both ∙ omega arith ∙ sym (offset_before size at (a + b) (omega (arith, both)))
        | inr past ↦ offset_behind size (at + a) b past ∙ omega arith ∙ sym (offset_behind size at (a + b) (omega (arith, past)))
      ]
  | inr behind ↦
      let is = offset_behind size at a behind in
      offset_before size (offset_after size at a) b (omega (arith, is, behind, short, inside)) ∙ omega (arith, is, behind) ∙ sym (offset_behind size at (a + b) (omega (arith, behind)))
]

-- an offset further on lies in the buffer
pub offset_inside : (size at by : ℕ) → 512 ≤ at → at < size → by ≤ size - 512 → offset_after size at by < size
offset_inside size at by after inside short = elim (cases_lt (at + by) size) [
  | inl before ↦ omega (arith, offset_before size at by before, before)
  | inr behind ↦ omega (arith, offset_behind size at by behind, behind, inside, short, after)
]

pub offset_after_header : (size at by : ℕ) → 512 ≤ at → 512 ≤ offset_after size at by
offset_after_header size at by after = elim (cases_lt (at + by) size) [
  | inl before ↦ omega (arith, offset_before size at by before, after)
  | inr behind ↦ omega (arith, offset_behind size at by behind)
]

pub distance_ahead : (size start end : ℕ) → start ≤ end → distance size start end ≡ end - start
distance_ahead size start end ahead = grind (arith, nat_tests)

pub distance_behind : (size start end : ℕ) → end < start → distance size start end ≡ (size - 512) - (start - end)
distance_behind size start end behind = grind (arith, nat_tests)

-- the distance leads from one to the other
pub distance_reaches : (size start end : ℕ) → 512 ≤ end → start < size → end < size → offset_after size start (distance size start end) ≡ end
distance_reaches size start end after start_inside end_inside = elim (cases_lt end start) [
  | inl behind ↦
      let is = distance_behind size start end behind in
      offset_behind size start (distance size start end) (omega (arith, is, behind, start_inside, after)) ∙ omega (arith, is, behind, start_inside, after)
  | inr ahead ↦
      let is = distance_ahead size start end ahead in
      offset_before size start (distance size start end) (omega (arith, is, ahead, end_inside)) ∙ omega (arith, is, ahead)
]

-- and so many bytes on from an offset the distance is as many
pub distance_after : (size start by : ℕ) → 512 ≤ start → start < size → by < size - 512 → distance size start (offset_after size start by) ≡ by
distance_after size start by after inside short = elim (cases_lt (start + by) size) [
  | inl before ↦
      let is = offset_before size start by before in
      distance_ahead size start (offset_after size start by) (omega (arith, is)) ∙ omega (arith, is)
  | inr behind ↦
      let is = offset_behind size start by behind in
      distance_behind size start (offset_after size start by) (omega (arith, is, behind, inside, short, after)) ∙ omega (arith, is, behind, inside, short, after)
]

pub distance_short : (size start end : ℕ) → 512 ≤ start → 512 ≤ end → start < size → end < size → distance size start end < size - 512
distance_short size start end after end_after start_inside end_inside = elim (cases_lt end start) [
  | inl behind ↦ omega (arith, distance_behind size start end behind, behind, start_inside, end_after)
  | inr ahead ↦ omega (arith, distance_ahead size start end ahead, ahead, end_inside, after)
]

-- between offsets at which sectors begin there are whole sectors
pub distance_whole : (size start end : ℕ) → size % 512 ≡ 0 → start % 512 ≡ 0 → end % 512 ≡ 0 → 512 ≤ end → start < size → distance size start end % 512 ≡ 0
distance_whole size start end is whole end_whole after inside = elim (cases_lt end start) [
  | inl behind ↦ omega (arith, distance_behind size start end behind, is, whole, end_whole, after, behind, inside)
  | inr ahead ↦ omega (arith, distance_ahead size start end ahead, ahead, whole, end_whole)
]
