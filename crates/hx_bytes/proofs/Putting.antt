-- Stretches of bytes written one behind the other, and what a field leaves of a number.
use Rattle.std.proofs.Common.{◌≡◌, ℕ, ◌+◌, ◌/◌, ◌%◌, ◌<◌, ◌≤◌, List, [], ◌∷◌, ◌++◌, length, take, drop, set, sym, ◌∙◌, ap, arith, append_assoc, add-zero}
use Rattle.std.proofs.lemmas.List.{length-take, length-append, append-nil, take-append-drop, drop_all, take-set, drop-set}
use Rattle.hx_bytes.specs.Field.{number_bytes, put_at}
use Rattle.hx_bytes.specs.declared.fields.Order.{Order}
use Rattle.hx_bytes.specs.declared.fields.Order.TheVariants.{Little, Big}
use Rattle.hx_bytes.proofs.Laws.{put_at-more}

-- a field written right behind another is both of them written at once
pub put_at-next : (old first second : List ℕ) (at next : ℕ) → at ≤ length old → next ≡ at + length first → put_at (put_at old at first) next second ≡ put_at old at (first ++ second)
put_at-next old first second at next fits is =
    put_at-more (put_at old at first) old (take at old ++ first) second next
    (omega (arith, length-append (take at old) first, length-take at old))
    (ap (λ (k : ℕ). take at old ++ first ++ drop k old) (sym is))
    ∙ ap (λ (l : List ℕ). l ++ drop (next + length second) old) (append_assoc (take at old) first second)
    ∙ ap (λ (k : ℕ). take at old ++ (first ++ second) ++ drop k old) (omega (arith, length-append first second))

-- the same, for what stands there after the first and after the second
pub put_at-grows : (old cur new first second : List ℕ) (at next : ℕ) → at ≤ length old → next ≡ at + length first → cur ≡ put_at old at first → new ≡ put_at cur next second → new ≡ put_at old at (first ++ second)
put_at-grows old cur new first second at next fits is was now = now ∙ ap (λ (l : List ℕ). put_at l next second) was ∙ put_at-next old first second at next fits is

-- nothing written changes nothing
pub put_at-nothing : (old : List ℕ) (at : ℕ) → put_at old at [] ≡ old
put_at-nothing old at = ap (λ (k : ℕ). take at old ++ [] ++ drop k old) (add-zero at) ∙ ap (λ (l : List ℕ). l ++ drop at old) (append-nil (take at old)) ∙ take-append-drop at old

-- a list written over the whole of another
pub put_at-whole : (old new : List ℕ) → length new ≡ length old → put_at old 0 new ≡ new
put_at-whole old new long = ap (λ (l : List ℕ). new ++ l) (drop_all (0 + length new) old (omega arith)) ∙ append-nil new

-- the rest of a list, written at its place
pub put_at-end : (old new : List ℕ) (at : ℕ) → at + length new ≡ length old → put_at old at new ≡ take at old ++ new
put_at-end old new at long = ap (λ (l : List ℕ). take at old ++ new ++ l) (drop_all (at + length new) old (omega arith)) ∙ append-nil (take at old ++ new)

-- one byte written
pub put_at-byte : (old : List ℕ) (at byte : ℕ) → at < length old → set old at byte ≡ put_at old at (byte ∷ [])
put_at-byte old at byte fits =
    sym (take-append-drop at (set old at byte))
    ∙ ap (λ (l : List ℕ). l ++ drop at (set old at byte)) (take-set old at byte)
    ∙ ap (λ (l : List ℕ). take at old ++ l) (drop-set old at byte fits)
    ∙ sym (append_assoc (take at old) (byte ∷ []) (drop (at + 1) old))

-- the bytes above a field don't matter to it
pub number_bytes-low_2 : (order : Order) (x : ℕ) → number_bytes order 2 (x % 65536) ≡ number_bytes order 2 x
unfolding number_bytes
number_bytes-low_2 order x =
    let low : x % 65536 % 256 ≡ x % 256 = omega arith in
    let high : x % 65536 / 256 % 256 ≡ x / 256 % 256 = omega arith in
    elim order as (λ o. number_bytes o 2 (x % 65536) ≡ number_bytes o 2 x) [ Little ↦ cc | Big ↦ cc ]

pub number_bytes-low_4 : (order : Order) (x : ℕ) → number_bytes order 4 (x % 4294967296) ≡ number_bytes order 4 x
unfolding number_bytes
number_bytes-low_4 order x =
    let first : x % 4294967296 % 256 ≡ x % 256 = omega arith in
    let second : x % 4294967296 / 256 % 256 ≡ x / 256 % 256 = omega arith in
    let third : x % 4294967296 / 65536 % 256 ≡ x / 65536 % 256 = omega arith in
    let fourth : x % 4294967296 / 16777216 % 256 ≡ x / 16777216 % 256 = omega arith in
    elim order as (λ o. number_bytes o 4 (x % 4294967296) ≡ number_bytes o 4 x) [ Little ↦ cc | Big ↦ cc ]
