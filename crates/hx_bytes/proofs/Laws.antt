-- Fields written and read again, read and written again.
use Rattle.std.proofs.Common.{◌⊎◌, ◌≡◌, ℕ, zero, suc, ◌+◌, ◌-◌, ◌^◌, ◌<◌, ◌≤◌, List, ◌++◌, length, take, drop, get_or, inl, inr, refl, sym, ◌∙◌, ap, subst, arith, length-drop, append_assoc}
use Rattle.std.proofs.lemmas.List.{length-take, length-append, get_or_append_left, get_or-append_right, get_or-take, get_or-drop, drop-append-le, drop-drop}
use Rattle.std.proofs.lemmas.Nat.{be_bytes_2, be_bytes_4, be_bytes_8, le_bytes_2, le_bytes_4, le_bytes_8}
use Rattle.std.proofs.Math.ListN.{get_or-eq_default}
use Rattle.std.proofs.lemmas.Bool.{cases_lt}
use Rattle.std.proofs.Math.Seq.{drop-append_seam, take-append_seam, drop-append-add}
use Rattle.std.specs.Int.{byte_at, bytes_high_first, bytes_low_first}
use Rattle.byteorder.specs.Endian.{big_number, little_number}
use Rattle.byteorder.specs.Numbers.{big_from-lt, little_from-lt, big_from-take, little_from-take, big_from-append, little_from-append, big_number-reads_back, little_number-reads_back, length-bytes_high_first, length-bytes_low_first}
use Rattle.hx_bytes.specs.Field.{number_at, number_bytes, put_at, AreBytes}
use Rattle.hx_bytes.specs.declared.fields.Order.{Order}
use Rattle.hx_bytes.specs.declared.fields.Order.TheVariants.{Little, Big}

-- a field has its n bytes
pub length-number_bytes : (order : Order) (n x : ℕ) → length (number_bytes order n x) ≡ n
unfolding number_bytes
length-number_bytes Little n x = length-bytes_low_first 0 n x
length-number_bytes Big n x = length-bytes_high_first n x

-- the number of a field at the front of a list
front_number : (order : Order) (n x : ℕ) (rest : List ℕ) → x < 256 ^ n → number_at order n (number_bytes order n x ++ rest) 0 ≡ x
unfolding number_at number_bytes
front_number Little n x rest small = little_number-reads_back n x rest small
front_number Big n x rest small = big_number-reads_back n x rest small

-- a field is read at a place as in what is left from there on
pub number_at-drop : (order : Order) (n at : ℕ) (bytes : List ℕ) → number_at order n bytes at ≡ number_at order n (drop at bytes) 0
unfolding number_at
number_at-drop Little n at bytes = refl
number_at-drop Big n at bytes = refl

-- a field that stands behind a front, read at the front's end
pub number_at-number_bytes : (order : Order) (n x at : ℕ) (front rest : List ℕ) → length front ≡ at → x < 256 ^ n → number_at order n (front ++ (number_bytes order n x ++ rest)) at ≡ x
number_at-number_bytes order n x at front rest long small =
    number_at-drop order n at (front ++ (number_bytes order n x ++ rest))
    ∙ ap (λ (l : List ℕ). number_at order n l 0) (subst (λ (k : ℕ). drop k (front ++ (number_bytes order n x ++ rest)) ≡ number_bytes order n x ++ rest) long (drop-append_seam front (number_bytes order n x ++ rest)))
    ∙ front_number order n x rest small

-- a field of a front is the same in the whole
pub number_at-front : (order : Order) (n at : ℕ) (front rest : List ℕ) → at + n ≤ length front → number_at order n (front ++ rest) at ≡ number_at order n front at
unfolding number_at
number_at-front Little n at front rest fits = ap (λ (l : List ℕ). little_number n l) (drop-append-le at front rest (omega arith)) ∙ little_from-append n (drop at front) rest (omega (arith, length-drop at front))
number_at-front Big n at front rest fits = ap (λ (l : List ℕ). big_number n l) (drop-append-le at front rest (omega arith)) ∙ big_from-append n (drop at front) rest (omega (arith, length-drop at front))

-- a field past a front is that of what follows
pub number_at-behind : (order : Order) (n at k : ℕ) (front rest : List ℕ) → length front ≡ k → number_at order n (front ++ rest) (k + at) ≡ number_at order n rest at
number_at-behind order n at k front rest long =
    number_at-drop order n (k + at) (front ++ rest)
    ∙ ap (λ (l : List ℕ). number_at order n l 0) (subst (λ (j : ℕ). drop (j + at) (front ++ rest) ≡ drop at rest) long (drop-append-add front rest at))
    ∙ sym (number_at-drop order n at rest)

are_taken : (n at : ℕ) (bytes : List ℕ) → AreBytes bytes → (k : ℕ) → get_or (take n (drop at bytes)) k 0 < 256
are_taken n at bytes are k = elim (cases_lt k n) [
  | inl inside ↦ omega (arith, get_or-take n (drop at bytes) k 0 inside, get_or-drop at bytes k 0, are (at + k))
  | inr past ↦ omega (arith, get_or-eq_default (take n (drop at bytes)) 0 {n = k} (omega (arith, past, length-take n (drop at bytes))))
]

-- the bytes of the number read are the bytes
pub number_bytes-number_at_2 : (order : Order) (bytes : List ℕ) (at : ℕ) → at + 2 ≤ length bytes → AreBytes bytes → number_bytes order 2 (number_at order 2 bytes at) ≡ take 2 (drop at bytes)
unfolding number_at number_bytes
number_bytes-number_at_2 Little bytes at fits are = le_bytes_2 (take 2 (drop at bytes)) (little_number 2 (drop at bytes)) (omega (arith, length-take 2 (drop at bytes), length-drop at bytes)) (are_taken 2 at bytes are) (sym (little_from-take 0 2 2 (drop at bytes) (omega arith)) ∙ omega arith)
number_bytes-number_at_2 Big bytes at fits are = be_bytes_2 (take 2 (drop at bytes)) (big_number 2 (drop at bytes)) (omega (arith, length-take 2 (drop at bytes), length-drop at bytes)) (are_taken 2 at bytes are) (sym (big_from-take 0 2 2 (drop at bytes) (omega arith)) ∙ omega arith)

pub number_bytes-number_at_4 : (order : Order) (bytes : List ℕ) (at : ℕ) → at + 4 ≤ length bytes → AreBytes bytes → number_bytes order 4 (number_at order 4 bytes at) ≡ take 4 (drop at bytes)
unfolding number_at number_bytes
number_bytes-number_at_4 Little bytes at fits are = le_bytes_4 (take 4 (drop at bytes)) (little_number 4 (drop at bytes)) (omega (arith, length-take 4 (drop at bytes), length-drop at bytes)) (are_taken 4 at bytes are) (sym (little_from-take 0 4 4 (drop at bytes) (omega arith)) ∙ omega arith)
number_bytes-number_at_4 Big bytes at fits are = be_bytes_4 (take 4 (drop at bytes)) (big_number 4 (drop at bytes)) (omega (arith, length-take 4 (drop at bytes), length-drop at bytes)) (are_taken 4 at bytes are) (sym (big_from-take 0 4 4 (drop at bytes) (omega arith)) ∙ omega arith)

pub number_bytes-number_at_8 : (order : Order) (bytes : List ℕ) (at : ℕ) → at + 8 ≤ length bytes → AreBytes bytes → number_bytes order 8 (number_at order 8 bytes at) ≡ take 8 (drop at bytes)
unfolding number_at number_bytes
number_bytes-number_at_8 Little bytes at fits are = le_bytes_8 (take 8 (drop at bytes)) (little_number 8 (drop at bytes)) (omega (arith, length-take 8 (drop at bytes), length-drop at bytes)) (are_taken 8 at bytes are) (sym (little_from-take 0 8 8 (drop at bytes) (omega arith)) ∙ omega arith)
number_bytes-number_at_8 Big bytes at fits are = be_bytes_8 (take 8 (drop at bytes)) (big_number 8 (drop at bytes)) (omega (arith, length-take 8 (drop at bytes), length-drop at bytes)) (are_taken 8 at bytes are) (sym (big_from-take 0 8 8 (drop at bytes) (omega arith)) ∙ omega arith)

-- a field of n bytes is a number of n bytes
pub number_at-fits : (order : Order) (n at : ℕ) (bytes : List ℕ) → AreBytes bytes → number_at order n bytes at < 256 ^ n
unfolding number_at
number_at-fits Little n at bytes are = little_from-lt 0 n (drop at bytes) (λ i. omega (arith, get_or-drop at bytes i 0, are (at + i)))
number_at-fits Big n at bytes are = big_from-lt 0 n (drop at bytes) (λ i. omega (arith, get_or-drop at bytes i 0, are (at + i)))

byte_at-lt : (i x : ℕ) → byte_at i x < 256
byte_at-lt zero x = omega arith
byte_at-lt (suc i) x = omega arith

are_high : (n x : ℕ) → AreBytes (bytes_high_first n x)
are_high zero x k = omega arith
are_high (suc n) x zero = byte_at-lt n x
are_high (suc n) x (suc k) = are_high n x k

are_low : (i n x : ℕ) → AreBytes (bytes_low_first i n x)
are_low i zero x k = omega arith
are_low i (suc n) x zero = byte_at-lt i x
are_low i (suc n) x (suc k) = are_low (suc i) n x k

-- each byte of a field is a byte
pub are_number_bytes : (order : Order) (n x : ℕ) → AreBytes (number_bytes order n x)
unfolding number_bytes
are_number_bytes Little n x k = are_low 0 n x k
are_number_bytes Big n x k = are_high n x k

-- a list that grows field by field: what stands in front so far, and what was there behind it
pub put_at-more : (cur old front new : List ℕ) (at : ℕ) → length front ≡ at → cur ≡ front ++ drop at old → put_at cur at new ≡ (front ++ new) ++ drop (at + length new) old
put_at-more cur old front new at long is =
    let start : take at cur ≡ front = ap (λ (l : List ℕ). take at l) is ∙ subst (λ (k : ℕ). take k (front ++ drop at old) ≡ front) long (take-append_seam front (drop at old)) in
    let rest : drop (at + length new) cur ≡ drop (at + length new) old = ap (λ (l : List ℕ). drop (at + length new) l) is ∙ subst (λ (k : ℕ). drop (k + length new) (front ++ drop at old) ≡ drop (length new) (drop at old)) long (drop-append-add front (drop at old) (length new)) ∙ drop-drop (length new) at old in
    ap (λ (l : List ℕ). l ++ new ++ drop (at + length new) cur) start ∙ ap (λ (l : List ℕ). front ++ new ++ l) rest

pub length-put_at : (bytes new : List ℕ) (at : ℕ) → at + length new ≤ length bytes → length (put_at bytes at new) ≡ length bytes
length-put_at bytes new at fits = omega (arith, length-append (take at bytes ++ new) (drop (at + length new) bytes), length-append (take at bytes) new, length-take at bytes, length-drop (at + length new) bytes)

-- a field that was put in place
pub number_at-put_at : (order : Order) (n x at : ℕ) (bytes : List ℕ) → at + n ≤ length bytes → x < 256 ^ n → number_at order n (put_at bytes at (number_bytes order n x)) at ≡ x
number_at-put_at order n x at bytes fits small =
    let new = number_bytes order n x in
    ap (λ (l : List ℕ). number_at order n l at) (append_assoc (take at bytes) new (drop (at + length new) bytes))
    ∙ number_at-number_bytes order n x at (take at bytes) (drop (at + length new) bytes) (omega (arith, length-take at bytes)) small

-- what stands elsewhere stays
pub get_or-put_at : (bytes new : List ℕ) (at k : ℕ) → at + length new ≤ length bytes → (k < at) ⊎ (at + length new ≤ k) → get_or (put_at bytes at new) k 0 ≡ get_or bytes k 0
get_or-put_at bytes new at k fits (inl before) =
    ap (λ (l : List ℕ). get_or l k 0) (append_assoc (take at bytes) new (drop (at + length new) bytes))
    ∙ get_or_append_left (take at bytes) (new ++ drop (at + length new) bytes) 0 k (omega (arith, before, length-take at bytes))
    ∙ get_or-take at bytes k 0 before
get_or-put_at bytes new at k fits (inr behind) =
    get_or-append_right (take at bytes ++ new) (drop (at + length new) bytes) (at + length new) k 0 (omega (arith, length-append (take at bytes) new, length-take at bytes)) behind
    ∙ get_or-drop (at + length new) bytes (k - (at + length new)) 0
    ∙ ap (λ j. get_or bytes j 0) (omega (arith, behind, length-append (take at bytes) new, length-take at bytes))
