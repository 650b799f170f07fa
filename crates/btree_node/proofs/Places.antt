-- A field that is written into bytes, place by place.
use Rattle.std.proofs.Common.{◌≡◌, ℕ, add-zero, ◌+◌, ◌-◌, ◌*◌, ◌^◌, ◌<◌, ◌≤◌, List, ◌++◌, length, take, drop, get_or, sym, ◌∙◌, ap, arith, append_assoc}
use Rattle.std.proofs.lemmas.List.{length-take, length-append, get_or-take, get_or-drop, get_or-append_right, get_or_append_left}
use Rattle.hx_bytes.specs.Field.{put_at, big_at, big, number_at}
use Rattle.hx_bytes.specs.declared.fields.Order.TheVariants.{Big}
use Rattle.hx_bytes.proofs.Laws.{number_at-number_bytes}

-- a field of two bytes by its bytes
pub two_bytes : (bytes : List ℕ) (at : ℕ) → big_at 2 bytes at ≡ get_or bytes at 0 * 256 + get_or bytes (at + 1) 0
unfolding number_at
two_bytes bytes at =
    let first : get_or (drop at bytes) 0 0 ≡ get_or bytes at 0 = get_or-drop at bytes 0 0 ∙ ap (λ k. get_or bytes k 0) (add-zero at) in
    omega (arith, first, get_or-drop at bytes 1 0)

-- bytes that agree at two places have one field there
pub same_two : (old new : List ℕ) (at to : ℕ) → get_or new to 0 ≡ get_or old at 0 → get_or new (to + 1) 0 ≡ get_or old (at + 1) 0 → big_at 2 new to ≡ big_at 2 old at
same_two old new at to first second = omega (arith, two_bytes old at, two_bytes new to)

-- what is put is read there
pub number-put : (n x at : ℕ) (bytes : List ℕ) → at ≤ length bytes → x < 256 ^ n → big_at n (put_at bytes at (big n x)) at ≡ x
number-put n x at bytes within small =
    ap (λ (l : List ℕ). big_at n l at) (append_assoc (take at bytes) (big n x) (drop (at + length (big n x)) bytes))
    ∙ number_at-number_bytes Big n x at (take at bytes) (drop (at + length (big n x)) bytes) (omega (arith, length-take at bytes)) small

-- places below what is put are as before
pub put-below : (bytes new : List ℕ) (at k : ℕ) → at ≤ length bytes → k < at → get_or (put_at bytes at new) k 0 ≡ get_or bytes k 0
put-below bytes new at k within low =
    let long : length (take at bytes) ≡ at = omega (arith, length-take at bytes) in
    get_or_append_left (take at bytes ++ new) (drop (at + length new) bytes) 0 k (omega (arith, long, length-append (take at bytes) new))
    ∙ get_or_append_left (take at bytes) new 0 k (omega (arith, long))
    ∙ get_or-take at bytes k 0 low

-- and so are those above
pub put-above : (bytes new : List ℕ) (at k : ℕ) → at + length new ≤ length bytes → at + length new ≤ k → get_or (put_at bytes at new) k 0 ≡ get_or bytes k 0
put-above bytes new at k within high =
    let long : length (take at bytes) ≡ at = omega (arith, length-take at bytes) in
    let front : length (take at bytes ++ new) ≡ at + length new = omega (arith, long, length-append (take at bytes) new) in
    get_or-append_right (take at bytes ++ new) (drop (at + length new) bytes) (at + length new) k 0 front high
    ∙ get_or-drop (at + length new) bytes (k - (at + length new)) 0
    ∙ ap (λ j. get_or bytes j 0) (omega arith)

-- the byte at a place of what is left from another on
byte_in : (bytes : List ℕ) (at k : ℕ) → get_or (drop at bytes) k 0 ≡ get_or bytes (at + k) 0
byte_in bytes at k = get_or-drop at bytes k 0

-- bytes that agree at four places have one field there
pub same_four : (old new : List ℕ) (at : ℕ) → ((k : ℕ) → k < 4 → get_or new (at + k) 0 ≡ get_or old (at + k) 0) → big_at 4 new at ≡ big_at 4 old at
unfolding number_at
same_four old new at same =
    let each : (k : ℕ) → k < 4 → get_or (drop at new) k 0 ≡ get_or (drop at old) k 0 = λ k low. byte_in new at k ∙ same k low ∙ sym (byte_in old at k) in
    omega (arith, each 0 (omega arith), each 1 (omega arith), each 2 (omega arith), each 3 (omega arith))
