-- Parts of a list of bytes: put in place, read where they stand, and spelled again as they were read.
use Rattle.std.proofs.Common.{◌≡◌, ℕ, ◌+◌, ◌^◌, ◌<◌, ◌≤◌, List, [], ◌++◌, length, take, drop, refl, sym, ◌∙◌, ap, subst, append_assoc, take-append-drop, take-add}
use Rattle.std.proofs.Math.Seq.{drop-append_seam, take-append_seam, drop-append-add}
use Rattle.hx_bytes.specs.Field.{number_at, number_bytes, put_at, AreBytes}
use Rattle.hx_bytes.specs.declared.fields.Order.{Order}
use Rattle.hx_bytes.proofs.Laws.{length-number_bytes, number_at-number_bytes, number_at-drop, number_bytes-number_at_2, number_bytes-number_at_4, number_bytes-number_at_8}
use Rattle.hx_bytes.proofs.Reading.{Behind, behind_part}
use Rattle.hx_bytes.proofs.Spelling.{Spelled, spelled_part}

-- a part put in place of one of the same length
pub put_middle : (front mid tail new : List ℕ) (at : ℕ) → length front ≡ at → length mid ≡ length new → put_at (front ++ (mid ++ tail)) at new ≡ front ++ (new ++ tail)
put_middle front mid tail new at long same =
    let whole = front ++ (mid ++ tail) in
    let first : take at whole ≡ front = (let P : ℕ → Type 0 = λ k. take k (front ++ (mid ++ tail)) ≡ front in subst P long (take-append_seam front (mid ++ tail))) in
    let last : drop (at + length new) whole ≡ tail =
    (let P : ℕ → Type 0 = λ k. drop (k + length new) (front ++ (mid ++ tail)) ≡ drop (length new) (mid ++ tail) in subst P long (drop-append-add front (mid ++ tail) (length new)))
    ∙ (let P : ℕ → Type 0 = λ k. drop k (mid ++ tail) ≡ tail in subst P same (drop-append_seam mid tail)) in
    ap (λ (l : List ℕ). l ++ new ++ drop (at + length new) whole) first ∙ ap (λ (l : List ℕ). front ++ new ++ l) last ∙ append_assoc front new tail

-- a number put in place of one of as many bytes
pub put_number : (o : Order) (n x y at : ℕ) (front tail : List ℕ) → length front ≡ at → put_at (front ++ (number_bytes o n x ++ tail)) at (number_bytes o n y) ≡ front ++ (number_bytes o n y ++ tail)
put_number o n x y at front tail long = put_middle front (number_bytes o n x) tail (number_bytes o n y) at long (length-number_bytes o n x ∙ sym (length-number_bytes o n y))

-- a part put where it was read
put_own : (bytes part : List ℕ) (at n : ℕ) → length part ≡ n → part ≡ take n (drop at bytes) → put_at bytes at part ≡ bytes
put_own bytes part at n long is =
    ap (λ (k : ℕ). take at bytes ++ part ++ drop (at + k) bytes) long
    ∙ ap (λ (l : List ℕ). take at bytes ++ l ++ drop (at + n) bytes) is
    ∙ ap (λ (l : List ℕ). l ++ drop (at + n) bytes) (sym (take-add at n bytes))
    ∙ take-append-drop (at + n) bytes

-- a number put where it was read
pub put_own_2 : (o : Order) (bytes : List ℕ) (at x : ℕ) → at + 2 ≤ length bytes → AreBytes bytes → number_at o 2 bytes at ≡ x → put_at bytes at (number_bytes o 2 x) ≡ bytes
put_own_2 o bytes at x fits are is = put_own bytes (number_bytes o 2 x) at 2 (length-number_bytes o 2 x) (ap (λ k. number_bytes o 2 k) (sym is) ∙ number_bytes-number_at_2 o bytes at fits are)

pub put_own_4 : (o : Order) (bytes : List ℕ) (at x : ℕ) → at + 4 ≤ length bytes → AreBytes bytes → number_at o 4 bytes at ≡ x → put_at bytes at (number_bytes o 4 x) ≡ bytes
put_own_4 o bytes at x fits are is = put_own bytes (number_bytes o 4 x) at 4 (length-number_bytes o 4 x) (ap (λ k. number_bytes o 4 k) (sym is) ∙ number_bytes-number_at_4 o bytes at fits are)

pub put_own_8 : (o : Order) (bytes : List ℕ) (at x : ℕ) → at + 8 ≤ length bytes → AreBytes bytes → number_at o 8 bytes at ≡ x → put_at bytes at (number_bytes o 8 x) ≡ bytes
put_own_8 o bytes at x fits are is = put_own bytes (number_bytes o 8 x) at 8 (length-number_bytes o 8 x) (ap (λ k. number_bytes o 8 k) (sym is) ∙ number_bytes-number_at_8 o bytes at fits are)

-- the number that stands here, in an order
pub ordered_here : {whole : List ℕ} {at : ℕ} (o : Order) (rest : List ℕ) (n x : ℕ) → x < 256 ^ n → Behind whole (number_bytes o n x ++ rest) at → number_at o n whole at ≡ x
ordered_here {whole} {at} o rest n x fits here = number_at-drop o n at whole ∙ ap (λ (l : List ℕ). number_at o n l 0) here.is ∙ number_at-number_bytes o n x 0 [] rest refl fits

-- past a number
pub ordered_past : {whole rest : List ℕ} {at : ℕ} (o : Order) (n x : ℕ) → Behind whole (number_bytes o n x ++ rest) at → Behind whole rest (at + n)
ordered_past o n x here = behind_part (number_bytes o n x) n (length-number_bytes o n x) here

-- one number more of what was read, in an order
pub respelled_2 : {bytes front : List ℕ} {at long : ℕ} (o : Order) → AreBytes bytes → at + long + 2 ≤ length bytes → Spelled bytes front at long → Spelled bytes (front ++ number_bytes o 2 (number_at o 2 bytes (at + long))) at (long + 2)
respelled_2 {bytes} {front} {at} {long} o are fits so_far = spelled_part _ 2 so_far (number_bytes-number_at_2 o bytes (at + long) fits are)

pub respelled_4 : {bytes front : List ℕ} {at long : ℕ} (o : Order) → AreBytes bytes → at + long + 4 ≤ length bytes → Spelled bytes front at long → Spelled bytes (front ++ number_bytes o 4 (number_at o 4 bytes (at + long))) at (long + 4)
respelled_4 {bytes} {front} {at} {long} o are fits so_far = spelled_part _ 4 so_far (number_bytes-number_at_4 o bytes (at + long) fits are)

pub respelled_8 : {bytes front : List ℕ} {at long : ℕ} (o : Order) → AreBytes bytes → at + long + 8 ≤ length bytes → Spelled bytes front at long → Spelled bytes (front ++ number_bytes o 8 (number_at o 8 bytes (at + long))) at (long + 8)
respelled_8 {bytes} {front} {at} {long} o are fits so_far = spelled_part _ 8 so_far (number_bytes-number_at_8 o bytes (at + long) fits are)
