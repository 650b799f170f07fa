-- Numbers in a row, cut and put together.
use Rattle.std.proofs.Common.{◌≡◌, ℕ, suc, zero, ◌+◌, ◌≤◌, List, ◌∷◌, ◌++◌, take, drop, refl, sym, ◌∙◌, ap, arith, add-zero, zero-add}
use Rattle.std.specs.List.{range_with_len}

pub range-append : (a m n : ℕ) → range_with_len a (m + n) ≡ range_with_len a m ++ range_with_len (a + m) n
range-append a zero n = ap (λ k. range_with_len a k) (zero-add n) ∙ ap (λ k. range_with_len k n) (sym (add-zero a))
range-append a (suc m) n =
    let less : suc m + n ≡ suc (m + n) = omega arith in
    let next : a + 1 + m ≡ a + suc m = omega arith in
    ap (λ k. range_with_len a k) less ∙ ap (λ (l : List ℕ). a ∷ l) (range-append (a + 1) m n ∙ ap (λ k. range_with_len (a + 1) m ++ range_with_len k n) next)

-- cut at a place
pub take-range : (n a m : ℕ) → n ≤ m → take n (range_with_len a m) ≡ range_with_len a n
take-range zero a m le = refl
take-range (suc n) a zero le = absurd (omega arith)
take-range (suc n) a (suc m) le = ap (λ (l : List ℕ). a ∷ l) (take-range n (a + 1) m (omega arith))

pub drop-range : (n a m k : ℕ) → n + k ≡ m → drop n (range_with_len a m) ≡ range_with_len (a + n) k
drop-range zero a m k is = let same : k ≡ m = omega arith in ap (λ j. range_with_len a j) (sym same) ∙ ap (λ j. range_with_len j k) (sym (add-zero a))
drop-range (suc n) a zero k is = absurd (omega arith)
drop-range (suc n) a (suc m) k is = let next : a + 1 + n ≡ a + suc n = omega arith in drop-range n (a + 1) m k (omega arith) ∙ ap (λ j. range_with_len j k) next
