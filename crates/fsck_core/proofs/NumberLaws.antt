-- Numbers in order: how many are one number.
use Rattle.std.proofs.Common.{◌≡◌, ◌<◌, ◌≤◌, ℕ, ◌+◌, ◌-◌, Bool, true, false, cond, if◌then◌else◌, ◌==◌, nat_lt, List, [], ◌∷◌, ◌++◌, length, take, get_or, sym, ◌∙◌, ap, arith, ⊎_elim}
use Rattle.std.specs.List.Sorted.{IsPartitionPoint}
use Rattle.std.specs.List.{count_by}
use Rattle.std.proofs.lemmas.List.Sums.{sum_by-append, sum_by-cons, sum_by_more}
use Rattle.std.proofs.lemmas.Bool.{cases_lt}
use Rattle.alloc_bitmap.specs.Apart.{times}
use Rattle.fsck_list.proofs.Ranges.{IsStretch, stretch_of_number, range_length, count_passing}
use Rattle.fsck_core.proofs.RowLaws.{below_true, below_false}

-- those that are one number stand between two places
pub numbers_between : (numbers : List ℕ) (number from to : ℕ) → from ≤ length numbers → to ≤ length numbers
    → IsPartitionPoint (λ (n : ℕ). nat_lt n number ≡ true) (λ (n : ℕ). nat_lt n number ≡ false) numbers from
    → IsPartitionPoint (λ (n : ℕ). nat_lt n (number + 1) ≡ true) (λ (n : ℕ). nat_lt n (number + 1) ≡ false) numbers to → to - from ≡ times number numbers
numbers_between numbers number from to inside_from inside_to first last =
    sym (range_length (λ (n : ℕ). n == number) numbers from to stretch) ∙ count_passing (λ (n : ℕ). n == number) numbers
  where
    order : from ≤ to
    order = ⊎_elim
        (λ (less : to < from).
        let high : number + 1 ≤ get_or numbers to 0 = below_false (get_or numbers to 0) (number + 1) (last.1 to 0 (omega arith) (omega (arith, less, inside_from))) in
        let low : get_or numbers to 0 < number = below_true (get_or numbers to 0) number (first.0 to 0 (omega arith) less) in
        absurd (omega (arith, high, low)))
        (λ (most : from ≤ to). most)
        (cases_lt to from)

    stretch : IsStretch (λ (n : ℕ). n == number) numbers from to
    stretch = stretch_of_number (λ (n : ℕ). n) numbers number from to order inside_to
        (λ k d less. below_true (get_or numbers k d) number (first.0 k d (omega arith) less))
        (λ k d start less. below_false (get_or numbers k d) number (first.1 k d start less))
        (λ k d less. let low = below_true (get_or numbers k d) (number + 1) (last.0 k d (omega arith) less) in omega (arith, low))
        (λ k d start less. let high = below_false (get_or numbers k d) (number + 1) (last.1 k d start less) in omega (arith, high))

-- one number more
pub times_push : (numbers new : List ℕ) (x number : ℕ) → new ≡ numbers ++ x ∷ [] → times number new ≡ times number numbers + (if x == number then 1 else 0)
times_push numbers new x number is =
    ap (times number) is ∙ sum_by-append (λ (n : ℕ). cond (n == number) 1 0) numbers (x ∷ [])
    ∙ ap (λ m. times number numbers + m) (sum_by-cons (λ (n : ℕ). cond (n == number) 1 0) x [] ∙ add-zero (cond (x == number) 1 0))
  where
    add-zero : (n : ℕ) → n + 0 ≡ n
    add-zero n = omega arith

-- one item more of a list
pub counted_more : {X : Type 0} (p : X → Bool) (xs : List X) (k : ℕ) (d : X) → k < length xs → count_by p (take (k + 1) xs) ≡ count_by p (take k xs) + (if p (get_or xs k d) then 1 else 0)
counted_more p xs k d inside = sum_by_more (λ y. cond (p y) 1 0) xs k d inside
