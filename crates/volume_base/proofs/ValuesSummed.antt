-- What becomes of the values of several attributes, summed name by name.
use Rattle.std.proofs.Common.{◌≡◌, ◌<◌, ℕ, ◌+◌, List, [], ◌∷◌, ◌++◌, length, map, take, get_or, sym, ◌∙◌, ap, arith}
use Rattle.std.specs.Prelude.{sum}
use Rattle.std.proofs.lemmas.List.Sums.{sum_by-cons}
use Rattle.std.proofs.lemmas.List.{map-append, take_more}

sum_more : (xs : List ℕ) (n : ℕ) → sum (xs ++ n ∷ []) ≡ sum xs + n
sum_more [] n = omega arith
sum_more (x ∷ xs) n = omega (arith, sum_more xs n, sum_by-cons (λ k. k) x (xs ++ n ∷ []), sum_by-cons (λ k. k) x xs)

-- with one name more
pub summed : (f : List ℕ → ℕ) (names : List (List ℕ)) (i : ℕ) (name : List ℕ) → i < length names → name ≡ get_or names i name → sum (map f (take (i + 1) names)) ≡ sum (map f (take i names)) + f name
summed f names i name low is =
    ap (λ (l : List (List ℕ)). sum (map f l)) (take_more names i name low) ∙ ap sum (map-append f (take i names) (get_or names i name ∷ [])) ∙ sum_more (map f (take i names)) (f (get_or names i name))
    ∙ ap (λ (n : List ℕ). sum (map f (take i names)) + f n) (sym is)
