-- How many nodes are written, and the room for more.
use Rattle.std.proofs.Common.{◌≡◌, ◌≢◌, ℕ, suc, zero, ◌+◌, ◌*◌, ◌/◌, ◌≤◌, ◌<◌, Bool, true, false, not, cond, List, [], ◌∷◌, min, refl, sym, ◌∙◌, ap, arith, ⊎_elim}
use Rattle.std.specs.List.{Contains, list_all, count_by, range_with_len}
use Rattle.std.proofs.Math.Nat.{le-div_iff_mul-le, lt-div-mul-add}
use Rattle.std.proofs.lemmas.Bool.{cases_lt, cases_eq, cases_Bool, and_from, and_parts}
use Rattle.std.proofs.lemmas.List.Sums.{sum_by-cons}
use Rattle.btree_file.specs.Putting.{unput}

here : (x : ℕ) (xs : List ℕ) → Contains (x ∷ xs) x
here x xs = (0, omega arith, refl)

there : (x : ℕ) (xs : List ℕ) (s : ℕ) → Contains xs s → Contains (x ∷ xs) s
there x xs s c = (suc c.0, omega (arith, c.1), c.2)

-- a test passes on each of a list
pub all_from : (p : ℕ → Bool) (xs : List ℕ) → ((s : ℕ) → Contains xs s → p s ≡ true) → list_all p xs ≡ true
all_from p [] each = refl
all_from p (x ∷ xs) each = and_from (p x) (list_all p xs) (each x (here x xs)) (all_from p xs (λ s c. each s (there x xs s c)))

pub all_same : (p q : ℕ → Bool) (xs : List ℕ) → ((s : ℕ) → Contains xs s → q s ≡ p s) → list_all q xs ≡ list_all p xs
all_same p q [] each = refl
all_same p q (x ∷ xs) each = let e = each x (here x xs) in let r = all_same p q xs (λ s c. each s (there x xs s c)) in rw (e, r) refl

pub all_still : (p q : ℕ → Bool) (xs : List ℕ) → ((s : ℕ) → p s ≡ true → q s ≡ true) → list_all p xs ≡ true → list_all q xs ≡ true
all_still p q [] grows all = refl
all_still p q (x ∷ xs) grows all = let parts = and_parts (p x) (list_all p xs) all in and_from (q x) (list_all q xs) (grows x parts.0) (all_still p q xs grows parts.1)

-- nothing is left to put exactly where all was put
pub none_unput : (put : ℕ → Bool) (xs : List ℕ) → list_all put xs ≡ true → unput put xs ≡ 0
none_unput put [] all = refl
none_unput put (x ∷ xs) all =
    let parts = and_parts (put x) (list_all put xs) all in
    sum_by-cons (λ (s : ℕ). cond (not (put s)) 1 0) x xs ∙ rw parts.0 (omega (arith, none_unput put xs parts.1))

-- ---- counts over numbers
pub count_step : (p : ℕ → Bool) (a n : ℕ) → count_by p (range_with_len a (suc n)) ≡ cond (p a) 1 0 + count_by p (range_with_len (a + 1) n)
count_step p a n = sum_by-cons (λ (k : ℕ). cond (p k) 1 0) a (range_with_len (a + 1) n)

pub count_same : (p q : ℕ → Bool) (a n : ℕ) → ((k : ℕ) → a ≤ k → k < a + n → q k ≡ p k) → count_by q (range_with_len a n) ≡ count_by p (range_with_len a n)
count_same p q a zero same = refl
count_same p q a (suc n) same =
    let e = same a (omega arith) (omega arith) in
    let r = count_same p q (a + 1) n (λ k low high. same k (omega (arith, low)) (omega (arith, high))) in
    count_step q a n ∙ rw (e, r) (sym (count_step p a n))

-- one number less passes the test
pub count_less : (p q : ℕ → Bool) (a n m : ℕ) → a ≤ m → m < a + n → q m ≡ false → ((k : ℕ) → k ≢ m → q k ≡ p k) → count_by q (range_with_len a n) + cond (p m) 1 0 ≡ count_by p (range_with_len a n)
count_less p q a zero m low high gone same = absurd (omega (arith, low, high))
count_less p q a (suc n) m low high gone same = ⊎_elim
    (λ (e : a ≡ m).
    let rest = count_same p q (a + 1) n (λ k above under. same k (λ is. absurd (omega (arith, is, e, above)))) in
    let at_a : q a ≡ false = ap q e ∙ gone in
    let one : count_by q (range_with_len a (suc n)) ≡ count_by p (range_with_len (a + 1) n) = count_step q a n ∙ rw (at_a, rest) (omega arith) in
    let was : ◌≡◌ {A = ℕ} (cond (p a) 1 0) (cond (p m) 1 0) = ap (λ k. cond (p k) 1 0) e in
    omega (arith, one, was, count_step p a n))
    (λ (other : a ≢ m).
    let rest = count_less p q (a + 1) n m (omega (arith, low, other)) (omega (arith, high)) gone same in
    let head : ◌≡◌ {A = ℕ} (cond (q a) 1 0) (cond (p a) 1 0) = ap (λ b. cond b 1 0) (same a other) in
    omega (arith, rest, head, count_step q a n, count_step p a n))
    (cases_eq a m)

pub count_none : (p : ℕ → Bool) (a n m : ℕ) → a ≤ m → m < a + n → count_by p (range_with_len a n) ≡ 0 → p m ≡ false
count_none p a zero m low high none = absurd (omega (arith, low, high))
count_none p a (suc n) m low high none = ⊎_elim
    (λ (e : a ≡ m). ⊎_elim (λ (t : p a ≡ true). let one : ◌≡◌ {A = ℕ} (cond (p a) 1 0) 1 = rw t refl in absurd (omega (arith, one, none, count_step p a n))) (λ (f : p a ≡ false). ap p (sym e) ∙ f) (cases_Bool (p a)))
    (λ (other : a ≢ m). count_none p (a + 1) n m (omega (arith, low, other)) (omega (arith, high)) (omega (arith, none, count_step p a n)))
    (cases_eq a m)

-- ---- room
pub room_for : (spare per unwritten : ℕ) → 0 < per → min 1 unwritten ≤ spare / per → 0 < unwritten → per ≤ spare
room_for spare per unwritten some room left = let one : 1 ≤ spare / per = omega (arith, room, left) in let e = (le-div_iff_mul-le some).0 one in omega (arith, e)

pub one_node : (old new per : ℕ) → 0 < per → old ≤ new + per → old / per ≤ new / per + 1
one_node old new per some less =
    let low = lt-div-mul-add {a = new} some in
    let bound : old < (new / per + 2) * per = omega (arith, less, low) in
    ⊎_elim (λ (lt : old / per < new / per + 2). omega (arith, lt)) (λ (ge : new / per + 2 ≤ old / per). let e = (le-div_iff_mul-le some).0 ge in absurd (omega (arith, e, bound))) (cases_lt (old / per) (new / per + 2))
