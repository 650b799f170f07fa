-- The range law: where a test divides a list in those before, those that pass and those behind, the ones that are kept are the middle stretch.
use Rattle.std.proofs.Common.{◌≡◌, ◌<◌, ◌≤◌, ℕ, zero, suc, ◌+◌, ◌-◌, Bool, true, false, cond, ◌==◌, List, [], ◌∷◌, ◌++◌, length, take, drop, get_or, Some, None, refl, sym, ◌∙◌, ap, arith, append-nil, ⊎_elim}
use Rattle.std.specs.Prelude.{find, slice_range, if◌then◌else◌}
use Rattle.std.specs.List.{flat_map, count_by}
use Rattle.std.proofs.lemmas.Bool.{cases_lt, eq-eqb, ne_eqb}
use Rattle.std.proofs.lemmas.List.{get_or-take, get_or-drop, length-take, length-drop}
use Rattle.std.proofs.lemmas.List.Concat.{flat_map-append}
use Rattle.std.proofs.lemmas.List.Edits.{split_between, length-between, get_or-between}
use Rattle.std.proofs.lemmas.List.Sums.{sum_by-cons}

-- those that pass a test, in order
abbrev pub passing : {X : Type 0} → (X → Bool) → List X → List X
passing test items = flat_map (λ x. if test x then x ∷ [] else []) items

pub none_pass : {X : Type 0} (test : X → Bool) (xs : List X) → ((k : ℕ) (d : X) → k < length xs → test (get_or xs k d) ≡ false) → passing test xs ≡ []
none_pass test [] none = refl
none_pass test (x ∷ xs) none = ap (λ b. (if b then x ∷ [] else []) ++ passing test xs) (none 0 x (omega arith)) ∙ none_pass test xs (λ k d inside. none (suc k) d (omega (arith, inside)))

pub all_pass : {X : Type 0} (test : X → Bool) (xs : List X) → ((k : ℕ) (d : X) → k < length xs → test (get_or xs k d) ≡ true) → passing test xs ≡ xs
all_pass test [] all = refl
all_pass test (x ∷ xs) all = ap (λ b. (if b then x ∷ [] else []) ++ passing test xs) (all 0 x (omega arith)) ∙ ap (λ l. x ∷ l) (all_pass test xs (λ k d inside. all (suc k) d (omega (arith, inside))))

-- where a stretch of a list begins and ends: what passes a test stands there, and nothing else does
pub record IsStretch {X : Type 0} (test : X → Bool) (xs : List X) (from to : ℕ) : Type 0 where
  pub order : from ≤ to
  pub inside : to ≤ length xs
  pub before : (k : ℕ) (d : X) → k < from → test (get_or xs k d) ≡ false
  pub passes : (k : ℕ) (d : X) → from ≤ k → k < to → test (get_or xs k d) ≡ true
  pub behind : (k : ℕ) (d : X) → to ≤ k → k < length xs → test (get_or xs k d) ≡ false

-- what is kept is the stretch
pub kept_is_range : {X : Type 0} (test : X → Bool) (xs : List X) (from to : ℕ) → IsStretch test xs from to → passing test xs ≡ slice_range xs from to
kept_is_range test xs from to is =
    ap (λ l. passing test l) (split_between xs from to is.order)
    ∙ flat_map-append (λ x. if test x then x ∷ [] else []) (take from xs) (slice_range xs from to ++ drop to xs)
    ∙ ap (λ l. l ++ passing test (slice_range xs from to ++ drop to xs)) (none_pass test (take from xs) front)
    ∙ flat_map-append (λ x. if test x then x ∷ [] else []) (slice_range xs from to) (drop to xs)
    ∙ ap (λ l. l ++ passing test (drop to xs)) (all_pass test (slice_range xs from to) middle)
    ∙ ap (λ l. slice_range xs from to ++ l) (none_pass test (drop to xs) back)
    ∙ append-nil (slice_range xs from to)
  where
    front : (k : ℕ) (d : _) → k < length (take from xs) → test (get_or (take from xs) k d) ≡ false
    front k d inside =
        let low : k < from = omega (arith, inside, length-take from xs) in
        ap test (get_or-take from xs k d low) ∙ is.before k d low

    middle : (k : ℕ) (d : _) → k < length (slice_range xs from to) → test (get_or (slice_range xs from to) k d) ≡ true
    middle k d inside =
        let low : from + k < to = omega (arith, inside, length-between xs from to is.inside) in
        ap test (get_or-between xs from to k d low) ∙ is.passes (from + k) d (omega arith) low

    back : (k : ℕ) (d : _) → k < length (drop to xs) → test (get_or (drop to xs) k d) ≡ false
    back k d inside =
        ap test (get_or-drop to xs k d) ∙ is.behind (to + k) d (omega arith) (omega (arith, inside, length-drop to xs))

-- so many pass
pub range_length : {X : Type 0} (test : X → Bool) (xs : List X) (from to : ℕ) → IsStretch test xs from to → length (passing test xs) ≡ to - from
range_length test xs from to is = ap (λ l. length l) (kept_is_range test xs from to is) ∙ length-between xs from to is.inside

pub count_passing : {X : Type 0} (test : X → Bool) (xs : List X) → length (passing test xs) ≡ count_by test xs
count_passing test [] = refl
count_passing test (x ∷ xs) = cases (test x) (passing test xs) ∙ ap (λ n. cond (test x) 1 0 + n) (count_passing test xs) ∙ sym (sum_by-cons (λ z. cond (test z) 1 0) x xs)
  where
    cases : (b : Bool) (rest : List _) → length ((if b then x ∷ [] else []) ++ rest) ≡ cond b 1 0 + length rest
    cases true rest = omega arith
    cases false rest = omega arith

-- the first that passes is the one where the stretch begins
pub find_is_first : {X : Type 0} (test : X → Bool) (xs : List X) (from to : ℕ) (d : X) → IsStretch test xs from to → from < to → find test xs ≡ Some (get_or xs from d)
find_is_first test xs from to d is some = at xs from (λ k less. is.before k d less) (omega (arith, some, is.inside)) (is.passes from d (omega arith) some)
  where
    at : (ys : List _) (n : ℕ) → ((k : ℕ) → k < n → test (get_or ys k d) ≡ false) → n < length ys → test (get_or ys n d) ≡ true → find test ys ≡ Some (get_or ys n d)
    at [] n none inside here = absurd (omega (arith, inside))
    at (y ∷ ys) zero none inside here = ap (λ b. cond b (Some y) (find test ys)) here
    at (y ∷ ys) (suc n) none inside here = ap (λ b. cond b (Some y) (find test ys)) (none 0 (omega arith)) ∙ at ys n (λ k less. none (suc k) (omega (arith, less))) (omega (arith, inside)) here

-- where there is no stretch, none passes
pub find_none : {X : Type 0} (test : X → Bool) (xs : List X) (from : ℕ) → IsStretch test xs from from → find test xs ≡ None
find_none test xs from is = at xs (λ k d inside. each k d inside)
  where
    each : (k : ℕ) (d : _) → k < length xs → test (get_or xs k d) ≡ false
    each k d inside = ⊎_elim (λ (low : k < from). is.before k d low) (λ (high : from ≤ k). is.behind k d high inside) (cases_lt k from)

    at : (ys : List _) → ((k : ℕ) (d : _) → k < length ys → test (get_or ys k d) ≡ false) → find test ys ≡ None
    at [] none = refl
    at (y ∷ ys) none = ap (λ b. cond b (Some y) (find test ys)) (none 0 y (omega arith)) ∙ at ys (λ k d inside. none (suc k) d (omega (arith, inside)))

-- In a list whose numbers don't fall, those of one number stand between the first that isn't below it and the first that is above.
pub stretch_of_number : {X : Type 0} (number : X → ℕ) (xs : List X) (id from to : ℕ) → from ≤ to → to ≤ length xs
    → ((k : ℕ) (d : X) → k < from → number (get_or xs k d) < id) → ((k : ℕ) (d : X) → from ≤ k → k < length xs → id ≤ number (get_or xs k d))
    → ((k : ℕ) (d : X) → k < to → number (get_or xs k d) ≤ id) → ((k : ℕ) (d : X) → to ≤ k → k < length xs → id < number (get_or xs k d))
    → IsStretch (λ x. number x == id) xs from to
stretch_of_number number xs id from to order inside low not_low not_high high = record {
  order = order;
  inside = inside;
  before = λ k d less. ne_eqb (number (get_or xs k d)) id (λ same. omega (arith, same, low k d less));
  passes = λ k d start end. eq-eqb (number (get_or xs k d)) id (omega (arith, not_low k d start (omega (arith, end, inside)), not_high k d end));
  behind = λ k d start less. ne_eqb (number (get_or xs k d)) id (λ same. omega (arith, same, high k d start less));
}
