-- What is kept of lists of pairs, by their places.
use Rattle.std.proofs.Common.{◌≡◌, ℕ, suc, ◌+◌, ◌<◌, ◌≤◌, Bool, true, false, cond, List, [], ◌∷◌, ◌++◌, take, drop, length, refl, sym, ◌∙◌, ap, arith}
use Rattle.std.specs.Prelude.{All, ◌&&◌, slice_index_or, count_by, not, if◌then◌else◌}
use Rattle.std.proofs.lemmas.Bool.{true≢false}
use Rattle.std.proofs.lemmas.Grind.{flat_map-append}
use Rattle.std.proofs.lemmas.List.{length-take, get_or-take, take-append-drop}
use Rattle.std.proofs.lemmas.List.Sums.{sum_by-append, sum_by-cons}
use Rattle.std.proofs.Math.Seq.{drop-cons}
use Rattle.hfs_model.specs.Sorted.{kept}
use Rattle.hfs_volume.proofs.Members.{all_of, each_of, kept_cases}

-- no test is both
pub not_both : (b : Bool) → b ≡ false → b ≡ true → ⊥
not_both b is passes = true≢false (sym passes ∙ is)

pub not_so : false ≡ true → ⊥
not_so same = cc

-- what isn't true is false
pub false_so : (b : Bool) → (b ≡ true → ⊥) → b ≡ false
false_so true never = absurd (never refl)
false_so false never = refl

-- ---- what is kept

pub kept_append : {X : Type 0} (test : X → Bool) (xs ys : List X) → kept test (xs ++ ys) ≡ kept test xs ++ kept test ys
kept_append {X} test xs ys = flat_map-append piece xs ys
  where
    piece : X → List X
    piece x = if test x then x ∷ [] else []

pub none_kept : {X : Type 0} (test : X → Bool) (xs : List X) (d : X) → ((k : ℕ) → k < length xs → test (slice_index_or xs k d) ≡ false) → kept test xs ≡ []
none_kept test [] d none = refl
none_kept test (x ∷ xs) d none = λ i. (if none 0 (omega arith) i then x ∷ [] else []) ++ none_kept test xs d (λ k inside. none (suc k) (omega (arith, inside))) i

-- tests that agree keep the same
pub kept_agree : {X : Type 0} (test other : X → Bool) (xs : List X) (d : X) → ((k : ℕ) → k < length xs → test (slice_index_or xs k d) ≡ other (slice_index_or xs k d)) → kept test xs ≡ kept other xs
kept_agree test other [] d agree = refl
kept_agree test other (x ∷ xs) d agree = λ i. (if agree 0 (omega arith) i then x ∷ [] else []) ++ kept_agree test other xs d (λ k inside. agree (suc k) (omega (arith, inside))) i

-- where none is kept, all others are all
pub all_others : {X : Type 0} (test : X → Bool) (xs : List X) → kept test xs ≡ [] → kept (λ x. not (test x)) xs ≡ xs
all_others test [] none = refl
all_others {X} test (x ∷ xs) none = by_test (test x) refl (all_others test xs)
  where
    by_test : (b : Bool) → test x ≡ b → (kept test xs ≡ [] → kept (λ y. not (test y)) xs ≡ xs) → kept (λ y. not (test y)) (x ∷ xs) ≡ x ∷ xs
    by_test true is rest = absurd (omega (arith, ap (λ (l : List X). length l) (sym (λ i. (if is i then x ∷ [] else []) ++ kept test xs) ∙ none)))
    by_test false is rest = λ i. (if not (is i) then x ∷ [] else []) ++ rest (sym (λ j. (if is j then x ∷ [] else []) ++ kept test xs) ∙ none) i

-- what was kept passes, so none of it is kept by the opposite test
pub none_left : {X : Type 0} (test : X → Bool) (xs : List X) → kept test (kept (λ x. not (test x)) xs) ≡ []
none_left test [] = refl
none_left {X} test (x ∷ xs) = by_test (test x) refl (none_left test xs)
  where
    by_test : (b : Bool) → test x ≡ b → kept test (kept (λ y. not (test y)) xs) ≡ [] → kept test ((if not b then x ∷ [] else []) ++ kept (λ y. not (test y)) xs) ≡ []
    by_test true is rest = rest
    by_test false is rest = λ i. (if is i then x ∷ [] else []) ++ rest i

pub kept_twice : {X : Type 0} (test : X → Bool) (xs : List X) → kept test (kept test xs) ≡ kept test xs
kept_twice test [] = refl
kept_twice {X} test (x ∷ xs) = by_test (test x) refl (kept_twice test xs)
  where
    by_test : (b : Bool) → test x ≡ b → kept test (kept test xs) ≡ kept test xs → kept test ((if b then x ∷ [] else []) ++ kept test xs) ≡ (if b then x ∷ [] else []) ++ kept test xs
    by_test true is rest = λ i. (if is i then x ∷ [] else []) ++ rest i
    by_test false is rest = rest

pub no_length : {X : Type 0} (xs : List X) → length xs ≡ 0 → xs ≡ []
no_length [] none = refl
no_length (x ∷ xs) none = absurd (omega (arith, none))

pub kept_all : {X : Type 0} (P : X → Type 0) (test : X → Bool) (xs : List X) → All P xs → All P (kept test xs)
kept_all P test xs all = all_of P (kept test xs) (λ x there. each_of P xs all x (kept_cases test xs x there).0)

-- ---- a list by one of its places

pub plus_one : (n : ℕ) → n + 1 ≡ suc n
plus_one n = omega arith

pub parted : {X : Type 0} (xs : List X) (d : X) (k : ℕ) → k < length xs → xs ≡ take k xs ++ slice_index_or xs k d ∷ drop (suc k) xs
parted xs d k inside = sym (take-append-drop k xs) ∙ ap (λ l. take k xs ++ l) (drop-cons xs k d inside)

-- none of the items before a place is kept
pub none_before : {X : Type 0} (test : X → Bool) (xs : List X) (d : X) (k : ℕ) → ((i : ℕ) → i < k → test (slice_index_or xs i d) ≡ false) → kept test (take k xs) ≡ []
none_before test xs d k before = none_kept test (take k xs) d (λ i inside.
    let low : i < k = omega (arith, inside, length-take k xs) in ap test (get_or-take k xs i d low) ∙ before i low)

-- the first that passes, and what is kept behind it
pub kept_first : {X : Type 0} (test : X → Bool) (xs : List X) (d : X) (k : ℕ) → k < length xs → test (slice_index_or xs k d) ≡ true → ((i : ℕ) → i < k → test (slice_index_or xs i d) ≡ false)
    → kept test xs ≡ slice_index_or xs k d ∷ kept test (drop (suc k) xs)
kept_first test xs d k inside passes before =
    ap (kept test) (parted xs d k inside) ∙ kept_append test (take k xs) (slice_index_or xs k d ∷ drop (suc k) xs)
    ∙ (λ i. none_before test xs d k before i ++ ((if passes i then slice_index_or xs k d ∷ [] else []) ++ kept test (drop (suc k) xs)))

-- ---- counts

abbrev pub one_if : Bool → ℕ
one_if b = cond b 1 0

pub count_cons : {X : Type 0} (test : X → Bool) (x : X) (xs : List X) → count_by test (x ∷ xs) ≡ cond (test x) 1 0 + count_by test xs
count_cons test x xs = sum_by-cons (λ y. cond (test y) 1 0) x xs

pub count_append : {X : Type 0} (test : X → Bool) (xs ys : List X) → count_by test (xs ++ ys) ≡ count_by test xs + count_by test ys
count_append test xs ys = sum_by-append (λ y. cond (test y) 1 0) xs ys

pub count_most : {X : Type 0} (test : X → Bool) (xs : List X) → count_by test xs ≤ length xs
count_most test [] = omega arith
count_most {X} test (x ∷ xs) = by_test (test x) refl (count_most test xs)
  where
    by_test : (b : Bool) → test x ≡ b → count_by test xs ≤ length xs → count_by test (x ∷ xs) ≤ suc (length xs)
    by_test true is rest = omega (arith, count_cons test x xs, ap one_if is, rest)
    by_test false is rest = omega (arith, count_cons test x xs, ap one_if is, rest)

-- as many are counted as are kept
pub count_kept : {X : Type 0} (test : X → Bool) (xs : List X) → count_by test xs ≡ length (kept test xs)
count_kept test [] = refl
count_kept {X} test (x ∷ xs) = count_cons test x xs ∙ by_test (test x) (count_kept test xs)
  where
    by_test : (b : Bool) → count_by test xs ≡ length (kept test xs) → cond b 1 0 + count_by test xs ≡ length ((if b then x ∷ [] else []) ++ kept test xs)
    by_test true same = omega (arith, same)
    by_test false same = omega (arith, same)

-- a count of what is kept is one of what passes both tests
pub count_both : {X : Type 0} (first second both : X → Bool) (xs : List X) (d : X) → ((k : ℕ) → k < length xs → both (slice_index_or xs k d) ≡ (first (slice_index_or xs k d) && second (slice_index_or xs k d)))
    → count_by second (kept first xs) ≡ count_by both xs
count_both first second both [] d agree = refl
count_both {X} first second both (x ∷ xs) d agree =
    by_test (first x) refl (count_both first second both xs d (λ k inside. agree (suc k) (omega (arith, inside))))
    ∙ sym (count_cons both x xs)
  where
    here : both x ≡ (first x && second x)
    here = agree 0 (omega arith)

    by_test : (b : Bool) → first x ≡ b → count_by second (kept first xs) ≡ count_by both xs → count_by second ((if b then x ∷ [] else []) ++ kept first xs) ≡ cond (both x) 1 0 + count_by both xs
    by_test true is rest = omega (arith, count_cons second x (kept first xs), rest, ap one_if (here ∙ (λ j. is j && second x)))
    by_test false is rest = omega (arith, rest, ap one_if (here ∙ (λ j. is j && second x)))
