-- Records of a fork by their starts.
use Rattle.std.proofs.Common.{◌≡◌, ◌⊎◌, ℕ, suc, ◌<◌, ◌≤◌, Bool, true, false, List, [], ◌∷◌, ◌++◌, inl, inr, refl, sym, ◌∙◌, ap, arith}
use Rattle.std.specs.Prelude.{◌==◌, ◌||◌, not, if◌then◌else◌}
use Rattle.std.proofs.lemmas.Bool.{lt-ltb, le-ltb, eq-eqb, ne_eqb, eqb-true, both_ways}
use Rattle.std.proofs.lemmas.Grind.{flat_map-append}
use Rattle.hfs_model.specs.Sorted.{kept}
use Rattle.hfs_volume.specs.Records.{Overflow}
use Rattle.overflow.specs.Changes.{put_record}
use Rattle.overflow.specs.Making.{has_start}

-- all begin before a place
abbrev pub AreBelow : ℕ → List Overflow → Type 0
AreBelow place [] = Unit {0}
AreBelow place (more ∷ rest) = (more.start < place) × AreBelow place rest

-- all begin at a place or behind it
abbrev pub AreFrom : ℕ → List Overflow → Type 0
AreFrom place [] = Unit {0}
AreFrom place (more ∷ rest) = (place ≤ more.start) × AreFrom place rest

pub below_append : (place : ℕ) (xs ys : List Overflow) → AreBelow place xs → AreBelow place ys → AreBelow place (xs ++ ys)
below_append place [] ys first second = second
below_append place (x ∷ xs) ys first second = (first.0, below_append place xs ys first.1 second)

pub below_more : (place other : ℕ) (xs : List Overflow) → place ≤ other → AreBelow place xs → AreBelow other xs
below_more place other [] less below = tt
below_more place other (x ∷ xs) less below = (omega (arith, less, below.0), below_more place other xs less below.1)

pub from_less : (place other : ℕ) (xs : List Overflow) → other ≤ place → AreFrom place xs → AreFrom other xs
from_less place other [] less from = tt
from_less place other (x ∷ xs) less from = (omega (arith, less, from.0), from_less place other xs less from.1)

-- ---- a record put among others

pub put_between : (one : Overflow) (xs ys : List Overflow) → AreBelow one.start xs → AreFrom (suc one.start) ys → put_record one (xs ++ ys) ≡ xs ++ one ∷ ys
put_between one [] [] below from = refl
put_between one [] (y ∷ ys) below from =
    (λ i. if le-ltb y.start one.start (omega (arith, from.0)) i then y ∷ put_record one ys else if y.start == one.start then one ∷ ys else one ∷ y ∷ ys)
    ∙ (λ i. if ne_eqb y.start one.start (λ same. omega (arith, from.0, same)) i then one ∷ ys else one ∷ y ∷ ys)
put_between one (x ∷ xs) ys below from =
    (λ i. if lt-ltb x.start one.start below.0 i then x ∷ put_record one (xs ++ ys) else if x.start == one.start then one ∷ (xs ++ ys) else one ∷ x ∷ (xs ++ ys))
    ∙ ap (λ (l : List Overflow). x ∷ l) (put_between one xs ys below.1 from)

pub put_over : (one other : Overflow) (xs ys : List Overflow) → AreBelow one.start xs → other.start ≡ one.start → put_record one (xs ++ other ∷ ys) ≡ xs ++ one ∷ ys
put_over one other [] ys below same =
    (λ i. if le-ltb other.start one.start (omega (arith, same)) i then other ∷ put_record one ys else if other.start == one.start then one ∷ ys else one ∷ other ∷ ys)
    ∙ (λ i. if eq-eqb other.start one.start same i then one ∷ ys else one ∷ other ∷ ys)
put_over one other (x ∷ xs) ys below same =
    (λ i. if lt-ltb x.start one.start below.0 i then x ∷ put_record one (xs ++ other ∷ ys) else if x.start == one.start then one ∷ (xs ++ other ∷ ys) else one ∷ x ∷ (xs ++ other ∷ ys))
    ∙ ap (λ (l : List Overflow). x ∷ l) (put_over one other xs ys below.1 same)

-- ---- records taken out

pub kept_append : {X : Type 0} (test : X → Bool) (xs ys : List X) → kept test (xs ++ ys) ≡ kept test xs ++ kept test ys
kept_append {X} test xs ys = flat_map-append (λ x. if test x then x ∷ [] else []) xs ys

-- a record with another start stays
abbrev pub other_start : ℕ → Overflow → Bool
other_start start more = not (more.start == start)

pub below_stay : (start : ℕ) (xs : List Overflow) → AreBelow start xs → kept (other_start start) xs ≡ xs
below_stay start [] below = refl
below_stay start (x ∷ xs) below = λ i. (if not (ne_eqb x.start start (λ same. omega (arith, below.0, same)) i) then x ∷ [] else []) ++ below_stay start xs below.1 i

pub from_stay : (start : ℕ) (xs : List Overflow) → AreFrom (suc start) xs → kept (other_start start) xs ≡ xs
from_stay start [] from = refl
from_stay start (x ∷ xs) from = λ i. (if not (ne_eqb x.start start (λ same. omega (arith, from.0, same)) i) then x ∷ [] else []) ++ from_stay start xs from.1 i

pub taken_out : (start : ℕ) (one : Overflow) (xs ys : List Overflow) → AreBelow start xs → AreFrom (suc start) ys → one.start ≡ start → kept (other_start start) (xs ++ one ∷ ys) ≡ xs ++ ys
taken_out start one xs ys below from same =
    kept_append (other_start start) xs (one ∷ ys)
    ∙ (λ i. below_stay start xs below i ++ ((if not (eq-eqb one.start start same i) then one ∷ [] else []) ++ from_stay start ys from i))

-- ---- a record at a start

pub first_or_later : {start : ℕ} (one : Overflow) (rest : List Overflow) → has_start start (one ∷ rest) ≡ true → (one.start ≡ start) ⊎ (has_start start rest ≡ true)
first_or_later {start} one rest has = by_test (one.start == start) refl
  where
    by_test : (b : Bool) → (one.start == start) ≡ b → (one.start ≡ start) ⊎ (has_start start rest ≡ true)
    by_test true is = inl (eqb-true one.start start is)
    by_test false is = inr (sym (λ i. is i || has_start start rest) ∙ has)

pub start_stands : (start : ℕ) (xs ys : List Overflow) (one : Overflow) → one.start ≡ start → has_start start (xs ++ one ∷ ys) ≡ true
start_stands start [] ys one same = λ i. eq-eqb one.start start same i || has_start start ys
start_stands start (x ∷ xs) ys one same = by_test (x.start == start) (start_stands start xs ys one same)
  where
    by_test : (b : Bool) → has_start start (xs ++ one ∷ ys) ≡ true → (b || has_start start (xs ++ one ∷ ys)) ≡ true
    by_test true there = refl
    by_test false there = there

pub no_start_stay : (start : ℕ) (xs : List Overflow) → has_start start xs ≡ false → kept (other_start start) xs ≡ xs
no_start_stay start [] none = refl
no_start_stay start (x ∷ xs) none = by_test (x.start == start) refl (no_start_stay start xs)
  where
    by_test : (b : Bool) → (x.start == start) ≡ b → (has_start start xs ≡ false → kept (other_start start) xs ≡ xs) → (if not b then x ∷ [] else []) ++ kept (other_start start) xs ≡ x ∷ xs
    by_test true is others = absurd (both_ways true (sym (λ i. is i || has_start start xs) ∙ none) refl)
    by_test false is others = ap (λ (l : List Overflow). x ∷ l) (others (sym (λ i. is i || has_start start xs) ∙ none))
