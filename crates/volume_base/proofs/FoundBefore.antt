-- What passes a test in a sorted list, beside the first that does.
use Rattle.std.proofs.Common.{◌≡◌, ◌⊎◌, ℕ, ◌==◌, Bool, true, false, List, [], ◌∷◌, inl, inr, refl, sym, ◌∙◌, ap, subst, arith}
use Rattle.std.specs.Prelude.{Contains, nat_lt, find, Option, None, Some, cond, if◌then◌else◌}
use Rattle.std.specs.List.{AllByRecursion}
use Rattle.std.specs.Ordering.{is_lt, nat_cmp, ordering_then}
use Rattle.std.specs.Cmp.Lexicographic.{slice_cmp}
use Rattle.std.specs.declared.cmp.Ordering.TheVariants.{Less, Equal, Greater}
use Rattle.std.proofs.lemmas.Bool.{true≢false}
use Rattle.hfs_model.specs.Sorted.{IsInOrder}
use Rattle.hfs_volume.specs.Records.{Attribute}
use Rattle.hfs_volume.specs.Changes.{attribute_before}
use Rattle.hfs_volume.proofs.Flat.{some_same}
use Rattle.hfs_volume.proofs.Members.{first_or_later}
use Rattle.hfs_volume.proofs.Seeing.{same_number}

all_in : {X : Type 0} (P : X → Type 0) (xs : List X) → AllByRecursion P xs → (x : X) → Contains xs x → P x
all_in P [] all x there = absurd (omega (arith, there.1))
all_in P (y ∷ ys) all x there = elim (first_or_later y x ys there) [
  | inl same ↦ subst P (sym same) all.0
  | inr later ↦ all_in P ys all.1 x later
]

-- what passes a test in a sorted list is the first that does, or stands behind it
pub found_before : {X : Type 0} (before : X → X → Bool) (test : X → Bool) (xs : List X) (first : X) → IsInOrder before xs → find test xs ≡ Some first → (x : X) → Contains xs x → test x ≡ true → (x ≡ first) ⊎ (before first x ≡ true)
found_before before test [] first order found x there passes = absurd (omega (arith, there.1))
found_before {X} before test (y ∷ ys) first order found x there passes = by_test (test y) refl (λ rest later. found_before before test ys first order.1 rest x later passes) (first_or_later y x ys there)
  where
    by_test : (b : Bool) → test y ≡ b → (find test ys ≡ Some first → Contains ys x → (x ≡ first) ⊎ (before first x ≡ true)) → (x ≡ y) ⊎ Contains ys x → (x ≡ first) ⊎ (before first x ≡ true)
    by_test true is among (inl same) = inl (same ∙ some_same y first (ap (λ b. if b then Some y else find test ys) (sym is) ∙ found))
    by_test true is among (inr later) =
        let here : y ≡ first = some_same y first (ap (λ b. if b then Some y else find test ys) (sym is) ∙ found) in
        inr (ap (λ z. before z x) (sym here) ∙ all_in (λ z. before y z ≡ true) ys order.0 x later)
    by_test false is among (inl same) = absurd (true≢false (sym passes ∙ ap test same ∙ is))
    by_test false is among (inr later) = among (ap (λ b. if b then Some y else find test ys) (sym is) ∙ found) later

-- ---- the first record of a name

not_below_itself : (n : ℕ) → nat_lt n n ≡ false
not_below_itself n = grind arith

same_cmp : (n : ℕ) → nat_cmp n n ≡ nat_cmp 0 0
same_cmp n = λ i. cond (not_below_itself n i) Less (cond (same_number n i) Equal Greater)

same_names : (name : List ℕ) → slice_cmp nat_cmp name name ≡ nat_cmp 0 0
same_names [] = refl
same_names (unit ∷ rest) = ap (λ o. ordering_then o (slice_cmp nat_cmp rest rest)) (same_cmp unit) ∙ same_names rest

-- a record doesn't stand before one of the same name that begins at 0
pub not_before_start : (one other : Attribute) → one.id ≡ other.id → one.name ≡ other.name → other.start ≡ 0 → attribute_before one other ≡ false
not_before_start one other id name start =
    (λ i. is_lt (ordering_then (nat_cmp (id i) other.id) (ordering_then (slice_cmp nat_cmp (name i) other.name) (nat_cmp one.start (start i)))))
    ∙ (λ i. is_lt (ordering_then (same_cmp other.id i) (ordering_then (same_names other.name i) (nat_cmp one.start 0))))
    ∙ not_first one.start
  where
    not_first : (n : ℕ) → is_lt (nat_cmp n 0) ≡ false
    not_first n = grind arith
