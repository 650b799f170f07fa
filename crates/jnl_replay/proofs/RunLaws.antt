-- Where runs have the bytes of a sector.
use Rattle.std.proofs.Common.{◌≡◌, ◌⊎◌, ◌<◌, ◌≤◌, ◌+◌, ◌-◌, ◌*◌, ℕ, zero, suc, Bool, true, false, List, [], ◌∷◌, ◌++◌, length, length-take, take, get_or, cond, eqb, set, inl, inr, refl, sym, ◌∙◌, ap, subst, arith, ⊎_elim}
use Rattle.std.specs.Prelude.{Option, None, Some, ◌&&◌, nat_le, nat_lt}
use Rattle.std.proofs.lemmas.Bool.{cases_lt, cases_eq, eq-eqb, ne_eqb}
use Rattle.std.proofs.lemmas.Bool.Decides.{nat_tests}
use Rattle.std.proofs.lemmas.List.{get_or_append_left, length-append, get_or-take}
use Rattle.std.proofs.Math.Seq.{get_or-append_seam}
use Rattle.jnl_replay.specs.Runs.{place_in_run, or_else, place_in_runs, IsRun, AreWhole, AreRuns, EndBy}
use Rattle.jnl_replay.specs.declared.runs.Run.{Run}

inside_test : (first end q : ℕ) → first ≤ q → q < end → (nat_le first q && nat_lt q end) ≡ true
inside_test first end q low high = grind (arith, nat_tests)

low_test : (first end q : ℕ) → q < first → (nat_le first q && nat_lt q end) ≡ false
low_test first end q low = grind (arith, nat_tests)

high_test : (first end q : ℕ) → end ≤ q → (nat_le first q && nat_lt q end) ≡ false
high_test first end q high = grind (arith, nat_tests)

-- a sector of a run, and one outside it
pub in_run : (run : Run) (q : ℕ) → run.first ≤ q → q < run.first + run.many → place_in_run run q ≡ Some (run.place + (q - run.first) * 512)
in_run run q low high = ap (λ (b : Bool). cond b (Some (run.place + (q - run.first) * 512)) None) (inside_test run.first (run.first + run.many) q low high)

pub out_of_run : (run : Run) (q : ℕ) → (q < run.first) ⊎ (run.first + run.many ≤ q) → place_in_run run q ≡ None
out_of_run run q outside = ap (λ (b : Bool). cond b (Some (run.place + (q - run.first) * 512)) None) (⊎_elim (low_test run.first (run.first + run.many) q) (high_test run.first (run.first + run.many) q) outside)

pub or_none : (o : Option ℕ) → or_else o None ≡ o
or_none None = refl
or_none (Some p) = refl

or_assoc : (a b c : Option ℕ) → or_else (or_else a b) c ≡ or_else a (or_else b c)
or_assoc None b c = refl
or_assoc (Some p) b c = refl

-- runs none of which has a sector
pub none_of : (runs : List Run) (q : ℕ) → ((none : Run) (k : ℕ) → k < length runs → (q < (get_or runs k none).first) ⊎ ((get_or runs k none).first + (get_or runs k none).many ≤ q)) → place_in_runs runs q ≡ None
none_of [] q all = refl
none_of (run ∷ runs) q all =
    λ i. or_else (none_of runs q (λ none k inside. all none (suc k) (omega (arith, inside))) i) (out_of_run run q (all run 0 (omega arith)) i)

pub runs_append : (xs ys : List Run) (q : ℕ) → place_in_runs (xs ++ ys) q ≡ or_else (place_in_runs ys q) (place_in_runs xs q)
runs_append [] ys q = sym (or_none (place_in_runs ys q))
runs_append (x ∷ xs) ys q =
    ap (λ (o : Option ℕ). or_else o (place_in_run x q)) (runs_append xs ys q) ∙ or_assoc (place_in_runs ys q) (place_in_runs xs q) (place_in_run x q)

-- one of them alone may have a sector
only : (runs : List Run) (i q : ℕ) → i < length runs → EndBy runs i q → ((none : Run) (k : ℕ) → i < k → k < length runs → q < (get_or runs k none).first) → (none : Run) → place_in_runs runs q ≡ place_in_run (get_or runs i none) q
only [] i q inside before behind none = absurd (omega (arith, inside))
only (r ∷ rs) zero q inside before behind none =
    ap (λ (o : Option ℕ). or_else o (place_in_run r q)) (none_of rs q (λ d k less. inl (behind d (suc k) (omega arith) (omega (arith, less)))))
only (r ∷ rs) (suc i) q inside before behind none =
    (λ j. or_else (only rs i q (omega (arith, inside)) (λ d k less. before d (suc k) (omega (arith, less))) (λ d k low high. behind d (suc k) (omega (arith, low)) (omega (arith, high))) none j) (out_of_run r q (inr (before r 0 (omega arith))) j))
    ∙ or_none (place_in_run (get_or rs i none) q)

-- the first that ends behind a sector
pub first_behind : (runs : List Run) (i q : ℕ) → AreRuns runs → i < length runs → EndBy runs i q → ((none : Run) → q < (get_or runs i none).first + (get_or runs i none).many) → (none : Run) → place_in_runs runs q ≡ place_in_run (get_or runs i none) q
first_behind runs i q are inside before ends none = only runs i q inside before (λ d k low high. omega (arith, ends d, are.apart d i k low high)) none

pub all_before : (runs : List Run) (i q : ℕ) → length runs ≤ i → EndBy runs i q → place_in_runs runs q ≡ None
all_before runs i q all before = none_of runs q (λ d k less. inr (before d k (omega (arith, less, all))))

-- the last that begins by a sector
pub last_up_to : (runs : List Run) (count q : ℕ) → AreRuns runs → 0 < count → count ≤ length runs → ((none : Run) → (get_or runs (count - 1) none).first ≤ q) → (count < length runs → (none : Run) → q < (get_or runs count none).first)
    → (none : Run) → place_in_runs runs q ≡ place_in_run (get_or runs (count - 1) none) q
last_up_to runs count q are some few below above none = only runs (count - 1) q (omega (arith, some, few))
    (λ d k less. omega (arith, are.apart d k (count - 1) less (omega (arith, some, few)), below d))
    (λ d k low high. ⊎_elim
    (λ (less : count < k). omega (arith, are.apart d count k less high, above (omega (arith, less, high)) d))
    (λ (same : k ≤ count). let here : k ≡ count = omega (arith, same, low) in omega (arith, above (omega (arith, here, high)) d, ap (λ n. (get_or runs n d).first) here))
    (cases_lt count k))
    none

pub none_up_to : (runs : List Run) (q : ℕ) → AreRuns runs → (0 < length runs → (none : Run) → q < (get_or runs 0 none).first) → place_in_runs runs q ≡ None
none_up_to runs q are above = none_of runs q (λ d k less. inl (⊎_elim
    (λ (behind : 0 < k). omega (arith, are.apart d 0 k behind less, above (omega (arith, less)) d))
    (λ (first : k ≤ 0). let here : k ≡ 0 = omega (arith, first) in omega (arith, above (omega (arith, less)) d, ap (λ n. (get_or runs n d).first) here))
    (cases_lt 0 k)))

-- ---- one home more

over : (b : Bool) (place : ℕ) (x y : Option ℕ) → or_else (cond b (Some place) x) y ≡ cond b (Some place) (or_else x y)
over true place x y = refl
over false place x y = refl

-- a run of one sector
one_sector : (sector place q : ℕ) → place_in_run (record { first = sector; many = 1; place = place }) q ≡ cond (eqb sector q) (Some place) None
one_sector sector place q = ⊎_elim
    (λ (same : sector ≡ q).
    let none_before : place + (q - sector) * 512 ≡ place = omega (arith, same) in
    in_run (record { first = sector; many = 1; place = place }) q (omega (arith, same)) (omega (arith, same)) ∙ ap (λ (n : ℕ). Some n) none_before
    ∙ sym (ap (λ (b : Bool). cond b (Some place) None) (eq-eqb sector q same)))
    (λ (other : sector ≡ q → ⊥).
    out_of_run (record { first = sector; many = 1; place = place }) q (outside other (cases_lt q sector))
    ∙ sym (ap (λ (b : Bool). cond b (Some place) None) (ne_eqb sector q other)))
    (cases_eq sector q)
  where
    outside : (sector ≡ q → ⊥) → (q < sector) ⊎ (sector ≤ q) → (q < sector) ⊎ (sector + 1 ≤ q)
    outside other (inl low) = inl low
    outside other (inr high) = ⊎_elim (λ (same : sector ≡ q). absurd (other same)) (λ (ne : sector ≡ q → ⊥). inr (beyond (cases_lt sector q))) (cases_eq sector q)
      where
        beyond : (sector < q) ⊎ (q ≤ sector) → sector + 1 ≤ q
        beyond (inl less) = omega (arith, less)
        beyond (inr not_less) = let same : sector ≡ q = omega (arith, high, not_less) in absurd (other same)

-- a run with its next sector
one_longer : (run : Run) (sector place q : ℕ) → sector ≡ run.first + run.many → place ≡ run.place + run.many * 512 → place_in_run (record run { many = run.many + 1 }) q ≡ cond (eqb sector q) (Some place) (place_in_run run q)
one_longer run sector place q next behind = ⊎_elim
    (λ (same : sector ≡ q).
    let here : run.place + (q - run.first) * 512 ≡ place = omega (arith, same, next, behind) in
    in_run (record run { many = run.many + 1 }) q (omega (arith, same, next)) (omega (arith, same, next)) ∙ ap (λ (n : ℕ). Some n) here
    ∙ sym (ap (λ (b : Bool). cond b (Some place) (place_in_run run q)) (eq-eqb sector q same)))
    (λ (other : sector ≡ q → ⊥). as_before other ∙ sym (ap (λ (b : Bool). cond b (Some place) (place_in_run run q)) (ne_eqb sector q other)))
    (cases_eq sector q)
  where
    as_before : (sector ≡ q → ⊥) → place_in_run (record run { many = run.many + 1 }) q ≡ place_in_run run q
    as_before other = ⊎_elim
        (λ (low : q < run.first). out_of_run (record run { many = run.many + 1 }) q (inl low) ∙ sym (out_of_run run q (inl low)))
        (λ (from : run.first ≤ q). ⊎_elim
        (λ (inside : q < run.first + run.many). in_run (record run { many = run.many + 1 }) q from (omega (arith, inside)) ∙ sym (in_run run q from inside))
        (λ (past : run.first + run.many ≤ q). out_of_run (record run { many = run.many + 1 }) q (inr (beyond past (cases_lt sector q))) ∙ sym (out_of_run run q (inr past)))
        (cases_lt q (run.first + run.many)))
        (cases_lt q run.first)
      where
        beyond : run.first + run.many ≤ q → (sector < q) ⊎ (q ≤ sector) → run.first + (run.many + 1) ≤ q
        beyond past (inl less) = omega (arith, less, next)
        beyond past (inr not_less) = let same : sector ≡ q = omega (arith, past, not_less, next) in absurd (other same)

pub home_pushed : (old new : List Run) (sector place q : ℕ) → new ≡ old ++ record { first = sector; many = 1; place = place } ∷ [] → place_in_runs new q ≡ cond (eqb sector q) (Some place) (place_in_runs old q)
home_pushed old new sector place q is =
    ap (λ (l : List Run). place_in_runs l q) is ∙ runs_append old (record { first = sector; many = 1; place = place } ∷ []) q
    ∙ ap (λ (o : Option ℕ). or_else o (place_in_runs old q)) (one_sector sector place q) ∙ over (eqb sector q) place None (place_in_runs old q)

-- a list is what stands before its last item, and that
split_at : (xs : List Run) (n : ℕ) (none : Run) → length xs ≡ suc n → xs ≡ take n xs ++ get_or xs n none ∷ []
split_at [] n none long = absurd (omega (arith, long))
split_at (x ∷ []) zero none long = refl
split_at (x ∷ []) (suc n) none long = absurd (omega (arith, long))
split_at (x ∷ (y ∷ ys)) zero none long = absurd (omega (arith, long))
split_at (x ∷ (y ∷ ys)) (suc n) none long = ap (λ (l : List Run). x ∷ l) (split_at (y ∷ ys) n none (omega (arith, long)))

last_split : (xs : List Run) (none : Run) → 0 < length xs → xs ≡ take (length xs - 1) xs ++ get_or xs (length xs - 1) none ∷ []
last_split xs none some = split_at xs (length xs - 1) none (omega (arith, some))

put_at_end : (xs : List Run) (n : ℕ) (run : Run) → length xs ≡ suc n → set xs n run ≡ take n xs ++ run ∷ []
put_at_end [] n run long = absurd (omega (arith, long))
put_at_end (x ∷ []) zero run long = refl
put_at_end (x ∷ []) (suc n) run long = absurd (omega (arith, long))
put_at_end (x ∷ (y ∷ ys)) zero run long = absurd (omega (arith, long))
put_at_end (x ∷ (y ∷ ys)) (suc n) run long = ap (λ (l : List Run). x ∷ l) (put_at_end (y ∷ ys) n run (omega (arith, long)))

pub last_put : (xs : List Run) (n : ℕ) (run : Run) → n ≡ length xs → 0 < length xs → set xs (n - 1) run ≡ take (length xs - 1) xs ++ run ∷ []
last_put xs n run is some = ap (λ k. set xs (k - 1) run) is ∙ put_at_end xs (length xs - 1) run (omega (arith, some))

pub home_joined : (old new : List Run) (last : Run) (sector place q : ℕ) → 0 < length old → last ≡ get_or old (length old - 1) last → sector ≡ last.first + last.many → place ≡ last.place + last.many * 512
    → new ≡ take (length old - 1) old ++ record last { many = last.many + 1 } ∷ [] → place_in_runs new q ≡ cond (eqb sector q) (Some place) (place_in_runs old q)
home_joined old new last sector place q some last_is next behind is =
    let front : List Run = take (length old - 1) old in
    let whole : place_in_runs old q ≡ or_else (place_in_run last q) (place_in_runs front q) =
    ap (λ (l : List Run). place_in_runs l q) (last_split old last some ∙ ap (λ (r : Run). front ++ r ∷ []) (sym last_is)) ∙ runs_append front (last ∷ []) q in
    ap (λ (l : List Run). place_in_runs l q) is ∙ runs_append front (record last { many = last.many + 1 } ∷ []) q
    ∙ ap (λ (o : Option ℕ). or_else o (place_in_runs front q)) (one_longer last sector place q next behind) ∙ over (eqb sector q) place (place_in_run last q) (place_in_runs front q)
    ∙ ap (λ (o : Option ℕ). cond (eqb sector q) (Some place) o) (sym whole)

-- ---- each of them a run

pub whole_pushed : (old new : List Run) (run : Run) → new ≡ old ++ run ∷ [] → AreWhole old → IsRun run → AreWhole new
whole_pushed old new run is whole one none k inside = ⊎_elim
    (λ (before : k < length old). subst (λ (r : Run). IsRun r) (sym (ap (λ (l : List Run). get_or l k none) is ∙ get_or_append_left old (run ∷ []) none k before)) (whole none k before))
    (λ (last : length old ≤ k).
    let here : k ≡ length old = omega (arith, last, inside, ap (λ (l : List Run). length l) is, length-append old (run ∷ [])) in
    subst (λ (r : Run). IsRun r) (sym (ap (λ (l : List Run). get_or l k none) is ∙ ap (λ n. get_or (old ++ run ∷ []) n none) here ∙ get_or-append_seam old run [] none)) one)
    (cases_lt k (length old))

pub whole_front : (xs : List Run) (n : ℕ) → AreWhole xs → n ≤ length xs → AreWhole (take n xs)
whole_front xs n whole few none k inside =
    let less : k < n = omega (arith, inside, length-take n xs) in
    subst (λ (r : Run). IsRun r) (sym (get_or-take n xs k none less)) (whole none k (omega (arith, less, few)))
