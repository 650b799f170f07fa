-- Flags that are counted.
use Rattle.std.proofs.Common.{arith, ◌≡◌, ◌<◌, ◌≤◌, ℕ, suc, ◌+◌, Bool, true, false, List, [], ◌∷◌, length, slice_index_or, slice_set, replicate, refl, sym, ap, subst}
use Rattle.std.specs.List.{sum_by}
use Rattle.std.proofs.lemmas.List.Sums.{sum_by-set, sum_by-cons}
use Rattle.std.proofs.lemmas.List.Folds.{sum_by-replicate}
use Rattle.std.proofs.lemmas.List.{length-replicate, length-set, get_or-replicate}
use Rattle.btree_node.specs.Kept.{one_if}

-- a flag is set that wasn't
pub one_more : (flags : List Bool) (i : ℕ) → i < length flags → slice_index_or flags i true ≡ false → sum_by one_if (slice_set flags i true) ≡ sum_by one_if flags + 1
one_more flags i inside was =
    let both = sum_by-set one_if flags i true true inside in
    let old = ap one_if was in
    omega arith

-- a flag is taken away that was set
pub one_less : (flags : List Bool) (i : ℕ) → i < length flags → slice_index_or flags i true ≡ true → sum_by one_if (slice_set flags i false) + 1 ≡ sum_by one_if flags
one_less flags i inside was =
    let both = sum_by-set one_if flags i false true inside in
    let old = ap one_if was in
    omega arith

-- the first of many flags alone is set
pub first_alone : (n : ℕ) → 0 < n → sum_by one_if (slice_set (replicate n false) 0 true) ≡ 1
first_alone n some =
    let none = sum_by-replicate one_if n false in
    let both = sum_by-set one_if (replicate n false) 0 true true (subst (λ k. 0 < k) (sym (length-replicate {A = Bool} n false)) some) in
    let was = ap one_if (get_or-replicate {A = Bool} n 0 false true some) in
    omega arith

at_most_one : (flag : Bool) → one_if flag ≤ 1
at_most_one true = omega arith
at_most_one false = omega arith

-- no more flags are set than there are
pub set_most : (flags : List Bool) → sum_by one_if flags ≤ length flags
set_most [] = omega arith
set_most (flag ∷ flags) = omega (arith, set_most flags, at_most_one flag, sum_by-cons one_if flag flags)

-- where one isn't set, fewer are
pub set_fewer : (flags : List Bool) (i : ℕ) → i < length flags → slice_index_or flags i true ≡ false → sum_by one_if flags + 1 ≤ length flags
set_fewer flags i inside was =
    let more = one_more flags i inside was in
    let most = set_most (slice_set flags i true) in
    omega (arith, length-set flags i true)

-- all of them are set
pub set_all : (flags : List Bool) → ((k : ℕ) → k < length flags → slice_index_or flags k true ≡ true) → sum_by one_if flags ≡ length flags
set_all [] each = refl
set_all (flag ∷ flags) each =
    let first = ap one_if (each 0 (omega arith)) in
    let rest = set_all flags (λ k low. each (suc k) (omega (arith, low))) in
    omega (arith, first, rest, sum_by-cons one_if flag flags)
