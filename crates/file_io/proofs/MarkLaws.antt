-- How many flags are set where those of an extent are marked.
use Rattle.std.proofs.Common.{◌≡◌, ◌≤◌, ℕ, zero, suc, ◌+◌, Bool, true, false, List, [], ◌∷◌, ◌++◌, length, take, drop, replicate, refl, ap, arith, cond, ⊎_elim}
use Rattle.std.proofs.lemmas.Bool.Decides.{eqb_tells}
use Rattle.std.proofs.lemmas.List.{length-replicate}
use Rattle.std.proofs.lemmas.List.Sums.{count_by-le-length, sum_by-append, sum_by-cons}
use Rattle.hx_bytes.specs.declared.extents.Extent.{Extent}
use Rattle.flag_rows.specs.Bits.{count_set, mark}
use Rattle.alloc_bitmap.specs.Map.{touched_by}

pub set_of : (flags : List Bool) → count_set flags ≤ length flags
set_of flags = count_by-le-length (λ (flag : Bool). flag) flags

pub set_cons : (x : Bool) (xs : List Bool) → count_set (x ∷ xs) ≡ cond x 1 0 + count_set xs
set_cons x xs = sum_by-cons (λ (flag : Bool). cond flag 1 0) x xs

pub set_append : (xs ys : List Bool) → count_set (xs ++ ys) ≡ count_set xs + count_set ys
set_append xs ys = sum_by-append (λ (flag : Bool). cond flag 1 0) xs ys

take_none : (k : ℕ) → take k (let none_left : List Bool = [] in none_left) ≡ []
take_none zero = refl
take_none (suc k) = refl

drop_none : (k : ℕ) → drop k (let none_left : List Bool = [] in none_left) ≡ []
drop_none zero = refl
drop_none (suc k) = refl

split_set : (flags : List Bool) (s n : ℕ) → count_set (take s flags) + count_set (drop (s + n) flags) ≤ count_set flags
split_set [] s n = omega (arith, ap (λ (l : List Bool). count_set l) (take_none s), ap (λ (l : List Bool). count_set l) (drop_none (s + n)))
split_set (x ∷ xs) zero zero = omega arith
split_set (x ∷ xs) zero (suc n) = omega (arith, split_set xs 0 n, set_cons x xs, ap (λ k. count_set (drop k xs)) (let z : 0 + n ≡ n = omega arith in z), ap (λ k. count_set (drop k (x ∷ xs))) (let z : 0 + suc n ≡ suc n = omega arith in z))
split_set (x ∷ xs) (suc s) n = omega (arith, split_set xs s n, set_cons x xs, set_cons x (take s xs), ap (λ k. count_set (drop k (x ∷ xs))) (let z : suc s + n ≡ suc (s + n) = omega arith in z))

-- no more are set than those of the extent beside those that were
pub marked_more : (flags : List Bool) (e : Extent) → count_set (mark flags e true) ≤ count_set flags + e.count
marked_more flags e = omega (
  arith,
  set_append (take e.start flags) (replicate e.count true ++ drop (e.start + e.count) flags),
  set_append (replicate e.count true) (drop (e.start + e.count) flags),
  split_set flags e.start e.count,
  set_of (replicate e.count true),
  length-replicate e.count true,
)

-- an extent has bits in no more sectors than it has blocks
pub one_touched : (e : Extent) → (touched_by e).count ≤ e.count
one_touched e = ⊎_elim
    (λ nothing. rw nothing.0 (omega arith))
    (λ some. rw some.0 (omega (arith, some.1)))
    (eqb_tells e.count 0)

pub marked_once : (flags : List Bool) (e : Extent) → count_set (mark flags (touched_by e) true) ≤ count_set flags + e.count
marked_once flags e = omega (arith, marked_more flags (touched_by e), one_touched e)
