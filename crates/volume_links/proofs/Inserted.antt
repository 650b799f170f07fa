-- Lists in which an item that was put in is another one, and the order of records whose keys stay.
use Rattle.std.proofs.Common.{◌≡◌, ◌≢◌, ◌≤◌, ℕ, zero, suc, ◌++◌, List, [], ◌∷◌, length, refl, sym, ◌∙◌, ap, arith, true}
use Rattle.std.specs.Prelude.{None, Some, insert, slice_get, slice_set}
use Rattle.std.specs.List.{AllByRecursion}
use Rattle.std.specs.Ordering.{is_lt, nat_cmp, ordering_then}
use Rattle.std.specs.Cmp.Lexicographic.{slice_cmp}
use Rattle.std.proofs.lemmas.List.{set-set}
use Rattle.hfs_model.specs.Sorted.{IsInOrder}
use Rattle.hfs_volume.specs.Records.{Placed, placed_before}

-- ---- places of a list

pub got_set : {X : Type 0} (x y : X) (xs : List X) (k : ℕ) → slice_get xs k ≡ Some x → slice_get (slice_set xs k y) k ≡ Some y
got_set x y [] k at = absurd (let no : None ≡ Some x = at in cc no)
got_set x y (z ∷ zs) zero at = refl
got_set x y (z ∷ zs) (suc k) at = got_set x y zs k at

pub got_other : {X : Type 0} (y : X) (xs : List X) (k other : ℕ) → k ≢ other → slice_get (slice_set xs k y) other ≡ slice_get xs other
got_other y [] k other differs = refl
got_other y (z ∷ zs) zero zero differs = absurd (differs refl)
got_other y (z ∷ zs) zero (suc other) differs = refl
got_other y (z ∷ zs) (suc k) zero differs = refl
got_other y (z ∷ zs) (suc k) (suc other) differs = got_other y zs k other (λ same. differs (ap suc same))

pub sets_swap : {X : Type 0} (y z : X) (xs : List X) (k other : ℕ) → k ≢ other → slice_set (slice_set xs k y) other z ≡ slice_set (slice_set xs other z) k y
sets_swap y z [] k other differs = refl
sets_swap y z (w ∷ ws) zero zero differs = absurd (differs refl)
sets_swap y z (w ∷ ws) zero (suc other) differs = refl
sets_swap y z (w ∷ ws) (suc k) zero differs = refl
sets_swap y z (w ∷ ws) (suc k) (suc other) differs = ap (λ l. w ∷ l) (sets_swap y z ws k other (λ same. differs (ap suc same)))

set_same : {X : Type 0} (x : X) (xs : List X) (k : ℕ) → slice_get xs k ≡ Some x → slice_set xs k x ≡ xs
set_same x [] k at = refl
set_same x (z ∷ zs) zero at = ap (λ w. w ∷ zs) (sym (let same : Some z ≡ Some x = at in cc same))
set_same x (z ∷ zs) (suc k) at = ap (λ l. z ∷ l) (set_same x zs k at)

pub set_back : {X : Type 0} (x y : X) (xs : List X) (k : ℕ) → slice_get xs k ≡ Some x → slice_set (slice_set xs k y) k x ≡ xs
set_back x y xs k at = set_set xs k ∙ set_same x xs k at
  where
    set_set : (zs : List _) (n : ℕ) → slice_set (slice_set zs n y) n x ≡ slice_set zs n x
    set_set zs n = set-set zs n y x

-- ---- an item that was put in

pub inserted_at : {X : Type 0} (x : X) (xs : List X) (i : ℕ) → i ≤ length xs → slice_get (insert xs i x) i ≡ Some x
inserted_at x xs zero within = refl
inserted_at x [] (suc i) within = absurd (omega (arith, within))
inserted_at x (z ∷ zs) (suc i) within = inserted_at x zs i (omega (arith, within))

pub inserted_set : {X : Type 0} (x y : X) (xs : List X) (i : ℕ) → i ≤ length xs → slice_set (insert xs i x) i y ≡ insert xs i y
inserted_set x y xs zero within = refl
inserted_set x y [] (suc i) within = absurd (omega (arith, within))
inserted_set x y (z ∷ zs) (suc i) within = ap (λ l. z ∷ l) (inserted_set x y zs i (omega (arith, within)))

-- where another item is put in, too, it stands somewhere, and may be exchanged before or behind that
pub passed : {X : Type 0} (x y t : X) (xs : List X) (j i : ℕ) → slice_get xs i ≡ Some x → (q : ℕ) × (slice_get (insert xs j t) q ≡ Some x) × (insert (slice_set xs i y) j t ≡ slice_set (insert xs j t) q y)
passed x y t xs zero i at = (suc i, at, refl)
passed x y t [] (suc j) i at = absurd (let no : None ≡ Some x = at in cc no)
passed x y t (z ∷ zs) (suc j) zero at = (zero, at, refl)
passed x y t (z ∷ zs) (suc j) (suc i) at =
    let later = passed x y t zs j i at in
    (suc later.0, later.1, ap (λ l. z ∷ l) later.2)

-- ---- the order of records

swap_all : (x y z : Placed) (front back : List Placed) → placed_before z x ≡ placed_before z y → AllByRecursion (λ later. placed_before z later ≡ true) (front ++ x ∷ back) → AllByRecursion (λ later. placed_before z later ≡ true) (front ++ y ∷ back)
swap_all x y z [] back same all = (sym same ∙ all.0, all.1)
swap_all x y z (w ∷ front) back same all = (all.0, swap_all x y z front back same all.1)

front_all : (x y : Placed) (back : List Placed) → ((z : Placed) → placed_before x z ≡ placed_before y z) → AllByRecursion (λ later. placed_before x later ≡ true) back → AllByRecursion (λ later. placed_before y later ≡ true) back
front_all x y [] same all = tt
front_all x y (z ∷ back) same all = (sym (same z) ∙ all.0, front_all x y back same all.1)

-- a list is in order with another record of the same key
pub order_stays : (x y : Placed) (front back : List Placed) → y.parent ≡ x.parent → y.name ≡ x.name → IsInOrder placed_before (front ++ x ∷ back) → IsInOrder placed_before (front ++ y ∷ back)
order_stays x y [] back parent name order =
    (front_all x y back (λ z. λ i. is_lt (ordering_then (nat_cmp (sym parent i) z.parent) (slice_cmp nat_cmp (sym name i) z.name))) order.0, order.1)
order_stays x y (z ∷ front) back parent name order = (
  swap_all x y z front back (λ i. is_lt (ordering_then (nat_cmp z.parent (sym parent i)) (slice_cmp nat_cmp z.name (sym name i)))) order.0,
  order_stays x y front back parent name order.1,
)
