-- Sectors of blocks: how often one stands in them, and which block it belongs to.
use Rattle.std.proofs.Common.{◌≡◌, ◌⊎◌, ◌<◌, ◌≤◌, ℕ, zero, suc, ◌+◌, ◌*◌, ◌/◌, ◌==◌, true, false, cond, List, [], ◌∷◌, ◌++◌, length, get_or, refl, sym, ◌∙◌, ap, subst, arith, inl, inr, ⊎_elim, eq-eqb}
use Rattle.std.specs.Prelude.{Contains, slice_get, Some}
use Rattle.std.specs.List.{flat_map, range_with_len}
use Rattle.std.proofs.Math.Nat.{le-div_iff_mul-le, div-mul-le_self}
use Rattle.std.proofs.lemmas.Bool.{cases_lt, cases_eq}
use Rattle.std.proofs.lemmas.Bool.Decides.{eqb_tells}
use Rattle.std.proofs.lemmas.List.Elements.{Contains-append_left, Contains-append_right, Contains-append_cases}
use Rattle.fork_map.specs.Blocks.{sectors_of}
use Rattle.alloc_bitmap.specs.Apart.{times, AreApart as AreOnce}
use Rattle.alloc_bitmap.proofs.ApartLaws.{times-append, times-cons}
use Rattle.btree_file.specs.Place.{AreApart}
use Rattle.hfs_volume.proofs.BlockWants.{range_bounds}
use Rattle.hfs_volume.proofs.Members.{at_front, behind, first_or_later}

-- ---- pieces

pub flat_cases : {X Y : Type 0} (f : X → List Y) (xs : List X) (y : Y) → Contains (flat_map f xs) y → (x : X) × Contains xs x × Contains (f x) y
flat_cases f [] y stands = absurd (omega (arith, stands.1))
flat_cases f (x ∷ xs) y stands = elim (Contains-append_cases (f x) (flat_map f xs) y stands) [
  | inl here ↦ (x, at_front x xs, here)
  | inr later ↦ let rest = flat_cases f xs y later in (rest.0, behind x rest.0 xs rest.1, rest.2)
]

pub flat_stands : {X Y : Type 0} (f : X → List Y) (xs : List X) (x : X) (y : Y) → Contains xs x → Contains (f x) y → Contains (flat_map f xs) y
flat_stands f [] x y stands has = absurd (omega (arith, stands.1))
flat_stands f (z ∷ xs) x y stands has = elim (first_or_later z x xs stands) [
  | inl is ↦ Contains-append_left (f z) (flat_map f xs) y (subst (λ w. Contains (f w) y) is has)
  | inr later ↦ Contains-append_right (f z) (flat_map f xs) y (flat_stands f xs x y later has)
]

-- ---- how often

-- what stands in a list stands there at least once
pub stands_once : (n : ℕ) (xs : List ℕ) → Contains xs n → 1 ≤ times n xs
stands_once n [] none = absurd (omega (arith, none.1))
stands_once n (x ∷ xs) stands = elim (first_or_later x n xs stands) [
  | inl is ↦ let one : times n (x ∷ xs) ≡ 1 + times n xs = times-cons n x xs ∙ ap (λ b. cond b 1 0 + times n xs) (eq-eqb x n (sym is)) in omega (arith, one)
  | inr later ↦ omega (arith, times-cons n x xs, stands_once n xs later)
]

pub default_is : (ys : List ℕ) (k d : ℕ) → k < length ys → get_or ys k d ≡ get_or ys k 0
default_is [] k d low = absurd (omega (arith, low))
default_is (y ∷ ys) zero d low = refl
default_is (y ∷ ys) (suc k) d low = default_is ys k d (omega (arith, low))

-- a list in which nothing stands twice has each item at one place
pub once_apart : (xs : List ℕ) → AreOnce xs → AreApart xs
once_apart [] once i j i_in j_in same = absurd (omega (arith, i_in))
once_apart (x ∷ xs) once zero zero i_in j_in same = refl
once_apart (x ∷ xs) once zero (suc j) i_in j_in same =
    let has : Contains xs x = (j, omega (arith, j_in), default_is xs j x (omega (arith, j_in)) ∙ sym same) in
    let two : times x (x ∷ xs) ≡ 1 + times x xs = times-cons x x xs ∙ ap (λ b. cond b 1 0 + times x xs) (eq-eqb x x refl) in
    absurd (omega (arith, once x, two, stands_once x xs has))
once_apart (x ∷ xs) once (suc i) zero i_in j_in same =
    let has : Contains xs x = (i, omega (arith, i_in), default_is xs i x (omega (arith, i_in)) ∙ same) in
    let two : times x (x ∷ xs) ≡ 1 + times x xs = times-cons x x xs ∙ ap (λ b. cond b 1 0 + times x xs) (eq-eqb x x refl) in
    absurd (omega (arith, once x, two, stands_once x xs has))
once_apart (x ∷ xs) once (suc i) (suc j) i_in j_in same =
    ap (λ n. suc n) (once_apart xs (λ n. omega (arith, once n, times-cons n x xs)) i j (omega (arith, i_in)) (omega (arith, j_in)) same)

times_below : (a n k : ℕ) → k < a → times k (range_with_len a n) ≡ 0
times_below a zero k lt = refl
times_below a (suc n) k lt = ⊎_elim (λ same. absurd (omega (arith, same.1, lt))) (λ other. times-cons k a (range_with_len (a + 1) n) ∙ rw other.0 (omega (arith, times_below (a + 1) n k (omega (arith, lt))))) (eqb_tells a k)

times_inside : (a n k : ℕ) → a ≤ k → k < a + n → times k (range_with_len a n) ≡ 1
times_inside a zero k low high = absurd (omega (arith, low, high))
times_inside a (suc n) k low high = times-cons k a (range_with_len (a + 1) n) ∙ ⊎_elim
    (λ same. rw same.0 (omega (arith, times_below (a + 1) n k (omega (arith, same.1)))))
    (λ other. let past : a + 1 ≤ k = omega (arith, low, other.1) in rw other.0 (omega (arith, times_inside (a + 1) n k past (omega (arith, high)))))
    (eqb_tells a k)

times_above : (a n k : ℕ) → a + n ≤ k → times k (range_with_len a n) ≡ 0
times_above a zero k high = refl
times_above a (suc n) k high = times-cons k a (range_with_len (a + 1) n) ∙ ⊎_elim
    (λ same. absurd (omega (arith, same.1, high)))
    (λ other. rw other.0 (omega (arith, times_above (a + 1) n k (omega (arith, high)))))
    (eqb_tells a k)

-- the block that a sector belongs to
pub block_is : (per block at : ℕ) → 0 < per → block * per ≤ at → at < block * per + per → at / per ≡ block
block_is per block at some low high =
    let least : block ≤ at / per = (le-div_iff_mul-le {k = per} {x = block} {y = at} some).1 low in
    ⊎_elim
    (λ (below : at / per < suc block). omega (arith, least, below))
    (λ (above : suc block ≤ at / per).
    let more : suc block * per ≤ at = (le-div_iff_mul-le {k = per} {x = suc block} {y = at} some).0 above in
    let next : suc block * per ≡ block * per + per = omega arith in
    absurd (omega (arith, more, next, high)))
    (cases_lt (at / per) (suc block))

-- how often a sector stands among those of a block
in_one_block : (per block at : ℕ) → 0 < per → times at (range_with_len (block * per) per) ≡ cond (block == at / per) 1 0
in_one_block per block at some = ⊎_elim
    (λ (before : at < block * per). times_below (block * per) per at before ∙ sym (ap {B = ℕ} (λ b. cond b 1 0) (differs (λ same.
    omega (arith, before, div-mul-le_self at per, ap (λ b. b * per) same)))))
    (λ (from : block * per ≤ at). ⊎_elim
    (λ (inside : at < block * per + per). times_inside (block * per) per at from inside ∙ sym (ap {B = ℕ} (λ b. cond b 1 0) (eq-eqb block (at / per) (sym (block_is per block at some from inside)))))
    (λ (past : block * per + per ≤ at). times_above (block * per) per at past ∙ sym (ap {B = ℕ} (λ b. cond b 1 0) (differs (λ same.
    let next : suc block * per ≡ block * per + per = omega arith in
    let more : suc block ≤ at / per = (le-div_iff_mul-le {k = per} {x = suc block} {y = at} some).1 (omega (arith, past, next)) in
    omega (arith, more, same)))))
    (cases_lt at (block * per + per)))
    (cases_lt at (block * per))
  where
    differs : (block ≡ at / per → ⊥) → (block == at / per) ≡ false
    differs apart = ⊎_elim (λ same. absurd (apart same.1)) (λ other. other.0) (eqb_tells block (at / per))

-- a sector stands among those of some blocks as often as its block among these
pub times_sectors : (per : ℕ) (blocks : List ℕ) (at : ℕ) → 0 < per → times at (sectors_of per blocks) ≡ times (at / per) blocks
times_sectors per [] at some = refl
times_sectors per (block ∷ blocks) at some =
    omega (arith, times-append at (range_with_len (block * per) per) (sectors_of per blocks), in_one_block per block at some, times_sectors per blocks at some, times-cons (at / per) block blocks)

-- a sector of blocks belongs to one of them
pub in_block : (per : ℕ) (blocks : List ℕ) (at : ℕ) → 0 < per → Contains (sectors_of per blocks) at → Contains blocks (at / per)
in_block per blocks at some stands =
    let found = flat_cases (λ (block : ℕ). range_with_len (block * per) per) blocks at stands in
    let range = range_bounds (found.0 * per) per at found.2 in
    subst (λ b. Contains blocks b) (sym (block_is per found.0 at some range.0 range.1)) found.1
