-- Where sectors stand in the files that a repair writes: each in one place at most.
use Rattle.std.proofs.Common.{◌≡◌, ◌≢◌, ◌⊎◌, ◌<◌, ◌≤◌, ℕ, zero, suc, ◌+◌, ◌*◌, ◌/◌, Bool, true, false, cond, ◌==◌, if◌then◌else◌, List, [], ◌∷◌, inl, inr, refl, sym, ◌∙◌, ap, subst, arith, ⊎_elim}
use Rattle.std.specs.Prelude.{Some, None, slice_get}
use Rattle.std.specs.List.{range_with_len}
use Rattle.std.proofs.lemmas.Bool.{cases_lt, ne_eqb, eq-eqb}
use Rattle.std.proofs.lemmas.Bool.Decides.{eqb_tells}
use Rattle.std.proofs.Math.Nat.{div-mul-le_self, lt-div-mul-add, div-lt_iff_lt-mul}
use Rattle.hx_bytes.specs.declared.extents.Extent.{Extent}
use Rattle.fork_map.specs.Blocks.{sectors_of}
use Rattle.alloc_bitmap.specs.Apart.{times}
use Rattle.alloc_bitmap.proofs.ApartLaws.{times-cons, times-append}
use Rattle.volume_repair.specs.Repair.{place_from}
use Rattle.fsck_repair.proofs.OnceLaws.{hit_cases}

-- a test as a number
abbrev one_if : Bool → ℕ
one_if b = cond b 1 0

-- ---- a place in a list

pub place_is : (sectors : List ℕ) (base at k : ℕ) → place_from base sectors at ≡ Some k → (i : ℕ) × (k ≡ base + i) × (slice_get sectors i ≡ Some at)
place_is [] base at k is = absurd (cc)
place_is (s ∷ rest) base at k is = ⊎_elim
    (λ (same : (s == at ≡ true) × (s ≡ at)).
    let found : Some base ≡ Some k = sym (ap (λ b. if b then Some base else place_from (base + 1) rest at) same.0) ∙ is in
    (0, (let e : base ≡ k = cc in omega (arith, e)), ap Some same.1))
    (λ (other : (s == at ≡ false) × (s ≢ at)).
    let later = place_is rest (base + 1) at k (sym (ap (λ b. if b then Some base else place_from (base + 1) rest at) other.0) ∙ is) in
    (suc later.0, omega (arith, later.1), later.2))
    (eqb_tells s at)

pub place_none : (sectors : List ℕ) (base at : ℕ) → times at sectors ≡ 0 → place_from base sectors at ≡ None
place_none [] base at none = refl
place_none (s ∷ rest) base at none =
    let count : times at (s ∷ rest) ≡ one_if (s == at) + times at rest = times-cons at s rest in
    ⊎_elim
    (λ (same : (s == at ≡ true) × (s ≡ at)). absurd (let one : one_if (s == at) ≡ 1 = ap one_if same.0 in omega (arith, none, count, one)))
    (λ (other : (s == at ≡ false) × (s ≢ at)). ap (λ b. if b then Some base else place_from (base + 1) rest at) other.0 ∙ place_none rest (base + 1) at (omega (arith, none, count)))
    (eqb_tells s at)

pub stands_some : (sectors : List ℕ) (at i : ℕ) → slice_get sectors i ≡ Some at → 0 < times at sectors
stands_some [] at i is = absurd (cc)
stands_some (s ∷ rest) at zero is =
    let same : s ≡ at = cc in
    let one : one_if (s == at) ≡ 1 = ap one_if (eq-eqb s at same) in
    omega (arith, one, times-cons at s rest)
stands_some (s ∷ rest) at (suc i) is = omega (arith, stands_some rest at i is, times-cons at s rest)

pub place_once : (sectors : List ℕ) (base at i : ℕ) → slice_get sectors i ≡ Some at → times at sectors ≤ 1 → place_from base sectors at ≡ Some (base + i)
place_once [] base at i is once = absurd (cc)
place_once (s ∷ rest) base at zero is once =
    let same : s ≡ at = cc in
    ap (λ b. if b then Some base else place_from (base + 1) rest at) (eq-eqb s at same) ∙ ap Some {x = base} (omega arith)
place_once (s ∷ rest) base at (suc i) is once =
    let count : times at (s ∷ rest) ≡ one_if (s == at) + times at rest = times-cons at s rest in
    let more = stands_some rest at i is in
    ⊎_elim
    (λ (same : (s == at ≡ true) × (s ≡ at)). absurd (let one : one_if (s == at) ≡ 1 = ap one_if same.0 in omega (arith, once, count, one, more)))
    (λ (other : (s == at ≡ false) × (s ≢ at)).
    ap (λ b. if b then Some base else place_from (base + 1) rest at) other.0 ∙ place_once rest (base + 1) at i is (omega (arith, once, count)) ∙ ap Some {x = base + 1 + i} (omega arith))
    (eqb_tells s at)

-- ---- sectors and blocks

-- a sector is of this block or of another
of_block : (per at block : ℕ) → 0 < per → ((at / per ≡ block) × (block * per ≤ at) × (at < block * per + per)) ⊎ ((at / per ≢ block) × ((at < block * per) ⊎ (block * per + per ≤ at)))
of_block per at block some = ⊎_elim
    (λ (same : (at / per == block ≡ true) × (at / per ≡ block)). inl (same.1, subst (λ b. b * per ≤ at) same.1 (div-mul-le_self at per), subst (λ b. at < b * per + per) same.1 (lt-div-mul-add {a = at} some)))
    (λ (other : (at / per == block ≡ false) × (at / per ≢ block)). inr (
      other.1,
      ⊎_elim
          (λ (low : at < block * per). inl low)
          (λ (from : block * per ≤ at). ⊎_elim
          (λ (inside : at < block * per + per). absurd (other.1 (between from inside)))
          (λ (past : block * per + per ≤ at). inr past)
          (cases_lt at (block * per + per)))
          (cases_lt at (block * per)),
    ))
    (eqb_tells (at / per) block)
  where
    between : block * per ≤ at → at < block * per + per → at / per ≡ block
    between from inside =
        let high : at / per < block + 1 = (div-lt_iff_lt-mul {k = per} {x = at} {y = block + 1} some).1 (let same : (block + 1) * per ≡ block * per + per = grind arith in omega (arith, inside, same)) in
        ⊎_elim
        (λ (less : at / per < block). absurd (let low : at < block * per = (div-lt_iff_lt-mul {k = per} {x = at} {y = block} some).0 less in omega (arith, low, from)))
        (λ (most : block ≤ at / per). omega (arith, high, most))
        (cases_lt (at / per) block)

-- a sector stands among those of blocks as often as its block among these
pub times_sectors : (per at : ℕ) (blocks : List ℕ) → 0 < per → times at (sectors_of per blocks) ≡ times (at / per) blocks
times_sectors per at [] some = refl
times_sectors per at (block ∷ blocks) some =
    let rest = times_sectors per at blocks some in
    let parts : times at (sectors_of per (block ∷ blocks)) ≡ times at (range_with_len (block * per) per) + times at (sectors_of per blocks) = times-append at (range_with_len (block * per) per) (sectors_of per blocks) in
    let count : times (at / per) (block ∷ blocks) ≡ one_if (block == at / per) + times (at / per) blocks = times-cons (at / per) block blocks in
    ⊎_elim
    (λ (here : (at / per ≡ block) × (block * per ≤ at) × (at < block * per + per)).
    let one : one_if (block == at / per) ≡ 1 = ap one_if (eq-eqb block (at / per) (sym here.0)) in
    omega (arith, rest, parts, count, one, hit here.1 here.2))
    (λ (there : (at / per ≢ block) × ((at < block * per) ⊎ (block * per + per ≤ at))).
    let none : one_if (block == at / per) ≡ 0 = ap one_if (ne_eqb block (at / per) (λ same. there.0 (sym same))) in
    omega (arith, rest, parts, count, none, miss there.1))
    (of_block per at block some)
  where
    extent : Extent
    extent = record { start = block * per; count = per }

    hit : block * per ≤ at → at < block * per + per → times at (range_with_len (block * per) per) ≡ 1
    hit from inside = elim (hit_cases extent at) [
      | inl there ↦ there.2
      | inr none ↦ absurd (elim none.0 [
        | inl low ↦ omega (arith, low, from)
        | inr past ↦ omega (arith, past, inside)
      ])
    ]

    miss : (at < block * per) ⊎ (block * per + per ≤ at) → times at (range_with_len (block * per) per) ≡ 0
    miss outside = elim (hit_cases extent at) [
      | inl there ↦ absurd (elim outside [
        | inl low ↦ let from = there.0 in omega (arith, low, from)
        | inr past ↦ let inside = there.1 in omega (arith, past, inside)
      ])
      | inr none ↦ none.1
    ]
