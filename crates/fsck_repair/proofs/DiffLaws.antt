-- A repair that is seen through its changes, of which there are as many as sectors differ.
use Rattle.std.proofs.Common.{◌≡◌, ◌≢◌, ◌⊎◌, ◌<◌, ◌≤◌, ℕ, zero, suc, ◌+◌, Bool, true, false, not, cond, ◌==◌, if◌then◌else◌, List, [], ◌∷◌, length, map, inl, inr, refl, sym, ◌∙◌, ap, subst, arith, ⊎_elim, ext_get_or}
use Rattle.std.specs.Prelude.{Contains}
use Rattle.std.specs.List.{range_with_len, count_by}
use Rattle.std.specs.Str.{bytes_eq}
use Rattle.std.proofs.lemmas.Bool.{ne_eqb, eq-eqb}
use Rattle.std.proofs.lemmas.Bool.Decides.{eqb_tells}
use Rattle.std.proofs.lemmas.Slice.Eq.{bytes_eq-Decides}
use Rattle.std.proofs.lemmas.List.FromFn.{length-map-range_with_len, get_or-map-range_with_len}
use Rattle.std.proofs.lemmas.List.Sums.{sum_by-cons}
use Rattle.alloc_bitmap.specs.Apart.{times}
use Rattle.alloc_bitmap.proofs.ApartLaws.{times-cons}
use Rattle.sector_disk.specs.Lists.{Content, sector}
use Rattle.hfs_volume.proofs.BlockWants.{range_bounds}
use Rattle.hfs_volume.proofs.Members.{at_front, behind, first_or_later, map_stands}
use Rattle.volume_repair.specs.Repair.{sector_mended, mended}
use Rattle.volume_repair.specs.Differing.{differing}
use Rattle.fsck_repair.specs.Changing.{AreRight, IsSettled}
use Rattle.fsck_repair.specs.Overlay.{changed, overlaid, places_of, ChangesOnce}
use Rattle.fsck_repair.specs.declared.mend.Change.{Change}
use Rattle.fsck_repair.proofs.Overlaying.{overlaid_at}

-- a test as a number
abbrev one_if : Bool → ℕ
one_if b = cond b 1 0

-- a sector's bytes are those of a change, or its own
pub changed_cases : (changes : List Change) (at : ℕ) (old : List ℕ) → ((change : Change) × Contains changes change × (change.at ≡ at) × (changed changes at old ≡ change.bytes)) ⊎ ((¬ Contains (places_of changes) at) × (changed changes at old ≡ old))
changed_cases [] at old = inr (λ stands. absurd (omega (arith, stands.1)), refl)
changed_cases (change ∷ changes) at old = ⊎_elim
    (λ (same : (change.at == at ≡ true) × (change.at ≡ at)). inl (change, at_front change changes, same.1, ap (λ b. if b then change.bytes else changed changes at old) same.0))
    (λ (other : (change.at == at ≡ false) × (change.at ≢ at)).
    let step : changed (change ∷ changes) at old ≡ changed changes at old = ap (λ b. if b then change.bytes else changed changes at old) other.0 in
    elim (changed_cases changes at old) [
      | inl there ↦ inl (there.0, behind change there.0 changes there.1, there.2, step ∙ there.3)
      | inr none ↦ inr (
        λ stands. elim (first_or_later change.at at (places_of changes) stands) [
          | inl is ↦ other.1 (sym is)
          | inr later ↦ none.0 later
        ],
        step ∙ none.1,
      )
    ])
    (eqb_tells change.at at)

-- the repair is seen through right changes, where each sector is settled
pub mended_is_overlaid : (content : Content) (changes : List Change) → AreRight content changes → ((at : ℕ) → IsSettled content changes at) → overlaid changes content ≡ mended content
unfolding mended
mended_is_overlaid content changes right settled =
    ext_get_or [] (overlaid changes content) (map (sector_mended content) (range_with_len 0 (length content)))
    (length-map-range_with_len (λ at. changed changes at (sector content at)) 0 (length content) ∙ sym (length-map-range_with_len (sector_mended content) 0 (length content)))
    (λ k inside.
    let low : k < length content = omega (arith, inside, length-map-range_with_len (λ at. changed changes at (sector content at)) 0 (length content)) in
    overlaid_at changes content (length content) k refl low ∙ each k low ∙ sym (get_or-map-range_with_len (sector_mended content) 0 (length content) k k [] low (omega arith)))
  where
    each : (k : ℕ) → k < length content → changed changes k (sector content k) ≡ sector_mended content k
    each k low = elim (changed_cases changes k (sector content k)) [
      | inl there ↦ there.3 ∙ (right there.0 there.1).bytes ∙ ap (sector_mended content) there.2
      | inr none ↦ elim (settled k low) [
        | inl same ↦ none.1 ∙ sym same
        | inr stands ↦ absurd (none.0 stands)
      ]
    ]

-- no change leaves a content as it is
pub overlaid_none : (content : Content) → overlaid [] content ≡ content
overlaid_none content =
    ext_get_or [] (overlaid [] content) content (length-map-range_with_len (λ at. changed [] at (sector content at)) 0 (length content))
    (λ k inside. overlaid_at [] content (length content) k refl (omega (arith, inside, length-map-range_with_len (λ at. changed [] at (sector content at)) 0 (length content))))

-- ---- as many as differ

count_same : {X : Type 0} (p q : X → Bool) (xs : List X) → ((x : X) → Contains xs x → p x ≡ q x) → count_by p xs ≡ count_by q xs
count_same p q [] same = refl
count_same p q (x ∷ xs) same =
    sum_by-cons (λ y. one_if (p y)) x xs ∙ (λ i. one_if (same x (at_front x xs) i) + count_same p q xs (λ y stands. same y (behind x y xs stands)) i) ∙ sym (sum_by-cons (λ y. one_if (q y)) x xs)

-- one more number passes, which stands in the list once
count_one_more : (p q : ℕ → Bool) (at : ℕ) (xs : List ℕ) → p at ≡ false → q at ≡ true → ((x : ℕ) → x ≢ at → q x ≡ p x) → count_by q xs ≡ count_by p xs + times at xs
count_one_more p q at [] off on other = refl
count_one_more p q at (x ∷ xs) off on other =
    let rest : count_by q xs ≡ count_by p xs + times at xs = count_one_more p q at xs off on other in
    let a : count_by q (x ∷ xs) ≡ one_if (q x) + count_by q xs = sum_by-cons (λ y. one_if (q y)) x xs in
    let b : count_by p (x ∷ xs) ≡ one_if (p x) + count_by p xs = sum_by-cons (λ y. one_if (p y)) x xs in
    let c : times at (x ∷ xs) ≡ one_if (x == at) + times at xs = times-cons at x xs in
    ⊎_elim
    (λ (same : (x == at ≡ true) × (x ≡ at)).
    let d : one_if (q x) ≡ 1 = ap one_if (ap q same.1 ∙ on) in
    let e : one_if (p x) ≡ 0 = ap one_if (ap p same.1 ∙ off) in
    let f : one_if (x == at) ≡ 1 = ap one_if same.0 in
    omega (arith, rest, a, b, c, d, e, f))
    (λ (not_same : (x == at ≡ false) × (x ≢ at)).
    let d : one_if (q x) ≡ one_if (p x) = ap one_if (other x not_same.1) in
    let f : one_if (x == at) ≡ 0 = ap one_if not_same.0 in
    omega (arith, rest, a, b, c, d, f))
    (eqb_tells x at)

-- a number stands once in those below another
once_below : (at n : ℕ) → at < n → times at (range_with_len 0 n) ≡ 1
once_below at n inside = from 0 n (omega arith) (omega (arith, inside))
  where
    before : (a m : ℕ) → at < a → times at (range_with_len a m) ≡ 0
    before a zero low = refl
    before a (suc m) low =
        let c : times at (range_with_len a (suc m)) ≡ one_if (a == at) + times at (range_with_len (a + 1) m) = times-cons at a (range_with_len (a + 1) m) in
        let f : one_if (a == at) ≡ 0 = ap one_if (ne_eqb a at (λ same. absurd (omega (arith, same, low)))) in
        omega (arith, c, f, before (a + 1) m (omega (arith, low)))

    from : (a m : ℕ) → a ≤ at → at < a + m → times at (range_with_len a m) ≡ 1
    from a zero low high = absurd (omega (arith, low, high))
    from a (suc m) low high =
        let c : times at (range_with_len a (suc m)) ≡ one_if (a == at) + times at (range_with_len (a + 1) m) = times-cons at a (range_with_len (a + 1) m) in
        ⊎_elim
        (λ (same : (a == at ≡ true) × (a ≡ at)).
        let f : one_if (a == at) ≡ 1 = ap one_if same.0 in
        omega (arith, c, f, before (a + 1) m (omega (arith, same.1))))
        (λ (other : (a == at ≡ false) × (a ≢ at)).
        let f : one_if (a == at) ≡ 0 = ap one_if other.0 in
        omega (arith, c, f, from (a + 1) m (omega (arith, low, other.1)) (omega (arith, high))))
        (eqb_tells a at)

abbrev differs_at : Content → List Change → ℕ → Bool
differs_at content changes at = not (bytes_eq (changed changes at (sector content at)) (sector content at))

differs_not : (content : Content) (changes : List Change) (at : ℕ) → ¬ Contains (places_of changes) at → differs_at content changes at ≡ false
differs_not content changes at none = elim (changed_cases changes at (sector content at)) [
  | inl there ↦ absurd (none (subst (λ k. Contains (places_of changes) k) there.2 (map_stands (λ (c : Change). c.at) changes there.0 there.1)))
  | inr same ↦ ap not ((bytes_eq-Decides (changed changes at (sector content at)) (sector content at)).1 same.1)
]

count_changes : (content : Content) (changes : List Change) → ChangesOnce changes → AreRight content changes → count_by (differs_at content changes) (range_with_len 0 (length content)) ≡ length changes
count_changes content [] once right = none (range_with_len 0 (length content))
  where
    none : (xs : List ℕ) → count_by (differs_at content []) xs ≡ 0
    none [] = refl
    none (x ∷ xs) = sum_by-cons (λ y. one_if (differs_at content [] y)) x xs ∙ (λ i. cond (differs_not content [] x (λ stands. absurd (omega (arith, stands.1))) i) 1 0 + none xs i)
count_changes content (change ∷ changes) once right =
    let rest : count_by (differs_at content changes) (range_with_len 0 (length content)) ≡ length changes = count_changes content changes once.1 (λ c stands. right c (behind change c changes stands)) in
    let more : count_by (differs_at content (change ∷ changes)) (range_with_len 0 (length content)) ≡ count_by (differs_at content changes) (range_with_len 0 (length content)) + times change.at (range_with_len 0 (length content)) =
    count_one_more (differs_at content changes) (differs_at content (change ∷ changes)) change.at (range_with_len 0 (length content)) (differs_not content changes change.at once.0) here other in
    omega (arith, rest, more, once_below change.at (length content) (right change (at_front change changes)).inside)
  where
    is_it : (at : ℕ) → change.at ≡ at → changed (change ∷ changes) at (sector content at) ≡ change.bytes
    is_it at same = ap (λ b. if b then change.bytes else changed changes at (sector content at)) (eq-eqb change.at at same)

    here : differs_at content (change ∷ changes) change.at ≡ true
    here = tells (bytes_eq (changed (change ∷ changes) change.at (sector content change.at)) (sector content change.at)) refl
      where
        tells : (b : Bool) → bytes_eq (changed (change ∷ changes) change.at (sector content change.at)) (sector content change.at) ≡ b → not b ≡ true
        tells false is = refl
        tells true is = absurd ((right change (at_front change changes)).differs (sym (is_it change.at refl) ∙ (bytes_eq-Decides (changed (change ∷ changes) change.at (sector content change.at)) (sector content change.at)).0 is))

    other : (at : ℕ) → at ≢ change.at → differs_at content (change ∷ changes) at ≡ differs_at content changes at
    other at not_same = ap (λ (l : List ℕ). not (bytes_eq l (sector content at))) (ap (λ b. if b then change.bytes else changed changes at (sector content at)) (ne_eqb change.at at (λ same. not_same (sym same))))

pub as_many_differ : (content : Content) (changes : List Change) → ChangesOnce changes → AreRight content changes → length changes ≡ differing content (overlaid changes content)
as_many_differ content changes once right =
    sym (count_changes content changes once right)
    ∙ sym (count_same (λ at. not (bytes_eq (sector (overlaid changes content) at) (sector content at))) (differs_at content changes) (range_with_len 0 (length content))
    (λ at stands. ap (λ (l : List ℕ). not (bytes_eq l (sector content at))) (overlaid_at changes content (length content) at refl (below at stands))))
  where
    below : (at : ℕ) → Contains (range_with_len 0 (length content)) at → at < length content
    below at stands = let high = (range_bounds 0 (length content) at stands).1 in omega (arith, high)
