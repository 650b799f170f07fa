-- The changed sectors of a bitmap's file, in order.
use Rattle.std.proofs.Common.{◌≡◌, ◌⊎◌, ℕ, suc, zero, ◌+◌, ◌-◌, ◌≤◌, ◌<◌, Bool, true, false, List, [], ◌∷◌, length, get_or, drop, slice_get, Some, None, inl, inr, refl, sym, ◌∙◌, ap, subst, arith, ⊎_elim}
use Rattle.std.specs.List.{All, Contains}
use Rattle.std.proofs.lemmas.Bool.{cases_lt}
use Rattle.std.proofs.lemmas.List.{get_or-drop, drop_more, drop_all, drop-drop}
use Rattle.std.proofs.lemmas.List.Elements.{All-from_get_or, Contains-get_or}
use Rattle.std.proofs.lemmas.Option.{slice_get_within, get_or_from_slice_get, slice_get-get_or, same_Some}
use Rattle.alloc_bitmap.specs.Fork.{IsChanged, changed_of}

-- ---- which they are
front_or_rest : (k x : ℕ) (xs : List ℕ) (s : ℕ) → k < length (x ∷ xs) → get_or (x ∷ xs) k s ≡ s → (x ≡ s) ⊎ Contains xs s
front_or_rest zero x xs s low is = inl is
front_or_rest (suc k) x xs s low is = inr (k, omega (arith, low), is)

later : (x : ℕ) (xs : List ℕ) (b : Bool) (bs : List Bool) (s : ℕ) → IsChanged xs bs s → IsChanged (x ∷ xs) (b ∷ bs) s
later x xs b bs s c = (suc c.0, c.1, c.2)

pub changed_in : (sectors : List ℕ) (changed : List Bool) (s : ℕ) → Contains (changed_of sectors changed) s → IsChanged sectors changed s
changed_in [] changed s c = absurd (omega (arith, c.1))
changed_in (x ∷ xs) [] s c = absurd (omega (arith, c.1))
changed_in (x ∷ xs) (true ∷ bs) s c = ⊎_elim (λ (e : x ≡ s). (0, refl, ap (λ n. Some n) e)) (λ rest. later x xs true bs s (changed_in xs bs s rest)) (front_or_rest c.0 x (changed_of xs bs) s c.1 c.2)
changed_in (x ∷ xs) (false ∷ bs) s c = later x xs false bs s (changed_in xs bs s c)

there : (x : ℕ) (xs : List ℕ) (s : ℕ) → Contains xs s → Contains (x ∷ xs) s
there x xs s c = (suc c.0, omega (arith, c.1), c.2)

pub changed_out : (sectors : List ℕ) (changed : List Bool) (p s : ℕ) → get_or changed p false ≡ true → slice_get sectors p ≡ Some s → Contains (changed_of sectors changed) s
changed_out [] changed p s is place = absurd (cc place)
changed_out (x ∷ xs) [] p s is place = absurd (cc is)
changed_out (x ∷ xs) (true ∷ bs) zero s is place = (0, omega arith, same_Some x s place)
changed_out (x ∷ xs) (true ∷ bs) (suc p) s is place = there x (changed_of xs bs) s (changed_out xs bs p s is place)
changed_out (x ∷ xs) (false ∷ bs) zero s is place = absurd (cc is)
changed_out (x ∷ xs) (false ∷ bs) (suc p) s is place = changed_out xs bs p s is place

pub changed_below : (sectors : List ℕ) (changed : List Bool) (n : ℕ) → All (λ s. s < n) sectors → All (λ s. s < n) (changed_of sectors changed)
changed_below sectors changed n inside = All-from_get_or (λ s. s < n) (changed_of sectors changed) 0 (λ i low.
    let at = get_or (changed_of sectors changed) i 0 in
    let c = changed_in sectors changed at (Contains-get_or (changed_of sectors changed) i 0 low) in
    subst (λ s. s < n) (get_or_from_slice_get sectors c.0 at 0 c.2) (inside c.0 0 (slice_get_within sectors c.0 at c.2)))

-- ---- those from a place on
none_changed : (sectors : List ℕ) → changed_of sectors [] ≡ []
none_changed [] = refl
none_changed (x ∷ xs) = refl

skip : (n : ℕ) (sectors : List ℕ) (changed : List Bool) → ((k : ℕ) → k < n → get_or changed k false ≡ false) → changed_of sectors changed ≡ changed_of (drop n sectors) (drop n changed)
skip zero sectors changed none = refl
skip (suc n) [] changed none = refl
skip (suc n) (x ∷ xs) [] none = sym (none_changed (drop n xs))
skip (suc n) (x ∷ xs) (true ∷ bs) none = absurd (let no : true ≡ false = none 0 (omega arith) in cc no)
skip (suc n) (x ∷ xs) (false ∷ bs) none = skip n xs bs (λ k low. none (suc k) (omega (arith, low)))

-- sectors that weren't changed are passed over
pub skip_to : (p q : ℕ) (sectors : List ℕ) (changed : List Bool) → p ≤ q → ((k : ℕ) → p ≤ k → k < q → get_or changed k false ≡ false) → changed_of (drop p sectors) (drop p changed) ≡ changed_of (drop q sectors) (drop q changed)
skip_to p q sectors changed le none =
    let far : p + (q - p) ≡ q = omega (arith, le) in
    skip (q - p) (drop p sectors) (drop p changed) (λ k low. get_or-drop p changed k false ∙ none (p + k) (omega arith) (omega (arith, low, le)))
    ∙ ap (λ (l : List ℕ). changed_of l (drop (q - p) (drop p changed))) (drop-drop (q - p) p sectors ∙ ap (λ n. drop n sectors) far)
    ∙ ap (λ (l : List Bool). changed_of (drop q sectors) l) (drop-drop (q - p) p changed ∙ ap (λ n. drop n changed) far)

-- the next one
pub next_changed : (p q at : ℕ) (sectors : List ℕ) (changed : List Bool) → p ≤ q → ((k : ℕ) → p ≤ k → k < q → get_or changed k false ≡ false) → q < length changed → get_or changed q false ≡ true → slice_get sectors q ≡ Some at
    → changed_of (drop p sectors) (drop p changed) ≡ at ∷ changed_of (drop (q + 1) sectors) (drop (q + 1) changed)
next_changed p q at sectors changed le none inside is place =
    let s : drop q sectors ≡ at ∷ drop (q + 1) sectors = drop_more sectors q 0 (slice_get_within sectors q at place) ∙ ap (λ k. k ∷ drop (q + 1) sectors) (get_or_from_slice_get sectors q at 0 place) in
    let b : drop q changed ≡ true ∷ drop (q + 1) changed = drop_more changed q false inside ∙ ap (λ k. k ∷ drop (q + 1) changed) is in
    skip_to p q sectors changed le none ∙ ap (λ (l : List ℕ). changed_of l (drop q changed)) s ∙ ap (λ (l : List Bool). changed_of (at ∷ drop (q + 1) sectors) l) b

-- there is none behind the last
pub end_of_changes : (p q : ℕ) (sectors : List ℕ) (changed : List Bool) → p ≤ q → ((k : ℕ) → p ≤ k → k < q → get_or changed k false ≡ false) → length changed ≤ q → changed_of (drop p sectors) (drop p changed) ≡ []
end_of_changes p q sectors changed le none past =
    skip_to p q sectors changed le none ∙ ap (λ (l : List Bool). changed_of (drop q sectors) l) (drop_all q changed past) ∙ none_changed (drop q sectors)

-- a place that a list lacks lies behind its end
pub past_end : (sectors : List ℕ) (p : ℕ) → None ≡ slice_get sectors p → length sectors ≤ p
past_end sectors p none = ⊎_elim
    (λ (inside : p < length sectors). absurd (let no : None ≡ Some (get_or sectors p 0) = none ∙ slice_get-get_or sectors p 0 inside in cc no))
    (λ (le : length sectors ≤ p). le)
    (cases_lt p (length sectors))

pub end_of_sectors : (p q : ℕ) (sectors : List ℕ) (changed : List Bool) → p ≤ q → ((k : ℕ) → p ≤ k → k < q → get_or changed k false ≡ false) → None ≡ slice_get sectors q → changed_of (drop p sectors) (drop p changed) ≡ []
end_of_sectors p q sectors changed le none past =
    skip_to p q sectors changed le none ∙ ap (λ (l : List ℕ). changed_of l (drop q changed)) (drop_all q sectors (past_end sectors q past))
