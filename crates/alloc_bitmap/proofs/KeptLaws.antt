-- Flags that are marked, and marks that are taken back.
use Rattle.std.proofs.Common.{◌≡◌, ℕ, ◌+◌, ◌≤◌, ◌<◌, ◌⊎◌, Bool, true, false, not, ◌||◌, if◌then◌else◌, List, [], ◌∷◌, ◌++◌, length, get_or, map, refl, sym, ◌∙◌, ap, subst, arith, ⊎_elim, inl, inr}
use Rattle.std.proofs.lemmas.List.{same_lists, get_or_default}
use Rattle.hx_bytes.specs.declared.extents.Extent.{Extent}
use Rattle.alloc_bitmap.specs.declared.log.BitChange.{BitChange}
use Rattle.flag_rows.specs.Bits.{mark, has}
use Rattle.flag_rows.specs.Marks.{is_held}
use Rattle.flag_rows.specs.Marks.{mark_all, Fit}
use Rattle.alloc_bitmap.specs.Kept.{rewind, ChangesFit}
use Rattle.flag_rows.proofs.RowLaws.{length-mark, get_or-mark}
use Rattle.flag_rows.proofs.TakeLaws.{length-mark_all, get_or-mark_all}

-- ---- marks by index
other : (a b v old : Bool) → (if a then v else (if b then v else old)) ≡ (if a || b then v else old)
other true true v old = refl
other true false v old = refl
other false true v old = refl
other false false v old = refl

pub length-rewind : (log : List BitChange) (xs : List Bool) → ChangesFit (length xs) log → length (rewind log xs) ≡ length xs
length-rewind [] xs fit = refl
length-rewind (c ∷ log) xs fit = let rest = length-rewind log xs fit.1 in length-mark (rewind log xs) c.extent (not c.used) (omega (arith, fit.0, rest)) ∙ rest

pub rewind-append : (log more : List BitChange) (xs : List Bool) → rewind (log ++ more) xs ≡ rewind log (rewind more xs)
rewind-append [] more xs = refl
rewind-append (c ∷ log) more xs = ap (λ (l : List Bool). mark l c.extent (not c.used)) (rewind-append log more xs)

abbrev pub changes_of : List Extent → Bool → List BitChange
changes_of es v = map (λ (e : Extent). record { extent = e; used = v }) es

pub changes_fit : (n : ℕ) (es : List Extent) (v : Bool) → Fit n es → ChangesFit n (changes_of es v)
changes_fit n [] v fit = tt
changes_fit n (e ∷ es) v fit = (fit.0, changes_fit n es v fit.1)

pub changes_fit_append : (n : ℕ) (log more : List BitChange) → ChangesFit n log → ChangesFit n more → ChangesFit n (log ++ more)
changes_fit_append n [] more a b = b
changes_fit_append n (c ∷ log) more a b = (a.0, changes_fit_append n log more a.1 b)

pub changes_fit_last : (n : ℕ) (log : List BitChange) (c : BitChange) → ChangesFit n (log ++ c ∷ []) → ChangesFit n log × (c.extent.start + c.extent.count ≤ n)
changes_fit_last n [] c f = (tt, f.0)
changes_fit_last n (d ∷ log) c f = let rest = changes_fit_last n log c f.1 in ((f.0, rest.0), rest.1)

get_or-rewind_changes : (es : List Extent) (v : Bool) (xs : List Bool) (k : ℕ) (d : Bool) → Fit (length xs) es → get_or (rewind (changes_of es v) xs) k d ≡ (if is_held es k then not v else get_or xs k d)
get_or-rewind_changes [] v xs k d fit = refl
get_or-rewind_changes (e ∷ es) v xs k d fit =
    let long = length-rewind (changes_of es v) xs (changes_fit (length xs) es v fit.1) in
    get_or-mark (rewind (changes_of es v) xs) e (not v) k d (omega (arith, fit.0, long))
    ∙ ap (λ b. if has e k then not v else b) (get_or-rewind_changes es v xs k d fit.1)
    ∙ other (has e k) (is_held es k) (not v) (get_or xs k d)

-- what was marked is taken back
pub rewind_marked : (xs : List Bool) (es : List Extent) (v : Bool) → Fit (length xs) es → ((k : ℕ) → is_held es k ≡ true → get_or xs k v ≡ not v) → rewind (changes_of es v) (mark_all xs es v) ≡ xs
rewind_marked xs es v fit was =
    let long = length-mark_all xs es v fit in
    let fits : Fit (length (mark_all xs es v)) es = subst (λ n. Fit n es) (sym long) fit in
    same_lists (rewind (changes_of es v) (mark_all xs es v)) xs
    (length-rewind (changes_of es v) (mark_all xs es v) (changes_fit (length (mark_all xs es v)) es v fits) ∙ long)
    (λ k d lt.
    let below : k < length xs = omega (arith, lt, long, length-rewind (changes_of es v) (mark_all xs es v) (changes_fit (length (mark_all xs es v)) es v fits)) in
    get_or-rewind_changes es v (mark_all xs es v) k d fits
    ∙ ap (λ b. if is_held es k then not v else b) (get_or-mark_all xs es v k d fit)
    ∙ elim (is_held es k) as (λ b. is_held es k ≡ b → (if b then not v else (if b then v else get_or xs k d)) ≡ get_or xs k d) [
      | true ↦ λ (is : is_held es k ≡ true). sym (was k is) ∙ get_or_default xs k v d below
      | false ↦ λ (is : is_held es k ≡ false). refl
    ] refl)

-- flags that have a value keep it under a mark
pub marked_already : (xs : List Bool) (e : Extent) (v w : Bool) → e.start + e.count ≤ length xs → ((k : ℕ) → has e k ≡ true → get_or xs k w ≡ v) → mark xs e v ≡ xs
marked_already xs e v w fits is = same_lists (mark xs e v) xs (length-mark xs e v fits)
    (λ k d lt. let below : k < length xs = omega (arith, lt, length-mark xs e v fits) in
    get_or-mark xs e v k d fits ∙ elim (has e k) as (λ b. has e k ≡ b → (if b then v else get_or xs k d) ≡ get_or xs k d) [
      | true ↦ λ (h : has e k ≡ true). sym (is k h) ∙ get_or_default xs k w d below
      | false ↦ λ (h : has e k ≡ false). refl
    ] refl)

-- what was marked so, and noted, is taken back with the changes before it
pub kept_same : (xs ys : List Bool) (es : List Extent) (v : Bool) (log : List BitChange) (more : List BitChange) → ys ≡ mark_all xs es v → more ≡ log ++ changes_of es v → Fit (length xs) es → ((k : ℕ) → is_held es k ≡ true → get_or xs k v ≡ not v) → rewind more ys ≡ rewind log xs
kept_same xs ys es v log more is noted fit was = ap (λ (l : List BitChange). rewind l ys) noted ∙ ap (λ (l : List Bool). rewind (log ++ changes_of es v) l) is
    ∙ rewind-append log (changes_of es v) (mark_all xs es v) ∙ ap (λ (l : List Bool). rewind log l) (rewind_marked xs es v fit was)

pub changes_fit_more : (xs ys : List Bool) (es : List Extent) (v : Bool) (log more : List BitChange) → ys ≡ mark_all xs es v → more ≡ log ++ changes_of es v → Fit (length xs) es → ChangesFit (length xs) log → ChangesFit (length ys) more
changes_fit_more xs ys es v log more is noted fit before =
    let long : length ys ≡ length xs = ap (λ (l : List Bool). length l) is ∙ length-mark_all xs es v fit in
    subst (λ n. ChangesFit n more) (sym long) (subst (λ (l : List BitChange). ChangesFit (length xs) l) (sym noted) (changes_fit_append (length xs) log (changes_of es v) before (changes_fit (length xs) es v fit)))

-- ---- the same changes taken back in two rows
-- where a change was taken back, both rows have its value; elsewhere each is as it was
two_marks : (h v a b x y : Bool) → (a ≡ b) ⊎ ((a ≡ x) × (b ≡ y)) → ((if h then v else a) ≡ (if h then v else b)) ⊎ (((if h then v else a) ≡ x) × ((if h then v else b) ≡ y))
two_marks true v a b x y e = inl refl
two_marks false v a b x y e = e

pub rewind_both : (log : List BitChange) (xs ys : List Bool) (k : ℕ) (d : Bool) → ChangesFit (length xs) log → ChangesFit (length ys) log
    → (get_or (rewind log xs) k d ≡ get_or (rewind log ys) k d) ⊎ ((get_or (rewind log xs) k d ≡ get_or xs k d) × (get_or (rewind log ys) k d ≡ get_or ys k d))
rewind_both [] xs ys k d f g = inr (refl, refl)
rewind_both (c ∷ log) xs ys k d f g =
    let one = get_or-mark (rewind log xs) c.extent (not c.used) k d (omega (arith, f.0, length-rewind log xs f.1)) in
    let two = get_or-mark (rewind log ys) c.extent (not c.used) k d (omega (arith, g.0, length-rewind log ys g.1)) in
    ⊎_elim
    (λ same. inl (one ∙ same ∙ sym two))
    (λ each. inr (one ∙ each.0, two ∙ each.1))
    (two_marks (has c.extent k) (not c.used) (get_or (rewind log xs) k d) (get_or (rewind log ys) k d) (get_or xs k d) (get_or ys k d) (rewind_both log xs ys k d f.1 g.1))
