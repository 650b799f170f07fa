-- Records in a row of bytes: how many they are, each of them, and one more.
use Rattle.std.proofs.Common.{◌≡◌, ◌<◌, ◌≤◌, ℕ, zero, suc, ◌+◌, List, [], ◌∷◌, ◌++◌, length, map, get_or, inl, inr, refl, sym, ◌∙◌, ap, subst, arith, length-append}
use Rattle.std.specs.Prelude.{slice_index, slice_range}
use Rattle.std.specs.List.{range_with_len}
use Rattle.std.proofs.lemmas.Bool.{cases_lt}
use Rattle.std.proofs.lemmas.List.{ext_get_or, get_or_append_left, get_or-append-add}
use Rattle.std.proofs.lemmas.List.Edits.{length-between, get_or-between}
use Rattle.std.proofs.lemmas.List.FromFn.{length-map-range_with_len, get_or-map-range_with_len, map-range_with_len_more}
use Rattle.fsck_list.specs.Flat.{start_of, record_in, cut_at, AreEnds}

pub length_cut : (bytes ends : List ℕ) → length (cut_at bytes ends) ≡ length ends
unfolding cut_at
length_cut bytes ends = length-map-range_with_len (record_in bytes ends) 0 (length ends)

pub record_is : (bytes ends : List ℕ) (i : ℕ) → i < length ends → get_or (cut_at bytes ends) i [] ≡ record_in bytes ends i
unfolding cut_at
record_is bytes ends i inside = get_or-map-range_with_len (record_in bytes ends) 0 (length ends) i i [] inside (omega arith)

-- two lists made from functions that are equal below their length
same_made : (f g : ℕ → List ℕ) (n : ℕ) → ((i : ℕ) → i < n → f i ≡ g i) → map f (range_with_len 0 n) ≡ map g (range_with_len 0 n)
same_made f g n same = ext_get_or [] (map f (range_with_len 0 n)) (map g (range_with_len 0 n)) (length-map-range_with_len f 0 n ∙ sym (length-map-range_with_len g 0 n)) (λ i inside.
    let low : i < n = omega (arith, inside, length-map-range_with_len f 0 n) in
    get_or-map-range_with_len f 0 n i i [] low (omega arith) ∙ same i low ∙ sym (get_or-map-range_with_len g 0 n i i [] low (omega arith)))

-- a stretch of the front stays where bytes are added
same_stretch : (bytes more : List ℕ) (from to : ℕ) → from ≤ to → to ≤ length bytes → slice_range (bytes ++ more) from to ≡ slice_range bytes from to
same_stretch bytes more from to ordered inside =
    let first = length-between (bytes ++ more) from to (omega (arith, inside, length-append bytes more)) in
    let second = length-between bytes from to inside in
    ext_get_or 0 (slice_range (bytes ++ more) from to) (slice_range bytes from to) (omega (arith, first, second)) (λ k low.
    get_or-between (bytes ++ more) from to k 0 (omega (arith, low, first)) ∙ get_or_append_left bytes more 0 (from + k) (omega (arith, low, first, inside)) ∙ sym (get_or-between bytes from to k 0 (omega (arith, low, first))))

-- what was added stands behind the rest
last_stretch : (bytes more : List ℕ) → slice_range (bytes ++ more) (length bytes) (length bytes + length more) ≡ more
last_stretch bytes more =
    let first = length-between (bytes ++ more) (length bytes) (length bytes + length more) (omega (arith, length-append bytes more)) in
    ext_get_or 0 (slice_range (bytes ++ more) (length bytes) (length bytes + length more)) more (omega (arith, first)) (λ k low.
    get_or-between (bytes ++ more) (length bytes) (length bytes + length more) k 0 (omega (arith, low, first)) ∙ get_or-append-add bytes more k 0)

start_before : (ends : List ℕ) (end i : ℕ) → i ≤ length ends → start_of (ends ++ end ∷ []) i ≡ start_of ends i
start_before ends end zero inside = refl
start_before ends end (suc i) inside = get_or_append_left ends (end ∷ []) 0 i (omega (arith, inside))

end_before : (ends : List ℕ) (end i : ℕ) → i < length ends → slice_index (ends ++ end ∷ []) i ≡ slice_index ends i
end_before ends end i inside = get_or_append_left ends (end ∷ []) 0 i inside

end_here : (ends : List ℕ) (end : ℕ) → slice_index (ends ++ end ∷ []) (length ends) ≡ end
end_here ends end = ap (λ n. get_or (ends ++ end ∷ []) n 0) (let same : length ends ≡ length ends + 0 = omega arith in same) ∙ get_or-append-add ends (end ∷ []) 0 0

pub ends_more : (bytes ends more : List ℕ) (end : ℕ) → AreEnds bytes ends → end ≡ length bytes + length more → AreEnds (bytes ++ more) (ends ++ end ∷ [])
ends_more bytes ends more end are is = record {
  rising = λ i inside. elim (cases_lt i (length ends)) [
    | inl low ↦ omega (arith, start_before ends end i (omega (arith, low)), end_before ends end i low, are.rising i low)
    | inr high ↦
        let at : i ≡ length ends = omega (arith, high, inside, length-append ends (end ∷ [])) in
        subst (λ n. start_of (ends ++ end ∷ []) n ≤ slice_index (ends ++ end ∷ []) n) (sym at)
        (omega (arith, start_before ends end (length ends) (omega arith), end_here ends end, are.whole, is))
  ];
  inside = λ i inside. elim (cases_lt i (length ends)) [
    | inl low ↦ omega (arith, end_before ends end i low, are.inside i low, length-append bytes more)
    | inr high ↦
        let at : i ≡ length ends = omega (arith, high, inside, length-append ends (end ∷ [])) in
        subst (λ n. slice_index (ends ++ end ∷ []) n ≤ length (bytes ++ more)) (sym at) (omega (arith, end_here ends end, is, length-append bytes more))
  ];
  whole = ap (λ n. start_of (ends ++ end ∷ []) n) (length-append ends (end ∷ []) ∙ (let one : length ends + 1 ≡ suc (length ends) = omega arith in one)) ∙ end_here ends end ∙ is ∙ sym (length-append bytes more);
}

pub cut_more : (bytes ends more : List ℕ) (end : ℕ) → AreEnds bytes ends → end ≡ length bytes + length more → cut_at (bytes ++ more) (ends ++ end ∷ []) ≡ cut_at bytes ends ++ more ∷ []
unfolding cut_at
cut_more bytes ends more end are is =
    ap (λ n. map (record_in (bytes ++ more) (ends ++ end ∷ [])) (range_with_len 0 n)) (length-append ends (end ∷ []))
    ∙ map-range_with_len_more (record_in (bytes ++ more) (ends ++ end ∷ [])) 0 (length ends) (length ends) (omega arith)
    ∙ ap (λ l. l ++ record_in (bytes ++ more) (ends ++ end ∷ []) (length ends) ∷ []) (same_made (record_in (bytes ++ more) (ends ++ end ∷ [])) (record_in bytes ends) (length ends) each)
    ∙ ap (λ l. map (record_in bytes ends) (range_with_len 0 (length ends)) ++ l ∷ []) last
  where
    each : (i : ℕ) → i < length ends → record_in (bytes ++ more) (ends ++ end ∷ []) i ≡ record_in bytes ends i
    each i inside =
        ap (λ a. slice_range (bytes ++ more) a (slice_index (ends ++ end ∷ []) i)) (start_before ends end i (omega (arith, inside)))
        ∙ ap (λ b. slice_range (bytes ++ more) (start_of ends i) b) (end_before ends end i inside)
        ∙ same_stretch bytes more (start_of ends i) (slice_index ends i) (are.rising i inside) (are.inside i inside)

    last : record_in (bytes ++ more) (ends ++ end ∷ []) (length ends) ≡ more
    last =
        ap (λ a. slice_range (bytes ++ more) a (slice_index (ends ++ end ∷ []) (length ends))) (start_before ends end (length ends) (omega arith) ∙ are.whole)
        ∙ ap (λ b. slice_range (bytes ++ more) (length bytes) b) (end_here ends end ∙ is)
        ∙ last_stretch bytes more
