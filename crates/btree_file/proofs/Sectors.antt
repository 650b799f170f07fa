-- The sectors of extents without a common block differ, and the extents of sectors that differ have no common block.
use Rattle.std.proofs.Common.{◌≡◌, ℕ, zero, suc, ◌+◌, ◌-◌, ◌*◌, ◌≤◌, ◌<◌, List, [], ◌∷◌, ◌++◌, length, get_or, max, inl, inr, refl, sym, ◌∙◌, ap, subst, arith, ⊎_elim, length-append}
use Rattle.std.specs.List.{range_with_len}
use Rattle.std.proofs.Math.Nat.{mul-le-mul_right}
use Rattle.std.proofs.lemmas.Bool.{cases_lt}
use Rattle.std.proofs.lemmas.List.{get_or_append_left, get_or-append_right}
use Rattle.std.proofs.lemmas.List.Concat.{flat_map-append}
use Rattle.std.proofs.lemmas.List.FromFn.{length-range_with_len, get_or-range_with_len}
use Rattle.fork_map.proofs.Ranges.{range-append}
use Rattle.fork_map.specs.Blocks.{blocks_of, sectors_of}
use Rattle.hx_bytes.specs.declared.extents.Extent.{Extent}
use Rattle.btree_file.specs.Apart.{NoneMeet}
use Rattle.btree_file.specs.Place.{AreApart}

-- a place of a list where a number stands
pub record StandsAt (xs : List ℕ) (s : ℕ) : Type 0 where
  pub place : ℕ
  pub inside : place < length xs
  pub is : get_or xs place 0 ≡ s

stands_left : (xs ys : List ℕ) (s : ℕ) → StandsAt xs s → StandsAt (xs ++ ys) s
stands_left xs ys s at = record { place = at.place; inside = omega (arith, at.inside, length-append xs ys); is = get_or_append_left xs ys 0 at.place at.inside ∙ at.is }

stands_right : (xs ys : List ℕ) (s : ℕ) → StandsAt ys s → StandsAt (xs ++ ys) s
stands_right xs ys s at = record {
  place = length xs + at.place;
  inside = omega (arith, at.inside, length-append xs ys);
  is = get_or-append_right xs ys (length xs) (length xs + at.place) 0 refl (omega arith) ∙ ap (λ k. get_or ys k 0) {x = length xs + at.place - length xs} {y = at.place} (omega arith) ∙ at.is;
}

-- lists joined
pub apart_joined : (xs ys : List ℕ) → AreApart xs → AreApart ys → ((s : ℕ) → StandsAt xs s → StandsAt ys s → ⊥) → AreApart (xs ++ ys)
apart_joined xs ys first second cross i j i_in j_in same =
    let long = length-append xs ys in
    let right : (k : ℕ) → length xs ≤ k → get_or (xs ++ ys) k 0 ≡ get_or ys (k - length xs) 0 = λ k high. get_or-append_right xs ys (length xs) k 0 refl high in
    elim (cases_lt i (length xs)) [
      | inl i_low ↦ elim (cases_lt j (length xs)) [
        | inl j_low ↦ first i j i_low j_low (sym (get_or_append_left xs ys 0 i i_low) ∙ same ∙ get_or_append_left xs ys 0 j j_low)
        | inr j_high ↦ absurd (cross (get_or xs i 0) (record { place = i; inside = i_low; is = refl })
            (record { place = j - length xs; inside = omega (arith, j_in, j_high, long); is = sym (right j j_high) ∙ sym same ∙ get_or_append_left xs ys 0 i i_low }))
      ]
      | inr i_high ↦ elim (cases_lt j (length xs)) [
        | inl j_low ↦ absurd (cross (get_or xs j 0) (record { place = j; inside = j_low; is = refl })
            (record { place = i - length xs; inside = omega (arith, i_in, i_high, long); is = sym (right i i_high) ∙ same ∙ get_or_append_left xs ys 0 j j_low }))
        | inr j_high ↦
            let e = second (i - length xs) (j - length xs) (omega (arith, i_in, i_high, long)) (omega (arith, j_in, j_high, long)) (sym (right i i_high) ∙ same ∙ right j j_high) in
            omega (arith, e, i_high, j_high)
      ]
    ]

pub apart_cross : (xs ys : List ℕ) (s : ℕ) → AreApart (xs ++ ys) → StandsAt xs s → StandsAt ys s → ⊥
apart_cross xs ys s apart first second =
    let at = stands_right xs ys s second in
    let e = apart first.place (length xs + second.place) (omega (arith, first.inside, length-append xs ys)) (omega (arith, second.inside, length-append xs ys))
    (get_or_append_left xs ys 0 first.place first.inside ∙ first.is ∙ sym (get_or-append_right xs ys (length xs) (length xs + second.place) 0 refl (omega arith) ∙ ap (λ k. get_or ys k 0) {x = length xs + second.place - length xs} {y = second.place} (omega arith) ∙ second.is)) in
    absurd (omega (arith, e, first.inside))

pub apart_right : (xs ys : List ℕ) → AreApart (xs ++ ys) → AreApart ys
apart_right xs ys apart i j i_in j_in same =
    let at : (k : ℕ) → get_or (xs ++ ys) (length xs + k) 0 ≡ get_or ys k 0 = λ k. get_or-append_right xs ys (length xs) (length xs + k) 0 refl (omega arith) ∙ ap (λ m. get_or ys m 0) {x = length xs + k - length xs} {y = k} (omega arith) in
    let e = apart (length xs + i) (length xs + j) (omega (arith, i_in, length-append xs ys)) (omega (arith, j_in, length-append xs ys)) (at i ∙ same ∙ sym (at j)) in
    omega (arith, e)

-- ---- the sectors of one extent

sectors_range : (per a n : ℕ) → sectors_of per (range_with_len a n) ≡ range_with_len (a * per) (n * per)
sectors_range per a zero = ap (λ k. range_with_len (a * per) k) {x = 0} {y = 0 * per} (omega arith)
sectors_range per a (suc n) =
    ap (λ (l : List ℕ). range_with_len (a * per) per ++ l) (sectors_range per (a + 1) n ∙ ap (λ k. range_with_len k (n * per)) {x = (a + 1) * per} {y = a * per + per} (omega arith))
    ∙ sym (range-append (a * per) per (n * per)) ∙ ap (λ k. range_with_len (a * per) k) {x = per + n * per} {y = suc n * per} (omega arith)

pub one_range : (per : ℕ) (e : Extent) (es : List Extent) → sectors_of per (blocks_of (e ∷ es)) ≡ range_with_len (e.start * per) (e.count * per) ++ sectors_of per (blocks_of es)
one_range per e es = flat_map-append (λ block. range_with_len (block * per) per) (range_with_len e.start e.count) (blocks_of es) ∙ ap (λ (l : List ℕ). l ++ sectors_of per (blocks_of es)) (sectors_range per e.start e.count)

range_apart : (a n : ℕ) → AreApart (range_with_len a n)
range_apart a n i j i_in j_in same =
    let long = length-range_with_len a n in
    omega (arith, same, get_or-range_with_len a n i 0 (omega (arith, i_in, long)), get_or-range_with_len a n j 0 (omega (arith, j_in, long)))

in_range : (a n s : ℕ) → StandsAt (range_with_len a n) s → (a ≤ s) × (s < a + n)
in_range a n s at =
    let low : at.place < n = omega (arith, at.inside, length-range_with_len a n) in
    let is = get_or-range_with_len a n at.place 0 low in
    (omega (arith, is, at.is), omega (arith, is, at.is, low))

to_range : (a n s : ℕ) → a ≤ s → s < a + n → StandsAt (range_with_len a n) s
to_range a n s from to = record {
  place = s - a;
  inside = omega (arith, from, to, length-range_with_len a n);
  is = let is = get_or-range_with_len a n (s - a) 0 (omega (arith, from, to)) in omega (arith, is, from);
}

-- ---- the sectors of several

-- the extent in which a sector stands
in_extent : (per : ℕ) (es : List Extent) (s : ℕ) → StandsAt (sectors_of per (blocks_of es)) s → (k : ℕ) × (k < length es) × ((d : Extent) → ((get_or es k d).start * per ≤ s) × (s < ((get_or es k d).start + (get_or es k d).count) * per))
in_extent per [] s at = absurd (omega (arith, at.inside))
in_extent per (e ∷ es) s at =
    let whole = one_range per e es in
    let front = range_with_len (e.start * per) (e.count * per) in
    let there : get_or (range_with_len (e.start * per) (e.count * per) ++ sectors_of per (blocks_of es)) at.place 0 ≡ s = ap (λ (l : List ℕ). get_or l at.place 0) (sym whole) ∙ at.is in
    let inside : at.place < length (range_with_len (e.start * per) (e.count * per)) + length (sectors_of per (blocks_of es)) = omega (arith, at.inside, ap (λ (l : List ℕ). length l) whole, length-append (range_with_len (e.start * per) (e.count * per)) (sectors_of per (blocks_of es))) in
    elim (cases_lt at.place (length (range_with_len (e.start * per) (e.count * per)))) [
      | inl low ↦
          let r = in_range (e.start * per) (e.count * per) s (record { place = at.place; inside = low; is = sym (get_or_append_left (range_with_len (e.start * per) (e.count * per)) (sectors_of per (blocks_of es)) 0 at.place low) ∙ there }) in
          (0, omega arith, λ d. (r.0, omega (arith, r.1)))
      | inr high ↦
          let rest = in_extent per es s (record {
            place = at.place - length (range_with_len (e.start * per) (e.count * per));
            inside = omega (arith, inside, high);
            is = sym (get_or-append_right (range_with_len (e.start * per) (e.count * per)) (sectors_of per (blocks_of es)) (length (range_with_len (e.start * per) (e.count * per))) at.place 0 refl high) ∙ there;
          }) in
          (suc rest.0, omega (arith, rest.1), rest.2)
    ]

to_extent : (per : ℕ) (es : List Extent) (k : ℕ) (d : Extent) (s : ℕ) → k < length es → (get_or es k d).start * per ≤ s → s < ((get_or es k d).start + (get_or es k d).count) * per → StandsAt (sectors_of per (blocks_of es)) s
to_extent per [] k d s low from to = absurd (omega (arith, low))
to_extent per (e ∷ es) zero d s low from to =
    subst (λ (l : List ℕ). StandsAt l s) (sym (one_range per e es)) (stands_left (range_with_len (e.start * per) (e.count * per)) (sectors_of per (blocks_of es)) s (to_range (e.start * per) (e.count * per) s from (omega (arith, to))))
to_extent per (e ∷ es) (suc k) d s low from to =
    subst (λ (l : List ℕ). StandsAt l s) (sym (one_range per e es)) (stands_right (range_with_len (e.start * per) (e.count * per)) (sectors_of per (blocks_of es)) s (to_extent per es k d s (omega (arith, low)) from to))

-- a number of a product below another's
less_block : (a b per s : ℕ) → a * per ≤ s → s < b * per → a < b
less_block a b per s from to = ⊎_elim (λ (lt : a < b). lt) (λ (ge : b ≤ a). let more = mul-le-mul_right {m = b} {n = a} per ge in absurd (omega (arith, more, from, to))) (cases_lt a b)

counts_some : (a n per s : ℕ) → a * per ≤ s → s < (a + n) * per → 0 < n
counts_some a n per s from to = let less = less_block a (a + n) per s from to in omega (arith, less)

pub none_meet_apart : (per : ℕ) (es : List Extent) → NoneMeet es → AreApart (sectors_of per (blocks_of es))
none_meet_apart per [] none = λ i j i_in j_in same. absurd (omega (arith, i_in))
none_meet_apart per (e ∷ es) none =
    subst AreApart (sym (one_range per e es))
    (apart_joined (range_with_len (e.start * per) (e.count * per)) (sectors_of per (blocks_of es)) (range_apart (e.start * per) (e.count * per))
    (none_meet_apart per es (λ i j d less low. none (suc i) (suc j) d (omega (arith, less)) (omega (arith, low))))
    (λ s first second.
    let r = in_range (e.start * per) (e.count * per) s first in
    let t = in_extent per es s second in
    let u = t.2 e in
    let upper : s < (e.start + e.count) * per = omega (arith, r.1) in
    none 0 (suc t.0) e (omega arith) (omega (arith, t.1)) (
      counts_some e.start e.count per s r.0 upper,
      counts_some (get_or es t.0 e).start (get_or es t.0 e).count per s u.0 u.1,
      less_block e.start ((get_or es t.0 e).start + (get_or es t.0 e).count) per s r.0 u.1,
      less_block (get_or es t.0 e).start (e.start + e.count) per s u.0 upper,
    )))

pub apart_none_meet : (per : ℕ) (es : List Extent) → 0 < per → AreApart (sectors_of per (blocks_of es)) → NoneMeet es
apart_none_meet per [] some apart i j d less low meet = absurd (omega (arith, low))
apart_none_meet per (e ∷ es) some apart zero zero d less low meet = absurd (omega (arith, less))
apart_none_meet per (e ∷ es) some apart (suc i) zero d less low meet = absurd (omega (arith, less))
apart_none_meet per (e ∷ es) some apart zero (suc j) d less low meet =
    let whole = subst AreApart (one_range per e es) apart in
    let f : Extent = get_or es j d in
    let block : ℕ = max e.start (get_or es j d).start in
    let from : e.start * per ≤ max e.start (get_or es j d).start * per = mul-le-mul_right {m = e.start} {n = max e.start (get_or es j d).start} per (omega arith) in
    let from2 : (get_or es j d).start * per ≤ max e.start (get_or es j d).start * per = mul-le-mul_right {m = (get_or es j d).start} {n = max e.start (get_or es j d).start} per (omega arith) in
    let to : (max e.start (get_or es j d).start + 1) * per ≤ (e.start + e.count) * per = mul-le-mul_right {m = max e.start (get_or es j d).start + 1} {n = e.start + e.count} per (omega (arith, meet.0, meet.3)) in
    let to2 : (max e.start (get_or es j d).start + 1) * per ≤ ((get_or es j d).start + (get_or es j d).count) * per = mul-le-mul_right {m = max e.start (get_or es j d).start + 1} {n = (get_or es j d).start + (get_or es j d).count} per (omega (arith, meet.1, meet.2)) in
    apart_cross (range_with_len (e.start * per) (e.count * per)) (sectors_of per (blocks_of es)) (max e.start (get_or es j d).start * per) whole
    (to_range (e.start * per) (e.count * per) (max e.start (get_or es j d).start * per) from (omega (arith, to, some)))
    (to_extent per es j d (max e.start (get_or es j d).start * per) (omega (arith, low)) from2 (omega (arith, to2, some)))
apart_none_meet per (e ∷ es) some apart (suc i) (suc j) d less low meet =
    apart_none_meet per es some (apart_right (range_with_len (e.start * per) (e.count * per)) (sectors_of per (blocks_of es)) (subst AreApart (one_range per e es) apart)) i j d (omega (arith, less)) (omega (arith, low)) meet
