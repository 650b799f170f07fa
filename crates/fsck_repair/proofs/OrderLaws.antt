-- Changes in the order of their sectors, each sector once.
use Rattle.std.proofs.Common.{◌≡◌, ◌≢◌, ◌<◌, ◌≤◌, ℕ, suc, ◌+◌, ◌-◌, true, false, nat_lt, ◌||◌, ◌==◌, if◌then◌else◌, List, [], ◌∷◌, ◌++◌, length, get_or, inl, inr, refl, sym, ◌∙◌, ap, subst, arith, ⊎_elim, length-append}
use Rattle.std.specs.Prelude.{Contains}
use Rattle.std.specs.List.Sorted.{IsNonDecreasingBy, IsPermutation}
use Rattle.std.proofs.lemmas.List.Sorted.{Contains-permutation, IsPermutation-sym}
use Rattle.std.proofs.lemmas.Bool.{cases_lt}
use Rattle.std.proofs.lemmas.Bool.Decides.{eqb_tells}
use Rattle.std.proofs.lemmas.List.{get_or_append_left, get_or-append_right, get_or_default}
use Rattle.std.proofs.lemmas.List.Elements.{Contains-append_left, Contains-append_right, Contains-append_cases, All-contains_itself}
use Rattle.hfs_volume.proofs.Members.{at_front, in_one, map_cases, map_stands}
use Rattle.fsck_core.proofs.RowLaws.{true_below, not_below}
use Rattle.fsck_repair.specs.Changing.{no_change, behind_added, fitting_added, IsInOrder}
use Rattle.fsck_repair.specs.Overlay.{places_of, ChangesOnce}
use Rattle.fsck_repair.specs.declared.mend.Change.{Change}

-- The sectors of changes rise.
abbrev pub IsRising : List Change → Type 0
IsRising changes = (i j : ℕ) → i < j → j < length changes → (get_or changes i no_change).at < (get_or changes j no_change).at

-- The first changes of a list in order were looked at, of which those of a view's sectors are taken.
pub record Tidied (sectors : ℕ) (changes : List Change) (k : ℕ) (sorted : List Change) : Type 0 where
  pub rising : IsRising sorted
  pub sound : (c : Change) → Contains sorted c → (i : ℕ) × (i < k) × (i < length changes) × (get_or changes i no_change ≡ c)
  pub inside : (c : Change) → Contains sorted c → c.at < sectors
  pub whole : (i : ℕ) → i < k → i < length changes → (get_or changes i no_change).at < sectors → Contains (places_of sorted) (get_or changes i no_change).at

pub tidied_none : (sectors : ℕ) (changes : List Change) → Tidied sectors changes 0 []
tidied_none sectors changes = record {
  rising = λ i j less inside. absurd (omega (arith, inside));
  sound = λ c stands. absurd (omega (arith, stands.1));
  inside = λ c stands. absurd (omega (arith, stands.1));
  whole = λ i less inside low. absurd (omega (arith, less));
}

itself : (changes : List Change) (i : ℕ) → i < length changes → Contains changes (get_or changes i no_change)
itself changes i inside = All-contains_itself changes i no_change inside

module _ (sectors : ℕ) (changes : List Change) (k : ℕ) (sorted : List Change) (order : IsNonDecreasingBy (λ (c : Change). c.at) changes) (inside : k < length changes) (so_far : Tidied sectors changes k sorted) where
  abbrev one : Change
  one = get_or changes k no_change

  -- none of those before is of a later sector
  low : (c : Change) → Contains sorted c → c.at ≤ one.at
  low c stands =
      let from = so_far.sound c stands in
      let up : (get_or changes from.0 no_change).at ≤ one.at = order from.0 k no_change (omega (arith, from.1)) inside in
      omega (arith, up, ap (λ (x : Change). x.at) from.3)

  sound_more : (c : Change) → Contains (sorted ++ one ∷ []) c → (i : ℕ) × (i < k + 1) × (i < length changes) × (get_or changes i no_change ≡ c)
  sound_more c stands = elim (Contains-append_cases sorted (one ∷ []) c stands) [
    | inl before ↦ let from = so_far.sound c before in (from.0, omega (arith, from.1), from.2, from.3)
    | inr last ↦ (k, omega arith, inside, sym (in_one one c last))
  ]

  still : (at : ℕ) → Contains (places_of sorted) at → Contains (places_of (sorted ++ one ∷ [])) at
  still at stands =
      let from = map_cases (λ (c : Change). c.at) sorted at stands in
      subst (λ n. Contains (places_of (sorted ++ one ∷ [])) n) (sym from.2) (map_stands (λ (c : Change). c.at) (sorted ++ one ∷ []) from.0 (Contains-append_left sorted (one ∷ []) from.0 from.1))

  pushed : one.at < sectors → ((i : ℕ) → i < length sorted → (get_or sorted i no_change).at < one.at) → Tidied sectors changes (k + 1) (sorted ++ one ∷ [])
  pushed fits below = record {
    rising = rising;
    sound = sound_more;
    inside = within_all;
    whole = whole;
  }
    where
      long : length (sorted ++ one ∷ []) ≡ length sorted + 1
      long = length-append sorted (one ∷ [])

      rising : IsRising (sorted ++ one ∷ [])
      rising i j less within = ⊎_elim
          (λ (early : j < length sorted).
          let a : (get_or sorted i no_change).at < (get_or sorted j no_change).at = so_far.rising i j less early in
          let b : get_or (sorted ++ one ∷ []) i no_change ≡ get_or sorted i no_change = get_or_append_left sorted (one ∷ []) no_change i (omega (arith, less, early)) in
          let c : get_or (sorted ++ one ∷ []) j no_change ≡ get_or sorted j no_change = get_or_append_left sorted (one ∷ []) no_change j early in
          omega (arith, a, ap (λ (x : Change). x.at) b, ap (λ (x : Change). x.at) c))
          (λ (late : length sorted ≤ j).
          let last : j ≡ length sorted = omega (arith, late, within, long) in
          let b : get_or (sorted ++ one ∷ []) i no_change ≡ get_or sorted i no_change = get_or_append_left sorted (one ∷ []) no_change i (omega (arith, less, last)) in
          let c : get_or (sorted ++ one ∷ []) j no_change ≡ get_or (one ∷ []) (j - length sorted) no_change = get_or-append_right sorted (one ∷ []) (length sorted) j no_change refl late in
          let d : get_or (one ∷ []) (j - length sorted) no_change ≡ one = ap (λ n. get_or (one ∷ []) n no_change) {y = 0} (omega (arith, last)) in
          let a : (get_or sorted i no_change).at < one.at = below i (omega (arith, less, last)) in
          omega (arith, a, ap (λ (x : Change). x.at) b, ap (λ (x : Change). x.at) (c ∙ d)))
          (cases_lt j (length sorted))

      within_all : (c : Change) → Contains (sorted ++ one ∷ []) c → c.at < sectors
      within_all c stands = elim (Contains-append_cases sorted (one ∷ []) c stands) [
        | inl before ↦ so_far.inside c before
        | inr last ↦ subst (λ (x : Change). x.at < sectors) (sym (in_one one c last)) fits
      ]

      whole : (i : ℕ) → i < k + 1 → i < length changes → (get_or changes i no_change).at < sectors → Contains (places_of (sorted ++ one ∷ [])) (get_or changes i no_change).at
      whole i less within under = ⊎_elim
          (λ (early : i < k). still (get_or changes i no_change).at (so_far.whole i early within under))
          (λ (late : k ≤ i).
          subst (λ n. Contains (places_of (sorted ++ one ∷ [])) (get_or changes n no_change).at) {x = k} (omega (arith, less, late))
          (map_stands (λ (c : Change). c.at) (sorted ++ one ∷ []) one (Contains-append_right sorted (one ∷ []) one (at_front one []))))
          (cases_lt i k)

  passed : 0 < length sorted → one.at ≤ (get_or sorted (length sorted - 1) no_change).at → Tidied sectors changes (k + 1) sorted
  passed some high = record {
    rising = so_far.rising;
    sound = λ c stands. let from = so_far.sound c stands in (from.0, omega (arith, from.1), from.2, from.3);
    inside = so_far.inside;
    whole = λ i less within fits. ⊎_elim
        (λ (early : i < k). so_far.whole i early within fits)
        (λ (late : k ≤ i).
        let last : Change = get_or sorted (length sorted - 1) no_change in
        let stands : Contains sorted last = itself sorted (length sorted - 1) (omega (arith, some)) in
        let same : last.at ≡ one.at = omega (arith, high, low last stands) in
        let is : i ≡ k = omega (arith, less, late) in
        subst (λ n. Contains (places_of sorted) n) (same ∙ ap (λ n. (get_or changes n no_change).at) (sym is)) (map_stands (λ (c : Change). c.at) sorted last stands))
        (cases_lt i k);
  }

  -- a change of a sector that the view hasn't
  skipped : sectors ≤ one.at → Tidied sectors changes (k + 1) sorted
  skipped past = record {
    rising = so_far.rising;
    sound = λ c stands. let from = so_far.sound c stands in (from.0, omega (arith, from.1), from.2, from.3);
    inside = so_far.inside;
    whole = λ i less within fits. ⊎_elim
        (λ (early : i < k). so_far.whole i early within fits)
        (λ (late : k ≤ i). absurd (let is : i ≡ k = omega (arith, less, late) in omega (arith, fits, past, ap (λ n. (get_or changes n no_change).at) is)))
        (cases_lt i k);
  }

  taken : one.at < sectors → Tidied sectors changes (k + 1) (behind_added sorted one)
  taken fits = ⊎_elim
      (λ (none : (length sorted == 0 ≡ true) × (length sorted ≡ 0)). subst (λ (l : List Change). Tidied sectors changes (k + 1) l) (sym (ap (λ b. if b || nat_lt (get_or sorted (length sorted - 1) no_change).at one.at then sorted ++ one ∷ [] else sorted) none.0)) (pushed fits (λ i within. absurd (omega (arith, within, none.1)))))
      (λ (some : (length sorted == 0 ≡ false) × (length sorted ≢ 0)).
      let first : behind_added sorted one ≡ (if nat_lt (get_or sorted (length sorted - 1) no_change).at one.at then sorted ++ one ∷ [] else sorted) = ap (λ b. if b || nat_lt (get_or sorted (length sorted - 1) no_change).at one.at then sorted ++ one ∷ [] else sorted) some.0 in
      ⊎_elim
      (λ (less : (get_or sorted (length sorted - 1) no_change).at < one.at).
      subst (λ (l : List Change). Tidied sectors changes (k + 1) l) (sym (first ∙ ap (λ b. if b then sorted ++ one ∷ [] else sorted) (true_below (get_or sorted (length sorted - 1) no_change).at one.at less)))
      (pushed fits (λ i within. up_to i within less)))
      (λ (most : one.at ≤ (get_or sorted (length sorted - 1) no_change).at).
      subst (λ (l : List Change). Tidied sectors changes (k + 1) l) (sym (first ∙ ap (λ b. if b then sorted ++ one ∷ [] else sorted) (not_below (get_or sorted (length sorted - 1) no_change).at one.at most)))
      (passed (omega (arith, some.1)) most))
      (cases_lt (get_or sorted (length sorted - 1) no_change).at one.at))
      (eqb_tells (length sorted) 0)
    where
      up_to : (i : ℕ) → i < length sorted → (get_or sorted (length sorted - 1) no_change).at < one.at → (get_or sorted i no_change).at < one.at
      up_to i within less = ⊎_elim
          (λ (early : i < length sorted - 1). let up = so_far.rising i (length sorted - 1) early (omega (arith, within)) in omega (arith, up, less))
          (λ (late : length sorted - 1 ≤ i). subst (λ n. (get_or sorted n no_change).at < one.at) {x = length sorted - 1} (omega (arith, late, within)) less)
          (cases_lt i (length sorted - 1))

  pub tidied_more : Tidied sectors changes (k + 1) (fitting_added sectors sorted (get_or changes k no_change))
  tidied_more = ⊎_elim
      (λ (fits : one.at < sectors). subst (λ (l : List Change). Tidied sectors changes (k + 1) l) (sym (ap (λ b. if b then behind_added sorted one else sorted) (true_below one.at sectors fits))) (taken fits))
      (λ (past : sectors ≤ one.at). subst (λ (l : List Change). Tidied sectors changes (k + 1) l) (sym (ap (λ b. if b then behind_added sorted one else sorted) (not_below one.at sectors past))) (skipped past))
      (cases_lt one.at sectors)

-- rising sectors don't decrease, and no sector stands twice
pub rising_order : (changes : List Change) → IsRising changes → IsNonDecreasingBy (λ (c : Change). c.at) changes
rising_order changes rising i j d most inside =
    ⊎_elim
    (λ (less : i < j).
    let a = rising i j less inside in
    omega (arith, a, ap (λ (x : Change). x.at) (get_or_default changes i no_change d (omega (arith, less, inside))), ap (λ (x : Change). x.at) (get_or_default changes j no_change d inside)))
    (λ (same : j ≤ i). let is : i ≡ j = omega (arith, same, most) in omega (arith, ap (λ n. (get_or changes n d).at) is))
    (cases_lt i j)

pub rising_once : (changes : List Change) → IsRising changes → ChangesOnce changes
rising_once [] rising = tt
rising_once (change ∷ changes) rising = (none, rising_once changes (λ i j less inside. rising (suc i) (suc j) (omega (arith, less)) (omega (arith, inside))))
  where
    none : ¬ Contains (places_of changes) change.at
    none stands =
        let from = map_cases (λ (c : Change). c.at) changes change.at stands in
        let there : get_or changes from.1.0 no_change ≡ from.0 = get_or_default changes from.1.0 no_change from.0 from.1.1 ∙ from.1.2 in
        let up : change.at < (get_or changes from.1.0 no_change).at = rising 0 (suc from.1.0) (omega arith) (omega (arith, from.1.1)) in
        absurd (omega (arith, up, ap (λ (c : Change). c.at) there, from.2))

-- all changes were looked at, of a list in another order
pub in_order : (sectors : ℕ) (first changes sorted : List Change) → IsPermutation first changes → Tidied sectors changes (length changes) sorted → IsInOrder sectors first sorted
in_order sectors first changes sorted shuffled tidied = record {
  sound = λ c stands. let from = tidied.sound c stands in
      Contains-permutation changes first c (IsPermutation-sym first changes shuffled) (subst (λ (x : Change). Contains changes x) from.3 (itself changes from.0 from.2));
  inside = tidied.inside;
  whole = λ at low stands.
      let from = map_cases (λ (c : Change). c.at) first at stands in
      let there : Contains changes from.0 = Contains-permutation first changes from.0 shuffled from.1 in
      let is : get_or changes there.0 no_change ≡ from.0 = get_or_default changes there.0 no_change from.0 there.1 ∙ there.2 in
      let place : (get_or changes there.0 no_change).at ≡ at = ap (λ (c : Change). c.at) is ∙ sym from.2 in
      subst (λ n. Contains (places_of sorted) n) place (tidied.whole there.0 there.1 there.1 (omega (arith, low, place)));
}
