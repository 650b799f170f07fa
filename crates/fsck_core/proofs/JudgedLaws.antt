-- Numbers of a rule that are judged in parts.
use Rattle.std.proofs.Common.{◌≡◌, ◌⊎◌, ◌↔◌, ◌<◌, ◌≤◌, ℕ, ◌+◌, Bool, true, ◌&&◌, List, [], ◌∷◌, ◌++◌, length, take, drop, get_or, inl, inr, refl, sym, ◌∙◌, ap, subst, arith, ⊎_elim, append-nil}
use Rattle.std.specs.Prelude.{Contains, IsTrue, Result, Ok, Err, IfOk}
use Rattle.std.specs.List.{flat_map}
use Rattle.std.proofs.lemmas.List.{take_more, take_all, take-append-drop, get_or_default}
use Rattle.std.proofs.lemmas.List.Concat.{flat_map-append}
use Rattle.std.proofs.lemmas.List.Elements.{Contains-append_left, Contains-append_right, Contains-append_cases}
use Rattle.fsck_list.specs.declared.finding.Finding.{Finding}
use Rattle.fsck_list.specs.Kept.{IsListed}
use Rattle.hfs_volume.specs.Broken.{Want, want, AllMet, IsUnmet}
use Rattle.hfs_volume.proofs.Members.{all_of, each_of}
use Rattle.hfs_volume.proofs.Wants.{left_met, right_met}
use Rattle.hfs_volume.proofs.BlockWants.{none_met}
use Rattle.hfs_volume.proofs.TreeWants.{stands_flat}
use Rattle.fsck_core.specs.Wants.{as_found, wants_in}
use Rattle.fsck_core.specs.Judged.{Judged, AddsUnmet}
use Rattle.fsck_core.specs.declared.want.Want.{Want as Number}
use Rattle.fsck_core.proofs.WantLaws.{both_true}

-- what `judge_wants` says, in the words of a rule's numbers
pub ok_judged : {E : Type 0} (result : Result Bool E) (rule : ℕ) (ws : List Number) (vs : List Want) (old new : List Finding) → wants_in ws ≡ vs
    → IfOk result (λ met. IsTrue met ↔ AllMet (wants_in ws)) → IfOk result (λ met. (f : Finding) → IsUnmet rule (as_found f) (wants_in ws) → IsListed new f)
    → IfOk result (λ met. (f : Finding) → IsListed old f → IsListed new f) → AddsUnmet rule (wants_in ws) old new → IfOk result (λ met. Judged rule vs old new met)
ok_judged (Ok met) rule ws vs old new are tells listed still each = subst (λ (l : List Want). Judged rule l old new met) are (record { tells = tells; listed = listed; still = still; each = each })
ok_judged (Err e) rule ws vs old new are tells listed still each = tells

pub adds_as : (rule : ℕ) (ws : List Number) (vs : List Want) (old new : List Finding) → wants_in ws ≡ vs → AddsUnmet rule (wants_in ws) old new → AddsUnmet rule vs old new
adds_as rule ws vs old new are each = subst (λ (l : List Want). AddsUnmet rule l old new) are each

-- no number is judged
pub judged_none : (rule : ℕ) (list : List Finding) → Judged rule [] list list true
judged_none rule list = record {
  tells = (λ is. none_met, λ met. refl);
  listed = λ f unmet. absurd (omega (arith, unmet.2.1));
  still = λ f stands. stands;
  each = λ f stands. inl stands;
}

-- what was added stands among more numbers
pub adds_both : (rule : ℕ) (vs ws us : List Want) (old mid new : List Finding) → ((w : Want) → Contains vs w → Contains us w) → ((w : Want) → Contains ws w → Contains us w)
    → AddsUnmet rule vs old mid → AddsUnmet rule ws mid new → AddsUnmet rule us old new
adds_both rule vs ws us old mid new left right first second f stands = ⊎_elim
    (λ (before : Contains mid f). ⊎_elim
    (λ (earlier : Contains old f). inl earlier)
    (λ (unmet : IsUnmet rule (as_found f) vs). inr (unmet.0, unmet.1, left (want f.place f.found f.wanted) unmet.2))
    (first f before))
    (λ (unmet : IsUnmet rule (as_found f) ws). inr (unmet.0, unmet.1, right (want f.place f.found f.wanted) unmet.2))
    (second f stands)

-- numbers, and then others
pub judged_both : (rule : ℕ) (vs ws : List Want) (old mid new : List Finding) (one other both : Bool) → both ≡ (other && one) → Judged rule vs old mid one → Judged rule ws mid new other → Judged rule (vs ++ ws) old new both
judged_both rule vs ws old mid new one other both is first second = record {
  tells = (
    λ holds.
        let parts = both_true other one (sym is ∙ holds) in
        let front = first.tells.0 parts.1 in
        let back = second.tells.0 parts.0 in
        all_of (λ (w : Want). w.found ≡ w.wanted) (vs ++ ws) (λ w stands. ⊎_elim
        (λ (early : Contains vs w). each_of (λ (x : Want). x.found ≡ x.wanted) vs front w early)
        (λ (late : Contains ws w). each_of (λ (x : Want). x.found ≡ x.wanted) ws back w late)
        (Contains-append_cases vs ws w stands)),
    λ met. is ∙ (λ i. (second.tells.1 (right_met vs ws met)) i && (first.tells.1 (left_met vs ws met)) i),
  );
  listed = λ f unmet. ⊎_elim
      (λ (early : Contains vs (want f.place f.found f.wanted)). second.still f (first.listed f (unmet.0, unmet.1, early)))
      (λ (late : Contains ws (want f.place f.found f.wanted)). second.listed f (unmet.0, unmet.1, late))
      (Contains-append_cases vs ws (want f.place f.found f.wanted) unmet.2);
  still = λ f stands. second.still f (first.still f stands);
  each = adds_both rule vs ws (vs ++ ws) old mid new (λ w stands. Contains-append_left vs ws w stands) (λ w stands. Contains-append_right vs ws w stands) first.each second.each;
}

-- the numbers of the items up to one more
pub flat_more : {X Y : Type 0} (f : X → List Y) (xs : List X) (k : ℕ) (d : X) → k < length xs → flat_map f (take (k + 1) xs) ≡ flat_map f (take k xs) ++ f (get_or xs k d)
flat_more f xs k d inside =
    ap (flat_map f) (take_more xs k d inside) ∙ flat_map-append f (take k xs) (get_or xs k d ∷ []) ∙ ap (λ l. flat_map f (take k xs) ++ l) (append-nil (f (get_or xs k d)))

pub judged_more : {X : Type 0} (rule : ℕ) (f : X → List Want) (xs : List X) (k : ℕ) (d : X) (old mid new : List Finding) (one other both : Bool) → k < length xs → both ≡ (other && one)
    → Judged rule (flat_map f (take k xs)) old mid one → Judged rule (f (get_or xs k d)) mid new other → Judged rule (flat_map f (take (k + 1) xs)) old new both
judged_more rule f xs k d old mid new one other both inside is first second =
    subst (λ (l : List Want). Judged rule l old new both) (sym (flat_more f xs k d inside)) (judged_both rule (flat_map f (take k xs)) (f (get_or xs k d)) old mid new one other both is first second)

-- where the next item stops it, what was added are numbers of the items
pub adds_more : {X : Type 0} (rule : ℕ) (f : X → List Want) (xs : List X) (k : ℕ) (d : X) (old mid new : List Finding) → k < length xs
    → AddsUnmet rule (flat_map f (take k xs)) old mid → AddsUnmet rule (f (get_or xs k d)) mid new → AddsUnmet rule (flat_map f xs) old new
adds_more {X} rule f xs k d old mid new inside first second = adds_both rule (flat_map f (take k xs)) (f (get_or xs k d)) (flat_map f xs) old mid new front here first second
  where
    front : (w : Want) → Contains (flat_map f (take k xs)) w → Contains (flat_map f xs) w
    front w stands =
        subst (λ (l : List Want). Contains l w) (sym (flat_map-append f (take k xs) (drop k xs)) ∙ ap (flat_map f) (take-append-drop k xs))
        (Contains-append_left (flat_map f (take k xs)) (flat_map f (drop k xs)) w stands)

    here : (w : Want) → Contains (f (get_or xs k d)) w → Contains (flat_map f xs) w
    here w stands = stands_flat f xs (get_or xs k d) w (k, inside, get_or_default xs k (get_or xs k d) d inside) stands

-- all items were judged
pub judged_all : {X : Type 0} (rule : ℕ) (f : X → List Want) (xs : List X) (k : ℕ) (old new : List Finding) (met : Bool) → length xs ≤ k → Judged rule (flat_map f (take k xs)) old new met → Judged rule (flat_map f xs) old new met
judged_all rule f xs k old new met whole judged = subst (λ (l : List Want). Judged rule l old new met) (ap (flat_map f) (take_all k xs whole)) judged

-- the same numbers but for some that are met
pub judged_as : (rule : ℕ) (ws vs : List Want) (old new : List Finding) (met : Bool) → ((w : Want) → Contains ws w → Contains vs w) → ((w : Want) → Contains vs w → Contains ws w ⊎ (w.found ≡ w.wanted))
    → Judged rule ws old new met → Judged rule vs old new met
judged_as rule ws vs old new met more less judged = record {
  tells = (
    λ is. let all = judged.tells.0 is in all_of (λ (w : Want). w.found ≡ w.wanted) vs (λ w stands. ⊎_elim
        (λ (there : Contains ws w). each_of (λ (x : Want). x.found ≡ x.wanted) ws all w there)
        (λ (same : w.found ≡ w.wanted). same)
        (less w stands)),
    λ all. judged.tells.1 (all_of (λ (w : Want). w.found ≡ w.wanted) ws (λ w stands. each_of (λ (x : Want). x.found ≡ x.wanted) vs all w (more w stands))),
  );
  listed = λ f unmet. ⊎_elim
      (λ (there : Contains ws (want f.place f.found f.wanted)). judged.listed f (unmet.0, unmet.1, there))
      (λ (same : f.found ≡ f.wanted). absurd (unmet.1 same))
      (less (want f.place f.found f.wanted) unmet.2);
  still = judged.still;
  each = λ f stands. ⊎_elim
      (λ (before : Contains old f). inl before)
      (λ (unmet : IsUnmet rule (as_found f) ws). inr (unmet.0, unmet.1, more (want f.place f.found f.wanted) unmet.2))
      (judged.each f stands);
}

pub adds_of : (rule : ℕ) (ws vs : List Want) (old new : List Finding) → ((w : Want) → Contains ws w → Contains vs w) → AddsUnmet rule ws old new → AddsUnmet rule vs old new
adds_of rule ws vs old new more each f stands = ⊎_elim
    (λ (before : Contains old f). inl before)
    (λ (unmet : IsUnmet rule (as_found f) ws). inr (unmet.0, unmet.1, more (want f.place f.found f.wanted) unmet.2))
    (each f stands)
