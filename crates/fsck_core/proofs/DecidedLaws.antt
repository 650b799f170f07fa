-- Parts of a rule that are decided one after the other.
use Rattle.std.proofs.Common.{◌≡◌, ◌⊎◌, ◌<◌, ◌≤◌, ℕ, ◌+◌, Bool, true, false, ◌&&◌, List, length, inl, inr, refl, sym, ◌∙◌, ap, subst, arith, ⊎_elim}
use Rattle.std.specs.Prelude.{Contains, Result, Ok, Err, IfOk}
use Rattle.std.proofs.lemmas.Bool.{true≢false}
use Rattle.hfs_volume.specs.Broken as broken
use Rattle.hfs_volume.specs.Broken.{Want, AllMet, IsUnmet, IsFailed}
use Rattle.fsck_list.specs.declared.finding.Finding.{Finding}
use Rattle.fsck_core.specs.Wants.{as_found}
use Rattle.fsck_core.specs.Judged.{Judged}
use Rattle.fsck_list.specs.Kept.{IsListed}
use Rattle.fsck_core.specs.Decided.{Adds, Decided, AllPass, IsMissed, StaysListed}
use Rattle.fsck_core.proofs.WantLaws.{both_true}
use Rattle.fsck_core.proofs.ToldLaws.{told_two, told_so, told_unmet, told_unless}
use Rattle.fsck_core.proofs.ParentLaws.{all_more}

pub adds_none : (Says : broken.Finding → Type 0) (list : List Finding) → Adds Says list list
adds_none Says list f stands = inl stands

pub adds_two : (Says : broken.Finding → Type 0) (old mid new : List Finding) → Adds Says old mid → Adds Says mid new → Adds Says old new
adds_two Says old mid new first second f stands = ⊎_elim (λ before. first f before) (λ says. inr says) (second f stands)

pub adds_so : (Says So : broken.Finding → Type 0) (old new : List Finding) → ((f : broken.Finding) → Says f → So f) → Adds Says old new → Adds So old new
adds_so Says So old new from each f stands = ⊎_elim (λ before. inl before) (λ says. inr (from (as_found f) says)) (each f stands)

pub decided_both : (Says : broken.Finding → Type 0) (P Q : Type 0) (old mid new : List Finding) (one other both : Bool) → both ≡ (other && one) → Decided Says P old mid one → Decided Says Q mid new other → Decided Says (P × Q) old new both
decided_both Says P Q old mid new one other both is first second = record {
  tells = (
    λ holds. let parts = both_true other one (sym is ∙ holds) in (first.tells.0 parts.1, second.tells.0 parts.0),
    λ holds. is ∙ (λ i. (second.tells.1 holds.1 i) && (first.tells.1 holds.0 i)),
  );
  found = told_two Says one other both mid new is second.found first.found second.still;
  still = λ f listed. second.still f (first.still f listed);
  each = adds_two Says old mid new first.each second.each;
}

-- the same in other words
pub decided_as : (Says So : broken.Finding → Type 0) (P Q : Type 0) (old new : List Finding) (met : Bool) → ((f : broken.Finding) → Says f → So f) → (P → Q) → (Q → P) → Decided Says P old new met → Decided So Q old new met
decided_as Says So P Q old new met from to back decided = record {
  tells = (λ is. to (decided.tells.0 is), λ q. decided.tells.1 (back q));
  found = λ fails. told_so Says So new from (decided.found fails);
  still = decided.still;
  each = adds_so Says So old new from decided.each;
}

-- numbers that were judged
pub decided_numbers : (rule : ℕ) (ws : List Want) (old new : List Finding) (met : Bool) → Judged rule ws old new met → Decided (λ f. IsUnmet rule f ws) (AllMet ws) old new met
decided_numbers rule ws old new met judged = record {
  tells = judged.tells;
  found = told_unmet rule ws old new met judged;
  still = judged.still;
  each = judged.each;
}

-- ---- one thing that holds, or doesn't

-- what a finding of a rule was added for
abbrev pub Unless : ℕ → Bool → ℕ → List Finding → List Finding → Type 0
Unless rule holds place old new = (f : Finding) → Contains new f → Contains old f ⊎ ((holds ≡ false) × (f ≡ record { rule = rule; place = place; found = 0; wanted = 1 }))

pub adds_unless : (rule : ℕ) (Fails : ℕ → Type 0) (holds : Bool) (place : ℕ) (old new : List Finding) → (holds ≡ false → Fails place) → Unless rule holds place old new → Adds (λ f. IsFailed rule f Fails) old new
adds_unless rule Fails holds place old new fails each f stands = ⊎_elim
    (λ (before : Contains old f). inl before)
    (λ (is : (holds ≡ false) × (f ≡ record { rule = rule; place = place; found = 0; wanted = 1 })).
    inr (ap (λ (g : Finding). g.rule) is.1, ap (λ (g : Finding). g.found) is.1, ap (λ (g : Finding). g.wanted) is.1, subst Fails (sym (ap (λ (g : Finding). g.place) is.1)) (fails is.0)))
    (each f stands)

pub decided_one : (rule : ℕ) (Fails : ℕ → Type 0) (holds met : Bool) (place : ℕ) (old new : List Finding) → (holds ≡ false → Fails place) → met ≡ holds → (met ≡ false → IsListed new (record { rule = rule; place = place; found = 0; wanted = 1 })) → StaysListed old new
    → Unless rule holds place old new → Decided (λ f. IsFailed rule f Fails) (holds ≡ true) old new met
decided_one rule Fails holds met place old new fails is found still each = record {
  tells = (λ yes. sym is ∙ yes, λ holds_so. is ∙ holds_so);
  found = λ no. told_unless rule Fails place new (fails (sym is ∙ no)) (found no);
  still = still;
  each = adds_unless rule Fails holds place old new fails each;
}

-- ---- a test of each place, one after the other

module _ (rule : ℕ) (test : ℕ → Bool) (place_of : ℕ → ℕ) (n : ℕ) where
  abbrev Missed : broken.Finding → Type 0
  Missed = IsMissed rule test place_of n

  pub missed_none : (list : List Finding) → Decided (IsMissed rule test place_of n) (AllPass test 0) list list true
  missed_none list = record {
    tells = (λ is k less. absurd (omega (arith, less)), λ all. refl);
    found = λ is. absurd (true≢false is);
    still = λ f listed. listed;
    each = λ f stands. inl stands;
  }

  pub missed_adds : (k : ℕ) (holds : Bool) (place : ℕ) (first old new : List Finding) → k < n → holds ≡ test k → place ≡ place_of k → Adds (IsMissed rule test place_of n) first old → Unless rule holds place old new
      → Adds (IsMissed rule test place_of n) first new
  missed_adds k holds place first old new inside is place_is before each =
      adds_two (IsMissed rule test place_of n) first old new before (adds_unless rule (λ p. (i : ℕ) × (i < n) × (place_of i ≡ p) × (test i ≡ false)) holds place old new (λ fails. (k, inside, sym place_is, sym is ∙ fails)) each)

  pub missed_more : (k : ℕ) (holds one met both : Bool) (place : ℕ) (first old new : List Finding) → k < n → holds ≡ test k → place ≡ place_of k → both ≡ (one && met)
      → Decided (IsMissed rule test place_of n) (AllPass test k) first old met → one ≡ holds → (one ≡ false → IsListed new (record { rule = rule; place = place; found = 0; wanted = 1 })) → StaysListed old new → Unless rule holds place old new
      → Decided (IsMissed rule test place_of n) (AllPass test (k + 1)) first new both
  missed_more k holds one met both place first old new inside is place_is both_is before one_is found still each = record {
    tells = (
      all_more test k one met both both_is (one_is ∙ is) before.tells.0,
      λ all. both_is ∙ (λ i. ((one_is ∙ is ∙ all k (omega arith)) i) && (before.tells.1 (λ j less. all j (omega (arith, less))) i)),
    );
    found = told_two (IsMissed rule test place_of n) met one both old new both_is
        (λ this. told_unless rule (λ p. (i : ℕ) × (i < n) × (place_of i ≡ p) × (test i ≡ false)) place new (k, inside, sym place_is, sym is ∙ (sym one_is ∙ this)) (found this)) before.found still;
    still = λ f listed. still f (before.still f listed);
    each = missed_adds k holds place first old new inside is place_is before.each each;
  }

  pub missed_all : (k : ℕ) (old new : List Finding) (met : Bool) → n ≤ k → k ≤ n → Decided (IsMissed rule test place_of n) (AllPass test k) old new met → Decided (IsMissed rule test place_of n) (AllPass test n) old new met
  missed_all k old new met most least decided = let same : k ≡ n = omega (arith, most, least) in subst (λ m. Decided (IsMissed rule test place_of n) (AllPass test m) old new met) same decided

-- ---- where a result is Ok

pub ok_two : {X E : Type 0} (result : Result X E) (P Q R : X → Type 0) → ((x : X) → P x → Q x → R x) → IfOk result P → IfOk result Q → IfOk result R
ok_two (Ok x) P Q R from p q = from x p q
ok_two (Err e) P Q R from p q = p
