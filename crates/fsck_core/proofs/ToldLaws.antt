-- Findings of a rule that are listed.
use Rattle.std.proofs.Common.{◌≡◌, ◌≢◌, ◌⊎◌, ◌<◌, ℕ, Bool, true, false, ◌&&◌, List, [], ◌∷◌, length, inl, inr, refl, sym, ◌∙◌, subst, arith, ⊎_elim, T}
use Rattle.std.specs.Prelude.{Contains}
use Rattle.hfs_volume.specs.Broken as broken
use Rattle.hfs_volume.specs.Broken.{Want, AllMet, IsUnmet, IsFailed}
use Rattle.hfs_volume.proofs.Members.{at_front}
use Rattle.fsck_list.specs.declared.finding.Finding.{Finding}
use Rattle.fsck_list.specs.Kept.{IsListed}
use Rattle.fsck_core.specs.Wants.{as_found}
use Rattle.fsck_core.specs.Judged.{Judged}
use Rattle.fsck_core.specs.Decided.{StaysListed, IsTold, TellsOf, TellsAfter}
use Rattle.fsck_core.proofs.EntryLaws.{some_unmet}
use Rattle.fsck_core.proofs.WantLaws.{one_false}

pub told_still : (Says : broken.Finding → Type 0) (old new : List Finding) → StaysListed old new → IsTold Says old → IsTold Says new
told_still Says old new still told = (told.0, told.1, still told.0 told.2)

pub told_so : (Says So : broken.Finding → Type 0) (list : List Finding) → ((f : broken.Finding) → Says f → So f) → IsTold Says list → IsTold So list
told_so Says So list from told = (told.0, from (as_found told.0) told.1, told.2)

pub told_some : (Says : broken.Finding → Type 0) (list : List Finding) → IsTold Says list → 0 < length list
told_some Says list told = by told.2
  where
    by : IsListed list told.0 → 0 < length list
    by (inl stands) = omega (arith, stands.1)
    by (inr full) = omega (arith, full.0)

-- a rule that has no number, at a place
pub told_unless : (rule : ℕ) (Fails : ℕ → Type 0) (place : ℕ) (list : List Finding) → Fails place → IsListed list (record { rule = rule; place = place; found = 0; wanted = 1 }) → IsTold (λ f. IsFailed rule f Fails) list
told_unless rule Fails place list fails listed = (record { rule = rule; place = place; found = 0; wanted = 1 }, (refl, refl, refl, fails), listed)

-- of two parts one after the other
pub told_two : (Says : broken.Finding → Type 0) (one other both : Bool) (mid new : List Finding) → both ≡ (other && one) → (other ≡ false → IsTold Says new) → (one ≡ false → IsTold Says mid) → StaysListed mid new → both ≡ false → IsTold Says new
told_two Says one other both mid new is here before still fails = ⊎_elim (λ (this : other ≡ false). here this) (λ (earlier : one ≡ false). told_still Says mid new still (before earlier)) (one_false other one (sym is ∙ fails))

-- numbers that were judged
pub told_unmet : (rule : ℕ) (ws : List Want) (old new : List Finding) (met : Bool) → Judged rule ws old new met → met ≡ false → IsTold (λ f. IsUnmet rule f ws) new
told_unmet rule ws old new met judged fails = ⊎_elim
    (λ (all : AllMet ws). absurd (subst T (sym (judged.tells.1 all) ∙ fails) tt))
    (λ (one : (w : Want) × Contains ws w × (w.found ≢ w.wanted)).
    (record { rule = rule; place = one.0.place; found = one.0.found; wanted = one.0.wanted }, (refl, one.2, one.1), judged.listed _ (refl, one.2, one.1)))
    (some_unmet ws)

-- a list that begins with nothing
pub told_first : (Says : broken.Finding → Type 0) (list : List Finding) → 0 < length list → ((f : Finding) → Contains list f → Says (as_found f)) → IsTold Says list
told_first Says [] some each = absurd (omega (arith, some))
told_first Says (f ∷ rest) some each = (f, each f (at_front f rest), inl (at_front f rest))

pub stays_same : (old new : List Finding) → new ≡ old → StaysListed old new
stays_same old new same f listed = subst (λ (l : List Finding). IsListed l f) (sym same) listed

pub stays_both : (old mid new : List Finding) → StaysListed old mid → StaysListed mid new → StaysListed old new
stays_both old mid new first second f listed = second f (first f listed)

-- ---- where something is said, it is told

pub tells_still : (Says : broken.Finding → Type 0) (old new : List Finding) → StaysListed old new → TellsOf Says old → TellsOf Says new
tells_still Says old new still tells f says = told_still Says old new still (tells f says)

pub after_still : (First Says : broken.Finding → Type 0) (old new : List Finding) → StaysListed old new → TellsAfter First Says old → TellsAfter First Says new
after_still First Says old new still (inl first) = inl (told_still First old new still first)
after_still First Says old new still (inr tells) = inr (tells_still Says old new still tells)

-- what is told where it doesn't hold
pub tells_met : (Says : broken.Finding → Type 0) (P : Type 0) (list : List Finding) (met : Bool) → (met ≡ true → P) → (met ≡ false → IsTold Says list) → (P → (f : broken.Finding) → Says f → ⊥) → TellsOf Says list
tells_met Says P list true holds found none f says = absurd (none (holds refl) f says)
tells_met Says P list false holds found none f says = found refl

-- numbers that were judged
pub tells_unmet : (rule : ℕ) (ws : List Want) (list : List Finding) → ((f : Finding) → IsUnmet rule (as_found f) ws → IsListed list f) → TellsOf (λ f. IsUnmet rule f ws) list
tells_unmet rule ws list listed f unmet =
    (record { rule = f.rule; place = f.place; found = f.found; wanted = f.wanted }, unmet, listed (record { rule = f.rule; place = f.place; found = f.found; wanted = f.wanted }) unmet)
