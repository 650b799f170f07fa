-- Rule 20 of the records of the attributes file: where it is broken it is told, whatever the sizes of values are.
use Rattle.std.proofs.Common.{◌≡◌, ◌<◌, ◌≤◌, ◌+◌, ℕ, Bool, true, false, List, length, inl, inr, refl, sym, ◌∙◌, subst, arith, ⊎_elim}
use Rattle.std.specs.Prelude.{Result, Ok, Err, IfOk}
use Rattle.std.proofs.lemmas.Bool.{cases_lt}
use Rattle.fsck_list.specs.declared.finding.Finding.{Finding}
use Rattle.fsck_list.specs.Kept.{IsListed}
use Rattle.hfs_volume.specs.Content.{VolumeState}
use Rattle.fsck_core.specs.Attributes.{FailsRecord, IsBrokenRecord, IsNamedAt, AreNamed, IsToldOr}
use Rattle.fsck_core.specs.Decided.{StaysListed}
use Rattle.fsck_core.proofs.ToldLaws.{told_still, told_unless}

module _ (volume : VolumeState) where
  pub named_still : (P : Type 0) (old new : List Finding) → StaysListed old new → IsToldOr volume P old → IsToldOr volume P new
  named_still P old new still (inl told) = inl (told_still (IsBrokenRecord volume) old new still told)
  named_still P old new still (inr holds) = inr holds

  pub named_as : (P Q : Type 0) (list : List Finding) → (P → Q) → IsToldOr volume P list → IsToldOr volume Q list
  named_as P Q list to (inl told) = inl told
  named_as P Q list to (inr holds) = inr (to holds)

  -- a finding that was added
  pub named_fails : {E : Type 0} (P : Type 0) (result : Result Bool E) (place : ℕ) (new : List Finding) → FailsRecord volume place → IfOk result (λ met. met ≡ false)
      → IfOk result (λ met. met ≡ false → IsListed new (record { rule = 20; place = place; found = 0; wanted = 1 })) → IfOk result (λ _. IsToldOr volume P new)
  named_fails P (Ok met) place new fails is found = inl (told_unless 20 (FailsRecord volume) place new fails (found is))
  named_fails P (Err e) place new fails is found = tt

  -- one that was added where something doesn't hold
  pub named_by : (P : Type 0) (holds met : Bool) (place : ℕ) (new : List Finding) → (holds ≡ true → P) → (holds ≡ false → FailsRecord volume place) → met ≡ holds
      → (met ≡ false → IsListed new (record { rule = 20; place = place; found = 0; wanted = 1 })) → IsToldOr volume P new
  named_by P holds true place new so fails is found = inr (so (sym is))
  named_by P holds false place new so fails is found = inl (told_unless 20 (FailsRecord volume) place new (fails (sym is)) (found refl))

  pub named_unless : {E : Type 0} (P : Type 0) (result : Result Bool E) (holds : Bool) (place : ℕ) (new : List Finding) → (holds ≡ true → P) → (holds ≡ false → FailsRecord volume place) → IfOk result (λ met. met ≡ holds)
      → IfOk result (λ met. met ≡ false → IsListed new (record { rule = 20; place = place; found = 0; wanted = 1 })) → IfOk result (λ _. IsToldOr volume P new)
  named_unless P (Ok met) holds place new so fails is found = named_by P holds met place new so fails is found
  named_unless P (Err e) holds place new so fails is found = tt

  -- one record more
  pub named_more : (k : ℕ) (old new : List Finding) → StaysListed old new → IsToldOr volume (AreNamed volume k) old → IsToldOr volume (IsNamedAt volume k) new → IsToldOr volume (AreNamed volume (k + 1)) new
  named_more k old new still (inl told) here = inl (told_still (IsBrokenRecord volume) old new still told)
  named_more k old new still (inr before) (inl told) = inl told
  named_more k old new still (inr before) (inr one) = inr (λ j less. ⊎_elim
      (λ (earlier : j < k). before j earlier)
      (λ (last : k ≤ j). let is : j ≡ k = omega (arith, less, last) in subst (λ n. IsNamedAt volume n) (sym is) one)
      (cases_lt j k))

  pub named_all : (k : ℕ) (list : List Finding) → k ≡ length volume.attribute_pairs → IsToldOr volume (AreNamed volume k) list → IsToldOr volume (AreNamed volume (length volume.attribute_pairs)) list
  named_all k list is named = subst (λ n. IsToldOr volume (AreNamed volume n) list) is named
