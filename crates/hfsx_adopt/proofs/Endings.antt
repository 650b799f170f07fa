-- What the exit status of an adoption says, by how the adoption was answered.
use Rattle.std.proofs.Common.{◌≡◌, ◌≢◌, ◌⊎◌, ℕ, inl, inr, ⊎_elim, refl, sym, ◌∙◌, subst}
use Rattle.std.specs.Prelude.{IfErr, IfOk, Result, Ok, Err}

-- what was answered, behind both of its layers
pub answered : {A E F : Type 0} (P : A → Type 0) (r : Result (Result A E) F) (inner : Result A E) (a : A) → r ≡ Ok inner → inner ≡ Ok a → IfOk r (λ said. IfOk said P) → P a
answered P r inner a is at h = subst (λ (x : Result _ _). IfOk x P) at (subst (λ (x : Result _ _). IfOk x (λ said. IfOk said P)) is h)

pub declined : {A E F : Type 0} (P : E → Type 0) (r : Result (Result A E) F) (inner : Result A E) (e : E) → r ≡ Ok inner → inner ≡ Err e → IfOk r (λ said. IfErr said P) → P e
declined P r inner e is at h = subst (λ (x : Result _ _). IfErr x P) at (subst (λ (x : Result _ _). IfOk x (λ said. IfErr said P)) is h)

-- what holds anyway holds under a premise on the status
pub anyway : {E : Type 0} (r : Result ℕ E) (S : ℕ → Type 0) (P : Type 0) → P → IfOk r (λ status. S status → P)
anyway (Ok status) S P p = λ _. p
anyway (Err e) S P p = tt

-- a status of an adoption is 0 or 5, and no other one
pub done_is_not : {E : Type 0} (r : Result ℕ E) (n : ℕ) (P : Type 0) → n ≢ 0 → n ≢ 5 → IfOk r (λ status. (status ≡ 0) ⊎ (status ≡ 5)) → IfOk r (λ status. status ≡ n → P)
done_is_not (Ok status) n P no_0 no_5 is = λ at. absurd (⊎_elim (λ z. no_0 (sym at ∙ z)) (λ f. no_5 (sym at ∙ f)) is)
done_is_not (Err e) n P no_0 no_5 is = tt

-- that of a refusal is 1
pub refused_is_not : {E : Type 0} (r : Result ℕ E) (n : ℕ) (P : Type 0) → n ≢ 1 → IfOk r (λ status. status ≡ 1) → IfOk r (λ status. status ≡ n → P)
refused_is_not (Ok status) n P no_1 is = λ at. absurd (no_1 (sym at ∙ is))
refused_is_not (Err e) n P no_1 is = tt

pub refused_is_not_done : {E : Type 0} (r : Result ℕ E) (P : Type 0) → IfOk r (λ status. status ≡ 1) → IfOk r (λ status. (status ≡ 0) ⊎ (status ≡ 5) → P)
refused_is_not_done (Ok status) P is = λ at. absurd (⊎_elim (λ z. cc (sym is ∙ z)) (λ f. cc (sym is ∙ f)) at)
refused_is_not_done (Err e) P is = tt

-- a status is one of the four
abbrev pub IsStatus : ℕ → Type 0
IsStatus status = (status ≡ 0) ⊎ ((status ≡ 1) ⊎ ((status ≡ 3) ⊎ (status ≡ 5)))

pub done_status : {E : Type 0} (r : Result ℕ E) → IfOk r (λ status. (status ≡ 0) ⊎ (status ≡ 5)) → IfOk r IsStatus
done_status (Ok status) is = ⊎_elim (λ z. inl z) (λ f. inr (inr (inr f))) is
done_status (Err e) is = tt

pub refused_status : {E : Type 0} (r : Result ℕ E) → IfOk r (λ status. status ≡ 1) → IfOk r IsStatus
refused_status (Ok status) is = inr (inl is)
refused_status (Err e) is = tt
