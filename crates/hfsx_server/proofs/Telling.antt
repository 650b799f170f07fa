-- Lines that are told piece by piece.
use Rattle.std.proofs.Common.{◌≡◌, ◌≤◌, ◌<◌, ◌+◌, ◌++◌, ◌∷◌, [], ℕ, zero, suc, List, Result, Ok, Err, IsTrue, inl, inr, ⊎_elim, subst, length, take, drop, get_or, refl, sym, ◌∙◌, ap, arith, append_assoc, length-append, take-append-drop}
use Rattle.std.specs.Prelude.{OnOk, OnErr}
use Rattle.std.specs.List.{flat_map}
use Rattle.std.proofs.lemmas.List.{append-nil, take-append-le}
use Rattle.std.proofs.lemmas.Grind.{flat_map-append}
use Rattle.std.proofs.Math.Seq.{take-append-add}
use Rattle.sector_disk.specs.Cause.{Rose, HasCause}
use Rattle.sector_disk.specs.Disk.{State, SameDisk, ToldPrefix}
use Rattle.std.proofs.lemmas.Bool.Decides.{nat_tests}
use Rattle.sector_disk.proofs.Writing.{same_after}
use Rattle.hfsx_server.specs.declared.refusal.SizeRefusal.TheVariants.{TooSmall, TooLarge}
use Rattle.hfsx_server.specs.Telling.{Tells, Telling, ToldUnlessFailed, size_refusal}

-- a front of the first piece is one of the whole
pub front_first : (old new first rest : List ℕ) → ToldPrefix old first new → ToldPrefix old (first ++ rest) new
front_first old new first rest front = (front.0, omega (arith, front.1, length-append first rest), front.2 ∙ ap (λ (l : List ℕ). old ++ l) (sym (take-append-le front.0 first rest front.1)))

-- so is the first piece with a front of the rest
pub front_rest : (old mid new first rest : List ℕ) → mid ≡ old ++ first → ToldPrefix mid rest new → ToldPrefix old (first ++ rest) new
front_rest old mid new first rest told front = (
  length first + front.0,
  omega (arith, front.1, length-append first rest),
  front.2 ∙ ap (λ (l : List ℕ). l ++ take front.0 rest) told ∙ append_assoc old first (take front.0 rest) ∙ ap (λ (l : List ℕ). old ++ l) (sym (take-append-add first rest front.0)),
)

told_or : {T E : Type 0} (r : Result T E) (old new : State) (text : List ℕ) → OnOk r (new.told ≡ old.told ++ text) → OnErr r (Rose old.sink_faults new.sink_faults) → ToldPrefix old.told text new.told → ToldUnlessFailed old new text
told_or (Ok x) old new text told rose front = inl told
told_or (Err e) old new text told rose front = inr (rose, front)

-- what a telling says, whether the sink failed or not
pub tells_of : {T E : Type 0} (r : Result T E) (old new : State) (text : List ℕ) → (IsTrue old.tells → OnOk r (new.told ≡ old.told ++ text)) → (IsTrue old.tells → ToldPrefix old.told text new.told)
    → new.candidates ≡ old.candidates → new.barriers ≡ old.barriers → new.faults ≡ old.faults → SameDisk old new → HasCause old.sink_faults new.sink_faults r → Tells old new text
tells_of r old new text told unsure candidates barriers faults same cause = record {
  told = λ tells. told_or r old new text (told tells) cause.failed (unsure tells);
  candidates = candidates;
  barriers = barriers;
  faults = faults;
  sink = cause.later;
  same = same;
}

-- why a size is refused
pub too_small : (sectors : ℕ) → sectors < 16384 → size_refusal sectors ≡ TooSmall sectors
too_small sectors small = grind (arith, nat_tests)

pub too_large : (sectors : ℕ) → 16384 < sectors → size_refusal sectors ≡ TooLarge sectors
too_large sectors large = grind (arith, nat_tests)

-- a call before that told nothing
pub told_from : (old mid new : State) (text : List ℕ) → mid.told ≡ old.told → mid.sink_faults ≡ old.sink_faults → ToldUnlessFailed mid new text → ToldUnlessFailed old new text
told_from old mid new text told faults so =
    ⊎_elim (λ whole. inl (whole ∙ ap (λ (l : List ℕ). l ++ text) told))
    (λ front. inr (subst (λ (n : ℕ). Rose n new.sink_faults) faults front.0, subst (λ (l : List ℕ). ToldPrefix l text new.told) told front.1)) so

on_ok_told : {T E : Type 0} {P Q : Type 0} (r : Result T E) → (P → Q) → OnOk r P → OnOk r Q
on_ok_told (Ok x) goes is = goes is
on_ok_told (Err e) goes is = tt

pub on_err_rose : {T E : Type 0} (r : Result T E) (old mid new : ℕ) → old ≤ mid → OnErr r (Rose mid new) → OnErr r (Rose old new)
on_err_rose (Ok x) old mid new later rose = tt
on_err_rose (Err e) old mid new later rose = omega (arith, later, rose)

-- one text behind another
pub telling_both : {T U E : Type 0} (old mid new : State) (first rest : List ℕ) (r : Result T E) (q : Result U E) (x : T) → r ≡ Ok x → Telling old mid first r → Telling mid new rest q → Telling old new (first ++ rest) q
telling_both old mid new first rest r q x is a b = record {
  told = λ tells.
      let so_far : mid.told ≡ old.told ++ first = subst (λ (r : Result _ _). OnOk r (mid.told ≡ old.told ++ first)) is (a.told tells) in
      on_ok_told q (λ told. told ∙ ap (λ (l : List ℕ). l ++ rest) so_far ∙ append_assoc old.told first rest) (b.told (subst IsTrue (sym a.same.tells) tells));
  unsure = λ tells.
      let so_far : mid.told ≡ old.told ++ first = subst (λ (r : Result _ _). OnOk r (mid.told ≡ old.told ++ first)) is (a.told tells) in
      front_rest old.told mid.told new.told first rest so_far (b.unsure (subst IsTrue (sym a.same.tells) tells));
  candidates = b.candidates ∙ a.candidates;
  barriers = b.barriers ∙ a.barriers;
  faults = b.faults ∙ a.faults;
  same = same_after old mid new a.same b.same;
  cause = record { later = omega (arith, a.cause.later, b.cause.later); failed = on_err_rose q old.sink_faults mid.sink_faults new.sink_faults a.cause.later b.cause.failed };
}

-- the first text failed
pub telling_failed : {T U E : Type 0} (old new : State) (first rest : List ℕ) (r : Result T E) (q : Result U E) (e : E) (f : E) → r ≡ Err e → q ≡ Err f → Telling old new first r → Telling old new (first ++ rest) q
telling_failed old new first rest r q e f is failed a = record {
  told = λ tells. subst (λ (q : Result _ _). OnOk q (new.told ≡ old.told ++ (first ++ rest))) (sym failed) tt;
  unsure = λ tells. front_first old.told new.told first rest (a.unsure tells);
  candidates = a.candidates;
  barriers = a.barriers;
  faults = a.faults;
  same = a.same;
  cause = record { later = a.cause.later; failed = subst (λ (q : Result _ _). OnErr q (Rose old.sink_faults new.sink_faults)) (sym failed) (subst (λ (r : Result _ _). OnErr r (Rose old.sink_faults new.sink_faults)) is a.cause.failed) };
}

-- what a telling says, whether the sink failed or not
pub tells_all : {T E : Type 0} (r : Result T E) (old new : State) (text : List ℕ) → Telling old new text r → Tells old new text
tells_all r old new text t = tells_of r old new text t.told t.unsure t.candidates t.barriers t.faults t.same t.cause

-- all of the text was told
abbrev pub ToldAll : State → State → List ℕ → Type 0
ToldAll old new text = Telling {T = ℕ} {E = ℕ} old new text (Ok 0)

pub told_nothing : (old : State) → ToldAll old old []
told_nothing old = record {
  told = λ tells. sym (append-nil old.told);
  unsure = λ tells. (0, omega arith, sym (append-nil old.told));
  candidates = refl;
  barriers = refl;
  faults = refl;
  same = record { tells = refl; tells_left = refl; names = refl; sectors = refl };
  cause = record { later = omega arith; failed = tt };
}

-- texts one behind the other, each that of an item of a list
module _ {A : Type 0} (f : A → List ℕ) (none : A) where
  texts_more : (list : List A) (k : ℕ) → k < length list → flat_map f (take (suc k) list) ≡ flat_map f (take k list) ++ f (get_or list k none)
  texts_more [] k inside = absurd (omega (arith, inside))
  texts_more (n ∷ []) zero inside = append-nil (f n)
  texts_more (n ∷ m ∷ list) zero inside = append-nil (f n)
  texts_more (n ∷ list) (suc k) inside = ap (λ (l : List ℕ). f n ++ l) (texts_more list k (omega (arith, inside))) ∙ sym (append_assoc (f n) (flat_map f (take k list)) (f (get_or list k none)))

  texts_next : (list : List A) (k : ℕ) → k < length list → flat_map f (take (k + 1) list) ≡ flat_map f (take k list) ++ f (get_or list k none)
  texts_next list k inside =
      let same : suc k ≡ k + 1 = omega arith in
      subst (λ (n : ℕ). flat_map f (take n list) ≡ flat_map f (take k list) ++ f (get_or list k none)) same (texts_more list k inside)

  texts_split : (list : List A) (k : ℕ) → k < length list → (flat_map f (take k list) ++ f (get_or list k none)) ++ flat_map f (drop (k + 1) list) ≡ flat_map f list
  texts_split list k inside =
      ap (λ (l : List ℕ). l ++ flat_map f (drop (k + 1) list)) (sym (texts_next list k inside)) ∙ sym (flat_map-append f (take (k + 1) list) (drop (k + 1) list))
      ∙ ap (λ (l : List A). flat_map f l) (take-append-drop (k + 1) list)

  -- one item more
  pub told_next : {T E : Type 0} (old mid new : State) (list : List A) (k : ℕ) (x : T) → k < length list → ToldAll old mid (flat_map f (take k list)) → Telling {E = E} mid new (f (get_or list k none)) (Ok x) → ToldAll old new (flat_map f (take (k + 1) list))
  told_next old mid new list k x inside so_far told =
      let both = telling_both {E = ℕ} old mid new (flat_map f (take k list)) (f (get_or list k none)) (Ok 0) (Ok x) 0 refl so_far (record {
        told = told.told;
        unsure = told.unsure;
        candidates = told.candidates;
        barriers = told.barriers;
        faults = told.faults;
        same = told.same;
        cause = record { later = told.cause.later; failed = tt };
      }) in
      subst (λ (l : List ℕ). ToldAll old new l) (sym (texts_next list k inside)) (record {
        told = both.told;
        unsure = both.unsure;
        candidates = both.candidates;
        barriers = both.barriers;
        faults = both.faults;
        same = both.same;
        cause = record { later = both.cause.later; failed = tt };
      })

  -- the last item that was begun failed
  pub told_failed : {T U E : Type 0} (old mid new : State) (list : List A) (k : ℕ) (e g : E) (q : Result U E) → k < length list → q ≡ Err g → ToldAll old mid (flat_map f (take k list)) → Telling {T = T} mid new (f (get_or list k none)) (Err e) → Telling old new (flat_map f list) q
  told_failed {T} {U} {E} old mid new list k e g q inside failed so_far told =
      let first = flat_map f (take k list) ++ f (get_or list k none) in
      let so : Telling {T = ℕ} {E = E} old mid (flat_map f (take k list)) (Ok 0) = record {
        told = so_far.told;
        unsure = so_far.unsure;
        candidates = so_far.candidates;
        barriers = so_far.barriers;
        faults = so_far.faults;
        same = so_far.same;
        cause = record { later = so_far.cause.later; failed = tt };
      } in
      let both : Telling {T = T} {E = E} old new first (Err e) = telling_both old mid new (flat_map f (take k list)) (f (get_or list k none)) (Ok 0) (Err e) 0 refl so told in
      subst (λ (l : List ℕ). Telling old new l q) (texts_split list k inside) (telling_failed old new first (flat_map f (drop (k + 1) list)) (Err e) q e g refl failed both)

  -- all items were told
  pub told_whole : {T E : Type 0} (old new : State) (list : List A) (k : ℕ) (x : T) → take k list ≡ list → ToldAll old new (flat_map f (take k list)) → Telling {E = E} old new (flat_map f list) (Ok x)
  told_whole old new list k x all so_far =
      let whole = subst (λ (l : List A). ToldAll old new (flat_map f l)) all so_far in
      record {
        told = whole.told;
        unsure = whole.unsure;
        candidates = whole.candidates;
        barriers = whole.barriers;
        faults = whole.faults;
        same = whole.same;
        cause = record { later = whole.cause.later; failed = tt };
      }

pub take_nothing : {A : Type 0} (list : List A) → take 0 list ≡ []
take_nothing [] = refl
take_nothing (n ∷ list) = refl
