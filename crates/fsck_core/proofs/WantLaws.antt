-- Numbers that are judged one after the other.
use Rattle.std.proofs.Common.{◌≡◌, ◌≢◌, ◌⊎◌, ◌↔◌, ◌<◌, ◌≤◌, ℕ, ◌+◌, Bool, true, false, ◌&&◌, List, length, inl, inr, refl, sym, ◌∙◌, ap, subst, arith, ⊎_elim}
use Rattle.std.specs.Prelude.{Contains, IsTrue, Result, Ok, Err, IfOk}
use Rattle.std.proofs.lemmas.Bool.{cases_lt}
use Rattle.std.proofs.lemmas.List.{get_or-map, get_or_default, length-map}
use Rattle.fsck_list.specs.declared.finding.Finding.{Finding}
use Rattle.fsck_list.specs.Kept.{IsListed, Keeps}
use Rattle.hfs_volume.specs.Broken.{AllMet, IsUnmet}
use Rattle.hfs_volume.specs.Broken as broken
use Rattle.hfs_volume.proofs.Members.{map_cases}
use Rattle.fsck_core.specs.Wants.{as_found, want_in, wants_in, finding_of, no_want, want_at}
use Rattle.fsck_core.specs.declared.want.Want.{Want}

-- what stands in a list that got one finding more
pub kept_each : (rule : ℕ) (w : Want) (old new : List Finding) → Keeps (finding_of rule w) old new → w.found ≢ w.wanted → (f : Finding) → Contains new f → Contains old f ⊎ ((f ≡ finding_of rule w) × (w.found ≢ w.wanted))
kept_each rule w old new keeps differ f stands = ⊎_elim (λ (is : f ≡ finding_of rule w). inr (is, differ)) (λ (before : Contains old f). inl before) (keeps.from f stands)

-- each number is the one wanted
pub all_met : (ws : List Want) → ((k : ℕ) → k < length ws → (want_at ws k).found ≡ (want_at ws k).wanted) → AllMet (wants_in ws)
all_met ws each k d inside =
    let within : k < length ws = omega (arith, inside, length-map ws want_in) in
    subst (λ (w : broken.Want). w.found ≡ w.wanted) (sym (get_or-map want_in ws k no_want d within)) (each k within)

pub met_at : (ws : List Want) → AllMet (wants_in ws) → (k : ℕ) → k < length ws → (want_at ws k).found ≡ (want_at ws k).wanted
met_at ws all k inside =
    subst (λ (w : broken.Want). w.found ≡ w.wanted) (get_or-map want_in ws k no_want (want_in no_want) inside) (all k (want_in no_want) (omega (arith, inside, length-map ws want_in)))

-- a number that isn't the one wanted is one of the rule's
pub unmet_at : (rule : ℕ) (ws : List Want) (k : ℕ) → k < length ws → (want_at ws k).found ≢ (want_at ws k).wanted → IsUnmet rule (as_found (finding_of rule (want_at ws k))) (wants_in ws)
unmet_at rule ws k inside differ = (refl, differ, (k, omega (arith, inside, length-map ws want_in), get_or-map want_in ws k no_want (want_in (want_at ws k)) inside))

-- what stands in the list after one number more
pub each_more : (rule : ℕ) (ws : List Want) (k : ℕ) (first old new : List Finding) → k < length ws → ((f : Finding) → Contains old f → Contains first f ⊎ IsUnmet rule (as_found f) (wants_in ws))
    → ((f : Finding) → Contains new f → Contains old f ⊎ ((f ≡ finding_of rule (want_at ws k)) × ((want_at ws k).found ≢ (want_at ws k).wanted))) → (f : Finding) → Contains new f → Contains first f ⊎ IsUnmet rule (as_found f) (wants_in ws)
each_more rule ws k first old new inside before here f stands = ⊎_elim
    (λ (earlier : Contains old f). before f earlier)
    (λ (is : (f ≡ finding_of rule (want_at ws k)) × ((want_at ws k).found ≢ (want_at ws k).wanted)). inr (subst (λ (g : Finding). IsUnmet rule (as_found g) (wants_in ws)) (sym is.0) (unmet_at rule ws k inside is.1)))
    (here f stands)

pub both_true : (a b : Bool) → (a && b) ≡ true → (a ≡ true) × (b ≡ true)
both_true true b is = (refl, is)
both_true false b is = cc

pub one_false : (a b : Bool) → (a && b) ≡ false → (a ≡ false) ⊎ (b ≡ false)
one_false true b is = inr is
one_false false b is = inl refl

true_false : true ≡ false → ⊥
true_false is = cc

-- all numbers up to one more are met
pub met_more : (ws : List Want) (k : ℕ) (one met : Bool) → IsTrue one ↔ (want_at ws k).found ≡ (want_at ws k).wanted → (IsTrue met → (i : ℕ) → i < k → (want_at ws i).found ≡ (want_at ws i).wanted)
    → (both : Bool) → both ≡ (one && met) → IsTrue both → (i : ℕ) → i < k + 1 → (want_at ws i).found ≡ (want_at ws i).wanted
met_more ws k one met here before both is holds i less =
    let parts = both_true one met (sym is ∙ holds) in
    ⊎_elim
    (λ (lower : i < k). before parts.1 i lower)
    (λ (high : k ≤ i). let same : k ≡ i = omega (arith, less, high) in subst (λ n. (want_at ws n).found ≡ (want_at ws n).wanted) same (here.0 parts.0))
    (cases_lt i k)

-- one isn't met, where not all are
pub unmet_more : (ws : List Want) (k : ℕ) (one met : Bool) → k < length ws → IsTrue one ↔ (want_at ws k).found ≡ (want_at ws k).wanted
    → (met ≡ false → (i : ℕ) × (i < length ws) × ((want_at ws i).found ≢ (want_at ws i).wanted)) → (both : Bool) → both ≡ (one && met) → both ≡ false → (i : ℕ) × (i < length ws) × ((want_at ws i).found ≢ (want_at ws i).wanted)
unmet_more ws k one met inside here before both is fails = ⊎_elim
    (λ (this : one ≡ false). (k, inside, λ same. true_false (sym (here.1 same) ∙ this)))
    (λ (earlier : met ≡ false). before earlier)
    (one_false one met (sym is ∙ fails))

-- listed up to one more
pub listed_more : (rule : ℕ) (ws : List Want) (k : ℕ) (old new : List Finding) → ((i : ℕ) → i < k → (want_at ws i).found ≢ (want_at ws i).wanted → IsListed old (finding_of rule (want_at ws i)))
    → ((f : Finding) → IsListed old f → IsListed new f) → ((want_at ws k).found ≢ (want_at ws k).wanted → IsListed new (finding_of rule (want_at ws k)))
    → (i : ℕ) → i < k + 1 → (want_at ws i).found ≢ (want_at ws i).wanted → IsListed new (finding_of rule (want_at ws i))
listed_more rule ws k old new before still here i less differ = ⊎_elim
    (λ (lower : i < k). still (finding_of rule (want_at ws i)) (before i lower differ))
    (λ (high : k ≤ i). let same : k ≡ i = omega (arith, less, high) in subst (λ n. (want_at ws n).found ≢ (want_at ws n).wanted → IsListed new (finding_of rule (want_at ws n))) same here differ)
    (cases_lt i k)

-- whether all are met
pub met_tells : (ws : List Want) (k : ℕ) (met : Bool) → length ws ≤ k → (IsTrue met → (i : ℕ) → i < k → (want_at ws i).found ≡ (want_at ws i).wanted)
    → (met ≡ false → (i : ℕ) × (i < length ws) × ((want_at ws i).found ≢ (want_at ws i).wanted)) → IsTrue met ↔ AllMet (wants_in ws)
met_tells ws k true whole each one = (λ is. all_met ws (λ i inside. each refl i (omega (arith, inside, whole))), λ all. refl)
met_tells ws k false whole each one = (λ is. absurd (true_false (sym is)), λ all. let at = one refl in absurd (at.2 (met_at ws all at.0 at.1)))

-- a finding of the rule stands among its numbers
pub listed_all : (rule : ℕ) (ws : List Want) (k : ℕ) (list : List Finding) → length ws ≤ k → ((i : ℕ) → i < k → (want_at ws i).found ≢ (want_at ws i).wanted → IsListed list (finding_of rule (want_at ws i)))
    → (w : Want) → Contains ws w → w.found ≢ w.wanted → IsListed list (finding_of rule w)
listed_all rule ws k list whole each w stands differ =
    let at : want_at ws stands.0 ≡ w = get_or_default ws stands.0 no_want w stands.1 ∙ stands.2 in
    subst (λ (v : Want). IsListed list (finding_of rule v)) at (each stands.0 (omega (arith, stands.1, whole)) (subst (λ (v : Want). v.found ≢ v.wanted) (sym at) differ))

-- a finding that the rule has is listed
pub listed_unmet : (rule : ℕ) (ws : List Want) (list : List Finding) → ((w : Want) → Contains ws w → w.found ≢ w.wanted → IsListed list (finding_of rule w)) → (f : Finding) → IsUnmet rule (as_found f) (wants_in ws) → IsListed list f
listed_unmet rule ws list each f unmet =
    let from = map_cases want_in ws (broken.want f.place f.found f.wanted) unmet.2 in
    let same : f ≡ finding_of rule from.0 = λ i. record { rule = unmet.0 i; place = (from.2 i).place; found = (from.2 i).found; wanted = (from.2 i).wanted } in
    let own : (w : broken.Want) → ℕ = λ w. w.found in
    let asked : (w : broken.Want) → ℕ = λ w. w.wanted in
    subst (λ (g : Finding). IsListed list g) (sym same) (each from.0 from.1 (λ equal. unmet.1 (ap own from.2 ∙ equal ∙ sym (ap asked from.2))))

-- what holds where a result is Ok
pub ok_map : {X E : Type 0} (result : Result X E) (P Q : X → Type 0) → ((x : X) → P x → Q x) → IfOk result P → IfOk result Q
ok_map (Ok x) P Q from holds = from x holds
ok_map (Err e) P Q from holds = holds

-- a test tells that numbers are met, and so what these numbers say
pub told_by : (met : Bool) (wants : List broken.Want) (P : Type 0) → (AllMet wants → P) → (P → AllMet wants) → IsTrue met ↔ AllMet wants → IsTrue met ↔ P
told_by met wants P holds meets tells = (λ is. holds (tells.0 is), λ p. tells.1 (meets p))
