-- Lines that are counted.
use Rattle.std.proofs.Common.{◌≡◌, ◌≢◌, ◌≤◌, ◌<◌, ◌+◌, ◌-◌, ◌++◌, ◌∷◌, [], ℕ, List, Result, Err, inl, inr, length, length-append, refl, sym, ◌∙◌, ap, arith}
use Rattle.std.specs.Prelude.{IsErrOf}
use Rattle.std.proofs.lemmas.List.{append-nil}
use Rattle.hx_bytes.specs.declared.faults.Trouble.{Trouble}
use Rattle.hx_bytes.specs.declared.faults.Trouble.TheVariants as trouble
use Rattle.sector_disk.specs.Source.{Stream}
use Rattle.hfs_language.specs.Lines.{lines}
use Rattle.hfs_language.proofs.Lines.{lines-nil}
use Rattle.line_source.specs.declared.input.InputFault.{InputFault}
use Rattle.line_source.specs.declared.input.InputFault.TheVariants as input
use Rattle.line_source.specs.Input.{ahead, SplitsIntoLines, TakesLines}
use Rattle.hfs_serving.specs.Steps.{stop_of, stop_of_input}
use Rattle.hfs_serving.specs.declared.telling.Stop.{Stop}
use Rattle.hfs_serving.specs.declared.telling.Stop.TheVariants as stop
use Rattle.hfs_serving.proofs.Causes.{the_fault}

-- ---- which faults it isn't

no_stop : (t : Trouble) → stop_of t ≡ stop.TooMany → ⊥
no_stop trouble.Disk is = absurd (cc is)
no_stop trouble.Memory is = absurd (cc is)

no_input_stop : (t : InputFault) → stop_of_input t ≡ stop.TooMany → ⊥
no_input_stop input.Source is = absurd (cc is)
no_input_stop input.Memory is = absurd (cc is)

pub no_trouble : {U : Type 0} (e : Trouble) (f : Stop) (r : Result U Stop) → r ≡ Err f → f ≡ stop_of e → IsErrOf r stop.TooMany → ⊥
no_trouble e f r given same is = no_stop e (sym same ∙ the_fault r f stop.TooMany given is)

pub no_input : {U : Type 0} (e : InputFault) (f : Stop) (r : Result U Stop) → r ≡ Err f → f ≡ stop_of_input e → IsErrOf r stop.TooMany → ⊥
no_input e f r given same is = no_input_stop e (sym same ∙ the_fault r f stop.TooMany given is)

pub no_memory : {U : Type 0} (f : Stop) (r : Result U Stop) → r ≡ Err f → f ≡ stop.Memory → IsErrOf r stop.TooMany → ⊥
no_memory f r given same is = absurd (cc (sym same ∙ the_fault r f stop.TooMany given is))

pub too_many : {T U : Type 0} (e f : Stop) (r : Result U Stop) → r ≡ Err f → f ≡ e → IsErrOf r stop.TooMany → IsErrOf {T = T} {E = Stop} (Err e) stop.TooMany
too_many e f r given same is = ap Err (sym same ∙ the_fault r f stop.TooMany given is)

-- ---- how many lines there are

all_cut : (used left : List ℕ) (some : List (List ℕ)) → SplitsIntoLines used some left → left ≡ [] → lines (used ++ left) ≡ some
all_cut used left some (inl cut) none = cut left ∙ ap (λ (l : List (List ℕ)). some ++ l) (ap lines none ∙ lines-nil) ∙ append-nil some
all_cut used left some (inr cut) none = ap lines (ap (λ (l : List ℕ). used ++ l) none ∙ append-nil used) ∙ cut.1

front_of : (used left : List ℕ) (some : List (List ℕ)) → SplitsIntoLines used some left → (rest : List (List ℕ)) × (lines (used ++ left) ≡ some ++ rest) × (lines left ≢ [] → rest ≢ [])
front_of used left some (inl cut) = (lines left, cut left, λ more. more)
front_of used left some (inr cut) = ([], ap lines (ap (λ (l : List ℕ). used ++ l) cut.0 ∙ append-nil used) ∙ cut.1 ∙ sym (append-nil some), λ more none. more (ap lines cut.0 ∙ lines-nil))

longer : (l : List (List ℕ)) → l ≢ [] → 1 ≤ length l
longer [] some = absurd (some refl)
longer (x ∷ l) some = omega arith

module _ (taken : List ℕ) (source : Stream) (some : List (List ℕ)) (taken_new : List ℕ) (new : Stream) (takes : TakesLines taken source some taken_new new) where
  -- at the end they are all
  pub all_lines : ahead taken_new new ≡ [] → length (lines (ahead taken source)) ≡ length some
  all_lines none = ap (λ (l : List (List ℕ)). length l) (ap lines takes.bytes ∙ all_cut takes.used (ahead taken_new new) some takes.cut none)

  -- there are no fewer
  pub most_lines : length some ≤ length (lines (ahead taken source))
  most_lines =
      let front = front_of takes.used (ahead taken_new new) some takes.cut in
      let long = ap (λ (l : List (List ℕ)). length l) (ap lines takes.bytes ∙ front.1) in
      omega (arith, long, length-append some front.0)

  -- where there is one more, there are more
  pub more_lines : lines (ahead taken_new new) ≢ [] → length some < length (lines (ahead taken source))
  more_lines more =
      let front = front_of takes.used (ahead taken_new new) some takes.cut in
      let long = ap (λ (l : List (List ℕ)). length l) (ap lines takes.bytes ∙ front.1) in
      omega (arith, long, length-append some front.0, longer front.0 (front.2 more))

-- a line that is taken is one
pub one_line : (taken : List ℕ) (source : Stream) (text : List ℕ) (taken_new : List ℕ) (new : Stream) → TakesLines taken source (text ∷ []) taken_new new → lines (ahead taken source) ≢ []
one_line taken source text taken_new new takes none =
    let front = front_of takes.used (ahead taken_new new) (text ∷ []) takes.cut in
    no_cons (text) front.0 (sym (ap lines takes.bytes ∙ front.1) ∙ none)
  where
    no_cons : (x : List ℕ) (l : List (List ℕ)) → (x ∷ []) ++ l ≡ [] → ⊥
    no_cons x l is = absurd (cc is)

pub counted : (k count left : ℕ) → count + left ≡ 4294967295 → k ≤ left → (count + k) + (left - k) ≡ 4294967295
counted k count left all few = omega (arith, all, few)
