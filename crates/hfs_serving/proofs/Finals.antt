-- Runs that their source ended.
use Rattle.std.proofs.Common.{◌≡◌, ◌+◌, ◌++◌, [], ℕ, List, IsTrue, length, length-drop, take, drop, Result, Err, refl, sym, ◌∙◌, ap, subst, arith, append_assoc}
use Rattle.std.specs.Prelude.{IsErrOf, Some}
use Rattle.std.proofs.lemmas.List.{length-map, length-take-le, take_all}
use Rattle.sector_disk.specs.Source.{Stream}
use Rattle.hfs_language.specs.Language.{most_bytes}
use Rattle.hfs_language.specs.Lines.{HasNoNewline}
use Rattle.hfs_serving.specs.Ending.{EndsTaking, IsFinal}
use Rattle.hfs_serving.specs.Steps.{stop_of_input}
use Rattle.hfs_serving.specs.Taking.{HasTaken}
use Rattle.line_source.specs.declared.input.InputFault.{InputFault}
use Rattle.line_source.specs.declared.input.InputFault.TheVariants as input
use Rattle.hfs_serving.proofs.Causes.{the_fault}
use Rattle.hfs_serving.specs.declared.telling.Stop.{Stop}
use Rattle.hfs_serving.specs.declared.telling.Stop.TheVariants as stop
use Rattle.hfs_serving.proofs.Pending.{On}
use Rattle.line_source.specs.Input.{ahead, SplitsIntoLines}
use Rattle.hfs_serving.proofs.WholeLines.{cuts_front}

source_input : (e : InputFault) → stop_of_input e ≡ stop.Source → e ≡ input.Source
source_input input.Source is = refl
source_input input.Memory is = absurd (cc is)

pub source_is : {U : Type 0} (e : InputFault) (f : Stop) (r : Result U Stop) → r ≡ Err f → f ≡ stop_of_input e → IsErrOf r stop.Source → e ≡ input.Source
source_is e f r given same is = source_input e (sym same ∙ the_fault r f stop.Source given is)

-- an end that is neither of the source's
pub no_final : (e : Stop) → (◌≡◌ {A = Result ℕ Stop} (Err e) (Err stop.Source) → ⊥) → (◌≡◌ {A = Result ℕ Stop} (Err e) (Err stop.TooMany) → ⊥) → IsFinal (Some e) → ⊥
no_final stop.Source no_source no_many final = no_source refl
no_final stop.TooMany no_source no_many final = no_many refl
no_final stop.Disk no_source no_many final = final
no_final stop.Memory no_source no_many final = final
no_final stop.Sink no_source no_many final = final
no_final stop.Steps no_source no_many final = final

module _ (taken : List ℕ) (source : Stream) (pending : List (List ℕ)) (taken_now : List ℕ) (now : Stream) (Q : ℕ → List (List ℕ) → Type 0) (on : On taken source pending taken_now now Q) where
  -- where none is in memory, all are served
  all_served : pending ≡ [] → on.0.count ≡ length on.0.texts
  all_served none =
      let long = ap (λ (l : List (List ℕ)). length l) (sym on.0.pending_are ∙ none) in
      omega (arith, on.0.inside, long, length-map (drop on.0.count on.0.texts) (take (most_bytes + 1)), length-drop on.0.count on.0.texts)

  served_are : pending ≡ [] → take on.0.count on.0.texts ≡ on.0.texts
  served_are none = ap (λ (n : ℕ). take n on.0.texts) (all_served none) ∙ take_all (length on.0.texts) on.0.texts (omega arith)

  abbrev served : List (List ℕ)
  served = take on.0.count on.0.texts

  -- lines that were taken, some of which are served
  front_taken : (new : Stream) → IsTrue source.tells → (gone : List ℕ) × (ahead taken_now now ≡ gone ++ new.left) → HasTaken taken source served new
  front_taken new tells away =
      let takes = on.0.takes tells in
      let front = cuts_front on.0.count takes.used on.0.texts (away.0 ++ new.left) (subst (λ (l : List ℕ). SplitsIntoLines takes.used on.0.texts l) away.1 takes.cut) in
      let behind = sym (append_assoc front.later away.0 new.left) in
      record {
        used = front.first;
        rest = front.later ++ away.0;
        bytes =
            takes.bytes ∙ ap (λ (l : List ℕ). takes.used ++ l) away.1 ∙ ap (λ (l : List ℕ). l ++ (away.0 ++ new.left)) front.bytes ∙ append_assoc front.first front.later (away.0 ++ new.left)
            ∙ ap (λ (l : List ℕ). front.first ++ l) behind;
        cut = subst (λ (l : List ℕ). SplitsIntoLines front.first served l) behind front.cut;
      }

  -- the source ended it
  pub on_final : (new : Stream) (e : Stop) → (IsTrue source.tells → (gone : List ℕ) × (ahead taken_now now ≡ gone ++ new.left))
      → (e ≡ stop.Source → IsTrue source.tells → (pending ≡ []) × (begun : List ℕ) × HasNoNewline begun × (ahead taken_now now ≡ begun ++ new.left))
      → (e ≡ stop.TooMany → on.0.count ≡ 4294967295) → IsFinal (Some e)
      → (IsTrue source.tells → HasTaken taken source served new × EndsTaking (Some e) taken source served new) × (Some e ≡ Some stop.TooMany → length served ≡ 4294967295)
  on_final new stop.Source gone begun many final = (
    λ tells.
        let away = begun refl tells in
        let takes = on.0.takes tells in
        let all = served_are away.0 in (
          front_taken new tells (away.1, away.3),
          record {
            used = takes.used;
            begun = away.1;
            bytes = takes.bytes ∙ ap (λ (l : List ℕ). takes.used ++ l) away.3 ∙ sym (append_assoc takes.used away.1 new.left);
            whole = subst (λ (l : List (List ℕ)). SplitsIntoLines takes.used l (away.1 ++ new.left)) (sym all) (subst (λ (l : List ℕ). SplitsIntoLines takes.used on.0.texts l) away.3 takes.cut);
            no_newline = away.2;
          },
        ),
    λ same. absurd (cc same),
  )
  on_final new stop.TooMany gone begun many final =
      let long : length served ≡ 4294967295 = omega (arith, length-take-le on.0.count on.0.texts on.0.inside, many refl) in
      (λ tells. (front_taken new tells (gone tells), long), λ same. long)
  on_final new stop.Disk gone begun many final = absurd final
  on_final new stop.Memory gone begun many final = absurd final
  on_final new stop.Sink gone begun many final = absurd final
  on_final new stop.Steps gone begun many final = absurd final
