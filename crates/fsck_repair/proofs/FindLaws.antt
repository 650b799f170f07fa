-- The change of a sector among changes in the order of their sectors.
use Rattle.std.proofs.Common.{◌≡◌, ◌≢◌, ◌<◌, ◌≤◌, ℕ, zero, suc, true, false, nat_lt, if◌then◌else◌, List, [], ◌∷◌, length, get_or, inl, inr, refl, sym, ◌∙◌, ap, arith}
use Rattle.std.specs.List.Sorted.{IsNonDecreasingBy, IsPartitionPoint}
use Rattle.std.proofs.lemmas.Bool.{cases_lt, eq-eqb, ne_eqb}
use Rattle.fsck_core.proofs.RowLaws.{below_true, below_false}
use Rattle.fsck_repair.specs.Overlay.{changed}
use Rattle.fsck_repair.specs.declared.mend.Change.{Change}

-- no change is of this sector
none_changed : (changes : List Change) (at : ℕ) (d : Change) → ((i : ℕ) → i < length changes → (get_or changes i d).at ≢ at) → (bytes : List ℕ) → changed changes at bytes ≡ bytes
none_changed [] at d none bytes = refl
none_changed (change ∷ changes) at d none bytes =
    ap (λ b. if b then change.bytes else changed changes at bytes) (ne_eqb change.at at (none 0 (omega arith))) ∙ none_changed changes at d (λ i inside. none (suc i) (omega (arith, inside))) bytes

-- the first of this sector is here
here_changed : (changes : List Change) (at place : ℕ) (d : Change) → place < length changes → ((i : ℕ) → i < place → (get_or changes i d).at ≢ at) → (get_or changes place d).at ≡ at → (bytes : List ℕ) → (get_or changes place d).bytes ≡ changed changes at bytes
here_changed [] at place d inside before is bytes = absurd (omega (arith, inside))
here_changed (change ∷ changes) at zero d inside before is bytes = sym (ap (λ b. if b then change.bytes else changed changes at bytes) (eq-eqb change.at at is))
here_changed (change ∷ changes) at (suc place) d inside before is bytes =
    here_changed changes at place d (omega (arith, inside)) (λ i less. before (suc i) (omega (arith, less))) is bytes
    ∙ sym (ap (λ b. if b then change.bytes else changed changes at bytes) (ne_eqb change.at at (before 0 (omega arith))))

module _ (changes : List Change) (at place : ℕ) (d : Change) (order : IsNonDecreasingBy (λ (c : Change). c.at) changes)
    (point : IsPartitionPoint (λ (c : Change). nat_lt c.at at ≡ true) (λ (c : Change). nat_lt c.at at ≡ false) changes place) (most : place ≤ length changes) where
  before : (i : ℕ) → i < place → (get_or changes i d).at ≢ at
  before i less same = let low = below_true (get_or changes i d).at at (point.0 i d (omega (arith, less, most)) less) in absurd (omega (arith, low, same))

  pub found_here : place < length changes → (get_or changes place d).at ≡ at → (bytes : List ℕ) → (get_or changes place d).bytes ≡ changed changes at bytes
  found_here inside is = here_changed changes at place d inside before is

  pub none_behind : length changes ≤ place → (bytes : List ℕ) → changed changes at bytes ≡ bytes
  none_behind past = none_changed changes at d (λ i inside. before i (omega (arith, inside, past)))

  pub none_there : place < length changes → (get_or changes place d).at ≢ at → (bytes : List ℕ) → changed changes at bytes ≡ bytes
  none_there inside other = none_changed changes at d each
    where
      from : at ≤ (get_or changes place d).at
      from = below_false (get_or changes place d).at at (point.1 place d (omega arith) inside)

      each : (i : ℕ) → i < length changes → (get_or changes i d).at ≢ at
      each i within same = elim (cases_lt i place) [
        | inl less ↦ before i less same
        | inr past ↦ let up : (get_or changes place d).at ≤ (get_or changes i d).at = order place i d past within in other (omega (arith, up, from, same))
      ]
