-- Lines of a batch before one that asks that all be made durable.
use Rattle.std.proofs.Common.{◌≡◌, ◌≤◌, ◌<◌, ◌+◌, ◌++◌, ◌∷◌, ◌↔◌, [], zero, suc, ⊎_elim, Bool, false, ℕ, List, IsTrue, take, subst, arith}
use Rattle.std.proofs.lemmas.Bool.{cases_lt}
use Rattle.std.proofs.lemmas.List.Elements.{All-nil, All-push}
use Rattle.hfs_serving.specs.Speaking.{HasNoEnd}

module _ (ends : List ℕ → Type 0) where
  pub no_end_yet : (lines : List (List ℕ)) (front : ℕ) → front ≤ 0 → HasNoEnd ends front lines
  no_end_yet lines zero few = All-nil (λ line. ends line → ⊥)
  no_end_yet lines (suc front) few = absurd (omega (arith, few))

  -- a line more, that isn't one
  pub no_end_more : (lines : List (List ℕ)) (at : ℕ) (line : List ℕ) → take at lines ++ line ∷ [] ≡ take (at + 1) lines → (end : Bool) → IsTrue end ↔ ends line → end ≡ false
      → ((front : ℕ) → front ≤ at → HasNoEnd ends front lines) → (front : ℕ) → front ≤ at + 1 → HasNoEnd ends front lines
  no_end_more lines at line next end test isnt before front few = ⊎_elim
      (λ (all : at < front).
      let is : at + 1 ≡ front = omega (arith, all, few) in
      subst (λ (n : ℕ). HasNoEnd ends n lines) is (subst (λ (l : List (List ℕ)). Rattle.std.specs.Prelude.All (λ line. ends line → ⊥) l) next
      (All-push (λ line. ends line → ⊥) (take at lines) line (before at (omega arith)) (λ same. absurd (cc (test.1 same, isnt))))))
      (λ (some : front ≤ at). before front some)
      (cases_lt at front)
