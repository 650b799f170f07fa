use Rattle.std.proofs.Common.{◌≡◌, ◌<◌, ◌≤◌, ◌+◌, ℕ, List, Option, Some, None, slice_get, length, get_or, ◌∙◌, arith, subst, sym, ⊎_elim}
use Rattle.std.proofs.lemmas.Bool.{cases_lt}
use Rattle.std.proofs.lemmas.Option.{slice_get_within, get_or_from_slice_get, slice_get-get_or}
use Rattle.fork_map.specs.Blocks.{fork_sectors}
use Rattle.tree_kit.proofs.plot.lies_below.Goals as goal

is_place : (sectors : List ℕ) (p : ℕ) → p < length sectors → ◌≡◌ {A = Option ℕ} None (slice_get sectors p) → ⊥
is_place sectors p inside none = let no : ◌≡◌ {A = Option ℕ} None (Some (get_or sectors p 0)) = none ∙ slice_get-get_or sectors p 0 inside in absurd (cc no)

ended : (sectors : List ℕ) (n : ℕ) → ◌≡◌ {A = Option ℕ} None (slice_get sectors n) → length sectors ≤ n
ended sectors n none = ⊎_elim (λ (lt : n < length sectors). absurd (is_place sectors n lt none)) (λ (le : length sectors ≤ n). le) (cases_lt n (length sectors))

pub returns-in-None : goal.returns-in-None
returns-in-None c = λ enough k lt. c.loop-n.invariant.each k (omega (arith, lt, ended (fork_sectors c.args.fork.now c.args.per_block) c.loop-n.n c.in-None.ensures))

pub loop-n-preserved : goal.loop-n-preserved
loop-n-preserved c =
    let sectors : List ℕ = fork_sectors c.args.fork.now c.args.per_block in
    let here : slice_get sectors c.loop-n.n ≡ Some c.in-Some.at = sym c.in-Some.ensures in
    let inside : c.loop-n.n < length sectors = slice_get_within sectors c.loop-n.n c.in-Some.at here in
    record {
      size = omega arith;
      each = λ k lt. ⊎_elim
          (λ (earlier : k < c.loop-n.n). c.loop-n.invariant.each k earlier)
          (λ (now : c.loop-n.n ≤ k). let same : k ≡ c.loop-n.n = omega arith in
          subst (λ j. get_or sectors j 0 < c.args.sectors) (sym same) (subst (λ s. s < c.args.sectors) (sym (get_or_from_slice_get sectors c.loop-n.n c.in-Some.at 0 here)) (omega arith)))
          (cases_lt k c.loop-n.n);
    }
