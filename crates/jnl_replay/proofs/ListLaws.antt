-- Where lists of runs have the bytes of a sector.
use Rattle.std.proofs.Common.{◌≡◌, ◌<◌, ◌≤◌, ◌+◌, ◌-◌, ℕ, zero, suc, Bool, true, false, List, [], ◌∷◌, ◌++◌, length, take, drop, get_or, cond, eqb, refl, sym, ◌∙◌, ap, arith}
use Rattle.std.specs.Prelude.{Option, None, Some}
use Rattle.std.proofs.Common.{append_assoc}
use Rattle.std.proofs.lemmas.List.{append-nil, get_or_default}
use Rattle.jnl_replay.specs.Runs.{or_else, place_in_runs, place_in_both, all_runs}
use Rattle.jnl_replay.specs.declared.runs.Run.{Run}
use Rattle.jnl_replay.proofs.RunLaws.{runs_append}

-- one list more
pub lists_more : (lists : List (List Run)) (runs : List Run) → all_runs (lists ++ runs ∷ []) ≡ all_runs lists ++ runs
unfolding all_runs
lists_more [] runs = append-nil runs
lists_more (l ∷ ls) runs = ap (λ (more : List Run). l ++ more) (lists_more ls runs) ∙ sym (append_assoc l (all_runs ls) runs)

-- runs that are put behind others
pub put_behind : (old new runs sorted : List Run) (q : ℕ) → new ≡ old ++ sorted → place_in_runs sorted q ≡ place_in_runs runs q → place_in_runs new q ≡ place_in_both old runs q
put_behind old new runs sorted q is same = ap (λ (l : List Run). place_in_runs l q) is ∙ runs_append old sorted q ∙ ap (λ (o : Option ℕ). or_else o (place_in_runs old q)) same

-- a later list has none, and what this one has
pub none_more : (lists : List (List Run)) (k q : ℕ) → k < length lists → place_in_runs (all_runs (drop (suc k) lists)) q ≡ None → place_in_runs (all_runs (drop k lists)) q ≡ place_in_runs (get_or lists k []) q
unfolding all_runs
none_more [] k q inside none = absurd (omega (arith, inside))
none_more (l ∷ ls) zero q inside none = runs_append l (all_runs ls) q ∙ ap (λ (o : Option ℕ). or_else o (place_in_runs l q)) none
none_more (l ∷ ls) (suc k) q inside none = none_more ls k q (omega (arith, inside)) none

-- what the later lists have stands before what the others have
pub some_behind : (lists : List (List Run)) (k q place : ℕ) → place_in_runs (all_runs (drop k lists)) q ≡ Some place → place_in_runs (all_runs lists) q ≡ Some place
unfolding all_runs
some_behind lists zero q place is = is
some_behind [] (suc k) q place is = is
some_behind (l ∷ ls) (suc k) q place is = runs_append l (all_runs ls) q ∙ ap (λ (o : Option ℕ). or_else o (place_in_runs l q)) (some_behind ls k q place is)

pub none_behind : (lists : List (List Run)) (n q : ℕ) → length lists ≡ n → place_in_runs (all_runs (drop n lists)) q ≡ None
unfolding all_runs
none_behind [] zero q is = refl
none_behind [] (suc n) q is = refl
none_behind (l ∷ ls) zero q is = absurd (omega (arith, is))
none_behind (l ∷ ls) (suc n) q is = none_behind ls n q (omega (arith, is))

put_over : (b : Bool) (place : ℕ) (own old : Option ℕ) → or_else (cond b (Some place) own) old ≡ cond b (Some place) (or_else own old)
put_over true place own old = refl
put_over false place own old = refl

-- one home more, behind lists and runs
pub home_over : (lists runs new : List Run) (sector place q : ℕ) → place_in_runs new q ≡ cond (eqb sector q) (Some place) (place_in_runs runs q) → place_in_both lists new q ≡ cond (eqb sector q) (Some place) (place_in_both lists runs q)
home_over lists runs new sector place q put = ap (λ (o : Option ℕ). or_else o (place_in_runs lists q)) put ∙ put_over (eqb sector q) place (place_in_runs runs q) (place_in_runs lists q)

-- and where the runs were put in order before it
pub home_alone : (lists runs behind new none : List Run) (sector place q : ℕ) → none ≡ [] → place_in_runs behind q ≡ place_in_both lists runs q → place_in_runs new q ≡ cond (eqb sector q) (Some place) (place_in_runs none q)
    → place_in_both behind new q ≡ cond (eqb sector q) (Some place) (place_in_both lists runs q)
home_alone lists runs behind new none sector place q empty behind_is put =
    home_over behind none new sector place q put ∙ ap (λ (o : Option ℕ). cond (eqb sector q) (Some place) o) (ap (λ (l : List Run). place_in_both behind l q) empty ∙ behind_is)

-- what is found in a list behind which none has anything
pub found_at : (lists : List (List Run)) (left q : ℕ) (list : List Run) (found : Option ℕ) → 0 < left → left ≤ length lists → place_in_runs (all_runs (drop left lists)) q ≡ None
    → list ≡ get_or lists (left - 1) list → found ≡ place_in_runs list q → place_in_runs (all_runs (drop (left - 1) lists)) q ≡ found
found_at lists left q list found some within none is was =
    let more : left ≡ suc (left - 1) = omega (arith, some) in
    let inside : left - 1 < length lists = omega (arith, some, within) in
    none_more lists (left - 1) q inside (ap (λ n. place_in_runs (all_runs (drop n lists)) q) (sym more) ∙ none)
    ∙ ap (λ (l : List Run). place_in_runs l q) (get_or_default lists (left - 1) [] list inside ∙ sym is) ∙ sym was
