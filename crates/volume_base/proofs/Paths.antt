-- Walks over the pairs of the catalog, step by step.
use Rattle.std.proofs.Common.{◌≡◌, ℕ, ◌+◌, ◌<◌, List, ◌∷◌, drop, length, get_or, sym, ◌∙◌, ap}
use Rattle.std.specs.Prelude.{Result, Ok}
use Rattle.std.proofs.lemmas.List.{drop_more}
use Rattle.btree_node.specs.Levels.{Pair}
use Rattle.hfs_language.specs.declared.refusal.Refusal.{Refusal}
use Rattle.hfs_model.specs.Step.{then_}
use Rattle.volume_base.specs.Reaching.{child_in, walk_in}
use Rattle.volume_base.specs.declared.reaching.Reached.{Reached}

-- a walk goes on from what the next name stands for
pub goes_on : (pairs others : List Pair) (at next : Reached) (name : List ℕ) (path : List (List ℕ)) (k : ℕ) (said : Result Reached Refusal) → others ≡ pairs → k < length path → name ≡ get_or path k name → said ≡ child_in others at name → said ≡ Ok next
    → walk_in pairs at (drop k path) ≡ walk_in pairs next (drop (k + 1) path)
goes_on pairs others at next name path k said same low is found ok =
    ap (walk_in pairs at) (drop_more path k name low ∙ ap (λ (n : List ℕ). n ∷ drop (k + 1) path) (sym is))
    ∙ ap (λ (r : Result Reached Refusal). then_ r (λ n. walk_in pairs n (drop (k + 1) path))) (ap (λ (p : List Pair). child_in p at name) (sym same) ∙ sym found ∙ ok)
