use Rattle.std.proofs.Common.{◌≡◌, ℕ, List, ◌∷◌, [], get_or, sym, ap}
use Rattle.tree_store_tests.proofs.asking.remove_in.Goals as goal

pub returns-clause-same : goal.returns-clause-same
returns-clause-same g c =
    let space_is = c.space-1.given.1 (sym (ap (λ (l : List ℕ). get_or l 1 0) c.remove.ensures.does.same.names)) in
    rw space_is c.remove.ensures.below.0.space.same

pub returns-clause-below : goal.returns-clause-below
returns-clause-below g c =
    let space_is = c.space-1.given.1 (sym (ap (λ (l : List ℕ). get_or l 1 0) c.remove.ensures.does.same.names)) in
    rw space_is c.remove.ensures.below.1
