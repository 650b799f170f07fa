use Rattle.std.proofs.Common.{◌≡◌, ℕ, List, ◌∷◌, [], length, get_or, sym, ap}
use Rattle.bench_catalog.proofs.calls.remove_entry.Goals as goal

pub returns-clause-file : goal.returns-clause-file
returns-clause-file c =
    let names = c.remove.ensures.same.names in
    let tree_is = c.tree-1.given.1 (sym (ap (λ (l : List ℕ). get_or l 0 0) names)) in
    rw tree_is c.remove.ensures.below.0.file

pub returns-clause-sectors : goal.returns-clause-sectors
returns-clause-sectors c =
    let names = c.remove.ensures.same.names in
    let space_is = c.space-1.given.1 (sym (ap (λ (l : List ℕ). get_or l 1 0) names)) in
    rw space_is c.remove.ensures.below.0.space.same.sectors
