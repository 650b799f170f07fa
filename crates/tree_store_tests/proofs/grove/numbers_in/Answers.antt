use Rattle.std.proofs.Common.{◌≡◌, ℕ, List, get_or, sym, ap}
use Rattle.tree_store_tests.proofs.grove.numbers_in.Goals as goal

pub returns : goal.returns
returns c =
    let names = c.numbers.ensures.same.names in
    let store_is = c.store-1.given.1 (sym (ap (λ (l : List ℕ). get_or l 0 0) names)) in
    rw store_is c.numbers.ensures.below.plan
