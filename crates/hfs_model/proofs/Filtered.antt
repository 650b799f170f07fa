-- Items that pass a test, in the words of std.
use Rattle.std.proofs.Common.{◌≡◌, Bool, true, false, List, [], ◌∷◌, ◌++◌, refl, ap}
use Rattle.std.specs.Prelude.{if◌then◌else◌}
use Rattle.std.specs.List.{filter}
use Rattle.hfs_model.specs.Sorted.{kept}

pub filter-kept : {X : Type 0} (test : X → Bool) (items : List X) → filter test items ≡ kept test items
filter-kept test [] = refl
filter-kept {X} test (x ∷ items) =
    elim (test x) as (λ b. filter_one b x items ≡ kept_one b x items) [ true ↦ ap (λ l. x ∷ l) (filter-kept test items) | false ↦ filter-kept test items ]
  where
    filter_one : Bool → X → List X → List X
    filter_one b x items = if b then x ∷ filter test items else filter test items

    kept_one : Bool → X → List X → List X
    kept_one b x items = (if b then x ∷ [] else []) ++ kept test items
