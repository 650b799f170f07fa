-- Paths below others, and the last names of paths.
use Rattle.std.proofs.Common.{◌≡◌, ◌≤◌, ◌<◌, ℕ, Bool, true, false, List, [], ◌∷◌, ◌++◌, length, suc, refl, ap, arith, ◌∙◌}
use Rattle.std.proofs.Math.Bool.{and-false}
use Rattle.std.specs.Prelude.{◌&&◌}
use Rattle.std.specs.Str.{bytes_eq}
use Rattle.hfs_model.specs.declared.plain.PlainTree.{PlainTree}
use Rattle.hfs_model.specs.Step.{is_below, front, last_name, place, place_in, then_, walk, root_entry}

-- a path that isn't longer isn't below
pub not_longer : (path top : List (List ℕ)) → length path ≤ length top → is_below path top ≡ false
not_longer [] top short = refl
not_longer (name ∷ path) [] short = absurd (omega arith)
not_longer (name ∷ path) (other ∷ top) short = ap (λ b. bytes_eq name other && b) (not_longer path top (omega arith)) ∙ and-false (bytes_eq name other)

pub front-last : (above : List (List ℕ)) (name : List ℕ) → front (above ++ name ∷ []) ≡ above
front-last [] name = refl
front-last (first ∷ []) name = refl
front-last (first ∷ next ∷ above) name = ap (λ l. first ∷ l) (front-last (next ∷ above) name)

pub last_name-last : (above : List (List ℕ)) (name : List ℕ) → last_name (above ++ name ∷ []) ≡ name
last_name-last [] name = refl
last_name-last (first ∷ []) name = refl
last_name-last (first ∷ next ∷ above) name = last_name-last (next ∷ above) name

pub below_none : (path : List (List ℕ)) → 0 < length path → is_below path [] ≡ true
below_none [] long = absurd (omega arith)
below_none (name ∷ path) long = refl

-- the place of a name behind others is found from what the others reach
pub place-last : (tree : PlainTree) (path above : List (List ℕ)) (name : List ℕ) → path ≡ above ++ name ∷ [] → place tree path ≡ then_ (walk tree root_entry above) (place_in tree name)
place-last tree path above name is =
    ap (λ p. place tree p) is ∙ (λ i. then_ (walk tree root_entry (front-last above name i)) (place_in tree (last_name-last above name i)))
