-- Words of a line.
use Rattle.std.specs.Prelude.{◌∷◌, [], ℕ, List}

-- a path, of which the root's word may be empty
abbrev pub path_text : List ℕ → List ℕ
path_text [] = 47 ∷ []
path_text (first ∷ rest) = first ∷ rest
