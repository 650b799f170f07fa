-- A path that isn't the root's is its names, each behind its slash.
use Rattle.std.proofs.Common.{◌≡◌, ◌++◌, ◌∷◌, [], ℕ, List, false, true, length, map, refl, sym, ap, arith}
use Rattle.std.specs.Prelude.{◌==◌}
use Rattle.std.proofs.lemmas.Bool.{eqb-true}
use Rattle.std.proofs.lemmas.List.{append-nil}
use Rattle.std.specs.List.{flat_map, join_with_byte}
use Rattle.hfs_language.specs.Text.{name_text}
use Rattle.hfs_language.specs.Written.{path_text}
use Rattle.open_files.specs.Lines.{slashed}

each_slashed : (name : List ℕ) (path : List (List ℕ)) → path_text (name ∷ path) ≡ flat_map slashed (name ∷ path)
each_slashed name [] = sym (append-nil (slashed name))
each_slashed name (next ∷ path) = ap (λ (l : List ℕ). slashed name ++ l) (each_slashed next path)

pub path_slashed : (path : List (List ℕ)) → (length path == 0) ≡ false → path_text path ≡ flat_map slashed path
path_slashed [] some = absurd (cc some)
path_slashed (name ∷ path) some = each_slashed name path

pub root_slashed : (path : List (List ℕ)) → (length path == 0) ≡ true → path_text path ≡ 47 ∷ []
root_slashed [] none = refl
root_slashed (name ∷ path) none = absurd (omega (arith, eqb-true (length (name ∷ path)) 0 none))
