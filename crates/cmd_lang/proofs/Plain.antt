-- Bytes that stand for themselves are their own text.
use Rattle.std.proofs.Common.{◌≡◌, ◌++◌, ℕ, true, List, [], ◌∷◌, Result, Ok, Err, refl, sym, ap, ◌∙◌}
use Rattle.std.specs.Prelude.{OnOk, is_ok, if◌then◌else◌}
use Rattle.std.specs.List.{flat_map, list_all}
use Rattle.std.proofs.lemmas.Bool.{and_parts, cond-true}
use Rattle.hfs_language.specs.Text.{is_plain, byte_text}

pub plain_spelled : (value : List ℕ) → list_all is_plain value ≡ true → flat_map byte_text value ≡ value
plain_spelled [] all = refl
plain_spelled (b ∷ value) all =
    let parts = and_parts (is_plain b) (list_all is_plain value) all in
    let first : byte_text b ≡ b ∷ [] = cond-true _ _ _ parts.0 in
    rw (first, plain_spelled value parts.1) refl

-- such bytes were appended as they are
pub plain_appended : {T E : Type 0} (result : Result T E) (old new value : List ℕ) → list_all is_plain value ≡ true → new ≡ (if is_ok result then old ++ value else old) → OnOk result (new ≡ old ++ flat_map byte_text value)
plain_appended (Ok x) old new value all is = is ∙ ap (λ (l : List ℕ). old ++ l) (sym (plain_spelled value all))
plain_appended (Err e) old new value all is = tt
