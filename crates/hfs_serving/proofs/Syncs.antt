-- A line that ends in a value is no `sync`.
use Rattle.std.proofs.Common.{◌≡◌, ◌==◌, ◌++◌, ◌∷◌, ◌↔◌, ◌∙◌, ◌||◌, [], ℕ, Bool, List, true, false, IsTrue, refl, sym, ap}
use Rattle.std.specs.List.{list_any}
use Rattle.hfs_language.specs.Text.{value_text}
use Rattle.hfs_serving.specs.Going.{sync_line}

-- `=` stands among the bytes
abbrev has_sign : List ℕ → Bool
has_sign bytes = list_any (λ byte. byte == 61) bytes

or_true : (a b : Bool) → b ≡ true → (a || b) ≡ true
or_true true b is = refl
or_true false b is = is

sign_there : (front rest : List ℕ) → has_sign (front ++ 61 ∷ rest) ≡ true
sign_there [] rest = refl
sign_there (byte ∷ front) rest = or_true (byte == 61) _ (sign_there front rest)

none_in_sync : has_sign sync_line ≡ false
none_in_sync = refl

no_sync : (head rest : List ℕ) → head ++ 61 ∷ rest ≡ sync_line → ⊥
no_sync head rest is =
    let both : true ≡ false = sym (sign_there head rest) ∙ ap has_sign is ∙ none_in_sync in
    absurd (cc both)

pub valued_is_no_sync : (line head value : List ℕ) → line ≡ head ++ value_text value → IsTrue false ↔ (line ≡ sync_line)
valued_is_no_sync line head value is = (λ not. absurd (cc not), λ same. absurd (no_sync head _ (sym is ∙ same)))
