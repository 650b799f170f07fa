-- A text is cut at a byte, and joined again.
use Rattle.std.proofs.Common.{◌≡◌, ℕ, true, false, ◌==◌, List, [], ◌∷◌, All, refl, ap, ◌∙◌, arith}
use Rattle.std.specs.List.{list_any, slice_split, onto_first, join_with_byte}
use Rattle.std.proofs.lemmas.Bool.{cond_both, or_parts, or_from}
use Rattle.std.proofs.lemmas.Bool.Decides.{nat_tests}
use Rattle.std.proofs.lemmas.List.Elements.{All-nil, All-cons}
use Rattle.std.proofs.lemmas.List.Splits.{slice_split_none, slice_split_at}

-- none of the texts has the byte in it
abbrev pub HaveNo : ℕ → List (List ℕ) → Type 0
HaveNo c [] = Unit {0}
HaveNo c (text ∷ texts) = (list_any (λ b. b == c) text ≡ false) × HaveNo c texts

none_first : (c x : ℕ) (texts : List (List ℕ)) → (x == c) ≡ false → HaveNo c texts → HaveNo c (onto_first x texts)
none_first c x [] other none = (or_from _ _ other refl, tt)
none_first c x (text ∷ texts) other none = (or_from _ _ other none.0, none.1)

-- the parts of a cut text don't have it
pub parts_have_none : (c : ℕ) (text : List ℕ) → HaveNo c (slice_split (λ b. b == c) text)
parts_have_none c [] = (refl, tt)
parts_have_none c (x ∷ text) =
    cond_both (x == c) ([] ∷ slice_split (λ b. b == c) text) (onto_first x (slice_split (λ b. b == c) text)) (HaveNo c)
    (λ _. (refl, parts_have_none c text))
    (λ other. none_first c x (slice_split (λ b. b == c) text) other (parts_have_none c text))

all_other : (c : ℕ) (text : List ℕ) → list_any (λ b. b == c) text ≡ false → All (λ x. (x == c) ≡ false) text
all_other c [] none = All-nil (λ x. (x == c) ≡ false)
all_other c (x ∷ text) none =
    let parts : ((x == c) ≡ false) × (list_any (λ b. b == c) text ≡ false) = or_parts _ _ none in
    All-cons (λ x. (x == c) ≡ false) x text parts.0 (all_other c text parts.1)

same_byte : (c : ℕ) → (c == c) ≡ true
same_byte c = grind (arith, nat_tests)

-- texts that don't have it are cut apart again
pub split_joined : (c : ℕ) (text : List ℕ) (texts : List (List ℕ)) → HaveNo c (text ∷ texts) → slice_split (λ b. b == c) (join_with_byte c (text ∷ texts)) ≡ text ∷ texts
split_joined c text [] none = slice_split_none (λ b. b == c) text (all_other c text none.0)
split_joined c text (next ∷ texts) none =
    slice_split_at (λ b. b == c) text c (join_with_byte c (next ∷ texts)) (all_other c text none.0) (same_byte c) ∙ ap (λ x. text ∷ x) (split_joined c next texts none.1)
