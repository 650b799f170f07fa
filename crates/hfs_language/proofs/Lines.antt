-- Bytes that are cut into lines piece by piece: what has come of a line so far is `part`, which has no newline.
use Rattle.std.proofs.Common.{◌≡◌, ℕ, List, [], ◌∷◌, ◌++◌, refl, ◌∙◌, ap, arith}
use Rattle.std.proofs.lemmas.List.Elements.{All-nil, All-push, All-head, All-tail}
use Rattle.std.proofs.lemmas.Bool.Decides.{nat_tests}
use Rattle.hfs_language.specs.Lines.{lines, with_front, HasNoNewline}

-- at the end of the bytes nothing is left
pub lines-nil : lines [] ≡ []
unfolding lines
lines-nil = refl

lines-newline : (rest : List ℕ) → lines (10 ∷ rest) ≡ [] ∷ lines rest
unfolding lines
lines-newline rest = refl

lines-byte : (byte : ℕ) (rest : List ℕ) → (byte ≡ 10 → ⊥) → lines (byte ∷ rest) ≡ with_front byte (lines rest)
unfolding lines
lines-byte byte rest other = grind (arith, nat_tests)

-- no byte yet
pub HasNoNewline-nil : HasNoNewline []
HasNoNewline-nil = All-nil (λ byte. byte ≡ 10 → ⊥)

-- one byte more, that isn't a newline
pub HasNoNewline-push : (part : List ℕ) (byte : ℕ) → HasNoNewline part → (byte ≡ 10 → ⊥) → HasNoNewline (part ++ byte ∷ [])
HasNoNewline-push part byte none other = All-push (λ b. b ≡ 10 → ⊥) part byte none other

-- a newline ends the line
pub lines_ended : (part rest : List ℕ) → HasNoNewline part → lines (part ++ 10 ∷ rest) ≡ part ∷ lines rest
lines_ended [] rest none = lines-newline rest
lines_ended (byte ∷ part) rest none =
    lines-byte byte (part ++ 10 ∷ rest) (All-head (λ b. b ≡ 10 → ⊥) byte part none)
    ∙ ap (with_front byte) (lines_ended part rest (All-tail (λ b. b ≡ 10 → ⊥) byte part none))

-- so does the end of the bytes, where something of a line has come
pub lines_last : (byte : ℕ) (part : List ℕ) → HasNoNewline (byte ∷ part) → lines (byte ∷ part) ≡ (byte ∷ part) ∷ []
lines_last byte [] none = lines-byte byte [] (All-head (λ b. b ≡ 10 → ⊥) byte [] none) ∙ ap (with_front byte) lines-nil
lines_last byte (next ∷ part) none =
    lines-byte byte (next ∷ part) (All-head (λ b. b ≡ 10 → ⊥) byte (next ∷ part) none)
    ∙ ap (with_front byte) (lines_last next part (All-tail (λ b. b ≡ 10 → ⊥) byte (next ∷ part) none))
