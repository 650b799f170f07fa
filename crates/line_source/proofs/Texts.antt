-- Newlines and lengths of texts, and of those of values.
use Rattle.std.proofs.Common.{◌≡◌, ◌==◌, ◌≤◌, ◌<◌, ◌+◌, ◌*◌, ◌/◌, ◌%◌, ◌++◌, ◌∷◌, ◌||◌, [], ℕ, Bool, true, false, List, length, take, refl, sym, ◌∙◌, ap, arith, length-append}
use Rattle.std.specs.Fmt.{digit_glyph}
use Rattle.std.specs.List.{flat_map}
use Rattle.std.proofs.lemmas.Bool.{cond_both}
use Rattle.std.proofs.lemmas.Bool.Decides.{nat_tests}
use Rattle.std.proofs.lemmas.List.{take_all}
use Rattle.std.proofs.lemmas.List.Elements.{All-nil, All-cons}
use Rattle.hfs_language.specs.Lines.{HasNoNewline}
use Rattle.hfs_language.specs.Text.{is_plain, byte_text, value_text}
use Rattle.line_source.specs.Batch.{has_newline}
use Rattle.line_source.specs.Input.{IsLine}

-- ---- newlines

or_assoc : (a b c : Bool) → (a || (b || c)) ≡ ((a || b) || c)
or_assoc true b c = refl
or_assoc false b c = refl

or_false : (a : Bool) → (a || false) ≡ a
or_false true = refl
or_false false = refl

both_false : (a b : Bool) → a ≡ false → b ≡ false → (a || b) ≡ false
both_false a b one other = ap (λ (t : Bool). t || b) one ∙ other

neither : (a b : Bool) → (a || b) ≡ false → (a ≡ false) × (b ≡ false)
neither true b is = absurd (cc is)
neither false b is = (refl, is)

or_true : (a b : Bool) → b ≡ true → (a || b) ≡ true
or_true true b is = refl
or_true false b is = is

pub newline_both : (xs ys : List ℕ) → has_newline (xs ++ ys) ≡ (has_newline xs || has_newline ys)
newline_both [] ys = refl
newline_both (x ∷ xs) ys = ap (λ (b : Bool). (x == 10) || b) (newline_both xs ys) ∙ or_assoc (x == 10) (has_newline xs) (has_newline ys)

pub newline_behind : (front rest : List ℕ) → has_newline (front ++ 10 ∷ rest) ≡ true
newline_behind [] rest = refl
newline_behind (byte ∷ front) rest = or_true (byte == 10) _ (newline_behind front rest)

pub none_there : (bytes : List ℕ) → has_newline bytes ≡ false → HasNoNewline bytes
none_there [] none = All-nil (λ b. b ≡ 10 → ⊥)
none_there (byte ∷ bytes) none =
    let parts : ((byte == 10) ≡ false) × (has_newline bytes ≡ false) = neither (byte == 10) (has_newline bytes) none in
    All-cons (λ b. b ≡ 10 → ⊥) byte bytes (other byte parts.0) (none_there bytes parts.1)
  where
    other : (byte : ℕ) → (byte == 10) ≡ false → byte ≡ 10 → ⊥
    other byte isnt is = absurd (cc (sym isnt ∙ ap (λ (b : ℕ). b == 10) is))

-- ---- values

one_none : (b : ℕ) → (b == 10) ≡ false → has_newline (b ∷ []) ≡ false
one_none b isnt = both_false (b == 10) false isnt refl

three_none : (a b c : ℕ) → (a == 10) ≡ false → (b == 10) ≡ false → (c == 10) ≡ false → has_newline (a ∷ b ∷ c ∷ []) ≡ false
three_none a b c one two three = both_false (a == 10) _ one (both_false (b == 10) _ two (one_none c three))

digit_none : (d : ℕ) → d < 16 → (digit_glyph true d == 10) ≡ false
digit_none d small = grind (arith, nat_tests)

byte_none : (b : ℕ) → has_newline (byte_text b) ≡ false
byte_none b =
    cond_both (is_plain b) (b ∷ []) (37 ∷ digit_glyph true (b / 16 % 16) ∷ digit_glyph true (b % 16) ∷ []) (λ (l : List ℕ). has_newline l ≡ false)
    (λ plain. one_none b (grind (arith, nat_tests)))
    (λ _. three_none 37 (digit_glyph true (b / 16 % 16)) (digit_glyph true (b % 16)) refl (digit_none (b / 16 % 16) (omega arith)) (digit_none (b % 16) (omega arith)))

bytes_none : (value : List ℕ) → has_newline (flat_map byte_text value) ≡ false
bytes_none [] = refl
bytes_none (b ∷ value) = newline_both (byte_text b) (flat_map byte_text value) ∙ both_false (has_newline (byte_text b)) (has_newline (flat_map byte_text value)) (byte_none b) (bytes_none value)

value_none : (value : List ℕ) → has_newline (value_text value) ≡ false
value_none value = both_false (61 == 10) (has_newline (flat_map byte_text value)) refl (bytes_none value)

-- a value brings no newline
pub newline_in_head : (head value : List ℕ) → has_newline head ≡ has_newline (head ++ value_text value)
newline_in_head head value = sym (newline_both head (value_text value) ∙ ap (λ (b : Bool). has_newline head || b) (value_none value) ∙ or_false (has_newline head))

-- ---- lengths

byte_short : (b : ℕ) → length (byte_text b) ≤ 3
byte_short b =
    cond_both (is_plain b) (b ∷ []) (37 ∷ digit_glyph true (b / 16 % 16) ∷ digit_glyph true (b % 16) ∷ []) (λ (l : List ℕ). length l ≤ 3) (λ _. omega arith) (λ _. omega arith)

bytes_short : (value : List ℕ) → length (flat_map byte_text value) ≤ 3 * length value
bytes_short [] = omega arith
bytes_short (b ∷ value) = omega (arith, byte_short b, bytes_short value, length-append (byte_text b) (flat_map byte_text value))

pub valued_short : (head value : List ℕ) → length (head ++ value_text value) ≤ length head + 1 + 3 * length value
valued_short head value = omega (arith, bytes_short value, length-append head (value_text value))

-- ---- what is held of a line

pub held_whole : (limit most : ℕ) (text : List ℕ) → length text ≤ most → most ≤ limit → IsLine limit text text
held_whole limit most text few within = sym (take_all (limit + 1) text (omega (arith, few, within)))
