-- The text of a name is of Unicode scalar values.
use Rattle.std.proofs.Common.{◌≡◌, ℕ, ◌/◌, ◌%◌, ◌<◌, ◌≤◌, ◌^◌, true, false, not, ◌==◌, ◌&&◌, nat_le, nat_lt, List, [], ◌∷◌, ◌++◌, map, Some, None, unwrap_or, refl, ◌∙◌, arith, ⊎_elim, slice_set, if◌then◌else◌}
use Rattle.std.specs.Char.Utf16.{utf16_chars, utf16_lossy_chars, is_high_surrogate, is_low_surrogate, surrogate_pair_char, lone_unit_char}
use Rattle.std.specs.Fmt.{digit_glyph}
use Rattle.std.proofs.Math.Utf8.{scalar, scalars}
use Rattle.std.proofs.lemmas.Bool.{cond-true, cond-false, cond_both, and_parts}
use Rattle.std.proofs.lemmas.Bool.Decides.{nat_tests}
use Rattle.name_text.specs.declared.piece.Piece.{Piece}
use Rattle.name_text.specs.declared.piece.Piece.TheVariants.{Character, Escaped}
use Rattle.name_text.specs.Spelling.{spelling, text_of}
use Rattle.name_text.specs.Printing.{is_dots, is_plain, unit_piece, printed, component_text}
use Rattle.name_text.specs.Laws.{AreUnits}
use Rattle.name_text.proofs.Utf16.{these}
use Rattle.name_text.proofs.Clear.{dots_of}

both_scalar : (xs ys : List ℕ) → scalars xs ≡ true → scalars ys ≡ true → scalars (xs ++ ys) ≡ true
both_scalar [] ys hx hy = hy
both_scalar (x ∷ xs) ys hx hy = let parts : (scalar x ≡ true) × (scalars xs ≡ true) = and_parts _ _ hx in rw (parts.0, both_scalar xs ys parts.1 hy) refl

low : (c : ℕ) → c < 55296 → scalar c ≡ true
low c small = let test : nat_lt c 55296 ≡ true = grind (arith, nat_tests) in cond-true _ _ _ test

high_tests : (c : ℕ) → 57344 ≤ c → c < 1114112 → (nat_le 57344 c && nat_lt c 1114112) ≡ true
high_tests c from small =
    let above : nat_le 57344 c ≡ true = grind (arith, nat_tests) in
    let below : nat_lt c 1114112 ≡ true = grind (arith, nat_tests) in
    rw (above, below) refl

high : (c : ℕ) → 57344 ≤ c → c < 1114112 → scalar c ≡ true
high c from small =
    let test : nat_lt c 55296 ≡ false = grind (arith, nat_tests) in
    cond-false _ _ _ test ∙ high_tests c from small

-- ---- characters in UTF-16

lone_scalar : (u : ℕ) → u < 2 ^ 16 → scalar (unwrap_or (lone_unit_char u) 0xFFFD) ≡ true
lone_scalar u small =
    cond_both (nat_le 0xD800 u && nat_lt u 0xE000) None (Some u) (λ o. scalar (unwrap_or o 0xFFFD) ≡ true)
    (λ _. refl)
    (λ other. cond_both (nat_lt u 55296) true (nat_le 57344 u && nat_lt u 1114112) (λ b. b ≡ true)
    (λ _. refl)
    (λ above. let from : 57344 ≤ u = grind (arith, nat_tests) in high_tests u from (omega arith)))

pair_scalar : (u v : ℕ) → (is_high_surrogate u && is_low_surrogate v) ≡ true → scalar (surrogate_pair_char u v) ≡ true
pair_scalar u v pair =
    let parts : (is_high_surrogate u ≡ true) × (is_low_surrogate v ≡ true) = and_parts _ _ pair in
    let first : (0xD800 ≤ u) × (u < 0xDC00) = (grind (arith, nat_tests), grind (arith, nat_tests)) in
    let second : (0xDC00 ≤ v) × (v < 0xE000) = (grind (arith, nat_tests), grind (arith, nat_tests)) in
    high (surrogate_pair_char u v) (omega arith) (omega arith)

lossy_scalar : (us : List ℕ) → AreUnits us → scalars (these (utf16_chars us)) ≡ true
unfolding utf16_chars
lossy_scalar [] are = refl
lossy_scalar (u ∷ []) are = rw (lone_scalar u are.0) refl
lossy_scalar (u ∷ v ∷ us) are =
    let after_pair = lossy_scalar us are.1.1 in
    let after_one = lossy_scalar (v ∷ us) are.1 in
    cond_both (is_high_surrogate u && is_low_surrogate v) (Some (surrogate_pair_char u v) ∷ utf16_chars us) (lone_unit_char u ∷ utf16_chars (v ∷ us)) (λ os. scalars (these os) ≡ true)
    (λ pair. rw (pair_scalar u v pair, after_pair) refl)
    (λ _. rw (lone_scalar u are.0, after_one) refl)

-- ---- pieces

abbrev AreScalar : List Piece → Type 0
AreScalar [] = Unit {0}
AreScalar (p ∷ ps) = (scalars (spelling p) ≡ true) × AreScalar ps

pieces_scalar : (ps : List Piece) → AreScalar ps → scalars (text_of ps) ≡ true
pieces_scalar [] are = refl
pieces_scalar (p ∷ ps) are = both_scalar (spelling p) (text_of ps) are.0 (pieces_scalar ps are.1)

character_scalar : (c : ℕ) → scalar c ≡ true → scalars (spelling (Character c)) ≡ true
character_scalar c is = cond_both (c == 37) (37 ∷ 37 ∷ []) (c ∷ []) (λ x. scalars x ≡ true) (λ _. refl) (λ _. rw is refl)

characters_scalar : (cs : List ℕ) → scalars cs ≡ true → AreScalar (map Character cs)
characters_scalar [] are = tt
characters_scalar (c ∷ cs) are = let parts : (scalar c ≡ true) × (scalars cs ≡ true) = and_parts _ _ are in (character_scalar c parts.0, characters_scalar cs parts.1)

glyph_scalar : (d : ℕ) → d < 16 → scalar (digit_glyph true d) ≡ true
glyph_scalar d small = let ascii : digit_glyph true d < 55296 = grind (arith, nat_tests) in low (digit_glyph true d) ascii

escape_scalar : (u : ℕ) → scalars (spelling (Escaped u)) ≡ true
escape_scalar u = rw (glyph_scalar (u / 4096 % 16) (omega arith), glyph_scalar (u / 256 % 16) (omega arith), glyph_scalar (u / 16 % 16) (omega arith), glyph_scalar (u % 16) (omega arith)) refl

unit_scalar : (u : ℕ) → scalars (spelling (unit_piece u)) ≡ true
unit_scalar u =
    cond_both (nat_le 33 u && nat_le u 126 && not (u == 47)) (Character u) (Escaped u) (λ p. scalars (spelling p) ≡ true)
    (λ test. let parts : ((nat_le 33 u && nat_le u 126) ≡ true) × (not (u == 47) ≡ true) = and_parts _ _ test in let ascii : u < 55296 = grind (arith, nat_tests) in character_scalar u (low u ascii))
    (λ _. escape_scalar u)

units_scalar : (us : List ℕ) → AreScalar (map unit_piece us)
units_scalar [] = tt
units_scalar (u ∷ us) = (unit_scalar u, units_scalar us)

dots_scalar : (us : List ℕ) → is_dots us ≡ true → AreScalar (slice_set (map unit_piece us) 0 (Escaped 46))
dots_scalar us dots = ⊎_elim (λ e. rw e (refl, tt)) (λ e. rw e (refl, (refl, tt))) (dots_of us dots)

printed_scalar : (us : List ℕ) → AreUnits us → AreScalar (printed us)
unfolding printed
printed_scalar us are =
    cond_both (is_plain us) (map Character (utf16_lossy_chars us)) (if is_dots us then slice_set (map unit_piece us) 0 (Escaped 46) else map unit_piece us) AreScalar
    (λ _. characters_scalar (utf16_lossy_chars us) (lossy_scalar us are))
    (λ _. cond_both (is_dots us) (slice_set (map unit_piece us) 0 (Escaped 46)) (map unit_piece us) AreScalar (λ dots. dots_scalar us dots) (λ _. units_scalar us))

pub name_scalar : (us : List ℕ) → AreUnits us → scalars (component_text us) ≡ true
unfolding component_text
name_scalar us are = pieces_scalar (printed us) (printed_scalar us are)
