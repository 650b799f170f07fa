-- A text is read to just the pieces that spell it.
use Rattle.std.proofs.Common.{◌≡◌, ◌≢◌, ℕ, zero, suc, ◌+◌, ◌*◌, ◌/◌, ◌%◌, ◌-◌, ◌<◌, ◌≤◌, true, false, ◌==◌, ◌&&◌, nat_le, List, [], ◌∷◌, ◌++◌, drop, Option, Some, None, refl, sym, ap, ◌∙◌, subst, append_assoc, arith, ⊎_elim, if◌then◌else◌}
use Rattle.std.specs.Option.{option_map}
use Rattle.std.specs.Fmt.{digit_glyph}
use Rattle.std.proofs.lemmas.Bool.{cond-true, cond-false, cond_both, cases_Bool, eqb-true}
use Rattle.std.proofs.lemmas.Bool.Decides.{nat_tests}
use Rattle.name_text.specs.declared.piece.Piece.{Piece}
use Rattle.name_text.specs.declared.piece.Piece.TheVariants.{Character, Escaped}
use Rattle.name_text.specs.declared.pieces.Place.{Place}
use Rattle.name_text.specs.declared.pieces.Place.TheVariants.{Between, Percent, Digits}
use Rattle.name_text.specs.Spelling.{IsPiece, hex_digits, spelling, text_of}
use Rattle.name_text.specs.Reading.{hex_digit, after_digit, with_digit, step, then_rest, pieces_from, pieces}
use Rattle.name_text.specs.Laws.{ArePieces, IsReadAsSpelled}

-- ---- what is spelled is read

pub hex_digit-glyph : (d : ℕ) → d < 16 → hex_digit (digit_glyph true d) ≡ Some d
hex_digit-glyph d small = grind (arith, nat_tests)

one_more : (piece : Piece) (rest : Option (List Piece)) (ps : List Piece) → rest ≡ Some ps → option_map (λ pieces. piece ∷ pieces) rest ≡ Some (piece ∷ ps)
one_more piece rest ps is = rw is refl

read_character : (c : ℕ) (rest : List ℕ) (ps : List Piece) → c ≢ 37 → pieces_from Between rest ≡ Some ps → pieces_from Between (c ∷ rest) ≡ Some (Character c ∷ ps)
unfolding step
read_character c rest ps other is = let test : (c == 37) ≡ false = grind (arith, nat_tests) in rw (test, is) refl

read_percent : (rest : List ℕ) (ps : List Piece) → pieces_from Between rest ≡ Some ps → pieces_from Between (37 ∷ 37 ∷ rest) ≡ Some (Character 37 ∷ ps)
unfolding step
read_percent rest ps is = rw is refl

digit_on : (more value d : ℕ) (rest : List ℕ) → d < 16 → pieces_from (Digits more value) (digit_glyph true d ∷ rest) ≡ then_rest (after_digit more ((value * 16 + d) % 65536)) (λ next. pieces_from next rest)
unfolding step
digit_on more value d rest small = ap (λ o. then_rest (with_digit more value o) (λ next. pieces_from next rest)) (hex_digit-glyph d small)

read_digit : (more less value d : ℕ) (rest : List ℕ) (ps : List Piece) → d < 16 → (more == 0) ≡ false → more - 1 ≡ less → pieces_from (Digits less ((value * 16 + d) % 65536)) rest ≡ Some ps → pieces_from (Digits more value) (digit_glyph true d ∷ rest) ≡ Some ps
read_digit more less value d rest ps small some fewer is = digit_on more value d rest small ∙ rw (some, fewer, is) refl

read_last : (value d : ℕ) (rest : List ℕ) (ps : List Piece) → d < 16 → pieces_from Between rest ≡ Some ps → pieces_from (Digits 0 value) (digit_glyph true d ∷ rest) ≡ Some (Escaped ((value * 16 + d) % 65536) ∷ ps)
read_last value d rest ps small is = digit_on 0 value d rest small ∙ rw is refl

read_digits : (a b c d u : ℕ) (rest : List ℕ) (ps : List Piece) → a < 16 → b < 16 → c < 16 → d < 16 → u ≡ 4096 * a + 256 * b + 16 * c + d → pieces_from Between rest ≡ Some ps
    → pieces_from (Digits 3 0) (digit_glyph true a ∷ digit_glyph true b ∷ digit_glyph true c ∷ digit_glyph true d ∷ rest) ≡ Some (Escaped u ∷ ps)
read_digits a b c d u rest ps a_small b_small c_small d_small is read =
    let value : ((((0 * 16 + a) % 65536 * 16 + b) % 65536 * 16 + c) % 65536 * 16 + d) % 65536 ≡ u = omega arith in
    read_digit 3 2 0 a (digit_glyph true b ∷ digit_glyph true c ∷ digit_glyph true d ∷ rest) (Escaped u ∷ ps) a_small refl refl
    (read_digit 2 1 ((0 * 16 + a) % 65536) b (digit_glyph true c ∷ digit_glyph true d ∷ rest) (Escaped u ∷ ps) b_small refl refl
    (read_digit 1 0 (((0 * 16 + a) % 65536 * 16 + b) % 65536) c (digit_glyph true d ∷ rest) (Escaped u ∷ ps) c_small refl refl
    (read_last ((((0 * 16 + a) % 65536 * 16 + b) % 65536 * 16 + c) % 65536) d rest ps d_small read ∙ ap (λ v. Some (Escaped v ∷ ps)) value)))

read_escape : (digits rest : List ℕ) (ps : List Piece) → pieces_from (Digits 3 0) (digits ++ rest) ≡ Some ps → pieces_from Between (37 ∷ 117 ∷ (digits ++ rest)) ≡ Some ps
unfolding step
read_escape digits rest ps is = rw is refl

read_piece : (piece : Piece) (rest : List ℕ) (ps : List Piece) → IsPiece piece → pieces_from Between rest ≡ Some ps → pieces_from Between (spelling piece ++ rest) ≡ Some (piece ∷ ps)
read_piece (Character c) rest ps fits is =
    ⊎_elim
    (λ e. let same : c ≡ 37 = grind (arith, nat_tests) in rw (e, same) (read_percent rest ps is))
    (λ e. let other : c ≢ 37 = grind (arith, nat_tests) in rw e (read_character c rest ps other is))
    (cases_Bool (c == 37))
read_piece (Escaped u) rest ps fits is =
    read_escape (hex_digits u) rest (Escaped u ∷ ps) (read_digits (u / 4096 % 16) (u / 256 % 16) (u / 16 % 16) (u % 16) u rest ps (omega arith) (omega arith) (omega arith) (omega arith) (omega arith) is)

pub read_spelled : (ps : List Piece) → ArePieces ps → pieces (text_of ps) ≡ Some ps
read_spelled [] fit = refl
read_spelled (piece ∷ ps) fit = read_piece piece (text_of ps) ps fit.0 (read_spelled ps fit.1)

-- ---- what is read is spelled

-- the characters of a piece that is read only in part
abbrev prefix : Place → List ℕ
prefix Between = []
prefix Percent = 37 ∷ []
prefix (Digits more value) = 37 ∷ 117 ∷ drop (more + 1) (hex_digits value)

-- an escape has four digits
abbrev IsPlace : Place → Type 0
IsPlace Between = Unit {0}
IsPlace Percent = Unit {0}
IsPlace (Digits more value) = more < 4

-- what a step does to the text that is read so far
abbrev Steps : List ℕ → Option (Place × Option Piece) → Type 0
Steps text None = Unit {0}
Steps text (Some (next, None)) = IsPlace next × (text ≡ prefix next)
Steps text (Some (next, Some piece)) = (next ≡ Between) × IsPiece piece × (text ≡ spelling piece)

some_inside : (a b : List Piece) → Some a ≡ Some b → a ≡ b
some_inside a b is = cc

some_same : (a b : ℕ) → Some a ≡ Some b → a ≡ b
some_same a b is = cc

glyph_of_digit : (c d : ℕ) → hex_digit c ≡ Some d → (d < 16) × (digit_glyph true d ≡ c)
glyph_of_digit c d is =
    ⊎_elim
    (λ (low : (nat_le 48 c && nat_le c 57) ≡ true). let bounds : (48 ≤ c) × (c ≤ 57) = (grind (arith, nat_tests), grind (arith, nat_tests)) in
    let value : c - 48 ≡ d = some_same (c - 48) d (sym (cond-true _ _ _ low) ∙ is) in
    (omega arith, grind (arith, nat_tests)))
    (λ (other : (nat_le 48 c && nat_le c 57) ≡ false). ⊎_elim
    (λ (high : (nat_le 65 c && nat_le c 70) ≡ true). let bounds : (65 ≤ c) × (c ≤ 70) = (grind (arith, nat_tests), grind (arith, nat_tests)) in
    let value : c - 55 ≡ d = some_same (c - 55) d (sym (cond-false _ _ _ other ∙ cond-true _ _ _ high) ∙ is) in
    (omega arith, grind (arith, nat_tests)))
    (λ (none : (nat_le 65 c && nat_le c 70) ≡ false). let never : None ≡ Some d = sym (cond-false _ _ _ other ∙ cond-false _ _ _ none) ∙ is in absurd (cc))
    (cases_Bool (nat_le 65 c && nat_le c 70)))
    (cases_Bool (nat_le 48 c && nat_le c 57))

shift_digits : (value d c : ℕ) → d < 16 → digit_glyph true d ≡ c → hex_digits ((value * 16 + d) % 65536) ≡ drop 1 (hex_digits value) ++ c ∷ []
shift_digits value d c small is =
    let v = (value * 16 + d) % 65536 in
    let first : v / 4096 % 16 ≡ value / 256 % 16 = omega arith in
    let second : v / 256 % 16 ≡ value / 16 % 16 = omega arith in
    let third : v / 16 % 16 ≡ value % 16 = omega arith in
    let last : v % 16 ≡ d = omega arith in
    rw (first, second, third, last, is) refl

digit_steps : (more value d c : ℕ) → more < 4 → d < 16 → digit_glyph true d ≡ c → Steps (prefix (Digits more value) ++ c ∷ []) (after_digit more ((value * 16 + d) % 65536))
digit_steps zero value d c few small is = (refl, omega arith, ap (λ x. 37 ∷ 117 ∷ x) (sym (shift_digits value d c small is)))
digit_steps (suc zero) value d c few small is = (omega arith, ap (λ x. 37 ∷ 117 ∷ drop 1 x) (sym (shift_digits value d c small is)))
digit_steps (suc (suc zero)) value d c few small is = (omega arith, ap (λ x. 37 ∷ 117 ∷ drop 2 x) (sym (shift_digits value d c small is)))
digit_steps (suc (suc (suc zero))) value d c few small is = (omega arith, ap (λ x. 37 ∷ 117 ∷ drop 3 x) (sym (shift_digits value d c small is)))
digit_steps (suc (suc (suc (suc more)))) value d c few small is = absurd (omega arith)

with_digit_spelled : (more value c : ℕ) (o : Option ℕ) → more < 4 → ((d : ℕ) → o ≡ Some d → (d < 16) × (digit_glyph true d ≡ c)) → Steps (prefix (Digits more value) ++ c ∷ []) (with_digit more value o)
with_digit_spelled more value c None few glyph = tt
with_digit_spelled more value c (Some d) few glyph = let known = glyph d refl in digit_steps more value d c few known.0 known.1

some_mapped : (f : List Piece → List Piece) (o : Option (List Piece)) (ps : List Piece) → option_map f o ≡ Some ps → (qs : List Piece) × (o ≡ Some qs) × (f qs ≡ ps)
some_mapped f None ps is = let never : None ≡ Some ps = is in absurd (cc)
some_mapped f (Some qs) ps is = (qs, refl, some_inside (f qs) ps is)

pieces_from-cons : (place : Place) (c : ℕ) (rest : List ℕ) → pieces_from place (c ∷ rest) ≡ then_rest (step place c) (λ next. pieces_from next rest)
pieces_from-cons Between c rest = refl
pieces_from-cons Percent c rest = refl
pieces_from-cons (Digits more value) c rest = refl

-- the character joins what was read so far
step_spelled : (place : Place) (c : ℕ) → IsPlace place → Steps (prefix place ++ c ∷ []) (step place c)
unfolding step
step_spelled Between c ok =
    cond_both (c == 37) (Some (Percent, None)) (Some (Between, Some (Character c))) (λ o. Steps (c ∷ []) o)
    (λ e. (tt, ap (λ x. x ∷ []) (eqb-true c 37 e)))
    (λ e. (refl, tt, sym (cond-false _ _ _ e)))
step_spelled Percent c ok =
    cond_both (c == 37) (Some (Between, Some (Character 37))) (if c == 117 then Some (Digits 3 0, None) else None) (λ o. Steps (37 ∷ c ∷ []) o)
    (λ e. (refl, tt, ap (λ x. 37 ∷ x ∷ []) (eqb-true c 37 e)))
    (λ _. cond_both (c == 117) (Some (Digits 3 0, None)) None (λ o. Steps (37 ∷ c ∷ []) o)
    (λ e. (omega arith, ap (λ x. 37 ∷ x ∷ []) (eqb-true c 117 e)))
    (λ _. tt))
step_spelled (Digits more value) c ok = with_digit_spelled more value c (hex_digit c) ok (λ d is. glyph_of_digit c d is)

-- the pieces of the rest, after a step
rest_spelled : (text rest : List ℕ) (ps : List Piece) (o : Option (Place × Option Piece)) → Steps text o → then_rest o (λ next. pieces_from next rest) ≡ Some ps
    → ((next : Place) (qs : List Piece) → IsPlace next → pieces_from next rest ≡ Some qs → (prefix next ++ rest ≡ text_of qs) × ArePieces qs)
    → (text ++ rest ≡ text_of ps) × ArePieces ps
rest_spelled text rest ps None steps is goes = let never : None ≡ Some ps = is in absurd (cc)
rest_spelled text rest ps (Some (next, None)) steps is goes =
    let same = some_mapped (λ pieces. pieces) (pieces_from next rest) ps is in
    let after = goes next same.0 steps.0 same.1 in
    rw (steps.1, ← same.2) after
rest_spelled text rest ps (Some (next, Some piece)) steps is goes =
    let same = some_mapped (λ pieces. piece ∷ pieces) (pieces_from next rest) ps is in
    let ok : IsPlace next = rw steps.0 tt in
    let after = goes next same.0 ok same.1 in
    let joined : rest ≡ text_of same.0 = sym (ap (λ x. prefix x ++ rest) steps.0) ∙ after.0 in
    rw (steps.2, ← same.2) (ap (λ x. spelling piece ++ x) joined, (steps.1, after.1))

spelled_from : (text : List ℕ) (place : Place) (ps : List Piece) → IsPlace place → pieces_from place text ≡ Some ps → (prefix place ++ text ≡ text_of ps) × ArePieces ps
spelled_from [] Between ps ok is = let none : [] ≡ ps = cc in subst (λ x. ([] ≡ text_of x) × ArePieces x) none (refl, tt)
spelled_from [] Percent ps ok is = absurd (cc)
spelled_from [] (Digits more value) ps ok is = absurd (cc)
spelled_from (c ∷ rest) place ps ok is =
    let whole = rest_spelled (prefix place ++ c ∷ []) rest ps (step place c) (step_spelled place c ok) (sym (pieces_from-cons place c rest) ∙ is) (λ next qs fine read. spelled_from rest next qs fine read) in
    rw append_assoc at whole

pub spelled_read : (text : List ℕ) (ps : List Piece) → pieces text ≡ Some ps → (text ≡ text_of ps) × ArePieces ps
spelled_read text ps is = spelled_from text Between ps tt is

pub read_as_spelled : (text : List ℕ) (ps : List Piece) → IsReadAsSpelled text ps
read_as_spelled text ps = (spelled_read text ps, λ h. rw h.0 (read_spelled ps h.1))
