-- A name that is spelled in ASCII without a percent sign has the text's bytes as its units.
use Rattle.std.proofs.Common.{◌≡◌, ℕ, zero, suc, ◌<◌, true, false, not, ◌==◌, nat_lt, List, [], ◌∷◌, map, Some, refl, arith, All, if◌then◌else◌, chars, IsAscii}
use Rattle.std.specs.List.{list_all}
use Rattle.std.proofs.lemmas.Bool.{and_parts, not-true}
use Rattle.std.proofs.lemmas.Bool.Decides.{nat_tests}
use Rattle.std.proofs.lemmas.List.Elements.{All-nil, All-cons}
use Rattle.std.proofs.lemmas.Str.{chars-IsAscii}
use Rattle.unicode_normalization.specs.Forms.{Nfd}
use Rattle.unicode_normalization.proofs.FormsLemmas.{normalize-ascii}
use Rattle.std.proofs.Common.{Err}
use Rattle.name_text.specs.declared.piece.NameFault.TheVariants.{BadName}
use Rattle.name_text.specs.declared.piece.Piece.TheVariants.{Character}
use Rattle.name_text.specs.declared.pieces.Place.TheVariants.{Between}
use Rattle.name_text.specs.Spelling.{percent}
use Rattle.name_text.specs.Reading.{units_of, step, pieces_from, within_length, is_reserved, component}
use Rattle.name_text.specs.PlainAscii.{stands_for_itself}
use Rattle.name_text.specs.Laws.{AreUnits}
use Rattle.name_text.proofs.RoundTrip.{no_escape, codes_back, ones_back}

abbrev Plain : List ℕ → Type 0
Plain text = list_all stands_for_itself text ≡ true

small : (c : ℕ) → stands_for_itself c ≡ true → (c < 128) × ((c == percent) ≡ false)
small c plain =
    let parts : (nat_lt c 128 ≡ true) × (not (c == percent) ≡ true) = and_parts _ _ plain in
    (grind (arith, nat_tests), not-true _ parts.1)

plain_all : (text : List ℕ) → Plain text → All (λ c. c < 128) text
plain_all [] plain = All-nil (λ c. c < 128)
plain_all (c ∷ cs) plain =
    let parts : (stands_for_itself c ≡ true) × Plain cs = and_parts _ _ plain in
    All-cons (λ c. c < 128) c cs ((small c parts.0).0) (plain_all cs parts.1)

plain_units : (text : List ℕ) → Plain text → AreUnits text
plain_units [] plain = tt
plain_units (c ∷ cs) plain =
    let parts : (stands_for_itself c ≡ true) × Plain cs = and_parts _ _ plain in
    let low : c < 128 = (small c parts.0).0 in
    (omega arith, plain_units cs parts.1)

plain_ascii : (text : List ℕ) → Plain text → IsAscii text
plain_ascii [] plain i = omega arith
plain_ascii (c ∷ cs) plain zero = (small c (and_parts _ _ plain).0).0
plain_ascii (c ∷ cs) plain (suc i) = plain_ascii cs (and_parts _ _ plain).1 i

plain_step : (c : ℕ) → (c == percent) ≡ false → step Between c ≡ Some (Between, Some (Character c))
unfolding step
plain_step c other = rw other refl

plain_pieces : (text : List ℕ) → Plain text → pieces_from Between text ≡ Some (map Character text)
plain_pieces [] plain = refl
plain_pieces (c ∷ cs) plain =
    let parts : (stands_for_itself c ≡ true) × Plain cs = and_parts _ _ plain in
    rw (plain_step c (small c parts.0).1, plain_pieces cs parts.1) refl

plain_name_units : (text : List ℕ) → Plain text → units_of (map Character text) ≡ text
unfolding units_of
plain_name_units text plain =
    rw (no_escape text, codes_back text, normalize-ascii Nfd text (plain_all text plain)) (ones_back text (plain_units text plain))

pub plain_name : (text : List ℕ) → Plain text → component (chars text) ≡ (if is_reserved text then Err BadName else within_length text)
unfolding component
plain_name text plain =
    rw (chars-IsAscii text (plain_ascii text plain), plain_pieces text plain, plain_name_units text plain) refl
