-- A name has 1 to 255 units.
use Rattle.std.proofs.Common.{◌≡◌, ℕ, ◌<◌, ◌≤◌, false, List, [], ◌∷◌, ◌++◌, length, flat_map, map, Option, Some, None, Ok, Err, nat_lt, refl, sym, ap, ◌∙◌, arith, length-append}
use Rattle.std.specs.List.{list_any}
use Rattle.std.specs.Char.Escape.{encode_utf16}
use Rattle.std.proofs.lemmas.Bool.{cond_both}
use Rattle.std.proofs.lemmas.Bool.Decides.{nat_tests}
use Rattle.unicode_normalization.specs.Forms.{Nfd, nfd, decomposed, normalize}
use Rattle.unicode_normalization.specs.Order.{is_reorderable, sink, canonical_order}
use Rattle.unicode_normalization.specs.Decompose.{decompose}
use Rattle.unicode_normalization.proofs.DecomposeLemmas.{length-from_decompose}
use Rattle.name_text.specs.declared.piece.Piece.{Piece}
use Rattle.name_text.specs.declared.piece.Piece.TheVariants.{Character, Escaped}
use Rattle.name_text.specs.declared.piece.NameFault.TheVariants.{BadName, NameTooLong}
use Rattle.name_text.specs.Reading.{is_escaped, code, piece_units, units_of, pieces, is_reserved, within_length, name_of_pieces, component}
use Rattle.name_text.proofs.Spelled.{spelled_read}

sink_some : (c : ℕ) (ds : List ℕ) → 0 < length (sink c ds)
unfolding sink
sink_some c [] = omega arith
sink_some c (d ∷ ds) = cond_both (is_reorderable c d) (d ∷ sink c ds) (c ∷ d ∷ ds) (λ x. 0 < length x) (λ _. omega arith) (λ _. omega arith)

order_some : (cs : List ℕ) → 0 < length cs → 0 < length (canonical_order cs)
unfolding canonical_order
order_some [] some = absurd (omega arith)
order_some (c ∷ cs) some = sink_some c (canonical_order cs)

nfd_some : (cs : List ℕ) → 0 < length cs → 0 < length (nfd cs)
unfolding normalize decomposed
nfd_some [] some = absurd (omega arith)
nfd_some (c ∷ cs) some =
    let first = length-from_decompose Nfd c (decompose Nfd c) refl in
    order_some (decompose Nfd c ++ flat_map (decompose Nfd) cs) (omega (arith, length-append (decompose Nfd c) (flat_map (decompose Nfd) cs), first.0))

encoded_some : (cs : List ℕ) → 0 < length cs → 0 < length (flat_map encode_utf16 cs)
encoded_some [] some = absurd (omega arith)
encoded_some (c ∷ cs) some =
    let first : 0 < length (encode_utf16 c) = cond_both (nat_lt c 0x1_0000) (c ∷ []) _ (λ x. 0 < length x) (λ _. omega arith) (λ _. omega arith) in
    omega (arith, length-append (encode_utf16 c) (flat_map encode_utf16 cs))

each_some : (ps : List Piece) → 0 < length ps → 0 < length (flat_map piece_units ps)
each_some [] some = absurd (omega arith)
each_some (Character c ∷ ps) some =
    let first : 0 < length (encode_utf16 c) = cond_both (nat_lt c 0x1_0000) (c ∷ []) _ (λ x. 0 < length x) (λ _. omega arith) (λ _. omega arith) in
    omega (arith, length-append (encode_utf16 c) (flat_map piece_units ps))
each_some (Escaped u ∷ ps) some = omega arith

codes_some : (ps : List Piece) → 0 < length ps → 0 < length (map code ps)
codes_some [] some = absurd (omega arith)
codes_some (p ∷ ps) some = omega arith

units_some : (ps : List Piece) → 0 < length ps → 0 < length (units_of ps)
unfolding units_of
units_some ps some =
    cond_both (list_any is_escaped ps) (flat_map piece_units ps) (flat_map encode_utf16 (nfd (map code ps))) (λ x. 0 < length x)
    (λ _. each_some ps some) (λ _. encoded_some _ (nfd_some _ (codes_some ps some)))

pieces_some : (text : List ℕ) (ps : List Piece) → is_reserved text ≡ false → pieces text ≡ Some ps → 0 < length ps
unfolding is_reserved
pieces_some text [] free is =
    let empty : text ≡ [] = (spelled_read text [] is).0 in
    let never : is_reserved [] ≡ false = ap is_reserved (sym empty) ∙ free in absurd (cc)
pieces_some text (p ∷ ps) free is = omega arith

short_if : (units us : List ℕ) → within_length units ≡ Ok us → (units ≡ us) × (length us ≤ 255)
short_if units us =
    cond_both (nat_lt 255 (length units)) (Err NameTooLong) (Ok units) (λ r. r ≡ Ok us → (units ≡ us) × (length us ≤ 255))
    (λ _ is. absurd (cc))
    (λ test is. let same : units ≡ us = cc in (same, rw (← same) (grind (arith, nat_tests))))

from_pieces : (text us : List ℕ) (o : Option (List Piece)) → is_reserved text ≡ false → pieces text ≡ o → name_of_pieces o ≡ Ok us → (0 < length us) × (length us ≤ 255)
from_pieces text us None free read is = absurd (cc)
from_pieces text us (Some ps) free read is =
    let known = short_if (units_of ps) us is in
    (rw (← known.0) (units_some ps (pieces_some text ps free read)), known.1)

pub name_lengths : (text us : List ℕ) → component text ≡ Ok us → (0 < length us) × (length us ≤ 255)
unfolding component
name_lengths text us =
    cond_both (is_reserved text) (Err BadName) (name_of_pieces (pieces text)) (λ r. r ≡ Ok us → (0 < length us) × (length us ≤ 255))
    (λ _ is. absurd (cc))
    (λ free is. from_pieces text us (pieces text) free refl is)
