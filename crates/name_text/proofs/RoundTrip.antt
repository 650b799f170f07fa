-- What is printed of a name is read as that name.
use Rattle.std.proofs.Common.{◌≡◌, ◌≢◌, ℕ, ◌<◌, ◌≤◌, ◌^◌, ◌++◌, true, false, not, ◌==◌, ◌&&◌, nat_le, nat_lt, List, [], ◌∷◌, length, map, flat_map, Some, refl, sym, ap, ◌∙◌, arith, ⊎_elim, bytes_eq, slice_set, if◌then◌else◌, All, Ok, lit<, encode_utf8_all}
use Rattle.std.specs.List.{list_any, list_all}
use Rattle.std.specs.Char.Escape.{encode_utf16}
use Rattle.std.specs.Char.Utf16.{utf16_lossy_chars, has_unpaired_surrogate}
use Rattle.std.proofs.lemmas.Bool.{cond_both, and_parts, or_parts, or_from, not-true, false_from_ne_true}
use Rattle.std.proofs.lemmas.Bool.Decides.{nat_tests}
use Rattle.unicode_normalization.specs.Forms.{Nfd, nfd, is_in_form}
use Rattle.unicode_normalization.proofs.FormsLemmas.{normalize-ascii, is_in_form-true}
use Rattle.std.proofs.lemmas.List.Elements.{All-nil, All-cons}
use Rattle.std.specs.Cmp.Lexicographic.{bytes_decides}
use Rattle.name_text.specs.declared.piece.Piece.{Piece}
use Rattle.name_text.specs.declared.piece.Piece.TheVariants.{Character, Escaped}
use Rattle.name_text.specs.Spelling.{IsPiece, text_of}
use Rattle.name_text.specs.Reading.{is_escaped, code, piece_units, units_of, pieces, is_reserved, component}
use Rattle.name_text.specs.Printing.{is_clear, is_dots, is_plain, unit_piece, printed, component_text}
use Rattle.name_text.specs.Laws.{AreUnits, ArePieces}
use Rattle.name_text.proofs.Spelled.{read_spelled}
use Rattle.name_text.proofs.Utf16.{lossless, encode_one}
use Rattle.name_text.proofs.Clear.{dots_of, no_slash, clear_text}
use Rattle.std.proofs.lemmas.Option.{same_Some}
use Rattle.std.proofs.lemmas.Str.{encodes_same, length-le-encodes}

-- ---- the units of what is printed

pub no_escape : (cs : List ℕ) → list_any is_escaped (map Character cs) ≡ false
no_escape [] = refl
no_escape (c ∷ cs) = no_escape cs

pub codes_back : (cs : List ℕ) → map code (map Character cs) ≡ cs
codes_back [] = refl
codes_back (c ∷ cs) = ap (λ x. c ∷ x) (codes_back cs)

unit_back : (u : ℕ) → u < 2 ^ 16 → piece_units (unit_piece u) ≡ u ∷ []
unit_back u small = cond_both (nat_le 33 u && nat_le u 126 && not (u == 47)) (Character u) (Escaped u) (λ p. piece_units p ≡ u ∷ []) (λ _. encode_one u small) (λ _. refl)

units_back : (us : List ℕ) → AreUnits us → flat_map piece_units (map unit_piece us) ≡ us
units_back [] are = refl
units_back (u ∷ us) are = rw (unit_back u are.0, units_back us are.1) refl

unit_code : (u : ℕ) → code (unit_piece u) ≡ u
unit_code u = cond_both (nat_le 33 u && nat_le u 126 && not (u == 47)) (Character u) (Escaped u) (λ p. code p ≡ u) (λ _. refl) (λ _. refl)

unit_codes : (us : List ℕ) → map code (map unit_piece us) ≡ us
unit_codes [] = refl
unit_codes (u ∷ us) = rw (unit_code u, unit_codes us) refl

pub ones_back : (us : List ℕ) → AreUnits us → flat_map encode_utf16 us ≡ us
ones_back [] are = refl
ones_back (u ∷ us) are = rw (encode_one u are.0, ones_back us are.1) refl

unit_ascii : (u : ℕ) → is_escaped (unit_piece u) ≡ false → u < 128
unit_ascii u =
    cond_both (nat_le 33 u && nat_le u 126 && not (u == 47)) (Character u) (Escaped u) (λ p. is_escaped p ≡ false → u < 128)
    (λ test _. let parts : ((nat_le 33 u && nat_le u 126) ≡ true) × (not (u == 47) ≡ true) = and_parts _ _ test in grind (arith, nat_tests))
    (λ _ never. absurd (cc))

units_ascii : (us : List ℕ) → list_any is_escaped (map unit_piece us) ≡ false → All (λ c. c < 128) us
units_ascii [] plain = All-nil (λ c. c < 128)
units_ascii (u ∷ us) plain =
    let parts : (is_escaped (unit_piece u) ≡ false) × (list_any is_escaped (map unit_piece us) ≡ false) = or_parts _ _ plain in
    All-cons (λ c. c < 128) u us (unit_ascii u parts.0) (units_ascii us parts.1)

each_back : (us : List ℕ) → AreUnits us → units_of (map unit_piece us) ≡ us
unfolding units_of
each_back us are =
    cond_both (list_any is_escaped (map unit_piece us)) (flat_map piece_units (map unit_piece us)) (flat_map encode_utf16 (nfd (map code (map unit_piece us)))) (λ x. x ≡ us)
    (λ _. units_back us are)
    (λ plain. rw (unit_codes us, normalize-ascii Nfd us (units_ascii us plain)) (ones_back us are))

plain_back : (us : List ℕ) → AreUnits us → is_plain us ≡ true → units_of (map Character (utf16_lossy_chars us)) ≡ us
unfolding units_of is_plain
plain_back us are plain =
    let last : ((list_all is_clear us && not (is_dots us) && not (has_unpaired_surrogate us)) ≡ true) × (is_in_form Nfd (utf16_lossy_chars us) ≡ true) = and_parts _ _ plain in
    let whole : ((list_all is_clear us && not (is_dots us)) ≡ true) × (not (has_unpaired_surrogate us) ≡ true) = and_parts _ _ last.0 in
    rw (no_escape (utf16_lossy_chars us), codes_back (utf16_lossy_chars us), is_in_form-true Nfd (utf16_lossy_chars us) last.1)
    (lossless us are (not-true _ whole.1))

dots_back : (us : List ℕ) → is_dots us ≡ true → units_of (slice_set (map unit_piece us) 0 (Escaped 46)) ≡ us
unfolding units_of
dots_back us dots = ⊎_elim (λ e. rw e refl) (λ e. rw e refl) (dots_of us dots)

pub printed_back : (us : List ℕ) → AreUnits us → units_of (printed us) ≡ us
unfolding printed
printed_back us are =
    cond_both (is_plain us) (map Character (utf16_lossy_chars us)) (if is_dots us then slice_set (map unit_piece us) 0 (Escaped 46) else map unit_piece us) (λ x. units_of x ≡ us)
    (λ plain. plain_back us are plain)
    (λ _. cond_both (is_dots us) (slice_set (map unit_piece us) 0 (Escaped 46)) (map unit_piece us) (λ x. units_of x ≡ us) (λ dots. dots_back us dots) (λ _. each_back us are))

-- ---- what is printed is no reserved text

are_characters : (cs : List ℕ) → ArePieces (map Character cs)
are_characters [] = tt
are_characters (c ∷ cs) = (tt, are_characters cs)

are_each : (us : List ℕ) → AreUnits us → ArePieces (map unit_piece us)
are_each [] are = tt
are_each (u ∷ us) are = (cond_both (nat_le 33 u && nat_le u 126 && not (u == 47)) (Character u) (Escaped u) IsPiece (λ _. tt) (λ _. are.0), are_each us are.1)

are_dots : (us : List ℕ) → is_dots us ≡ true → ArePieces (slice_set (map unit_piece us) 0 (Escaped 46))
are_dots us dots = ⊎_elim (λ e. rw e (lit< tt, tt)) (λ e. rw e (lit< tt, (tt, tt))) (dots_of us dots)

pub are_printed : (us : List ℕ) → AreUnits us → ArePieces (printed us)
unfolding printed
are_printed us are =
    cond_both (is_plain us) (map Character (utf16_lossy_chars us)) (if is_dots us then slice_set (map unit_piece us) 0 (Escaped 46) else map unit_piece us) ArePieces
    (λ _. are_characters (utf16_lossy_chars us))
    (λ _. cond_both (is_dots us) (slice_set (map unit_piece us) 0 (Escaped 46)) (map unit_piece us) ArePieces (λ dots. are_dots us dots) (λ _. are_each us are))

-- the text isn't that of other pieces
other_text : (us : List ℕ) (qs : List Piece) → AreUnits us → ArePieces qs → printed us ≢ qs → bytes_eq (text_of (printed us)) (text_of qs) ≡ false
other_text us qs are fit other =
    false_from_ne_true _ (λ e.
    let same : text_of (printed us) ≡ text_of qs = (bytes_decides (text_of (printed us)) (text_of qs)).0 e in
    let both : Some (printed us) ≡ Some qs = sym (read_spelled (printed us) (are_printed us are)) ∙ ap pieces same ∙ read_spelled qs fit in
    other (cc))

units_of_ascii : (cs : List ℕ) → AreUnits cs → All (λ c. c < 128) cs → units_of (map Character cs) ≡ cs
unfolding units_of
units_of_ascii cs are ascii = rw (no_escape cs, codes_back cs, normalize-ascii Nfd cs ascii) (ones_back cs are)

printed_as : (us cs : List ℕ) → AreUnits us → AreUnits cs → All (λ c. c < 128) cs → printed us ≡ map Character cs → us ≡ cs
printed_as us cs are fit ascii is = sym (printed_back us are) ∙ ap units_of is ∙ units_of_ascii cs fit ascii

ascii_dot : All (λ c. c < 128) (46 ∷ [])
ascii_dot = All-cons (λ c. c < 128) 46 [] (lit< tt) (All-nil (λ c. c < 128))

printed_dot : printed (46 ∷ []) ≡ Escaped 46 ∷ []
unfolding printed is_plain
printed_dot = refl

printed_dots : printed (46 ∷ 46 ∷ []) ≡ Escaped 46 ∷ Character 46 ∷ []
unfolding printed is_plain
printed_dots = refl

not_empty : (us : List ℕ) → 0 < length us → AreUnits us → printed us ≢ []
not_empty us some are is = let empty : us ≡ [] = printed_as us [] are tt (All-nil (λ c. c < 128)) is in let none : length us ≡ 0 = ap length empty in omega arith

not_dot : (us : List ℕ) → AreUnits us → printed us ≢ Character 46 ∷ []
not_dot us are is =
    let dot : us ≡ 46 ∷ [] = printed_as us (46 ∷ []) are (lit< tt, tt) ascii_dot is in
    let both : Escaped 46 ∷ [] ≡ Character 46 ∷ [] = sym printed_dot ∙ ap printed (sym dot) ∙ is in
    cc

not_dots : (us : List ℕ) → AreUnits us → printed us ≢ Character 46 ∷ Character 46 ∷ []
not_dots us are is =
    let dots : us ≡ 46 ∷ 46 ∷ [] = printed_as us (46 ∷ 46 ∷ []) are (lit< tt, (lit< tt, tt)) (All-cons (λ c. c < 128) 46 (46 ∷ []) (lit< tt) ascii_dot) is in
    let both : Escaped 46 ∷ Character 46 ∷ [] ≡ Character 46 ∷ Character 46 ∷ [] = sym printed_dots ∙ ap printed (sym dots) ∙ is in
    cc

not_reserved : (us : List ℕ) → 0 < length us → AreUnits us → is_reserved (text_of (printed us)) ≡ false
unfolding is_reserved
not_reserved us some are =
    or_from _ _
    (or_from _ _
    (or_from _ _ (other_text us [] are tt (not_empty us some are)) (other_text us (Character 46 ∷ []) are (tt, tt) (not_dot us are)))
    (other_text us (Character 46 ∷ Character 46 ∷ []) are (tt, (tt, tt)) (not_dots us are)))
    (no_slash (text_of (printed us)) (clear_text us are))

pub read_printed : (us : List ℕ) → 0 < length us → length us ≤ 255 → AreUnits us → component (component_text us) ≡ Ok us
unfolding component component_text
read_printed us some short are =
    let fits : nat_lt 255 (length us) ≡ false = grind (arith, nat_tests) in
    rw (not_reserved us some are, read_spelled (printed us) (are_printed us are), printed_back us are, fits) refl

-- ---- the text tells the name

spelled_some : (ps : List Piece) → ps ≢ [] → 0 < length (text_of ps)
spelled_some [] other = absurd (other refl)
spelled_some (Character c ∷ ps) other = cond_both (c == 37) (37 ∷ 37 ∷ []) (c ∷ []) (λ x. 0 < length (x ++ text_of ps)) (λ _. omega arith) (λ _. omega arith)
spelled_some (Escaped u ∷ ps) other = omega arith

-- the text of a name isn't empty
pub name_some : (us : List ℕ) → 0 < length us → AreUnits us → 0 < length (encode_utf8_all (component_text us))
unfolding component_text
name_some us some are = omega (arith, spelled_some (printed us) (not_empty us some are), length-le-encodes (text_of (printed us)))

-- two names with one text are one name
pub name_same : (us vs : List ℕ) → AreUnits us → AreUnits vs → encode_utf8_all (component_text us) ≡ encode_utf8_all (component_text vs) → us ≡ vs
unfolding component_text
name_same us vs are fit is =
    let texts : text_of (printed us) ≡ text_of (printed vs) = encodes_same (text_of (printed us)) (text_of (printed vs)) is in
    let both : Some (printed us) ≡ Some (printed vs) = sym (read_spelled (printed us) (are_printed us are)) ∙ ap pieces texts ∙ read_spelled (printed vs) (are_printed vs fit) in
    sym (printed_back us are) ∙ ap units_of (same_Some (printed us) (printed vs) both) ∙ printed_back vs fit
