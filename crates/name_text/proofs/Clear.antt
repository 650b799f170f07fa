-- What is printed of a name has neither a control nor a space nor `/`.
use Rattle.std.proofs.Common.{◌≡◌, ℕ, ◌+◌, ◌/◌, ◌%◌, ◌<◌, ◌≤◌, Bool, true, false, not, ◌==◌, ◌&&◌, nat_le, nat_lt, List, [], ◌∷◌, ◌++◌, map, flat_map, refl, sym, ap, ◌∙◌, arith, ⊎_elim, inl, inr, ◌⊎◌, slice_set, if◌then◌else◌, encode_utf8, encode_utf8_all}
use Rattle.std.specs.List.{list_any, list_all}
use Rattle.std.specs.Char.Escape.{encode_utf16}
use Rattle.std.specs.Char.Utf16.{utf16_lossy_chars, has_unpaired_surrogate}
use Rattle.std.specs.Fmt.{digit_glyph}
use Rattle.std.specs.Cmp.Lexicographic.{bytes_decides}
use Rattle.std.proofs.lemmas.Bool.{cond_both, and_parts, or_cases, not-true}
use Rattle.std.proofs.lemmas.Bool.Decides.{nat_tests}
use Rattle.std.proofs.lemmas.List.Folds.{list_all-append}
use Rattle.std.proofs.Math.Utf8.{encode}
use Rattle.unicode_normalization.specs.Forms.{Nfd, is_in_form}
use Rattle.name_text.specs.declared.piece.Piece.{Piece}
use Rattle.name_text.specs.declared.piece.Piece.TheVariants.{Character, Escaped}
use Rattle.name_text.specs.Spelling.{spelling, text_of}
use Rattle.name_text.specs.Printing.{is_clear, is_dots, is_plain, unit_piece, printed, component_text}
use Rattle.name_text.specs.Laws.{AreUnits}
use Rattle.name_text.proofs.Utf16.{lossless}

abbrev pub all_clear : List ℕ → Bool
all_clear = list_all is_clear

pub both_clear : (xs ys : List ℕ) → all_clear xs ≡ true → all_clear ys ≡ true → all_clear (xs ++ ys) ≡ true
both_clear xs ys hx hy = list_all-append is_clear xs ys ∙ rw (hx, hy) refl

-- each piece is spelled by clear characters
abbrev AreClear : List Piece → Type 0
AreClear [] = Unit {0}
AreClear (p ∷ ps) = (all_clear (spelling p) ≡ true) × AreClear ps

clear_pieces : (ps : List Piece) → AreClear ps → all_clear (text_of ps) ≡ true
clear_pieces [] clear = refl
clear_pieces (p ∷ ps) clear = both_clear (spelling p) (text_of ps) clear.0 (clear_pieces ps clear.1)

clear_character : (c : ℕ) → is_clear c ≡ true → all_clear (spelling (Character c)) ≡ true
clear_character c clear = cond_both (c == 37) (37 ∷ 37 ∷ []) (c ∷ []) (λ x. all_clear x ≡ true) (λ _. refl) (λ _. rw clear refl)

clear_glyph : (d : ℕ) → d < 16 → is_clear (digit_glyph true d) ≡ true
clear_glyph d small = grind (arith, nat_tests)

clear_escape : (u : ℕ) → all_clear (spelling (Escaped u)) ≡ true
clear_escape u = rw (clear_glyph (u / 4096 % 16) (omega arith), clear_glyph (u / 256 % 16) (omega arith), clear_glyph (u / 16 % 16) (omega arith), clear_glyph (u % 16) (omega arith)) refl

clear_unit : (u : ℕ) → all_clear (spelling (unit_piece u)) ≡ true
clear_unit u =
    cond_both (nat_le 33 u && nat_le u 126 && not (u == 47)) (Character u) (Escaped u) (λ p. all_clear (spelling p) ≡ true)
    (λ test. let parts : ((nat_le 33 u && nat_le u 126) ≡ true) × (not (u == 47) ≡ true) = and_parts _ _ test in clear_character u (grind (arith, nat_tests)))
    (λ _. clear_escape u)

clear_units : (us : List ℕ) → AreClear (map unit_piece us)
clear_units [] = tt
clear_units (u ∷ us) = (clear_unit u, clear_units us)

high_clear : (c : ℕ) → 128 ≤ c → is_clear c ≡ true
high_clear c high = grind (arith, nat_tests)

-- a character is clear where its units are
clear_encoded : (c : ℕ) → all_clear (encode_utf16 c) ≡ true → is_clear c ≡ true
clear_encoded c =
    cond_both (nat_lt c 0x1_0000) (c ∷ []) _ (λ x. all_clear x ≡ true → is_clear c ≡ true)
    (λ _ clear. let parts : (is_clear c ≡ true) × (true ≡ true) = and_parts _ _ clear in parts.0)
    (λ large _. high_clear c (grind (arith, nat_tests)))

clear_characters : (cs : List ℕ) → all_clear (flat_map encode_utf16 cs) ≡ true → AreClear (map Character cs)
clear_characters [] clear = tt
clear_characters (c ∷ cs) clear =
    let parts : (all_clear (encode_utf16 c) ≡ true) × (all_clear (flat_map encode_utf16 cs) ≡ true) = and_parts _ _ (sym (list_all-append is_clear (encode_utf16 c) (flat_map encode_utf16 cs)) ∙ clear) in
    (clear_character c (clear_encoded c parts.0), clear_characters cs parts.1)

clear_plain : (us : List ℕ) → AreUnits us → is_plain us ≡ true → AreClear (map Character (utf16_lossy_chars us))
unfolding is_plain
clear_plain us are plain =
    let last : ((all_clear us && not (is_dots us) && not (has_unpaired_surrogate us)) ≡ true) × (is_in_form Nfd (utf16_lossy_chars us) ≡ true) = and_parts _ _ plain in
    let whole : ((all_clear us && not (is_dots us)) ≡ true) × (not (has_unpaired_surrogate us) ≡ true) = and_parts _ _ last.0 in
    let clear : (all_clear us ≡ true) × (not (is_dots us) ≡ true) = and_parts _ _ whole.0 in
    clear_characters (utf16_lossy_chars us) (ap all_clear (lossless us are (not-true _ whole.1)) ∙ clear.0)

pub dots_of : (us : List ℕ) → is_dots us ≡ true → (us ≡ 46 ∷ []) ⊎ (us ≡ 46 ∷ 46 ∷ [])
dots_of us dots = ⊎_elim (λ e. inl ((bytes_decides us (46 ∷ [])).0 e)) (λ e. inr ((bytes_decides us (46 ∷ 46 ∷ [])).0 e)) (or_cases _ _ dots)

clear_dots : (us : List ℕ) → is_dots us ≡ true → AreClear (slice_set (map unit_piece us) 0 (Escaped 46))
clear_dots us dots = ⊎_elim (λ e. rw e (refl, tt)) (λ e. rw e (refl, (refl, tt))) (dots_of us dots)

clear_printed : (us : List ℕ) → AreUnits us → AreClear (printed us)
unfolding printed
clear_printed us are =
    cond_both (is_plain us) (map Character (utf16_lossy_chars us)) (if is_dots us then slice_set (map unit_piece us) 0 (Escaped 46) else map unit_piece us) AreClear
    (λ plain. clear_plain us are plain)
    (λ _. cond_both (is_dots us) (slice_set (map unit_piece us) 0 (Escaped 46)) (map unit_piece us) AreClear (λ dots. clear_dots us dots) (λ _. clear_units us))

-- the characters of the text of a name
pub clear_text : (us : List ℕ) → AreUnits us → all_clear (text_of (printed us)) ≡ true
clear_text us are = clear_pieces (printed us) (clear_printed us are)

pub no_slash : (text : List ℕ) → all_clear text ≡ true → list_any (λ c. c == 47) text ≡ false
no_slash [] clear = refl
no_slash (c ∷ text) clear =
    let parts : (is_clear c ≡ true) × (all_clear text ≡ true) = and_parts _ _ clear in
    let other : (c == 47) ≡ false = grind (arith, nat_tests) in
    rw (other, no_slash text parts.1) refl

-- ---- the same in bytes

clear_bytes : (c : ℕ) → is_clear c ≡ true → all_clear (encode_utf8 c) ≡ true
unfolding encode
clear_bytes c clear =
    cond_both (nat_lt c 128) (c ∷ []) _ (λ x. all_clear x ≡ true)
    (λ _. rw clear refl)
    (λ _. cond_both (nat_lt c 2048) _ _ (λ x. all_clear x ≡ true)
    (λ _. rw (high_clear (192 + c / 64) (omega arith), high_clear (128 + c % 64) (omega arith)) refl)
    (λ _. cond_both (nat_lt c 65536) _ _ (λ x. all_clear x ≡ true)
    (λ _. rw (high_clear (224 + c / 4096) (omega arith), high_clear (128 + c / 64 % 64) (omega arith), high_clear (128 + c % 64) (omega arith)) refl)
    (λ _. rw (high_clear (240 + c / 262144) (omega arith), high_clear (128 + c / 4096 % 64) (omega arith), high_clear (128 + c / 64 % 64) (omega arith), high_clear (128 + c % 64) (omega arith)) refl)))

clear_encodes : (cs : List ℕ) → all_clear cs ≡ true → all_clear (encode_utf8_all cs) ≡ true
clear_encodes [] clear = refl
clear_encodes (c ∷ cs) clear =
    let parts : (is_clear c ≡ true) × (all_clear cs ≡ true) = and_parts _ _ clear in
    both_clear (encode_utf8 c) (encode_utf8_all cs) (clear_bytes c parts.0) (clear_encodes cs parts.1)

-- the bytes of the text of a name
pub clear_name : (us : List ℕ) → AreUnits us → all_clear (encode_utf8_all (component_text us)) ≡ true
unfolding component_text
clear_name us are = clear_encodes (text_of (printed us)) (clear_text us are)
