-- Bytes are spelled into a room.
use Rattle.std.proofs.Common.{◌≡◌, ◌++◌, ℕ, ◌+◌, ◌/◌, ◌%◌, ◌<◌, ◌≤◌, List, [], ◌∷◌, true, false, length, take, get_or, slice_index, slice_index_or, sym, ap, ◌∙◌, arith, ⊎_elim}
use Rattle.std.specs.List.{flat_map}
use Rattle.std.specs.Fmt.{digit_glyph}
use Rattle.std.proofs.Math.Seq.{take-append_seam}
use Rattle.std.proofs.lemmas.Bool.{cases_Bool, cond-true, cond-false}
use Rattle.std.proofs.lemmas.List.{flat_map_more, append_assoc, length-append, length-take-le, take_more, take-take}
use Rattle.std.proofs.lemmas.Grind.{flat_map-append}
use Rattle.hfs_language.specs.Text.{byte_text, is_plain}
use Rattle.cmd_lang.specs.Spellings.{AreSpellings}

-- one byte more of a piece is spelled
pub one_spelled : (room after piece : List ℕ) (at more i : ℕ) → i < length piece → take at room ≡ flat_map byte_text (take i piece) → take (at + more) after ≡ take at room ++ byte_text (get_or piece i 0) → take (at + more) after ≡ flat_map byte_text (take (i + 1) piece)
one_spelled room after piece at more i inside before step =
    step ∙ ap (λ (l : List ℕ). l ++ byte_text (get_or piece i 0)) before ∙ flat_map_more byte_text [] (take i piece) (get_or piece i 0) ∙ ap (λ (l : List ℕ). flat_map byte_text l) (sym (take_more piece i 0 inside))

-- one piece more of a value is appended
pub piece_appended : (text piece behind rest : List ℕ) → rest ≡ piece ++ behind → (text ++ flat_map byte_text piece) ++ flat_map byte_text behind ≡ text ++ flat_map byte_text rest
piece_appended text piece behind rest is =
    append_assoc text (flat_map byte_text piece) (flat_map byte_text behind) ∙ ap (λ (l : List ℕ). text ++ l) (sym (flat_map-append byte_text piece behind) ∙ ap (λ (l : List ℕ). flat_map byte_text l) (sym is))

-- of what was stored the front is kept
front_stored : (old new front back : List ℕ) (at n : ℕ) → at + n ≤ length old → take (at + n) new ≡ take at old ++ (front ++ back) → length front ≤ n → take (at + length front) new ≡ take at old ++ front
front_stored old new front back at n within stored few =
    let held : length (take at old) ≡ at = length-take-le at old (omega arith) in
    let long : at + length front ≡ length (take at old ++ front) = omega (arith, held, length-append (take at old) front) in
    sym (take-take (at + length front) (at + n) new (omega arith)) ∙ ap (λ (l : List ℕ). take (at + length front) l) (stored ∙ sym (append_assoc (take at old) front back))
    ∙ ap (λ (k : ℕ). take k ((take at old ++ front) ++ back)) long ∙ take-append_seam (take at old ++ front) back

-- a percent sign and two digits
abbrev escape : ℕ → List ℕ
escape b = 37 ∷ digit_glyph true (b / 16 % 16) ∷ digit_glyph true (b % 16) ∷ []

-- one byte is spelled
pub entry_stored : (old new : List ℕ) (table : List (List ℕ)) (at b i n : ℕ) → AreSpellings table → b < 256 → at + 4 ≤ length old → i ≡ b → n ≡ slice_index (slice_index_or table i []) 3 → take (at + 4) new ≡ take at old ++ slice_index_or table i [] → take (at + n) new ≡ take at old ++ byte_text b
entry_stored old new table at b i n are small within same number stored =
    ⊎_elim
    (λ (plain : is_plain b ≡ true).
    let spelled : byte_text b ≡ b ∷ [] = cond-true _ _ _ plain in
    let known : slice_index_or table i [] ≡ b ∷ 0 ∷ 0 ∷ 1 ∷ [] = ap (λ (k : ℕ). slice_index_or table k []) same ∙ are b small ∙ cond-true _ _ _ plain in
    let one : n ≡ 1 = number ∙ ap (λ (l : List ℕ). slice_index l 3) known in
    rw (one, spelled) (front_stored old new (b ∷ []) (0 ∷ 0 ∷ 1 ∷ []) at 4 within (stored ∙ ap (λ (l : List ℕ). take at old ++ l) known) (omega arith)))
    (λ (other : is_plain b ≡ false).
    let spelled : byte_text b ≡ escape b = cond-false _ _ _ other in
    let known : slice_index_or table i [] ≡ escape b ++ 3 ∷ [] = ap (λ (k : ℕ). slice_index_or table k []) same ∙ are b small ∙ cond-false _ _ _ other in
    let three : n ≡ 3 = number ∙ ap (λ (l : List ℕ). slice_index l 3) known in
    rw (three, spelled) (front_stored old new (escape b) (3 ∷ []) at 4 within (stored ∙ ap (λ (l : List ℕ). take at old ++ l) known) (omega arith)))
    (cases_Bool (is_plain b))
