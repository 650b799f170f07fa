-- Code units, and characters in UTF-16.
use Rattle.std.proofs.Common.{◌≡◌, ℕ, suc, ◌+◌, ◌/◌, ◌%◌, ◌-◌, ◌<◌, ◌≤◌, ◌^◌, Bool, true, false, not, ◌&&◌, nat_le, nat_lt, List, [], ◌∷◌, map, flat_map, Option, Some, None, is_some, unwrap_or, refl, ◌∙◌, arith, get_or}
use Rattle.std.specs.List.{list_any}
use Rattle.std.specs.Char.Escape.{encode_utf16}
use Rattle.std.specs.Char.Utf16.{utf16_chars, is_high_surrogate, is_low_surrogate, surrogate_pair_char, lone_unit_char}
use Rattle.name_text.specs.Laws.{AreUnits}
use Rattle.std.proofs.lemmas.Bool.{cond-true, cond-false, cond_both, and_parts}
use Rattle.std.proofs.lemmas.Bool.Decides.{nat_tests}

pub units_by_index : (us : List ℕ) → ((k : ℕ) → get_or us k 0 < 2 ^ 16) → AreUnits us
units_by_index [] each = tt
units_by_index (u ∷ us) each = (each 0, units_by_index us (λ k. each (suc k)))

-- ---- valid UTF-16

pub encode_one : (u : ℕ) → u < 2 ^ 16 → encode_utf16 u ≡ u ∷ []
encode_one u small = let test : nat_lt u 0x1_0000 ≡ true = grind (arith, nat_tests) in cond-true _ _ _ test

encode_pair : (u v : ℕ) → (is_high_surrogate u && is_low_surrogate v) ≡ true → encode_utf16 (surrogate_pair_char u v) ≡ u ∷ v ∷ []
encode_pair u v pair =
    let parts : (is_high_surrogate u ≡ true) × (is_low_surrogate v ≡ true) = and_parts _ _ pair in
    let high : (0xD800 ≤ u) × (u < 0xDC00) = (grind (arith, nat_tests), grind (arith, nat_tests)) in
    let low : (0xDC00 ≤ v) × (v < 0xE000) = (grind (arith, nat_tests), grind (arith, nat_tests)) in
    let first : 0xD800 + (surrogate_pair_char u v - 0x1_0000) / 0x400 ≡ u = omega arith in
    let second : 0xDC00 + (surrogate_pair_char u v - 0x1_0000) % 0x400 ≡ v = omega arith in
    let large : nat_lt (surrogate_pair_char u v) 0x1_0000 ≡ false = grind (arith, nat_tests) in
    cond-false _ _ _ large ∙ rw (first, second) refl

-- the characters of units, where each is there
abbrev pub these : List (Option ℕ) → List ℕ
these = map (λ o. unwrap_or o 0xFFFD)

abbrev unpaired : List (Option ℕ) → Bool
unpaired = list_any (λ o. not (is_some o))

lone_back : (u : ℕ) (rest : List (Option ℕ)) (us : List ℕ) → u < 2 ^ 16 → unpaired (lone_unit_char u ∷ rest) ≡ false → (unpaired rest ≡ false → flat_map encode_utf16 (these rest) ≡ us) → flat_map encode_utf16 (these (lone_unit_char u ∷ rest)) ≡ u ∷ us
lone_back u rest us small =
    cond_both (nat_le 0xD800 u && nat_lt u 0xE000) None (Some u) (λ o. unpaired (o ∷ rest) ≡ false → (unpaired rest ≡ false → flat_map encode_utf16 (these rest) ≡ us) → flat_map encode_utf16 (these (o ∷ rest)) ≡ u ∷ us)
    (λ _ paired goes. absurd (cc))
    (λ _ paired goes. rw (encode_one u small, goes paired) refl)

pub lossless : (us : List ℕ) → AreUnits us → unpaired (utf16_chars us) ≡ false → flat_map encode_utf16 (these (utf16_chars us)) ≡ us
unfolding utf16_chars
lossless [] are paired = refl
lossless (u ∷ []) are paired = lone_back u [] [] are.0 paired (λ _. refl)
lossless (u ∷ v ∷ us) are paired =
    let after_pair = lossless us are.1.1 in
    let after_one = lossless (v ∷ us) are.1 in
    cond_both (is_high_surrogate u && is_low_surrogate v) (Some (surrogate_pair_char u v) ∷ utf16_chars us) (lone_unit_char u ∷ utf16_chars (v ∷ us)) (λ os. unpaired os ≡ false → flat_map encode_utf16 (these os) ≡ u ∷ v ∷ us)
    (λ pair whole. rw (encode_pair u v pair, after_pair whole) refl)
    (λ _ whole. lone_back u (utf16_chars (v ∷ us)) (v ∷ us) are.0 whole after_one)
    paired
