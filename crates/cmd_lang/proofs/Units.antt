-- What stands at a place of a text is read by tables.
use Rattle.std.proofs.Common.{◌≡◌, ◌++◌, ℕ, ◌+◌, ◌*◌, ◌<◌, ◌≤◌, List, [], ◌∷◌, true, length, take, get_or, get_or-set_other, get_or-set_same, slice_index, replicate, set, sym, ap, ◌∙◌, subst, arith, inl, inr}
use Rattle.std.specs.Fmt.{digit_glyph}
use Rattle.std.specs.List.{flat_map}
use Rattle.std.proofs.Math.Seq.{take-append-add}
use Rattle.std.proofs.lemmas.Nat.{mul-le}
use Rattle.std.proofs.lemmas.Bool.{cases_eq}
use Rattle.std.proofs.lemmas.List.{flat_map_more, append_assoc, get_or-replicate, length-take-le, take_more, take_more_set, take-take}
use Rattle.hfs_language.specs.Text.{byte_text}
use Rattle.cmd_lang.specs.Escapes.{AreDigits, IsDigit, IsKind}

-- a table that says nothing
abbrev filled : ℕ → ℕ → List ℕ
filled n number = replicate n number

pub no_digits : (n unit byte : ℕ) → byte < n → IsDigit unit byte (slice_index (filled n 256) byte)
no_digits n unit byte inside =
    let no : ℕ = 256 in
    let is : get_or (filled n no) byte 0 ≡ no = get_or-replicate n byte no 0 inside in
    (omega (arith, is), λ less. absurd (omega (arith, is, less)))

pub no_kinds : (n number : ℕ) → number < n → IsKind number (slice_index (filled n 2) number)
no_kinds n number inside =
    let no : ℕ = 2 in
    let is : get_or (filled n no) number 0 ≡ no = get_or-replicate n number no 0 inside in
    (λ zero. absurd (omega (arith, is, zero)), λ one. absurd (omega (arith, is, one)))

-- a digit more is known
pub one_digit : (table : List ℕ) (unit digit byte value : ℕ) → length table ≡ 256 → AreDigits unit table → unit ≤ 16 → digit < 16 → byte ≡ digit_glyph true digit → value ≡ unit * digit → AreDigits unit (set table byte value)
one_digit table unit digit byte value long are few small glyph is other inside =
    elim (cases_eq other byte) [
      | inl same ↦
          let at : byte < length table = omega (arith, same, inside, long) in
          let read : get_or (set table byte value) other 0 ≡ value = ap (λ (k : ℕ). get_or (set table byte value) k 0) same ∙ get_or-set_same table byte value 0 at in
          let most : unit * digit ≤ 16 * 15 = mul-le unit digit 16 15 few (omega (arith, small)) in
          (omega (arith, read, is, most), λ _. (digit, small, read ∙ is, sym glyph ∙ sym same))
      | inr apart ↦ subst (λ (n : ℕ). IsDigit unit other n) (sym (get_or-set_other table byte other value 0 apart)) (are other inside)
    ]

-- three bytes more of a text
three_more : (text : List ℕ) (at : ℕ) → at + 2 < length text → take (at + 3) text ≡ take at text ++ (get_or text at 0 ∷ get_or text (at + 1) 0 ∷ get_or text (at + 2) 0 ∷ [])
three_more text at inside =
    let a = get_or text at 0 in
    let b = get_or text (at + 1) 0 in
    let c = get_or text (at + 2) 0 in
    let two_is : at + 2 ≡ at + 1 + 1 = omega arith in
    let three_is : at + 3 ≡ at + 2 + 1 = omega arith in
    let one : take (at + 1) text ≡ take at text ++ a ∷ [] = take_more text at 0 (omega (arith, inside)) in
    let two : take (at + 2) text ≡ take (at + 1) text ++ b ∷ [] = ap (λ (k : ℕ). take k text) two_is ∙ take_more text (at + 1) 0 (omega (arith, inside)) in
    let three : take (at + 3) text ≡ take (at + 2) text ++ c ∷ [] = ap (λ (k : ℕ). take k text) three_is ∙ take_more text (at + 2) 0 inside in
    three ∙ ap (λ (l : List ℕ). l ++ c ∷ []) two ∙ append_assoc (take (at + 1) text) (b ∷ []) (c ∷ []) ∙ ap (λ (l : List ℕ). l ++ b ∷ c ∷ []) one ∙ append_assoc (take at text) (a ∷ []) (b ∷ c ∷ [])

-- so many of the three
few_more : (text : List ℕ) (at long : ℕ) → at + 2 < length text → long ≤ 3 → take (at + long) text ≡ take at text ++ take long (get_or text at 0 ∷ get_or text (at + 1) 0 ∷ get_or text (at + 2) 0 ∷ [])
few_more text at long inside few =
    let held : length (take at text) ≡ at = length-take-le at text (omega (arith, inside)) in
    sym (take-take (at + long) (at + 3) text (omega (arith, few)))
    ∙ ap (λ (l : List ℕ). take (at + long) l) (three_more text at inside)
    ∙ ap (λ (k : ℕ). take (k + long) (take at text ++ (get_or text at 0 ∷ get_or text (at + 1) 0 ∷ get_or text (at + 2) 0 ∷ []))) (sym held)
    ∙ take-append-add (take at text) (get_or text at 0 ∷ get_or text (at + 1) 0 ∷ get_or text (at + 2) 0 ∷ []) long

-- one byte more of a stretch is read
pub one_read : (text old new front : List ℕ) (at long count byte : ℕ) → at + 2 < length text → long ≤ 3 → count < length old → take long (get_or text at 0 ∷ get_or text (at + 1) 0 ∷ get_or text (at + 2) 0 ∷ []) ≡ byte_text byte → new ≡ set old count byte
    → take at text ≡ front ++ flat_map byte_text (take count old) → take (at + long) text ≡ front ++ flat_map byte_text (take (count + 1) new)
one_read text old new front at long count byte inside few room spelled is before =
    let stored : take (count + 1) new ≡ take count old ++ byte ∷ [] = ap (λ (l : List ℕ). take (count + 1) l) is ∙ take_more_set old count byte room in
    few_more text at long inside few ∙ ap (λ (l : List ℕ). take at text ++ l) spelled ∙ ap (λ (l : List ℕ). l ++ byte_text byte) before
    ∙ append_assoc front (flat_map byte_text (take count old)) (byte_text byte)
    ∙ ap (λ (l : List ℕ). front ++ l) (flat_map_more byte_text [] (take count old) byte ∙ ap (λ (l : List ℕ). flat_map byte_text l) (sym stored))
