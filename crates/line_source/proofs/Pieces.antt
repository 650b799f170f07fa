-- Bytes up to a newline, and a line that gets them.
use Rattle.std.proofs.Common.{◌≡◌, ◌==◌, ◌≤◌, ◌<◌, ◌+◌, ◌-◌, ◌++◌, ◌∷◌, ◌||◌, [], ℕ, zero, suc, Bool, true, false, List, length, take, drop, get_or, refl, sym, ◌∙◌, ap, subst, arith}
use Rattle.std.proofs.lemmas.Bool.Decides.{nat_tests}
use Rattle.std.proofs.lemmas.List.{take_all, take-append-drop, drop_more, get_or-take, length-take, length-take-le, drop-drop, drop-take}
use Rattle.std.proofs.lemmas.List.Elements.{All-from_get_or, All-head, All-tail}
use Rattle.memchr.specs.Find.{Nowhere, NoneBefore, Passes, is_byte}
use Rattle.hfs_language.specs.Lines.{HasNoNewline}
use Rattle.line_source.specs.Batch.{has_newline}
use Rattle.line_source.specs.Cutting.{Cuts}
use Rattle.line_source.specs.Input.{IsLine}

-- ---- what is held of a text with more behind it

take_both : (n : ℕ) (text more : List ℕ) → take n (text ++ more) ≡ take n text ++ take (n - length (take n text)) more
take_both zero text more = refl
take_both (suc n) [] more =
    let whole : suc n ≡ suc n - 0 = omega arith in
    ap (λ (k : ℕ). take k more) whole
take_both (suc n) (byte ∷ text) more =
    let less : suc n - suc (length (take n text)) ≡ n - length (take n text) = omega arith in
    ap (λ (l : List ℕ). byte ∷ l) (take_both n text more ∙ ap (λ (k : ℕ). take n text ++ take k more) (sym less))

pub line_joins : (limit : ℕ) (piece line held new : List ℕ) → held ≡ take (limit + 1 - length line) piece → new ≡ line ++ held → (text : List ℕ) → IsLine limit text line → IsLine limit (text ++ piece) new
line_joins limit piece line held new held_is new_is text is =
    new_is ∙ ap (λ (l : List ℕ). line ++ l) held_is ∙ ap (λ (l : List ℕ). l ++ take (limit + 1 - length l) piece) is ∙ sym (take_both (limit + 1) text piece)

pub none_held : (limit held : ℕ) (piece : List ℕ) → limit < held → [] ≡ take (limit + 1 - held) piece
none_held limit held piece past =
    let none : 0 ≡ limit + 1 - held = omega (arith, past) in
    ap (λ (k : ℕ). take k piece) none

pub some_held : (limit held : ℕ) (piece : List ℕ) → held ≤ limit → take (limit - held + 1) piece ≡ take (limit + 1 - held) piece
some_held limit held piece within =
    let same : limit - held + 1 ≡ limit + 1 - held = omega (arith, within) in
    ap (λ (k : ℕ). take k piece) same

pub all_held : (limit held : ℕ) (piece : List ℕ) → length piece ≤ limit - held → piece ≡ take (limit + 1 - held) piece
all_held limit held piece few = sym (take_all (limit + 1 - held) piece (omega (arith, few)))

-- ---- where the first newline stands

or_true : (a b : Bool) → b ≡ true → (a || b) ≡ true
or_true true b is = refl
or_true false b is = is

passes_not : (bytes : List ℕ) (k : ℕ) → (Passes (is_byte 10) bytes k → ⊥) → get_or bytes k 0 ≡ 10 → ⊥
passes_not bytes k other is = other (grind (arith, nat_tests, is))

pub none_among : (bytes : List ℕ) → Nowhere (Passes (is_byte 10) bytes) 0 (length bytes) → HasNoNewline bytes
none_among bytes nowhere = All-from_get_or (λ b. b ≡ 10 → ⊥) bytes 0 (λ k inside. passes_not bytes k (nowhere k (omega arith) inside))

module _ (bytes : List ℕ) (k : ℕ) (first : NoneBefore (Passes (is_byte 10) bytes) 0 (length bytes) k) (there : Passes (is_byte 10) bytes k) where
  none_before : HasNoNewline (take k bytes)
  none_before =
      let long : length (take k bytes) ≡ k = length-take-le k bytes (omega (arith, first.high)) in
      All-from_get_or (λ b. b ≡ 10 → ⊥) (take k bytes) 0
      (λ i inside.
      let below : i < k = omega (arith, inside, long) in
      subst (λ (b : ℕ). b ≡ 10 → ⊥) (sym (get_or-take k bytes i 0 below)) (passes_not bytes i (first.before i (omega arith) below)))

  newline_is : get_or bytes k 0 ≡ 10
  newline_is = grind (arith, nat_tests, there)

  cut_there : bytes ≡ take k bytes ++ 10 ∷ drop (k + 1) bytes
  cut_there = sym (take-append-drop k bytes) ∙ ap (λ (l : List ℕ). take k bytes ++ l) (drop_more bytes k 0 first.high) ∙ ap (λ (b : ℕ). take k bytes ++ b ∷ drop (k + 1) bytes) newline_is

  pub cut_at : (limit : ℕ) (line new : List ℕ) → ((text : List ℕ) → IsLine limit text line → IsLine limit (text ++ take k bytes) new) → Cuts limit bytes line true (drop (k + 1) bytes) new
  cut_at limit line new joins = record { piece = take k bytes; no_newline = none_before; joins = joins; at_newline = λ ended. cut_there; at_end = λ not. absurd (cc not) }

  pub some_newline : true ≡ has_newline bytes
  some_newline = sym (any_behind (take k bytes)) ∙ ap has_newline (sym cut_there)
    where
      any_behind : (front : List ℕ) → has_newline (front ++ 10 ∷ drop (k + 1) bytes) ≡ true
      any_behind [] = refl
      any_behind (byte ∷ front) = or_true (byte == 10) _ (any_behind front)

-- there is none
pub cut_none : (limit : ℕ) (bytes line new : List ℕ) → Nowhere (Passes (is_byte 10) bytes) 0 (length bytes) → ((text : List ℕ) → IsLine limit text line → IsLine limit (text ++ bytes) new) → Cuts limit bytes line false [] new
cut_none limit bytes line new nowhere joins = record { piece = bytes; no_newline = none_among bytes nowhere; joins = joins; at_newline = λ ended. absurd (cc ended); at_end = λ not. (refl, refl) }

pub no_newline_any : (bytes : List ℕ) → HasNoNewline bytes → false ≡ has_newline bytes
no_newline_any [] none = refl
no_newline_any (byte ∷ bytes) none =
    no_newline_any bytes (All-tail (λ b. b ≡ 10 → ⊥) byte bytes none) ∙ ap (λ (b : Bool). b || has_newline bytes) (sym (not_ten byte (All-head (λ b. b ≡ 10 → ⊥) byte bytes none)))
  where
    not_ten : (byte : ℕ) → (byte ≡ 10 → ⊥) → (byte == 10) ≡ false
    not_ten byte other = grind (arith, nat_tests, other)

-- ---- the same of the part of a buffer that is left

part_behind : (start end at : ℕ) (items : List ℕ) → at < length (take (end - start) (drop start items)) → drop (at + 1) (take (end - start) (drop start items)) ≡ take (end - (start + (at + 1))) (drop (start + (at + 1)) items)
part_behind start end at items inside =
    let less : at < end - start = omega (arith, inside, length-take (end - start) (drop start items)) in
    let split : end - start ≡ (at + 1) + (end - (start + (at + 1))) = omega (arith, less) in
    ap (λ (n : ℕ). drop (at + 1) (take n (drop start items))) split ∙ drop-take (at + 1) (end - (start + (at + 1))) (drop start items)
    ∙ ap (λ (l : List ℕ). take (end - (start + (at + 1))) l) (drop-drop (at + 1) start items)

pub part_cut : (limit start end at : ℕ) (items held taken line new : List ℕ) → held ≡ items → taken ≡ take (end - start) (drop start items)
    → NoneBefore (Passes (is_byte 10) (take (end - start) (drop start held))) 0 (length (take (end - start) (drop start held))) at → Passes (is_byte 10) (take (end - start) (drop start held)) at
    → ((text : List ℕ) → IsLine limit text line → IsLine limit (text ++ take at (take (end - start) (drop start held))) new)
    → Cuts limit taken line true (take (end - (start + (at + 1))) (drop (start + (at + 1)) items)) new
part_cut limit start end at items held taken line new same is first there joins =
    let cuts = cut_at (take (end - start) (drop start held)) at first there limit line new joins in
    let behind = part_behind start end at held first.high ∙ ap (λ (l : List ℕ). take (end - (start + (at + 1))) (drop (start + (at + 1)) l)) same in
    let taken_is : take (end - start) (drop start held) ≡ taken = ap (λ (l : List ℕ). take (end - start) (drop start l)) same ∙ sym is in
    subst (λ (l : List ℕ). Cuts limit l line true (take (end - (start + (at + 1))) (drop (start + (at + 1)) items)) new) taken_is
    (subst (λ (l : List ℕ). Cuts limit (take (end - start) (drop start held)) line true l new) behind cuts)

pub part_whole : (limit start end : ℕ) (items held taken line new : List ℕ) → held ≡ items → taken ≡ take (end - start) (drop start items)
    → Nowhere (Passes (is_byte 10) (take (end - start) (drop start held))) 0 (length (take (end - start) (drop start held)))
    → ((text : List ℕ) → IsLine limit text line → IsLine limit (text ++ take (end - start) (drop start held)) new)
    → Cuts limit taken line false (take (end - end) (drop end items)) new
part_whole limit start end items held taken line new same is nowhere joins =
    let nothing : 0 ≡ end - end = omega arith in
    let none : [] ≡ take (end - end) (drop end items) = ap (λ (n : ℕ). take n (drop end items)) nothing in
    let taken_is : take (end - start) (drop start held) ≡ taken = ap (λ (l : List ℕ). take (end - start) (drop start l)) same ∙ sym is in
    subst (λ (l : List ℕ). Cuts limit l line false (take (end - end) (drop end items)) new) taken_is
    (subst (λ (l : List ℕ). Cuts limit (take (end - start) (drop start held)) line false l new) none (cut_none limit (take (end - start) (drop start held)) line new nowhere joins))
