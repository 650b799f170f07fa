-- Words of a line, and where they end.
use Rattle.std.proofs.Common.{◌≡◌, ℕ, zero, suc, ◌/◌, ◌%◌, ◌<◌, ◌≤◌, Bool, true, false, ◌==◌, ◌&&◌, nat_le, List, [], ◌∷◌, ◌++◌, length, decimal, refl, sym, ap, ◌∙◌, arith}
use Rattle.std.specs.List.{list_all}
use Rattle.std.specs.Fmt.{digit_glyph, digits_onto, digits}
use Rattle.std.proofs.lemmas.Bool.{cond_both, and_parts}
use Rattle.std.proofs.lemmas.Bool.Decides.{nat_tests}
use Rattle.name_text.specs.Printing.{is_clear}
use Rattle.name_text.proofs.Clear.{all_clear}
use Rattle.hfs_language.proofs.Shown.{both_tails}

-- a word ends at the first byte that is a control, a space or a slash
pub word_ends : (one other : List ℕ) (x y : ℕ) (xs ys : List ℕ) → all_clear one ≡ true → all_clear other ≡ true → is_clear x ≡ false → is_clear y ≡ false → one ++ x ∷ xs ≡ other ++ y ∷ ys → (one ≡ other) × (x ∷ xs ≡ y ∷ ys)
word_ends [] [] x y xs ys ca cb ex ey is = (refl, is)
word_ends [] (b ∷ bs) x y xs ys ca cb ex ey is =
    let same = (both_tails x b xs (bs ++ y ∷ ys) is).0 in
    let clear : (is_clear b ≡ true) × (all_clear bs ≡ true) = and_parts _ _ cb in
    let never : false ≡ true = sym ex ∙ ap is_clear same ∙ clear.0 in
    absurd (cc)
word_ends (a ∷ ns) [] x y xs ys ca cb ex ey is =
    let same = (both_tails a y (ns ++ x ∷ xs) ys is).0 in
    let clear : (is_clear a ≡ true) × (all_clear ns ≡ true) = and_parts _ _ ca in
    let never : false ≡ true = sym ey ∙ ap is_clear (sym same) ∙ clear.0 in
    absurd (cc)
word_ends (a ∷ ns) (b ∷ bs) x y xs ys ca cb ex ey is =
    let parts = both_tails a b (ns ++ x ∷ xs) (bs ++ y ∷ ys) is in
    let clear_a : (is_clear a ≡ true) × (all_clear ns ≡ true) = and_parts _ _ ca in
    let clear_b : (is_clear b ≡ true) × (all_clear bs ≡ true) = and_parts _ _ cb in
    let rest = word_ends ns bs x y xs ys clear_a.1 clear_b.1 ex ey parts.1 in
    let whole : a ∷ ns ≡ b ∷ bs = cc (parts.0, rest.0) in
    (whole, rest.1)

-- ---- decimal numbers

abbrev pub is_digit : ℕ → Bool
is_digit b = nat_le 48 b && nat_le b 57

last_digit : (n : ℕ) → is_digit (digit_glyph false (n % 10)) ≡ true
last_digit n = let small : n % 10 < 10 = omega arith in grind (arith, nat_tests)

all_digits : (k n : ℕ) (text : List ℕ) → list_all is_digit text ≡ true → list_all is_digit (digits_onto k 10 false n text) ≡ true
all_digits zero n text are = are
all_digits (suc k) n text are =
    let more : list_all is_digit (digit_glyph false (n % 10) ∷ text) ≡ true = rw (last_digit n, are) refl in
    cond_both (n / 10 == 0) _ _ (λ x. list_all is_digit x ≡ true) (λ _. more) (λ _. all_digits k (n / 10) (digit_glyph false (n % 10) ∷ text) more)

some_digits : (k n : ℕ) (text : List ℕ) → 0 < length text → 0 < length (digits_onto k 10 false n text)
some_digits zero n text some = some
some_digits (suc k) n text some =
    cond_both (n / 10 == 0) _ _ (λ x. 0 < length x) (λ _. omega arith) (λ _. some_digits k (n / 10) (digit_glyph false (n % 10) ∷ text) (omega arith))

some_first : (k n : ℕ) → 0 < length (digits_onto (suc k) 10 false n [])
some_first k n =
    cond_both (n / 10 == 0) (digit_glyph false (n % 10) ∷ []) (digits_onto k 10 false (n / 10) (digit_glyph false (n % 10) ∷ [])) (λ x. 0 < length x)
    (λ _. omega arith)
    (λ _. some_digits k (n / 10) (digit_glyph false (n % 10) ∷ []) (omega arith))

first_of : (text : List ℕ) → 0 < length text → list_all is_digit text ≡ true → (d : ℕ) × (ds : List ℕ) × (48 ≤ d) × (d ≤ 57) × (text ≡ d ∷ ds)
first_of [] some are = absurd (omega arith)
first_of (d ∷ ds) some are =
    let parts : (is_digit d ≡ true) × (list_all is_digit ds ≡ true) = and_parts _ _ are in
    (d, ds, grind (arith, nat_tests), grind (arith, nat_tests), refl)

pub decimal_digits : (n : ℕ) → list_all is_digit (decimal n) ≡ true
unfolding digits
decimal_digits n = all_digits 64 n [] refl

-- a number begins with a digit
pub first_digit : (n : ℕ) → (d : ℕ) × (ds : List ℕ) × (48 ≤ d) × (d ≤ 57) × (decimal n ≡ d ∷ ds)
unfolding digits
first_digit n = first_of (decimal n) (some_first 63 n) (decimal_digits n)

clear_digits : (text : List ℕ) → list_all is_digit text ≡ true → all_clear text ≡ true
clear_digits [] are = refl
clear_digits (d ∷ ds) are =
    let parts : (is_digit d ≡ true) × (list_all is_digit ds ≡ true) = and_parts _ _ are in
    let clear : is_clear d ≡ true = grind (arith, nat_tests) in
    rw (clear, clear_digits ds parts.1) refl

pub clear_decimal : (n : ℕ) → all_clear (decimal n) ≡ true
clear_decimal n = clear_digits (decimal n) (decimal_digits n)
