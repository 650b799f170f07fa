-- A number is read where its decimal digits are the word.
use Rattle.std.proofs.Common.{◌≡◌, ◌≢◌, ℕ, ◌<◌, ◌^◌, true, false, ◌==◌, nat_lt, List, get_or, Result, Ok, Err, bytes_eq, decimal, refl, sym, ap, ◌∙◌, subst, arith}
use Rattle.std.specs.Cmp.Lexicographic.{bytes_decides}
use Rattle.std.specs.Str.Parse.{IsNumeral, digits_value, without_leading_plus, ParsesUnsigned}
use Rattle.std.proofs.lemmas.Fmt.{decimal_is_IsNumeral}
use Rattle.std.proofs.lemmas.Str.Parse.{digit_at}
use Rattle.std.proofs.lemmas.Bool.{cond-true, cond-false, and_parts, and_from, false_from_ne_true, lt-ltb, ltb-true, both_ways}
use Rattle.std.proofs.lemmas.Bool.Decides.{nat_tests}
use Rattle.hfs_language.specs.declared.refusal.Refusal.TheVariants.{BadCommand}
use Rattle.hfs_language.specs.Language.{number_of}

-- a numeral begins with no plus
no_plus : (text : List ℕ) → IsNumeral 10 text → without_leading_plus text ≡ text
no_plus text numeral =
    let first = digit_at text 0 numeral.1 numeral.0 in
    let test : (get_or text 0 0 == 43) ≡ false = grind (arith, nat_tests) in
    rw test refl

-- where the word is a number's decimal digits, so it parses
parsed : {E : Type 0} (text : List ℕ) (n : ℕ) (r : Result ℕ E) → n < 2 ^ 64 → text ≡ decimal n → ParsesUnsigned 64 10 text r → r ≡ Ok n
parsed text n (Ok m) small is parses =
    let known = decimal_is_IsNumeral n small in
    let numeral : IsNumeral 10 text = rw is known.0 in
    let value : digits_value 10 text ≡ n = rw is known.1 in
    let plus : digits_value 10 (without_leading_plus text) ≡ n = rw (no_plus text numeral) value in
    ap (λ x. Ok x) (parses.1 ∙ plus)
parsed text n (Err e) small is parses =
    let known = decimal_is_IsNumeral n small in
    let numeral : IsNumeral 10 text = rw is known.0 in
    let value : digits_value 10 text ≡ n = rw is known.1 in
    absurd (parses (rw (no_plus text numeral) (numeral, rw value small)))

pub number_of-decimal : (n : ℕ) → n < 2 ^ 64 → number_of (decimal n) ≡ Ok n
unfolding number_of
number_of-decimal n small =
    let value = (decimal_is_IsNumeral n small).1 in
    rw value (cond-true _ _ _ (and_from _ _ ((bytes_decides (decimal n) (decimal n)).1 refl) (lt-ltb n (2 ^ 64) small)))

pub number_of-other : (text : List ℕ) → ((n : ℕ) → n < 2 ^ 64 → text ≢ decimal n) → number_of text ≡ Err BadCommand
unfolding number_of
number_of-other text other =
    cond-false _ _ _ (false_from_ne_true _ (λ both.
    let parts : (bytes_eq text (decimal (digits_value 10 text)) ≡ true) × (nat_lt (digits_value 10 text) (2 ^ 64) ≡ true) = and_parts _ _ both in
    other (digits_value 10 text) (ltb-true _ _ parts.1) ((bytes_decides text (decimal (digits_value 10 text))).0 parts.0)))

pub number_read : {E : Type 0} (text : List ℕ) (n : ℕ) (r : Result ℕ E) → r ≡ Ok n → ParsesUnsigned 64 10 text r → bytes_eq text (decimal n) ≡ true → number_of text ≡ Ok n
number_read {E} text n r ok parses test =
    let is = (bytes_decides text (decimal n)).0 test in
    let known = subst (λ x. ParsesUnsigned {E = E} 64 10 text x) ok parses in
    let small : n < 2 ^ 64 = rw known.1 known.0.1 in
    rw is (number_of-decimal n small)

pub number_unlike : {E : Type 0} (text : List ℕ) (n : ℕ) (r : Result ℕ E) → r ≡ Ok n → ParsesUnsigned 64 10 text r → bytes_eq text (decimal n) ≡ false → number_of text ≡ Err BadCommand
number_unlike text n r ok parses test =
    number_of-other text (λ m small is.
    let both : Ok n ≡ Ok m = sym ok ∙ parsed text m r small is parses in
    let same : n ≡ m = cc in
    both_ways _ test ((bytes_decides text (decimal n)).1 (is ∙ ap decimal (sym same))))

pub number_unparsed : {E : Type 0} (text : List ℕ) (e : E) (r : Result ℕ E) → r ≡ Err e → ParsesUnsigned 64 10 text r → number_of text ≡ Err BadCommand
number_unparsed text e r err parses =
    number_of-other text (λ m small is. let never : Err e ≡ Ok m = sym err ∙ parsed text m r small is parses in cc)
