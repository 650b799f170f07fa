-- Words that are no options.
use Rattle.std.proofs.Common.{◌≡◌, ◌≢◌, ◌==◌, ◌<◌, ◌^◌, ℕ, List, None, [], ◌∷◌, refl, false, zero, suc, length, get_or, arith, ⊎_elim, decimal, subst, sym}
use Rattle.std.proofs.lemmas.Bool.Decides.{eqb_tells}
use Rattle.std.proofs.lemmas.Fmt.{decimal_digit, decimal_nonempty, first_decimal}
use Rattle.std.specs.Str.{bytes_eq}
use Rattle.clap.specs.Lexer.{long_of, short_of}
use Rattle.cli_words.specs.Words.{MayName}

-- The word doesn't begin with `-`, so it is a value.
pub record IsPlain (word : List ℕ) : Type 0 where
  pub no_dashes : bytes_eq word (45 ∷ 45 ∷ []) ≡ false
  pub no_long : long_of word ≡ None
  pub no_short : short_of word ≡ None

plain_by : (x : ℕ) (xs : List ℕ) → (x == 45) ≡ false → IsPlain (x ∷ xs)
plain_by x xs e = record { no_dashes = rw e refl; no_long = rw e refl; no_short = rw e refl }

plain_from : (x : ℕ) (xs : List ℕ) → x ≢ 45 → IsPlain (x ∷ xs)
plain_from x xs apart = ⊎_elim (λ same. absurd (apart same.1)) (λ other. plain_by x xs other.0) (eqb_tells x 45)

plain_first : (word : List ℕ) → 0 < length word → get_or word 0 0 ≢ 45 → IsPlain word
plain_first [] some apart = absurd (omega (arith, some))
plain_first (x ∷ xs) some apart = plain_from x xs apart

-- a word that may name an image
pub plain_name : (word : List ℕ) → MayName word → IsPlain word
plain_name [] name = absurd (name.some refl)
plain_name (x ∷ xs) name = plain_from x xs name.no_option

-- a number
pub plain_number : (n : ℕ) → n < 2 ^ 64 → IsPlain (decimal n)
plain_number zero small = subst IsPlain (sym (decimal_digit 0 (omega arith))) (plain_by 48 [] refl)
plain_number (suc n) small =
    let first = first_decimal (suc n) (omega arith) small in
    plain_first (decimal (suc n)) (decimal_nonempty (suc n) small) (λ is. absurd (omega (arith, is, first)))
