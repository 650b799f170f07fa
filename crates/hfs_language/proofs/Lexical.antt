-- Numbers are read where they are spelled.
use Rattle.std.proofs.Common.{◌≡◌, ℕ, ◌<◌, ◌^◌, true, ◌&&◌, nat_lt, List, Result, Ok, Err, bytes_eq, decimal, refl}
use Rattle.std.specs.Cmp.Lexicographic.{bytes_decides}
use Rattle.std.specs.Str.Parse.{digits_value}
use Rattle.std.proofs.lemmas.Fmt.{decimal_is_IsNumeral}
use Rattle.std.proofs.lemmas.Bool.{cond_both, cond-true, and_parts, and_from, lt-ltb, ltb-true}
use Rattle.hfs_language.specs.declared.refusal.Refusal.{Refusal}
use Rattle.hfs_language.specs.declared.refusal.Refusal.TheVariants.{BadCommand}
use Rattle.hfs_language.specs.Language.{number_of, within_moment}
use Rattle.hfs_language.specs.Spelling.{IsNumber}

pub number_is_read : (word : List ℕ) (n : ℕ) → IsNumber word n → number_of word ≡ Ok n
unfolding number_of
number_is_read word n is =
    let value = (decimal_is_IsNumeral n is.1).1 in
    rw (is.0, value) (cond-true _ _ _ (and_from _ _ ((bytes_decides (decimal n) (decimal n)).1 refl) (lt-ltb n (2 ^ 64) is.1)))

pub number_is_spelled : (word : List ℕ) (n : ℕ) → number_of word ≡ Ok n → IsNumber word n
unfolding number_of
number_is_spelled word n =
    let v = digits_value 10 word in
    cond_both (bytes_eq word (decimal v) && nat_lt v (2 ^ 64)) (Ok v) (Err BadCommand) (λ r. r ≡ Ok n → IsNumber word n)
    (λ test is.
    let parts : (bytes_eq word (decimal v) ≡ true) × (nat_lt v (2 ^ 64) ≡ true) = and_parts _ _ test in
    let same : v ≡ n = cc in
    rw (← same) ((bytes_decides word (decimal v)).0 parts.0, ltb-true v (2 ^ 64) parts.1))
    (λ _ never. absurd (cc))

abbrev IsOk : ℕ → ℕ → Type 0
IsOk m n = let r : Result ℕ Refusal = Ok m in r ≡ Ok n

moment_within : (m n : ℕ) → within_moment (Ok m) ≡ Ok n → IsOk m n × (n < 2 ^ 32)
moment_within m n =
    cond_both (nat_lt m (2 ^ 32)) (Ok m) (Err BadCommand) (λ (r : Result ℕ Refusal). r ≡ Ok n → IsOk m n × (n < 2 ^ 32))
    (λ test is. let same : m ≡ n = cc in (is, rw (← same) (ltb-true m (2 ^ 32) test)))
    (λ _ never. absurd {0} (cc))

pub moment_is_spelled : (r : Result ℕ Refusal) (n : ℕ) → within_moment r ≡ Ok n → (r ≡ Ok n) × (n < 2 ^ 32)
moment_is_spelled (Ok m) n = moment_within m n
moment_is_spelled (Err why) n = λ never. absurd {0} (cc)
