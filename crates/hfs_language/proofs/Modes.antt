-- Modes and names of attributes are read exactly where they are spelled.
use Rattle.std.proofs.Common.{◌≡◌, ℕ, ◌+◌, ◌-◌, ◌<◌, ◌≤◌, Bool, true, false, ◌&&◌, nat_le, nat_lt, List, [], ◌∷◌, length, Result, Ok, Err, refl, ◌∙◌, ap, subst, arith, if◌then◌else◌}
use Rattle.std.specs.List.{list_all}
use Rattle.std.specs.Str.Parse.{digits_value}
use Rattle.std.specs.Char.{digit_value}
use Rattle.std.proofs.lemmas.Bool.{cond-false, cond_both, and_parts}
use Rattle.std.proofs.lemmas.Bool.Decides.{nat_tests}
use Rattle.hfs_language.specs.declared.refusal.Refusal.{Refusal}
use Rattle.hfs_language.specs.declared.refusal.Refusal.TheVariants.{BadCommand, NameTooLong}
use Rattle.hfs_language.specs.Language.{is_octal, mode_of, name_of, attribute_of, limited}
use Rattle.hfs_language.specs.Spelling.{IsOctalDigit, IsReadAsMode, IsReadAsAttribute}
use Rattle.hfs_language.proofs.Results.{err_never, ok_same}

octal_digit : (d : ℕ) → d < 8 → is_octal (48 + d) ≡ true
octal_digit d small = grind (arith, nat_tests)

octal_value : (d : ℕ) → d < 8 → digit_value (48 + d) ≡ d
octal_value d small = grind (arith, nat_tests)

-- an octal digit's value
octal_is : (c : ℕ) → is_octal c ≡ true → IsOctalDigit c (c - 48)
octal_is c is = (grind (arith, nat_tests), grind (arith, nat_tests))

value_is : (c d : ℕ) → IsOctalDigit c d → digit_value c ≡ d
value_is c d is = ap digit_value is.1 ∙ octal_value d is.0

test_is : (c d : ℕ) → IsOctalDigit c d → is_octal c ≡ true
test_is c d is = ap is_octal is.1 ∙ octal_digit d is.0

-- a test in front of a value
-- a word that is read
abbrev read : {X : Type 0} → X → Result X Refusal
read x = Ok x

if_ok : {X : Type 0} (test : Bool) (x y : X) → (if test then read x else Err BadCommand) ≡ Ok y → (test ≡ true) × (x ≡ y)
if_ok true x y is = (refl, cc)
if_ok false x y is = absurd (cc is)

over : (n : ℕ) → 4 < n → nat_le n 4 ≡ false
over n long = grind (arith, nat_tests)

none_of : (x y z : Bool) → y ≡ false → ((x && y) && z) ≡ false
none_of true false z is = refl
none_of false false z is = refl
none_of x true z is = absurd (cc is)

-- a word of five bytes or more spells no mode
too_many : (word : List ℕ) → 4 < length word → mode_of word ≡ Err BadCommand
unfolding mode_of
too_many word long =
    cond-false ((nat_le 1 (length word) && nat_le (length word) 4) && list_all is_octal word) (read (digits_value 8 word)) (Err BadCommand)
    (none_of (nat_le 1 (length word)) (nat_le (length word) 4) (list_all is_octal word) (over (length word) long))

pub mode_as_spelled : (word : List ℕ) (mode : ℕ) → IsReadAsMode word mode
unfolding mode_of
mode_as_spelled [] mode = (λ is. absurd (cc is), λ s. absurd s)
mode_as_spelled (a ∷ []) mode = (
  λ is.
      let p = if_ok (is_octal a && true) (digits_value 8 (a ∷ [])) mode is in
      let one = octal_is a (and_parts _ _ p.0).0 in
      (omega (arith, one.0, p.1, value_is a (a - 48) one), omega (arith, one.1, p.1, value_is a (a - 48) one)),
  λ s. rw (test_is a mode s) (ap Ok (omega (arith, value_is a mode s))),
)
mode_as_spelled (a ∷ b ∷ []) mode = (
  λ is.
      let p = if_ok (is_octal a && (is_octal b && true)) (digits_value 8 (a ∷ b ∷ [])) mode is in
      let t = and_parts _ _ p.0 in
      let u = and_parts _ _ t.1 in
      let one = octal_is a t.0 in
      let two = octal_is b u.0 in
      (a - 48, b - 48, one, two, omega (arith, p.1, value_is a (a - 48) one, value_is b (b - 48) two)),
  λ s. rw (test_is a s.0 s.2, test_is b s.1 s.3) (ap Ok (omega (arith, value_is a s.0 s.2, value_is b s.1 s.3, s.4))),
)
mode_as_spelled (a ∷ b ∷ c ∷ []) mode = (
  λ is.
      let p = if_ok (is_octal a && (is_octal b && (is_octal c && true))) (digits_value 8 (a ∷ b ∷ c ∷ [])) mode is in
      let t = and_parts _ _ p.0 in
      let u = and_parts _ _ t.1 in
      let v = and_parts _ _ u.1 in
      let one = octal_is a t.0 in
      let two = octal_is b u.0 in
      let three = octal_is c v.0 in
      (a - 48, b - 48, c - 48, one, two, three, omega (arith, p.1, value_is a (a - 48) one, value_is b (b - 48) two, value_is c (c - 48) three)),
  λ s. rw (test_is a s.0 s.3, test_is b s.1 s.4, test_is c s.2 s.5) (ap Ok (omega (arith, value_is a s.0 s.3, value_is b s.1 s.4, value_is c s.2 s.5, s.6))),
)
mode_as_spelled (a ∷ b ∷ c ∷ d ∷ []) mode = (
  λ is.
      let p = if_ok (is_octal a && (is_octal b && (is_octal c && (is_octal d && true)))) (digits_value 8 (a ∷ b ∷ c ∷ d ∷ [])) mode is in
      let t = and_parts _ _ p.0 in
      let u = and_parts _ _ t.1 in
      let v = and_parts _ _ u.1 in
      let w = and_parts _ _ v.1 in
      let one = octal_is a t.0 in
      let two = octal_is b u.0 in
      let three = octal_is c v.0 in
      let four = octal_is d w.0 in (
        a - 48,
        b - 48,
        c - 48,
        d - 48,
        one,
        two,
        three,
        four,
        omega (arith, p.1, value_is a (a - 48) one, value_is b (b - 48) two, value_is c (c - 48) three, value_is d (d - 48) four),
      ),
  λ s. rw (test_is a s.0 s.4, test_is b s.1 s.5, test_is c s.2 s.6, test_is d s.3 s.7)
      (ap Ok (omega (arith, value_is a s.0 s.4, value_is b s.1 s.5, value_is c s.2 s.6, value_is d s.3 s.7, s.8))),
)
mode_as_spelled (a ∷ b ∷ c ∷ d ∷ e ∷ rest) mode = (λ is. absurd (err_never BadCommand mode (mode_of (a ∷ b ∷ c ∷ d ∷ e ∷ rest)) (too_many (a ∷ b ∷ c ∷ d ∷ e ∷ rest) (omega arith)) is), λ s. absurd s)

limited_ok : (r : Result (List ℕ) Refusal) (name : List ℕ) → limited r ≡ Ok name → (r ≡ Ok name) × (length name ≤ 127)
limited_ok (Err why) name is = absurd (cc is)
limited_ok (Ok given) name is =
    cond_both (nat_lt 127 (length given)) (Err NameTooLong) (Ok given) (λ r. r ≡ Ok name → (read given ≡ Ok name) × (length name ≤ 127))
    (λ long e. absurd (cc e))
    (λ short e. let same : given ≡ name = ok_same given name (Ok given) refl e in (e, subst (λ (n : List ℕ). length n ≤ 127) same (grind (arith, nat_tests)))) is

not_over : (n : ℕ) → n ≤ 127 → nat_lt 127 n ≡ false
not_over n short = grind (arith, nat_tests)

limited_of : (name : List ℕ) → length name ≤ 127 → limited (Ok name) ≡ Ok name
limited_of name short = cond-false (nat_lt 127 (length name)) (Err NameTooLong) (Ok name) (not_over (length name) short)

pub attribute_as_spelled : (word name : List ℕ) → IsReadAsAttribute word name
unfolding attribute_of
attribute_as_spelled [] name = (λ is. absurd (cc is), λ s. absurd (s.0 refl))
attribute_as_spelled (c ∷ text) name = (
  λ is. let p = limited_ok (name_of (c ∷ text)) name is in (λ e. cc e, p.0, p.1),
  λ s. ap limited s.1 ∙ limited_of name s.2,
)
