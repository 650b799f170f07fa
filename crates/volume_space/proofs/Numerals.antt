-- A decimal number of 64 digits or fewer is spelled by its digits.
use Rattle.std.proofs.Common.{◌≡◌, ◌<◌, ◌≤◌, ℕ, ◌+◌, ◌-◌, ◌*◌, ◌/◌, ◌%◌, ◌^◌, zero, suc, Bool, true, false, List, [], ◌∷◌, ◌++◌, length, get_or, inl, inr, refl, sym, ◌∙◌, ap, subst, arith, append_assoc}
use Rattle.std.specs.Prelude.{◌==◌, ◌&&◌, ◌||◌, not, nat_lt, slice_index, decimal, if◌then◌else◌}
use Rattle.std.specs.List.{list_all}
use Rattle.std.specs.Fmt.{digits, digits_onto, digit_glyph}
use Rattle.std.specs.Str.Parse.{AllDigits, digits_value, digits_value_after}
use Rattle.std.specs.Char.{digit_value}
use Rattle.std.proofs.lemmas.Bool.{and_parts, eqb-true, le-ltb, ltb-false, ltb-true, true≢false, lt-ltb, ne_eqb, eq-eqb, cases_eq, cases_lt}
use Rattle.std.proofs.lemmas.Fmt.{decimal_digit, decimal_step_wide, decimal_by_steps_wide}
use Rattle.std.proofs.lemmas.List.{append-nil, length-append, get_or_append_left}
use Rattle.std.proofs.lemmas.Str.{digit_value_digit}
use Rattle.std.proofs.lemmas.Str.Parse.{digits_value_short, numerals_by_value, tells_digits, digit_from_value}
use Rattle.volume_space.specs.Orphans.{is_digit, is_led, is_number}

-- the digits behind a number spell a longer one
le_value_after : (n : ℕ) (ds : List ℕ) → n ≤ digits_value_after 10 n ds
le_value_after n [] = omega arith
le_value_after n (c ∷ cs) = omega (arith, le_value_after (n * 10 + digit_value c) cs)

decimal_behind : (n : ℕ) (ds : List ℕ) → 0 < n → AllDigits 10 ds → digits_value_after 10 n ds < 10 ^ 64 → decimal (digits_value_after 10 n ds) ≡ decimal n ++ ds
decimal_behind n [] some d small = sym (append-nil (decimal n))
decimal_behind n (c ∷ cs) some d small =
    let m : ℕ = n * 10 + digit_value c in
    let k = digit_value_digit c (digit_from_value c d.0) in
    let front : m / 10 ≡ n = omega (arith, d.0) in
    let end : 48 + m % 10 ≡ c = omega (arith, d.0) in
    decimal_behind m cs (omega arith) d.1 small
    ∙ ap (λ x. x ++ cs) (decimal_step_wide m (omega arith) (omega (arith, le_value_after m cs)) ∙ (λ i. decimal (front i) ++ (end i ∷ [])))
    ∙ append_assoc (decimal n) (c ∷ []) cs

pub decimal_digits : (ds : List ℕ) → AllDigits 10 ds → 0 < length ds → (get_or ds 0 0 ≡ 48 → length ds ≡ 1) → digits_value 10 ds < 10 ^ 64 → decimal (digits_value 10 ds) ≡ ds
decimal_digits [] d some lead small = absurd (omega arith)
decimal_digits (c ∷ []) d some lead small =
    let k = digit_value_digit c (digit_from_value c d.0) in
    decimal_digit (0 * 10 + digit_value c) (omega (arith, d.0)) ∙ ap (λ x. x ∷ []) (omega arith)
decimal_digits (c ∷ e ∷ cs) d some lead small =
    let k = digit_value_digit c (digit_from_value c d.0) in
    let no : c ≡ 48 → ⊥ = λ z. omega (arith, lead z) in
    let is : 48 + (0 * 10 + digit_value c) ≡ c = omega arith in
    decimal_behind (0 * 10 + digit_value c) (e ∷ cs) (omega arith) d.1 small
    ∙ ap (λ x. x ++ (e ∷ cs)) (decimal_digit (0 * 10 + digit_value c) (omega (arith, d.0)) ∙ ap (λ x. x ∷ []) is)

-- ---- what is spelled so

glyph_is : (n : ℕ) → n < 10 → digit_glyph false n ≡ 48 + n
glyph_is n few = ap (λ b. if b then 48 + n else 87 + n) (lt-ltb n 10 few)

onto_long : (k n : ℕ) (acc : List ℕ) → length (digits_onto k 10 false n acc) ≤ k + length acc
onto_long zero n acc = omega arith
onto_long (suc k) n acc = by (onto_long k (n / 10) (digit_glyph false (n % 10) ∷ acc)) (n / 10 == 0)
  where
    by : length (digits_onto k 10 false (n / 10) (digit_glyph false (n % 10) ∷ acc)) ≤ k + length (digit_glyph false (n % 10) ∷ acc) → (b : Bool)
        → length (if b then digit_glyph false (n % 10) ∷ acc else digits_onto k 10 false (n / 10) (digit_glyph false (n % 10) ∷ acc)) ≤ suc k + length acc
    by later true = omega arith
    by later false = omega (arith, later)

first_digit : (n : ℕ) → n < 10 → digit_value (digit_glyph false n) < 10
first_digit n few = omega (arith, few, ap digit_value (glyph_is n few), digit_value_digit (48 + n) (omega (arith, few), omega (arith, few)))

onto_digits : (k n : ℕ) (acc : List ℕ) → AllDigits 10 acc → AllDigits 10 (digits_onto k 10 false n acc)
onto_digits zero n acc was = was
onto_digits (suc k) n acc was = by (onto_digits k (n / 10) (digit_glyph false (n % 10) ∷ acc) (first_digit (n % 10) (omega arith), was)) (n / 10 == 0)
  where
    by : AllDigits 10 (digits_onto k 10 false (n / 10) (digit_glyph false (n % 10) ∷ acc)) → (b : Bool) → AllDigits 10 (if b then digit_glyph false (n % 10) ∷ acc else digits_onto k 10 false (n / 10) (digit_glyph false (n % 10) ∷ acc))
    by later true = (first_digit (n % 10) (omega arith), was)
    by later false = later

pub decimal_long : (n : ℕ) → length (decimal n) ≤ 64
unfolding digits
decimal_long n = omega (arith, onto_long 64 n [])

pub decimal_all : (n : ℕ) → AllDigits 10 (decimal n)
unfolding digits
decimal_all n = onto_digits 64 n [] tt

-- what a small number is spelled as has a digit, and no zero in front of others
pub decimal_leads : (n : ℕ) → n < 10 ^ 64 → (0 < length (decimal n)) × (get_or (decimal n) 0 0 ≡ 48 → length (decimal n) ≡ 1)
decimal_leads n small =
    let led = decimal_by_steps_wide (λ m ds. (0 < length ds) × ((0 < m → 48 < get_or ds 0 0) × (m < 10 → length ds ≡ 1)))
    (λ m few. (omega arith, ((λ some. omega arith), (λ _. refl))))
    (λ m ds more was. (omega (arith, length-append ds ((48 + m % 10) ∷ [])), ((λ some. omega (arith, get_or_append_left ds ((48 + m % 10) ∷ []) 0 0 was.0, was.1.0 (omega arith))), (λ few. absurd (omega (arith, more, few)))))) n small in (
      led.0,
      λ zero_first. elim (cases_lt 0 n) [
        | inl some ↦ absurd (omega (arith, led.1.0 some, zero_first))
        | inr none ↦ led.1.1 (omega (arith, none))
      ],
    )

-- ---- names that are numbered

all_digits : (units : List ℕ) → list_all is_digit units ≡ true → AllDigits 10 units
all_digits [] is = tt
all_digits (unit ∷ rest) is =
    let parts = and_parts (is_digit unit) (list_all is_digit rest) is in
    let bounds = and_parts (nat_lt 47 unit) (nat_lt unit 58) parts.0 in
    let own : digit_value unit + 48 ≡ unit = digit_value_digit unit (omega (arith, ltb-true 47 unit bounds.0), omega (arith, ltb-true unit 58 bounds.1)) in
    (omega (arith, own, ltb-true unit 58 bounds.1), all_digits rest parts.1)

or_true : (b : Bool) → (b || true) ≡ true
or_true true = refl
or_true false = refl

-- the other way round
are_digits : (units : List ℕ) → AllDigits 10 units → list_all is_digit units ≡ true
are_digits [] all = refl
are_digits (unit ∷ rest) all =
    let bounds = digit_from_value unit all.0 in
    λ i. (lt-ltb 47 unit (omega (arith, bounds.0)) i && lt-ltb unit 58 (omega (arith, bounds.1)) i) && are_digits rest all.1 i

-- the parts of the test
record IsDecimal (units : List ℕ) : Type 0 where
  some : 0 < length units
  few : length units ≤ 64
  led : is_led (slice_index units 0) (length units) ≡ true
  all : list_all is_digit units ≡ true

-- an `if` that isn't false
if_not : (b rest : Bool) → (if b then false else rest) ≡ true → (b ≡ false) × (rest ≡ true)
if_not true rest is = absurd (true≢false (sym is))
if_not false rest is = (refl, is)

not_not : (b : Bool) → not b ≡ false → b ≡ true
not_not true is = refl
not_not false is = absurd (true≢false is)

number_parts : (units : List ℕ) → is_number units ≡ true → IsDecimal units
number_parts units is =
    let first = if_not (length units == 0) (if nat_lt 64 (length units) then false else if not (is_led (slice_index units 0) (length units)) then false else list_all is_digit units) is in
    let second = if_not (nat_lt 64 (length units)) (if not (is_led (slice_index units 0) (length units)) then false else list_all is_digit units) first.1 in
    let third = if_not (not (is_led (slice_index units 0) (length units))) (list_all is_digit units) second.1 in
    record {
      some = some_of units first.0;
      few = omega (arith, ltb-false 64 (length units) second.0);
      led = not_not (is_led (slice_index units 0) (length units)) third.0;
      all = third.1;
    }
  where
    some_of : (xs : List ℕ) → (length xs == 0) ≡ false → 0 < length xs
    some_of [] is_none = absurd (true≢false is_none)
    some_of (x ∷ xs) is_none = omega arith

small_value : (ds : List ℕ) → AllDigits 10 ds → length ds ≤ 64 → digits_value 10 ds < 10 ^ 64
small_value ds digits few = omega (arith, digits_value_short (numerals_by_value _ tells_digits) ds 64 digits few)

-- a number is what its value is spelled as
pub number_spelled : (units : List ℕ) → is_number units ≡ true → decimal (digits_value 10 units) ≡ units
number_spelled units is =
    let parts = number_parts units is in
    let digits = all_digits units parts.all in
    decimal_digits units digits parts.some (λ zero_first. lead units parts.some parts.led zero_first) (small_value units digits parts.few)
  where
    lead : (ds : List ℕ) → 0 < length ds → is_led (slice_index ds 0) (length ds) ≡ true → get_or ds 0 0 ≡ 48 → length ds ≡ 1
    lead [] some led zero_first = absurd (omega (arith, some))
    lead (d ∷ rest) some led zero_first = by (length (d ∷ rest) == 1) refl (subst (λ n. ((length (d ∷ rest) == 1) || not (n == 48)) ≡ true) zero_first led)
      where
        by : (b : Bool) → (length (d ∷ rest) == 1) ≡ b → (b || false) ≡ true → length (d ∷ rest) ≡ 1
        by true one is_true = eqb-true (length (d ∷ rest)) 1 one
        by false one is_true = absurd (true≢false (sym is_true))

-- what is spelled so is a number
pub spelled_number : (units : List ℕ) → units ≡ decimal (digits_value 10 units) → is_number units ≡ true
spelled_number units is =
    let all = subst (AllDigits 10) (sym is) (decimal_all (digits_value 10 units)) in
    let long : length units ≤ 64 = omega (arith, ap (λ (l : List ℕ). length l) is, decimal_long (digits_value 10 units)) in
    let leads = subst (λ (l : List ℕ). (0 < length l) × (get_or l 0 0 ≡ 48 → length l ≡ 1)) (sym is) (decimal_leads (digits_value 10 units) (small_value units all long)) in
    by units all long leads.0 leads.1
  where
    by : (ds : List ℕ) → AllDigits 10 ds → length ds ≤ 64 → 0 < length ds → (get_or ds 0 0 ≡ 48 → length ds ≡ 1) → is_number ds ≡ true
    by [] all long some led = absurd (omega (arith, some))
    by (d ∷ rest) all long some led =
        (λ i. if ne_eqb (length (d ∷ rest)) 0 (λ none. omega (arith, none)) i then false else if le-ltb 64 (length (d ∷ rest)) long i then false else if not (led_so i) then false else are_digits (d ∷ rest) all i)
      where
        led_so : is_led d (length (d ∷ rest)) ≡ true
        led_so = elim (cases_eq d 48) [
          | inl zero_first ↦ ap (λ b. b || not (d == 48)) (eq-eqb (length (d ∷ rest)) 1 (led zero_first))
          | inr other ↦ ap (λ b. (length (d ∷ rest) == 1) || not b) (ne_eqb d 48 other) ∙ or_true (length (d ∷ rest) == 1)
        ]
