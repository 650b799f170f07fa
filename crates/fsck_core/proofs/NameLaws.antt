-- Names in keys, unit by unit, and the first record that has one.
use Rattle.std.proofs.Common.{◌≡◌, ◌≢◌, ◌<◌, ◌≤◌, ℕ, zero, suc, ◌+◌, ◌*◌, ◌-◌, ◌^◌, Bool, true, false, ◌==◌, ◌&&◌, nat_lt, min, if◌then◌else◌, List, [], ◌∷◌, length, map, take, drop, get_or, refl, sym, ◌∙◌, ap, subst, arith, ⊎_elim, length-drop}
use Rattle.std.specs.Prelude.{Option, Some, None, MatchOption, decimal}
use Rattle.std.specs.List.{find}
use Rattle.std.specs.Str.{bytes_eq}
use Rattle.std.specs.Str.Parse.{digits_value, AllDigits}
use Rattle.std.specs.Char.{digit_value}
use Rattle.std.proofs.Math.Seq.{drop-cons}
use Rattle.std.proofs.lemmas.Bool.{eq-eqb, ne_eqb, cases_lt}
use Rattle.std.proofs.lemmas.List.{take_all}
use Rattle.std.proofs.lemmas.Fmt.{decimal_is_IsNumeral}
use Rattle.std.proofs.lemmas.Str.{digit_value_digit}
use Rattle.std.proofs.lemmas.Str.Parse.{digit_at, digits_value-take-le}
use Rattle.std.proofs.lemmas.Int.Digits.{digits_value_more}
use Rattle.hx_bytes.specs.Field.{big_at}
use Rattle.btree_node.specs.Levels.{Pair}
use Rattle.btree_node.specs.Keys.{units, catalog_parent, catalog_units}
use Rattle.cat_records.specs.Records.{catalog_of}
use Rattle.cat_records.specs.declared.record.CatRecord.{CatRecord}
use Rattle.std.proofs.lemmas.Slice.Eq.{bytes_eq-Decides}
use Rattle.hfs_volume.specs.Links.{node_name}
use Rattle.hfs_volume.specs.Records.{placed_of, placed_in, is_placed_at, record_at}
use Rattle.fsck_core.specs.Names.{pair_at, value_found}
use Rattle.btree_node.proofs.Units.{units_at, units_end}
use Rattle.fsck_core.proofs.RowLaws.{true_below, not_below}

abbrev pub number_or : Option ℕ → ℕ → ℕ
number_or None d = d
number_or (Some n) d = n

-- ---- a name in a key

module _ (key name : List ℕ) (at k : ℕ) where
  abbrev pub same_rest : Bool
  same_rest = bytes_eq (units (drop at key)) (drop k name)

  behind_unit : (unit : ℕ) → at + 2 ≤ length key → k < length name → unit ≡ get_or name k 0 → same_rest ≡ ((big_at 2 key at == unit) && bytes_eq (units (drop (at + 2) key)) (drop (k + 1) name))
  behind_unit unit within inside is =
      let next : suc k ≡ k + 1 = omega arith in
      let rest : drop k name ≡ unit ∷ drop (k + 1) name = drop-cons name k 0 inside ∙ (λ i. sym is i ∷ drop (next i) name) in
      λ i. bytes_eq (units_at key at within i) (rest i)

  -- a unit that is the same leaves it to the rest
  pub unit_same : (unit : ℕ) → at + 2 ≤ length key → k < length name → unit ≡ get_or name k 0 → big_at 2 key at ≡ unit → bytes_eq (units (drop (at + 2) key)) (drop (k + 1) name) ≡ same_rest
  unit_same unit within inside is same = sym (behind_unit unit within inside is ∙ ap (λ b. b && bytes_eq (units (drop (at + 2) key)) (drop (k + 1) name)) (eq-eqb (big_at 2 key at) unit same))

  -- another unit tells that they differ
  pub unit_differs : (unit : ℕ) → at + 2 ≤ length key → k < length name → unit ≡ get_or name k 0 → big_at 2 key at ≢ unit → same_rest ≡ false
  unit_differs unit within inside is differ = behind_unit unit within inside is ∙ ap (λ b. b && bytes_eq (units (drop (at + 2) key)) (drop (k + 1) name)) (ne_eqb (big_at 2 key at) unit differ)

  -- a key that ends first
  pub key_ends : (unit : ℕ) → length key < at + 2 → k < length name → unit ≡ get_or name k 0 → same_rest ≡ false
  key_ends unit past inside is =
      let rest : drop k name ≡ get_or name k 0 ∷ drop (suc k) name = drop-cons name k 0 inside in
      λ i. bytes_eq (units_end key at past i) (rest i)

  nothing_left : length name ≤ k → drop k name ≡ []
  nothing_left end = none (drop k name) (omega (arith, length-drop k name, end))
    where
      none : (xs : List ℕ) → length xs ≡ 0 → xs ≡ []
      none [] is = refl
      none (x ∷ xs) is = absurd (omega (arith, is))

  -- the name ends: it is that of the key where this ends, too
  pub name_ends : (b : Bool) → b ≡ nat_lt (length key) (at + 2) → length name ≤ k → b ≡ same_rest
  name_ends b is end = ⊎_elim
      (λ (past : length key < at + 2). is ∙ true_below (length key) (at + 2) past ∙ sym (λ i. bytes_eq (units_end key at past i) (nothing_left end i)))
      (λ (more : at + 2 ≤ length key). is ∙ not_below (length key) (at + 2) more ∙ sym (λ i. bytes_eq (units_at key at more i) (nothing_left end i)))
      (cases_lt (length key) (at + 2))

-- ---- the first that passes

first_found : {X Y : Type 0} (f : X → Y) (p : Y → Bool) (xs : List X) (k : ℕ) (d : X) → k < length xs → ((i : ℕ) → i < k → p (f (get_or xs i d)) ≡ false) → p (f (get_or xs k d)) ≡ true → find p (map f xs) ≡ Some (f (get_or xs k d))
first_found f p [] k d inside none here = absurd (omega (arith, inside))
first_found f p (x ∷ xs) zero d inside none here = ap (λ b. if b then Some (f x) else find p (map f xs)) here
first_found f p (x ∷ xs) (suc k) d inside none here =
    ap (λ b. if b then Some (f x) else find p (map f xs)) (none 0 (omega arith)) ∙ first_found f p xs k d (omega (arith, inside)) (λ i less. none (suc i) (omega (arith, less))) here

none_found : {X Y : Type 0} (f : X → Y) (p : Y → Bool) (xs : List X) (d : X) → ((i : ℕ) → i < length xs → p (f (get_or xs i d)) ≡ false) → find p (map f xs) ≡ None
none_found f p [] d none = refl
none_found f p (x ∷ xs) d none = ap (λ b. if b then Some (f x) else find p (map f xs)) (none 0 (omega arith)) ∙ none_found f p xs d (λ i less. none (suc i) (omega (arith, less)))

module _ (pairs : List Pair) (name : List ℕ) where
  abbrev here_at : ℕ → Bool
  here_at k = is_placed_at 2 name (placed_of (pair_at pairs k))

  pub stands_here : (at : ℕ) (key : List ℕ) (b : Bool) → key ≡ (pair_at pairs at).0 → b ≡ ((catalog_parent key == 2) && bytes_eq (catalog_units key) name) → is_placed_at 2 name (placed_of (pair_at pairs at)) ≡ b
  unfolding placed_of
  stands_here at key b key_is is = ap (λ (l : List ℕ). (catalog_parent l == 2) && bytes_eq (catalog_units l) name) (sym key_is) ∙ sym is

  pub none_more : (at : ℕ) → ((k : ℕ) → k < at → is_placed_at 2 name (placed_of (pair_at pairs k)) ≡ false) → is_placed_at 2 name (placed_of (pair_at pairs at)) ≡ false → (k : ℕ) → k < at + 1 → is_placed_at 2 name (placed_of (pair_at pairs k)) ≡ false
  none_more at before missed k less = ⊎_elim
      (λ (lower : k < at). before k lower)
      (λ (most : at ≤ k). let same : at ≡ k = omega (arith, less, most) in subst (λ n. is_placed_at 2 name (placed_of (pair_at pairs n)) ≡ false) same missed)
      (cases_lt k at)

  pub root_found : (at : ℕ) → at < length pairs → ((k : ℕ) → k < at → is_placed_at 2 name (placed_of (pair_at pairs k)) ≡ false) → is_placed_at 2 name (placed_of (pair_at pairs at)) ≡ true → record_at (placed_in pairs) 2 name ≡ Some (placed_of (pair_at pairs at))
  root_found at inside none here = first_found placed_of (is_placed_at 2 name) pairs at ([], []) inside none here

  pub root_none : (at : ℕ) → length pairs ≤ at → ((k : ℕ) → k < at → is_placed_at 2 name (placed_of (pair_at pairs k)) ≡ false) → record_at (placed_in pairs) 2 name ≡ None
  root_none at end none = none_found placed_of (is_placed_at 2 name) pairs ([], []) (λ k less. none k (omega (arith, less, end)))

  pub value_is : (found : Option ℕ) (at : ℕ) (rec : CatRecord) (value : List ℕ) → MatchOption found (record_at (placed_in pairs) 2 name ≡ None) (λ k. record_at (placed_in pairs) 2 name ≡ Some (placed_of (pair_at pairs k))) → found ≡ Some at
      → value ≡ (pair_at pairs at).1 → rec ≡ catalog_of value → Some rec ≡ value_found (record_at (placed_in pairs) 2 name)
  unfolding placed_of
  value_is None at rec value is other value_at read = absurd (cc)
  value_is (Some k) at rec value is same value_at read =
      let here : k ≡ at = ap (λ o. number_or o k) same in
      ap Some (read ∙ ap catalog_of value_at) ∙ sym (ap value_found (is ∙ ap (λ n. Some (placed_of (pair_at pairs n))) here))

-- ---- numbers

-- one digit more of a number that fits
pub digit_more : (digits : List ℕ) (number k digit old new : ℕ) → number < 2 ^ 32 → digits ≡ decimal number → k < length digits → digit ≡ get_or digits k 0
    → old ≡ digits_value 10 (take k digits) → new ≡ min (min (old * 10) 4294967295 + (digit - 48)) 4294967295 → new ≡ digits_value 10 (take (k + 1) digits)
digit_more digits number k digit old new small are inside is was new_is =
    let numeral = decimal_is_IsNumeral number (omega (arith, small)) in
    let all : AllDigits 10 digits = subst (AllDigits 10) (sym are) numeral.0.1 in
    let value : digits_value 10 digits ≡ number = ap (digits_value 10) are ∙ numeral.1 in
    let own : digit_value (get_or digits k 0) + 48 ≡ get_or digits k 0 = digit_value_digit (get_or digits k 0) (digit_at digits k all inside) in
    let step = digits_value_more 10 digits k inside in
    let most = digits_value-take-le 10 digits (k + 1) (omega arith) in
    omega (arith, small, value, is, own, step, most, was, new_is)

pub number_read : (digits : List ℕ) (number k result : ℕ) → number < 2 ^ 32 → digits ≡ decimal number → length digits ≤ k → result ≡ digits_value 10 (take k digits) → result ≡ number
number_read digits number k result small are end is =
    is ∙ ap (digits_value 10) (take_all k digits end) ∙ ap (digits_value 10) are ∙ (decimal_is_IsNumeral number (omega (arith, small))).1

-- a name that is that of this number
pub node_is : (units node : List ℕ) (named : Bool) (number read : ℕ) → units ≡ node_name number → read ≡ number → node ≡ node_name read → named ≡ bytes_eq units node → named ≡ true
node_is units node named number read is same node_is_its named_is = named_is ∙ (bytes_eq-Decides units node).1 (is ∙ ap node_name (sym same) ∙ sym node_is_its)

-- behind the word stand the digits
pub digits_are : (name units : List ℕ) (number : ℕ) → name ≡ units → units ≡ node_name number → take (length name - 5) (drop 5 name) ≡ decimal number
digits_are name units number name_is is = take_all (length name - 5) (drop 5 name) (omega (arith, length-drop 5 name)) ∙ ap (drop 5) (name_is ∙ is)
