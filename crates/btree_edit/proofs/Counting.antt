-- How often nodes stand in lists.
use Rattle.std.proofs.Common.{◌≡◌, ◌≢◌, ℕ, zero, suc, ◌+◌, ◌<◌, ◌≤◌, Bool, true, false, cond, List, [], ◌∷◌, ◌++◌, length, get_or, inl, inr, refl, sym, ◌∙◌, ap, subst, arith}
use Rattle.std.proofs.lemmas.Bool.{cases_lt, cases_eq}
use Rattle.std.proofs.lemmas.Bool.Decides.{eqb_tells}
use Rattle.std.proofs.lemmas.List.FromFn.{get_or-range_with_len, length-range_with_len}
use Rattle.std.proofs.lemmas.List.Sums.{sum_by-cons}
use Rattle.std.specs.Prelude.{eqb}
use Rattle.std.specs.List.{range_with_len, count_by}
use Rattle.btree_edit.specs.LevelEdit.{bit, times}
use Rattle.btree_edit.specs.Climb.{count_in_levels}

pub bit_same : (m n : ℕ) → m ≡ n → bit (eqb m n) ≡ 1
bit_same m n is = elim (eqb_tells m n) [
  | inl (yes_is, same) ↦ ap bit yes_is
  | inr (no_is, other) ↦ absurd (other is)
]

pub bit_other : (m n : ℕ) → m ≢ n → bit (eqb m n) ≡ 0
bit_other m n is = elim (eqb_tells m n) [
  | inl (yes_is, same) ↦ absurd (is same)
  | inr (no_is, other) ↦ ap bit no_is
]

pub bit_most : (b : Bool) → bit b ≤ 1
bit_most true = omega arith
bit_most false = omega arith

pub bit_true : (b : Bool) → 1 ≤ bit b → b ≡ true
bit_true true some = refl
bit_true false some = absurd (omega arith)

pub bit_false : (b : Bool) → bit b ≡ 0 → b ≡ false
bit_false true none = absurd (omega arith)
bit_false false none = refl

pub times-append : (n : ℕ) (xs ys : List ℕ) → times n (xs ++ ys) ≡ times n xs + times n ys
times-append n [] ys = omega arith
times-append n (x ∷ xs) ys = omega (arith, times-append n xs ys)

-- a node of a list stands there
pub times_at : (l : List ℕ) (k : ℕ) → k < length l → 1 ≤ times (get_or l k 0) l
times_at [] k inside = absurd (omega arith)
times_at (x ∷ xs) zero inside = omega (arith, bit_same x x refl)
times_at (x ∷ xs) (suc k) inside = omega (arith, times_at xs k (omega arith))

pub times_is : (l : List ℕ) (k n : ℕ) → k < length l → get_or l k 0 ≡ n → 1 ≤ times n l
times_is l k n inside is = subst (λ m. 1 ≤ times m l) is (times_at l k inside)

pub times_place : (n : ℕ) (l : List ℕ) → 1 ≤ times n l → (k : ℕ) × (k < length l) × (get_or l k 0 ≡ n)
times_place n [] some = absurd (omega arith)
times_place n (x ∷ xs) some = elim (cases_eq x n) [
  | inl is ↦ (0, omega arith, is)
  | inr other ↦
      let rest = times_place n xs (omega (arith, bit_other x n other)) in
      (suc rest.0, omega (arith, rest.1), rest.2)
]

pub times_none : (n : ℕ) (l : List ℕ) → ((k : ℕ) → k < length l → get_or l k 0 ≢ n) → times n l ≡ 0
times_none n [] none = refl
times_none n (x ∷ xs) none =
    omega (arith, bit_other x n (none 0 (omega arith)), times_none n xs (λ k inside. none (suc k) (omega arith)))

-- two places of one node
pub times_twice : (n : ℕ) (l : List ℕ) (i k : ℕ) → i < k → k < length l → get_or l i 0 ≡ n → get_or l k 0 ≡ n → 2 ≤ times n l
times_twice n [] i k less inside first second = absurd (omega arith)
times_twice n (x ∷ xs) i zero less inside first second = absurd (omega arith)
times_twice n (x ∷ xs) zero (suc k) less inside first second = omega (arith, bit_same x n first, times_is xs k n (omega arith) second)
times_twice n (x ∷ xs) (suc i) (suc k) less inside first second = omega (arith, times_twice n xs i k (omega arith) (omega arith) first second)

-- nodes that stand at one place alone
pub times_once : (n : ℕ) (l : List ℕ) → ((i k : ℕ) → i < length l → k < length l → get_or l i 0 ≡ get_or l k 0 → i ≡ k) → times n l ≤ 1
times_once n [] one = omega arith
times_once n (x ∷ xs) one = elim (cases_eq x n) [
  | inl is ↦
      let rest : times n xs ≡ 0 = times_none n xs (λ k inside e.
      let same : 0 ≡ suc k = one 0 (suc k) (omega arith) (omega arith) (is ∙ sym e) in absurd (omega arith)) in
      omega (arith, bit_same x n is)
  | inr other ↦
      let rest = times_once n xs (λ i k first second e. let same : suc i ≡ suc k = one (suc i) (suc k) (omega arith) (omega arith) e in omega arith) in
      omega (arith, bit_other x n other)
]

-- how often these nodes stand in a list
hits : List ℕ → List ℕ → ℕ
hits r [] = 0
hits r (m ∷ ms) = times m r + hits r ms

hits_none : (ms : List ℕ) → hits [] ms ≡ 0
unfolding hits
hits_none [] = refl
hits_none (m ∷ ms) = omega (arith, hits_none ms)

hits_more : (k : ℕ) (r ms : List ℕ) → hits (k ∷ r) ms ≡ times k ms + hits r ms
unfolding hits
hits_more k r [] = refl
hits_more k r (m ∷ ms) = elim (cases_eq k m) [
  | inl is ↦ omega (arith, bit_same k m is, bit_same m k (sym is), hits_more k r ms)
  | inr other ↦ omega (arith, bit_other k m other, bit_other m k (λ e. other (sym e)), hits_more k r ms)
]

range_once : (total m : ℕ) → m < total → times m (range_with_len 0 total) ≡ 1
range_once total m inside =
    let long = length-range_with_len 0 total in
    let some = times_is (range_with_len 0 total) m m (omega arith) (get_or-range_with_len 0 total m 0 inside ∙ omega arith) in
    let one = times_once m (range_with_len 0 total) (λ i k first second e.
    let at : (j : ℕ) → j < length (range_with_len 0 total) → get_or (range_with_len 0 total) j 0 ≡ j = λ j low. get_or-range_with_len 0 total j 0 (omega arith) ∙ omega arith in
    sym (at i first) ∙ e ∙ at k second) in
    omega arith

hits_all : (total : ℕ) (ms : List ℕ) → ((k : ℕ) → k < length ms → get_or ms k 0 < total) → hits (range_with_len 0 total) ms ≡ length ms
unfolding hits
hits_all total [] below = refl
hits_all total (m ∷ ms) below =
    omega (arith, range_once total m (below 0 (omega arith)), hits_all total ms (λ k inside. below (suc k) (omega arith)))

bit_is : (b : Bool) → cond b 1 0 ≡ bit b
bit_is true = refl
bit_is false = refl

count_changed : (p q : ℕ → Bool) (less_ns more_ns r : List ℕ) → ((k : ℕ) → k < length r → bit (p (get_or r k 0)) + times (get_or r k 0) less_ns ≡ bit (q (get_or r k 0)) + times (get_or r k 0) more_ns)
    → count_by p r + hits r less_ns ≡ count_by q r + hits r more_ns
count_changed p q less_ns more_ns [] each = ap (λ n. 0 + n) (hits_none less_ns ∙ sym (hits_none more_ns))
count_changed p q less_ns more_ns (k ∷ r) each =
    let here : bit (p k) + times k less_ns ≡ bit (q k) + times k more_ns = each 0 (omega arith) in
    let rest : count_by p r + hits r less_ns ≡ count_by q r + hits r more_ns = count_changed p q less_ns more_ns r (λ i inside. each (suc i) (omega arith)) in
    let p_is : count_by p (k ∷ r) ≡ cond (p k) 1 0 + count_by p r = sum_by-cons (λ n. cond (p n) 1 0) k r in
    let q_is : count_by q (k ∷ r) ≡ cond (q k) 1 0 + count_by q r = sum_by-cons (λ n. cond (q n) 1 0) k r in
    omega (arith, p_is, q_is, here, rest, bit_is (p k), bit_is (q k), hits_more k r less_ns, hits_more k r more_ns)

-- the bits of a map, after those of some nodes were set and those of others cleared
pub bits_changed : (p q : ℕ → Bool) (less_ns more_ns : List ℕ) (total : ℕ) → ((k : ℕ) → bit (p k) + times k less_ns ≡ bit (q k) + times k more_ns)
    → ((k : ℕ) → k < length less_ns → get_or less_ns k 0 < total) → ((k : ℕ) → k < length more_ns → get_or more_ns k 0 < total)
    → count_by p (range_with_len 0 total) + length less_ns ≡ count_by q (range_with_len 0 total) + length more_ns
bits_changed p q less_ns more_ns total each first second =
    omega (
      arith,
      count_changed p q less_ns more_ns (range_with_len 0 total) (λ k inside. each (get_or (range_with_len 0 total) k 0)),
      hits_all total less_ns first,
      hits_all total more_ns second,
    )

-- levels: how often a node stands in them
pub tally_some : (levels : ℕ → List ℕ) (depth n j : ℕ) → j < depth → times n (levels j) ≤ count_in_levels levels depth n
tally_some levels zero n j inside = absurd (omega arith)
tally_some levels (suc depth) n j inside = elim (cases_eq j depth) [
  | inl is ↦ omega (arith, ap (λ i. times n (levels i)) is)
  | inr other ↦ omega (arith, tally_some levels depth n j (omega arith))
]

pub tally_same : (old new : ℕ → List ℕ) (depth n : ℕ) → ((j : ℕ) → j < depth → new j ≡ old j) → count_in_levels new depth n ≡ count_in_levels old depth n
tally_same old new zero n same = refl
tally_same old new (suc depth) n same =
    omega (arith, tally_same old new depth n (λ j inside. same j (omega arith)), ap (λ (l : List ℕ). times n l) (same depth (omega arith)))

-- one level is changed
pub tally_changed : (old new : ℕ → List ℕ) (depth n j : ℕ) → j < depth → ((i : ℕ) → i < depth → i ≢ j → new i ≡ old i)
    → count_in_levels new depth n + times n (old j) ≡ count_in_levels old depth n + times n (new j)
tally_changed old new zero n j inside same = absurd (omega arith)
tally_changed old new (suc depth) n j inside same = elim (cases_eq j depth) [
  | inl is ↦
      omega (
        arith,
        tally_same old new depth n (λ i below. same i (omega arith) (λ e. absurd (omega arith))),
        ap (λ i. times n (old i)) is,
        ap (λ i. times n (new i)) is,
      )
  | inr other ↦
      omega (
        arith,
        tally_changed old new depth n j (omega arith) (λ i below apart. same i (omega arith) apart),
        ap (λ (l : List ℕ). times n l) (same depth (omega arith) (λ e. other (sym e))),
      )
]

-- the levels below the first
pub tally_below : (levels : ℕ → List ℕ) (depth n : ℕ) → count_in_levels (λ j. levels (suc j)) depth n + times n (levels 0) ≡ count_in_levels levels (suc depth) n
tally_below levels zero n = omega arith
tally_below levels (suc depth) n = omega (arith, tally_below levels depth n)

pub tally_none : (levels : ℕ → List ℕ) (depth n : ℕ) → ((j : ℕ) → j < depth → times n (levels j) ≡ 0) → count_in_levels levels depth n ≡ 0
tally_none levels zero n none = refl
tally_none levels (suc depth) n none = omega (arith, tally_none levels depth n (λ j inside. none j (omega arith)), none depth (omega arith))

pub tally_place : (levels : ℕ → List ℕ) (depth n : ℕ) → 1 ≤ count_in_levels levels depth n → (j : ℕ) × (j < depth) × (1 ≤ times n (levels j))
tally_place levels zero n some = absurd (omega arith)
tally_place levels (suc depth) n some = elim (cases_lt 0 (times n (levels depth))) [
  | inl here ↦ (depth, omega arith, here)
  | inr none ↦ let rest = tally_place levels depth n (omega arith) in (rest.0, omega (arith, rest.1), rest.2)
]

-- a node of two levels
pub tally_twice : (levels : ℕ → List ℕ) (depth n i j : ℕ) → i < j → j < depth → 1 ≤ times n (levels i) → 1 ≤ times n (levels j) → 2 ≤ count_in_levels levels depth n
tally_twice levels zero n i j less inside first second = absurd (omega arith)
tally_twice levels (suc depth) n i j less inside first second = elim (cases_eq j depth) [
  | inl is ↦ omega (arith, ap (λ k. times n (levels k)) is, tally_some levels depth n i (omega arith))
  | inr other ↦ omega (arith, tally_twice levels depth n i j less (omega arith) first second)
]

-- a node of one level alone stands there less_ns often less_ns in all of them
pub tally_one : (levels : ℕ → List ℕ) (depth n j : ℕ) → j < depth → ((i : ℕ) → i < depth → i ≢ j → times n (levels i) ≡ 0) → count_in_levels levels depth n ≡ times n (levels j)
tally_one levels zero n j inside none = absurd (omega arith)
tally_one levels (suc depth) n j inside none = elim (cases_eq j depth) [
  | inl is ↦
      omega (
        arith,
        ap (λ k. times n (levels k)) is,
        tally_none levels depth n (λ i below. none i (omega arith) (λ e. absurd (omega arith))),
      )
  | inr other ↦
      omega (
        arith,
        tally_one levels depth n j (omega arith) (λ i below apart. none i (omega arith) apart),
        none depth (omega arith) (λ e. other (sym e)),
      )
]
