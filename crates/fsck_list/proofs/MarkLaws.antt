-- Marks that are set one by one, or in a stretch.
use Rattle.std.proofs.Common.{◌≡◌, ◌⊎◌, ◌<◌, ◌≤◌, ℕ, zero, suc, ◌+◌, Bool, true, false, cond, List, [], ◌∷◌, ◌++◌, length, take, drop, replicate, set, get_or, refl, ◌∙◌, ap, arith, ⊎_elim}
use Rattle.std.proofs.lemmas.List.Sums.{count_by-le-length, sum_by-append, sum_by-cons, sum_by-take-drop}
use Rattle.std.proofs.lemmas.List.{get_or_default, get_or-drop, get_or-take, length-take, drop-drop}
use Rattle.std.proofs.lemmas.Bool.Decides.{nat_tests}
use Rattle.hx_bytes.specs.declared.extents.Extent.{Extent}
use Rattle.flag_rows.specs.Bits.{count_set, has, mark}
use Rattle.flag_rows.proofs.RowLaws.{get_or-mark, length-mark}

set_is : (flags : List Bool) (at : ℕ) → at < length flags → take at flags ++ true ∷ drop (suc at) flags ≡ set flags at true
set_is [] at inside = absurd (omega (arith, inside))
set_is (flag ∷ flags) zero inside = refl
set_is (flag ∷ flags) (suc at) inside = ap (λ rest. flag ∷ rest) (set_is flags at (omega (arith, inside)))

-- an extent of one place is that place
pub mark_one : (flags : List Bool) (at : ℕ) → at < length flags → mark flags (record { start = at; count = 1 }) true ≡ set flags at true
mark_one flags at inside = ap (λ n. take at flags ++ true ∷ drop n flags) (let next : at + 1 ≡ suc at = omega arith in next) ∙ set_is flags at inside

pub count_more : (flags : List Bool) (at : ℕ) → at < length flags → get_or flags at true ≡ false → count_set (set flags at true) ≡ count_set flags + 1
count_more [] at inside clear = absurd (omega (arith, inside))
count_more (true ∷ flags) zero inside clear = cc
count_more (false ∷ flags) zero inside clear = omega (arith, sum_by-cons (λ z. cond z 1 0) true flags, sum_by-cons (λ z. cond z 1 0) false flags)
count_more (flag ∷ flags) (suc at) inside clear =
    omega (arith, sum_by-cons (λ z. cond z 1 0) flag (set flags at true), sum_by-cons (λ z. cond z 1 0) flag flags, count_more flags at (omega (arith, inside)) clear)

-- where a place isn't marked, there are fewer marks than places
pub count_less : (flags : List Bool) (at : ℕ) → at < length flags → get_or flags at true ≡ false → count_set flags + 1 ≤ length flags
count_less flags at inside clear = omega (arith, count_more flags at inside clear, count_by-le-length (λ flag. flag) (set flags at true), long flags at)
  where
    long : (flags : List Bool) (at : ℕ) → length (set flags at true) ≡ length flags
    long [] at = refl
    long (flag ∷ flags) zero = refl
    long (flag ∷ flags) (suc at) = ap suc (long flags at)

-- ---- a stretch of marks

none_set : (flags : List Bool) → ((k : ℕ) → k < length flags → get_or flags k true ≡ false) → count_set flags ≡ 0
none_set [] clear = refl
none_set (true ∷ flags) clear = absurd (let first = clear 0 (omega arith) in cc)
none_set (false ∷ flags) clear = omega (arith, sum_by-cons (λ z. cond z 1 0) false flags, none_set flags (λ k inside. clear (suc k) (omega (arith, inside))))

all_set : (n : ℕ) → count_set (replicate n true) ≡ n
all_set zero = refl
all_set (suc n) = omega (arith, sum_by-cons (λ z. cond z 1 0) true (replicate n true), all_set n)

-- marks on a stretch that has none
pub stretch_count : (flags : List Bool) (e : Extent) → e.start + e.count ≤ length flags → ((k : ℕ) → e.start ≤ k → k < e.start + e.count → get_or flags k true ≡ false) → count_set (mark flags e true) ≡ count_set flags + e.count
stretch_count flags e inside clear =
    let middle : List Bool = take e.count (drop e.start flags) in
    let front = sum_by-take-drop (λ z. cond z 1 0) flags e.start in
    let back = sum_by-take-drop (λ z. cond z 1 0) (drop e.start flags) e.count in
    let rest : drop e.count (drop e.start flags) ≡ drop (e.start + e.count) flags = drop-drop e.count e.start flags in
    let none : count_set middle ≡ 0 = none_set middle (λ k less.
    let low : k < e.count = omega (arith, less, length-take e.count (drop e.start flags)) in
    get_or-take e.count (drop e.start flags) k true low ∙ get_or-drop e.start flags k true ∙ clear (e.start + k) (omega arith) (omega (arith, low))) in
    let whole : count_set (mark flags e true) ≡ count_set (take e.start flags) + (e.count + count_set (drop (e.start + e.count) flags)) =
    sum_by-append (λ z. cond z 1 0) (take e.start flags) (replicate e.count true ++ drop (e.start + e.count) flags)
    ∙ ap (λ n. count_set (take e.start flags) + n) (sum_by-append (λ z. cond z 1 0) (replicate e.count true) (drop (e.start + e.count) flags) ∙ ap (λ n. n + count_set (drop (e.start + e.count) flags)) (all_set e.count)) in
    omega (arith, whole, front, back, none, ap count_set rest)

pub stretch_few : (flags : List Bool) (e : Extent) → e.start + e.count ≤ length flags → ((k : ℕ) → e.start ≤ k → k < e.start + e.count → get_or flags k true ≡ false) → count_set flags + e.count ≤ length flags
stretch_few flags e inside clear = omega (arith, stretch_count flags e inside clear, count_by-le-length (λ flag. flag) (mark flags e true), length-mark flags e true inside)

has_inside : (e : Extent) (k : ℕ) → e.start ≤ k → k < e.start + e.count → has e k ≡ true
has_inside e k low high = grind (arith, nat_tests)

has_low : (e : Extent) (k : ℕ) → k < e.start → has e k ≡ false
has_low e k low = grind (arith, nat_tests)

has_high : (e : Extent) (k : ℕ) → e.start + e.count ≤ k → has e k ≡ false
has_high e k high = grind (arith, nat_tests)

pub stretch_set : (flags : List Bool) (e : Extent) (k : ℕ) → e.start + e.count ≤ length flags → e.start ≤ k → k < e.start + e.count → get_or (mark flags e true) k false ≡ true
stretch_set flags e k inside low high = get_or-mark flags e true k false inside ∙ ap (λ (b : Bool). cond b true (get_or flags k false)) (has_inside e k low high)

pub stretch_keeps : (flags : List Bool) (e : Extent) (k : ℕ) → e.start + e.count ≤ length flags → (k < e.start) ⊎ (e.start + e.count ≤ k) → get_or (mark flags e true) k false ≡ get_or flags k false
stretch_keeps flags e k inside outside = get_or-mark flags e true k false inside ∙ ap (λ (b : Bool). cond b true (get_or flags k false)) (⊎_elim (has_low e k) (has_high e k) outside)

pub stretch_stays : (flags : List Bool) (e : Extent) (k : ℕ) → e.start + e.count ≤ length flags → get_or flags k false ≡ true → get_or (mark flags e true) k false ≡ true
stretch_stays flags e k inside was = get_or-mark flags e true k false inside ∙ either (has e k)
  where
    either : (b : Bool) → cond b true (get_or flags k false) ≡ true
    either true = refl
    either false = was

-- flags that are clear, whatever is read past the end
clear_too : (flags : List Bool) (e : Extent) → e.start + e.count ≤ length flags → ((k : ℕ) → e.start ≤ k → k < e.start + e.count → get_or flags k false ≡ false) → (k : ℕ) → e.start ≤ k → k < e.start + e.count → get_or flags k true ≡ false
clear_too flags e inside clear k low high = get_or_default flags k true false (omega (arith, inside, high)) ∙ clear k low high

pub stretch_more : (flags new : List Bool) (e : Extent) → new ≡ mark flags e true → e.start + e.count ≤ length flags → ((k : ℕ) → e.start ≤ k → k < e.start + e.count → get_or flags k false ≡ false) → count_set new ≡ count_set flags + e.count
stretch_more flags new e is inside clear = ap count_set is ∙ stretch_count flags e inside (clear_too flags e inside clear)

pub stretch_fits : (flags : List Bool) (e : Extent) → e.start + e.count ≤ length flags → ((k : ℕ) → e.start ≤ k → k < e.start + e.count → get_or flags k false ≡ false) → count_set flags + e.count ≤ length flags
stretch_fits flags e inside clear = stretch_few flags e inside (clear_too flags e inside clear)
