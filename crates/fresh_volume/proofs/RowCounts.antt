-- How often a block stands in ranges that lie one behind the other, and how many blocks are among them.
use Rattle.std.proofs.Common.{◌≡◌, ℕ, suc, zero, ◌+◌, ◌-◌, ◌<◌, ◌≤◌, ◌==◌, ◌||◌, ltb, Bool, true, false, cond, List, [], ◌∷◌, count_by, refl, sym, ◌∙◌, ap, arith, ⊎_elim, zero-add}
use Rattle.std.specs.List.{range_with_len}
use Rattle.std.proofs.lemmas.Bool.{cases_lt, lt-ltb, le-leb, lt-leb}
use Rattle.std.proofs.lemmas.List.Sums.{sum_by-append, sum_by-cons}
use Rattle.hx_bytes.specs.declared.extents.Extent.{Extent}
use Rattle.fork_map.proofs.Ranges.{range-append}
use Rattle.flag_rows.specs.Bitmap.{is_marked}
use Rattle.alloc_bitmap.specs.Apart.{times}
use Rattle.alloc_bitmap.proofs.ApartLaws.{times-append, times-cons, times_range}
use Rattle.hfs_volume.specs.Blocks.{is_among, count_used}

-- ---- one range

in_range : (s c k : ℕ) → s ≤ k → k < s + c → times k (range_with_len s c) ≡ 1
in_range s c k low high = times_range (record { start = s; count = c }) k ∙ rw (le-leb s k low, le-leb (suc k) (s + c) high) refl

below_range : (s c k : ℕ) → k < s → times k (range_with_len s c) ≡ 0
below_range s c k low = times_range (record { start = s; count = c }) k ∙ rw (lt-leb s k low) refl

above_range : (s c k : ℕ) → s + c ≤ k → times k (range_with_len s c) ≡ 0
above_range s c k high = times_range (record { start = s; count = c }) k ∙ rw (le-leb s k (omega (arith, high)), lt-leb (suc k) (s + c) (omega (arith, high))) refl

-- ---- in a row

-- what lies behind a row that begins with block 0 makes it longer
pub row_grows : (k end : ℕ) (part : Extent) → part.start ≡ end → times k (range_with_len 0 end) + times k (range_with_len part.start part.count) ≡ times k (range_with_len 0 (part.start + part.count))
row_grows k end part behind =
    let from : 0 + part.start ≡ part.start = zero-add part.start in
    ap (λ (n : ℕ). times k (range_with_len 0 n) + times k (range_with_len part.start part.count)) (sym behind)
    ∙ ap (λ (n : ℕ). times k (range_with_len 0 part.start) + times k (range_with_len n part.count)) (sym from)
    ∙ sym (times-append k (range_with_len 0 part.start) (range_with_len (0 + part.start) part.count))
    ∙ ap (λ (l : List ℕ). times k l) (sym (range-append 0 part.start part.count))

marked_low : (k end : ℕ) (last : Extent) → k < end → is_marked end last k ≡ true
marked_low k end last low = rw (le-leb (suc k) end low) refl

marked_last : (k end : ℕ) (last : Extent) → end ≤ k → last.start ≤ k → k < last.start + last.count → is_marked end last k ≡ true
marked_last k end last high from inside = rw (lt-leb (suc k) end (omega (arith, high)), le-leb last.start k from, le-leb (suc k) (last.start + last.count) inside) refl

pub unmarked_between : (k end : ℕ) (last : Extent) → end ≤ k → k < last.start → is_marked end last k ≡ false
unmarked_between k end last high before = rw (lt-leb (suc k) end (omega (arith, high)), lt-leb last.start k before) refl

pub unmarked_past : (k end : ℕ) (last : Extent) → end ≤ k → last.start + last.count ≤ k → is_marked end last k ≡ false
unmarked_past k end last high past =
    rw (lt-leb (suc k) end (omega (arith, high)), le-leb last.start k (omega (arith, past)), lt-leb (suc k) (last.start + last.count) (omega (arith, past))) refl

-- a row that begins with block 0, and a range behind it, have each block once at most
pub row_once : (k end : ℕ) (last : Extent) → end ≤ last.start → times k (range_with_len 0 end) + times k (range_with_len last.start last.count) ≡ cond (is_marked end last k) 1 0
row_once k end last apart =
    ⊎_elim
    (λ (low : k < end). omega (arith, in_range 0 end k (omega arith) (omega (arith, low)), below_range last.start last.count k (omega (arith, low, apart))) ∙ sym (ap (λ (b : Bool). cond b 1 0) (marked_low k end last low)))
    (λ (high : end ≤ k).
    let none : times k (range_with_len 0 end) ≡ 0 = above_range 0 end k (omega (arith, high)) in
    ⊎_elim
    (λ (before : k < last.start). omega (arith, none, below_range last.start last.count k before) ∙ sym (ap (λ (b : Bool). cond b 1 0) (unmarked_between k end last high before)))
    (λ (from : last.start ≤ k). ⊎_elim
    (λ (inside : k < last.start + last.count). omega (arith, none, in_range last.start last.count k from inside) ∙ sym (ap (λ (b : Bool). cond b 1 0) (marked_last k end last high from inside)))
    (λ (past : last.start + last.count ≤ k). omega (arith, none, above_range last.start last.count k past) ∙ sym (ap (λ (b : Bool). cond b 1 0) (unmarked_past k end last high past)))
    (cases_lt k (last.start + last.count)))
    (cases_lt k last.start))
    (cases_lt k end)

-- ---- among

among_is : (k : ℕ) (blocks : List ℕ) → is_among blocks k ≡ ltb 0 (times k blocks)
among_is k [] = refl
among_is k (b ∷ blocks) = by (b == k) (times-cons k b blocks) (among_is k blocks)
  where
    by : (t : Bool) → times k (b ∷ blocks) ≡ cond t 1 0 + times k blocks → is_among blocks k ≡ ltb 0 (times k blocks) → (t || is_among blocks k) ≡ ltb 0 (times k (b ∷ blocks))
    by true is rest = sym (ap (ltb 0) is ∙ lt-ltb 0 (1 + times k blocks) (omega arith))
    by false is rest = rest ∙ sym (ap (ltb 0) (is ∙ zero-add (times k blocks)))

one_is : (b : Bool) → ltb 0 (cond b 1 0) ≡ b
one_is true = refl
one_is false = refl

one_most : (b : Bool) → cond b 1 0 ≤ 1
one_most true = omega arith
one_most false = omega arith

-- a list with these blocks has each once at most, and just the marked ones
module _ (used : List ℕ) (end : ℕ) (last : Extent) (apart : end ≤ last.start) (are : (k : ℕ) → times k used ≡ times k (range_with_len 0 end) + times k (range_with_len last.start last.count)) where
  pub each_once : (k : ℕ) → times k used ≤ 1
  each_once k = omega (arith, are k, row_once k end last apart, one_most (is_marked end last k))

  pub among_marked : (k : ℕ) → is_among used k ≡ is_marked end last k
  among_marked k = among_is k used ∙ ap (ltb 0) (are k ∙ row_once k end last apart) ∙ one_is (is_marked end last k)

-- ---- how many

abbrev one_of : Bool → ℕ
one_of b = cond b 1 0

count_all : (p : ℕ → Bool) (a n : ℕ) → ((k : ℕ) → a ≤ k → k < a + n → p k ≡ true) → count_by p (range_with_len a n) ≡ n
count_all p a zero each = refl
count_all p a (suc n) each =
    let rest : count_by p (range_with_len (a + 1) n) ≡ n = count_all p (a + 1) n (λ k low high. each k (omega (arith, low)) (omega (arith, high))) in
    let here : one_of (p a) ≡ 1 = ap one_of (each a (omega arith) (omega arith)) in
    omega (arith, sum_by-cons (λ (x : ℕ). cond (p x) 1 0) a (range_with_len (a + 1) n), here, rest)

count_none : (p : ℕ → Bool) (a n : ℕ) → ((k : ℕ) → a ≤ k → k < a + n → p k ≡ false) → count_by p (range_with_len a n) ≡ 0
count_none p a zero each = refl
count_none p a (suc n) each =
    let rest : count_by p (range_with_len (a + 1) n) ≡ 0 = count_none p (a + 1) n (λ k low high. each k (omega (arith, low)) (omega (arith, high))) in
    let here : one_of (p a) ≡ 0 = ap one_of (each a (omega arith) (omega arith)) in
    omega (arith, sum_by-cons (λ (x : ℕ). cond (p x) 1 0) a (range_with_len (a + 1) n), here, rest)

count_ranges : (p : ℕ → Bool) (a m n : ℕ) → count_by p (range_with_len a (m + n)) ≡ count_by p (range_with_len a m) + count_by p (range_with_len (a + m) n)
count_ranges p a m n = ap (count_by p) (range-append a m n) ∙ sum_by-append (λ (x : ℕ). cond (p x) 1 0) (range_with_len a m) (range_with_len (a + m) n)

-- of all blocks up to the end of the last range, so many are marked
marked_count : (end gap count : ℕ) → count_by (is_marked end (record { start = end + gap; count = count })) (range_with_len 0 (end + gap + count)) ≡ end + count
marked_count end gap count =
    let last : Extent = record { start = end + gap; count = count } in
    let p : ℕ → Bool = is_marked end last in
    let low : count_by p (range_with_len 0 end) ≡ end = count_all p 0 end (λ k _ inside. marked_low k end last (omega (arith, inside))) in
    let mid : count_by p (range_with_len (0 + end) gap) ≡ 0 = count_none p (0 + end) gap (λ k from inside. unmarked_between k end last (omega (arith, from)) (omega (arith, inside))) in
    let high : count_by p (range_with_len (0 + (end + gap)) count) ≡ count = count_all p (0 + (end + gap)) count (λ k from inside. marked_last k end last (omega (arith, from)) (omega (arith, from)) (omega (arith, inside))) in
    omega (arith, count_ranges p 0 (end + gap) count, count_ranges p 0 end gap, low, mid, high)

pub used_counted : (used : List ℕ) (end total : ℕ) (last : Extent) → end ≤ last.start → last.start + last.count ≡ total → ((k : ℕ) → is_among used k ≡ is_marked end last k) → count_used total used ≡ end + last.count
used_counted used end total last apart is same =
    let gap : ℕ = last.start - end in
    let start_is : end + gap ≡ last.start = omega (arith, apart) in
    (λ i. count_by (λ (k : ℕ). same k i) (range_with_len 0 total))
    ∙ ap (λ (n : ℕ). count_by (is_marked end last) (range_with_len 0 n)) (sym is)
    ∙ ap (λ (n : ℕ). count_by (is_marked end (record { start = n; count = last.count })) (range_with_len 0 (n + last.count))) (sym start_is)
    ∙ marked_count end gap last.count
