-- How many times a block stands in extents.
use Rattle.std.proofs.Common.{◌≡◌, ℕ, suc, zero, ◌+◌, ◌≤◌, ◌<◌, true, false, ◌==◌, if◌then◌else◌, cond, List, [], ◌∷◌, ◌++◌, length, refl, ◌∙◌, arith, ⊎_elim, length-append}
use Rattle.std.specs.List.{range_with_len}
use Rattle.std.proofs.lemmas.List.Sums.{sum_by-append, sum_by-cons}
use Rattle.std.proofs.lemmas.Bool.Decides.{leb_tells, eqb_tells}
use Rattle.std.proofs.lemmas.List.FromFn.{length-range_with_len}
use Rattle.hx_bytes.specs.declared.extents.Extent.{Extent}
use Rattle.fork_map.specs.Blocks.{blocks_of}
use Rattle.flag_rows.specs.Bits.{has}
use Rattle.flag_rows.specs.Marks.{is_held}
use Rattle.alloc_bitmap.specs.Apart.{times, AreApart}

pub times-append : (k : ℕ) (xs ys : List ℕ) → times k (xs ++ ys) ≡ times k xs + times k ys
times-append k xs ys = sum_by-append (λ (x : ℕ). cond (x == k) 1 0) xs ys

pub times-cons : (k x : ℕ) (xs : List ℕ) → times k (x ∷ xs) ≡ cond (x == k) 1 0 + times k xs
times-cons k x xs = sum_by-cons (λ (y : ℕ). cond (y == k) 1 0) x xs

times_below : (a n k : ℕ) → k < a → times k (range_with_len a n) ≡ 0
times_below a zero k lt = refl
times_below a (suc n) k lt = ⊎_elim (λ same. absurd (omega (arith, same.1, lt))) (λ other. times-cons k a (range_with_len (a + 1) n) ∙ rw other.0 (omega (arith, times_below (a + 1) n k (omega (arith, lt))))) (eqb_tells a k)

times_inside : (a n k : ℕ) → a ≤ k → k < a + n → times k (range_with_len a n) ≡ 1
times_inside a zero k low high = absurd (omega (arith, low, high))
times_inside a (suc n) k low high = times-cons k a (range_with_len (a + 1) n) ∙ ⊎_elim
    (λ same. rw same.0 (omega (arith, times_below (a + 1) n k (omega (arith, same.1)))))
    (λ other. let past : a + 1 ≤ k = omega (arith, low, other.1) in rw other.0 (omega (arith, times_inside (a + 1) n k past (omega (arith, high)))))
    (eqb_tells a k)

times_above : (a n k : ℕ) → a + n ≤ k → times k (range_with_len a n) ≡ 0
times_above a zero k high = refl
times_above a (suc n) k high = times-cons k a (range_with_len (a + 1) n) ∙ ⊎_elim
    (λ same. absurd (omega (arith, same.1, high)))
    (λ other. rw other.0 (omega (arith, times_above (a + 1) n k (omega (arith, high)))))
    (eqb_tells a k)

pub times_range : (e : Extent) (k : ℕ) → times k (range_with_len e.start e.count) ≡ (if has e k then 1 else 0)
times_range e k = ⊎_elim
    (λ low. ⊎_elim (λ high. rw (low.0, high.0) (times_inside e.start e.count k low.1 high.1)) (λ past. rw (low.0, past.0) (times_above e.start e.count k (omega (arith, past.1)))) (leb_tells (suc k) (e.start + e.count)))
    (λ under. rw under.0 (times_below e.start e.count k under.1))
    (leb_tells e.start k)

pub times_held : (es : List Extent) (k : ℕ) → is_held es k ≡ true → 1 ≤ times k (blocks_of es)
times_held [] k h = absurd (let no : false ≡ true = h in cc no)
times_held (e ∷ es) k h =
    let parts = times-append k (range_with_len e.start e.count) (blocks_of es) in
    let here = times_range e k in
    elim (has e k) as (λ b. has e k ≡ b → 1 ≤ times k (blocks_of (e ∷ es))) [
      | true ↦ λ (is : has e k ≡ true). let one : times k (range_with_len e.start e.count) ≡ 1 = here ∙ rw is refl in omega (arith, parts, one)
      | false ↦ λ (is : has e k ≡ false). let later : is_held es k ≡ true = rw is at h in omega (arith, parts, times_held es k later)
    ] refl

pub not_twice : (e : Extent) (es : List Extent) (k : ℕ) → AreApart (blocks_of (e ∷ es)) → is_held es k ≡ true → has e k ≡ false
not_twice e es k apart held = elim (has e k) as (λ b. has e k ≡ b → b ≡ false) [
  | true ↦ λ (is : has e k ≡ true).
      let one : times k (range_with_len e.start e.count) ≡ 1 = times_range e k ∙ rw is refl in
      absurd (omega (arith, times-append k (range_with_len e.start e.count) (blocks_of es), one, times_held es k held, apart k))
  | false ↦ λ (is : has e k ≡ false). refl
] refl

pub apart_rest : (e : Extent) (es : List Extent) → AreApart (blocks_of (e ∷ es)) → AreApart (blocks_of es)
apart_rest e es apart = λ k. omega (arith, apart k, times-append k (range_with_len e.start e.count) (blocks_of es))

pub length_blocks : (e : Extent) (es : List Extent) → length (blocks_of (e ∷ es)) ≡ e.count + length (blocks_of es)
length_blocks e es = omega (arith, length-append (range_with_len e.start e.count) (blocks_of es), length-range_with_len e.start e.count)
