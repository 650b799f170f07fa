-- The blocks of lists that are cut and put together.
use Rattle.std.proofs.Common.{◌≡◌, ℕ, suc, zero, ◌+◌, ◌-◌, ◌*◌, ◌/◌, ◌%◌, ◌^◌, ◌≤◌, ◌<◌, ◌⊎◌, List, [], ◌∷◌, ◌++◌, length, take, drop, get_or, set, true, false, if◌then◌else◌, refl, sym, ◌∙◌, ap, arith, append_assoc, length-append, ⊎_elim, subst, slice_get, Some, None}
use Rattle.std.proofs.lemmas.List.{append-nil, take-append-le, drop-append-le, drop_all, take_all, drop_more, take_rest}
use Rattle.std.proofs.lemmas.List.FromFn.{length-range_with_len, get_or-range_with_len}
use Rattle.std.proofs.lemmas.Bool.Decides.{leb_tells, eqb_tells}
use Rattle.std.proofs.lemmas.Bool.{lt-leb}
use Rattle.std.proofs.Math.Seq.{drop-append-add, take-append-add}
use Rattle.std.proofs.lemmas.Option.{get_or_from_slice_get, slice_get_within, slice_get-get_or}
use Rattle.std.specs.Option.{option_map}
use Rattle.std.specs.List.{range_with_len}
use Rattle.hx_bytes.specs.declared.extents.Extent.{Extent}
use Rattle.fork_map.specs.Blocks.{blocks_of, sectors_of, AreNumbers}
use Rattle.fork_map.specs.Cut.{front, back, touch, join}
use Rattle.fork_map.proofs.Ranges.{range-append, take-range, drop-range}

pub join-first : (es fs : List Extent) (f : Extent) → join es (f ∷ fs) ≡ join es (f ∷ []) ++ fs
join-first [] fs f = refl
join-first (e ∷ []) fs f = elim (touch e f) as (λ b. (if b then record { start = e.start; count = e.count + f.count } ∷ fs else e ∷ f ∷ fs) ≡ (if b then record { start = e.start; count = e.count + f.count } ∷ [] else e ∷ f ∷ []) ++ fs) [ true ↦ refl | false ↦ refl ]
join-first (e ∷ e2 ∷ es) fs f = ap (λ (l : List Extent). e ∷ l) (join-first (e2 ∷ es) fs f)

pub join-none : (es : List Extent) → join es [] ≡ es
join-none [] = refl
join-none (e ∷ []) = refl
join-none (e ∷ e2 ∷ es) = ap (λ (l : List Extent). e ∷ l) (join-none (e2 ∷ es))

-- one extent joined to a list whose last one it touches, or doesn't
pub join_one_touching : (es : List Extent) (k : ℕ) (d e : Extent) → length es ≡ suc k → touch (get_or es k d) e ≡ true → set es k (record { start = (get_or es k d).start; count = (get_or es k d).count + e.count }) ≡ join es (e ∷ [])
join_one_touching [] k d e n t = absurd (omega arith)
join_one_touching (x ∷ []) zero d e n t = rw t refl
join_one_touching (x ∷ []) (suc k) d e n t = absurd (omega arith)
join_one_touching (x ∷ y ∷ es) zero d e n t = absurd (omega arith)
join_one_touching (x ∷ y ∷ es) (suc k) d e n t = ap (λ (l : List Extent). x ∷ l) (join_one_touching (y ∷ es) k d e (omega arith) t)

pub join_one_apart : (es : List Extent) (k : ℕ) (d e : Extent) → length es ≡ suc k → touch (get_or es k d) e ≡ false → es ++ e ∷ [] ≡ join es (e ∷ [])
join_one_apart [] k d e n t = absurd (omega arith)
join_one_apart (x ∷ []) zero d e n t = rw t refl
join_one_apart (x ∷ []) (suc k) d e n t = absurd (omega arith)
join_one_apart (x ∷ y ∷ es) zero d e n t = absurd (omega arith)
join_one_apart (x ∷ y ∷ es) (suc k) d e n t = ap (λ (l : List Extent). x ∷ l) (join_one_apart (y ∷ es) k d e (omega arith) t)

-- ---- the blocks of what was cut or joined
touching_blocks : (e f : Extent) → touch e f ≡ true → range_with_len e.start (e.count + f.count) ≡ range_with_len e.start e.count ++ range_with_len f.start f.count
touching_blocks e f t = ⊎_elim (λ same. range-append e.start e.count f.count ∙ ap (λ k. range_with_len e.start e.count ++ range_with_len k f.count) same.1) (λ other. absurd (let no : false ≡ true = rw other.0 at t in cc no)) (eqb_tells (e.start + e.count) f.start)

pub blocks-join : (es fs : List Extent) → blocks_of (join es fs) ≡ blocks_of es ++ blocks_of fs
blocks-join [] fs = refl
blocks-join (e ∷ []) [] = sym (append-nil _)
blocks-join (e ∷ []) (f ∷ fs) =
    elim (touch e f) as (λ b. touch e f ≡ b → blocks_of (if b then record { start = e.start; count = e.count + f.count } ∷ fs else e ∷ f ∷ fs) ≡ (range_with_len e.start e.count ++ []) ++ (range_with_len f.start f.count ++ blocks_of fs)) [
      | true ↦ λ (t : touch e f ≡ true). ap (λ (l : List ℕ). l ++ blocks_of fs) (touching_blocks e f t) ∙ append_assoc (range_with_len e.start e.count) (range_with_len f.start f.count) (blocks_of fs) ∙ ap (λ (l : List ℕ). l ++ (range_with_len f.start f.count ++ blocks_of fs)) (sym (append-nil (range_with_len e.start e.count)))
      | false ↦ λ (t : touch e f ≡ false). ap (λ (l : List ℕ). l ++ (range_with_len f.start f.count ++ blocks_of fs)) (sym (append-nil (range_with_len e.start e.count)))
    ] refl
blocks-join (e ∷ e2 ∷ es) fs = ap (λ (l : List ℕ). range_with_len e.start e.count ++ l) (blocks-join (e2 ∷ es) fs) ∙ sym (append_assoc (range_with_len e.start e.count) (blocks_of (e2 ∷ es)) (blocks_of fs))

take_in : (xs ys : List ℕ) (n k : ℕ) → length xs + k ≡ n → take n (xs ++ ys) ≡ xs ++ take k ys
take_in xs ys n k is = ap (λ m. take m (xs ++ ys)) (sym is) ∙ take-append-add xs ys k

drop_in : (xs ys : List ℕ) (n k : ℕ) → length xs + k ≡ n → drop n (xs ++ ys) ≡ drop k ys
drop_in xs ys n k is = ap (λ m. drop m (xs ++ ys)) (sym is) ∙ drop-append-add xs ys k

pub blocks-front : (n : ℕ) (es : List Extent) → blocks_of (front n es) ≡ take n (blocks_of es)
blocks-front n [] = sym (take_all n [] (omega arith))
blocks-front n (e ∷ es) = ⊎_elim
    (λ le. rw le.0 (ap (λ (l : List ℕ). range_with_len e.start e.count ++ l) (blocks-front (n - e.count) es) ∙ sym (take_in (range_with_len e.start e.count) (blocks_of es) n (n - e.count) (omega (arith, le.1, length-range_with_len e.start e.count)))))
    (λ gt. rw gt.0 (⊎_elim
    (λ none. rw none.0 (ap (λ k. take k (blocks_of (e ∷ es))) (sym none.1)))
    (λ some. rw some.0 (append-nil (range_with_len e.start n) ∙ sym (take-range n e.start e.count (omega (arith, gt.1))) ∙ sym (take-append-le n (range_with_len e.start e.count) (blocks_of es) (omega (arith, gt.1, length-range_with_len e.start e.count)))))
    (eqb_tells n 0)))
    (leb_tells e.count n)

pub blocks-back : (n : ℕ) (es : List Extent) → blocks_of (back n es) ≡ drop n (blocks_of es)
blocks-back n [] = sym (drop_all n [] (omega arith))
blocks-back n (e ∷ es) = ⊎_elim
    (λ le. rw le.0 (blocks-back (n - e.count) es ∙ sym (drop_in (range_with_len e.start e.count) (blocks_of es) n (n - e.count) (omega (arith, le.1, length-range_with_len e.start e.count)))))
    (λ gt. rw gt.0 (ap (λ (l : List ℕ). l ++ blocks_of es) (sym (drop-range n e.start e.count (e.count - n) (omega (arith, gt.1)))) ∙ sym (drop-append-le n (range_with_len e.start e.count) (blocks_of es) (omega (arith, gt.1, length-range_with_len e.start e.count)))))
    (leb_tells e.count n)

-- ---- the two sides of a cut within an extent
pub back_at : (es : List Extent) (i n : ℕ) (d : Extent) → i < length es → n < (get_or es i d).count → back n (drop i es) ≡ record { start = (get_or es i d).start + n; count = (get_or es i d).count - n } ∷ drop (i + 1) es
back_at es i n d inside lt = rw (drop_more es i d inside, lt-leb (get_or es i d).count n lt) refl

pub front_at : (es : List Extent) (i n : ℕ) (d : Extent) → i < length es → n < (get_or es i d).count → 0 < n → front n (drop i es) ≡ record { start = (get_or es i d).start; count = n } ∷ []
front_at es i n d inside lt some = ⊎_elim (λ none. absurd (omega (arith, none.1))) (λ more. rw (drop_more es i d inside, lt-leb (get_or es i d).count n lt, more.0) refl) (eqb_tells n 0)

pub front_none : (es : List Extent) (i n : ℕ) (d : Extent) → i < length es → n < (get_or es i d).count → n ≡ 0 → front n (drop i es) ≡ []
front_none es i n d inside lt none = ⊎_elim (λ here. rw (drop_more es i d inside, lt-leb (get_or es i d).count n lt, here.0) refl) (λ other. absurd (other.1 none)) (eqb_tells n 0)

pub front_end : (es : List Extent) (i n : ℕ) → length es ≤ i → front n (drop i es) ≡ []
front_end es i n past = rw (drop_all i es past) refl

pub back_end : (es : List Extent) (i n : ℕ) → length es ≤ i → back n (drop i es) ≡ []
back_end es i n past = rw (drop_all i es past) refl

-- ---- one block of a list
range_some : (a k : ℕ) → 0 < k → (rest : List ℕ) × (range_with_len a k ≡ a ∷ rest)
range_some a zero some = absurd (omega arith)
range_some a (suc k) some = (range_with_len (a + 1) k, refl)

slice_get_dropped : (xs : List ℕ) (n x : ℕ) (rest : List ℕ) → drop n xs ≡ x ∷ rest → slice_get xs n ≡ Some x
slice_get_dropped [] zero x rest is = cc
slice_get_dropped [] (suc n) x rest is = cc
slice_get_dropped (y ∷ xs) zero x rest is = cc
slice_get_dropped (y ∷ xs) (suc n) x rest is = slice_get_dropped xs n x rest is

slice_get_dropped_all : (xs : List ℕ) (n : ℕ) → drop n xs ≡ [] → slice_get xs n ≡ None
slice_get_dropped_all [] zero is = refl
slice_get_dropped_all [] (suc n) is = refl
slice_get_dropped_all (y ∷ xs) zero is = cc
slice_get_dropped_all (y ∷ xs) (suc n) is = slice_get_dropped_all xs n is

pub block_at_cut : (es : List Extent) (i k n : ℕ) (d : Extent) → i < length es → k < (get_or es i d).count → back n es ≡ back k (drop i es) → slice_get (blocks_of es) n ≡ Some ((get_or es i d).start + k)
block_at_cut es i k n d inside lt same =
    let first = range_some ((get_or es i d).start + k) ((get_or es i d).count - k) (omega arith) in
    let cut : drop n (blocks_of es) ≡ range_with_len ((get_or es i d).start + k) ((get_or es i d).count - k) ++ blocks_of (drop (i + 1) es) = sym (blocks-back n es) ∙ ap (λ (l : List Extent). blocks_of l) (same ∙ back_at es i k d inside lt) in
    slice_get_dropped (blocks_of es) n ((get_or es i d).start + k) (first.0 ++ blocks_of (drop (i + 1) es)) (cut ∙ ap (λ (l : List ℕ). l ++ blocks_of (drop (i + 1) es)) first.1)

pub no_block_at : (es : List Extent) (i k n : ℕ) → length es ≤ i → back n es ≡ back k (drop i es) → slice_get (blocks_of es) n ≡ None
no_block_at es i k n past same = slice_get_dropped_all (blocks_of es) n (sym (blocks-back n es) ∙ ap (λ (l : List Extent). blocks_of l) (same ∙ back_end es i k past))

pub number_at_cut : (es : List Extent) (i k n : ℕ) (d : Extent) → AreNumbers (blocks_of es) → i < length es → k < (get_or es i d).count → back n es ≡ back k (drop i es) → (get_or es i d).start + k < 2 ^ 32
number_at_cut es i k n d numbers inside lt same =
    let here : slice_get (blocks_of es) n ≡ Some ((get_or es i d).start + k) = block_at_cut es i k n d inside lt same in
    subst (λ b. b < 2 ^ 32) (get_or_from_slice_get (blocks_of es) n ((get_or es i d).start + k) 0 here) (numbers n 0 (slice_get_within (blocks_of es) n ((get_or es i d).start + k) here))

-- one extent joined, by what the code reads of the last one
pub joins_touching : (es : List Extent) (k : ℕ) (x e : Extent) → length es ≡ suc k → x ≡ get_or es k x → touch x e ≡ true → set es k (record { start = x.start; count = x.count + e.count }) ≡ join es (e ∷ [])
joins_touching es k x e n is t = subst (λ (y : Extent). touch y e ≡ true → set es k (record { start = y.start; count = y.count + e.count }) ≡ join es (e ∷ [])) (sym is) (join_one_touching es k x e n) t

pub joins_apart : (es : List Extent) (k : ℕ) (x e : Extent) → length es ≡ suc k → x ≡ get_or es k x → touch x e ≡ false → es ++ e ∷ [] ≡ join es (e ∷ [])
joins_apart es k x e n is t = subst (λ (y : Extent). touch y e ≡ false → es ++ e ∷ [] ≡ join es (e ∷ [])) (sym is) (join_one_apart es k x e n) t

pub joins_none : (es : List Extent) (e : Extent) → length es ≡ 0 → es ++ e ∷ [] ≡ join es (e ∷ [])
joins_none [] e n = refl
joins_none (x ∷ es) e n = absurd (omega arith)

-- ---- for the loops and calls
pub length_blocks_more : (es : List Extent) (i : ℕ) (d : Extent) → i < length es → length (blocks_of (drop i es)) ≡ (get_or es i d).count + length (blocks_of (drop (i + 1) es))
length_blocks_more es i d inside = ap (λ (l : List Extent). length (blocks_of l)) (drop_more es i d inside) ∙ length-append (range_with_len (get_or es i d).start (get_or es i d).count) (blocks_of (drop (i + 1) es)) ∙ ap (λ k. k + length (blocks_of (drop (i + 1) es))) (length-range_with_len (get_or es i d).start (get_or es i d).count)

pub joins_empty : (es fs : List Extent) → length fs < 1 → es ≡ join es fs
joins_empty es [] none = sym (join-none es)
joins_empty es (f ∷ fs) none = absurd (omega arith)

pub joins_parts : (es fs : List Extent) (d : Extent) → 0 < length fs → join es (get_or fs 0 d ∷ []) ++ drop 1 fs ≡ join es fs
joins_parts es [] d some = absurd (omega arith)
joins_parts es (f ∷ fs) d some = sym (join-first es fs f)

pub joins_all : (es fs : List Extent) (d : Extent) → 0 < length fs → join es (get_or fs 0 d ∷ []) ++ take (length fs - 1) (drop 1 fs) ≡ join es fs
joins_all es fs d some = ap (λ (l : List Extent). join es (get_or fs 0 d ∷ []) ++ l) (take_rest fs 1) ∙ joins_parts es fs d some

pub joins_back : (es ls : List Extent) (i k n : ℕ) (d : Extent) → i < length es → k < (get_or es i d).count → back n es ≡ back k (drop i es)
    → join ls (record { start = (get_or es i d).start + k; count = (get_or es i d).count - k } ∷ []) ++ take (length es - (i + 1)) (drop (i + 1) es) ≡ join ls (back n es)
joins_back es ls i k n d inside lt same =
    let first : Extent = record { start = (get_or es i d).start + k; count = (get_or es i d).count - k } in
    ap (λ (l : List Extent). join ls (first ∷ []) ++ l) (take_rest es (i + 1)) ∙ sym (join-first ls (drop (i + 1) es) first) ∙ ap (λ (l : List Extent). join ls l) (sym (same ∙ back_at es i k d inside lt))

pub joins_no_back : (es ls : List Extent) (i k n : ℕ) → length es ≤ i → back n es ≡ back k (drop i es) → ls ≡ join ls (back n es)
joins_no_back es ls i k n past same = sym (ap (λ (l : List Extent). join ls l) (same ∙ back_end es i k past) ∙ join-none ls)

pub no_more_front : (es : List Extent) (i k n : ℕ) (d : Extent) → (i < length es × k ≤ 0) ⊎ (length es ≤ i) → (i < length es → k < (get_or es i d).count) → front n es ≡ take i es ++ front k (drop i es) → take i es ≡ front n es
no_more_front es i k n d either lt same =
    let none : front k (drop i es) ≡ [] = ⊎_elim (λ w. front_none es i k d w.0 (lt w.0) (omega (arith, w.1))) (λ w. front_end es i k w) either in
    sym (append-nil (take i es)) ∙ ap (λ (l : List Extent). take i es ++ l) (sym none) ∙ sym same

-- ---- sectors
pub no_sectors : (bs : List ℕ) → sectors_of 0 bs ≡ []
no_sectors [] = refl
no_sectors (b ∷ bs) = no_sectors bs

slice_get_left : (xs ys : List ℕ) (n : ℕ) → n < length xs → slice_get (xs ++ ys) n ≡ slice_get xs n
slice_get_left [] ys n lt = absurd (omega arith)
slice_get_left (x ∷ xs) ys zero lt = refl
slice_get_left (x ∷ xs) ys (suc n) lt = slice_get_left xs ys n (omega arith)

slice_get_right : (xs ys : List ℕ) (n m : ℕ) → length xs + m ≡ n → slice_get (xs ++ ys) n ≡ slice_get ys m
slice_get_right [] ys n m is = ap (λ k. slice_get ys k) (omega arith)
slice_get_right (x ∷ xs) ys zero m is = absurd (omega arith)
slice_get_right (x ∷ xs) ys (suc n) m is = slice_get_right xs ys n m (omega arith)

slice_get_range : (a n k : ℕ) → k < n → slice_get (range_with_len a n) k ≡ Some (a + k)
slice_get_range a n k lt = slice_get-get_or (range_with_len a n) k 0 (omega (arith, lt, length-range_with_len a n)) ∙ ap (λ b. Some b) (get_or-range_with_len a n k 0 lt)

sector_in : (p : ℕ) (bs : List ℕ) (q r : ℕ) → r < p → slice_get (sectors_of p bs) (q * p + r) ≡ option_map (λ b. b * p + r) (slice_get bs q)
sector_in p [] q r lt = refl
sector_in p (b ∷ bs) zero r lt =
    let here : 0 * p + r ≡ r = omega arith in
    ap (λ k. slice_get (sectors_of p (b ∷ bs)) k) here ∙ slice_get_left (range_with_len (b * p) p) (sectors_of p bs) r (omega (arith, lt, length-range_with_len (b * p) p)) ∙ slice_get_range (b * p) p r lt
sector_in p (b ∷ bs) (suc q) r lt = slice_get_right (range_with_len (b * p) p) (sectors_of p bs) (suc q * p + r) (q * p + r) (omega (arith, length-range_with_len (b * p) p)) ∙ sector_in p bs q r lt

pub sector_at_place : (p : ℕ) (bs : List ℕ) (n : ℕ) → 0 < p → slice_get (sectors_of p bs) n ≡ option_map (λ b. b * p + n % p) (slice_get bs (n / p))
sector_at_place p bs n some =
    let split : n ≡ n / p * p + n % p = omega arith in
    let below : n % p < p = omega arith in
    ap (λ k. slice_get (sectors_of p bs) k) split ∙ sector_in p bs (n / p) (n % p) below
