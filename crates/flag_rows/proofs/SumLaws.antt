-- The sum of two stretches.
use Rattle.std.proofs.Common.{◌≡◌, ◌≢◌, ℕ, suc, ◌+◌, ◌-◌, ◌^◌, ◌≤◌, ◌<◌, Bool, true, false, ◌==◌, if◌then◌else◌, cond, List, [], ◌∷◌, ◌++◌, length, refl, sym, ◌∙◌, ap, arith, ⊎_elim, length-append}
use Rattle.std.proofs.lemmas.Bool.{cases_lt, le-leb, lt-leb}
use Rattle.std.proofs.lemmas.Bool.Decides.{leb_tells, eqb_tells}
use Rattle.hx_bytes.specs.declared.extents.Extent.{Extent}
use Rattle.flag_rows.specs.declared.sums.Sum.{Sum}
use Rattle.std.proofs.lemmas.List.Sums.{sum_by-cons}
use Rattle.flag_rows.specs.Bits.{count_set}
use Rattle.flag_rows.specs.Sums.{front_of, back_from, better, top_from, sum_of, fit, joined}

-- ---- the better of two
pub better_first : (a b : Extent) → b.count ≤ a.count → better a b ≡ a
better_first a b le = rw (lt-leb (suc a.count) b.count (omega (arith, le))) refl

pub better_second : (a b : Extent) → a.count < b.count → better a b ≡ b
better_second a b lt = rw (le-leb (suc a.count) b.count lt) refl

pub better_assoc : (a b c : Extent) → better (better a b) c ≡ better a (better b c)
better_assoc a b c = ⊎_elim
    (λ ab. ⊎_elim
    (λ bc. ap (λ e. better e c) (better_second a b ab.1) ∙ better_second b c bc.1 ∙ sym (better_second a c (omega (arith, ab.1, bc.1))) ∙ ap (λ e. better a e) (sym (better_second b c bc.1)))
    (λ bc. ap (λ e. better e c) (better_second a b ab.1) ∙ better_first b c (omega (arith, bc.1)) ∙ sym (better_second a b ab.1) ∙ ap (λ e. better a e) (sym (better_first b c (omega (arith, bc.1)))))
    (leb_tells (suc b.count) c.count))
    (λ ab. ⊎_elim
    (λ bc. ap (λ e. better e c) (better_first a b (omega (arith, ab.1))) ∙ ap (λ e. better a e) (sym (better_second b c bc.1)))
    (λ bc. ap (λ e. better e c) (better_first a b (omega (arith, ab.1))) ∙ better_first a c (omega (arith, ab.1, bc.1)) ∙ sym (better_first a b (omega (arith, ab.1))) ∙ ap (λ e. better a e) (sym (better_first b c (omega (arith, bc.1)))))
    (leb_tells (suc b.count) c.count))
    (leb_tells (suc a.count) b.count)

pub better_count : (a b : Extent) → (a.count ≤ (better a b).count) × (b.count ≤ (better a b).count)
better_count a b = ⊎_elim
    (λ lt. rw lt.0 (omega (arith, lt.1), omega arith))
    (λ ge. rw ge.0 (omega arith, omega (arith, ge.1)))
    (leb_tells (suc a.count) b.count)

-- ---- a run that is open at the begin
ext : (a b c : ℕ) → a ≡ b → ◌≡◌ {A = Extent} (record { start = a; count = c }) (record { start = b; count = c })
ext a b c is = ap (λ s. record { start = s; count = c }) is

pub same_extents : (a b c d : ℕ) → a ≡ b → c ≡ d → ◌≡◌ {A = Extent} (record { start = a; count = c }) (record { start = b; count = d })
same_extents a b c d is same = ap (λ s. record { start = s; count = c }) is ∙ ap (λ n. record { start = b; count = n }) same

pub opened : (at n : ℕ) (ys : List Bool) → n ≤ at → top_from at n ys ≡ better (record { start = at - n; count = n + front_of ys }) (top_from at 0 ys)
opened at n [] le = sym (better_first (record { start = at - n; count = n + 0 }) (record { start = at - 0; count = 0 }) (omega arith) ∙ same_extents (at - n) (at - n) (n + 0) n refl (omega arith))
opened at n (true ∷ ys) le =
    let t : Extent = top_from (at + 1) 0 ys in
    let one : Extent = record { start = at + 1 - 1; count = 1 + front_of ys } in
    let here : Extent = record { start = at - n; count = n + (front_of ys + 1) } in
    let same : ◌≡◌ {A = Extent} (record { start = at + 1 - (n + 1); count = n + 1 + front_of ys }) here = same_extents (at + 1 - (n + 1)) (at - n) (n + 1 + front_of ys) (n + (front_of ys + 1)) (omega (arith, le)) (omega arith) in
    opened (at + 1) (n + 1) ys (omega (arith, le)) ∙ ap (λ e. better e t) same
    ∙ ap (λ e. better e t) (sym (better_first here one (omega arith)))
    ∙ better_assoc here one t
    ∙ ap (λ e. better here e) (sym (opened (at + 1) 1 ys (omega arith)))
opened at n (false ∷ ys) le =
    let t : Extent = top_from (at + 1) 0 ys in
    let none : Extent = record { start = at - 0; count = 0 } in
    let here : Extent = record { start = at - n; count = n + 0 } in
    ap (λ e. better e t) (same_extents (at - n) (at - n) n (n + 0) refl (omega arith)) ∙ ap (λ e. better e t) (sym (better_first here none (omega arith))) ∙ better_assoc here none t

-- a run that is open at the end, again as open at the begin, is the same
absorbed : (at n : ℕ) (ys : List Bool) → n ≤ at → better (record { start = at - n; count = n }) (top_from at n ys) ≡ top_from at n ys
absorbed at n ys le =
    let t : Extent = top_from at 0 ys in
    let small : Extent = record { start = at - n; count = n } in
    let here : Extent = record { start = at - n; count = n + front_of ys } in
    let larger : better small here ≡ here = ⊎_elim
    (λ lt. better_second small here lt)
    (λ ge. better_first small here ge ∙ same_extents (at - n) (at - n) n (n + front_of ys) refl (omega (arith, ge)))
    (cases_lt n (n + front_of ys)) in
    ap (λ e. better small e) (opened at n ys le) ∙ sym (better_assoc small here t) ∙ ap (λ e. better e t) larger ∙ sym (opened at n ys le)

pub back_within : (n : ℕ) (xs : List Bool) → back_from n xs ≤ n + length xs
back_within n [] = omega arith
back_within n (true ∷ xs) = omega (arith, back_within (n + 1) xs)
back_within n (false ∷ xs) = omega (arith, back_within 0 xs)

pub front_within : (xs : List Bool) → front_of xs ≤ length xs
front_within [] = omega arith
front_within (true ∷ xs) = omega (arith, front_within xs)
front_within (false ∷ xs) = omega arith

pub top_append : (at n : ℕ) (xs ys : List Bool) → n ≤ at → top_from at n (xs ++ ys) ≡ better (top_from at n xs) (top_from (at + length xs) (back_from n xs) ys)
top_append at n [] ys le = ap (λ k. top_from k n ys) (let s : at ≡ at + 0 = omega arith in s) ∙ sym (absorbed (at + 0) n ys (omega (arith, le))) ∙ ap (λ s. better (record { start = s; count = n }) (top_from (at + 0) n ys)) (let s : at + 0 - n ≡ at - n = omega arith in s)
top_append at n (true ∷ xs) ys le = top_append (at + 1) (n + 1) xs ys (omega (arith, le)) ∙ ap (λ k. better (top_from (at + 1) (n + 1) xs) (top_from k (back_from (n + 1) xs) ys)) (let s : at + 1 + length xs ≡ at + length (true ∷ xs) = omega arith in s)
top_append at n (false ∷ xs) ys le =
    let e : Extent = record { start = at - n; count = n } in
    ap (λ t. better e t) (top_append (at + 1) 0 xs ys (omega arith) ∙ ap (λ k. better (top_from (at + 1) 0 xs) (top_from k (back_from 0 xs) ys)) (let s : at + 1 + length xs ≡ at + length (false ∷ xs) = omega arith in s))
    ∙ sym (better_assoc e (top_from (at + 1) 0 xs) (top_from (at + length (false ∷ xs)) (back_from 0 xs) ys))

-- ---- a stretch that begins later
abbrev pub moved : ℕ → Extent → Extent
moved k e = record { start = k + e.start; count = e.count }

moved_better : (k : ℕ) (a b : Extent) → better (moved k a) (moved k b) ≡ moved k (better a b)
moved_better k a b = ⊎_elim
    (λ lt. better_second (moved k a) (moved k b) lt.1 ∙ ap (λ e. moved k e) (sym (better_second a b lt.1)))
    (λ ge. better_first (moved k a) (moved k b) (omega (arith, ge.1)) ∙ ap (λ e. moved k e) (sym (better_first a b (omega (arith, ge.1)))))
    (leb_tells (suc a.count) b.count)

pub top_moved : (k at n : ℕ) (ys : List Bool) → n ≤ at → top_from (k + at) n ys ≡ moved k (top_from at n ys)
top_moved k at n [] le = ext (k + at - n) (k + (at - n)) n (omega (arith, le))
top_moved k at n (true ∷ ys) le = ap (λ j. top_from j (n + 1) ys) (let s : k + at + 1 ≡ k + (at + 1) = omega arith in s) ∙ top_moved k (at + 1) (n + 1) ys (omega (arith, le))
top_moved k at n (false ∷ ys) le =
    ap (λ j. better (record { start = k + at - n; count = n }) (top_from j 0 ys)) (let s : k + at + 1 ≡ k + (at + 1) = omega arith in s)
    ∙ ap (λ t. better (record { start = k + at - n; count = n }) t) (top_moved k (at + 1) 0 ys (omega arith))
    ∙ ap (λ e. better e (moved k (top_from (at + 1) 0 ys))) (ext (k + at - n) (k + (at - n)) n (omega (arith, le)))
    ∙ moved_better k (record { start = at - n; count = n }) (top_from (at + 1) 0 ys)

front_all : (xs ys : List Bool) → front_of xs ≡ length xs → front_of (xs ++ ys) ≡ length xs + front_of ys
front_all [] ys all = omega arith
front_all (true ∷ xs) ys all = omega (arith, front_all xs ys (omega (arith, all)))
front_all (false ∷ xs) ys all = absurd (omega (arith, all))

front_part : (xs ys : List Bool) → front_of xs ≢ length xs → front_of (xs ++ ys) ≡ front_of xs
front_part [] ys part = absurd (part refl)
front_part (true ∷ xs) ys part = ap (λ n. n + 1) (front_part xs ys (λ s. part (omega (arith, s))))
front_part (false ∷ xs) ys part = refl

pub back_append : (n : ℕ) (xs ys : List Bool) → back_from n (xs ++ ys) ≡ back_from (back_from n xs) ys
back_append n [] ys = refl
back_append n (true ∷ xs) ys = back_append (n + 1) xs ys
back_append n (false ∷ xs) ys = back_append 0 xs ys

pub back_all : (n : ℕ) (ys : List Bool) → front_of ys ≡ length ys → back_from n ys ≡ n + length ys
back_all n [] all = omega arith
back_all n (true ∷ ys) all = omega (arith, back_all (n + 1) ys (omega (arith, all)))
back_all n (false ∷ ys) all = absurd (omega (arith, all))

pub back_part : (n m : ℕ) (ys : List Bool) → front_of ys ≢ length ys → back_from n ys ≡ back_from m ys
back_part n m [] part = absurd (part refl)
back_part n m (true ∷ ys) part = back_part (n + 1) (m + 1) ys (λ s. part (omega (arith, s)))
back_part n m (false ∷ ys) part = refl

pub top_within : (at n : ℕ) (xs : List Bool) → n ≤ at → (top_from at n xs).start + (top_from at n xs).count ≤ at + length xs
top_within at n [] le = omega (arith, le)
top_within at n (true ∷ xs) le = omega (arith, top_within (at + 1) (n + 1) xs (omega (arith, le)))
top_within at n (false ∷ xs) le =
    let e : Extent = record { start = at - n; count = n } in
    let t : Extent = top_from (at + 1) 0 xs in
    let rest = top_within (at + 1) 0 xs (omega arith) in
    ⊎_elim
    (λ lt. rw lt.0 (omega (arith, rest)))
    (λ ge. rw ge.0 (omega (arith, le)))
    (leb_tells (suc n) t.count)

fits_ : (n : ℕ) → n < 2 ^ 32 → fit n ≡ n
fits_ n lt = omega (arith, lt)

-- ---- the sum of two stretches
front_joined : (xs ys : List Bool) → length xs + length ys < 2 ^ 32 → front_of (xs ++ ys) ≡ (if front_of xs == length xs then fit (length xs + front_of ys) else front_of xs)
front_joined xs ys small = ⊎_elim
    (λ all. rw all.0 (front_all xs ys all.1 ∙ sym (fits_ (length xs + front_of ys) (omega (arith, small, front_within ys)))))
    (λ part. rw part.0 (front_part xs ys part.1))
    (eqb_tells (front_of xs) (length xs))

back_joined : (xs ys : List Bool) → length xs + length ys < 2 ^ 32 → back_from 0 (xs ++ ys) ≡ (if front_of ys == length ys then fit (back_from 0 xs + length ys) else back_from 0 ys)
back_joined xs ys small = back_append 0 xs ys ∙ ⊎_elim
    (λ all. rw all.0 (back_all (back_from 0 xs) ys all.1 ∙ sym (fits_ (back_from 0 xs + length ys) (omega (arith, small, back_within 0 xs)))))
    (λ part. rw part.0 (back_part (back_from 0 xs) 0 ys part.1))
    (eqb_tells (front_of ys) (length ys))

top_joined : (xs ys : List Bool) → length xs + length ys < 2 ^ 32 → top_from 0 0 (xs ++ ys) ≡ better (top_from 0 0 xs) (better (record { start = length xs - back_from 0 xs; count = fit (back_from 0 xs + front_of ys) }) (record { start = fit (length xs + (top_from 0 0 ys).start); count = (top_from 0 0 ys).count }))
top_joined xs ys small =
    let b : ℕ = back_from 0 xs in
    let n : ℕ = length xs in
    let within = back_within 0 xs in
    let low = top_within 0 0 ys (omega arith) in
    let mid : Extent = record { start = n - b; count = b + front_of ys } in
    let right : top_from n 0 ys ≡ record { start = fit (n + (top_from 0 0 ys).start); count = (top_from 0 0 ys).count } =
    ap (λ k. top_from k 0 ys) (let s : n ≡ n + 0 = omega arith in s) ∙ top_moved n 0 0 ys (omega arith) ∙ ext (n + (top_from 0 0 ys).start) (fit (n + (top_from 0 0 ys).start)) (top_from 0 0 ys).count (sym (fits_ (n + (top_from 0 0 ys).start) (omega (arith, low, small)))) in
    let middle : mid ≡ record { start = n - b; count = fit (b + front_of ys) } = same_extents (n - b) (n - b) (b + front_of ys) (fit (b + front_of ys)) refl (sym (fits_ (b + front_of ys) (omega (arith, within, front_within ys, small)))) in
    top_append 0 0 xs ys (omega arith)
    ∙ ap (λ t. better (top_from 0 0 xs) t) (ap (λ k. top_from k b ys) (let s : 0 + n ≡ n = omega arith in s) ∙ opened n b ys (omega (arith, within)) ∙ ap (λ e. better mid e) right ∙ ap (λ e. better e (record { start = fit (n + (top_from 0 0 ys).start); count = (top_from 0 0 ys).count })) middle)

pub same_sums : (s t : Sum) → s.size ≡ t.size → s.free ≡ t.free → s.front ≡ t.front → s.back ≡ t.back → s.top ≡ t.top → s ≡ t
same_sums s t size free front back top =
    ap (λ n. record { size = n; free = s.free; front = s.front; back = s.back; top = s.top }) size ∙ ap (λ n. record { size = t.size; free = n; front = s.front; back = s.back; top = s.top }) free
    ∙ ap (λ n. record { size = t.size; free = t.free; front = n; back = s.back; top = s.top }) front ∙ ap (λ n. record { size = t.size; free = t.free; front = t.front; back = n; top = s.top }) back
    ∙ ap (λ e. record { size = t.size; free = t.free; front = t.front; back = t.back; top = e }) top

pub count_free : (xs : List Bool) → count_set (true ∷ xs) ≡ count_set xs + 1
count_free xs = sum_by-cons (λ (flag : Bool). cond flag 1 0) true xs ∙ (let s : 1 + count_set xs ≡ count_set xs + 1 = omega arith in s)

pub count_used : (xs : List Bool) → count_set (false ∷ xs) ≡ count_set xs
count_used xs = sum_by-cons (λ (flag : Bool). cond flag 1 0) false xs ∙ (let s : 0 + count_set xs ≡ count_set xs = omega arith in s)

pub count_append : (xs ys : List Bool) → count_set (xs ++ ys) ≡ count_set xs + count_set ys
count_append [] ys = omega arith
count_append (true ∷ xs) ys = omega (arith, count_append xs ys, count_free xs, count_free (xs ++ ys))
count_append (false ∷ xs) ys = omega (arith, count_append xs ys, count_used xs, count_used (xs ++ ys))

pub count_within : (xs : List Bool) → count_set xs ≤ length xs
count_within [] = omega arith
count_within (true ∷ xs) = omega (arith, count_within xs, count_free xs)
count_within (false ∷ xs) = omega (arith, count_within xs, count_used xs)

pub sum_join : (xs ys : List Bool) → length xs + length ys < 2 ^ 32 → sum_of (xs ++ ys) ≡ joined (sum_of xs) (sum_of ys)
sum_join xs ys small = same_sums (sum_of (xs ++ ys)) (joined (sum_of xs) (sum_of ys))
    (length-append xs ys ∙ sym (fits_ (length xs + length ys) small))
    (count_append xs ys ∙ sym (fits_ (count_set xs + count_set ys) (omega (arith, small, count_within xs, count_within ys))))
    (front_joined xs ys small)
    (back_joined xs ys small)
    (top_joined xs ys small)
