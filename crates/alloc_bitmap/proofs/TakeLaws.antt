-- The blocks of runs in order: which they are, and that none stands twice.
use Rattle.std.proofs.Common.{◌≡◌, ℕ, suc, zero, ◌+◌, ◌-◌, ◌*◌, ◌≤◌, ◌<◌, Bool, true, false, not, ◌==◌, ◌&&◌, if◌then◌else◌, cond, List, [], ◌∷◌, ◌++◌, length, get_or, take, drop, map, refl, sym, ◌∙◌, ap, arith, ⊎_elim, add-zero, zero-add, length-take}
use Rattle.std.specs.List.{range_with_len}
use Rattle.std.proofs.lemmas.List.{take-append-drop, get_or_past}
use Rattle.std.proofs.lemmas.Bool.{cases_lt}
use Rattle.std.proofs.lemmas.Bool.Decides.{leb_tells, eqb_tells}
use Rattle.hx_bytes.specs.declared.extents.Extent.{Extent}
use Rattle.fork_map.specs.Blocks.{blocks_of}
use Rattle.fork_map.specs.Cut.{front}
use Rattle.fork_map.proofs.Ranges.{range-append}
use Rattle.fork_map.proofs.Laws.{blocks-front}
use Rattle.flag_rows.specs.Bits.{count_set}
use Rattle.flag_rows.specs.Marks.{is_held}
use Rattle.flag_rows.specs.Runs.{run_before, runs_from, runs_of, put_by_length, longest_first}
use Rattle.alloc_bitmap.specs.Apart.{times}
use Rattle.flag_rows.specs.Marks.{mark_all, Fit}
use Rattle.alloc_bitmap.specs.Map.{PicksFree, touched_by}
use Rattle.alloc_bitmap.proofs.ApartLaws.{times-append, times-cons, times_held, length_blocks}
use Rattle.alloc_bitmap.proofs.OrderLaws.{Ascends, ascends_runs}
use Rattle.flag_rows.proofs.SumLaws.{count_free, count_used}
use Rattle.flag_rows.proofs.TakeLaws.{length-mark_all}
use Rattle.alloc_bitmap.proofs.MapLaws.{open_of, length-open, get_or-open}

-- how many times a block is free in flags that begin at a place
abbrev free_at : ℕ → ℕ → List Bool → ℕ
free_at b at [] = 0
free_at b at (x ∷ xs) = (if at == b then cond x 1 0 else 0) + free_at b (at + 1) xs

free_at_below : (b at : ℕ) (xs : List Bool) → b < at → free_at b at xs ≡ 0
free_at_below b at [] lt = refl
free_at_below b at (x ∷ xs) lt = ⊎_elim (λ same. absurd (omega (arith, same.1, lt))) (λ other. rw other.0 (omega (arith, free_at_below b (at + 1) xs (omega (arith, lt))))) (eqb_tells at b)

free_at_is : (at j : ℕ) (xs : List Bool) → free_at (at + j) at xs ≡ cond (get_or xs j false) 1 0
free_at_is at j [] = refl
free_at_is at zero (x ∷ xs) = ⊎_elim
    (λ same. rw same.0 (omega (arith, free_at_below (at + 0) (at + 1) xs (omega arith))))
    (λ other. absurd (other.1 (sym (add-zero at))))
    (eqb_tells at (at + 0))
free_at_is at (suc j) (x ∷ xs) =
    let next : at + suc j ≡ at + 1 + j = omega arith in
    ⊎_elim
    (λ same. absurd (omega (arith, same.1)))
    (λ other. rw other.0 (let rest : free_at (at + suc j) (at + 1) xs ≡ cond (get_or xs j false) 1 0 = ap (λ b. free_at b (at + 1) xs) next ∙ free_at_is (at + 1) j xs in omega (arith, rest)))
    (eqb_tells at (at + suc j))

times_before : (low m at b : ℕ) (rest : List Extent) → low + m ≡ at → times b (blocks_of (run_before at m ++ rest)) ≡ times b (range_with_len low m) + times b (blocks_of rest)
times_before low zero at b rest is = sym (zero-add (times b (blocks_of rest)))
times_before low (suc m) at b rest is =
    let first : at - suc m ≡ low = omega (arith, is) in
    times-append b (range_with_len (at - suc m) (suc m)) (blocks_of rest) ∙ ap (λ s. times b (range_with_len s (suc m)) + times b (blocks_of rest)) first

no_flag : (t : Bool) (n : ℕ) → n ≡ 0 → (if t then n else 0) ≡ 0
no_flag true n is = is
no_flag false n is = refl

times_runs : (xs : List Bool) (low m at b : ℕ) → low + m ≡ at → times b (blocks_of (runs_from at m xs)) ≡ times b (range_with_len low m) + free_at b at xs
times_runs [] low zero at b is = refl
times_runs [] low (suc m) at b is = times_before low (suc m) at b [] is
times_runs (true ∷ xs) low m at b is =
    let rest = times_runs xs low (m + 1) (at + 1) b (omega (arith, is)) in
    let more : times b (range_with_len low (m + 1)) ≡ times b (range_with_len low m) + times b ((low + m) ∷ []) = ap (λ (l : List ℕ). times b l) (range-append low m 1) ∙ times-append b (range_with_len low m) ((low + m) ∷ []) in
    let one : times b ((low + m) ∷ []) ≡ cond (low + m == b) 1 0 + 0 = times-cons b (low + m) [] in
    let same = ap (λ k. cond {A = ℕ} (k == b) 1 0) is in
    omega (arith, rest, more, one, same)
times_runs (false ∷ xs) low m at b is =
    let rest = times_runs xs (at + 1) 0 (at + 1) b (omega arith) in
    let none = no_flag (at == b) (cond false 1 0) refl in
    times_before low m at b (runs_from (at + 1) 0 xs) is ∙ (let same : times b (range_with_len low m) + times b (blocks_of (runs_from (at + 1) 0 xs)) ≡ times b (range_with_len low m) + free_at b at (false ∷ xs) = omega (arith, rest, none) in same)

pub times_free : (xs : List Bool) (b : ℕ) → times b (blocks_of (runs_of xs)) ≡ cond (get_or xs b false) 1 0
times_free xs b = times_runs xs 0 0 0 b refl ∙ zero-add (free_at b 0 xs) ∙ ap (λ k. free_at k 0 xs) (sym (zero-add b)) ∙ free_at_is 0 b xs

-- ---- in order
times_put : (b : ℕ) (run : Extent) (runs : List Extent) → times b (blocks_of (put_by_length run runs)) ≡ times b (range_with_len run.start run.count) + times b (blocks_of runs)
times_put b run [] = times-append b (range_with_len run.start run.count) []
times_put b run (next ∷ rest) = ⊎_elim
    (λ less. rw less.0 (omega (arith, times-append b (range_with_len next.start next.count) (blocks_of (put_by_length run rest)), times_put b run rest, times-append b (range_with_len next.start next.count) (blocks_of rest))))
    (λ more. rw more.0 (times-append b (range_with_len run.start run.count) (blocks_of (next ∷ rest))))
    (leb_tells (suc run.count) next.count)

pub times_sorted : (b : ℕ) (runs : List Extent) → times b (blocks_of (longest_first runs)) ≡ times b (blocks_of runs)
times_sorted b [] = refl
times_sorted b (run ∷ rest) = omega (arith, times_put b run (longest_first rest), times_sorted b rest, times-append b (range_with_len run.start run.count) (blocks_of rest))

length_put : (run : Extent) (runs : List Extent) → length (blocks_of (put_by_length run runs)) ≡ run.count + length (blocks_of runs)
length_put run [] = length_blocks run []
length_put run (next ∷ rest) = ⊎_elim
    (λ less. rw less.0 (omega (arith, length_blocks next (put_by_length run rest), length_put run rest, length_blocks next rest)))
    (λ more. rw more.0 (length_blocks run (next ∷ rest)))
    (leb_tells (suc run.count) next.count)

pub length_sorted : (runs : List Extent) → length (blocks_of (longest_first runs)) ≡ length (blocks_of runs)
length_sorted [] = refl
length_sorted (run ∷ rest) = omega (arith, length_put run (longest_first rest), length_sorted rest, length_blocks run rest)

length_before : (at m : ℕ) (rest : List Extent) → length (blocks_of (run_before at m ++ rest)) ≡ m + length (blocks_of rest)
length_before at zero rest = sym (zero-add (length (blocks_of rest)))
length_before at (suc m) rest = length_blocks (record { start = at - suc m; count = suc m }) rest

pub length_runs : (at m : ℕ) (xs : List Bool) → length (blocks_of (runs_from at m xs)) ≡ m + count_set xs
length_runs at zero [] = omega arith
length_runs at (suc m) [] = omega (arith, length_before at (suc m) [])
length_runs at m (true ∷ xs) = omega (arith, length_runs (at + 1) (m + 1) xs, count_free xs)
length_runs at m (false ∷ xs) = omega (arith, length_before at m (runs_from (at + 1) 0 xs), length_runs (at + 1) 0 xs, count_used xs)

fit_ascends : (n low : ℕ) (runs : List Extent) → Ascends n low runs → Fit n runs
fit_ascends n low [] a = tt
fit_ascends n low (run ∷ rest) a = (a.2, fit_ascends n (run.start + run.count) rest a.3)

fit_put : (n : ℕ) (run : Extent) (runs : List Extent) → run.start + run.count ≤ n → Fit n runs → Fit n (put_by_length run runs)
fit_put n run [] fits f = (fits, tt)
fit_put n run (next ∷ rest) fits f = ⊎_elim (λ less. rw less.0 (f.0, fit_put n run rest fits f.1)) (λ more. rw more.0 (fits, f)) (leb_tells (suc run.count) next.count)

fit_sorted : (n : ℕ) (runs : List Extent) → Fit n runs → Fit n (longest_first runs)
fit_sorted n [] f = tt
fit_sorted n (run ∷ rest) f = fit_put n run (longest_first rest) f.0 (fit_sorted n rest f.1)

fit_front : (n m : ℕ) (es : List Extent) → Fit n es → Fit n (front m es)
fit_front n m [] f = tt
fit_front n m (e ∷ es) f = ⊎_elim
    (λ le. rw le.0 (f.0, fit_front n (m - e.count) es f.1))
    (λ gt. rw gt.0 (⊎_elim (λ none. rw none.0 tt) (λ some. rw some.0 (omega (arith, gt.1, f.0), tt)) (eqb_tells m 0)))
    (leb_tells e.count m)

pub fit_chosen : (xs : List Bool) (m : ℕ) → Fit (length xs) (front m (longest_first (runs_of xs)))
fit_chosen xs m = fit_front (length xs) m (longest_first (runs_of xs)) (fit_sorted (length xs) (runs_of xs) (fit_ascends (length xs) 0 (runs_of xs) (ascends_runs xs 0 0 0 (length xs) refl (omega arith))))

-- ---- the blocks that are taken
times_chosen : (xs : List Bool) (m b : ℕ) → times b (blocks_of (front m (longest_first (runs_of xs)))) ≤ cond (get_or xs b false) 1 0
times_chosen xs m b =
    let all = blocks_of (longest_first (runs_of xs)) in
    let split = sym (ap (λ (l : List ℕ). times b l) (sym (take-append-drop m all)) ∙ times-append b (take m all) (drop m all)) in
    omega (arith, split, ap (λ (l : List ℕ). times b l) (blocks-front m (longest_first (runs_of xs))), times_sorted b (runs_of xs), times_free xs b)

one_or_none : (b : Bool) → cond b 1 0 ≤ 1
one_or_none true = omega arith
one_or_none false = omega arith

some_free : (b : Bool) → 1 ≤ cond b 1 0 → b ≡ true
some_free true le = refl
some_free false le = absurd (omega (arith, le))

pub times_here : (bs : List ℕ) (k d : ℕ) → k < length bs → 1 ≤ times (get_or bs k d) bs
times_here [] k d lt = absurd (omega arith)
times_here (b ∷ bs) zero d lt = ⊎_elim (λ same. omega (arith, (let e : times b (b ∷ bs) ≡ 1 + times b bs = times-cons b b bs ∙ rw same.0 refl in e))) (λ other. absurd (other.1 refl)) (eqb_tells b b)
times_here (b ∷ bs) (suc k) d lt = omega (arith, times-cons (get_or bs k d) b bs, times_here bs k d (omega (arith, lt)))

pub chosen_free : (xs : List Bool) (m k : ℕ) → is_held (front m (longest_first (runs_of xs))) k ≡ true → get_or xs k false ≡ true
chosen_free xs m k held = some_free (get_or xs k false) (omega (arith, times_held (front m (longest_first (runs_of xs))) k held, times_chosen xs m k))

pub picks_chosen : (xs : List Bool) (m : ℕ) → m ≤ count_set xs → PicksFree xs m (front m (longest_first (runs_of xs)))
picks_chosen xs m enough = record {
  count = ap (λ (l : List ℕ). length l) (blocks-front m (longest_first (runs_of xs))) ∙ (let is : length (take m (blocks_of (longest_first (runs_of xs)))) ≡ m = omega (arith, enough, length-take m (blocks_of (longest_first (runs_of xs))), length_sorted (runs_of xs), length_runs 0 0 xs) in is);
  apart = λ b. omega (arith, times_chosen xs m b, one_or_none (get_or xs b false));
  each = λ k d lt. some_free (get_or xs (get_or (blocks_of (front m (longest_first (runs_of xs)))) k d) false)
      (omega (arith, times_here (blocks_of (front m (longest_first (runs_of xs)))) k d lt, times_chosen xs m (get_or (blocks_of (front m (longest_first (runs_of xs)))) k d)));
}

-- ---- chosen blocks are neither used nor held
both : (u h : Bool) → (not u && not h) ≡ true → (u ≡ false) × (h ≡ false)
both true h is = absurd (cc is)
both false true is = absurd (cc is)
both false false is = (refl, refl)

pub unused_chosen : (used held : List Bool) (m k : ℕ) → is_held (front m (longest_first (runs_of (open_of used held)))) k ≡ true → (get_or used k true ≡ false) × (get_or held k false ≡ false)
unused_chosen used held m k h =
    let free : get_or (open_of used held) k false ≡ true = chosen_free (open_of used held) m k h in
    let inside : k < length used = ⊎_elim (λ lt. lt) (λ past. absurd (let no : false ≡ true = sym (get_or_past (open_of used held) k false (omega (arith, past, length-open used held))) ∙ free in cc no)) (cases_lt k (length used)) in
    both (get_or used k true) (get_or held k false) (sym (get_or-open used held k false inside) ∙ free)

-- ---- the sectors that are touched
pub fit_more : (n m : ℕ) (es : List Extent) → n ≤ m → Fit n es → Fit m es
fit_more n m [] le f = tt
fit_more n m (e ∷ es) le f = (omega (arith, f.0, le), fit_more n m es le f.1)

touched_fits : (n : ℕ) (e : Extent) → e.start + e.count ≤ n * 4096 → (touched_by e).start + (touched_by e).count ≤ n
touched_fits n e fits = ⊎_elim
    (λ none. rw none.0 (omega (arith, fits)))
    (λ some. rw some.0 (omega (arith, fits)))
    (eqb_tells e.count 0)

pub touched_fit : (n : ℕ) (es : List Extent) → Fit (n * 4096) es → Fit n (map (λ (e : Extent). touched_by e) es)
touched_fit n [] f = tt
touched_fit n (e ∷ es) f = (touched_fits n e f.0, touched_fit n es f.1)

pub touched_size : (changed : List Bool) (es : List Extent) → Fit (length changed * 4096) es → length (mark_all changed (map (λ (e : Extent). touched_by e) es) true) ≡ length changed
touched_size changed es f = length-mark_all changed (map (λ (e : Extent). touched_by e) es) true (touched_fit (length changed) es f)
