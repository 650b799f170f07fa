-- No way to pick free blocks has fewer extents than the longest runs.
use Rattle.std.proofs.Common.{◌≡◌, ℕ, suc, zero, ◌+◌, ◌-◌, ◌*◌, ◌/◌, ◌^◌, ◌≤◌, ◌<◌, Bool, true, false, nat_le, List, [], ◌∷◌, ◌++◌, length, get_or, take, drop, replicate, refl, sym, ◌∙◌, ap, subst, arith, ⊎_elim}
use Rattle.std.specs.List.{All}
use Rattle.std.proofs.lemmas.List.{get_or_past}
use Rattle.std.proofs.lemmas.Bool.{cases_lt, or_right}
use Rattle.std.proofs.lemmas.Bool.Decides.{leb_tells, eqb_tells}
use Rattle.hx_bytes.specs.declared.extents.Extent.{Extent}
use Rattle.fork_map.specs.Blocks.{blocks_of}
use Rattle.fork_map.specs.Cut.{front}
use Rattle.flag_rows.specs.Bits.{mark, has}
use Rattle.flag_rows.specs.Marks.{is_held}
use Rattle.flag_rows.specs.Runs.{run_before, runs_from, runs_of, put_by_length, longest_first}
use Rattle.alloc_bitmap.specs.Apart.{times, AreApart}
use Rattle.alloc_bitmap.specs.Map.{PicksFree}
use Rattle.flag_rows.proofs.RowLaws.{get_or-mark}
use Rattle.alloc_bitmap.proofs.KeptLaws.{marked_already}
use Rattle.alloc_bitmap.proofs.ApartLaws.{times-cons, times_held, not_twice, apart_rest, length_blocks}
use Rattle.alloc_bitmap.proofs.HoldLaws.{has_in}
use Rattle.alloc_bitmap.proofs.OrderLaws.{rank_of, Descends, ascends_runs, descends_sorted}

-- how many free blocks have at least `long` free blocks right before them in their run
abbrev beyond : ℕ → ℕ → List Bool → ℕ
beyond long m [] = m - long
beyond long m (true ∷ xs) = beyond long (m + 1) xs
beyond long m (false ∷ xs) = (m - long) + beyond long 0 xs

-- by how much the runs are longer
abbrev excess : ℕ → List Extent → ℕ
excess long [] = 0
excess long (run ∷ rest) = (run.count - long) + excess long rest

excess_before : (long at m : ℕ) (rest : List Extent) → excess long (run_before at m ++ rest) ≡ (m - long) + excess long rest
excess_before long at zero rest = omega arith
excess_before long at (suc m) rest = refl

excess_runs : (long at m : ℕ) (xs : List Bool) → excess long (runs_from at m xs) ≡ beyond long m xs
excess_runs long at zero [] = omega arith
excess_runs long at (suc m) [] = omega arith
excess_runs long at m (true ∷ xs) = excess_runs long (at + 1) (m + 1) xs
excess_runs long at m (false ∷ xs) = excess_before long at m (runs_from (at + 1) 0 xs) ∙ ap (λ n. (m - long) + n) (excess_runs long (at + 1) 0 xs)

excess_put : (long : ℕ) (run : Extent) (runs : List Extent) → excess long (put_by_length run runs) ≡ (run.count - long) + excess long runs
excess_put long run [] = refl
excess_put long run (next ∷ rest) = ⊎_elim (λ less. rw less.0 (omega (arith, excess_put long run rest))) (λ more. rw more.0 refl) (leb_tells (suc run.count) next.count)

excess_sorted : (long : ℕ) (runs : List Extent) → excess long (longest_first runs) ≡ excess long runs
excess_sorted long [] = refl
excess_sorted long (run ∷ rest) = excess_put long run (longest_first rest) ∙ ap (λ n. (run.count - long) + n) (excess_sorted long rest)

-- ---- blocks that are taken away
beyond_free : (long m n : ℕ) (xs : List Bool) → beyond long m (replicate n true ++ xs) ≡ beyond long (m + n) xs
beyond_free long m zero xs = ap (λ k. beyond long k xs) (let same : m ≡ m + 0 = omega arith in same)
beyond_free long m (suc n) xs = beyond_free long (m + 1) n xs ∙ ap (λ k. beyond long k xs) (let same : m + 1 + n ≡ m + suc n = omega arith in same)

beyond_gap : (long n : ℕ) (xs : List Bool) → beyond long 0 (replicate n false ++ xs) ≡ beyond long 0 xs
beyond_gap long zero xs = refl
beyond_gap long (suc n) xs = omega (arith, beyond_gap long n xs)

beyond_split : (long a n d : ℕ) (xs : List Bool) → (a - long) + (n - long) + beyond long d xs ≤ beyond long (a + n + d) xs
beyond_split long a n d [] = omega arith
beyond_split long a n d (true ∷ xs) = subst (λ k. (a - long) + (n - long) + beyond long (d + 1) xs ≤ beyond long k xs) (let same : a + n + (d + 1) ≡ a + n + d + 1 = omega arith in same) (beyond_split long a n (d + 1) xs)
beyond_split long a n d (false ∷ xs) = omega arith

beyond_taken : (long m n : ℕ) (before after : List Bool) → beyond long m (before ++ (replicate n false ++ after)) + n ≤ beyond long m (before ++ (replicate n true ++ after)) + long
beyond_taken long m zero [] after = omega arith
beyond_taken long m (suc n) [] after =
    let split = beyond_split long m (suc n) 0 after in
    let same = ap (λ k. beyond long k after) (let e : m + suc n + 0 ≡ m + suc n = omega arith in e) in
    omega (arith, beyond_free long m (suc n) after, beyond_gap long n after, split, same)
beyond_taken long m n (true ∷ before) after = beyond_taken long (m + 1) n before after
beyond_taken long m n (false ∷ before) after = omega (arith, beyond_taken long 0 n before after)

beyond_mark : (long : ℕ) (xs : List Bool) (e : Extent) → e.start + e.count ≤ length xs → ((k : ℕ) → has e k ≡ true → get_or xs k false ≡ true) → beyond long 0 (mark xs e false) + e.count ≤ beyond long 0 xs + long
beyond_mark long xs e fits free = omega (arith, beyond_taken long 0 e.count (take e.start xs) (drop (e.start + e.count) xs), ap (λ (l : List Bool). beyond long 0 l) (marked_already xs e true false fits free))

free_fits : (xs : List Bool) (e : Extent) → 0 < e.count → ((k : ℕ) → has e k ≡ true → get_or xs k false ≡ true) → e.start + e.count ≤ length xs
free_fits xs e some free = ⊎_elim
    (λ (lt : e.start + e.count - 1 < length xs). let fits : e.start + e.count ≤ length xs = omega (arith, lt) in fits)
    (λ (past : length xs ≤ e.start + e.count - 1). absurd (let no : false ≡ true = sym (get_or_past xs (e.start + e.count - 1) false past) ∙ free (e.start + e.count - 1) (has_in e (e.start + e.count - 1) (omega (arith, some)) (omega (arith, some))) in cc no))
    (cases_lt (e.start + e.count - 1) (length xs))

few_extents : (long : ℕ) (es : List Extent) (xs : List Bool) → AreApart (blocks_of es) → ((k : ℕ) → is_held es k ≡ true → get_or xs k false ≡ true) → length (blocks_of es) ≤ length es * long + beyond long 0 xs
few_extents long [] xs apart free = omega arith
few_extents long (e ∷ es) xs apart free =
    let blocks = length_blocks e es in
    let later : (k : ℕ) → is_held es k ≡ true → get_or xs k false ≡ true = λ k h. free k (or_right (has e k) (is_held es k) h) in
    let here : (k : ℕ) → has e k ≡ true → get_or xs k false ≡ true = λ k h. free k (rw h refl) in
    ⊎_elim
    (λ (some : 0 < e.count).
    let fits = free_fits xs e some here in
    let rest : (k : ℕ) → is_held es k ≡ true → get_or (mark xs e false) k false ≡ true = λ k h. get_or-mark xs e false k false fits ∙ rw (not_twice e es k apart h) (later k h) in
    omega (arith, blocks, few_extents long es (mark xs e false) (apart_rest e es apart) rest, beyond_mark long xs e fits here))
    (λ (none : e.count ≤ 0). omega (arith, blocks, none, few_extents long es xs (apart_rest e es apart) later))
    (cases_lt 0 e.count)

-- ---- the longest runs
abbrev Shortens : ℕ → List Extent → Type 0
Shortens top [] = Unit {0}
Shortens top (run ∷ rest) = (run.count ≤ top) × (0 < run.count) × Shortens run.count rest

shortens : (top : ℕ) (runs : List Extent) → Descends top runs → Shortens (top / 2 ^ 32) runs
shortens top [] d = tt
shortens top (run ∷ rest) d =
    let count : rank_of run / 2 ^ 32 ≡ run.count = omega (arith, d.2) in
    (omega (arith, d.0), d.1, subst (λ n. Shortens n rest) count (shortens (rank_of run) rest d.3))

no_excess : (long top : ℕ) (runs : List Extent) → Shortens top runs → top ≤ long → excess long runs ≡ 0
no_excess long top [] s le = refl
no_excess long top (run ∷ rest) s le = omega (arith, s.0, le, no_excess long run.count rest s.2 (omega (arith, s.0, le)))

none_taken : (n : ℕ) (run : Extent) (rest : List Extent) → n ≤ 0 → 0 < run.count → 0 < length (front n (run ∷ rest)) → ⊥
none_taken n run rest none some lt = ⊎_elim
    (λ whole. absurd (omega (arith, whole.1, none, some)))
    (λ part. ⊎_elim (λ zero_. let no : 0 < length {A = Extent} [] = rw (part.0, zero_.0) at lt in absurd (omega (arith, no))) (λ other. absurd (other.1 (omega (arith, none)))) (eqb_tells n 0))
    (leb_tells run.count n)

one_taken : (n k : ℕ) (run : Extent) (rest : List Extent) → nat_le run.count n ≡ false → suc k < length (front n (run ∷ rest)) → ⊥
one_taken n k run rest part lt = ⊎_elim
    (λ zero_. let no : suc k < length {A = Extent} [] = rw (part, zero_.0) at lt in absurd (omega (arith, no)))
    (λ other. let no : suc k < length {A = Extent} (record { start = run.start; count = n } ∷ []) = rw (part, other.0) at lt in absurd (omega (arith, no)))
    (eqb_tells n 0)

too_few : (n top k : ℕ) (runs : List Extent) → Shortens top runs → k < length (front n runs) → (long : ℕ) × (long ≤ top) × (k * long + excess long runs < n)
too_few n top k [] s lt = absurd (omega (arith, lt))
too_few n top zero (run ∷ rest) s lt =
    let none = no_excess run.count run.count rest s.2 (omega arith) in
    let some : 0 < n = ⊎_elim (λ (p : 0 < n). p) (λ (z : n ≤ 0). absurd (none_taken n run rest z s.1 lt)) (cases_lt 0 n) in
    (run.count, s.0, omega (arith, none, some))
too_few n top (suc k) (run ∷ rest) s lt = ⊎_elim
    (λ whole.
    let less : suc k < length (run ∷ front (n - run.count) rest) = rw whole.0 at lt in
    let w = too_few (n - run.count) run.count k rest s.2 (omega (arith, less)) in
    (w.0, omega (arith, w.1, s.0), omega (arith, w.1, w.2, whole.1)))
    (λ part. absurd (one_taken n k run rest part.0 lt))
    (leb_tells run.count n)

-- ---- both together
each_time : (P : ℕ → Type 0) (b : ℕ) (bs : List ℕ) → 1 ≤ times b bs → All P bs → P b
each_time P b [] some all = absurd (omega (arith, some))
each_time P b (x ∷ bs) some all = ⊎_elim
    (λ same. subst (λ y. P y) same.1 (all 0 x (omega arith)))
    (λ other. each_time P b bs (let e : times b (x ∷ bs) ≡ 0 + times b bs = times-cons b x bs ∙ rw other.0 refl in omega (arith, some, e)) (λ k d lt. all (suc k) d (omega (arith, lt))))
    (eqb_tells x b)

pub fewest_extents : (xs : List Bool) (n : ℕ) (others : List Extent) → length xs < 2 ^ 32 → PicksFree xs n others → length (front n (longest_first (runs_of xs))) ≤ length others
fewest_extents xs n others small picks = ⊎_elim
    (λ (fewer : length others < length (front n (longest_first (runs_of xs)))).
    let ordered = descends_sorted (length xs) 0 (runs_of xs) small (ascends_runs xs 0 0 0 (length xs) refl (omega arith)) in
    let w = too_few n (2 ^ 64 / 2 ^ 32) (length others) (longest_first (runs_of xs)) (shortens (2 ^ 64) (longest_first (runs_of xs)) ordered) fewer in
    let bound = few_extents w.0 others xs picks.apart (λ k h. each_time (λ b. get_or xs b false ≡ true) k (blocks_of others) (times_held others k h) picks.each) in
    absurd (omega (arith, w.2, bound, picks.count, excess_sorted w.0 (runs_of xs), excess_runs w.0 0 0 xs)))
    (λ (enough : length (front n (longest_first (runs_of xs))) ≤ length others). enough)
    (cases_lt (length others) (length (front n (longest_first (runs_of xs)))))
