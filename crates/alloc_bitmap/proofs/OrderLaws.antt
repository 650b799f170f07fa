-- The runs in order, longest first, and their ranks.
use Rattle.std.proofs.Common.{◌≡◌, ℕ, suc, zero, ◌+◌, ◌-◌, ◌*◌, ◌^◌, ◌≤◌, ◌<◌, Bool, true, false, List, [], ◌∷◌, length, arith, ⊎_elim}
use Rattle.std.proofs.lemmas.Bool.Decides.{leb_tells}
use Rattle.hx_bytes.specs.declared.extents.Extent.{Extent}
use Rattle.flag_rows.specs.Runs.{runs_from, put_by_length, longest_first}

-- higher for a longer run, and of two that are as long for the one that starts first
abbrev pub rank_of : Extent → ℕ
rank_of run = run.count * 2 ^ 32 + (2 ^ 32 - 1 - run.start)

-- each run begins where the one before ends or later, has a block, and ends at n or before
abbrev pub Ascends : ℕ → ℕ → List Extent → Type 0
Ascends n low [] = Unit {0}
Ascends n low (run ∷ rest) = (low ≤ run.start) × (0 < run.count) × (run.start + run.count ≤ n) × Ascends n (run.start + run.count) rest

-- each rank is below the one before it, and each run has a block and a number
abbrev pub Descends : ℕ → List Extent → Type 0
Descends top [] = Unit {0}
Descends top (run ∷ rest) = (rank_of run < top) × (0 < run.count) × (run.start < 2 ^ 32) × Descends (rank_of run) rest

ascends_lower : (n low lower : ℕ) (runs : List Extent) → lower ≤ low → Ascends n low runs → Ascends n lower runs
ascends_lower n low lower [] le a = tt
ascends_lower n low lower (run ∷ rest) le a = (omega (arith, le, a.0), a.1, a.2, a.3)

pub ascends_runs : (xs : List Bool) (low m at n : ℕ) → low + m ≡ at → at + length xs ≡ n → Ascends n low (runs_from at m xs)
ascends_runs [] low zero at n is end = tt
ascends_runs [] low (suc m) at n is end = (omega (arith, is), omega arith, omega (arith, is, end), tt)
ascends_runs (true ∷ xs) low m at n is end = ascends_runs xs low (m + 1) (at + 1) n (omega (arith, is)) (omega (arith, end))
ascends_runs (false ∷ xs) low zero at n is end = ascends_lower n (at + 1) low (runs_from (at + 1) 0 xs) (omega (arith, is)) (ascends_runs xs (at + 1) 0 (at + 1) n (omega arith) (omega (arith, end)))
ascends_runs (false ∷ xs) low (suc m) at n is end =
    (omega (arith, is), omega arith, omega (arith, is, end), ascends_lower n (at + 1) (at - suc m + suc m) (runs_from (at + 1) 0 xs) (omega (arith, is)) (ascends_runs xs (at + 1) 0 (at + 1) n (omega arith) (omega (arith, end))))

-- ---- in order of length
-- all of these begin past a place, and end by n
abbrev pub Past : ℕ → ℕ → List Extent → Type 0
Past n low [] = Unit {0}
Past n low (run ∷ rest) = (low < run.start) × (0 < run.count) × (run.start + run.count ≤ n) × Past n low rest

past_ascending : (n low high : ℕ) (runs : List Extent) → low < high → Ascends n high runs → Past n low runs
past_ascending n low high [] lt a = tt
past_ascending n low high (run ∷ rest) lt a = (omega (arith, lt, a.0), a.1, a.2, past_ascending n low (run.start + run.count) rest (omega (arith, lt, a.0)) a.3)

past_put : (n low : ℕ) (run : Extent) (runs : List Extent) → low < run.start → 0 < run.count → run.start + run.count ≤ n → Past n low runs → Past n low (put_by_length run runs)
past_put n low run [] lt some fits p = (lt, some, fits, tt)
past_put n low run (next ∷ rest) lt some fits p = ⊎_elim
    (λ less. rw less.0 (p.0, p.1, p.2, past_put n low run rest lt some fits p.3))
    (λ more. rw more.0 (lt, some, fits, p))
    (leb_tells (suc run.count) next.count)

past_sorted : (n low : ℕ) (runs : List Extent) → Past n low runs → Past n low (longest_first runs)
past_sorted n low [] p = tt
past_sorted n low (run ∷ rest) p = past_put n low run (longest_first rest) p.0 p.1 p.2 (past_sorted n low rest p.3)

descends_put : (n top : ℕ) (run : Extent) (runs : List Extent) → n < 2 ^ 32 → rank_of run < top → 0 < run.count → run.start + run.count ≤ n → Past n run.start runs → Descends top runs → Descends top (put_by_length run runs)
descends_put n top run [] small below some fits p d = (below, some, omega arith, tt)
descends_put n top run (next ∷ rest) small below some fits p d = ⊎_elim
    (λ less. rw less.0 (d.0, d.1, d.2, descends_put n (rank_of next) run rest small (omega (arith, less.1, d.2, fits, small)) some fits p.3 d.3))
    (λ more. rw more.0 (below, some, omega arith, (omega (arith, more.1, p.0, p.2, small), d.1, d.2, d.3)))
    (leb_tells (suc run.count) next.count)

pub descends_sorted : (n low : ℕ) (runs : List Extent) → n < 2 ^ 32 → Ascends n low runs → Descends (2 ^ 64) (longest_first runs)
descends_sorted n low [] small a = tt
descends_sorted n low (run ∷ rest) small a =
    descends_put n (2 ^ 64) run (longest_first rest) small (omega (arith, a.2, small)) a.1 a.2
    (past_sorted n run.start rest (past_ascending n run.start (run.start + run.count) rest (omega (arith, a.1)) a.3)) (descends_sorted n (run.start + run.count) rest small a.3)
