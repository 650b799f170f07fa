-- The sectors of the bitmap in which bits are changed where blocks are taken and others are given back: how many they are, and that the others have their bits.
use Rattle.std.proofs.Common.{◌≡◌, ◌⊎◌, inl, inr, ◌<◌, ◌≤◌, ℕ, zero, suc, ◌+◌, ◌-◌, ◌*◌, ◌/◌, ◌==◌, ◌||◌, min, nat_le, Bool, true, false, List, [], ◌∷◌, ◌++◌, length, get_or, map, refl, sym, ◌∙◌, ap, subst, arith, cond, ⊎_elim, length-append}
use Rattle.std.specs.Prelude.{Contains, if◌then◌else◌}
use Rattle.std.specs.List.{range_with_len}
use Rattle.std.proofs.lemmas.Bool.{true≢false, cases_lt, lt-leb}
use Rattle.std.proofs.lemmas.Bool.Decides.{eqb_tells, leb_tells}
use Rattle.std.proofs.lemmas.List.{length-replicate}
use Rattle.std.proofs.lemmas.List.FromFn.{length-range_with_len}
use Rattle.hx_bytes.specs.declared.extents.Extent.{Extent}
use Rattle.flag_rows.specs.Bits.{count_set, has, mark, sectors_for}
use Rattle.flag_rows.specs.Marks.{Fit, is_held, mark_all}
use Rattle.flag_rows.specs.Runs.{fewest_of, longest_first, runs_of}
use Rattle.flag_rows.proofs.RowLaws.{length-mark}
use Rattle.flag_rows.proofs.TakeLaws.{get_or-mark_all, length-mark_all}
use Rattle.flag_rows.proofs.TallyLaws.{have_sorted}
use Rattle.flag_rows.proofs.TopLaws.{HaveBlocks, have_blocks}
use Rattle.fork_map.specs.Blocks.{blocks_of}
use Rattle.fork_map.specs.Cut.{front}
use Rattle.alloc_bitmap.specs.Fork.{changed_of}
use Rattle.alloc_bitmap.specs.Map.{BlockMap, free_of, none, touched_by}
use Rattle.alloc_bitmap.proofs.HoldLaws.{has_range}
use Rattle.file_io.specs.Places.{fresh_of, given, taken}
use Rattle.volume_space.proofs.GrownBits.{few_changed, marked_more, none_set, set_of, touched_few, touched_fits, touched_has}

-- ---- extents and the sectors that they touch

sum_of : List Extent → ℕ
sum_of [] = 0
sum_of (e ∷ es) = e.count + sum_of es

sum_blocks : (es : List Extent) → length (blocks_of es) ≡ sum_of es
unfolding sum_of
sum_blocks [] = refl
sum_blocks (e ∷ es) = omega (arith, length-append (range_with_len e.start e.count) (blocks_of es), length-range_with_len e.start e.count, sum_blocks es)

touched_all : List Extent → List Extent
touched_all es = map (λ (e : Extent). touched_by e) es

fit_touched : (total : ℕ) (es : List Extent) → Fit total es → Fit (sectors_for total) (map (λ (e : Extent). touched_by e) es)
fit_touched total [] fit = tt
fit_touched total (e ∷ es) fit = (touched_fits (sectors_for total) e (omega (arith, fit.0)), fit_touched total es fit.1)

held_touched : (es : List Extent) (k : ℕ) → is_held es k ≡ true → is_held (map (λ (e : Extent). touched_by e) es) (k / 4096) ≡ true
held_touched [] k is = absurd (let no : false ≡ true = is in cc no)
held_touched (e ∷ es) k is = elim (has e k) as (λ b. has e k ≡ b → is_held (map (λ (x : Extent). touched_by x) (e ∷ es)) (k / 4096) ≡ true) [
  | true ↦ λ (here : has e k ≡ true). let range = has_range e k here in ap (λ b. b || is_held (map (λ (x : Extent). touched_by x) es) (k / 4096)) (touched_has e k range.0 range.1)
  | false ↦ λ (here : has e k ≡ false). or_later (has (touched_by e) (k / 4096)) (is_held (map (λ (x : Extent). touched_by x) es) (k / 4096)) (held_touched es k (let later : is_held es k ≡ true = rw here at is in later))
] refl
  where
    or_later : (a b : Bool) → b ≡ true → (a || b) ≡ true
    or_later true b is = refl
    or_later false b is = is

-- where the sector of a bit wasn't marked, the bit is in none of the extents
not_touched : (total : ℕ) (flags : List Bool) (es : List Extent) → length flags ≡ sectors_for total → Fit total es → (k : ℕ) → get_or (mark_all flags (map (λ (e : Extent). touched_by e) es) true) (k / 4096) false ≡ false
    → (is_held es k ≡ false) × (get_or flags (k / 4096) false ≡ false)
not_touched total flags es long fit k is = by (is_held (map (λ (e : Extent). touched_by e) es) (k / 4096)) refl
  where
    there : get_or (mark_all flags (map (λ (e : Extent). touched_by e) es) true) (k / 4096) false ≡ (if is_held (map (λ (e : Extent). touched_by e) es) (k / 4096) then true else get_or flags (k / 4096) false)
    there = get_or-mark_all flags (map (λ (e : Extent). touched_by e) es) true (k / 4096) false (subst (λ n. Fit n (map (λ (e : Extent). touched_by e) es)) (sym long) (fit_touched total es fit))

    clear : (b : Bool) → (b ≡ true → ⊥) → b ≡ false
    clear true never = absurd (never refl)
    clear false never = refl

    by : (b : Bool) → is_held (map (λ (e : Extent). touched_by e) es) (k / 4096) ≡ b → (is_held es k ≡ false) × (get_or flags (k / 4096) false ≡ false)
    by true held = absurd (true≢false (sym (there ∙ ap (λ b. if b then true else get_or flags (k / 4096) false) held) ∙ is))
    by false held = (
      clear (is_held es k) (λ set. true≢false (sym (held_touched es k set) ∙ held)),
      sym (ap (λ b. if b then true else get_or flags (k / 4096) false) held) ∙ sym there ∙ is,
    )

-- ---- how many flags are set

marked_all : (total : ℕ) (flags : List Bool) (es : List Extent) → length flags ≡ total → Fit total es → count_set (mark_all flags es true) ≤ count_set flags + sum_of es
unfolding sum_of
marked_all total flags [] long fit = omega arith
marked_all total flags (e ∷ es) long fit =
    let same : length (mark flags e true) ≡ total = length-mark flags e true (omega (arith, fit.0, long)) ∙ long in
    omega (arith, marked_more flags e, marked_all total (mark flags e true) es same fit.1)

few_touched : (es : List Extent) → sum_of (map (λ (e : Extent). touched_by e) es) ≤ sum_of es / 4096 + 2 * length es
unfolding sum_of
few_touched [] = omega arith
few_touched (e ∷ es) = omega (arith, touched_few e, few_touched es)

-- few sectors of a bitmap of which none was changed are changed where these are marked
pub touched_many : (total : ℕ) (es : List Extent) → Fit total es → count_set (mark_all (none (sectors_for total)) (map (λ (e : Extent). touched_by e) es) true) ≤ length (blocks_of es) / 4096 + 2 * length es
touched_many total es fit = omega (
  arith,
  marked_all (sectors_for total) (none (sectors_for total)) (map (λ (e : Extent). touched_by e) es) (length-replicate (sectors_for total) false) (fit_touched total es fit),
  none_set (sectors_for total),
  few_touched es,
  sum_blocks es,
)

one_touched : (e : Extent) → (touched_by e).count ≤ e.count
one_touched e = ⊎_elim
    (λ nothing. rw nothing.0 (omega arith))
    (λ some. rw some.0 (omega (arith, some.1)))
    (eqb_tells e.count 0)

each_touched : (es : List Extent) → sum_of (map (λ (e : Extent). touched_by e) es) ≤ sum_of es
unfolding sum_of
each_touched [] = omega arith
each_touched (e ∷ es) = omega (arith, one_touched e, each_touched es)

-- blocks are taken of no more runs than are told
pub few_runs : (n : ℕ) (runs : List Extent) → HaveBlocks runs → length (front n runs) ≤ fewest_of n runs
few_runs n [] have = omega arith
few_runs n (run ∷ rest) have = ⊎_elim
    (λ none_. subst (λ m. length (front m (run ∷ rest)) ≤ fewest_of m (run ∷ rest)) (sym none_.1) (rw (lt-leb run.count 0 (omega (arith, have.0))) (omega arith)))
    (λ some. ⊎_elim
    (λ whole. rw whole.0 (rw some.0 (omega (arith, few_runs (n - run.count) rest have.1))))
    (λ part. rw part.0 (rw some.0 (omega arith)))
    (leb_tells run.count n))
    (eqb_tells n 0)

pub taken_runs : (blocks : BlockMap) (n : ℕ) → length (fresh_of blocks n) ≤ fewest_of n (longest_first (runs_of (free_of blocks)))
taken_runs blocks n = few_runs n (longest_first (runs_of (free_of blocks))) (have_sorted (runs_of (free_of blocks)) (have_blocks 0 0 (free_of blocks)))

-- ---- a bitmap of which blocks were taken, and others given back

module _ (blocks : BlockMap) (n : ℕ) (old : List Extent) (unchanged : blocks.changed ≡ none (sectors_for (length blocks.used))) (fit : Fit (length blocks.used) (fresh_of blocks n)) (fit_old : Fit (length blocks.used) old)
    (later : BlockMap) (is : later ≡ given old (taken n blocks))
  where
    abbrev total : ℕ
    total = length blocks.used

    abbrev first : List Bool
    first = mark_all (none (sectors_for (length blocks.used))) (map (λ (e : Extent). touched_by e) (fresh_of blocks n)) true

    changed_is : later.changed ≡ mark_all first (map (λ (e : Extent). touched_by e) old) true
    changed_is = ap (λ (m : BlockMap). m.changed) is ∙ ap (λ (l : List Bool). mark_all (mark_all l (map (λ (e : Extent). touched_by e) (fresh_of blocks n)) true) (map (λ (e : Extent). touched_by e) old) true) unchanged

    none_long : length (none (sectors_for (length blocks.used))) ≡ sectors_for (length blocks.used)
    none_long = length-replicate (sectors_for (length blocks.used)) false

    fresh_fit : Fit (length (none (sectors_for (length blocks.used)))) (map (λ (e : Extent). touched_by e) (fresh_of blocks n))
    fresh_fit = subst (λ m. Fit m (map (λ (e : Extent). touched_by e) (fresh_of blocks n))) (sym none_long) (fit_touched total (fresh_of blocks n) fit)

    first_long : length first ≡ sectors_for (length blocks.used)
    first_long = length-mark_all (none (sectors_for (length blocks.used))) (map (λ (e : Extent). touched_by e) (fresh_of blocks n)) true fresh_fit ∙ none_long

    -- a bit whose sector wasn't changed is that of a block that was neither taken nor given back
    pub unchanged_bit : (k : ℕ) → get_or later.changed (k / 4096) false ≡ false → (is_held old k ≡ false) × (is_held (fresh_of blocks n) k ≡ false)
    unchanged_bit k same =
        let second = not_touched total first old first_long fit_old k (sym (ap (λ (l : List Bool). get_or l (k / 4096) false) changed_is) ∙ same) in
        (second.0, (not_touched total (none (sectors_for (length blocks.used))) (fresh_of blocks n) none_long fit k second.1).0)

    -- and so many sectors of the bitmap's file are changed at most
    pub few_put : (xs : List ℕ) → length (changed_of xs later.changed) ≤ min (sectors_for (length blocks.used)) (length (blocks_of (fresh_of blocks n)) / 4096 + 2 * length (fresh_of blocks n) + length (blocks_of old))
    few_put xs = omega (
      arith,
      few_changed xs later.changed,
      set_of later.changed,
      ap (λ (l : List Bool). length l) changed_is,
      ap (λ (l : List Bool). count_set l) changed_is,
      length-mark_all first (map (λ (e : Extent). touched_by e) old) true (subst (λ m. Fit m (map (λ (e : Extent). touched_by e) old)) (sym first_long) (fit_touched total old fit_old)),
      first_long,
      marked_all (sectors_for (length blocks.used)) (none (sectors_for (length blocks.used))) (map (λ (e : Extent). touched_by e) (fresh_of blocks n)) none_long (fit_touched total (fresh_of blocks n) fit),
      marked_all (sectors_for (length blocks.used)) first (map (λ (e : Extent). touched_by e) old) first_long (fit_touched total old fit_old),
      none_set (sectors_for (length blocks.used)),
      few_touched (fresh_of blocks n),
      each_touched old,
      sum_blocks (fresh_of blocks n),
      sum_blocks old,
    )
