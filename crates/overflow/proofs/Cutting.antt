-- A list of extents cut into records: their starts, their number, and what they give together.
use Rattle.std.proofs.Common.{◌≡◌, ◌≢◌, ℕ, zero, suc, ◌+◌, ◌-◌, ◌*◌, ◌<◌, ◌≤◌, Bool, true, false, List, [], ◌∷◌, ◌++◌, length, map, take, drop, inl, inr, refl, sym, ◌∙◌, ap, arith, append_assoc}
use Rattle.std.specs.Prelude.{◌==◌, ◌&&◌, ◌||◌, not, slice_index_or, if◌then◌else◌}
use Rattle.std.specs.List.{flat_map, range_with_len}
use Rattle.std.proofs.lemmas.Bool.{cases_lt, ne_eqb, eqb-false}
use Rattle.std.proofs.lemmas.Grind.{flat_map-append}
use Rattle.std.proofs.lemmas.List.{take_more, take_all, drop_all, length-append, get_or-drop, get_or_past, drop-drop, take-append-drop, length-drop}
use Rattle.std.proofs.lemmas.List.FromFn.{length-range_with_len}
use Rattle.hx_bytes.specs.declared.extents.Extent.{Extent}
use Rattle.hx_bytes.specs.declared.extents.ExtentRecord.{ExtentRecord}
use Rattle.fork_map.specs.Blocks.{blocks_of}
use Rattle.hfs_volume.specs.Blocks.{GoOn}
use Rattle.hfs_volume.specs.Forks.{parts_for, in_use, is_full, has_extents}
use Rattle.hfs_volume.specs.Records.{Overflow}
use Rattle.overflow.specs.Changes.{same_list}
use Rattle.overflow.specs.Records.{no_extent, eight_at, records_from, under}
use Rattle.overflow.specs.declared.record.OverflowRecord.{OverflowRecord}
use Rattle.overflow.proofs.Changing.{RiseFrom}

pub same_lengths : (xs ys : List Extent) → length xs ≢ length ys → false ≡ same_list xs ys
same_lengths [] [] differ = absurd (differ refl)
same_lengths [] (y ∷ ys) differ = refl
same_lengths (x ∷ xs) [] differ = refl
same_lengths (x ∷ xs) (y ∷ ys) differ = by_test ((x.start == y.start) && (x.count == y.count)) (same_lengths xs ys (λ same. differ (ap suc same)))
  where
    by_test : (b : Bool) → false ≡ same_list xs ys → false ≡ (b && same_list xs ys)
    by_test true others = others
    by_test false others = refl

-- ---- blocks

blocks_append : (xs ys : List Extent) → length (blocks_of (xs ++ ys)) ≡ length (blocks_of xs) + length (blocks_of ys)
blocks_append xs ys = ap length (flat_map-append (λ (extent : Extent). range_with_len extent.start extent.count) xs ys) ∙ length-append (blocks_of xs) (blocks_of ys)

pub blocks_cons : (x : Extent) (xs : List Extent) → length (blocks_of (x ∷ xs)) ≡ x.count + length (blocks_of xs)
blocks_cons x xs = length-append (range_with_len x.start x.count) (blocks_of xs) ∙ ap (λ n. n + length (blocks_of xs)) (length-range_with_len x.start x.count)

-- the blocks of one extent more
one_more : (xs : List Extent) (n : ℕ) → length (blocks_of (take (n + 1) xs)) ≡ length (blocks_of (take n xs)) + (slice_index_or xs n no_extent).count
one_more xs n = elim (cases_lt n (length xs)) [
  | inl inside ↦
      let last = slice_index_or xs n no_extent in
      omega (arith, ap (λ l. length (blocks_of l)) (take_more xs n no_extent inside), blocks_append (take n xs) (last ∷ []), blocks_cons last [])
  | inr past ↦
      omega (arith, ap (λ l. length (blocks_of l)) (take_all n xs past), ap (λ l. length (blocks_of l)) (take_all (n + 1) xs (omega (arith, past))), ap (λ (e : Extent). e.count) (get_or_past xs n no_extent past))
]

pub blocks_upto : (n : ℕ) (xs : List Extent) → length (blocks_of (take n xs)) ≤ length (blocks_of xs)
blocks_upto zero xs = omega arith
blocks_upto (suc n) [] = omega arith
blocks_upto (suc n) (x ∷ xs) = omega (arith, blocks_cons x (take n xs), blocks_cons x xs, blocks_upto n xs)

plus : (n a b : ℕ) → n + a + b ≡ n + (a + b)
plus n a b = omega arith

step : (xs : List Extent) (at k : ℕ) → length (blocks_of (take (at + (k + 1)) xs)) ≡ length (blocks_of (take (at + k) xs)) + (slice_index_or xs (at + k) no_extent).count
step xs at k = ap (λ n. length (blocks_of (take n xs))) (sym (plus at k 1)) ∙ one_more xs (at + k)

-- the blocks of eight extents more
pub eight_more : (xs : List Extent) (at : ℕ) → length (blocks_of (take (at + 8) xs)) ≡ length (blocks_of (take at xs)) + length (blocks_of (eight_at xs at).extents)
eight_more xs at =
    let e : ℕ → Extent = λ k. slice_index_or xs (at + k) no_extent in
    let c7 = blocks_cons (e 7) [] in
    let c6 = blocks_cons (e 6) (e 7 ∷ []) in
    let c5 = blocks_cons (e 5) (e 6 ∷ e 7 ∷ []) in
    let c4 = blocks_cons (e 4) (e 5 ∷ e 6 ∷ e 7 ∷ []) in
    let c3 = blocks_cons (e 3) (e 4 ∷ e 5 ∷ e 6 ∷ e 7 ∷ []) in
    let c2 = blocks_cons (e 2) (e 3 ∷ e 4 ∷ e 5 ∷ e 6 ∷ e 7 ∷ []) in
    let c1 = blocks_cons (e 1) (e 2 ∷ e 3 ∷ e 4 ∷ e 5 ∷ e 6 ∷ e 7 ∷ []) in
    let c0 = blocks_cons (slice_index_or xs at no_extent) (e 1 ∷ e 2 ∷ e 3 ∷ e 4 ∷ e 5 ∷ e 6 ∷ e 7 ∷ []) in
    omega (arith, one_more xs at, step xs at 1, step xs at 2, step xs at 3, step xs at 4, step xs at 5, step xs at 6, step xs at 7, c0, c1, c2, c3, c4, c5, c6, c7)

-- ---- records

one_part_more : (n : ℕ) → 0 < n → parts_for n 8 ≡ suc (parts_for (n - 8) 8)
one_part_more n some = omega (arith, some)

-- the next record is made
pub next_record : (xs : List Extent) (at : ℕ) (old new : List OverflowRecord) (place : ℕ) (eight : ExtentRecord) → at < length xs → place ≡ length (blocks_of (take at xs)) → eight ≡ eight_at xs at
    → new ≡ old ++ record { start = place; extents = eight } ∷ []
    → new ++ records_from (parts_for (length xs - (at + 8)) 8) (at + 8) xs ≡ old ++ records_from (parts_for (length xs - at) 8) at xs
next_record xs at old new place eight inside is_place is_eight is =
    let rest = records_from (parts_for (length xs - (at + 8)) 8) (at + 8) xs in
    let many : parts_for (length xs - at) 8 ≡ suc (parts_for (length xs - (at + 8)) 8) = one_part_more (length xs - at) (omega (arith, inside)) ∙ ap (λ n. suc (parts_for n 8)) (omega arith) in
    ap (λ l. l ++ rest) is ∙ append_assoc old (record { start = place; extents = eight } ∷ []) rest
    ∙ (λ i. old ++ record { start = is_place i; extents = is_eight i } ∷ rest)
    ∙ ap (λ n. old ++ records_from n at xs) (sym many)

-- ---- extents in use

-- each has blocks
abbrev pub AreUsed : List Extent → Type 0
AreUsed [] = Unit {0}
AreUsed (x ∷ xs) = (x.count ≢ 0) × AreUsed xs

pub in_use_used : (xs : List Extent) → AreUsed (in_use xs)
in_use_used [] = tt
in_use_used (x ∷ xs) = by_test (x.count == 0) refl (in_use_used xs)
  where
    by_test : (b : Bool) → (x.count == 0) ≡ b → AreUsed (in_use xs) → AreUsed ((if not b then x ∷ [] else []) ++ in_use xs)
    by_test true is others = others
    by_test false is others = (eqb-false x.count 0 is, others)

used_at : (xs : List Extent) (n : ℕ) → AreUsed xs → n < length xs → (slice_index_or xs n no_extent).count ≢ 0
used_at [] n used inside = absurd (omega (arith, inside))
used_at (x ∷ xs) zero used inside = used.0
used_at (x ∷ xs) (suc n) used inside = used_at xs n used.1 (omega (arith, inside))

used_drop : (n : ℕ) (xs : List Extent) → AreUsed xs → AreUsed (drop n xs)
used_drop zero xs used = used
used_drop (suc n) [] used = tt
used_drop (suc n) (x ∷ xs) used = used_drop n xs used.1

-- so many extents, unused ones where there are fewer
padded : ℕ → List Extent → List Extent
padded zero xs = []
padded (suc n) [] = no_extent ∷ padded n []
padded (suc n) (x ∷ xs) = x ∷ padded n xs

padded_none : (n : ℕ) → in_use (padded n []) ≡ []
unfolding padded
padded_none zero = refl
padded_none (suc n) = padded_none n

padded_used : (n : ℕ) (xs : List Extent) → AreUsed xs → in_use (padded n xs) ≡ take n xs
unfolding padded
padded_used zero xs used = refl
padded_used (suc n) [] used = padded_none n
padded_used (suc n) (x ∷ xs) used = λ i. (if not (ne_eqb x.count 0 used.0 i) then x ∷ [] else []) ++ padded_used n xs used.1 i

padded_full : (n : ℕ) (xs : List Extent) → AreUsed xs → n ≤ length xs → is_full (padded n xs) ≡ true
unfolding padded
padded_full zero xs used enough = refl
padded_full (suc n) [] used enough = absurd (omega (arith, enough))
padded_full (suc n) (x ∷ xs) used enough = (λ i. not (ne_eqb x.count 0 used.0 i) && is_full (padded n xs)) ∙ padded_full n xs used.1 (omega (arith, enough))

padded_some : (n : ℕ) (xs : List Extent) → AreUsed xs → 0 < length xs → has_extents (padded (suc n) xs) ≡ true
unfolding padded
padded_some n [] used some = absurd (omega (arith, some))
padded_some n (x ∷ xs) used some = λ i. not (ne_eqb x.count 0 used.0 i) || has_extents (padded n xs)

eight_padded : (xs : List Extent) → (eight_at xs 0).extents ≡ padded 8 xs
unfolding padded
eight_padded [] = refl
eight_padded (a ∷ []) = refl
eight_padded (a ∷ b ∷ []) = refl
eight_padded (a ∷ b ∷ c ∷ []) = refl
eight_padded (a ∷ b ∷ c ∷ d ∷ []) = refl
eight_padded (a ∷ b ∷ c ∷ d ∷ e ∷ []) = refl
eight_padded (a ∷ b ∷ c ∷ d ∷ e ∷ f ∷ []) = refl
eight_padded (a ∷ b ∷ c ∷ d ∷ e ∷ f ∷ g ∷ []) = refl
eight_padded (a ∷ b ∷ c ∷ d ∷ e ∷ f ∷ g ∷ h ∷ rest) = refl

eight_dropped : (xs : List Extent) (at : ℕ) → (eight_at xs at).extents ≡ (eight_at (drop at xs) 0).extents
eight_dropped xs at =
    let same : (k : ℕ) → slice_index_or xs (at + k) no_extent ≡ slice_index_or (drop at xs) k no_extent = λ k. sym (get_or-drop at xs k no_extent) in
    let first : slice_index_or xs at no_extent ≡ slice_index_or (drop at xs) 0 no_extent = ap (λ n. slice_index_or xs n no_extent) (omega arith) ∙ same 0 in
    λ i. first i ∷ same 1 i ∷ same 2 i ∷ same 3 i ∷ same 4 i ∷ same 5 i ∷ same 6 i ∷ same 7 i ∷ []

-- eight extents give those that there are
pub eight_used : (xs : List Extent) (at : ℕ) → AreUsed xs → in_use (eight_at xs at).extents ≡ take 8 (drop at xs)
eight_used xs at used = ap in_use (eight_dropped xs at ∙ eight_padded (drop at xs)) ∙ padded_used 8 (drop at xs) (used_drop at xs used)

pub eight_full : (xs : List Extent) (at : ℕ) → AreUsed xs → at + 8 ≤ length xs → is_full (eight_at xs at).extents ≡ true
eight_full xs at used enough = ap is_full (eight_dropped xs at ∙ eight_padded (drop at xs)) ∙ padded_full 8 (drop at xs) (used_drop at xs used) (omega (arith, enough, length-drop at xs))

-- where one is left they have one
pub eight_some : (xs : List Extent) (at : ℕ) → AreUsed xs → at < length xs → has_extents (eight_at xs at).extents ≡ true
eight_some xs at used enough = ap has_extents (eight_dropped xs at ∙ eight_padded (drop at xs)) ∙ padded_some 7 (drop at xs) (used_drop at xs used) (omega (arith, enough, length-drop at xs))

-- ---- what the records give together

take_then_drop : (n at : ℕ) (xs : List Extent) → take n (drop at xs) ++ drop (at + n) xs ≡ drop at xs
take_then_drop n at xs = ap (λ l. take n (drop at xs) ++ l) (sym (drop-drop n at xs)) ∙ take-append-drop n (drop at xs)

pub records_give : (id kind many at : ℕ) (xs : List Extent) → AreUsed xs → length xs ≤ at + 8 * many → flat_map (λ (more : Overflow). in_use more.extents) (map (under id kind) (records_from many at xs)) ≡ drop at xs
records_give id kind zero at xs used all = sym (drop_all at xs (omega (arith, all)))
records_give id kind (suc many) at xs used all =
    (λ i. eight_used xs at used i ++ records_give id kind many (at + 8) xs used (omega (arith, all)) i) ∙ take_then_drop 8 at xs

pub records_go_on : (id kind many at place : ℕ) (full : Bool) (xs : List Extent) → AreUsed xs → place ≡ length (blocks_of (take at xs)) → (0 < many → at + 8 * (many - 1) < length xs) → (0 < many → full ≡ true)
    → GoOn place full (map (under id kind) (records_from many at xs))
records_go_on id kind zero at place full xs used is_place enough is_full_now = tt
records_go_on id kind (suc many) at place full xs used is_place enough is_full_now = (
  sym is_place,
  is_full_now (omega arith),
  records_go_on id kind many (at + 8) (place + length (blocks_of (eight_at xs at).extents)) (is_full (eight_at xs at).extents) xs used
      (omega (arith, is_place, eight_more xs at))
      (λ some. omega (arith, enough (omega arith), some))
      (λ some. eight_full xs at used (omega (arith, enough (omega arith), some))),
  eight_some xs at used (omega (arith, enough (omega arith))),
)

pub records_rise : (many at low : ℕ) (xs : List Extent) → AreUsed xs → low ≤ length (blocks_of (take at xs)) → (0 < many → at + 8 * (many - 1) < length xs) → RiseFrom low (records_from many at xs)
records_rise zero at low xs used is_low enough = tt
records_rise (suc many) at low xs used is_low enough = (
  is_low,
  records_rise many (at + 8) (suc (length (blocks_of (take at xs)))) xs used
      (omega (arith, first_counts, more_blocks))
      (λ some. omega (arith, enough (omega arith), some)),
)
  where
    first_counts : (slice_index_or xs at no_extent).count ≢ 0
    first_counts = used_at xs at used (omega (arith, enough (omega arith)))

    more_blocks : length (blocks_of (take at xs)) + (slice_index_or xs at no_extent).count ≤ length (blocks_of (take (at + 8) xs))
    more_blocks = omega (arith, one_more xs at, step xs at 1, step xs at 2, step xs at 3, step xs at 4, step xs at 5, step xs at 6, step xs at 7)
