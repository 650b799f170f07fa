-- Blocks that are given back: their bits are clear, and those of sectors of the bitmap that weren't changed are as they were.
use Rattle.std.proofs.Common.{◌≡◌, ◌⊎◌, inl, inr, ◌<◌, ◌≤◌, ℕ, zero, suc, ◌+◌, ◌-◌, ◌*◌, ◌/◌, Bool, true, false, List, [], ◌∷◌, ◌++◌, length, get_or, map, not, take, drop, replicate, refl, sym, ◌∙◌, ap, subst, arith, ⊎_elim, length-append}
use Rattle.std.specs.Prelude.{All, Contains, ◌==◌, ◌||◌, if◌then◌else◌}
use Rattle.std.specs.List.{range_with_len}
use Rattle.std.proofs.lemmas.Bool.{cases_lt, eqb-true, true≢false}
use Rattle.std.proofs.lemmas.Bool.Decides.{eqb_tells}
use Rattle.std.proofs.lemmas.List.{ext_get_or, get_or_past, map-append}
use Rattle.std.proofs.lemmas.List.FromFn.{length-range_with_len}
use Rattle.std.proofs.lemmas.List.Elements.{Contains-append_left, Contains-append_right, Contains-append_cases}
use Rattle.hx_bytes.specs.declared.extents.Extent.{Extent}
use Rattle.flag_rows.specs.Bits.{count_set, has, mark, sectors_for}
use Rattle.flag_rows.specs.Marks.{Fit, is_held, mark_all}
use Rattle.flag_rows.proofs.RowLaws.{get_or-mark, length-mark}
use Rattle.flag_rows.proofs.TakeLaws.{get_or-mark_all, length-mark_all}
use Rattle.fork_map.specs.Blocks.{blocks_of}
use Rattle.alloc_bitmap.specs.Apart.{AreApart}
use Rattle.alloc_bitmap.proofs.ApartLaws.{apart_rest, not_twice}
use Rattle.alloc_bitmap.specs.Map.{BlockMap, touched_by, unused_of}
use Rattle.alloc_bitmap.proofs.HoldLaws.{has_in, has_range}
use Rattle.file_io.specs.Places.{AreUsed, given}
use Rattle.file_io.proofs.GiveLaws.{given_nothing, rest_used, used_fits}
use Rattle.file_io.proofs.KeepLaws.{fit_touched}
use Rattle.file_io.proofs.MarkLaws.{set_append, set_cons}
use Rattle.hfs_volume.specs.Changes.{FlipsBits}
use Rattle.hfs_volume.specs.Content.{VolumeState, is_set}
use Rattle.hfs_volume.specs.Forks.{in_use}
use Rattle.hfs_volume.proofs.BlockWants.{in_range, range_bounds}
use Rattle.hfs_volume.proofs.Members.{all_of, each_of}
use Rattle.sector_disk.specs.Lists.{Content}
use Rattle.volume_base.specs.Lists.{bits_on}
use Rattle.volume_base.specs.Mapping.{HoldsUnchanged}
use Rattle.volume_base.specs.declared.volume.Volume.{Volume}
use Rattle.volume_base.proofs.Mapped.{kept_bit, no_bit}

-- ---- extents without blocks

given_by : (e : Extent) (es : List Extent) (m : BlockMap) → ((x : BlockMap) → given es x ≡ given (in_use es) x) → (b : Bool) → (e.count == 0) ≡ b → given (e ∷ es) m ≡ given ((if not b then e ∷ [] else []) ++ in_use es) m
given_by e es m rest true none = ap (λ (x : BlockMap). given es x) (given_nothing e m (eqb-true e.count 0 none)) ∙ rest m
given_by e es m rest false some = rest (given (e ∷ []) m)

-- those that have none change nothing
pub given_used : (es : List Extent) (m : BlockMap) → given es m ≡ given (in_use es) m
given_used [] m = refl
given_used (e ∷ es) m = given_by e es m (given_used es) (e.count == 0) refl

fit_by : (m : BlockMap) (e : Extent) (es : List Extent) → Fit (length m.used) (in_use es) → AreUsed m (blocks_of (e ∷ es)) → (b : Bool) → (e.count == 0) ≡ b → Fit (length m.used) ((if not b then e ∷ [] else []) ++ in_use es)
fit_by m e es rest used true none = rest
fit_by m e es rest used false some = (used_fits m e es used (⊎_elim (λ none. absurd (true≢false (sym none.0 ∙ some))) (λ more. omega (arith, more.1)) (eqb_tells e.count 0)), rest)

-- and the others end in the bitmap where all blocks are used
pub fit_used : (m : BlockMap) (es : List Extent) → AreUsed m (blocks_of es) → Fit (length m.used) (in_use es)
fit_used m [] used = tt
fit_used m (e ∷ es) used = fit_by m e es (fit_used m es (rest_used m e es used)) used (e.count == 0) refl

blocks_by : (e : Extent) (es : List Extent) → blocks_of (in_use es) ≡ blocks_of es → (b : Bool) → (e.count == 0) ≡ b → blocks_of ((if not b then e ∷ [] else []) ++ in_use es) ≡ blocks_of (e ∷ es)
blocks_by e es rest true none = rest ∙ ap (λ n. range_with_len e.start n ++ blocks_of es) (sym (eqb-true e.count 0 none))
blocks_by e es rest false some = ap (λ (l : List ℕ). range_with_len e.start e.count ++ l) rest

pub blocks_used : (es : List Extent) → blocks_of (in_use es) ≡ blocks_of es
blocks_used [] = refl
blocks_used (e ∷ es) = blocks_by e es (blocks_used es) (e.count == 0) refl

-- ---- the blocks of extents

-- a block of theirs is in one of them, and the other way round
pub held_of : (es : List Extent) (k : ℕ) → Contains (blocks_of es) k → is_held es k ≡ true
held_of [] k there = absurd (omega (arith, there.1))
held_of (e ∷ es) k there = elim (has e k) as (λ b. has e k ≡ b → (b || is_held es k) ≡ true) [
  | true ↦ λ (is : has e k ≡ true). refl
  | false ↦ λ (is : has e k ≡ false). ⊎_elim
      (λ (front : Contains (range_with_len e.start e.count) k). absurd (true≢false (sym (let range = range_bounds e.start e.count k front in has_in e k range.0 range.1) ∙ is)))
      (λ (later : Contains (blocks_of es) k). held_of es k later)
      (Contains-append_cases (range_with_len e.start e.count) (blocks_of es) k there)
] refl

pub held_is : (es : List Extent) (k : ℕ) → is_held es k ≡ true → Contains (blocks_of es) k
held_is [] k is = absurd (true≢false (sym is))
held_is (e ∷ es) k is = elim (has e k) as (λ b. has e k ≡ b → Contains (blocks_of (e ∷ es)) k) [
  | true ↦ λ (here : has e k ≡ true). let range = has_range e k here in Contains-append_left (range_with_len e.start e.count) (blocks_of es) k (in_range e.start e.count k range.0 range.1)
  | false ↦ λ (here : has e k ≡ false). Contains-append_right (range_with_len e.start e.count) (blocks_of es) k (held_is es k (let later : is_held es k ≡ true = rw here at is in later))
] refl

clear : (b : Bool) → (b ≡ true → ⊥) → b ≡ false
clear true never = absurd (never refl)
clear false never = refl

pub not_held : (es : List Extent) (k : ℕ) → (Contains (blocks_of es) k → ⊥) → is_held es k ≡ false
not_held es k none = clear (is_held es k) (λ is. none (held_is es k is))

-- ---- the sectors that they touch

touched_has : (e : Extent) (k : ℕ) → e.start ≤ k → k < e.start + e.count → has (touched_by e) (k / 4096) ≡ true
touched_has e k from to = ⊎_elim
    (λ none. absurd (omega (arith, from, to, none.1)))
    (λ some. has_in (touched_by e) (k / 4096) (omega (arith, from)) (rw some.0 (omega (arith, to, from))))
    (eqb_tells e.count 0)

or_later : (a b : Bool) → b ≡ true → (a || b) ≡ true
or_later true b is = refl
or_later false b is = is

held_touched : (es : List Extent) (k : ℕ) → is_held es k ≡ true → is_held (map (λ (e : Extent). touched_by e) es) (k / 4096) ≡ true
held_touched [] k is = absurd (let no : false ≡ true = is in cc no)
held_touched (e ∷ es) k is = elim (has e k) as (λ b. has e k ≡ b → is_held (map (λ (x : Extent). touched_by x) (e ∷ es)) (k / 4096) ≡ true) [
  | true ↦ λ (here : has e k ≡ true). let range = has_range e k here in ap (λ b. b || is_held (map (λ (x : Extent). touched_by x) es) (k / 4096)) (touched_has e k range.0 range.1)
  | false ↦ λ (here : has e k ≡ false). or_later (has (touched_by e) (k / 4096)) (is_held (map (λ (x : Extent). touched_by x) es) (k / 4096)) (held_touched es k (let later : is_held es k ≡ true = rw here at is in later))
] refl

-- where the sector of a bit wasn't marked, the bit is in none of the extents
pub not_touched : (total : ℕ) (flags : List Bool) (es : List Extent) → length flags ≡ sectors_for total → Fit total es → (k : ℕ) → get_or (mark_all flags (map (λ (e : Extent). touched_by e) es) true) (k / 4096) false ≡ false
    → (is_held es k ≡ false) × (get_or flags (k / 4096) false ≡ false)
not_touched total flags es long fit k is = by (is_held (map (λ (e : Extent). touched_by e) es) (k / 4096)) refl
  where
    there : get_or (mark_all flags (map (λ (e : Extent). touched_by e) es) true) (k / 4096) false ≡ (if is_held (map (λ (e : Extent). touched_by e) es) (k / 4096) then true else get_or flags (k / 4096) false)
    there = get_or-mark_all flags (map (λ (e : Extent). touched_by e) es) true (k / 4096) false (subst (λ n. Fit n (map (λ (e : Extent). touched_by e) es)) (sym long) (fit_touched total es fit))

    by : (b : Bool) → is_held (map (λ (e : Extent). touched_by e) es) (k / 4096) ≡ b → (is_held es k ≡ false) × (get_or flags (k / 4096) false ≡ false)
    by true held = absurd (true≢false (sym (there ∙ ap (λ b. if b then true else get_or flags (k / 4096) false) held) ∙ is))
    by false held = (
      clear (is_held es k) (λ set. true≢false (sym (held_touched es k set) ∙ held)),
      sym (ap (λ b. if b then true else get_or flags (k / 4096) false) held) ∙ sym there ∙ is,
    )

-- ---- flags that are clear, counted

clear_append : (xs ys : List Bool) → count_set (map (λ flag. not flag) (xs ++ ys)) ≡ count_set (map (λ flag. not flag) xs) + count_set (map (λ flag. not flag) ys)
clear_append xs ys = ap count_set (map-append (λ flag. not flag) xs ys) ∙ set_append (map (λ flag. not flag) xs) (map (λ flag. not flag) ys)

clear_false : (n : ℕ) → count_set (map (λ flag. not flag) (replicate n false)) ≡ n
clear_false zero = refl
clear_false (suc n) = omega (arith, set_cons true (map (λ flag. not flag) (replicate n false)), clear_false n)

clear_true : (n : ℕ) → count_set (map (λ flag. not flag) (replicate n true)) ≡ 0
clear_true zero = refl
clear_true (suc n) = omega (arith, set_cons false (map (λ flag. not flag) (replicate n true)), clear_true n)

clear_mark : (xs : List Bool) (e : Extent) (v : Bool)
    → count_set (map (λ flag. not flag) (mark xs e v)) ≡ count_set (map (λ flag. not flag) (take e.start xs)) + (count_set (map (λ flag. not flag) (replicate e.count v)) + count_set (map (λ flag. not flag) (drop (e.start + e.count) xs)))
clear_mark xs e v =
    clear_append (take e.start xs) (replicate e.count v ++ drop (e.start + e.count) xs)
    ∙ ap (λ n. count_set (map (λ flag. not flag) (take e.start xs)) + n) (clear_append (replicate e.count v) (drop (e.start + e.count) xs))

-- flags that have a value already
mark_same : (xs : List Bool) (e : Extent) (v : Bool) → e.start + e.count ≤ length xs → ((k : ℕ) → has e k ≡ true → get_or xs k (not v) ≡ v) → mark xs e v ≡ xs
mark_same xs e v fits had = ext_get_or (not v) (mark xs e v) xs (length-mark xs e v fits) (λ k low. get_or-mark xs e v k (not v) fits ∙ by k (has e k) refl)
  where
    by : (k : ℕ) (b : Bool) → has e k ≡ b → (if b then v else get_or xs k (not v)) ≡ get_or xs k (not v)
    by k true here = sym (had k here)
    by k false here = refl

clear_one : (xs : List Bool) (e : Extent) → e.start + e.count ≤ length xs → ((k : ℕ) → has e k ≡ true → get_or xs k false ≡ true) → count_set (map (λ flag. not flag) (mark xs e false)) ≡ count_set (map (λ flag. not flag) xs) + e.count
clear_one xs e fits had = omega (arith, clear_mark xs e false, clear_mark xs e true, ap (λ (l : List Bool). count_set (map (λ flag. not flag) l)) (mark_same xs e true fits had), clear_false e.count, clear_true e.count)

set_one : (xs : List Bool) (e : Extent) → e.start + e.count ≤ length xs → ((k : ℕ) → has e k ≡ true → get_or xs k true ≡ false) → count_set (map (λ flag. not flag) (mark xs e true)) + e.count ≡ count_set (map (λ flag. not flag) xs)
set_one xs e fits had = omega (arith, clear_mark xs e false, clear_mark xs e true, ap (λ (l : List Bool). count_set (map (λ flag. not flag) l)) (mark_same xs e false fits had), clear_false e.count, clear_true e.count)

-- the flags of the others are as they were
still : (xs : List Bool) (e : Extent) (es : List Extent) (v d : Bool) → e.start + e.count ≤ length xs → AreApart (blocks_of (e ∷ es)) → (k : ℕ) → is_held es k ≡ true → get_or (mark xs e v) k d ≡ get_or xs k d
still xs e es v d fits apart k held = get_or-mark xs e v k d fits ∙ ap (λ b. if b then v else get_or xs k d) (not_twice e es k apart held)

had_first : (e : Extent) (es : List Extent) (k : ℕ) → has e k ≡ true → is_held (e ∷ es) k ≡ true
had_first e es k is = ap (λ b. b || is_held es k) is

pub clear_all : (xs : List Bool) (es : List Extent) → Fit (length xs) es → AreApart (blocks_of es) → ((k : ℕ) → is_held es k ≡ true → get_or xs k false ≡ true)
    → count_set (map (λ flag. not flag) (mark_all xs es false)) ≡ count_set (map (λ flag. not flag) xs) + length (blocks_of es)
clear_all xs [] fit apart had = omega arith
clear_all xs (e ∷ es) fit apart had =
    let same = length-mark xs e false fit.0 in
    omega (
      arith,
      clear_all (mark xs e false) es (subst (λ n. Fit n es) (sym same) fit.1) (apart_rest e es apart) (λ k held. still xs e es false false fit.0 apart k held ∙ had k (or_later (has e k) (is_held es k) held)),
      clear_one xs e fit.0 (λ k here. had k (had_first e es k here)),
      length-append (range_with_len e.start e.count) (blocks_of es),
      length-range_with_len e.start e.count,
    )

pub set_all : (xs : List Bool) (es : List Extent) → Fit (length xs) es → AreApart (blocks_of es) → ((k : ℕ) → is_held es k ≡ true → get_or xs k true ≡ false)
    → count_set (map (λ flag. not flag) (mark_all xs es true)) + length (blocks_of es) ≡ count_set (map (λ flag. not flag) xs)
set_all xs [] fit apart had = omega arith
set_all xs (e ∷ es) fit apart had =
    let same = length-mark xs e true fit.0 in
    omega (
      arith,
      set_all (mark xs e true) es (subst (λ n. Fit n es) (sym same) fit.1) (apart_rest e es apart) (λ k held. still xs e es true true fit.0 apart k held ∙ had k (or_later (has e k) (is_held es k) held)),
      set_one xs e fit.0 (λ k here. had k (had_first e es k here)),
      length-append (range_with_len e.start e.count) (blocks_of es),
      length-range_with_len e.start e.count,
    )

-- ---- behind the gift

module _ (v : Volume) (es : List Extent) (used : AreUsed v.map (blocks_of es)) where
  abbrev pub behind : Volume
  behind = record v { map = given es v.map }

  fits : Fit (length v.map.used) (in_use es)
  fits = fit_used v.map es used

  now : given es v.map ≡ given (in_use es) v.map
  now = given_used es v.map

  used_long : length (given es v.map).used ≡ length v.map.used
  used_long = ap (λ (m : BlockMap). length m.used) now ∙ length-mark_all v.map.used (in_use es) false fits

  used_is : (k : ℕ) → get_or (given es v.map).used k false ≡ (if is_held (in_use es) k then false else get_or v.map.used k false)
  used_is k = ap (λ (m : BlockMap). get_or m.used k false) now ∙ get_or-mark_all v.map.used (in_use es) false k false fits

  bits_long : length (bits_on behind) ≡ length (bits_on v)
  bits_long =
      length-append (given es v.map).used (replicate (8 * v.header.allocation_fork.logical_size - length (given es v.map).used) false)
      ∙ (λ i. used_long i + length (replicate (8 * v.header.allocation_fork.logical_size - used_long i) false))
      ∙ sym (length-append v.map.used (replicate (8 * v.header.allocation_fork.logical_size - length v.map.used) false))

  bit_same : (k : ℕ) → is_held (in_use es) k ≡ false → get_or (bits_on behind) k false ≡ get_or (bits_on v) k false
  bit_same k none = ⊎_elim
      (λ (low : k < length v.map.used). kept_bit behind k (omega (arith, low, used_long)) ∙ used_is k ∙ ap (λ b. if b then false else get_or v.map.used k false) none ∙ sym (kept_bit v k low))
      (λ (high : length v.map.used ≤ k). no_bit behind k (omega (arith, high, used_long)) ∙ sym (no_bit v k high))
      (cases_lt k (length v.map.used))

  -- the bits that a content has of sectors that weren't changed are as they were
  pub unchanged_given : length v.map.changed ≡ sectors_for (length v.map.used) → (content : Content) → HoldsUnchanged v content → HoldsUnchanged behind content
  unchanged_given marks content was k low same =
      let clear_of = not_touched (length v.map.used) v.map.changed (in_use es) marks fits k (sym (ap (λ (m : BlockMap). get_or m.changed (k / 4096) false) now) ∙ same) in
      was k (omega (arith, low, bits_long)) clear_of.1 ∙ sym (bit_same k clear_of.0)

  was_used : (k : ℕ) → Contains (blocks_of es) k → get_or v.map.used k false ≡ true
  was_used k there = each_of (λ (block : ℕ). get_or v.map.used block false ≡ true) (blocks_of es) used k there

  -- a flag that is set is there
  inside : (k : ℕ) → Contains (blocks_of es) k → k < length v.map.used
  inside k there = ⊎_elim (λ low. low) (λ past. absurd (true≢false (sym (was_used k there) ∙ get_or_past v.map.used k false past))) (cases_lt k (length v.map.used))

  there_used : (k : ℕ) → Contains (blocks_of es) k → Contains (blocks_of (in_use es)) k
  there_used k there = subst (λ (l : List ℕ). Contains l k) (sym (blocks_used es)) there

  -- of lists with the bits of this volume, theirs are flipped
  pub flips_given : (old new : VolumeState) → old.bits ≡ bits_on v → new.bits ≡ bits_on behind → FlipsBits [] (blocks_of es) old new
  flips_given old new old_is new_is = record {
    size = ap (λ (l : List Bool). length l) new_is ∙ bits_long ∙ ap (λ (l : List Bool). length l) (sym old_is);
    taken = all_of (λ (block : ℕ). is_set new block ≡ true) [] (λ block there. absurd (omega (arith, there.1)));
    given = all_of (λ (block : ℕ). is_set new block ≡ false) (blocks_of es) (λ block there.
        ap (λ (l : List Bool). get_or l block false) new_is ∙ kept_bit behind block (omega (arith, inside block there, used_long)) ∙ used_is block
        ∙ ap (λ b. if b then false else get_or v.map.used block false) (held_of (in_use es) block (there_used block there)));
    others = λ block fresh freed.
        ap (λ (l : List Bool). get_or l block false) new_is ∙ bit_same block (not_held (in_use es) block (λ held. freed (subst (λ (l : List ℕ). Contains l block) (blocks_used es) held)))
        ∙ ap (λ (l : List Bool). get_or l block false) (sym old_is);
  }

  -- as many more are free
  pub count_given : AreApart (blocks_of es) → count_set (unused_of (given es v.map)) ≡ count_set (unused_of v.map) + length (blocks_of es)
  count_given apart =
      ap (λ (m : BlockMap). count_set (unused_of m)) now
      ∙ clear_all v.map.used (in_use es) fits (subst AreApart (sym (blocks_used es)) apart) (λ k held. was_used k (subst (λ (l : List ℕ). Contains l k) (blocks_used es) (held_is (in_use es) k held)))
      ∙ ap (λ (l : List ℕ). count_set (map (λ used. not used) v.map.used) + length l) (blocks_used es)
