-- Extents in the order of their starts, looked at one after the other: which blocks are used twice.
use Rattle.std.proofs.Common.{Bool, true, false, cond, List, [], ◌∷◌, ◌++◌, length, take, get_or, ◌-◌, ◌≢◌, ◌↔◌, IsTrue, ◌≡◌, ◌⊎◌, ◌<◌, ◌≤◌, ℕ, ◌+◌, min, max, inl, inr, refl, sym, ◌∙◌, ap, subst, arith, ⊎_elim, if◌then◌else◌}
use Rattle.std.specs.List.{range_with_len}
use Rattle.std.specs.Prelude.{Contains, All}
use Rattle.std.specs.List.Sorted.{IsNonDecreasingBy, IsPermutation}
use Rattle.std.proofs.lemmas.List.{get_or_past, take_all}
use Rattle.std.proofs.lemmas.List.Sorted.{sum_by-IsPermutation}
use Rattle.fork_map.specs.Blocks.{blocks_of}
use Rattle.hfs_volume.proofs.Apart.{stands_once}
use Rattle.hfs_volume.proofs.Members.{all_of, each_of, at_front, behind}
use Rattle.std.proofs.lemmas.List.Sums.{sum_by-append, sum_by-cons, sum_by_more, sum_by-take-drop}
use Rattle.std.proofs.lemmas.Bool.{cases_eq, cases_lt, ne_eqb}
use Rattle.hx_bytes.specs.declared.extents.Extent.{Extent}
use Rattle.alloc_bitmap.specs.Apart.{times}
use Rattle.alloc_bitmap.proofs.ApartLaws.{times-append, times-cons, times_range}
use Rattle.alloc_bitmap.proofs.HoldLaws.{has_in, has_below, has_above}
use Rattle.fsck_repair.specs.Once.{HasSwept, IsTwice, with_blocks, used_hits, written_hits, times_used, times_written, as_uses}
use Rattle.fsck_repair.specs.declared.once.Sweep.{Sweep}
use Rattle.fsck_repair.specs.declared.once.Use.{Use}

-- past the end of a list of uses
abbrev pub no_use : Use
no_use = record { extent = record { start = 0; count = 0 }; written = false }

-- a block is counted once in an extent where it lies in it, and not elsewhere
pub hit_cases : (extent : Extent) (k : ℕ) → ((extent.start ≤ k) × (k < extent.start + extent.count) × (times k (range_with_len extent.start extent.count) ≡ 1)) ⊎ (((k < extent.start) ⊎ (extent.start + extent.count ≤ k)) × (times k (range_with_len extent.start extent.count) ≡ 0))
hit_cases extent k = ⊎_elim
    (λ (low : k < extent.start). inr (inl low, times_range extent k ∙ ap (λ b. if b then 1 else 0) (has_below extent k low)))
    (λ (from : extent.start ≤ k). ⊎_elim
    (λ (inside : k < extent.start + extent.count). inl (from, inside, times_range extent k ∙ ap (λ b. if b then 1 else 0) (has_in extent k from inside)))
    (λ (past : extent.start + extent.count ≤ k). inr (inr past, times_range extent k ∙ ap (λ b. if b then 1 else 0) (has_above extent k past)))
    (cases_lt k (extent.start + extent.count)))
    (cases_lt k extent.start)

-- the same counts, from a later block on
pub swept_as : (U V : ℕ → ℕ) (W X : ℕ → ℕ) (sweep : Sweep) (last next : ℕ) → ((k : ℕ) → V k ≡ U k) → ((k : ℕ) → X k ≡ W k) → last ≤ next → HasSwept U W sweep last → HasSwept V X sweep next
swept_as U V W X sweep last next used written later swept = record {
  used_below = λ k some. swept.used_below k (omega (arith, some, used k));
  used_cover = λ k from under. let has = swept.used_cover k (omega (arith, from, later)) under in omega (arith, has, used k);
  twice_below = λ k some. swept.twice_below k (omega (arith, some, used k));
  twice_cover = λ k from under. let has = swept.twice_cover k (omega (arith, from, later)) under in omega (arith, has, used k);
  written_below = λ k some. swept.written_below k (omega (arith, some, written k));
  written_cover = λ k from under. let has = swept.written_cover k (omega (arith, from, later)) under in omega (arith, has, written k);
  once = λ k some. let has = swept.once k (omega (arith, some, written k)) in omega (arith, has, used k);
}

module _ (Used Written : ℕ → ℕ) (sweep : Sweep) (last : ℕ) (extent : Extent) (swept : HasSwept Used Written sweep last) (behind : last ≤ extent.start) (some : 0 < extent.count) where
  -- a block before none of which some are used isn't
  unused : (k : ℕ) → sweep.used ≤ k → Used k ≡ 0
  unused k past = ⊎_elim
      (λ (has : 0 < Used k). absurd (let under = swept.used_below k has in omega (arith, under, past)))
      (λ (none : Used k ≤ 0). omega (arith, none))
      (cases_lt 0 (Used k))

  here : times extent.start (range_with_len extent.start extent.count) ≡ 1
  here = ⊎_elim
      (λ (inside : (extent.start ≤ extent.start) × (extent.start < extent.start + extent.count) × (times extent.start (range_with_len extent.start extent.count) ≡ 1)). inside.2)
      (λ (outside : ((extent.start < extent.start) ⊎ (extent.start + extent.count ≤ extent.start)) × (times extent.start (range_with_len extent.start extent.count) ≡ 0)).
      absurd (⊎_elim (λ (low : extent.start < extent.start). omega (arith, low)) (λ (past : extent.start + extent.count ≤ extent.start). omega (arith, past, some)) outside.0))
      (hit_cases extent extent.start)

  -- counts with the extent's blocks have ends behind both
  more_below : (Count : ℕ → ℕ) (end next : ℕ) → ((k : ℕ) → 0 < Count k → k < end) → next ≡ max (extent.start + extent.count) end → (k : ℕ) → 0 < with_blocks Count extent.start extent.count k → k < next
  more_below Count end next below is k has = ⊎_elim
      (λ (inside : (extent.start ≤ k) × (k < extent.start + extent.count) × (times k (range_with_len extent.start extent.count) ≡ 1)). omega (arith, is, inside.1))
      (λ (outside : ((k < extent.start) ⊎ (extent.start + extent.count ≤ k)) × (times k (range_with_len extent.start extent.count) ≡ 0)).
      let under = below k (omega (arith, has, outside.1)) in omega (arith, is, under))
      (hit_cases extent k)

  more_cover : (Count : ℕ → ℕ) (end next : ℕ) → ((k : ℕ) → last ≤ k → k < end → 0 < Count k) → next ≡ max (extent.start + extent.count) end → (k : ℕ) → extent.start ≤ k → k < next → 0 < with_blocks Count extent.start extent.count k
  more_cover Count end next cover is k from under = ⊎_elim
      (λ (inside : (extent.start ≤ k) × (k < extent.start + extent.count) × (times k (range_with_len extent.start extent.count) ≡ 1)). omega (arith, inside.2))
      (λ (outside : ((k < extent.start) ⊎ (extent.start + extent.count ≤ k)) × (times k (range_with_len extent.start extent.count) ≡ 0)). ⊎_elim
      (λ (low : k < extent.start). absurd (omega (arith, low, from)))
      (λ (past : extent.start + extent.count ≤ k). let has = cover k (omega (arith, behind, from)) (omega (arith, is, under, past)) in omega (arith, has))
      outside.0)
      (hit_cases extent k)

  pub used_apart : (used : ℕ) → used ≡ max (extent.start + extent.count) sweep.used → sweep.used ≤ extent.start
      → HasSwept (with_blocks Used extent.start extent.count) Written (record { used = used; twice = sweep.twice; written = sweep.written }) extent.start
  used_apart used is apart = record {
    used_below = more_below Used sweep.used used swept.used_below is;
    used_cover = more_cover Used sweep.used used swept.used_cover is;
    twice_below = twice_below;
    twice_cover = λ k from under. let has = swept.twice_cover k (omega (arith, behind, from)) under in omega (arith, has);
    written_below = swept.written_below;
    written_cover = λ k from under. swept.written_cover k (omega (arith, behind, from)) under;
    once = once;
  }
    where
      twice_below : (k : ℕ) → 1 < with_blocks Used extent.start extent.count k → k < sweep.twice
      twice_below k has = ⊎_elim
          (λ (inside : (extent.start ≤ k) × (k < extent.start + extent.count) × (times k (range_with_len extent.start extent.count) ≡ 1)). absurd (omega (arith, has, inside.2, unused k (omega (arith, apart, inside.0)))))
          (λ (outside : ((k < extent.start) ⊎ (extent.start + extent.count ≤ k)) × (times k (range_with_len extent.start extent.count) ≡ 0)). swept.twice_below k (omega (arith, has, outside.1)))
          (hit_cases extent k)

      once : (k : ℕ) → 0 < Written k → with_blocks Used extent.start extent.count k ≤ 1
      once k writes = ⊎_elim
          (λ (inside : (extent.start ≤ k) × (k < extent.start + extent.count) × (times k (range_with_len extent.start extent.count) ≡ 1)). omega (arith, inside.2, unused k (omega (arith, apart, inside.0))))
          (λ (outside : ((k < extent.start) ⊎ (extent.start + extent.count ≤ k)) × (times k (range_with_len extent.start extent.count) ≡ 0)). let has = swept.once k writes in omega (arith, has, outside.1))
          (hit_cases extent k)

  pub used_twice : extent.start < sweep.used → extent.start < sweep.written → IsTwice (with_blocks Used extent.start extent.count) Written
  used_twice again writes =
      let used = swept.used_cover extent.start behind again in
      (extent.start, swept.written_cover extent.start behind writes, omega (arith, used, here))

  pub used_again : (used twice : ℕ) → used ≡ max (extent.start + extent.count) sweep.used → twice ≡ max (min (extent.start + extent.count) sweep.used) sweep.twice → extent.start < sweep.used → sweep.written ≤ extent.start
      → HasSwept (with_blocks Used extent.start extent.count) Written (record { used = used; twice = twice; written = sweep.written }) extent.start
  used_again used twice is twice_is again apart = record {
    used_below = more_below Used sweep.used used swept.used_below is;
    used_cover = more_cover Used sweep.used used swept.used_cover is;
    twice_below = twice_below;
    twice_cover = twice_cover;
    written_below = swept.written_below;
    written_cover = λ k from under. swept.written_cover k (omega (arith, behind, from)) under;
    once = once;
  }
    where
      twice_below : (k : ℕ) → 1 < with_blocks Used extent.start extent.count k → k < twice
      twice_below k has = ⊎_elim
          (λ (inside : (extent.start ≤ k) × (k < extent.start + extent.count) × (times k (range_with_len extent.start extent.count) ≡ 1)).
          let under = swept.used_below k (omega (arith, has, inside.2)) in omega (arith, twice_is, inside.1, under))
          (λ (outside : ((k < extent.start) ⊎ (extent.start + extent.count ≤ k)) × (times k (range_with_len extent.start extent.count) ≡ 0)). let under = swept.twice_below k (omega (arith, has, outside.1)) in omega (arith, twice_is, under))
          (hit_cases extent k)

      twice_cover : (k : ℕ) → extent.start ≤ k → k < twice → 1 < with_blocks Used extent.start extent.count k
      twice_cover k from under = ⊎_elim
          (λ (low : k < sweep.twice). let has = swept.twice_cover k (omega (arith, behind, from)) low in omega (arith, has))
          (λ (past : sweep.twice ≤ k).
          let has = swept.used_cover k (omega (arith, behind, from)) (omega (arith, twice_is, under, past)) in
          ⊎_elim
          (λ (inside : (extent.start ≤ k) × (k < extent.start + extent.count) × (times k (range_with_len extent.start extent.count) ≡ 1)). omega (arith, inside.2, has))
          (λ (outside : ((k < extent.start) ⊎ (extent.start + extent.count ≤ k)) × (times k (range_with_len extent.start extent.count) ≡ 0)).
          absurd (⊎_elim (λ (less : k < extent.start). omega (arith, less, from)) (λ (more : extent.start + extent.count ≤ k). omega (arith, twice_is, under, past, more)) outside.0))
          (hit_cases extent k))
          (cases_lt k sweep.twice)

      once : (k : ℕ) → 0 < Written k → with_blocks Used extent.start extent.count k ≤ 1
      once k writes =
          let under = swept.written_below k writes in
          let has = swept.once k writes in
          ⊎_elim
          (λ (inside : (extent.start ≤ k) × (k < extent.start + extent.count) × (times k (range_with_len extent.start extent.count) ≡ 1)). absurd (omega (arith, inside.0, under, apart)))
          (λ (outside : ((k < extent.start) ⊎ (extent.start + extent.count ≤ k)) × (times k (range_with_len extent.start extent.count) ≡ 0)). omega (arith, has, outside.1))
          (hit_cases extent k)

  pub written_twice : extent.start < sweep.twice → IsTwice Used (with_blocks Written extent.start extent.count)
  written_twice again = (extent.start, omega (arith, here), swept.twice_cover extent.start behind again)

  pub written_apart : (written : ℕ) → written ≡ max (extent.start + extent.count) sweep.written → sweep.twice ≤ extent.start
      → HasSwept Used (with_blocks Written extent.start extent.count) (record { used = sweep.used; twice = sweep.twice; written = written }) extent.start
  written_apart written is apart = record {
    used_below = swept.used_below;
    used_cover = λ k from under. swept.used_cover k (omega (arith, behind, from)) under;
    twice_below = swept.twice_below;
    twice_cover = λ k from under. swept.twice_cover k (omega (arith, behind, from)) under;
    written_below = more_below Written sweep.written written swept.written_below is;
    written_cover = more_cover Written sweep.written written swept.written_cover is;
    once = once;
  }
    where
      once : (k : ℕ) → 0 < with_blocks Written extent.start extent.count k → Used k ≤ 1
      once k writes = ⊎_elim
          (λ (inside : (extent.start ≤ k) × (k < extent.start + extent.count) × (times k (range_with_len extent.start extent.count) ≡ 1)). ⊎_elim
          (λ (more : 1 < Used k). absurd (let under = swept.twice_below k more in omega (arith, under, apart, inside.0)))
          (λ (few : Used k ≤ 1). few)
          (cases_lt 1 (Used k)))
          (λ (outside : ((k < extent.start) ⊎ (extent.start + extent.count ≤ k)) × (times k (range_with_len extent.start extent.count) ≡ 0)). swept.once k (omega (arith, writes, outside.1)))
          (hit_cases extent k)

-- ---- all extents, in order

module _ (uses : List Use) (i : ℕ) (inside : i < length uses) where
  abbrev pub one : Use
  one = get_or uses i no_use

  used_step : (k : ℕ) → times_used (take (i + 1) uses) k ≡ times_used (take i uses) k + used_hits k one
  used_step k = sum_by_more (used_hits k) uses i no_use inside

  written_step : (k : ℕ) → times_written (take (i + 1) uses) k ≡ times_written (take i uses) k + written_hits k one
  written_step k = sum_by_more (written_hits k) uses i no_use inside

  -- one extent more was looked at
  pub swept_more : (next : Sweep) (last : ℕ) → one.extent.start ≤ last → HasSwept (λ k. times_used (take i uses) k + used_hits k one) (λ k. times_written (take i uses) k + written_hits k one) next one.extent.start
      → HasSwept (times_used (take (i + 1) uses)) (times_written (take (i + 1) uses)) next last
  swept_more next last later swept =
      swept_as (λ k. times_used (take i uses) k + used_hits k one) (times_used (take (i + 1) uses)) (λ k. times_written (take i uses) k + written_hits k one) (times_written (take (i + 1) uses)) next one.extent.start last used_step written_step later swept

  -- a block that the first of them use twice and may write
  pub twice_first : IsTwice (λ k. times_used (take i uses) k + used_hits k one) (λ k. times_written (take i uses) k + written_hits k one) → ((k : ℕ) → 0 < times_written uses k → times_used uses k ≤ 1) → ⊥
  twice_first (k, writes, twice) once =
      let used = sum_by-take-drop (used_hits k) uses (i + 1) in
      let written = sum_by-take-drop (written_hits k) uses (i + 1) in
      let few = once k (omega (arith, written, written_step k, writes)) in
      omega (arith, few, used, used_step k, twice)

-- nothing was looked at
pub swept_none : (last : ℕ) → HasSwept (times_used []) (times_written []) (record { used = 0; twice = 0; written = 0 }) last
swept_none last = record {
  used_below = λ k has. absurd (omega (arith, has));
  used_cover = λ k from under. absurd (omega (arith, under));
  twice_below = λ k has. absurd (omega (arith, has));
  twice_cover = λ k from under. absurd (omega (arith, under));
  written_below = λ k has. absurd (omega (arith, has));
  written_cover = λ k from under. absurd (omega (arith, under));
  once = λ k has. absurd (omega (arith, has));
}

-- the starts of the first of them are no later than that of the next one
pub starts_before : (uses : List Use) (i : ℕ) → i < length uses → IsNonDecreasingBy (λ (u : Use). u.extent.start) uses → (k : ℕ) → k < i → (get_or uses k no_use).extent.start ≤ (get_or uses i no_use).extent.start
starts_before uses i inside order k less = order k i no_use (omega (arith, less)) inside

-- all were looked at
pub swept_all : (uses : List Use) (i : ℕ) (sweep : Sweep) → IsNonDecreasingBy (λ (u : Use). u.extent.start) uses → length uses ≤ i
    → ((last : ℕ) → ((k : ℕ) → k < i → (get_or uses k no_use).extent.start ≤ last) → HasSwept (times_used (take i uses)) (times_written (take i uses)) sweep last)
    → (k : ℕ) → 0 < times_written uses k → times_used uses k ≤ 1
swept_all uses i sweep order past so_far = whole.once
  where
    last : ℕ
    last = (get_or uses (length uses - 1) no_use).extent.start

    starts : (k : ℕ) → k < i → (get_or uses k no_use).extent.start ≤ last
    starts k less = ⊎_elim
        (λ (there : k < length uses). order k (length uses - 1) no_use (omega (arith, there)) (omega (arith, there)))
        (λ (none : length uses ≤ k). subst (λ (u : Use). u.extent.start ≤ last) (sym (get_or_past uses k no_use none)) (omega arith))
        (cases_lt k (length uses))

    whole : HasSwept (times_used uses) (times_written uses) sweep last
    whole = subst (λ (l : List Use). HasSwept (times_used l) (times_written l) sweep last) (take_all i uses past) (so_far last starts)

-- ---- as blocks

unused_hits : (extents : List Extent) (k : ℕ) → times_used (as_uses true extents) k ≡ 0
unused_hits [] k = refl
unused_hits (e ∷ es) k = omega (arith, sum_by-cons (used_hits k) (record { extent = e; written = true }) (as_uses true es), unused_hits es k)

unwritten_hits : (extents : List Extent) (k : ℕ) → times_written (as_uses false extents) k ≡ 0
unwritten_hits [] k = refl
unwritten_hits (e ∷ es) k = omega (arith, sum_by-cons (written_hits k) (record { extent = e; written = false }) (as_uses false es), unwritten_hits es k)

all_used : (extents : List Extent) (k : ℕ) → times_used (as_uses false extents) k ≡ times k (blocks_of extents)
all_used [] k = refl
all_used (e ∷ es) k =
    sum_by-cons (used_hits k) (record { extent = e; written = false }) (as_uses false es)
    ∙ ap (λ n. times k (range_with_len e.start e.count) + n) (all_used es k)
    ∙ sym (times-append k (range_with_len e.start e.count) (blocks_of es))

all_written : (extents : List Extent) (k : ℕ) → times_written (as_uses true extents) k ≡ times k (blocks_of extents)
all_written [] k = refl
all_written (e ∷ es) k =
    sum_by-cons (written_hits k) (record { extent = e; written = true }) (as_uses true es)
    ∙ ap (λ n. times k (range_with_len e.start e.count) + n) (all_written es k)
    ∙ sym (times-append k (range_with_len e.start e.count) (blocks_of es))

counted_stands : (xs : List ℕ) (k : ℕ) → 0 < times k xs → Contains xs k
counted_stands [] k some = absurd (omega (arith, some))
counted_stands (x ∷ xs) k some = ⊎_elim
    (λ (same : x ≡ k). subst (Contains (x ∷ xs)) same (at_front x xs))
    (λ (other : x ≢ k). behind x k xs (counted_stands xs k (omega (arith, some, times-cons k x xs, ap {B = ℕ} (λ b. cond b 1 0) (ne_eqb x k other)))))
    (cases_eq x k)

-- whether no block that may be written is used twice, by extents in the order of their starts
pub once_told : (used written : List Extent) (first sorted : List Use) (met : Bool) → first ≡ as_uses false used ++ as_uses true written → IsPermutation first sorted
    → (IsTrue met ↔ ((k : ℕ) → 0 < times_written sorted k → times_used sorted k ≤ 1)) → IsTrue met ↔ All (λ block. times block (blocks_of used) ≤ 1) (blocks_of written)
once_told used written first sorted met is shuffled tells = (
  λ yes. all_of (λ (block : ℕ). times block (blocks_of used) ≤ 1) (blocks_of written) (λ block stands.
      let few = tells.0 yes block (omega (arith, writes block, stands_once block (blocks_of written) stands)) in omega (arith, few, uses block)),
  λ all. tells.1 (λ k some.
      let few : times k (blocks_of used) ≤ 1 = each_of (λ (block : ℕ). times block (blocks_of used) ≤ 1) (blocks_of written) all k (counted_stands (blocks_of written) k (omega (arith, some, writes k))) in
      omega (arith, few, uses k)),
)
  where
    uses : (k : ℕ) → times_used sorted k ≡ times k (blocks_of used)
    uses k =
        sum_by-IsPermutation (used_hits k) first sorted shuffled
        ∙ ap (λ (l : List Use). times_used l k) is
        ∙ sum_by-append (used_hits k) (as_uses false used) (as_uses true written)
        ∙ omega (arith, all_used used k, unused_hits written k)

    writes : (k : ℕ) → times_written sorted k ≡ times k (blocks_of written)
    writes k =
        sum_by-IsPermutation (written_hits k) first sorted shuffled
        ∙ ap (λ (l : List Use). times_written l k) is
        ∙ sum_by-append (written_hits k) (as_uses false used) (as_uses true written)
        ∙ omega (arith, unwritten_hits used k, all_written written k)
