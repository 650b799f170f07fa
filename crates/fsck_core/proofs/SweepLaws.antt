-- Extents in the order of their starts, which are looked at one after the other.
use Rattle.std.proofs.Common.{◌≡◌, ◌≢◌, ◌⊎◌, ◌<◌, ◌≤◌, ℕ, ◌+◌, ◌-◌, max, Bool, true, false, cond, ◌||◌, ◌==◌, if◌then◌else◌, List, [], ◌∷◌, ◌++◌, length, replicate, get_or, inl, inr, refl, sym, ◌∙◌, ap, subst, arith, ⊎_elim, append-nil}
use Rattle.std.specs.Prelude.{Contains}
use Rattle.std.specs.List.{sum_by, range_with_len}
use Rattle.std.specs.List.Sorted.{IsPermutation, IsNonDecreasingBy}
use Rattle.std.proofs.lemmas.Bool.{cases_lt, true≢false}
use Rattle.std.proofs.lemmas.List.{get_or_past}
use Rattle.std.proofs.lemmas.List.Sorted.{sum_by-IsPermutation}
use Rattle.std.proofs.lemmas.List.Sums.{sum_by-cons}
use Rattle.hx_bytes.specs.declared.extents.Extent.{Extent}
use Rattle.fork_map.specs.Blocks.{blocks_of}
use Rattle.alloc_bitmap.specs.Apart.{times}
use Rattle.alloc_bitmap.proofs.ApartLaws.{times-append, times-cons, times_range}
use Rattle.alloc_bitmap.proofs.HoldLaws.{has_in, has_below, has_above}
use Rattle.fsck_list.specs.declared.finding.Finding.{Finding}
use Rattle.hfs_volume.specs.Blocks.{is_among}
use Rattle.hfs_volume.specs.Broken.{Want}
use Rattle.hfs_volume.proofs.Members.{in_one, map_stands}
use Rattle.fsck_core.specs.Judged.{AddsUnmet}
use Rattle.fsck_core.specs.Uses.{use_want, uses_of, HasMarked, HasSwept}
use Rattle.fsck_core.specs.declared.uses.Sweep.{Sweep}
use Rattle.fsck_core.proofs.JudgedLaws.{adds_both}
use Rattle.fsck_core.proofs.UseLaws.{not_seen, stands_once}

-- ---- counts

same_bool : (a b : Bool) → (a ≡ true → b ≡ true) → (b ≡ true → a ≡ true) → a ≡ b
same_bool true b to from = sym (to refl)
same_bool false true to from = from refl
same_bool false false to from = refl

some_seen : (k : ℕ) (xs : List ℕ) → 0 < times k xs → is_among xs k ≡ true
some_seen k xs some = by (is_among xs k) refl
  where
    by : (b : Bool) → is_among xs k ≡ b → is_among xs k ≡ true
    by true is = is
    by false is = absurd (omega (arith, not_seen k xs is, some))

seen_some : (k : ℕ) (xs : List ℕ) → is_among xs k ≡ true → 0 < times k xs
seen_some k [] seen = absurd (true≢false (sym seen))
seen_some k (x ∷ xs) seen = at (seen_some k xs) (x == k) refl
  where
    at : (is_among xs k ≡ true → 0 < times k xs) → (b : Bool) → (x == k) ≡ b → 0 < times k (x ∷ xs)
    at rest true is = let one : times k (x ∷ xs) ≡ 1 + times k xs = times-cons k x xs ∙ ap (λ b. cond b 1 0 + times k xs) is in omega (arith, one)
    at rest false is =
        let none : times k (x ∷ xs) ≡ 0 + times k xs = times-cons k x xs ∙ ap (λ b. cond b 1 0 + times k xs) is in
        let some = rest (sym (ap (λ b. b || is_among xs k) is) ∙ seen) in omega (arith, none, some)

-- the blocks of an extent, counted
in_range : (extent : Extent) (k : ℕ) → extent.start ≤ k → k < extent.start + extent.count → times k (range_with_len extent.start extent.count) ≡ 1
in_range extent k low high = times_range extent k ∙ ap (λ b. if b then 1 else 0) (has_in extent k low high)

before_range : (extent : Extent) (k : ℕ) → k < extent.start → times k (range_with_len extent.start extent.count) ≡ 0
before_range extent k low = times_range extent k ∙ ap (λ b. if b then 1 else 0) (has_below extent k low)

past_range : (extent : Extent) (k : ℕ) → extent.start + extent.count ≤ k → times k (range_with_len extent.start extent.count) ≡ 0
past_range extent k high = times_range extent k ∙ ap (λ b. if b then 1 else 0) (has_above extent k high)

-- one is counted where it lies in the extent, and nowhere else
range_cases : (extent : Extent) (k : ℕ) → ((extent.start ≤ k) × (k < extent.start + extent.count) × (times k (range_with_len extent.start extent.count) ≡ 1)) ⊎ (((k < extent.start) ⊎ (extent.start + extent.count ≤ k)) × (times k (range_with_len extent.start extent.count) ≡ 0))
range_cases extent k = ⊎_elim
    (λ (low : k < extent.start). inr (inl low, before_range extent k low))
    (λ (from : extent.start ≤ k). ⊎_elim
    (λ (inside : k < extent.start + extent.count). inl (from, inside, in_range extent k from inside))
    (λ (past : extent.start + extent.count ≤ k). inr (inr past, past_range extent k past))
    (cases_lt k (extent.start + extent.count)))
    (cases_lt k extent.start)

-- ---- one extent more

module _ (total : ℕ) (all front : List ℕ) (first : List Finding) (used : List Bool) (out : List Finding) (sweep : Sweep) (last : ℕ) (extent : Extent) (swept : HasSwept total all front first used out sweep last) (behind : last ≤ extent.start)
    (room : (k : ℕ) → times k front + times k (range_with_len extent.start extent.count) ≤ times k all) where
  abbrev start : ℕ
  start = extent.start

  abbrev stop : ℕ
  stop = extent.start + extent.count

  abbrev more : List ℕ
  more = front ++ range_with_len extent.start extent.count

  count_more : (k : ℕ) → times k more ≡ times k front + times k (range_with_len extent.start extent.count)
  count_more k = times-append k front (range_with_len extent.start extent.count)

  -- an extent without blocks
  pub sweep_none : extent.count ≡ 0 → HasSwept total all (front ++ range_with_len extent.start extent.count) first used out sweep extent.start
  sweep_none none = subst (λ (l : List ℕ). HasSwept total all l first used out sweep extent.start) (sym (append-nil front) ∙ ap (λ n. front ++ range_with_len extent.start n) (sym none)) (record {
    marked = swept.marked;
    below = swept.below;
    cover = λ k from under. swept.cover k (omega (arith, from, behind)) under;
  })

  -- none of the blocks behind the end is marked yet
  pub fresh : (k : ℕ) → max extent.start sweep.end ≤ k → get_or used k false ≡ false
  fresh k from = ⊎_elim
      (λ (inside : k < total). swept.marked.marks k inside ∙ unseen k (λ some. let under = swept.below k some in omega (arith, under, from)))
      (λ (past : total ≤ k). get_or_past used k false (omega (arith, past, swept.marked.long)))
      (cases_lt k total)
    where
      unseen : (n : ℕ) → (0 < times n front → ⊥) → is_among front n ≡ false
      unseen n none = by (is_among front n) refl
        where
          by : (b : Bool) → is_among front n ≡ b → is_among front n ≡ false
          by false is = is
          by true is = absurd (none (seen_some n front is))

  module _ (marks : List Bool) (long : length marks ≡ length used) (sets : (k : ℕ) → max extent.start sweep.end ≤ k → k < extent.start + extent.count → k < length used → get_or marks k false ≡ true)
      (keeps : (k : ℕ) → (k < max extent.start sweep.end) ⊎ (extent.start + extent.count ≤ k) → get_or marks k false ≡ get_or used k false) where
    seen_more : (k : ℕ) → 0 < times k front → 0 < times k more
    seen_more k some = omega (arith, some, count_more k)

    marks_more : (k : ℕ) → k < total → get_or marks k false ≡ is_among more k
    marks_more k inside = ⊎_elim
        (λ (here : (start ≤ k) × (k < stop) × (times k (range_with_len extent.start extent.count) ≡ 1)).
        let seen : is_among more k ≡ true = some_seen k more (omega (arith, here.2, count_more k)) in
        ⊎_elim
        (λ (low : k < sweep.end).
        let before : is_among front k ≡ true = some_seen k front (swept.cover k (omega (arith, here.0, behind)) low) in
        keeps k (inl (omega (arith, low))) ∙ swept.marked.marks k inside ∙ before ∙ sym seen)
        (λ (high : sweep.end ≤ k). sets k (omega (arith, high, here.0)) here.1 (omega (arith, inside, swept.marked.long)) ∙ sym seen)
        (cases_lt k sweep.end))
        (λ (other : ((k < start) ⊎ (stop ≤ k)) × (times k (range_with_len extent.start extent.count) ≡ 0)).
        let same : is_among front k ≡ is_among more k =
        same_bool (is_among front k) (is_among more k) (λ seen. some_seen k more (seen_more k (seen_some k front seen)))
        (λ seen. some_seen k front (let some = seen_some k more seen in omega (arith, some, count_more k, other.1))) in
        keeps k (⊎_elim (λ (low : k < start). inl (omega (arith, low))) (λ (high : stop ≤ k). inr high) other.0) ∙ swept.marked.marks k inside ∙ same)
        (range_cases extent k)

    below_more : (k : ℕ) → 0 < times k more → k < max stop sweep.end
    below_more k some = ⊎_elim
        (λ (here : (start ≤ k) × (k < stop) × (times k (range_with_len extent.start extent.count) ≡ 1)). omega (arith, here.1))
        (λ (other : ((k < start) ⊎ (stop ≤ k)) × (times k (range_with_len extent.start extent.count) ≡ 0)).
        let under = swept.below k (omega (arith, some, count_more k, other.1)) in omega (arith, under))
        (range_cases extent k)

    cover_more : (k : ℕ) → extent.start ≤ k → k < max stop sweep.end → 0 < times k more
    cover_more k from under = ⊎_elim
        (λ (low : k < sweep.end). seen_more k (swept.cover k (omega (arith, from, behind)) low))
        (λ (high : sweep.end ≤ k). omega (arith, count_more k, in_range extent k from (omega (arith, under, high))))
        (cases_lt k sweep.end)

    -- one that begins behind all before it
    pub sweep_fresh : (told : ℕ) → sweep.end ≤ extent.start → HasSwept total all (front ++ range_with_len extent.start extent.count) first marks out (record { end = max stop sweep.end; told = told; met = sweep.met }) extent.start
    sweep_fresh told behind_end = record {
      marked = record {
        long = long ∙ swept.marked.long;
        marks = marks_more;
        once = λ holds k. ⊎_elim
            (λ (here : (start ≤ k) × (k < stop) × (times k (range_with_len extent.start extent.count) ≡ 1)). ⊎_elim
            (λ (none : times k front < 1). omega (arith, none, count_more k, here.2))
            (λ (some : 1 ≤ times k front). absurd (let under = swept.below k some in omega (arith, under, behind_end, here.0)))
            (cases_lt (times k front) 1))
            (λ (other : ((k < start) ⊎ (stop ≤ k)) × (times k (range_with_len extent.start extent.count) ≡ 0)). omega (arith, count_more k, other.1, swept.marked.once holds k))
            (range_cases extent k);
        twice = swept.marked.twice;
        found = swept.marked.found;
        each = swept.marked.each;
      };
      below = below_more;
      cover = cover_more;
    }

    -- its first block is used twice where it begins before the end
    doubled : 0 < extent.count → extent.start < sweep.end → 1 < times extent.start all
    doubled some early = omega (arith, swept.cover extent.start behind early, in_range extent extent.start (omega arith) (omega (arith, some)), room extent.start)

    pub differs : 0 < extent.count → extent.start < sweep.end → times extent.start all ≢ 1
    differs some early same = let many = doubled some early in omega (arith, many, same)

    -- one that begins before the end, where that is told
    pub sweep_again : (told : ℕ) (further : List Finding) → 0 < extent.count → extent.start < sweep.end → 0 < length further → AddsUnmet 18 (uses_of all) first further
        → HasSwept total all (front ++ range_with_len extent.start extent.count) first marks further (record { end = max stop sweep.end; told = told; met = false }) extent.start
    sweep_again told further some early found each = record {
      marked = record {
        long = long ∙ swept.marked.long;
        marks = marks_more;
        once = λ holds. absurd (true≢false (sym holds));
        twice = λ fails. (extent.start, doubled some early);
        found = λ fails. found;
        each = each;
      };
      below = below_more;
      cover = cover_more;
    }

    pub tells_more : (further : List Finding) → 0 < extent.count → extent.start < sweep.end → AddsUnmet 18 (use_want all extent.start ∷ []) out further → AddsUnmet 18 (uses_of all) first further
    tells_more further some early each = adds_both 18 (uses_of all) (use_want all extent.start ∷ []) (uses_of all) first out further (λ w stands. stands)
        (λ w stands. subst (λ (v : Want). Contains (uses_of all) v) (sym (in_one (use_want all extent.start) w stands))
        (map_stands (use_want all) all extent.start (stands_once extent.start all (let many = doubled some early in omega (arith, many)))))
        swept.marked.each each

-- ---- all of them

pub sweep_begins : (total : ℕ) (all : List ℕ) (first : List Finding) (sweep : Sweep) → sweep.end ≡ 0 → sweep.met ≡ true → HasMarked total all [] first (replicate total false) first true → HasSwept total all [] first (replicate total false) first sweep 0
sweep_begins total all first sweep none met marked = record {
  marked = subst (λ b. HasMarked total all [] first (replicate total false) first b) (sym met) marked;
  below = λ k some. absurd (omega (arith, some));
  cover = λ k from under. absurd (omega (arith, under, none));
}

-- the same marks, where two lists have each block as often
pub marked_all : (total : ℕ) (all front : List ℕ) (first : List Finding) (used : List Bool) (out : List Finding) (met : Bool) → ((k : ℕ) → times k front ≡ times k all) → HasMarked total all front first used out met → HasMarked total all all first used out met
marked_all total all front first used out met same marked = record {
  long = marked.long;
  marks = λ k inside. marked.marks k inside ∙ same_bool (is_among front k) (is_among all k)
      (λ seen. some_seen k all (let some = seen_some k front seen in omega (arith, some, same k))) (λ seen. some_seen k front (let some = seen_some k all seen in omega (arith, some, same k)));
  once = λ holds k. let few = marked.once holds k in omega (arith, few, same k);
  twice = marked.twice;
  found = marked.found;
  each = marked.each;
}

-- a list in another order has each block as often
pub times_shuffled : (a b : List Extent) (k : ℕ) → IsPermutation a b → times k (blocks_of b) ≡ times k (blocks_of a)
times_shuffled a b k same = sums b ∙ sum_by-IsPermutation (λ (e : Extent). times k (range_with_len e.start e.count)) a b same ∙ sym (sums a)
  where
    sums : (es : List Extent) → times k (blocks_of es) ≡ sum_by (λ (e : Extent). times k (range_with_len e.start e.count)) es
    sums [] = refl
    sums (e ∷ es) = times-append k (range_with_len e.start e.count) (blocks_of es) ∙ ap (λ n. times k (range_with_len e.start e.count) + n) (sums es) ∙ sym (sum_by-cons (λ (x : Extent). times k (range_with_len x.start x.count)) e es)

pub swept_later : (total : ℕ) (all front : List ℕ) (first : List Finding) (used : List Bool) (out : List Finding) (sweep : Sweep) (last later : ℕ) → last ≤ later → HasSwept total all front first used out sweep last → HasSwept total all front first used out sweep later
swept_later total all front first used out sweep last later behind swept = record {
  marked = swept.marked;
  below = swept.below;
  cover = λ k from under. swept.cover k (omega (arith, from, behind)) under;
}

-- no extent begins behind the last
pub above_all : (sorted : List Extent) → IsNonDecreasingBy (λ (e : Extent). e.start) sorted → (k : ℕ) → (get_or sorted k (record { start = 0; count = 0 })).start ≤ (get_or sorted (length sorted - 1) (record { start = 0; count = 0 })).start
above_all sorted rises k = ⊎_elim
    (λ (inside : k < length sorted). rises k (length sorted - 1) (record { start = 0; count = 0 }) (omega (arith, inside)) (omega (arith, inside)))
    (λ (past : length sorted ≤ k). let none = ap (λ (e : Extent). e.start) (get_or_past sorted k (record { start = 0; count = 0 }) past) in omega (arith, none))
    (cases_lt k (length sorted))
