-- Extents that are given back one after another.
use Rattle.std.proofs.Common.{◌≡◌, ◌⊎◌, ℕ, ◌+◌, ◌-◌, ◌≤◌, ◌<◌, Bool, true, false, List, [], ◌∷◌, ◌++◌, length, get_or, take, drop, replicate, refl, sym, ◌∙◌, ap, subst, arith, ⊎_elim, length-append}
use Rattle.std.specs.List.{range_with_len}
use Rattle.std.proofs.lemmas.List.{drop_more, get_or_past, get_or_append_left, get_or-append_right, take-append-drop}
use Rattle.std.proofs.lemmas.List.FromFn.{length-range_with_len, get_or-range_with_len}
use Rattle.std.proofs.lemmas.Bool.{cases_lt}
use Rattle.hx_bytes.specs.declared.extents.Extent.{Extent}
use Rattle.fork_map.specs.Blocks.{blocks_of}
use Rattle.flag_rows.specs.Bits.{mark, has}
use Rattle.flag_rows.proofs.RowLaws.{get_or-mark}
use Rattle.alloc_bitmap.specs.Apart.{times, AreApart}
use Rattle.alloc_bitmap.specs.Map.{BlockMap, Have, touched_by}
use Rattle.alloc_bitmap.proofs.ApartLaws.{times-append, times_range, apart_rest}
use Rattle.alloc_bitmap.proofs.TakeLaws.{times_here}
use Rattle.file_io.specs.Places.{given, AreUsed}

mark_nothing : (xs : List Bool) (start count : ℕ) (v : Bool) → count ≡ 0 → mark xs (record { start = start; count = count }) v ≡ xs
mark_nothing xs start count v none =
    ap (λ n. take start xs ++ (replicate n v ++ drop (start + n) xs)) none
    ∙ ap (λ n. take start xs ++ drop n xs) (let e : start + 0 ≡ start = omega arith in e) ∙ take-append-drop start xs

pub given_nothing : (e : Extent) (map : BlockMap) → e.count ≡ 0 → given (e ∷ []) map ≡ map
given_nothing e map none =
    ap (λ (u : List Bool). record map { used = u; held = mark map.held e true; changed = mark map.changed (touched_by e) true }) (mark_nothing map.used e.start e.count false none)
    ∙ ap (λ (h : List Bool). record map { held = h; changed = mark map.changed (touched_by e) true }) (mark_nothing map.held e.start e.count true none)
    ∙ ap (λ (c : List Bool). record map { changed = c }) (mark_nothing map.changed (touched_by e).start (touched_by e).count true (rw none refl))

-- the blocks of an extent, and those of the others
first_used : (map : BlockMap) (e : Extent) (rest : List Extent) → AreUsed map (blocks_of (e ∷ rest)) → (k : ℕ) → e.start ≤ k → k < e.start + e.count → get_or map.used k false ≡ true
first_used map e rest used k low high =
    let j : ℕ = k - e.start in
    let inside : j < length (range_with_len e.start e.count) = omega (arith, low, high, length-range_with_len e.start e.count) in
    let here : get_or (range_with_len e.start e.count ++ blocks_of rest) j 0 ≡ k =
    get_or_append_left (range_with_len e.start e.count) (blocks_of rest) 0 j inside ∙ get_or-range_with_len e.start e.count j 0 (omega (arith, low, high)) ∙ (let s : e.start + j ≡ k = omega (arith, low) in s) in
    subst (λ b. get_or map.used b false ≡ true) here (used j 0 (omega (arith, inside, length-append (range_with_len e.start e.count) (blocks_of rest))))

pub rest_used : (map : BlockMap) (e : Extent) (rest : List Extent) → AreUsed map (blocks_of (e ∷ rest)) → AreUsed map (blocks_of rest)
rest_used map e rest used = λ k d lt.
    let n : ℕ = e.count + k in
    let long = length-range_with_len e.start e.count in
    subst (λ b. get_or map.used b false ≡ true)
    (get_or-append_right (range_with_len e.start e.count) (blocks_of rest) e.count n d long (omega arith) ∙ ap (λ m. get_or (blocks_of rest) m d) (let s : n - e.count ≡ k = omega arith in s))
    (used n d (omega (arith, lt, long, length-append (range_with_len e.start e.count) (blocks_of rest))))

pub used_fits : (map : BlockMap) (e : Extent) (rest : List Extent) → AreUsed map (blocks_of (e ∷ rest)) → 0 < e.count → e.start + e.count ≤ length map.used
used_fits map e rest used some = ⊎_elim
    (λ (lt : e.start + e.count - 1 < length map.used). let le : e.start + e.count ≤ length map.used = omega (arith, lt) in le)
    (λ (past : length map.used ≤ e.start + e.count - 1). absurd (let clash : false ≡ true = sym (get_or_past map.used (e.start + e.count - 1) false past) ∙ first_used map e rest used (e.start + e.count - 1) (omega (arith, some)) (omega (arith, some)) in cc clash))
    (cases_lt (e.start + e.count - 1) (length map.used))

-- an extent whose blocks are used is had, unless it has none
pub had : (map : BlockMap) (e : Extent) (rest : List Extent) → AreUsed map (blocks_of (e ∷ rest)) → 0 < e.count → Have map.used e true
had map e rest used some = record { inside = used_fits map e rest used some; each = λ k low high. first_used map e rest used k low high }

away : (e : Extent) (rest : List Extent) (k d : ℕ) → AreApart (blocks_of (e ∷ rest)) → k < length (blocks_of rest) → has e (get_or (blocks_of rest) k d) ≡ false
away e rest k d apart lt =
    let b : ℕ = get_or (blocks_of rest) k d in
    elim (has e b) as (λ t. has e b ≡ t → t ≡ false) [
      | true ↦ λ (is : has e b ≡ true).
          let one : times b (range_with_len e.start e.count) ≡ 1 = times_range e b ∙ rw is refl in
          absurd (omega (arith, apart b, times-append b (range_with_len e.start e.count) (blocks_of rest), one, times_here (blocks_of rest) k d lt))
      | false ↦ λ (is : has e b ≡ false). refl
    ] refl

pub still_used : (map : BlockMap) (e : Extent) (rest : List Extent) → AreApart (blocks_of (e ∷ rest)) → AreUsed map (blocks_of (e ∷ rest)) → e.start + e.count ≤ length map.used → AreUsed (given (e ∷ []) map) (blocks_of rest)
still_used map e rest apart used fits = λ k d lt.
    get_or-mark map.used e false (get_or (blocks_of rest) k d) false fits ∙ rw (away e rest k d apart lt) (rest_used map e rest used k d lt)

-- what holds before an extent and after it
pub record Giving (list : List Extent) (map : BlockMap) (at : ℕ) (all : BlockMap) : Type 0 where
  pub apart : AreApart (blocks_of (drop at list))
  pub used : AreUsed map (blocks_of (drop at list))
  pub rest : given (drop at list) map ≡ all

pub giving_on : (list : List Extent) (map next all : BlockMap) (at : ℕ) (d : Extent) → at < length list → Giving list map at all
    → (next ≡ given (get_or list at d ∷ []) map) ⊎ ((next ≡ map) × (Have map.used (get_or list at d) true → ⊥)) → (0 < (get_or list at d).count → Have map.used (get_or list at d) true) → Giving list next (at + 1) all
giving_on list map next all at d lt g way have =
    let e : Extent = get_or list at d in
    let rest : List Extent = drop (at + 1) list in
    let here : drop at list ≡ e ∷ rest = drop_more list at d lt in
    let apart : AreApart (blocks_of (e ∷ rest)) = subst (λ (l : List Extent). AreApart (blocks_of l)) here g.apart in
    let used : AreUsed map (blocks_of (e ∷ rest)) = subst (λ (l : List Extent). AreUsed map (blocks_of l)) here g.used in
    let is : given (e ∷ rest) map ≡ all = ap (λ (l : List Extent). given l map) (sym here) ∙ g.rest in
    ⊎_elim
    (λ (some : 0 < e.count).
    let next_is : next ≡ given (e ∷ []) map = ⊎_elim (λ y. y) (λ n. absurd (n.1 (have some))) way in
    record {
      apart = apart_rest e rest apart;
      used = subst (λ (m : BlockMap). AreUsed m (blocks_of rest)) (sym next_is) (still_used map e rest apart used (have some).inside);
      rest = ap (λ (m : BlockMap). given rest m) next_is ∙ is;
    })
    (λ (none : e.count ≤ 0).
    let zero_ : e.count ≡ 0 = omega (arith, none) in
    let same : next ≡ map = ⊎_elim (λ y. y ∙ given_nothing e map zero_) (λ n. n.0) way in
    record {
      apart = apart_rest e rest apart;
      used = subst (λ (m : BlockMap). AreUsed m (blocks_of rest)) (sym same) (rest_used map e rest used);
      rest = ap (λ (m : BlockMap). given rest m) (same ∙ sym (given_nothing e map zero_)) ∙ is;
    })
    (cases_lt 0 e.count)
