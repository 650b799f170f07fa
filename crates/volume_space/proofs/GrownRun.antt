-- A run of free blocks that is taken: it is one extent, whose blocks were neither used nor held.
use Rattle.std.proofs.Common.{◌≡◌, ◌<◌, ◌≤◌, ℕ, zero, suc, ◌+◌, ◌-◌, Bool, true, false, not, List, [], ◌∷◌, length, get_or, map, refl, sym, ◌∙◌, ap, subst, arith, ⊎_elim}
use Rattle.std.specs.Prelude.{◌&&◌, if◌then◌else◌}
use Rattle.std.specs.List.{All, range_with_len}
use Rattle.std.proofs.lemmas.Bool.{and_parts, cases_lt, true≢false}
use Rattle.std.proofs.lemmas.List.{get_or_past, append-nil}
use Rattle.std.proofs.lemmas.List.FromFn.{length-range_with_len, get_or-range_with_len}
use Rattle.hx_bytes.specs.declared.extents.Extent.{Extent}
use Rattle.fork_map.specs.Blocks.{blocks_of}
use Rattle.flag_rows.specs.Bits.{has}
use Rattle.flag_rows.specs.Marks.{mark_all}
use Rattle.flag_rows.proofs.RowLaws.{get_or-mark, length-mark}
use Rattle.alloc_bitmap.specs.Apart.{AreApart, times}
use Rattle.alloc_bitmap.specs.Map.{BlockMap, PicksFree, free_of, touched_by}
use Rattle.alloc_bitmap.proofs.ApartLaws.{times_range, length_blocks}
use Rattle.alloc_bitmap.proofs.HoldLaws.{has_in}
use Rattle.alloc_bitmap.proofs.MapLaws.{length-open, get_or-open}
use Rattle.volume_space.specs.Growing.{HasFreeRun, TakesRun, with_run}

-- the blocks of one extent
pub blocks_one : (run : Extent) → blocks_of (run ∷ []) ≡ range_with_len run.start run.count
blocks_one run = append-nil (range_with_len run.start run.count)

at_most_one : (b : Bool) → (if b then 1 else 0) ≤ 1
at_most_one true = omega arith
at_most_one false = omega arith

pub run_apart : (run : Extent) → AreApart (blocks_of (run ∷ []))
run_apart run block = subst (λ (l : List ℕ). times block l ≤ 1) (sym (blocks_one run)) (subst (λ n. n ≤ 1) (sym (times_range run block)) (at_most_one (has run block)))

-- so many free blocks in a row can be picked as one extent
picks_run : (many : ℕ) (free : List Bool) → (run : HasFreeRun many free) → PicksFree free many (record { start = run.start; count = many } ∷ [])
picks_run many free run =
    let one : Extent = record { start = run.start; count = many } in
    record {
      count = ap (λ (l : List ℕ). length l) (blocks_one one) ∙ length-range_with_len run.start many;
      apart = run_apart one;
      each = subst (λ (l : List ℕ). All (λ block. get_or free block false ≡ true) l) (sym (blocks_one one)) (λ k d low.
          let in_range : k < many = omega (arith, low, length-range_with_len run.start many) in
          ap (λ b. get_or free b false) (get_or-range_with_len run.start many k d in_range) ∙ run.each (run.start + k) (omega arith) (omega (arith, in_range)));
    }

-- what is picked then is one extent
pub record IsOneRun (many : ℕ) (list : List Extent) : Type 0 where
  pub run : Extent
  pub is : list ≡ run ∷ []
  pub count : run.count ≡ many

pub one_run : (many : ℕ) (free : List Bool) (list : List Extent) → 0 < many → HasFreeRun many free → PicksFree free many list → ((others : List Extent) → PicksFree free many others → length list ≤ length others) → IsOneRun many list
one_run many free list some run picks fewest = by list refl (fewest (record { start = run.start; count = many } ∷ []) (picks_run many free run))
  where
    by : (l : List Extent) → list ≡ l → length list ≤ 1 → IsOneRun many list
    by [] is few = absurd (omega (arith, some, picks.count, ap (λ (es : List Extent). length (blocks_of es)) is))
    by (e ∷ []) is few = record {
      run = e;
      is = is;
      count = omega (arith, picks.count, ap (λ (es : List Extent). length (blocks_of es)) is, length_blocks e []);
    }
    by (e ∷ f ∷ rest) is few = absurd (omega (arith, few, ap (λ (es : List Extent). length es) is))

-- each block of it was free
pub run_free : (many : ℕ) (free : List Bool) (run : Extent) → PicksFree free many (run ∷ []) → (k : ℕ) → run.start ≤ k → k < run.start + run.count → get_or free k false ≡ true
run_free many free run picks k from to =
    let place : k - run.start < length (range_with_len run.start run.count) = omega (arith, from, to, length-range_with_len run.start run.count) in
    let each = subst (λ (l : List ℕ). All (λ block. get_or free block false ≡ true) l) (blocks_one run) picks.each in
    sym (ap (λ b. get_or free b false) (get_or-range_with_len run.start run.count (k - run.start) 0 (omega (arith, from, to)) ∙ (let whole : run.start + (k - run.start) ≡ k = omega (arith, from) in whole))) ∙ each (k - run.start) 0 place

-- a block that is free is there
pub free_there : (used held : List Bool) (map_ : BlockMap) → map_.used ≡ used → (k : ℕ) → get_or (free_of map_) k false ≡ true → k < length map_.used
free_there used held map_ same k is = ⊎_elim (λ low. low)
    (λ past. absurd (true≢false (sym is ∙ get_or_past (free_of map_) k false (omega (arith, past, length-open map_.used map_.held)))))
    (cases_lt k (length map_.used))

pub taken_run : (count : ℕ) (old new : BlockMap) (list : List Extent) (first : Extent) → 0 < count → HasFreeRun count (free_of old) → PicksFree (free_of old) count list
    → ((others : List Extent) → PicksFree (free_of old) count others → length list ≤ length others)
    → new ≡ record old { used = mark_all old.used list true; changed = mark_all old.changed (map (λ extent. touched_by extent) list) true } → first ≡ get_or list 0 first → TakesRun count first old new
taken_run count old new list first some run picks fewest is at =
    let one = one_run count (free_of old) list some run picks fewest in
    let same : first ≡ one.run = at ∙ ap (λ (l : List Extent). get_or l 0 first) one.is in
    let picked = subst (λ (l : List Extent). PicksFree (free_of old) count l) one.is picks in
    let free = run_free count (free_of old) one.run picked in
    let marked : new ≡ with_run one.run old = is ∙ ap (λ (l : List Extent). record old { used = mark_all old.used l true; changed = mark_all old.changed (map (λ extent. touched_by extent) l) true }) one.is in
    subst (λ (e : Extent). TakesRun count e old new) (sym same) (record {
      many = one.count;
      inside =
          let last = free_there old.used old.held old refl (one.run.start + one.run.count - 1) (free (one.run.start + one.run.count - 1) (omega (arith, some, one.count)) (omega (arith, some, one.count))) in
          omega (arith, last, some, one.count);
      free = free;
      taken = marked;
    })

-- ---- a run that was taken

other_default : (l : List Bool) (n : ℕ) → n < length l → get_or l n false ≡ get_or l n true
other_default [] n low = absurd (omega (arith, low))
other_default (x ∷ l) zero low = refl
other_default (x ∷ l) (suc n) low = other_default l n (omega (arith, low))

module _ (count : ℕ) (run : Extent) (old new : BlockMap) (takes : TakesRun count run old new) where
  -- its blocks were neither used nor held
  not_used : (k : ℕ) → run.start ≤ k → k < run.start + run.count → (get_or old.used k true ≡ false) × (get_or old.held k false ≡ false)
  not_used k from to =
      let parts = and_parts (not (get_or old.used k true)) (not (get_or old.held k false)) (sym (get_or-open old.used old.held k false (omega (arith, to, takes.inside))) ∙ takes.free k from to) in
      (flip (get_or old.used k true) parts.0, flip (get_or old.held k false) parts.1)
    where
      flip : (b : Bool) → not b ≡ true → b ≡ false
      flip true is = absurd (true≢false (sym is))
      flip false is = refl

  pub was_clear : (k : ℕ) → run.start ≤ k → k < run.start + run.count → get_or old.used k false ≡ false
  was_clear k from to = other_default old.used k (omega (arith, to, takes.inside)) ∙ (not_used k from to).0

  pub was_open : (k : ℕ) → run.start ≤ k → k < run.start + run.count → get_or old.held k false ≡ false
  was_open k from to = (not_used k from to).1

  used_is : (k : ℕ) (d : Bool) → get_or new.used k d ≡ (if has run k then true else get_or old.used k d)
  used_is k d = ap (λ (m : BlockMap). get_or m.used k d) takes.taken ∙ get_or-mark old.used run true k d takes.inside

  pub same_length : length new.used ≡ length old.used
  same_length = ap (λ (m : BlockMap). length m.used) takes.taken ∙ length-mark old.used run true takes.inside

  pub same_held : new.held ≡ old.held
  same_held = ap (λ (m : BlockMap). m.held) takes.taken

  pub same_fork : new.fork ≡ old.fork
  same_fork = ap (λ (m : BlockMap). m.fork) takes.taken

  pub same_per : new.per_block ≡ old.per_block
  same_per = ap (λ (m : BlockMap). m.per_block) takes.taken

  -- they are used now
  pub used_now : (k : ℕ) → run.start ≤ k → k < run.start + run.count → get_or new.used k false ≡ true
  used_now k from to = used_is k false ∙ ap (λ b. if b then true else get_or old.used k false) (has_in run k from to)

  -- and no other block's flag is another
  pub used_others : (k : ℕ) → has run k ≡ false → get_or new.used k false ≡ get_or old.used k false
  used_others k none = used_is k false ∙ ap (λ b. if b then true else get_or old.used k false) none

  pub used_still : (k : ℕ) → get_or old.used k false ≡ true → get_or new.used k false ≡ true
  used_still k was = used_is k false ∙ by (has run k)
    where
      by : (b : Bool) → (if b then true else get_or old.used k false) ≡ true
      by true = refl
      by false = was

  -- a block that is free now was free
  pub free_before : (k : ℕ) → get_or (free_of new) k false ≡ true → get_or (free_of old) k false ≡ true
  free_before k is =
      let low : k < length new.used = free_there new.used new.held new refl k is in
      let parts = and_parts (not (get_or new.used k true)) (not (get_or new.held k false)) (sym (get_or-open new.used new.held k false low) ∙ is) in
      let there : k < length old.used = omega (arith, low, same_length) in
      get_or-open old.used old.held k false there ∙ both_free (not (get_or old.used k true)) (not (get_or old.held k false)) (by (has run k) (sym (ap not (used_is k true)) ∙ parts.0)) (ap (λ (l : List Bool). not (get_or l k false)) (sym same_held) ∙ parts.1)
    where
      by : (b : Bool) → not (if b then true else get_or old.used k true) ≡ true → not (get_or old.used k true) ≡ true
      by true is_not = absurd (true≢false (sym is_not))
      by false is_not = is_not

      both_free : (a b : Bool) → a ≡ true → b ≡ true → (a && b) ≡ true
      both_free a b one two = λ i. one i && two i
