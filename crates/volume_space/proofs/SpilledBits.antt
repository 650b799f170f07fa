-- The bits of a volume over which blocks were spilled: the fresh ones are taken, those in whose place they are are given back, and every other
-- one is as it was.
use Rattle.std.proofs.Common.{◌≡◌, ◌<◌, ◌≤◌, ℕ, ◌+◌, ◌-◌, ◌*◌, ◌/◌, ◌||◌, Bool, true, false, List, [], ◌∷◌, ◌++◌, length, replicate, get_or, refl, sym, ◌∙◌, ap, subst, arith, inl, inr, ⊎_elim, length-append}
use Rattle.std.specs.Prelude.{Contains, if◌then◌else◌}
use Rattle.std.specs.List.{range_with_len}
use Rattle.std.proofs.lemmas.Bool.{cases_lt, true≢false}
use Rattle.std.proofs.lemmas.List.{get_or-append_right, get_or_past}
use Rattle.std.proofs.lemmas.List.Elements.{Contains-append_left, Contains-append_right, Contains-append_cases}
use Rattle.hx_bytes.specs.declared.extents.Extent.{Extent}
use Rattle.flag_rows.specs.Bits.{count_set, has}
use Rattle.flag_rows.specs.Marks.{Fit, is_held, mark_all}
use Rattle.flag_rows.proofs.TakeLaws.{get_or-mark_all, length-mark_all}
use Rattle.fork_map.specs.Blocks.{blocks_of}
use Rattle.alloc_bitmap.specs.Apart.{times}
use Rattle.alloc_bitmap.specs.Map.{BlockMap, free_of}
use Rattle.alloc_bitmap.proofs.ApartLaws.{times_range}
use Rattle.alloc_bitmap.proofs.HoldLaws.{has_range}
use Rattle.alloc_bitmap.proofs.TakeLaws.{picks_chosen}
use Rattle.file_io.specs.Places.{AreUsed, KeepsMap, fresh_of}
use Rattle.sector_disk.specs.Space.{Space}
use Rattle.hfs_volume.specs.Changes.{FlipsBits}
use Rattle.hfs_volume.specs.Content.{is_set, volume_of}
use Rattle.hfs_volume.specs.Data.{AreFresh}
use Rattle.hfs_volume.proofs.Apart.{stands_once}
use Rattle.hfs_volume.proofs.BlockWants.{in_range}
use Rattle.hfs_volume.proofs.Members.{all_of, each_of}
use Rattle.volume_space.specs.Growing.{with_run}
use Rattle.volume_base.specs.Lists.{bits_on}
use Rattle.volume_base.specs.Standing.{IsSettled, IsStanding}
use Rattle.volume_base.specs.declared.volume.Volume.{Volume}
use Rattle.volume_space.proofs.GrownFree.{run_clear, run_inside}
use Rattle.volume_base.proofs.Mapped.{kept_bit}
use Rattle.volume_space.proofs.Spilled.{clear, fresh_free, takes_one}

-- ---- blocks of extents

pub held_of : (es : List Extent) (k : ℕ) → Contains (blocks_of es) k → is_held es k ≡ true
held_of [] k there = absurd (omega (arith, there.1))
held_of (e ∷ es) k there = elim (has e k) as (λ b. has e k ≡ b → (b || is_held es k) ≡ true) [
  | true ↦ λ (is : has e k ≡ true). refl
  | false ↦ λ (is : has e k ≡ false). ⊎_elim
      (λ (front : Contains (range_with_len e.start e.count) k).
      let none : times k (range_with_len e.start e.count) ≡ 0 = times_range e k ∙ ap (λ b. if b then 1 else 0) is in
      absurd (omega (arith, none, stands_once k (range_with_len e.start e.count) front)))
      (λ (later : Contains (blocks_of es) k). held_of es k later)
      (Contains-append_cases (range_with_len e.start e.count) (blocks_of es) k there)
] refl

pub held_is : (es : List Extent) (k : ℕ) → is_held es k ≡ true → Contains (blocks_of es) k
held_is [] k h = absurd (let no : false ≡ true = h in cc no)
held_is (e ∷ es) k h = elim (has e k) as (λ b. has e k ≡ b → Contains (blocks_of (e ∷ es)) k) [
  | true ↦ λ (is : has e k ≡ true). Contains-append_left (range_with_len e.start e.count) (blocks_of es) k (let range = has_range e k is in in_range e.start e.count k range.0 range.1)
  | false ↦ λ (is : has e k ≡ false). Contains-append_right (range_with_len e.start e.count) (blocks_of es) k (held_is es k (let later : is_held es k ≡ true = rw is at h in later))
] refl

pub not_held : (es : List Extent) (k : ℕ) → (Contains (blocks_of es) k → ⊥) → is_held es k ≡ false
not_held es k none = clear (is_held es k) (λ is. none (held_is es k is))

-- a flag that is set is there
is_inside : (xs : List Bool) (k : ℕ) → get_or xs k false ≡ true → k < length xs
is_inside xs k is = ⊎_elim (λ low. low) (λ past. absurd (true≢false (sym is ∙ get_or_past xs k false past))) (cases_lt k (length xs))

-- ---- flags of which some are set, and then some are cleared

flipped : (used : List Bool) (fresh old : List Extent) → Fit (length used) fresh → Fit (length used) old → (k : ℕ) (d : Bool) → get_or (mark_all (mark_all used fresh true) old false) k d ≡ (if is_held old k then false else if is_held fresh k then true else get_or used k d)
flipped used fresh old fit fit_old k d =
    get_or-mark_all (mark_all used fresh true) old false k d (subst (λ n. Fit n old) (sym (length-mark_all used fresh true fit)) fit_old) ∙ ap (λ b. if is_held old k then false else b) (get_or-mark_all used fresh true k d fit)

module _ (v : Volume) (a : Space) (was : IsStanding v a) (settled : IsSettled v a.content) (n : ℕ) (enough : n ≤ count_set (free_of v.map)) where
  abbrev fresh : List Extent
  fresh = fresh_of v.map n

  -- the blocks that are taken are fresh
  pub fresh_are : AreFresh (volume_of a.content) (blocks_of (fresh_of v.map n))
  fresh_are = record {
    inside = all_of (λ block. block < (volume_of a.content).head.total_blocks) (blocks_of (fresh_of v.map n)) (λ block there.
        let free = fresh_free v.map n enough block there in run_inside v a was settled 1 (record { start = block; count = 1 }) (with_run (record { start = block; count = 1 }) v.map) (takes_one v.map block free.0 free.1) block (omega arith) (omega arith));
    free = all_of (λ block. is_set (volume_of a.content) block ≡ false) (blocks_of (fresh_of v.map n)) (λ block there.
        let free = fresh_free v.map n enough block there in run_clear v a was settled 1 (record { start = block; count = 1 }) (with_run (record { start = block; count = 1 }) v.map) (takes_one v.map block free.0 free.1) block (omega arith) (omega arith));
    once = (picks_chosen (free_of v.map) n enough).apart;
  }

  module _ (old : List Extent) (fit : Fit (length v.map.used) (fresh_of v.map n)) (fit_old : Fit (length v.map.used) old) (used : AreUsed v.map (blocks_of old)) (later : BlockMap) (keeps : KeepsMap v.map later)
      (now : later.used ≡ mark_all (mark_all v.map.used (fresh_of v.map n) true) old false)
    where
      abbrev w : Volume
      w = record v { map = later }

      bits_were : (volume_of a.content).bits ≡ bits_on v
      bits_were = ap (λ l. l.bits) settled.lists

      used_is : (k : ℕ) → get_or later.used k false ≡ (if is_held old k then false else if is_held (fresh_of v.map n) k then true else get_or v.map.used k false)
      used_is k = ap (λ (l : List Bool). get_or l k false) now ∙ flipped v.map.used (fresh_of v.map n) old fit fit_old k false

      -- a block that is given back was in use, so it isn't a fresh one
      was_used : (k : ℕ) → Contains (blocks_of old) k → get_or v.map.used k false ≡ true
      was_used k there = each_of (λ (block : ℕ). get_or v.map.used block false ≡ true) (blocks_of old) used k there

      not_fresh : (k : ℕ) → Contains (blocks_of old) k → Contains (blocks_of (fresh_of v.map n)) k → ⊥
      not_fresh k there other =
          let free = fresh_free v.map n enough k other in
          true≢false (sym (was_used k there) ∙ sym (kept_bit v k free.0) ∙ ap (λ (l : List Bool). get_or l k false) (sym bits_were) ∙ each_of (λ (block : ℕ). is_set (volume_of a.content) block ≡ false) (blocks_of (fresh_of v.map n)) fresh_are.free k other)

      pub bits_long : length (bits_on (record v { map = later })) ≡ length (volume_of a.content).bits
      bits_long = length-append later.used (replicate (8 * v.header.allocation_fork.logical_size - length later.used) false)
          ∙ (λ i. keeps.used i + length (replicate (8 * v.header.allocation_fork.logical_size - keeps.used i) false))
          ∙ sym (length-append v.map.used (replicate (8 * v.header.allocation_fork.logical_size - length v.map.used) false)) ∙ ap (λ (l : List Bool). length l) (sym bits_were)

      pub bit_same : (k : ℕ) → is_held old k ≡ false → is_held (fresh_of v.map n) k ≡ false → get_or (bits_on (record v { map = later })) k false ≡ get_or (bits_on v) k false
      bit_same k none nor = ⊎_elim
          (λ (low : k < length v.map.used). kept_bit (record v { map = later }) k (omega (arith, low, keeps.used)) ∙ used_is k ∙ (λ i. if none i then false else if nor i then true else get_or v.map.used k false) ∙ sym (kept_bit v k low))
          (λ (high : length v.map.used ≤ k).
          get_or-append_right later.used (replicate (8 * v.header.allocation_fork.logical_size - length later.used) false) (length later.used) k false refl (omega (arith, high, keeps.used))
          ∙ (λ i. get_or (replicate (8 * v.header.allocation_fork.logical_size - keeps.used i) false) (k - keeps.used i) false)
          ∙ sym (get_or-append_right v.map.used (replicate (8 * v.header.allocation_fork.logical_size - length v.map.used) false) (length v.map.used) k false refl high))
          (cases_lt k (length v.map.used))

      -- the bits are those of the content but for these
      pub spilled_flips : FlipsBits (blocks_of (fresh_of v.map n)) (blocks_of old) (volume_of a.content) (record (volume_of a.content) { bits = bits_on (record v { map = later }) })
      spilled_flips = record {
        size = bits_long;
        taken = all_of (λ (block : ℕ). get_or (bits_on (record v { map = later })) block false ≡ true) (blocks_of (fresh_of v.map n)) (λ block there.
            let free = fresh_free v.map n enough block there in
            kept_bit (record v { map = later }) block (omega (arith, free.0, keeps.used)) ∙ used_is block ∙ (λ i. if not_held old block (λ other. not_fresh block other there) i then false else if held_of (fresh_of v.map n) block there i then true else get_or v.map.used block false));
        given = all_of (λ (block : ℕ). get_or (bits_on (record v { map = later })) block false ≡ false) (blocks_of old) (λ block there.
            kept_bit (record v { map = later }) block (omega (arith, is_inside v.map.used block (was_used block there), keeps.used)) ∙ used_is block ∙ (λ i. if held_of old block there i then false else if is_held (fresh_of v.map n) block then true else get_or v.map.used block false));
        others = λ block none nor. bit_same block (not_held old block nor) (not_held (fresh_of v.map n) block none) ∙ ap (λ (l : List Bool). get_or l block false) (sym bits_were);
      }
