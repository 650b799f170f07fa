-- The bits of a volume and those that its bitmap's file has; and how many sectors of it a run of blocks changes.
use Rattle.std.proofs.Common.{◌≡◌, ◌<◌, ◌≤◌, ℕ, zero, suc, ◌+◌, ◌-◌, ◌*◌, ◌/◌, ◌%◌, min, Bool, true, false, List, [], ◌∷◌, ◌++◌, length, get_or, take, drop, replicate, refl, sym, ◌∙◌, ap, subst, arith, cond, ext_get_or, ⊎_elim, length-append}
use Rattle.std.specs.Prelude.{Contains, Option, None, Some, slice_get, if◌then◌else◌}
use Rattle.std.specs.List.{range_with_len}
use Rattle.std.proofs.lemmas.Bool.{true≢false}
use Rattle.std.proofs.lemmas.Bool.Decides.{eqb_tells}
use Rattle.std.proofs.lemmas.List.{get_or-map, length-map, length-replicate}
use Rattle.std.proofs.lemmas.List.FromFn.{length-range_with_len, get_or-range_with_len}
use Rattle.std.proofs.lemmas.List.Sums.{count_by-le-length, sum_by-append, sum_by-cons}
use Rattle.std.proofs.lemmas.Option.{slice_get_within, get_or_from_slice_get}
use Rattle.hx_bytes.specs.declared.extents.Extent.{Extent}
use Rattle.jnl_format.specs.Recovery.{header_of_volume}
use Rattle.volume_header.specs.declared.header.VolumeHeader.{VolumeHeader}
use Rattle.flag_rows.specs.Bits.{bit_of, count_set, has, mark, sectors_for}
use Rattle.flag_rows.proofs.ByteLaws.{bit_past}
use Rattle.flag_rows.proofs.RowLaws.{get_or-mark, length-mark}
use Rattle.alloc_bitmap.specs.Fork.{changed_of, fork_bit, sector_or_none}
use Rattle.alloc_bitmap.specs.Map.{BlockMap, none, touched_by}
use Rattle.alloc_bitmap.proofs.HoldLaws.{has_in, has_range}
use Rattle.sector_disk.specs.Lists.{Content, sector}
use Rattle.sector_disk.specs.Space.{Space}
use Rattle.hfs_volume.specs.Content.{bit_in, bit_of_sector, block_limit}
use Rattle.hfs_volume.specs.Forks.{per_block_of}
use Rattle.std.proofs.lemmas.List.Elements.{Contains-append_right}
use Rattle.btree_file.specs.State.{sectors_of_tree}
use Rattle.volume_space.specs.Growing.{TakesRun}
use Rattle.volume_base.specs.Lists.{bits_on}
use Rattle.volume_base.specs.Mapping.{HoldsMap}
use Rattle.volume_base.specs.Standing.{IsStanding, attribute_sectors, map_sectors}
use Rattle.volume_base.specs.declared.volume.Volume.{Volume}
use Rattle.volume_base.proofs.Bridging.{whole_sector}
use Rattle.volume_base.proofs.Resettling.{bits_at}

-- ---- bits that are read

module _ (volume : Volume) (space : Space) (stands : IsStanding volume space) (headed : header_of_volume space.content ≡ volume.header) (fits : length volume.map.used ≤ 8 * volume.header.allocation_fork.logical_size) where
  in_limit : (at : ℕ) → Contains (map_sectors volume) at → (at < block_limit space.content) × (length (sector space.content at) ≡ 512)
  in_limit at has =
      let low = stands.inside at (Contains-append_right (sectors_of_tree volume.extents.file) (sectors_of_tree volume.catalog.file ++ (attribute_sectors volume ++ map_sectors volume)) at
      (Contains-append_right (sectors_of_tree volume.catalog.file) (attribute_sectors volume ++ map_sectors volume) at (Contains-append_right (attribute_sectors volume) (map_sectors volume) at has))) in
      (subst (λ (h : VolumeHeader). at < h.total_blocks * per_block_of h) (sym headed) low, stands.whole at (omega (arith, low, stands.fit)))

  bit_read : (k : ℕ) → bit_in space.content (map_sectors volume) k ≡ fork_bit space.content (map_sectors volume) k
  unfolding bit_in bit_of_sector
  bit_read k = by (slice_get (map_sectors volume) (k / 4096)) refl
    where
      by : (o : Option ℕ) → slice_get (map_sectors volume) (k / 4096) ≡ o → bit_of_sector space.content (k % 4096) o ≡ bit_of (sector_or_none space.content o) (k % 4096)
      by None found = sym (bit_past [] (k % 4096) (omega arith))
      by (Some at) found =
          let there = in_limit at (k / 4096, slice_get_within (map_sectors volume) (k / 4096) at found, get_or_from_slice_get (map_sectors volume) (k / 4096) at at found) in
          ap (λ (s : List ℕ). bit_of s (k % 4096)) (whole_sector space.content (block_limit space.content) at there.0 there.1)

  many : length (bits_at space.content volume) ≡ 8 * volume.header.allocation_fork.logical_size
  many = length-map (range_with_len 0 (8 * volume.header.allocation_fork.logical_size)) (bit_in space.content (map_sectors volume)) ∙ length-range_with_len 0 (8 * volume.header.allocation_fork.logical_size)

  many_on : length (bits_on volume) ≡ 8 * volume.header.allocation_fork.logical_size
  many_on = omega (arith, fits, length-append volume.map.used (replicate (8 * volume.header.allocation_fork.logical_size - length volume.map.used) false), length-replicate (8 * volume.header.allocation_fork.logical_size - length volume.map.used) false)

  bit_there : (k : ℕ) → k < 8 * volume.header.allocation_fork.logical_size → get_or (bits_at space.content volume) k false ≡ fork_bit space.content (map_sectors volume) k
  bit_there k low =
      get_or-map (bit_in space.content (map_sectors volume)) (range_with_len 0 (8 * volume.header.allocation_fork.logical_size)) k 0 false (omega (arith, low, length-range_with_len 0 (8 * volume.header.allocation_fork.logical_size)))
      ∙ ap (bit_in space.content (map_sectors volume)) (get_or-range_with_len 0 (8 * volume.header.allocation_fork.logical_size) k 0 low ∙ omega arith) ∙ bit_read k

  -- a bitmap that is held is what is read, and the other way round
  pub bits_read : HoldsMap volume space.content → bits_at space.content volume ≡ bits_on volume
  bits_read holds = ext_get_or false (bits_at space.content volume) (bits_on volume) (many ∙ sym many_on) (λ k low. bit_there k (omega (arith, low, many)) ∙ holds k (omega (arith, low, many, many_on)))

  pub bits_hold : bits_at space.content volume ≡ bits_on volume → HoldsMap volume space.content
  bits_hold same k low = sym (bit_there k (omega (arith, low, many_on))) ∙ ap (λ (l : List Bool). get_or l k false) same

-- a bit is the same where the sectors of the bitmap are
pub bit_elsewhere : (sectors : List ℕ) (a b : Content) → ((s : ℕ) → Contains sectors s → sector b s ≡ sector a s) → (k : ℕ) → fork_bit b sectors k ≡ fork_bit a sectors k
bit_elsewhere sectors a b same k = by (slice_get sectors (k / 4096)) refl
  where
    by : (o : Option ℕ) → slice_get sectors (k / 4096) ≡ o → bit_of (sector_or_none b o) (k % 4096) ≡ bit_of (sector_or_none a o) (k % 4096)
    by None found = refl
    by (Some at) found = ap (λ (s : List ℕ). bit_of s (k % 4096)) (same at (k / 4096, slice_get_within sectors (k / 4096) at found, get_or_from_slice_get sectors (k / 4096) at at found))

-- ---- the sectors that a run changes

pub touched_fits : (n : ℕ) (e : Extent) → e.start + e.count ≤ n * 4096 → (touched_by e).start + (touched_by e).count ≤ n
touched_fits n e fits = ⊎_elim
    (λ none. rw none.0 (omega (arith, fits)))
    (λ some. rw some.0 (omega (arith, fits)))
    (eqb_tells e.count 0)

pub touched_has : (e : Extent) (k : ℕ) → e.start ≤ k → k < e.start + e.count → has (touched_by e) (k / 4096) ≡ true
touched_has e k from to = ⊎_elim
    (λ none. absurd (omega (arith, from, to, none.1)))
    (λ some. has_in (touched_by e) (k / 4096) (omega (arith, from)) (rw some.0 (omega (arith, to, from))))
    (eqb_tells e.count 0)

-- how many flags are set
pub set_of : (flags : List Bool) → count_set flags ≤ length flags
set_of flags = count_by-le-length (λ (flag : Bool). flag) flags

set_cons : (x : Bool) (xs : List Bool) → count_set (x ∷ xs) ≡ cond x 1 0 + count_set xs
set_cons x xs = sum_by-cons (λ (flag : Bool). cond flag 1 0) x xs

set_append : (xs ys : List Bool) → count_set (xs ++ ys) ≡ count_set xs + count_set ys
set_append xs ys = sum_by-append (λ (flag : Bool). cond flag 1 0) xs ys

pub none_set : (n : ℕ) → count_set (none n) ≡ 0
none_set zero = refl
none_set (suc n) = omega (arith, set_cons false (none n), none_set n)

front_none : (s n : ℕ) → count_set (take s (none n)) ≡ 0
front_none zero n = refl
front_none (suc s) zero = refl
front_none (suc s) (suc n) = omega (arith, set_cons false (take s (none n)), front_none s n)

back_none : (s n : ℕ) → count_set (drop s (none n)) ≡ 0
back_none zero n = none_set n
back_none (suc s) zero = refl
back_none (suc s) (suc n) = back_none s n

pub marked_set : (n : ℕ) (e : Extent) → count_set (mark (none n) e true) ≤ e.count
marked_set n e = omega (
  arith,
  set_append (take e.start (none n)) (replicate e.count true ++ drop (e.start + e.count) (none n)),
  set_append (replicate e.count true) (drop (e.start + e.count) (none n)),
  front_none e.start n,
  back_none (e.start + e.count) n,
  set_of (replicate e.count true),
  length-replicate e.count true,
)

take_none : (k : ℕ) → take k (let none_left : List Bool = [] in none_left) ≡ []
take_none zero = refl
take_none (suc k) = refl

drop_none : (k : ℕ) → drop k (let none_left : List Bool = [] in none_left) ≡ []
drop_none zero = refl
drop_none (suc k) = refl

split_set : (flags : List Bool) (s n : ℕ) → count_set (take s flags) + count_set (drop (s + n) flags) ≤ count_set flags
split_set [] s n = omega (arith, ap (λ (l : List Bool). count_set l) (take_none s), ap (λ (l : List Bool). count_set l) (drop_none (s + n)))
split_set (x ∷ xs) zero zero = omega arith
split_set (x ∷ xs) zero (suc n) = omega (arith, split_set xs 0 n, set_cons x xs, ap (λ k. count_set (drop k xs)) (let z : 0 + n ≡ n = omega arith in z), ap (λ k. count_set (drop k (x ∷ xs))) (let z : 0 + suc n ≡ suc n = omega arith in z))
split_set (x ∷ xs) (suc s) n = omega (arith, split_set xs s n, set_cons x xs, set_cons x (take s xs), ap (λ k. count_set (drop k (x ∷ xs))) (let z : suc s + n ≡ suc (s + n) = omega arith in z))

pub marked_more : (flags : List Bool) (e : Extent) → count_set (mark flags e true) ≤ count_set flags + e.count
marked_more flags e = omega (
  arith,
  set_append (take e.start flags) (replicate e.count true ++ drop (e.start + e.count) flags),
  set_append (replicate e.count true) (drop (e.start + e.count) flags),
  split_set flags e.start e.count,
  set_of (replicate e.count true),
  length-replicate e.count true,
)

pub few_changed : (xs : List ℕ) (flags : List Bool) → length (changed_of xs flags) ≤ count_set flags
few_changed [] flags = omega arith
few_changed (x ∷ xs) [] = omega arith
few_changed (x ∷ xs) (true ∷ flags) = omega (arith, few_changed xs flags, set_cons true flags)
few_changed (x ∷ xs) (false ∷ flags) = omega (arith, few_changed xs flags, set_cons false flags)

pub touched_few : (e : Extent) → (touched_by e).count ≤ e.count / 4096 + 2
touched_few e = ⊎_elim
    (λ none. rw none.0 (omega arith))
    (λ some. rw some.0 (omega arith))
    (eqb_tells e.count 0)

module _ (count : ℕ) (run : Extent) (old new : BlockMap) (takes : TakesRun count run old new) (unchanged : old.changed ≡ none (sectors_for (length old.used))) where
  changed_is : new.changed ≡ mark (none (sectors_for (length old.used))) (touched_by run) true
  changed_is = ap (λ (m : BlockMap). m.changed) takes.taken ∙ ap (λ (l : List Bool). mark l (touched_by run) true) unchanged

  inside : (touched_by run).start + (touched_by run).count ≤ length (none (sectors_for (length old.used)))
  inside = subst (λ n. (touched_by run).start + (touched_by run).count ≤ n) (sym (length-replicate (sectors_for (length old.used)) false)) (touched_fits (sectors_for (length old.used)) run (omega (arith, takes.inside)))

  pub marked_long : length new.changed ≡ sectors_for (length old.used)
  marked_long = ap (λ (l : List Bool). length l) changed_is ∙ length-mark (none (sectors_for (length old.used))) (touched_by run) true inside ∙ length-replicate (sectors_for (length old.used)) false

  -- a sector that wasn't changed has no bit of the run
  pub unchanged_has : (k : ℕ) → get_or new.changed (k / 4096) false ≡ false → has run k ≡ false
  unchanged_has k same = by (has run k) refl
    where
      by : (b : Bool) → has run k ≡ b → has run k ≡ false
      by false is = is
      by true is =
          let range = has_range run k is in
          absurd (true≢false (sym (ap (λ (l : List Bool). get_or l (k / 4096) false) changed_is ∙ get_or-mark (none (sectors_for (length old.used))) (touched_by run) true (k / 4096) false inside
          ∙ ap (λ b. if b then true else get_or (none (sectors_for (length old.used))) (k / 4096) false) (touched_has run k range.0 range.1)) ∙ same))

  -- how many of its file's sectors they are
  pub map_few : (xs : List ℕ) → length (changed_of xs new.changed) ≤ min (sectors_for (length old.used)) (run.count / 4096 + 2)
  map_few xs = omega (
    arith,
    few_changed xs new.changed,
    set_of new.changed,
    marked_long,
    ap (λ (l : List Bool). count_set l) changed_is,
    marked_set (sectors_for (length old.used)) (touched_by run),
    touched_few run,
  )
