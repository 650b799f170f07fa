-- The bits of an extent's blocks by the numbers of those that are set before blocks of the volume.
use Rattle.std.proofs.Common.{◌≡◌, ◌<◌, ◌≤◌, ℕ, ◌+◌, ◌-◌, ◌*◌, ◌/◌, ◌%◌, ◌^◌, min, max, Bool, List, [], ◌∷◌, ◌++◌, length, take, get_or, refl, sym, ◌∙◌, ap, subst, arith, ⊎_elim}
use Rattle.std.specs.Prelude.{Some, option_map, slice_get}
use Rattle.std.specs.List.{count_by, range_with_len}
use Rattle.std.proofs.lemmas.Bool.{cases_lt}
use Rattle.std.proofs.lemmas.List.Sums.{count_by-le-length}
use Rattle.std.proofs.lemmas.List.FromFn.{length-range_with_len}
use Rattle.std.proofs.lemmas.List.{get_or_append_left, length-append}
use Rattle.std.proofs.Math.Seq.{get_or-append_seam}
use Rattle.std.proofs.lemmas.Nat.{div-add-mod', mul-le}
use Rattle.std.proofs.Math.Nat.{mul-add-div_right, mul-add-mod_self_right, div-eq_of_lt, mod-eq_of_lt, mod-lt, div-lt_iff_lt-mul, mul-le-mul_right, add-mul}
use Rattle.hx_bytes.specs.declared.extents.Extent.{Extent}
use Rattle.jnl_format.specs.Recovery.{Content}
use Rattle.flag_rows.specs.Bits.{bit_of}
use Rattle.fork_map.specs.Blocks.{blocks_of, fork_sectors}
use Rattle.fork_map.proofs.Laws.{sector_at_place}
use Rattle.fork_map.proofs.SumLaws.{block_here}
use Rattle.fsck_scan.specs.Read.{sector_or_zeros}
use Rattle.fsck_core.specs.Behind.{fork_bit, set_up_to, reached, all_blocks, set_before, told_before, HasSums, IsWhole, IsExtentAt}
use Rattle.fsck_core.specs.declared.sums.BlockSum.{BlockSum}
use Rattle.fsck_core.proofs.BehindLaws.{same_on, split_count, saturated}

abbrev none : Extent
none = record { start = 0; count = 0 }

-- the sector of a block of an extent, by its place in the fork
sector_here : (es : List Extent) (i per before k j : ℕ) → 0 < per → i < length es → before ≡ length (blocks_of (take i es)) → k < (get_or es i none).count → j < per
    → slice_get (fork_sectors es per) ((before + k) * per + j) ≡ Some (((get_or es i none).start + k) * per + j)
sector_here es i per before k j some inside before_is few less =
    let whole : ((before + k) * per + j) / per ≡ before + k = mul-add-div_right some (before + k) j ∙ ap (λ n. before + k + n) (div-eq_of_lt less) ∙ omega arith in
    let rest : ((before + k) * per + j) % per ≡ j = mul-add-mod_self_right (before + k) per j ∙ mod-eq_of_lt less in
    let low : length (blocks_of (take i es)) ≤ before + k = omega (arith, before_is) in
    let high : before + k < length (blocks_of (take i es)) + (get_or es i none).count = omega (arith, before_is, few) in
    let block : (get_or es i none).start + (before + k - length (blocks_of (take i es))) ≡ (get_or es i none).start + k = omega (arith, before_is) in
    sector_at_place per (blocks_of es) ((before + k) * per + j) some
    ∙ (λ a. option_map (λ b. b * per + rest a) (slice_get (blocks_of es) (whole a)))
    ∙ ap (option_map (λ b. b * per + j)) (block_here es i (before + k) none inside low high ∙ ap (λ (n : ℕ). Some n) block)

-- a place behind a whole number of blocks
place_in : (per m n : ℕ) → m * per + n ≡ (m + n / per) * per + n % per
place_in per m n =
    let split : (m + n / per) * per ≡ m * per + n / per * per = add-mul m (n / per) per in
    let rest : n / per * per + n % per ≡ n = div-add-mod' n per in
    omega (arith, split, rest)

-- a sector of a volume
sector_there : (total per k j : ℕ) → 0 < per → k < total → j < per → slice_get (fork_sectors (all_blocks total) per) (k * per + j) ≡ Some (k * per + j)
sector_there total per k j some inside less =
    let none_before : 0 + k ≡ k = omega arith in
    subst (λ m. slice_get (fork_sectors (all_blocks total) per) (m * per + j) ≡ Some (m * per + j)) none_before (sector_here (all_blocks total) 0 per 0 k j some (omega arith) refl inside less)

-- the sectors of an extent are those of the volume from its start on
same_sectors : (es : List Extent) (i per before total n : ℕ) → 0 < per → i < length es → before ≡ length (blocks_of (take i es)) → n / per < (get_or es i none).count → (get_or es i none).start + n / per < total
    → slice_get (fork_sectors es per) (before * per + n) ≡ slice_get (fork_sectors (all_blocks total) per) ((get_or es i none).start * per + n)
same_sectors es i per before total n some inside before_is few there =
    let start : ℕ = (get_or es i none).start in
    ap (slice_get (fork_sectors es per)) (place_in per before n) ∙ sector_here es i per before (n / per) (n % per) some inside before_is few (mod-lt n some)
    ∙ sym (ap (slice_get (fork_sectors (all_blocks total) per)) (place_in per start n) ∙ sector_there total per (start + n / per) (n % per) some there (mod-lt n some))

module _ (content : Content) (limit total per : ℕ) where
  abbrev volume_bit : ℕ → Bool
  volume_bit = fork_bit content limit (fork_sectors (all_blocks total) per)

  -- the bits of an extent's blocks
  same_bits : (es : List Extent) (i before inside : ℕ) → 0 < per → i < length es → before ≡ length (blocks_of (take i es)) → inside ≤ (get_or es i none).count → (get_or es i none).start + inside ≤ total
      → count_by (fork_bit content limit (fork_sectors es per)) (range_with_len (before * per * 4096) (inside * per * 4096)) ≡ count_by volume_bit (range_with_len ((get_or es i none).start * per * 4096) (inside * per * 4096))
  unfolding fork_bit
  same_bits es i before inside some within before_is few there = same_on (fork_bit content limit (fork_sectors es per)) volume_bit (before * per * 4096) ((get_or es i none).start * per * 4096) (inside * per * 4096) (λ k less.
      let start : ℕ = (get_or es i none).start in
      let n : ℕ = k / 4096 in
      let low : n < inside * per = omega (arith, less) in
      let block : n / per < inside = (div-lt_iff_lt-mul some).1 low in
      let place : (before * per * 4096 + k) / 4096 ≡ before * per + n = omega arith in
      let rest : (before * per * 4096 + k) % 4096 ≡ k % 4096 = omega arith in
      let place_there : (start * per * 4096 + k) / 4096 ≡ start * per + n = omega arith in
      let rest_there : (start * per * 4096 + k) % 4096 ≡ k % 4096 = omega arith in
      (λ a. bit_of (sector_or_zeros content limit (slice_get (fork_sectors es per) (place a))) (rest a))
      ∙ ap (λ o. bit_of (sector_or_zeros content limit o) (k % 4096)) (same_sectors es i per before total n some within before_is (omega (arith, block, few)) (omega (arith, block, there)))
      ∙ sym (λ a. bit_of (sector_or_zeros content limit (slice_get (fork_sectors (all_blocks total) per) (place_there a))) (rest_there a)))

  -- the bits before a block of the volume
  before_is : (blocks : ℕ) → blocks ≤ total → set_before content limit total per blocks ≡ count_by volume_bit (range_with_len 0 (blocks * per * 4096))
  before_is blocks few =
      let most : blocks * per ≤ total * per = mul-le-mul_right per few in
      let whole : reached 0 (8 * (total * per * 512)) (blocks * per) - 0 ≡ blocks * per * 4096 = omega (arith, most) in
      ap (λ n. count_by volume_bit (range_with_len 0 n)) whole

  -- they are no more than a number holds
  before_fits : (blocks : ℕ) → blocks ≤ total → total < 2 ^ 32 → per ≤ 128 → min (set_before content limit total per blocks) (2 ^ 64 - 1) ≡ count_by volume_bit (range_with_len 0 (blocks * per * 4096))
  before_fits blocks few small short =
      let most : blocks * per ≤ 2 ^ 32 * 128 = mul-le blocks per (2 ^ 32) 128 (omega (arith, few, small)) short in
      let bits : count_by volume_bit (range_with_len 0 (blocks * per * 4096)) ≤ blocks * per * 4096 = subst (λ n. count_by volume_bit (range_with_len 0 (blocks * per * 4096)) ≤ n) (length-range_with_len 0 (blocks * per * 4096)) (count_by-le-length volume_bit (range_with_len 0 (blocks * per * 4096))) in
      omega (arith, before_is blocks few, bits, most)

  -- the numbers of two blocks tell the bits between them
  between : (start inside : ℕ) → total < 2 ^ 32 → per ≤ 128 → start + inside ≤ total
      → told_before content limit total per (start + inside) - told_before content limit total per start ≡ count_by volume_bit (range_with_len (start * per * 4096) (inside * per * 4096))
  between start inside small short within =
      let end : told_before content limit total per (start + inside) ≡ count_by volume_bit (range_with_len 0 ((start + inside) * per * 4096)) = before_fits (start + inside) within small short in
      let begin : told_before content limit total per start ≡ count_by volume_bit (range_with_len 0 (start * per * 4096)) = before_fits start (omega (arith, within)) small short in
      let split : (start + inside) * per ≡ start * per + inside * per = add-mul start inside per in
      let none_before : 0 + start * per * 4096 ≡ start * per * 4096 = omega arith in
      let long : (start + inside) * per * 4096 ≡ start * per * 4096 + inside * per * 4096 = omega (arith, split) in
      let both : count_by volume_bit (range_with_len 0 ((start + inside) * per * 4096)) ≡ count_by volume_bit (range_with_len 0 (start * per * 4096)) + count_by volume_bit (range_with_len (start * per * 4096) (inside * per * 4096)) =
      ap (λ n. count_by volume_bit (range_with_len 0 n)) long ∙ split_count volume_bit 0 (start * per * 4096) (inside * per * 4096)
      ∙ ap (λ n. count_by volume_bit (range_with_len 0 (start * per * 4096)) + count_by volume_bit (range_with_len n (inside * per * 4096))) none_before in
      omega (arith, end, begin, both)

-- whole sectors more of a fork
sectors_more : (p : ℕ → Bool) (total size at more : ℕ) → total ≤ at * 4096 → (at + more) * 512 ≤ size
    → count_by p (range_with_len total (reached total (8 * size) (at + more) - total)) ≡ count_by p (range_with_len total (reached total (8 * size) at - total)) + count_by p (range_with_len (at * 4096) (more * 4096))
sectors_more p total size at more first last =
    let m : ℕ = reached total (8 * size) at - total in
    let begin : total + m ≡ at * 4096 = omega (arith, first, last) in
    let whole : reached total (8 * size) (at + more) - total ≡ m + more * 4096 = omega (arith, first, last) in
    ap (λ n. count_by p (range_with_len total n)) whole ∙ split_count p total m (more * 4096) ∙ ap (λ a. count_by p (range_with_len total m) + count_by p (range_with_len a (more * 4096))) begin

-- an extent whose blocks are whole sectors is counted by the numbers
pub whole_counted : (content : Content) (limit total per size : ℕ) (es : List Extent) (index start inside front at upto before new : ℕ) → 0 < per → per ≤ 128 → total < 2 ^ 32
    → IsExtentAt es index total start inside front → IsWhole total per size inside front at upto
    → before ≡ min (set_up_to content limit (fork_sectors es per) total (8 * size) at) (2 ^ 64 - 1) → new ≡ min (before + (told_before content limit total per (start + inside) - told_before content limit total per start)) (2 ^ 64 - 1)
    → new ≡ min (set_up_to content limit (fork_sectors es per) total (8 * size) (max at upto)) (2 ^ 64 - 1)
whole_counted content limit total per size es index start inside front at upto before new some short small here whole was is =
    let sectors : List ℕ = fork_sectors es per in
    let bits : ℕ = told_before content limit total per (start + inside) - told_before content limit total per start in
    let split : (front + inside) * per ≡ front * per + inside * per = add-mul front inside per in
    let next : max at upto ≡ at + inside * per = omega (arith, whole.begins, whole.ends, split) in
    let last : (at + inside * per) * 512 ≤ size = omega (arith, whole.last, whole.ends, whole.begins, split) in
    let more = sectors_more (fork_bit content limit sectors) total size at (inside * per) whole.first last in
    let own : count_by (fork_bit content limit sectors) (range_with_len (at * 4096) (inside * per * 4096)) ≡ bits =
    ⊎_elim
    (λ (outside : total < start).
    let empty : inside ≡ 0 = omega (arith, here.inside_is, outside) in
    let same : start + inside ≡ start = omega (arith, empty) in
    ap (λ n. count_by (fork_bit content limit sectors) (range_with_len (at * 4096) n)) (none_long empty) ∙ nothing (told_before content limit total per start)
    ∙ ap (λ n. told_before content limit total per n - told_before content limit total per start) (sym same))
    (λ (within : start ≤ total).
    let few : inside ≤ (get_or es index none).count = omega (arith, here.inside_is) in
    let there : start + inside ≤ total = omega (arith, here.inside_is, within) in
    let there_so : (get_or es index none).start + inside ≤ total = omega (arith, there, here.start_is) in
    ap (λ n. count_by (fork_bit content limit sectors) (range_with_len (n * 4096) (inside * per * 4096))) whole.begins
    ∙ same_bits content limit total per es index front inside some here.within here.front_is few there_so
    ∙ ap (λ n. count_by (volume_bit content limit total per) (range_with_len (n * per * 4096) (inside * per * 4096))) (sym here.start_is)
    ∙ sym (between content limit total per start inside small short there))
    (cases_lt total start) in
    saturated (set_up_to content limit sectors total (8 * size) at) bits before new (2 ^ 64 - 1) was is
    ∙ ap (λ n. min (set_up_to content limit sectors total (8 * size) at + n) (2 ^ 64 - 1)) (sym own)
    ∙ ap (λ n. min n (2 ^ 64 - 1)) (sym more ∙ ap (λ n. set_up_to content limit sectors total (8 * size) n) (sym next))
  where
    nothing : (n : ℕ) → 0 ≡ n - n
    nothing n = omega arith

    none_long : inside ≡ 0 → inside * per * 4096 ≡ 0
    none_long empty = ap (λ n. n * per * 4096) empty ∙ omega arith

-- ---- the numbers, one after the other

pub sums_begin : (content : Content) (limit total per : ℕ) → 0 ≡ told_before content limit total per 0
sums_begin content limit total per =
    let whole : reached 0 (8 * (total * per * 512)) (0 * per) - 0 ≡ 0 = omega arith in
    sym (ap (λ n. min (count_by (volume_bit content limit total per) (range_with_len 0 n)) (2 ^ 64 - 1)) whole)

pub sums_none : (content : Content) (limit total per : ℕ) (sums : List BlockSum) → sums ≡ [] → HasSums content limit total per sums
sums_none content limit total per sums is none i inside = absurd (omega (arith, inside, ap (λ (l : List BlockSum). length l) is))

pub sums_more : (content : Content) (limit total per : ℕ) (sum : BlockSum) (old new : List BlockSum) → new ≡ old ++ sum ∷ [] → HasSums content limit total per old → sum.bits ≡ told_before content limit total per sum.block
    → HasSums content limit total per new
sums_more content limit total per sum old new is has here d i inside = ⊎_elim
    (λ (before : i < length old).
    let same : get_or new i d ≡ get_or old i d = ap (λ (l : List BlockSum). get_or l i d) is ∙ get_or_append_left old (sum ∷ []) d i before in
    subst (λ (s : BlockSum). s.bits ≡ told_before content limit total per s.block) (sym same) (has d i before))
    (λ (last : length old ≤ i).
    let at : i ≡ length old = omega (arith, last, inside, longer) in
    let same : get_or new i d ≡ sum = ap (λ (l : List BlockSum). get_or l i d) is ∙ ap (λ k. get_or (old ++ sum ∷ []) k d) at ∙ get_or-append_seam old sum [] d in
    subst (λ (s : BlockSum). s.bits ≡ told_before content limit total per s.block) (sym same) here)
    (cases_lt i (length old))
  where
    longer : length new ≡ length old + 1
    longer = ap (λ (l : List BlockSum). length l) is ∙ length-append old (sum ∷ [])

-- ---- a number that is found

pub found_sum : (content : Content) (limit total per : ℕ) (sums : List BlockSum) (k block : ℕ) (d : BlockSum) → HasSums content limit total per sums → k < length sums → (get_or sums k d).block ≡ block
    → (get_or sums k d).bits ≡ told_before content limit total per block
found_sum content limit total per sums k block d has inside is = has d k inside ∙ ap (λ n. told_before content limit total per n) is

pub bits_between : (upto before last first bits : ℕ) → bits ≡ upto - before → upto ≡ last → before ≡ first → bits ≡ last - first
bits_between upto before last first bits is last_is first_is = is ∙ (λ i. last_is i - first_is i)

-- the sectors before a block of the volume are some of it
pub ends_inside : (end total per : ℕ) → end ≤ total → end * per ≤ (total * per * 512 + 511) / 512
ends_inside end total per few = let most : end * per ≤ total * per = mul-le-mul_right per few in omega (arith, most)
