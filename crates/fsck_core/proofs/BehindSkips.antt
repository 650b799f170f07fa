-- Sectors of a fork without bits: those of blocks outside the volume, and those past the fork's end.
use Rattle.std.proofs.Common.{◌≡◌, ◌<◌, ◌≤◌, ℕ, ◌+◌, ◌-◌, ◌*◌, ◌/◌, ◌%◌, min, max, Bool, false, List, length, take, get_or, replicate, sym, ◌∙◌, ap, arith, ⊎_elim}
use Rattle.std.specs.Prelude.{Some, option_map, slice_get}
use Rattle.std.specs.List.{count_by, range_with_len}
use Rattle.std.proofs.lemmas.Bool.{cases_lt}
use Rattle.std.proofs.Math.Nat.{le-div_iff_mul-le, div-lt_iff_lt-mul, mul-le-mul_right}
use Rattle.hx_bytes.specs.declared.extents.Extent.{Extent}
use Rattle.jnl_format.specs.Recovery.{Content}
use Rattle.flag_rows.specs.Bits.{bit_of}
use Rattle.fork_map.specs.Blocks.{blocks_of, fork_sectors}
use Rattle.fork_map.proofs.Laws.{sector_at_place}
use Rattle.fork_map.proofs.SumLaws.{block_here, none_behind}
use Rattle.fsck_scan.specs.Read.{sector_or_zeros}
use Rattle.fsck_scan.proofs.Pieces.{none_past}
use Rattle.fsck_core.specs.Behind.{fork_bit, set_between, set_up_to, reached}
use Rattle.fsck_core.proofs.BehindLaws.{no_bit, none_on, split_count, reached_all}

-- nothing is counted in sectors without bits
pub skip : (p : ℕ → Bool) (total end a b : ℕ) → a ≤ b → ((k : ℕ) → a ≤ k / 4096 → k / 4096 < b → k < end → p k ≡ false)
    → count_by p (range_with_len total (reached total end a - total)) ≡ count_by p (range_with_len total (reached total end b - total))
skip p total end a b up clear = ⊎_elim
    (λ (past : end < total).
    let old : reached total end a - total ≡ 0 = omega (arith, past) in
    let new : reached total end b - total ≡ 0 = omega (arith, past) in
    ap (λ n. count_by p (range_with_len total n)) (old ∙ sym new))
    (λ (within : total ≤ end).
    let m : ℕ = reached total end a - total in
    let n : ℕ = reached total end b - (total + m) in
    let whole : reached total end b - total ≡ m + n = omega (arith, within, up) in
    let none : count_by p (range_with_len (total + m) n) ≡ 0 = none_on p (total + m) n (λ i less. clear (total + m + i) (omega (arith, within, less)) (omega (arith, within, less, up)) (omega (arith, within, less))) in
    sym (ap (λ k. count_by p (range_with_len total k)) whole ∙ split_count p total m n ∙ ap (λ k. count_by p (range_with_len total m) + k) none ∙ omega arith))
    (cases_lt end total)

-- a sector of a fork's bytes comes before their end
bit_inside : (k size : ℕ) → k < 8 * size → k / 4096 < (size + 511) / 512
bit_inside k size inside = omega (arith, inside)

past_upto : (all s end upto at : ℕ) → upto ≡ min end all → upto ≤ at → at ≤ s → s < end → all ≤ s
past_upto all s end upto at is low from inside = omega (arith, is, low, from, inside)

before_behind : (all s end behind at : ℕ) → behind ≡ min end all → at ≤ s → s < max at behind → s < all
before_behind all s end behind at is from to = omega (arith, is, from, to)

module _ (content : Content) (limit total per : ℕ) (es : List Extent) (some : 0 < per) (limit_is : limit ≡ total * per) where
  abbrev sectors : List ℕ
  sectors = fork_sectors es per

  -- a sector of a block outside the volume is zeros
  outside : (i s before : ℕ) (d e : Extent) → i < length es → e ≡ get_or es i d → before ≡ length (blocks_of (take i es)) → (before + min e.count (total - e.start)) * per ≤ s → s < (before + e.count) * per
      → sector_or_zeros content limit (slice_get sectors s) ≡ replicate 512 0
  outside i s before d e inside is before_is from to =
      let low : before + min e.count (total - e.start) ≤ s / per = (le-div_iff_mul-le some).1 from in
      let high : s / per < before + e.count = (div-lt_iff_lt-mul some).1 to in
      let counts : e.count ≡ (get_or es i d).count = ap (λ (x : Extent). x.count) is in
      let starts : e.start ≡ (get_or es i d).start = ap (λ (x : Extent). x.start) is in
      let block : ℕ = (get_or es i d).start + (s / per - length (blocks_of (take i es))) in
      let here : slice_get (blocks_of es) (s / per) ≡ Some block = block_here es i (s / per) d inside (omega (arith, low, before_is)) (omega (arith, high, before_is, counts)) in
      let out : total ≤ block = omega (arith, low, high, before_is, counts, starts) in
      let times : total * per ≤ block * per = mul-le-mul_right per out in
      ap (λ o. sector_or_zeros content limit o) (sector_at_place per (blocks_of es) s some ∙ ap (option_map (λ b. b * per + s % per)) here)
      ∙ sym (none_past content limit (block * per + s % per) (omega (arith, limit_is, times)))

  -- past a fork's last block there are zeros
  past : (s : ℕ) → length (blocks_of es) * per ≤ s → sector_or_zeros content limit (slice_get sectors s) ≡ replicate 512 0
  past s from =
      let low : length (blocks_of es) ≤ s / per = (le-div_iff_mul-le some).1 from in
      ap (λ o. sector_or_zeros content limit o) (sector_at_place per (blocks_of es) s some ∙ ap (option_map (λ b. b * per + s % per)) (none_behind es (s / per) low))

  clear : (k : ℕ) → sector_or_zeros content limit (slice_get sectors (k / 4096)) ≡ replicate 512 0 → fork_bit content limit sectors k ≡ false
  unfolding fork_bit
  clear k zeros = ap (λ l. bit_of l (k % 4096)) zeros ∙ no_bit (k % 4096) (omega arith)

  -- behind an extent's blocks in the volume nothing is counted in it
  pub passed : (i before upto behind at size : ℕ) (d e : Extent) → i < length es → e ≡ get_or es i d → before ≡ length (blocks_of (take i es))
      → upto ≡ min ((size + 511) / 512) ((before + min e.count (total - e.start)) * per) → behind ≡ min ((size + 511) / 512) ((before + e.count) * per) → upto ≤ at
      → set_up_to content limit sectors total (8 * size) at ≡ set_up_to content limit sectors total (8 * size) (max at behind)
  passed i before upto behind at size d e within is before_is upto_is behind_is low = skip (fork_bit content limit sectors) total (8 * size) at (max at behind) (omega arith) (λ k from to inside.
      clear k (outside i (k / 4096) before d e within is before_is
      (past_upto ((before + min e.count (total - e.start)) * per) (k / 4096) ((size + 511) / 512) upto at upto_is low from (bit_inside k size inside))
      (before_behind ((before + e.count) * per) (k / 4096) ((size + 511) / 512) behind at behind_is from to)))

  -- behind all extents all bits were counted
  pub all_passed : (before at size : ℕ) → before ≡ length (blocks_of es) → min ((size + 511) / 512) (before * per) ≤ at
      → set_up_to content limit sectors total (8 * size) at ≡ set_between content limit sectors total (8 * size)
  all_passed before at size before_is low =
      let end : ℕ = (size + 511) / 512 in
      skip (fork_bit content limit sectors) total (8 * size) at (max at end) (omega arith) (λ k from to inside.
      clear k (past (k / 4096) (past_upto (length (blocks_of es) * per) (k / 4096) end (min end (before * per)) at (ap (λ n. min end (n * per)) before_is) low from (bit_inside k size inside))))
      ∙ ap (λ n. count_by (fork_bit content limit sectors) (range_with_len total n)) (reached_all total size (max at end) (omega arith))
