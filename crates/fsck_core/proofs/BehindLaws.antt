-- Counting the bits of a fork, sector by sector.
use Rattle.std.proofs.Common.{◌≡◌, ◌<◌, ◌≤◌, ℕ, zero, suc, ◌+◌, ◌-◌, ◌*◌, ◌/◌, ◌%◌, ◌^◌, min, Bool, false, cond, ◌==◌, List, [], replicate, refl, sym, ◌∙◌, ap, arith, ⊎_elim}
use Rattle.std.specs.Prelude.{Option, Some, None, slice_get}
use Rattle.std.specs.List.{count_by, range_with_len}
use Rattle.std.proofs.lemmas.Bool.{cases_lt}
use Rattle.std.specs.Int.{bit_at}
use Rattle.std.proofs.Math.Nat.{zero-div}
use Rattle.std.proofs.lemmas.List.{get_or-replicate}
use Rattle.std.proofs.lemmas.List.Sums.{sum_by-append, sum_by-cons}
use Rattle.std.proofs.lemmas.List.FromFn.{get_or-map-range_with_len}
use Rattle.fork_map.proofs.Ranges.{range-append}
use Rattle.jnl_format.specs.Recovery.{Content, header_of_volume}
use Rattle.flag_rows.specs.Bits.{bit_of}
use Rattle.hfs_volume.specs.Broken.{bits_behind}
use Rattle.hfs_volume.specs.Content.{volume_of, is_set, bit_in, bit_of_sector, bitmap_sectors, block_limit, overflow_of_content}
use Rattle.hx_bytes.specs.declared.extents.Extent.{Extent}
use Rattle.volume_header.specs.declared.header.VolumeHeader.{VolumeHeader}
use Rattle.fork_map.specs.Blocks.{fork_sectors}
use Rattle.hfs_volume.specs.Records.{Overflow}
use Rattle.hfs_volume.specs.Forks.{extents_of, allocation_id, data_kind, per_block_of}
use Rattle.fsck_scan.specs.Read.{sector_or_zeros}
use Rattle.fsck_core.specs.Behind.{fork_bit, set_between, reached}

-- a bit of zeros is clear
pub no_bit : (k : ℕ) → k < 4096 → bit_of (replicate 512 0) k ≡ false
unfolding bit_of
no_bit k less = ap (λ b. bit_at b (7 - k % 8) == 1) (get_or-replicate {A = ℕ} 512 (k / 8) 0 0 (omega (arith, less))) ∙ zero_bit (7 - k % 8)
  where
    zero_bit : (n : ℕ) → (bit_at 0 n == 1) ≡ false
    zero_bit n = ap (λ q. q % 2 == 1) (zero-div (2 ^ n))

-- two tests that agree on two stretches count the same
pub same_on : (p q : ℕ → Bool) (a c n : ℕ) → ((i : ℕ) → i < n → p (a + i) ≡ q (c + i)) → count_by p (range_with_len a n) ≡ count_by q (range_with_len c n)
same_on p q a c zero same = refl
same_on p q a c (suc n) same =
    sum_by-cons (λ k. cond (p k) 1 0) a (range_with_len (a + 1) n)
    ∙ (λ i. cond (first i) 1 0 + same_on p q (a + 1) (c + 1) n later i)
    ∙ sym (sum_by-cons (λ k. cond (q k) 1 0) c (range_with_len (c + 1) n))
  where
    first : p a ≡ q c
    first = let left : a + 0 ≡ a = omega arith in let right : c + 0 ≡ c = omega arith in ap p (sym left) ∙ same 0 (omega arith) ∙ ap q right

    later : (i : ℕ) → i < n → p (a + 1 + i) ≡ q (c + 1 + i)
    later i less =
        let left : a + suc i ≡ a + 1 + i = omega arith in
        let right : c + suc i ≡ c + 1 + i = omega arith in
        ap p (sym left) ∙ same (suc i) (omega (arith, less)) ∙ ap q right

-- none is counted where none passes
pub none_on : (p : ℕ → Bool) (a n : ℕ) → ((i : ℕ) → i < n → p (a + i) ≡ false) → count_by p (range_with_len a n) ≡ 0
none_on p a zero none = refl
none_on p a (suc n) none =
    sum_by-cons (λ k. cond (p k) 1 0) a (range_with_len (a + 1) n) ∙ (λ i. cond (first i) 1 0 + none_on p (a + 1) n later i)
  where
    first : p a ≡ false
    first = let left : a + 0 ≡ a = omega arith in ap p (sym left) ∙ none 0 (omega arith)

    later : (i : ℕ) → i < n → p (a + 1 + i) ≡ false
    later i less = let left : a + suc i ≡ a + 1 + i = omega arith in ap p (sym left) ∙ none (suc i) (omega (arith, less))

pub split_count : (p : ℕ → Bool) (a m n : ℕ) → count_by p (range_with_len a (m + n)) ≡ count_by p (range_with_len a m) + count_by p (range_with_len (a + m) n)
split_count p a m n = ap (count_by p) (range-append a m n) ∙ sum_by-append (λ k. cond (p k) 1 0) (range_with_len a m) (range_with_len (a + m) n)

-- one bit more
pub bit_more : (p : ℕ → Bool) (from k old new : ℕ) (b : Bool) → from ≤ k → old ≡ count_by p (range_with_len from (k - from)) → p k ≡ b → new ≡ old + cond b 1 0 → new ≡ count_by p (range_with_len from (k + 1 - from))
bit_more p from k old new b low was bit is =
    let n : ℕ = k - from in
    let next : n + 1 ≡ k + 1 - from = omega (arith, low) in
    let here : from + n ≡ k = omega (arith, low) in
    let last : count_by p (range_with_len (from + n) 1) ≡ cond b 1 0 = sum_by-cons (λ x. cond (p x) 1 0) (from + n) [] ∙ ap (λ x. cond (p x) 1 0 + 0) here ∙ ap (λ c. cond c 1 0 + 0) bit ∙ omega arith in
    is ∙ (λ i. was i + sym last i) ∙ sym (split_count p from n 1) ∙ ap (λ m. count_by p (range_with_len from m)) next

-- a sector more of those from a place on
pub sector_more : (p : ℕ → Bool) (total end at from to : ℕ) → at * 4096 < end → total / 4096 ≤ at → from ≡ total - at * 4096 → to ≡ min (end - at * 4096) 4096
    → count_by p (range_with_len total (reached total end (at + 1) - total)) ≡ count_by p (range_with_len total (reached total end at - total)) + count_by p (range_with_len (at * 4096 + from) (to - from))
sector_more p total end at from to inside first from_is to_is = ⊎_elim
    (λ (past : end < total).
    let new : reached total end (at + 1) - total ≡ 0 = omega (arith, past) in
    let old : reached total end at - total ≡ 0 = omega (arith, past) in
    let none : to - from ≡ 0 = omega (arith, past, from_is, to_is) in
    ap (λ n. count_by p (range_with_len total n)) new ∙ (λ i. count_by p (range_with_len total (sym old i)) + count_by p (range_with_len (at * 4096 + from) (sym none i))))
    (λ (within : total ≤ end).
    let m : ℕ = reached total end at - total in
    let start : total + m ≡ at * 4096 + from = omega (arith, within, inside, from_is) in
    let whole : reached total end (at + 1) - total ≡ m + (to - from) = omega (arith, within, inside, first, from_is, to_is) in
    ap (λ n. count_by p (range_with_len total n)) whole ∙ split_count p total m (to - from) ∙ ap (λ a. count_by p (range_with_len total m) + count_by p (range_with_len a (to - from))) start)
    (cases_lt end total)

module _ (content : Content) (limit : ℕ) (sectors : List ℕ) where
  -- the bits of a sector of the fork
  pub sector_bits : (at from n : ℕ) (sector : List ℕ) → from + n ≤ 4096 → sector ≡ sector_or_zeros content limit (slice_get sectors at)
      → count_by (fork_bit content limit sectors) (range_with_len (at * 4096 + from) n) ≡ count_by (bit_of sector) (range_with_len from n)
  unfolding fork_bit
  sector_bits at from n sector fits is = same_on (fork_bit content limit sectors) (bit_of sector) (at * 4096 + from) from n (λ i less.
      let place : (at * 4096 + from + i) / 4096 ≡ at = omega (arith, less, fits) in
      let rest : (at * 4096 + from + i) % 4096 ≡ from + i = omega (arith, less, fits) in
      (λ j. bit_of (sector_or_zeros content limit (slice_get sectors (place j))) (rest j)) ∙ ap (λ b. bit_of b (from + i)) (sym is))

-- at the end, all bits were looked at
pub reached_all : (total size at : ℕ) → (size + 511) / 512 ≤ at → reached total (8 * size) at - total ≡ 8 * size - total
reached_all total size at whole = omega (arith, whole)

-- nothing was looked at before the first
pub reached_none : (total end : ℕ) → reached total end (total / 4096) - total ≡ 0
reached_none total end = omega arith

-- the bits of the allocation file are those of its fork
pub bits_are : (content : Content) → bits_behind (volume_of content) ≡ set_between content (block_limit content) (bitmap_sectors content) (header_of_volume content).total_blocks (8 * (header_of_volume content).allocation_fork.logical_size)
unfolding volume_of fork_bit bit_in bit_of_sector
bits_are content = same_on (is_set (volume_of content)) (fork_bit content (block_limit content) (bitmap_sectors content)) total total (end - total) (λ i less. set_is (total + i) (omega (arith, less)) ∙ by (total + i) (slice_get (bitmap_sectors content) ((total + i) / 4096)) refl)
  where
    total : ℕ
    total = (header_of_volume content).total_blocks

    end : ℕ
    end = 8 * (header_of_volume content).allocation_fork.logical_size

    set_is : (k : ℕ) → k < end → is_set (volume_of content) k ≡ bit_in content (bitmap_sectors content) k
    set_is k less = get_or-map-range_with_len (bit_in content (bitmap_sectors content)) 0 end k k false less (omega arith)

    by : (k : ℕ) (o : Option ℕ) → slice_get (bitmap_sectors content) (k / 4096) ≡ o → bit_of_sector content (k % 4096) o ≡ bit_of (sector_or_zeros content (block_limit content) o) (k % 4096)
    by k None is = sym (no_bit (k % 4096) (omega arith))
    by k (Some at) is = refl

-- a count up to the largest number, with more
pub saturated : (all more old new most : ℕ) → old ≡ min all most → new ≡ min (old + more) most → new ≡ min (all + more) most
saturated all more old new most was is = omega (arith, was, is)

-- the count of a fork with the allocation file's extents is that of the volume
pub behind_is : (content : Content) (head : VolumeHeader) (overflow : List Overflow) (extents : List Extent) (limit per_block count : ℕ) → head ≡ header_of_volume content → overflow ≡ overflow_of_content content
    → extents ≡ extents_of overflow allocation_id data_kind head.allocation_fork → per_block ≡ head.block_size / 512 → limit ≡ head.total_blocks * per_block
    → count ≡ min (set_between content limit (fork_sectors extents per_block) head.total_blocks (8 * head.allocation_fork.logical_size)) (2 ^ 64 - 1)
    → count ≡ min (bits_behind (volume_of content)) (2 ^ 64 - 1)
behind_is content head overflow extents limit per_block count head_is overflow_is extents_are per_is limit_is is =
    let there : extents ≡ extents_of (overflow_of_content content) allocation_id data_kind (header_of_volume content).allocation_fork = extents_are ∙ (λ i. extents_of (overflow_is i) allocation_id data_kind (head_is i).allocation_fork) in
    let per : per_block ≡ per_block_of (header_of_volume content) = per_is ∙ ap (λ (h : VolumeHeader). h.block_size / 512) head_is in
    let limits : limit ≡ block_limit content = limit_is ∙ (λ i. (head_is i).total_blocks * per i) in
    is ∙ ap (λ n. min n (2 ^ 64 - 1)) ((λ i. set_between content (limits i) (fork_sectors (there i) (per i)) (head_is i).total_blocks (8 * (head_is i).allocation_fork.logical_size)) ∙ sym (bits_are content))
