-- The allocation file of a repair that is sound: its bits are those that are wanted.
use Rattle.std.proofs.Common.{◌≡◌, ◌<◌, ◌≤◌, ℕ, zero, suc, ◌+◌, ◌-◌, ◌*◌, ◌/◌, ◌%◌, ◌==◌, nat_lt, Bool, true, false, List, [], ◌∷◌, length, map, get_or, ext_get_or, refl, sym, ◌∙◌, ap, subst, arith, if◌then◌else◌}
use Rattle.std.specs.Prelude.{Contains, Some, slice_get, slice_index}
use Rattle.std.specs.List.{range_with_len}
use Rattle.std.specs.Int.{bit_at}
use Rattle.std.proofs.lemmas.List.FromFn.{length-map-range_with_len, get_or-map-range_with_len}
use Rattle.flag_rows.specs.Bits.{bit_of}
use Rattle.jnl_format.specs.Recovery.{Content, sector, header_of_volume}
use Rattle.volume_header.specs.declared.header.VolumeHeader.{VolumeHeader}
use Rattle.hfs_volume.specs.Broken.{bit}
use Rattle.hfs_volume.specs.Forks.{per_block_of}
use Rattle.hfs_volume.specs.Content.{VolumeState, volume_of, bit_in, bit_of_sector, block_sector, bitmap_sectors}
use Rattle.hfs_volume.specs.Sound.{IsSound}
use Rattle.volume_repair.specs.Recount.{is_bit_wanted, bits_recounted}
use Rattle.volume_repair.specs.Repair.{IsMendable, mended, byte_of_bits}
use Rattle.volume_repair.specs.RepairLaws.{HasWholeSectors}
use Rattle.volume_repair.proofs.Typed.{true_below}
use Rattle.volume_repair.proofs.Inside.{blocks_fit, map_below, map_long}
use Rattle.volume_repair.proofs.Mending.{some_sectors, accepted, head_mended, extents_mended, map_is}
use Rattle.volume_repair.proofs.Rereads.{bitmap_sectors_stay}
use Rattle.volume_repair.proofs.Slices.{stands_there, whole_sector}

-- ---- a bit of a byte that is made of bits

bit_small : (b : Bool) → bit b < 2
bit_small true = omega arith
bit_small false = omega arith

as_test : (b : Bool) → (bit b == 1) ≡ b
as_test true = refl
as_test false = refl

-- the number of eight bits has each at its place
eight : (a b c d e f g h : ℕ) → a < 2 → b < 2 → c < 2 → d < 2 → e < 2 → f < 2 → g < 2 → h < 2 → (j : ℕ) → j < 8
    → bit_at (128 * a + 64 * b + 32 * c + 16 * d + 8 * e + 4 * f + 2 * g + h) (7 - j) ≡ get_or (a ∷ b ∷ c ∷ d ∷ e ∷ f ∷ g ∷ h ∷ []) j 0
eight a b c d e f g h a2 b2 c2 d2 e2 f2 g2 h2 zero low = omega (arith, a2, b2, c2, d2, e2, f2, g2, h2)
eight a b c d e f g h a2 b2 c2 d2 e2 f2 g2 h2 (suc zero) low = omega (arith, a2, b2, c2, d2, e2, f2, g2, h2)
eight a b c d e f g h a2 b2 c2 d2 e2 f2 g2 h2 (suc (suc zero)) low = omega (arith, a2, b2, c2, d2, e2, f2, g2, h2)
eight a b c d e f g h a2 b2 c2 d2 e2 f2 g2 h2 (suc (suc (suc zero))) low = omega (arith, a2, b2, c2, d2, e2, f2, g2, h2)
eight a b c d e f g h a2 b2 c2 d2 e2 f2 g2 h2 (suc (suc (suc (suc zero)))) low = omega (arith, a2, b2, c2, d2, e2, f2, g2, h2)
eight a b c d e f g h a2 b2 c2 d2 e2 f2 g2 h2 (suc (suc (suc (suc (suc zero))))) low = omega (arith, a2, b2, c2, d2, e2, f2, g2, h2)
eight a b c d e f g h a2 b2 c2 d2 e2 f2 g2 h2 (suc (suc (suc (suc (suc (suc zero)))))) low = omega (arith, a2, b2, c2, d2, e2, f2, g2, h2)
eight a b c d e f g h a2 b2 c2 d2 e2 f2 g2 h2 (suc (suc (suc (suc (suc (suc (suc zero))))))) low = omega (arith, a2, b2, c2, d2, e2, f2, g2, h2)
eight a b c d e f g h a2 b2 c2 d2 e2 f2 g2 h2 (suc (suc (suc (suc (suc (suc (suc (suc j)))))))) low = absurd (omega (arith, low))

module _ (is_set : ℕ → Bool) (i : ℕ) where
  abbrev eight_bits : List ℕ
  eight_bits = bit (is_set (8 * i)) ∷ bit (is_set (8 * i + 1)) ∷ bit (is_set (8 * i + 2)) ∷ bit (is_set (8 * i + 3)) ∷ bit (is_set (8 * i + 4)) ∷ bit (is_set (8 * i + 5)) ∷ bit (is_set (8 * i + 6)) ∷ bit (is_set (8 * i + 7)) ∷ []

  pick : (j : ℕ) → j < 8 → get_or eight_bits j 0 ≡ bit (is_set (8 * i + j))
  pick zero low = ap (λ n. bit (is_set n)) (let same : 8 * i ≡ 8 * i + 0 = omega arith in same)
  pick (suc zero) low = refl
  pick (suc (suc zero)) low = refl
  pick (suc (suc (suc zero))) low = refl
  pick (suc (suc (suc (suc zero)))) low = refl
  pick (suc (suc (suc (suc (suc zero))))) low = refl
  pick (suc (suc (suc (suc (suc (suc zero)))))) low = refl
  pick (suc (suc (suc (suc (suc (suc (suc zero))))))) low = refl
  pick (suc (suc (suc (suc (suc (suc (suc (suc j)))))))) low = absurd (omega (arith, low))

  pub bit_made : (j : ℕ) → j < 8 → bit_at (byte_of_bits is_set i) (7 - j) ≡ bit (is_set (8 * i + j))
  bit_made j low =
      eight (bit (is_set (8 * i))) (bit (is_set (8 * i + 1))) (bit (is_set (8 * i + 2))) (bit (is_set (8 * i + 3))) (bit (is_set (8 * i + 4))) (bit (is_set (8 * i + 5))) (bit (is_set (8 * i + 6))) (bit (is_set (8 * i + 7)))
      (bit_small _) (bit_small _) (bit_small _) (bit_small _) (bit_small _) (bit_small _) (bit_small _) (bit_small _) j low
      ∙ pick j low

-- ---- the bits of the file

module _ (content : Content) (whole : HasWholeSectors content) (may : IsMendable content) (sound : IsSound (mended content)) where
  abbrev new : Content
  new = mended content

  abbrev was : VolumeState
  was = volume_of content

  abbrev head : VolumeHeader
  head = header_of_volume content

  abbrev limit : ℕ
  limit = head.total_blocks * per_block_of head

  abbrev maps : List ℕ
  maps = bitmap_sectors content

  abbrev bytes_long : ℕ
  bytes_long = head.allocation_fork.logical_size

  long : length (sector content 2) ≡ 512
  long = whole 2 (omega (arith, some_sectors content may))

  maps_same : bitmap_sectors new ≡ maps
  maps_same = bitmap_sectors_stay content new _ _ _ _ (head_mended content may long) (extents_mended content may long)

  pub map_inside : (at : ℕ) → Contains maps at → at < limit
  map_inside at has = subst (λ (h : VolumeHeader). at < h.total_blocks * per_block_of h) (head_mended content may long) (map_below new sound at (subst (λ l. Contains l at) (sym maps_same) has))

  inside : (at : ℕ) → Contains maps at → at < length content
  inside at has = omega (arith, map_inside at has, blocks_fit (length content) head (accepted content may))

  long_file : bytes_long ≤ 512 * length maps
  long_file = subst (λ (l : List ℕ). bytes_long ≤ 512 * length l) maps_same (subst (λ (h : VolumeHeader). h.allocation_fork.logical_size ≤ 512 * length (bitmap_sectors new)) (head_mended content may long) (map_long new sound))

  module _ (k at : ℕ) (found : slice_get maps k ≡ Some at) (begins : 512 * k < bytes_long) where
    abbrev made : ℕ → ℕ
    made i = if nat_lt (512 * k + i) bytes_long then byte_of_bits (is_bit_wanted was) (512 * k + i) else slice_index (sector content at) i

    sector_is : sector new at ≡ map made (range_with_len 0 512)
    sector_is =
        map_is content may at k (inside at (stands_there maps k at found)) (map_inside at (stands_there maps k at found)) found
        ∙ ap (λ b. if b then map made (range_with_len 0 512) else sector content at) (true_below (512 * k) bytes_long begins)

    block_is : block_sector new limit at ≡ map made (range_with_len 0 512)
    block_is = whole_sector new limit at (map_inside at (stands_there maps k at found)) (ap length sector_is ∙ length-map-range_with_len made 0 512) ∙ sector_is

    bit_here : (i j : ℕ) → i < 512 → j < 8 → 512 * k + i < bytes_long → bit_of (block_sector new limit at) (8 * i + j) ≡ is_bit_wanted was (8 * (512 * k + i) + j)
    unfolding bit_of
    bit_here i j low lower within =
        ap (λ l. bit_of l (8 * i + j)) block_is
        ∙ (λ m. bit_at (slice_index (map made (range_with_len 0 512)) (place m)) (7 - rest m) == 1)
        ∙ ap (λ b. bit_at b (7 - j) == 1) (get_or-map-range_with_len made 0 512 i i 0 low (omega arith) ∙ ap (λ b. if b then byte_of_bits (is_bit_wanted was) (512 * k + i) else slice_index (sector content at) i) (true_below (512 * k + i) bytes_long within))
        ∙ ap (λ n. n == 1) (bit_made (is_bit_wanted was) (512 * k + i) j lower)
        ∙ as_test (is_bit_wanted was (8 * (512 * k + i) + j))
      where
        place : (8 * i + j) / 8 ≡ i
        place = omega (arith, lower)

        rest : (8 * i + j) % 8 ≡ j
        rest = omega (arith, lower)

  there : (xs : List ℕ) (k : ℕ) → k < length xs → (at : ℕ) × (slice_get xs k ≡ Some at)
  there [] k low = absurd (omega (arith, low))
  there (x ∷ xs) zero low = (x, refl)
  there (x ∷ xs) (suc k) low = there xs k (omega (arith, low))

  bit_is : (n : ℕ) → n < 8 * bytes_long → bit_in new (bitmap_sectors new) n ≡ is_bit_wanted was n
  unfolding bit_in bit_of_sector
  bit_is n below =
      let k : ℕ = n / 4096 in
      let i : ℕ = n % 4096 / 8 in
      let j : ℕ = n % 8 in
      let found = there maps k (omega (arith, below, long_file)) in
      (λ m. bit_of_sector new (n % 4096) (slice_get (maps_same m) k))
      ∙ ap (bit_of_sector new (n % 4096)) found.1
      ∙ (λ m. let h = head_mended content may long m in bit_of (block_sector new (h.total_blocks * per_block_of h) found.0) (n % 4096))
      ∙ ap (bit_of (block_sector new limit found.0)) (let split : n % 4096 ≡ 8 * i + j = omega arith in split)
      ∙ bit_here k found.0 found.1 (omega (arith, below)) i j (omega arith) (omega arith) (omega (arith, below))
      ∙ ap (is_bit_wanted was) (let joins : 8 * (512 * k + i) + j ≡ n = omega arith in joins)

  pub bits_are : (volume_of new).bits ≡ bits_recounted was
  unfolding volume_of
  bits_are =
      (λ m. map (bit_in new (bitmap_sectors new)) (range_with_len 0 (8 * (head_mended content may long m).allocation_fork.logical_size)))
      ∙ ext_get_or false (map (bit_in new (bitmap_sectors new)) (range_with_len 0 count)) (map (is_bit_wanted was) (range_with_len 0 (length was.bits)))
      (length-map-range_with_len (bit_in new (bitmap_sectors new)) 0 count ∙ sym (length-map-range_with_len (is_bit_wanted was) 0 (length was.bits) ∙ as_long))
      (λ n low.
      let below : n < count = omega (arith, low, length-map-range_with_len (bit_in new (bitmap_sectors new)) 0 count) in
      get_or-map-range_with_len (bit_in new (bitmap_sectors new)) 0 count n n false below (omega arith)
      ∙ bit_is n below
      ∙ sym (get_or-map-range_with_len (is_bit_wanted was) 0 (length was.bits) n n false (omega (arith, below, as_long)) (omega arith)))
    where
      count : ℕ
      count = 8 * bytes_long

      as_long : length was.bits ≡ 8 * bytes_long
      as_long = length-map-range_with_len (bit_in content maps) 0 (8 * bytes_long)
