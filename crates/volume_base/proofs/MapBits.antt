-- The bits of a volume and those that its bitmap's file has.
use Rattle.std.proofs.Common.{◌≡◌, ◌<◌, ◌≤◌, ℕ, ◌-◌, ◌*◌, ◌/◌, ◌%◌, Bool, false, List, [], ◌++◌, length, get_or, replicate, refl, sym, ◌∙◌, ap, subst, arith, ext_get_or, length-append}
use Rattle.std.specs.Prelude.{Contains, Option, None, Some, slice_get}
use Rattle.std.specs.List.{range_with_len}
use Rattle.std.proofs.lemmas.List.{get_or-map, length-map, length-replicate}
use Rattle.std.proofs.lemmas.List.FromFn.{length-range_with_len, get_or-range_with_len}
use Rattle.std.proofs.lemmas.List.Elements.{Contains-append_right}
use Rattle.std.proofs.lemmas.Option.{slice_get_within, get_or_from_slice_get}
use Rattle.jnl_format.specs.Recovery.{header_of_volume}
use Rattle.volume_header.specs.declared.header.VolumeHeader.{VolumeHeader}
use Rattle.flag_rows.specs.Bits.{bit_of}
use Rattle.flag_rows.proofs.ByteLaws.{bit_past}
use Rattle.alloc_bitmap.specs.Fork.{fork_bit, sector_or_none}
use Rattle.sector_disk.specs.Lists.{Content, sector}
use Rattle.sector_disk.specs.Space.{Space}
use Rattle.hfs_volume.specs.Content.{bit_in, bit_of_sector, block_limit}
use Rattle.hfs_volume.specs.Forks.{per_block_of}
use Rattle.btree_file.specs.State.{sectors_of_tree}
use Rattle.volume_base.specs.Lists.{bits_on}
use Rattle.volume_base.specs.Mapping.{HoldsMap}
use Rattle.volume_base.specs.Standing.{IsStanding, attribute_sectors, map_sectors}
use Rattle.volume_base.specs.declared.volume.Volume.{Volume}
use Rattle.volume_base.proofs.Bridging.{whole_sector}
use Rattle.volume_base.proofs.Resettling.{bits_at}

-- ---- bits that are read

module _ (volume : Volume) (space : Space) (stands : IsStanding volume space) (headed : header_of_volume space.content ≡ volume.header) (fits : length volume.map.used ≤ 8 * volume.header.allocation_fork.logical_size) where
  in_limit : (at : ℕ) → Contains (map_sectors volume) at → (at < block_limit space.content) × (length (sector space.content at) ≡ 512)
  in_limit at has =
      let low = stands.inside at (Contains-append_right (sectors_of_tree volume.extents.file) (sectors_of_tree volume.catalog.file ++ (attribute_sectors volume ++ map_sectors volume)) at
      (Contains-append_right (sectors_of_tree volume.catalog.file) (attribute_sectors volume ++ map_sectors volume) at (Contains-append_right (attribute_sectors volume) (map_sectors volume) at has))) in
      (subst (λ (h : VolumeHeader). at < h.total_blocks * per_block_of h) (sym headed) low, stands.whole at (omega (arith, low, stands.fit)))

  bit_read : (k : ℕ) → bit_in space.content (map_sectors volume) k ≡ fork_bit space.content (map_sectors volume) k
  unfolding bit_in bit_of_sector
  bit_read k = by (slice_get (map_sectors volume) (k / 4096)) refl
    where
      by : (o : Option ℕ) → slice_get (map_sectors volume) (k / 4096) ≡ o → bit_of_sector space.content (k % 4096) o ≡ bit_of (sector_or_none space.content o) (k % 4096)
      by None found = sym (bit_past [] (k % 4096) (omega arith))
      by (Some at) found =
          let there = in_limit at (k / 4096, slice_get_within (map_sectors volume) (k / 4096) at found, get_or_from_slice_get (map_sectors volume) (k / 4096) at at found) in
          ap (λ (s : List ℕ). bit_of s (k % 4096)) (whole_sector space.content (block_limit space.content) at there.0 there.1)

  many : length (bits_at space.content volume) ≡ 8 * volume.header.allocation_fork.logical_size
  many = length-map (range_with_len 0 (8 * volume.header.allocation_fork.logical_size)) (bit_in space.content (map_sectors volume)) ∙ length-range_with_len 0 (8 * volume.header.allocation_fork.logical_size)

  many_on : length (bits_on volume) ≡ 8 * volume.header.allocation_fork.logical_size
  many_on = omega (arith, fits, length-append volume.map.used (replicate (8 * volume.header.allocation_fork.logical_size - length volume.map.used) false), length-replicate (8 * volume.header.allocation_fork.logical_size - length volume.map.used) false)

  bit_there : (k : ℕ) → k < 8 * volume.header.allocation_fork.logical_size → get_or (bits_at space.content volume) k false ≡ fork_bit space.content (map_sectors volume) k
  bit_there k low =
      get_or-map (bit_in space.content (map_sectors volume)) (range_with_len 0 (8 * volume.header.allocation_fork.logical_size)) k 0 false (omega (arith, low, length-range_with_len 0 (8 * volume.header.allocation_fork.logical_size)))
      ∙ ap (bit_in space.content (map_sectors volume)) (get_or-range_with_len 0 (8 * volume.header.allocation_fork.logical_size) k 0 low ∙ omega arith) ∙ bit_read k

  -- a bitmap that is held is what is read, and the other way round
  pub bits_read : HoldsMap volume space.content → bits_at space.content volume ≡ bits_on volume
  bits_read holds = ext_get_or false (bits_at space.content volume) (bits_on volume) (many ∙ sym many_on) (λ k low. bit_there k (omega (arith, low, many)) ∙ holds k (omega (arith, low, many, many_on)))

  pub bits_hold : bits_at space.content volume ≡ bits_on volume → HoldsMap volume space.content
  bits_hold same k low = sym (bit_there k (omega (arith, low, many_on))) ∙ ap (λ (l : List Bool). get_or l k false) same

-- a bit is the same where the sectors of the bitmap are
pub bit_elsewhere : (sectors : List ℕ) (a b : Content) → ((s : ℕ) → Contains sectors s → sector b s ≡ sector a s) → (k : ℕ) → fork_bit b sectors k ≡ fork_bit a sectors k
bit_elsewhere sectors a b same k = by (slice_get sectors (k / 4096)) refl
  where
    by : (o : Option ℕ) → slice_get sectors (k / 4096) ≡ o → bit_of (sector_or_none b o) (k % 4096) ≡ bit_of (sector_or_none a o) (k % 4096)
    by None found = refl
    by (Some at) found = ap (λ (s : List ℕ). bit_of s (k % 4096)) (same at (k / 4096, slice_get_within sectors (k / 4096) at found, get_or_from_slice_get sectors (k / 4096) at at found))
