-- The values of attributes stay where no sector but the header's and those of special files is another, whatever overflow records there are.
use Rattle.std.proofs.Common.{◌≡◌, ◌≢◌, ◌<◌, ◌≤◌, ℕ, ◌-◌, ◌*◌, ◌/◌, sym, ◌∙◌, subst, arith}
use Rattle.std.specs.Prelude.{Contains}
use Rattle.std.specs.List.{range_with_len}
use Rattle.std.proofs.lemmas.List.Elements.{Contains-append_left}
use Rattle.sector_disk.specs.Lists.{Content, sector}
use Rattle.jnl_format.specs.Recovery.{header_of_volume}
use Rattle.hfs_volume.specs.Content.{VolumeState, attributes_of}
use Rattle.hfs_volume.specs.Forks.{parts_for, per_block_of, reserved_blocks}
use Rattle.hfs_volume.specs.Sound.{IsSoundVolume}
use Rattle.hfs_volume.specs.TreeOf.{bytes_in, valued}
use Rattle.hfs_volume.specs.Values.{blocks_of_values}
use Rattle.hfs_volume.proofs.Apart.{value_not_reserved}
use Rattle.hfs_volume.proofs.BlockWants.{in_range}
use Rattle.hfs_volume.proofs.Sectors.{in_front}
use Rattle.hfs_volume.proofs.Untouched.{HasWholeBlocks, whole_blocks}
use Rattle.hfs_volume.proofs.Valued.{values_same}
use Rattle.volume_base.proofs.FilesKept.{allocation_sectors, attributes_sectors, catalog_sectors, extents_sectors, value_not_in_attributes, value_not_in_catalog, value_not_in_extents, value_not_in_map}

module _ (lists : VolumeState) (sound : IsSoundVolume lists) where
  whole : HasWholeBlocks lists.sectors lists.head
  whole = whole_blocks lists.sectors lists.head sound.blocks.header.accepted

  abbrev per : ℕ
  per = per_block_of lists.head

  -- the header's block is kept back
  header_reserved : Contains (reserved_blocks lists.sectors lists.head) (2 / per)
  header_reserved =
      Contains-append_left (range_with_len 0 (parts_for 1536 lists.head.block_size)) (range_with_len ((lists.sectors * 512 - 1024) / lists.head.block_size) (lists.head.total_blocks - (lists.sectors * 512 - 1024) / lists.head.block_size)) (2 / per)
      (in_range 0 (parts_for 1536 lists.head.block_size) (2 / per) (omega arith) (omega (arith, in_front lists.head.block_size per whole.whole whole.some 1536 2 (omega arith))))

  value_not_2 : (at : ℕ) → Contains (blocks_of_values (attributes_of lists)) (at / per) → at ≢ 2
  value_not_2 at has two = value_not_reserved lists sound.blocks.forks (2 / per) (subst (λ (n : ℕ). Contains (blocks_of_values (attributes_of lists)) (n / per)) two has) header_reserved

  pub values_kept : (a b : Content) → (header_of_volume a).total_blocks ≡ lists.head.total_blocks → (header_of_volume a).block_size ≡ lists.head.block_size
      → (header_of_volume b).total_blocks ≡ lists.head.total_blocks → (header_of_volume b).block_size ≡ lists.head.block_size
      → ((at : ℕ) → at ≢ 2 → (Contains (catalog_sectors lists) at → ⊥) → (Contains (attributes_sectors lists) at → ⊥) → (Contains (extents_sectors lists) at → ⊥) → (Contains (allocation_sectors lists) at → ⊥) → sector b at ≡ sector a at)
      → valued (bytes_in b) (attributes_of lists) ≡ valued (bytes_in a) (attributes_of lists)
  values_kept a b total_a block_a total_b block_b agrees =
      values_same a b (attributes_of lists) (block_b ∙ sym block_a) (total_b ∙ sym total_a) (subst (λ (n : ℕ). 0 < n / 512) (sym block_a) whole.some)
      (λ at has.
      let there : Contains (blocks_of_values (attributes_of lists)) (at / per) = subst (λ (n : ℕ). Contains (blocks_of_values (attributes_of lists)) (at / (n / 512))) block_a has in
      agrees at (value_not_2 at there) (value_not_in_catalog lists sound at there) (value_not_in_attributes lists sound at there) (value_not_in_extents lists sound at there) (value_not_in_map lists sound at there))
