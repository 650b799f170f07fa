-- A bitmap of which a run is taken is put in just the sectors that were changed.
use Rattle.std.proofs.Common.{◌≡◌, ◌<◌, ◌≤◌, ℕ, ◌*◌, Bool, false, List, length, sym, ◌∙◌, ap, arith}
use Rattle.std.specs.Prelude.{IsTrue}
use Rattle.hx_bytes.specs.declared.extents.Extent.{Extent}
use Rattle.flag_rows.specs.Bits.{has, sectors_for}
use Rattle.alloc_bitmap.specs.Fork.{fork_bit}
use Rattle.alloc_bitmap.specs.Map.{BlockMap, none}
use Rattle.btree_file.specs.Frame.{PutsWithin}
use Rattle.btree_file.specs.Growth.{HasGrown, nodes_in, sectors_with}
use Rattle.btree_file.specs.declared.tree.TreeFile.{TreeFile}
use Rattle.sector_disk.specs.Space.{Space}
use Rattle.hfs_volume.specs.Content.{VolumeState, has_attributes}
use Rattle.volume_space.specs.Growing.{TakesRun, lengthened_attributes}
use Rattle.volume_base.specs.Lists.{bits_on}
use Rattle.volume_base.specs.Mapping.{HoldsUnchanged}
use Rattle.volume_base.specs.Standing.{IsSettled, IsStanding, map_sectors}
use Rattle.volume_base.specs.declared.volume.Volume.{Volume}
use Rattle.volume_space.proofs.GrownBits.{bit_elsewhere, bits_hold, unchanged_has}
use Rattle.volume_space.proofs.AttributesGrownLists.{bit_same, bits_long, bits_were}
use Rattle.volume_space.proofs.AttributesGrownStands.{bits_same, map_same}
use Rattle.volume_base.proofs.Resettling.{bits_at, bits_here}
use Rattle.volume_base.proofs.TreesSettled.{header_settled}

module _ (v : Volume) (a b : Space) (was : IsStanding v a) (settled : IsSettled v a.content) (there : IsTrue (has_attributes v.header)) (count : ℕ) (run : Extent) (later : BlockMap) (takes : TakesRun count run v.map later) (some : 0 < run.count)
    (file : TreeFile) (grown : HasGrown run v.attributes.file file a.content b.content) (within : PutsWithin (sectors_with v.attributes.file run) a b) (tells : IsTrue a.tells)
    (eight : length v.header.attributes_fork.extents.extents ≡ 8) (few : length v.attributes.file.fork < 8) (more : ℕ) (counted : run.count ≤ v.header.free_blocks)
    (nodes : nodes_in run v.attributes.file.per_block v.attributes.file.shape.node_size ≡ more) (whole : run.count * v.header.block_size ≡ more * v.attributes.file.shape.node_size)
    (unchanged : v.map.changed ≡ none (sectors_for (length v.map.used)))
  where
    fits : length v.map.used ≤ 8 * v.header.allocation_fork.logical_size
    fits = omega (
      arith,
      settled.blocks,
      settled.sound.blocks.files.bits,
      ap (λ (l : VolumeState). l.head.total_blocks) settled.lists,
      ap (λ (l : VolumeState). l.head.allocation_fork.logical_size) settled.lists,
    )

    bits_before : bits_at a.content v ≡ bits_on v
    bits_before = sym (bits_here v a was (header_settled v a.content settled)) ∙ bits_were v a b was settled there count run later takes some file grown within tells eight few more counted nodes whole

    pub holds_unchanged : HoldsUnchanged (lengthened_attributes run.count v later file) b.content
    holds_unchanged k low same =
        let clear : has run k ≡ false = unchanged_has count run v.map later takes unchanged k same in
        let here : k < length (bits_on v) = omega (
          arith,
          low,
          bits_long v a b was settled there count run later takes some file grown within tells eight few more counted nodes whole,
          ap (λ (l : List Bool). length l) (bits_were v a b was settled there count run later takes some file grown within tells eight few more counted nodes whole),
        ) in
        ap (λ (l : List ℕ). fork_bit b.content l k) (map_same v a b was settled there count run later takes some file grown within tells)
        ∙ bit_elsewhere (map_sectors v) a.content b.content (bits_same v a b was settled there count run later takes some file grown within tells) k
        ∙ bits_hold v a was (header_settled v a.content settled) fits bits_before k here
        ∙ sym (bit_same v a b was settled there count run later takes some file grown within tells eight few more counted nodes whole k clear)
