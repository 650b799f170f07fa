-- The room of a volume that stands is such as costs are counted for.
use Rattle.std.proofs.Common.{◌≡◌, ◌<◌, ◌≤◌, ℕ, zero, suc, ◌+◌, ◌-◌, ◌*◌, ◌/◌, ◌++◌, Bool, true, false, not, List, [], ◌∷◌, length, map, refl, sym, ◌∙◌, ap, subst, arith}
use Rattle.std.specs.Prelude.{IsTrue, ◌&&◌, nat_le, count_by, max, if◌then◌else◌}
use Rattle.std.specs.List.{range_with_len}
use Rattle.std.proofs.Math.Nat.{mul_left_comm}
use Rattle.std.proofs.lemmas.Bool.{and_parts, leb-true, le-leb, true≢false}
use Rattle.std.proofs.lemmas.List.{length-append, length-map}
use Rattle.std.proofs.lemmas.List.FromFn.{length-range_with_len}
use Rattle.std.proofs.lemmas.List.Sums.{count_by-le-length}
use Rattle.hx_bytes.specs.declared.extents.Extent.{Extent}
use Rattle.sector_disk.specs.Space.{Space}
use Rattle.flag_rows.specs.Bits.{count_set}
use Rattle.flag_rows.specs.Runs.{longest_of, runs_of}
use Rattle.fork_map.specs.Blocks.{blocks_of}
use Rattle.alloc_bitmap.specs.Map.{BlockMap, free_of, unused_of}
use Rattle.alloc_bitmap.proofs.TakeLaws.{length_runs}
use Rattle.btree_file.specs.FrameLaws.{state_well_formed}
use Rattle.volume_header.specs.declared.header.VolumeHeader.{VolumeHeader}
use Rattle.hfs_volume.specs.Content.{VolumeState, volume_of, has_attributes}
use Rattle.hfs_volume.specs.Cost.{no_tree, tree_at}
use Rattle.hfs_volume.specs.Forks.{per_block_of}
use Rattle.hfs_volume.specs.declared.cost.Room.{Room}
use Rattle.hfs_volume.specs.declared.cost.TreeCost.{TreeCost}
use Rattle.volume_cost.specs.Sizes.{IsNodeSize, IsVolume}
use Rattle.volume_base.specs.Room.{cost_on, free_in, room_on}
use Rattle.volume_base.specs.Standing.{IsSettled, IsStanding}
use Rattle.volume_base.specs.Weighing.{are_within, is_block, is_measured}
use Rattle.volume_base.specs.declared.room.FreeBlocks.{FreeBlocks}
use Rattle.volume_base.specs.declared.room.FreeBlocks.TheVariants as blocks
use Rattle.volume_base.specs.declared.volume.Volume.{Volume}
use Rattle.volume_base.proofs.Facts.{size_is}
use Rattle.volume_base.proofs.RoomKept.{few_sectors, node_size_low}
use Rattle.volume_base.proofs.SoundForks.{geometry}

-- ---- what was measured

pub measured_volume : (room : Room) → is_measured room ≡ true → IsVolume room
measured_volume room is =
    let one = and_parts (is_block room.block) (nat_le (room.total * room.block) 1099511627776 && are_within room) is in
    let two = and_parts (nat_le (room.total * room.block) 1099511627776) (are_within room) one.1 in
    let block = and_parts (nat_le 512 room.block) (nat_le room.block 65536) one.0 in
    let within = and_parts (nat_le room.free room.total) (nat_le room.longest room.total) two.1 in
    record {
      least = leb-true 512 room.block block.0;
      most = leb-true room.block 65536 block.1;
      bytes = leb-true (room.total * room.block) 1099511627776 two.0;
      free = leb-true room.free room.total within.0;
      longest = leb-true room.longest room.total within.1;
    }

both : (a b : Bool) → a ≡ true → b ≡ true → (a && b) ≡ true
both true b one two = two
both false b one two = absurd (true≢false (sym one))

volume_measured : (room : Room) → IsVolume room → is_measured room ≡ true
volume_measured room is =
    both (is_block room.block) (nat_le (room.total * room.block) 1099511627776 && are_within room)
    (both (nat_le 512 room.block) (nat_le room.block 65536) (le-leb 512 room.block is.least) (le-leb room.block 65536 is.most))
    (both (nat_le (room.total * room.block) 1099511627776) (are_within room) (le-leb (room.total * room.block) 1099511627776 is.bytes)
    (both (nat_le room.free room.total) (nat_le room.longest room.total) (le-leb room.free room.total is.free) (le-leb room.longest room.total is.longest)))

-- ---- free blocks

longest_low : (runs : List Extent) → longest_of runs ≤ length (blocks_of runs)
longest_low [] = omega arith
longest_low (run ∷ rest) = omega (arith, longest_low rest, length-append (range_with_len run.start run.count) (blocks_of rest), length-range_with_len run.start run.count)

free_long : (free : FreeBlocks) (m : BlockMap) → length (free_in free m) ≡ length m.used
free_long blocks.All m = length-map m.used (λ used. not used)
free_long blocks.Takable m = length-map (range_with_len 0 (length m.used)) _ ∙ length-range_with_len 0 (length m.used)

module _ (v : Volume) (a : Space) (was : IsStanding v a) (settled : IsSettled v a.content) (free : FreeBlocks) where
  set_low : count_set (free_in free v.map) ≤ v.header.total_blocks
  set_low = omega (arith, count_by-le-length (λ (flag : Bool). flag) (free_in free v.map), free_long free v.map, was.blocks)

  run_low : longest_of (runs_of (free_in free v.map)) ≤ v.header.total_blocks
  run_low = omega (arith, longest_low (runs_of (free_in free v.map)), length_runs 0 0 (free_in free v.map), set_low)

  is_volume : IsVolume (room_on free v)
  is_volume =
      let g = geometry (volume_of a.content).sectors (volume_of a.content).head settled.sound.blocks.header.accepted in
      let block = ap (λ (l : VolumeState). l.head.block_size) settled.lists in
      let scaled : v.header.total_blocks * v.header.block_size ≡ 512 * (v.header.total_blocks * per_block_of v.header) =
      ap (λ b. v.header.total_blocks * b) {x = v.header.block_size} {y = 512 * per_block_of v.header} (sym block ∙ g.whole ∙ ap (λ (l : VolumeState). 512 * per_block_of l.head) settled.lists)
      ∙ mul_left_comm v.header.total_blocks 512 (per_block_of v.header) in
      record {
        least = omega (arith, g.least, block);
        most = omega (arith, g.most, block);
        bytes = omega (
          arith,
          scaled,
          g.inside,
          ap (λ (l : VolumeState). l.head.total_blocks * per_block_of l.head) settled.lists,
          few_sectors (volume_of a.content).sectors (volume_of a.content).head settled.sound.blocks.header.accepted,
        );
        free = set_low;
        longest = run_low;
      }

  pub is_measured_told : is_measured (room_on free v) ≡ true
  is_measured_told = volume_measured (room_on free v) is_volume

  -- the nodes of catalog and attributes are large enough
  pub catalog_wide : 4096 ≤ (tree_at (room_on free v) 1).node_size
  catalog_wide = omega (arith, was.trees.catalog.file.has_form.least, size_is v.catalog.file a.content was.trees.catalog.stands)

  pub attributes_wide : IsTrue (has_attributes v.header) → 4096 ≤ (tree_at (room_on free v) 2).node_size
  attributes_wide has =
      let holds = was.trees.attributes has in
      subst (λ (t : TreeCost). 4096 ≤ t.node_size) (sym (ap (λ b. if b then cost_on v.attributes.file else no_tree) has))
      (omega (arith, holds.file.has_form.least, size_is v.attributes.file a.content holds.stands))

-- told or not, nodes have sizes that nodes have
module _ (v : Volume) (a : Space) (free : FreeBlocks) where
  pub extents_size : IsNodeSize 512 (tree_at (room_on free v) 0)
  extents_size = let it = node_size_low v.extents.file.shape.node_size (state_well_formed [] v.extents.file a).node_size in record { least = it.0; most = it.1 }

  pub catalog_size : 4096 ≤ (tree_at (room_on free v) 1).node_size → IsNodeSize 4096 (tree_at (room_on free v) 1)
  catalog_size large = record { least = large; most = (node_size_low v.catalog.file.shape.node_size (state_well_formed [] v.catalog.file a).node_size).1 }

  pub attributes_size : 4096 ≤ (tree_at (room_on free v) 2).node_size → IsNodeSize 4096 (tree_at (room_on free v) 2)
  attributes_size large = record { least = large; most = by (has_attributes v.header) }
    where
      by : (b : Bool) → (if b then cost_on v.attributes.file else no_tree).node_size ≤ 32768
      by true = (node_size_low v.attributes.file.shape.node_size (state_well_formed [] v.attributes.file a).node_size).1
      by false = omega arith
