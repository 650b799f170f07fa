-- What a volume in service has left.
use Rattle.std.specs.Prelude.{ℕ, min, List, [], ◌∷◌, Bool, length, if◌then◌else◌}
use Rattle.flag_rows.specs.Bits.{count_set}
use Rattle.flag_rows.specs.Runs.{runs_of, longest_of}
use Rattle.alloc_bitmap.specs.Map.{BlockMap, free_of, unused_of}
use Rattle.btree_file.specs.declared.tree.TreeFile.{TreeFile}
use Rattle.hfs_language.specs.declared.reply.Gauge.{Gauge}
use Rattle.hfs_volume.specs.Content.{has_attributes}
use Rattle.hfs_volume.specs.Cost.{no_tree}
use Rattle.hfs_volume.specs.Weight.{cost_of_tree, gauge_of}
use Rattle.hfs_volume.specs.declared.cost.Room.{Room}
use Rattle.hfs_volume.specs.declared.cost.TreeCost.{TreeCost}
use Rattle.volume_base.specs.Lists.{facts_on}
use Rattle.volume_base.specs.declared.room.FreeBlocks.{FreeBlocks}
use Rattle.volume_base.specs.declared.room.FreeBlocks.TheVariants as blocks
use Rattle.volume_base.specs.declared.volume.Volume.{Volume}

-- how many sectors one transaction of the journal holds
abbrev pub capacity_of : Volume → ℕ
capacity_of volume = volume.capacity

-- the numbers of a tree, with counts of 32 bits
abbrev pub counted : TreeCost → TreeCost
counted tree = record tree { map_bits = min tree.map_bits 4294967295; extents = min tree.extents 4294967295 }

-- those of a tree's file as it is kept
abbrev pub cost_on : TreeFile → TreeCost
cost_on file = counted (cost_of_tree (facts_on file) (length file.fork))

-- those of the attributes file; where there is none, of no tree
abbrev pub attributes_on : Volume → TreeCost
attributes_on volume = if has_attributes volume.header then cost_on volume.attributes.file else no_tree

-- for each block, whether it is free: each that isn't used, or of these only those that aren't held
abbrev pub free_in : FreeBlocks → BlockMap → List Bool
free_in blocks.All map = unused_of map
free_in blocks.Takable map = free_of map

-- what the volume has, as it keeps it
abbrev pub room_on : FreeBlocks → Volume → Room
room_on free volume = record {
  block = volume.header.block_size;
  total = volume.header.total_blocks;
  free = count_set (free_in free volume.map);
  longest = longest_of (runs_of (free_in free volume.map));
  capacity = volume.capacity;
  next_id = volume.header.next_catalog_id;
  trees = cost_on volume.extents.file ∷ cost_on volume.catalog.file ∷ attributes_on volume ∷ [];
}

-- the numbers that `df` tells, as the volume keeps them
abbrev pub gauge_now : Volume → Gauge
gauge_now volume = gauge_of (room_on blocks.All volume)
