-- What the drop of an attribute costs, told by the change of its value.
use Rattle.std.proofs.Common.{◌≡◌, ℕ, Bool, List, refl, sym, ◌∙◌, ap}
use Rattle.sector_disk.specs.Lists.{Content}
use Rattle.hfs_volume.specs.Content.{volume_of}
use Rattle.hfs_volume.specs.Cost.{cost_of}
use Rattle.hfs_volume.specs.Reclaim.{DropAttribute, reclaim_cost, reclaim_cost_with}
use Rattle.hfs_volume.specs.Weight.{free_blocks, room_with, value_change}
use Rattle.hfs_volume.specs.declared.cost.Cost.{Cost}
use Rattle.hfs_volume.specs.declared.cost.ValueChange.{ValueChange}
use Rattle.volume_base.specs.Room.{capacity_of, free_in}
use Rattle.volume_base.specs.Standing.{IsSettled}
use Rattle.volume_base.specs.Weighing.{needs_valued}
use Rattle.volume_base.specs.declared.room.FreeBlocks.TheVariants as blocks
use Rattle.volume_base.specs.declared.volume.Volume.{Volume}
use Rattle.volume_space.specs.Orphans.{bare_edits}
use Rattle.volume_base.proofs.RoomKept.{free_content}

-- by the blocks that are free
pub bare_cost_by : (capacity : ℕ) (free : List Bool) (content : Content) (change : ValueChange) (id : ℕ) (name : List ℕ) → change ≡ value_change (volume_of content) id name 0
    → reclaim_cost_with capacity free (volume_of content) (DropAttribute id name) ≡ cost_of (needs_valued free bare_edits change) (room_with capacity free (volume_of content))
unfolding reclaim_cost_with
bare_cost_by capacity free content change id name same = ap (λ (c : ValueChange). cost_of (needs_valued free bare_edits c) (room_with capacity free (volume_of content))) (sym same)

pub bare_cost_is : (v : Volume) (content : Content) → IsSettled v content → (change : ValueChange) (found : Cost) → found ≡ cost_of (needs_valued (free_in blocks.All v.map) bare_edits change) (room_with (capacity_of v) (free_in blocks.All v.map) (volume_of content))
    → (id : ℕ) (name : List ℕ) → change ≡ value_change (volume_of content) id name 0 → reclaim_cost (capacity_of v) (volume_of content) (DropAttribute id name) ≡ found
bare_cost_is v content settled change found is id name same =
    bare_cost_by (capacity_of v) (free_blocks (volume_of content)) content change id name same
    ∙ ap (λ (f : List Bool). cost_of (needs_valued f bare_edits change) (room_with (capacity_of v) f (volume_of content))) (sym (free_content v content settled)) ∙ sym is
