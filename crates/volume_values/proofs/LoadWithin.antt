-- What a change of values puts is within the load of its command.
use Rattle.std.proofs.Common.{◌≡◌, ◌≤◌, ℕ, Bool, List, sym, ◌∙◌, ap, subst, arith}
use Rattle.std.specs.Prelude.{IsTrue}
use Rattle.alloc_bitmap.specs.Map.{BlockMap, free_of}
use Rattle.hfs_volume.specs.Content.{TreeFacts, VolumeState, has_attributes, volume_of}
use Rattle.hfs_volume.specs.Cost.{attributes_key, cost_of, growth}
use Rattle.hfs_volume.specs.Weight.{cost_of_tree, room_with, runs_for, value_change}
use Rattle.hfs_volume.specs.declared.cost.Cost.TheVariants as cost
use Rattle.hfs_volume.specs.declared.cost.ValueChange.{ValueChange}
use Rattle.sector_disk.specs.Space.{Space}
use Rattle.volume_header.specs.declared.header.VolumeHeader.{VolumeHeader}
use Rattle.volume_base.specs.Attributing.{attributes_cost, runs_taken, value_edits, value_load}
use Rattle.volume_base.specs.Lists.{facts_on}
use Rattle.volume_base.specs.Looking.{ReadsVolume}
use Rattle.volume_base.specs.Room.{capacity_of}
use Rattle.volume_base.specs.Standing.{IsSettled}
use Rattle.volume_base.specs.Weighing.{needs_of_change}
use Rattle.volume_base.specs.declared.volume.Volume.{Volume}
use Rattle.volume_base.proofs.Still.{lists_still}
use Rattle.volume_base.proofs.ValueFitted.{value_asked, value_counted}
use Rattle.volume_values.proofs.RoomStill.{value_load_still}

-- behind reads too
pub load_of_change : (edits : ℕ) (v w : Volume) (a b : Space) (reads : ReadsVolume v w a b) → IsTrue a.tells → IsSettled v a.content → (change : ValueChange) → IsTrue (has_attributes v.header)
    → growth w.header.block_size attributes_key (attributes_cost w) (value_edits edits change (runs_taken w change)) ≡ 0 → (n : ℕ) (grow : List ℕ)
    → cost_of (needs_of_change (value_asked 0 edits) change (runs_for change.blocks (free_of v.map))) (room_with (capacity_of v) (free_of v.map) (volume_of a.content)) ≡ cost.Load n grow → value_load edits change w ≤ n
load_of_change edits v w a b reads tells settled change has none n grow is =
    let facts : facts_on w.attributes.file ≡ facts_on v.attributes.file = ap (λ (l : VolumeState). l.attributes_tree) (lists_still v w a b reads tells) in
    let fits : growth v.header.block_size attributes_key (attributes_cost v) (value_edits edits change (runs_taken v change)) ≡ 0 =
    (λ i. growth (sym reads.keeps.header i).block_size attributes_key (cost_of_tree (sym facts i) 0) (value_edits edits change (runs_for change.blocks (free_of (sym reads.keeps.map i))))) ∙ none in
    omega (arith, value_counted v a.content settled (capacity_of v) edits change has fits n grow is, value_load_still edits change v w a b reads tells)

pub load_within : (v w : Volume) (a b : Space) (reads : ReadsVolume v w a b) → IsTrue a.tells → IsSettled v a.content → (id : ℕ) (name : List ℕ) (change : ValueChange) → change ≡ value_change (volume_of a.content) id name 0 → IsTrue (has_attributes v.header)
    → growth w.header.block_size attributes_key (attributes_cost w) (value_edits 1 change (runs_taken w change)) ≡ 0 → (n : ℕ) (grow : List ℕ)
    → cost_of (needs_of_change (value_asked 0 1) (value_change (volume_of a.content) id name 0) (runs_for 0 (free_of v.map))) (room_with (capacity_of v) (free_of v.map) (volume_of a.content)) ≡ cost.Load n grow → value_load 1 change w ≤ n
load_within v w a b reads tells settled id name change change_is has none n grow is =
    load_of_change 1 v w a b reads tells settled change has none n grow
    (subst (λ (k : ValueChange). cost_of (needs_of_change (value_asked 0 1) k (runs_for k.blocks (free_of v.map))) (room_with (capacity_of v) (free_of v.map) (volume_of a.content)) ≡ cost.Load n grow) (sym change_is) is)
