-- There is too little room for a step of reclaiming.
use Rattle.std.proofs.Common.{◌≡◌, ◌⊎◌, ◌<◌, ◌≤◌, ℕ, ◌+◌, ◌*◌, ◌/◌, min, Bool, List, length, inl, inr, refl, sym, ◌∙◌, ap, subst, arith}
use Rattle.std.specs.Prelude.{Option}
use Rattle.sector_disk.specs.Lists.{Content}
use Rattle.sector_disk.specs.Space.{Space}
use Rattle.flag_rows.specs.Bits.{sectors_for}
use Rattle.alloc_bitmap.specs.Map.{free_of}
use Rattle.hfs_volume.specs.Content.{volume_of}
use Rattle.hfs_volume.specs.Cost.{cost_of}
use Rattle.hfs_volume.specs.Forks.{parts_for}
use Rattle.hfs_volume.specs.Reclaim.{DropAttribute, DropOrphan, reclaim_cost_with}
use Rattle.hfs_volume.specs.Weight.{free_blocks, room_with, value_change}
use Rattle.volume_runs.specs.Rest.{cut_puts}
use Rattle.hfs_volume.specs.declared.cost.Cost.{Cost}
use Rattle.hfs_volume.specs.declared.cost.ValueChange.{ValueChange}
use Rattle.volume_base.specs.Fitting.{AreMet, AreMetValued, is_met, needs_of, wants}
use Rattle.volume_base.specs.Weighing.{needs_valued}
use Rattle.volume_base.specs.Room.{capacity_of, room_on}
use Rattle.volume_base.specs.Standing.{IsSettled}
use Rattle.volume_base.specs.declared.room.FreeBlocks.TheVariants as blocks
use Rattle.volume_base.specs.declared.volume.Volume.{Volume}
use Rattle.volume_space.specs.Cutting.{trim_load}
use Rattle.volume_space.specs.Orphans.{IsShort, bare_edits}
use Rattle.volume_space.proofs.BareCost.{bare_cost_by}
use Rattle.volume_space.proofs.HeldUp.{cut_puts_is}
use Rattle.volume_space.proofs.PutMet.{not_met}

pub short_drop : (v : Volume) (a : Space) (id : ℕ) → (AreMet (wants 0 2 0 1) v a → ⊥) → IsShort (capacity_of v) (free_of v.map) a.spare (volume_of a.content) (DropOrphan id)
unfolding reclaim_cost_with
short_drop v a id never = not_met (is_met (cost_of (needs_of (wants 0 2 0 1)) (room_with (capacity_of v) (free_of v.map) (volume_of a.content))) a.spare) never

pub short_bare : (v : Volume) (a : Space) (change : ValueChange) (id : ℕ) (name : List ℕ) → change ≡ value_change (volume_of a.content) id name 0 → (AreMetValued (wants 0 0 1 1) change v a → ⊥)
    → IsShort (capacity_of v) (free_of v.map) a.spare (volume_of a.content) (DropAttribute id name)
short_bare v a change id name same never =
    ap (λ (c : Cost). is_met c a.spare) (bare_cost_by (capacity_of v) (free_of v.map) a.content change id name same)
    ∙ not_met (is_met (cost_of (needs_valued (free_of v.map) bare_edits change) (room_with (capacity_of v) (free_of v.map) (volume_of a.content))) a.spare) never

-- what a cut puts by the volume's own numbers
pub trim_is : (v : Volume) (content : Content) → IsSettled v content → trim_load v ≡ cut_puts (room_on blocks.All v)
trim_is v content settled =
    let sizes : parts_for v.header.total_blocks 4096 ≡ sectors_for (length v.map.used) = omega (arith, settled.blocks) in
    omega (arith, ap (λ n. min n 10) sizes)

pub short_cut : (v : Volume) (content : Content) → IsSettled v content → (spare : ℕ) → spare < trim_load v → spare < cut_puts (room_with (capacity_of v) (free_blocks (volume_of content)) (volume_of content))
short_cut v content settled spare less = omega (arith, less, trim_is v content settled, cut_puts_is v content settled)
