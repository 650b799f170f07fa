-- There is too little room for a cut that goes ahead of data.
use Rattle.std.proofs.Common.{◌≡◌, ◌<◌, ℕ, Bool, List, inl, inr, sym, ◌∙◌, subst}
use Rattle.std.specs.Prelude.{IfNone, IfOk, IsTrue, Option, None, Some, Result}
use Rattle.sector_disk.specs.Lists.{Content}
use Rattle.hx_bytes.specs.declared.faults.Trouble.{Trouble}
use Rattle.hfs_language.specs.declared.refusal.Refusal.{Refusal}
use Rattle.hfs_volume.specs.Content.{VolumeState, volume_of}
use Rattle.hfs_volume.specs.Weight.{cut_cost, free_blocks, room_with}
use Rattle.hfs_volume.specs.declared.cost.Cost.{Cost}
use Rattle.hfs_volume.specs.declared.cost.Cost.TheVariants as cost
use Rattle.volume_base.specs.Room.{capacity_of, room_on}
use Rattle.volume_base.specs.Standing.{IsSettled}
use Rattle.volume_base.specs.declared.room.FreeBlocks.TheVariants as blocks
use Rattle.volume_base.specs.declared.volume.Volume.{Volume}
use Rattle.volume_space.specs.CuttingAhead.{IsShortCut}
use Rattle.volume_space.specs.Cutting.{RefusesCut}
use Rattle.volume_space.specs.declared.cutting_ahead.CutAhead.{CutAhead}
use Rattle.volume_space.proofs.Affording.{cut_cost_is}

-- a cut isn't refused
pub cut_fine : (v : Volume) (content : Content) → IsSettled v content → (said : Option Refusal) (found : Cost) → found ≡ cut_cost (room_on blocks.All v) → IfNone said ((why : Refusal) → found ≡ cost.Refused why → ⊥)
    → IfNone said ((why : Refusal) → cut_cost (room_with (capacity_of v) (free_blocks (volume_of content)) (volume_of content)) ≡ cost.Refused why → ⊥)
cut_fine v content settled None found is fine = λ why costs. fine why (is ∙ cut_cost_is v content settled ∙ costs)
cut_fine v content settled (Some why) found is fine = tt

-- and then nothing rests
pub no_rest : (capacity : ℕ) (volume : VolumeState) → ((why : Refusal) → cut_cost (room_with capacity (free_blocks volume) volume) ≡ cost.Refused why → ⊥) → RefusesCut capacity volume → ⊥
no_rest capacity volume fine (why, costs) = fine why costs

-- ---- behind reads

pub short_behind : (r : Result CutAhead Trouble) (first_capacity capacity left spare : ℕ) (between before : Content) → between ≡ before → first_capacity ≡ capacity → left ≡ spare
    → IfOk r (λ came. IsShortCut came first_capacity left (volume_of between)) → IfOk r (λ came. IsShortCut came capacity spare (volume_of before))
short_behind r first_capacity capacity left spare between before same one two was =
    subst (λ (k : ℕ × ℕ × Content). IfOk r (λ (came : CutAhead). IsShortCut came k.0 k.1 (volume_of k.2))) {x = (first_capacity, left, between)} {y = (capacity, spare, before)} (λ i. (one i, two i, same i)) was
