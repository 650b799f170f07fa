-- A step of reclaiming that awaits the growth of a tree.
use Rattle.std.specs.Prelude.{◌≡◌, ◌<◌, ℕ, ◌==◌, not, List, slice_index, Option, None, Some, if◌then◌else◌}
use Rattle.jnl_format.specs.Recovery.{Content}
use Rattle.hfs_volume.specs.Content.{volume_of}
use Rattle.hfs_volume.specs.Reclaim.{Reclaim, first_growth, next_reclaim, reclaim_cost}
use Rattle.hfs_volume.specs.declared.cost.Cost.{Cost}
use Rattle.hfs_volume.specs.declared.cost.Cost.TheVariants as cost
use Rattle.volume_space.specs.Growing.{alone}
use Rattle.volume_space.specs.declared.ahead.WhichTree.TheVariants as which
use Rattle.volume_space.specs.declared.awaiting.TreeWanted.{TreeWanted}

-- Nothing is missing for a step of reclaiming, but trees have to grow for it, of which this is the first, by so many nodes.
pub record StepAwaits (capacity : ℕ) (content : Content) (step : Reclaim) (wanted : TreeWanted) : Type 0 where
  pub load : ℕ
  pub grow : List ℕ
  pub affords : reclaim_cost capacity (volume_of content) step ≡ cost.Load load grow
  pub some : 0 < wanted.more
  pub first : first_growth grow ≡ alone wanted.tree wanted.more

-- the next step of reclaiming awaits this growth
abbrev pub AwaitsGrowth : ℕ → Option ℕ → Content → TreeWanted → Type 0
AwaitsGrowth capacity shrunk content wanted = (step : Reclaim) × (next_reclaim (volume_of content) shrunk ≡ Some step) × StepAwaits capacity content step wanted

-- the first of the trees that have to grow by a cost, if one has to
abbrev pub first_wanted : Cost → Option TreeWanted
first_wanted (cost.Refused why) = None
first_wanted (cost.Load load grow) =
    if not (slice_index grow 0 == 0) then Some (record { tree = which.Extents; more = slice_index grow 0 })
    else if not (slice_index grow 1 == 0) then Some (record { tree = which.Catalog; more = slice_index grow 1 })
    else if not (slice_index grow 2 == 0) then Some (record { tree = which.Attributes; more = slice_index grow 2 })
    else None
