-- What a step of housekeeping came to.
use Rattle.std.specs.Prelude.{◌≡◌, ◌⊎◌, ℕ, Option, None, Some, ◌≤◌, ◌+◌, List}
use Rattle.hfs_volume.specs.declared.cost.Cost.TheVariants as cost
use Rattle.jnl_format.specs.Recovery.{Content}
use Rattle.hfs_volume.specs.Content.{volume_of}
use Rattle.hfs_volume.specs.Reclaim.{Reclaims, Reclaim, next_reclaim, reclaim_cost}
use Rattle.alloc_bitmap.specs.Map.{free_of}
use Rattle.sector_disk.specs.Space.{Space}
use Rattle.volume_runs.specs.Rest.{GrowsFor, IsAtRest}
use Rattle.volume_base.specs.Keeping.{shrunk_of}
use Rattle.volume_base.specs.Room.{capacity_of}
use Rattle.volume_base.specs.declared.volume.Volume.{Volume}
use Rattle.volume_space.specs.Awaiting.{AwaitsGrowth}
use Rattle.volume_space.specs.Growing.{GrowthFits}
use Rattle.volume_space.specs.Orphans.{IsNextShort}
use Rattle.volume_space.specs.declared.awaiting.TreeWanted.{TreeWanted}
use Rattle.volume_space.specs.declared.ahead.Growth.{Growth}
use Rattle.volume_space.specs.declared.ahead.Growth.TheVariants as growing
use Rattle.volume_space.specs.declared.tidying.Tidying.{Tidying}
use Rattle.volume_space.specs.declared.tidying.Tidying.TheVariants as tidying

-- Made: the next step of reclaiming was made, and nothing was missing for it, or a tree that had to grow for it has grown. Rest: nothing was changed, and nothing is left to reclaim, or the next step is held up. CommitFirst: nothing was changed.
abbrev pub ReclaimsAs : Tidying → ℕ → Option ℕ → Content → Content → Type 0
ReclaimsAs tidying.Made capacity shrunk before after = Reclaims capacity shrunk before after ⊎ GrowsFor capacity shrunk None before after
ReclaimsAs tidying.Rest capacity shrunk before after = (after ≡ before) × IsAtRest capacity shrunk (volume_of before)
ReclaimsAs tidying.CommitFirst capacity shrunk before after = after ≡ before

-- what a growth comes to for the step that awaits it
abbrev pub tidied_by : Growth → Tidying
tidied_by growing.Grown = tidying.Made
tidied_by growing.CommitFirst = tidying.CommitFirst

-- there is too little room for the next step of reclaiming, or for the growth of the tree that it awaits
abbrev pub LacksRoom : Volume → Space → Type 0
LacksRoom volume space =
    IsNextShort (capacity_of volume) (shrunk_of volume) (free_of volume.map) space.spare (volume_of space.content)
    ⊎ ((wanted : TreeWanted) × AwaitsGrowth (capacity_of volume) (shrunk_of volume) space.content wanted × (GrowthFits wanted.tree wanted.more volume space → ⊥))

-- Where the cost of the next step is a load, no more was put than that load.
abbrev pub TakesStepLoad : ℕ → Option ℕ → Content → ℕ → ℕ → Type 0
TakesStepLoad capacity shrunk content before after =
    (step : Reclaim) (load : ℕ) (grow : List ℕ) → next_reclaim (volume_of content) shrunk ≡ Some step → reclaim_cost capacity (volume_of content) step ≡ cost.Load load grow → before ≤ after + load
