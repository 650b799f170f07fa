-- Housekeeping that comes to rest, and what goes ahead of a command.
use Rattle.std.specs.Prelude.{◌≡◌, ◌⊎◌, ◌<◌, ℕ, ◌+◌, ◌*◌, min, true, false, List, [], ◌∷◌, Option, Some, None}
use Rattle.std.proofs.Common.{inl, inr}
use Rattle.jnl_format.specs.Recovery.{Content}
use Rattle.hfs_language.specs.declared.refusal.Refusal.{Refusal}
use Rattle.hfs_volume.specs.declared.cost.Cost.TheVariants as cost
use Rattle.hfs_volume.specs.Content.{VolumeState, volume_of}
use Rattle.hfs_volume.specs.Cost.{node_sectors, tree_at}
use Rattle.hfs_volume.specs.declared.asked.Asked.{Asked}
use Rattle.hfs_volume.specs.Asked.{asked_needs_cut, asked_weight, asked_zero_blocks, data_asked, fork_asked, is_refused}
use Rattle.hfs_volume.specs.Forks.{parts_for}
use Rattle.hfs_volume.specs.declared.cost.Room.{Room}
use Rattle.hfs_volume.specs.Reclaim.{CommandWants, CutsSurplus, FillsZeros, GrowsTreeFirst, MarksHeader, Reclaim, Reclaims, StepWants, next_reclaim, reclaim_cost}
use Rattle.hfs_volume.specs.TreeOf.{tree_of}
use Rattle.hfs_volume.specs.Weight.{Data, most_zeros}

-- ---- rest

-- the sectors that a cut puts at most: the volume header's, a node of the catalog, those of the bitmap, and the nodes of a change of the extents
-- overflow file
abbrev pub cut_puts : Room → ℕ
cut_puts room =
    1 + node_sectors (tree_at room 1) + min (parts_for room.total 4096) 10
    + node_sectors (tree_at room 0) * min (4 * ((tree_at room 0).depth + 1) + 4) (tree_at room 0).nodes

-- why a step of reclaiming isn't made: a resource is missing for it
abbrev pub IsHeldUp : ℕ → VolumeState → Reclaim → Type 0
IsHeldUp capacity volume step = (why : Refusal) × (reclaim_cost capacity volume step ≡ cost.Refused why)

-- nothing is left to reclaim, or the next step is held up
abbrev pub IsAtRest : ℕ → Option ℕ → VolumeState → Type 0
IsAtRest capacity shrunk volume = (next_reclaim volume shrunk ≡ None) ⊎ ((step : Reclaim) × (next_reclaim volume shrunk ≡ Some step) × IsHeldUp capacity volume step)

-- ---- what goes ahead of a command

-- What wants a growth is this command, if there is one, or a step of reclaiming.
abbrev pub IsOwn : {capacity : ℕ} {shrunk : Option ℕ} {content : Content} {grow : List ℕ} → Option Asked → CommandWants capacity content grow ⊎ StepWants capacity shrunk content grow → Type 0
IsOwn asked (inl wants) = asked ≡ Some wants.asked
IsOwn asked (inr step) = Unit {0}

-- One tree got more nodes ahead of this command, if there is one, or of a step of reclaiming.
pub record GrowsFor (capacity : ℕ) (shrunk : Option ℕ) (asked : Option Asked) (old new : Content) : Type 0 where
  pub grows : GrowsTreeFirst capacity shrunk old new
  pub own : IsOwn asked grows.wanted

-- the file that a command puts data into, where it puts some
abbrev pub file_written : Option Data → Option ℕ
file_written None = None
file_written (Some put) = Some put.id

-- The fork that this command puts data into lost blocks past its size ahead of it; the plain tree's step doesn't refuse the command.
pub record CutsFor (capacity : ℕ) (asked : Option Asked) (old new : Content) : Type 0 where
  pub own : Asked
  pub is_own : asked ≡ Some own
  pub no_refusal : is_refused (tree_of old) own ≡ false
  pub needs : asked_needs_cut (volume_of old) (tree_of old) own ≡ true
  pub cuts : CutsSurplus capacity old new
  pub file : file_written (data_asked (tree_of old) own) ≡ Some cuts.id
  pub fork : cuts.kind ≡ fork_asked own

-- Free blocks were filled ahead of this command, which puts more zero blocks into a fork than one step fills: its step doesn't refuse it, no blocks
-- past the size stand in its way, and nothing is missing for the whole of it.
pub record FillsFor (capacity : ℕ) (asked : Option Asked) (old new : Content) : Type 0 where
  pub own : Asked
  pub is_own : asked ≡ Some own
  pub no_refusal : is_refused (tree_of old) own ≡ false
  pub no_surplus : asked_needs_cut (volume_of old) (tree_of old) own ≡ false
  pub load : ℕ
  pub affords : asked_weight capacity (volume_of old) (tree_of old) own ≡ cost.Load load (0 ∷ 0 ∷ 0 ∷ [])
  pub many : most_zeros < asked_zero_blocks (volume_of old).head.block_size (tree_of old) own
  pub fills : FillsZeros old new

-- one step of housekeeping ahead of this command, if there is one
abbrev pub IsTidiedFor : ℕ → Option ℕ → Option Asked → Content → Content → Type 0
IsTidiedFor capacity shrunk asked old new =
    Reclaims capacity shrunk old new ⊎ (CutsFor capacity asked old new ⊎ (GrowsFor capacity shrunk asked old new ⊎ (FillsFor capacity asked old new ⊎ MarksHeader old new)))

-- Steps of housekeeping ahead of this command, if there is one: nothing is cut or filled and no tree grows for another command.
pub data TidiesFor (capacity : ℕ) (shrunk : Option ℕ) (asked : Option Asked) : Content → Content → Type 0 where
  no_step : (content : Content) → TidiesFor capacity shrunk asked content content
  one_step : (old between new : Content) → IsTidiedFor capacity shrunk asked old between → TidiesFor capacity shrunk asked between new → TidiesFor capacity shrunk asked old new

-- Housekeeping from one content to another, ahead of this command, if there is one: on the way it comes to rest, and before that nothing is done
-- for a command.
pub record Rests (capacity : ℕ) (shrunk : Option ℕ) (asked : Option Asked) (old new : Content) : Type 0 where
  pub rest : Content
  pub before : TidiesFor capacity shrunk None old rest
  pub at_rest : IsAtRest capacity shrunk (volume_of rest)
  pub after : TidiesFor capacity shrunk asked rest new
