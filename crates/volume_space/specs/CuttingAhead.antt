-- A cut of blocks past the size of a file's fork, ahead of data that makes the fork longer.
use Rattle.std.specs.Prelude.{◌≡◌, ◌<◌, ℕ, ◌&&◌, nat_lt, Bool, true, false, List, length, Ok, ◌≤◌, ◌+◌}
use Rattle.sector_disk.specs.Lists.{Content}
use Rattle.hfs_model.specs.Step.{to_file}
use Rattle.hfs_model.specs.declared.plain.PlainNode.{PlainNode}
use Rattle.hfs_volume.specs.Content.{VolumeState, volume_of}
use Rattle.hfs_volume.specs.Reclaim.{blocks_wanted}
use Rattle.hfs_volume.specs.TreeOf.{tree_of}
use Rattle.hfs_volume.specs.Weight.{cut_cost, free_blocks, has_surplus_in, room_with}
use Rattle.hfs_volume.specs.declared.cost.Cost.TheVariants as cost
use Rattle.volume_runs.specs.Rest.{cut_puts}
use Rattle.volume_space.specs.Cutting.{AffordsCut, CutsOne}
use Rattle.volume_space.specs.Writing.{bytes_at}
use Rattle.volume_space.specs.declared.cutting_ahead.CutAhead.{CutAhead}
use Rattle.volume_space.specs.declared.cutting_ahead.CutAhead.TheVariants as ahead

-- the fork of this kind of a file of this size gets longer, and has blocks past its size, which go first
abbrev pub cuts_first : ℕ → VolumeState → ℕ → ℕ → ℕ → Bool
cuts_first kind volume id size end = nat_lt size end && has_surplus_in kind volume id size

-- Blocks past the size of a fork of the file with this CNID were cut, for which nothing was missing.
pub record CutsPast (capacity kind id : ℕ) (before after : Content) : Type 0 where
  pub affords : AffordsCut capacity (volume_of before)
  pub cuts : CutsOne id kind (blocks_wanted (volume_of before) id kind) before after

-- what a cut came to that goes first
abbrev pub CutsSome : CutAhead → ℕ → ℕ → ℕ → Content → Content → Type 0
CutsSome ahead.NotNeeded capacity kind id before after = ⊥
CutsSome ahead.Made capacity kind id before after = CutsPast capacity kind id before after
CutsSome ahead.CommitFirst capacity kind id before after = after ≡ before
CutsSome (ahead.Refused why) capacity kind id before after = (after ≡ before) × (cut_cost (room_with capacity (free_blocks (volume_of before)) (volume_of before)) ≡ cost.Refused why)

-- what a cut came to, of a fork of the file with this CNID: it isn't needed, or goes first
abbrev pub CutsAs : CutAhead → ℕ → ℕ → ℕ → Bool → Content → Content → Type 0
CutsAs ahead.NotNeeded capacity kind id first before after = (first ≡ false) × (after ≡ before)
CutsAs came capacity kind id first before after = (first ≡ true) × CutsSome came capacity kind id before after

-- what a cut came to, of a fork of this node's file, ahead of data up to an end
abbrev pub CutsNode : CutAhead → ℕ → ℕ → PlainNode → ℕ → Content → Content → Type 0
CutsNode came capacity kind node end before after = CutsAs came capacity kind node.id (cuts_first kind (volume_of before) node.id (length (bytes_at kind node)) end) before after

-- what a cut came to, of a fork of the file that a path stands for, ahead of data up to an end
abbrev pub CutsAhead : CutAhead → ℕ → ℕ → List (List ℕ) → ℕ → Content → Content → Type 0
CutsAhead came capacity kind path end before after = (node : PlainNode) × (to_file (tree_of before) path ≡ Ok node) × CutsNode came capacity kind node end before after

-- a commit comes first only where fewer sectors may be put than a cut puts at most
abbrev pub IsShortCut : CutAhead → ℕ → ℕ → VolumeState → Type 0
IsShortCut ahead.CommitFirst capacity spare volume = spare < cut_puts (room_with capacity (free_blocks volume) volume)
IsShortCut _ capacity spare volume = Unit {0}

-- where the cost of a cut is a load, no more was put than that load
abbrev pub TakesCutLoad : ℕ → VolumeState → ℕ → ℕ → Type 0
TakesCutLoad capacity volume before after = (free : List Bool) (load : ℕ) (grow : List ℕ) → cut_cost (room_with capacity free volume) ≡ cost.Load load grow → before ≤ after + load
