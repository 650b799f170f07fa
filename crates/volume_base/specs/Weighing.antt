-- What the edits of a command cost a volume.
use Rattle.std.specs.Prelude.{◌<◌, ℕ, ◌+◌, ◌*◌, ◌^◌, ◌==◌, ◌&&◌, nat_le, slice_index, Bool, List, [], ◌∷◌, Ok, Some, if◌then◌else◌}
use Rattle.hfs_language.specs.declared.command.Command.{Command}
use Rattle.hfs_language.specs.declared.reply.Reply.{Reply}
use Rattle.hfs_language.specs.declared.reply.Reply.TheVariants as reply
use Rattle.hfs_model.specs.Step.{step_line}
use Rattle.hfs_model.specs.declared.plain.PlainTree.{PlainTree}
use Rattle.hfs_volume.specs.Content.{VolumeState}
use Rattle.hfs_volume.specs.Cost.{cost_of, overflow_records}
use Rattle.hfs_volume.specs.Weight.{free_blocks, room_with, weight, weight_with, with_values}
use Rattle.hfs_volume.specs.declared.cost.Cost.{Cost}
use Rattle.hfs_volume.specs.declared.cost.Cost.TheVariants as cost
use Rattle.hfs_volume.specs.declared.cost.Needs.{Needs}
use Rattle.hfs_volume.specs.declared.cost.Room.{Room}
use Rattle.hfs_volume.specs.declared.cost.ValueChange.{ValueChange}
use Rattle.volume_base.specs.declared.weighing.Edits.{Edits}
use Rattle.volume_base.specs.declared.weighing.Weight.{Weight}
use Rattle.volume_base.specs.declared.weighing.Weight.TheVariants as answer

-- what edits need, where no data is put
abbrev pub needs_asked : Edits → Needs
needs_asked asked = record { ids = asked.ids; edits = 0 ∷ asked.catalog ∷ asked.attributes ∷ []; updates = asked.updates; new_blocks = 0; old_blocks = 0; runs = 0 }

-- what edits need that also change values, where the blocks of a new one are of so many runs
abbrev pub needs_of_change : Edits → ValueChange → ℕ → Needs
needs_of_change asked change runs = record {
  ids = asked.ids;
  edits = 0 ∷ asked.catalog ∷ (asked.attributes + change.records + overflow_records runs) ∷ [];
  updates = asked.updates;
  new_blocks = change.blocks;
  old_blocks = change.freed;
  runs = runs;
}

-- A change of values with so many edits of the attributes file beside it has the numbers of a volume: of its records with those that blocks of any runs take, and of blocks.
pub record AreUsual (edits : ℕ) (change : ValueChange) : Type 0 where
  pub records : edits + change.records + overflow_records change.blocks < 2 ^ 32
  pub blocks : change.blocks < 2 ^ 32
  pub freed : change.freed < 2 ^ 32

-- blocks have a size that volumes have
abbrev pub is_block : ℕ → Bool
is_block size = nat_le 512 size && nat_le size 65536

-- no more blocks are free than there are
abbrev pub are_within : Room → Bool
are_within room = nat_le room.free room.total && nat_le room.longest room.total

-- a room such as a volume's: its blocks, their bytes, and how many are free
abbrev pub is_measured : Room → Bool
is_measured room = is_block room.block && (nat_le (room.total * room.block) 1099511627776 && are_within room)

-- ---- what is answered
-- What all free blocks cost, and what those cost that may be taken, together: a refusal counts by all of them, and the load by those that may
-- be taken. Where these refuse, or the extents file or the attributes file would grow otherwise, a commit comes first. With a load go the nodes by
-- which each tree grows.
abbrev pub joined : Cost → Cost → Weight
joined (cost.Refused why) other = answer.Refused why
joined (cost.Load sectors grow) (cost.Refused why) = answer.CommitFirst
joined (cost.Load sectors grow) (cost.Load taken more) = if (slice_index grow 0 == slice_index more 0) && (slice_index grow 2 == slice_index more 2) then answer.Load taken grow else answer.CommitFirst

-- what edits weigh on a volume with these lists, where these blocks may be taken
abbrev pub edits_weighed : ℕ → List Bool → VolumeState → Edits → Weight
edits_weighed capacity takable volume asked = joined (cost_of (needs_asked asked) (room_with capacity (free_blocks volume) volume)) (cost_of (needs_asked asked) (room_with capacity takable volume))

-- what edits need that also change values, where these blocks are free
abbrev pub needs_valued : List Bool → Edits → ValueChange → Needs
needs_valued free asked change = with_values free (Some change) (needs_asked asked)

-- what such edits weigh on a volume with these lists, where these blocks may be taken
abbrev pub values_weighed : ℕ → List Bool → VolumeState → Edits → ValueChange → Weight
values_weighed capacity takable volume asked change =
    joined (cost_of (needs_valued (free_blocks volume) asked change) (room_with capacity (free_blocks volume) volume)) (cost_of (needs_valued takable asked change) (room_with capacity takable volume))

-- a refusal of the step, or what the command weighs
abbrev pub refused_or : Reply → Weight → Weight
refused_or (reply.No why) weighs = answer.Refused why
refused_or other weighs = weighs

-- what a command weighs on a volume with these lists and this tree, where these blocks may be taken
abbrev pub weighed : ℕ → List Bool → VolumeState → PlainTree → Command → Weight
weighed capacity takable volume tree asked = refused_or (step_line tree (Ok asked)).0 (joined (weight capacity volume tree asked) (weight_with capacity takable volume tree asked))
