-- Whether edits can be made now, by what they cost.
use Rattle.std.specs.Prelude.{◌≡◌, ℕ, ◌==◌, ◌&&◌, nat_le, slice_index, Bool, true, false, List, [], ◌∷◌, Some}
use Rattle.alloc_bitmap.specs.Map.{BlockMap}
use Rattle.sector_disk.specs.Space.{Space}
use Rattle.hfs_volume.specs.Content.{volume_of}
use Rattle.hfs_volume.specs.Cost.{cost_of}
use Rattle.hfs_language.specs.declared.command.Command.{Command}
use Rattle.hfs_volume.specs.TreeOf.{tree_of}
use Rattle.hfs_volume.specs.Weight.{Edits, edits_of, room_with, values_of, with_values}
use Rattle.hfs_volume.specs.declared.cost.Cost.{Cost}
use Rattle.hfs_volume.specs.declared.cost.Cost.TheVariants as cost
use Rattle.hfs_volume.specs.declared.cost.Needs.{Needs}
use Rattle.hfs_volume.specs.declared.cost.ValueChange.{ValueChange}
use Rattle.volume_base.specs.Room.{capacity_of, free_in}
use Rattle.volume_base.specs.declared.room.FreeBlocks.TheVariants as blocks
use Rattle.volume_base.specs.declared.volume.Volume.{Volume}

-- this is a load that so many sectors suffice for, and neither the catalog nor the attributes file grows before
abbrev pub is_met : Cost → ℕ → Bool
is_met (cost.Refused why) spare = false
is_met (cost.Load load grow) spare = (slice_index grow 1 == 0) && ((slice_index grow 2 == 0) && nat_le load spare)

-- for each block, whether it may be taken: it is free and not held
abbrev pub takable_in : BlockMap → List Bool
takable_in map = free_in blocks.Takable map

-- the same of a volume
abbrev pub takable_of : Volume → List Bool
takable_of volume = takable_in volume.map

-- what edits need, where no data is put
abbrev pub needs_of : Edits → Needs
needs_of asked = record { ids = asked.ids; edits = 0 ∷ asked.catalog ∷ asked.attributes ∷ []; updates = asked.updates; new_blocks = 0; old_blocks = 0; runs = 0 }

-- so many CNIDs, edits of the catalog and of the attributes file, and records updated in place
abbrev pub wants : ℕ → ℕ → ℕ → ℕ → Edits
wants ids catalog attributes updates = record { ids = ids; catalog = catalog; attributes = attributes; updates = updates }

-- what edits need that also change values, where these blocks are free
abbrev pub needs_of_values : List Bool → Edits → ValueChange → Needs
needs_of_values free asked change = with_values free (Some change) (needs_of asked)

-- edits that also change values can be made now, by what they cost of the blocks that may be taken
abbrev pub AreMetValued : Edits → ValueChange → Volume → Space → Type 0
AreMetValued asked change volume space = is_met (cost_of (needs_of_values (takable_of volume) asked change) (room_with (capacity_of volume) (takable_of volume) (volume_of space.content))) space.spare ≡ true

-- a command that puts no data into a file can be done now, with what it does to values, by what it costs of the blocks that may be taken
abbrev pub IsMetNow : Command → Volume → Space → Type 0
IsMetNow asked volume space =
    is_met (cost_of (with_values (takable_of volume) (values_of (volume_of space.content) (tree_of space.content) asked) (needs_of (edits_of (tree_of space.content) asked))) (room_with (capacity_of volume) (takable_of volume) (volume_of space.content))) space.spare ≡ true

-- edits can be made now, by what they cost of the blocks that may be taken
abbrev pub AreMet : Edits → Volume → Space → Type 0
AreMet asked volume space = is_met (cost_of (needs_of asked) (room_with (capacity_of volume) (takable_of volume) (volume_of space.content))) space.spare ≡ true
