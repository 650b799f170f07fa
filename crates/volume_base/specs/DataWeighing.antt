-- What data weighs that a command puts into a file.
use Rattle.std.specs.Prelude.{ℕ, max, Bool, List, Some}
use Rattle.hfs_volume.specs.Content.{VolumeState}
use Rattle.hfs_volume.specs.Cost.{cost_of}
use Rattle.hfs_volume.specs.Weight.{Data, edits, free_blocks, needs_in, room_with}
use Rattle.hfs_volume.specs.Forks.{data_kind}
use Rattle.hfs_volume.specs.declared.cost.Needs.{Needs}
use Rattle.volume_base.specs.Weighing.{joined}
use Rattle.volume_base.specs.declared.data_cost.Put.{Put}
use Rattle.volume_base.specs.declared.weighing.Weight.{Weight}

-- what is put into a file: it ends where it ended, or where the new bytes end
abbrev pub data_as : Put → Data
data_as put = record { id = put.id; old_size = put.old_size; new_size = max put.old_size put.end; from = put.from; end = put.end }

-- what it needs of a volume with these lists in the fork of this kind, where these blocks are free
abbrev pub needs_data_in : ℕ → List Bool → VolumeState → Data → Needs
needs_data_in kind free volume put = needs_in kind free volume (edits 0 0 0 1) (Some put)

-- what it weighs, where these blocks may be taken
abbrev pub data_weighed_in : ℕ → ℕ → List Bool → VolumeState → Data → Weight
data_weighed_in kind capacity takable volume put =
    joined (cost_of (needs_data_in kind (free_blocks volume) volume put) (room_with capacity (free_blocks volume) volume)) (cost_of (needs_data_in kind takable volume put) (room_with capacity takable volume))

-- the same in a data fork
abbrev pub needs_data : List Bool → VolumeState → Data → Needs
needs_data free volume put = needs_data_in data_kind free volume put

abbrev pub data_weighed : ℕ → List Bool → VolumeState → Data → Weight
data_weighed capacity takable volume put = data_weighed_in data_kind capacity takable volume put

-- ---- a new link

-- the target of a new link, of so many bytes: the file with the next CNID has no block yet
abbrev pub target_of : VolumeState → ℕ → Data
target_of volume long = record { id = volume.head.next_catalog_id; old_size = 0; new_size = long; from = 0; end = long }

-- what it needs with the link's record and thread, where these blocks are free
abbrev pub needs_target : List Bool → VolumeState → ℕ → Needs
needs_target free volume long = needs_in data_kind free volume (edits 1 2 0 1) (Some (target_of volume long))

-- what it weighs, where these blocks may be taken
abbrev pub target_weighed : ℕ → List Bool → VolumeState → ℕ → Weight
target_weighed capacity takable volume long =
    joined (cost_of (needs_target (free_blocks volume) volume long) (room_with capacity (free_blocks volume) volume)) (cost_of (needs_target takable volume long) (room_with capacity takable volume))
