-- A symbolic link that is made: the room for it, and what it leaves of a volume's lists.
use Rattle.std.specs.Prelude.{◌≡◌, ◌<◌, ◌≤◌, ℕ, ◌+◌, ◌*◌, ◌/◌, ◌^◌, min, false, IsTrue, [], ◌∷◌, length, Some}
use Rattle.sector_disk.specs.Space.{Space}
use Rattle.jnl_format.specs.Keeping.{IsSame}
use Rattle.alloc_bitmap.specs.Map.{free_of}
use Rattle.flag_rows.specs.Bits.{count_set, sectors_for}
use Rattle.flag_rows.specs.Runs.{fewest_of}
use Rattle.hfs_volume.specs.Content.{VolumeState, volume_of}
use Rattle.hfs_volume.specs.Cost.{catalog_key, cost_of, growth, is_too_deep}
use Rattle.hfs_volume.specs.Data.{PutsInForkOf}
use Rattle.hfs_volume.specs.Forks.{data_kind, parts_for}
use Rattle.hfs_volume.specs.Reclaim.{GrowsTrees, SameValues}
use Rattle.hfs_volume.specs.Weight.{free_blocks, free_runs, room_with}
use Rattle.hfs_volume.specs.declared.cost.Cost.TheVariants as cost
use Rattle.volume_base.specs.DataWeighing.{needs_target, target_of}
use Rattle.volume_base.specs.Fitting.{takable_of}
use Rattle.volume_base.specs.Making.{catalog_cost, make_load}
use Rattle.volume_base.specs.Room.{capacity_of}
use Rattle.volume_base.specs.declared.volume.Volume.{Volume}
use Rattle.volume_base.specs.declared.weighing.Weight.{Weight}
use Rattle.volume_base.specs.declared.weighing.Weight.TheVariants as answer

-- the sectors of the bitmap that have bits which change where so many blocks are taken, at most
abbrev pub link_bits : ℕ → Volume → ℕ
link_bits blocks volume = min (sectors_for (length volume.map.used)) (blocks / 4096 + 2 * fewest_of blocks (free_runs (free_of volume.map)))

-- There are these blocks for the target of a link, a CNID for its file, and room to put the header and the bitmap; where the space tells, there is room
-- for its record and its folder's, too, and the catalog needn't grow before.
pub record HasRoomToLink (long blocks : ℕ) (volume : Volume) (space : Space) : Type 0 where
  pub some : 0 < long
  pub short : long ≤ 1023
  pub many : blocks ≡ parts_for long volume.header.block_size
  pub free : blocks ≤ count_set (free_of volume.map)
  pub ids : volume.header.next_catalog_id + 1 < 2 ^ 32
  pub spare : link_bits blocks volume + 1 ≤ space.spare
  pub told : IsTrue space.tells → (make_load volume + link_bits blocks volume ≤ space.spare) × (is_too_deep catalog_key (catalog_cost volume) 2 ≡ false) × (growth volume.header.block_size catalog_key (catalog_cost volume) 2 ≡ 0)

-- A link whose target has so many bytes costs a load for which there is room, of all free blocks and of those that may be taken; no tree has to grow.
pub record FitsTarget (long : ℕ) (volume : Volume) (space : Space) : Type 0 where
  pub some : 0 < long
  pub short : long ≤ 1023
  pub whole : ℕ
  pub all : cost_of (needs_target (free_blocks (volume_of space.content)) (volume_of space.content) long) (room_with (capacity_of volume) (free_blocks (volume_of space.content)) (volume_of space.content)) ≡ cost.Load whole (0 ∷ 0 ∷ 0 ∷ [])
  pub load : ℕ
  pub now : cost_of (needs_target (takable_of volume) (volume_of space.content) long) (room_with (capacity_of volume) (takable_of volume) (volume_of space.content)) ≡ cost.Load load (0 ∷ 0 ∷ 0 ∷ [])
  pub within : load ≤ space.spare

-- A new link's file has blocks for a target of so many bytes, which were free; nothing else has other blocks, and the journal lies where it lay.
pub record LeavesLink (long : ℕ) (before after : VolumeState) : Type 0 where
  pub grows : GrowsTrees (0 ∷ 0 ∷ 0 ∷ []) before after
  pub forks : PutsInForkOf data_kind (Some (target_of before long)) before after
  pub values : SameValues before after
  pub journal : after.journal ≡ before.journal
  pub flags : after.head.attributes ≡ before.head.attributes
  pub numbers : IsSame before.head after.head

-- the weight is a load that so many sectors suffice for
abbrev pub IsLight : Weight → ℕ → Type 0
IsLight (answer.Load sectors grow) spare = sectors ≤ spare
IsLight weight spare = ⊥
