-- Zero blocks that are filled ahead of a growth, and the growth in hand.
use Rattle.std.specs.Prelude.{◌≡◌, ◌≤◌, ℕ, ◌*◌, ◌/◌, ◌==◌, ◌&&◌, Bool, true, false, IsTrue, Option, None, Some, Result, OnOk, length, slice_index_or, if◌then◌else◌}
use Rattle.std.specs.List.{Contains}
use Rattle.hx_bytes.specs.declared.faults.Trouble.{Trouble}
use Rattle.sector_disk.specs.Lists.{Content}
use Rattle.sector_disk.specs.Space.{SameRoom, SameSpace, Space}
use Rattle.flag_rows.specs.Bits.{count_set}
use Rattle.alloc_bitmap.specs.Map.{free_of}
use Rattle.btree_edit.specs.Causes.{HasTroubleCause}
use Rattle.file_io.specs.Bytes.{HoldZeros, IsBlockSize, sectors_in}
use Rattle.file_io.specs.Places.{fresh_of, new_blocks, zeros_at}
use Rattle.hfs_volume.specs.Forks.{per_block_of}
use Rattle.volume_base.specs.Frame.{Serves}
use Rattle.volume_base.specs.Service.{IsInService}
use Rattle.volume_base.specs.Standing.{own_sectors}
use Rattle.volume_base.specs.Touching.{Touches}
use Rattle.volume_base.specs.declared.volume.Filling.{Filling}
use Rattle.volume_base.specs.declared.volume.Volume.{Volume}
use Rattle.volume_base.specs.Holding.{IsLaidOutAs}
use Rattle.volume_base.specs.Holding.{HoldsOn}

-- how many blocks a growth takes
abbrev pub blocks_taken : Volume → Filling → ℕ
blocks_taken volume it = new_blocks volume.header.block_size it.old_size it.old_size it.new_size

-- The growth in hand will take these blocks, which are free, and of those that lie wholly past the old size so many hold zeros.
pub record IsInHand (volume : Volume) (it : Filling) (space : Space) : Type 0 where
  pub blocks : it.blocks ≡ fresh_of volume.map (blocks_taken volume it)
  pub enough : blocks_taken volume it ≤ count_set (free_of volume.map)
  pub place : it.place ≡ zeros_at volume.header.block_size it.old_size it.old_size it.new_size
  pub zeros : IsTrue space.tells → HoldZeros space.content (sectors_in volume.header.block_size it.blocks) (it.place * (volume.header.block_size / 512)) (it.done * (volume.header.block_size / 512))

-- Where a growth is in hand, its blocks hold what they are said to hold.
abbrev pub HasFilled : Volume → Space → Type 0
HasFilled volume space = (it : Filling) → volume.filling ≡ Some it → IsInHand volume it space

-- it is a growth of this file from one size to another
abbrev pub is_growth_of : Filling → (id old_size new_size : ℕ) → Bool
is_growth_of it id old_size new_size = it.id == id && (it.old_size == old_size && it.new_size == new_size)

-- whether this growth is in hand
abbrev pub is_in_hand : Option Filling → (id old_size new_size : ℕ) → Bool
is_in_hand None id old_size new_size = false
is_in_hand (Some it) id old_size new_size = is_growth_of it id old_size new_size

-- how many zero blocks of this growth hold zeros by now: none where another is in hand
abbrev pub done_of : Option Filling → (id old_size new_size : ℕ) → ℕ
done_of None id old_size new_size = 0
done_of (Some it) id old_size new_size = if is_growth_of it id old_size new_size then it.done else 0

-- The volume's blocks lie in the space, and that of the header is in use.
pub record IsSureToFill (volume : Volume) (space : Space) : Type 0 where
  pub block : IsBlockSize volume.header.block_size
  pub fits : length volume.map.used * per_block_of volume.header ≤ space.sectors
  pub header : slice_index_or volume.map.used (2 / per_block_of volume.header) false ≡ true

-- A fill ran, with an answer or a fault: of the volume only the growth in hand is another, and it is in service. Nothing is put, and blocks are spilled that
-- were free at the last commit. Behind an answer the volume serves, and the growth in hand is filled as it says.
pub record Fills {S T : Type 0} (space_of : S → Space) (follows : S → S → Type 0) (old new : Volume) (before after : S) (result : Result T Trouble) : Type 0 where
  pub below : follows before after
  pub cause : HasTroubleCause (space_of before).faults (space_of after).faults result
  pub rest : new ≡ record old { filling = new.filling }
  pub service : IsInService new (space_of after)
  pub serves : OnOk result (Serves new (space_of after))
  pub filled : OnOk result (HasFilled new (space_of after))
  pub touches : (committed : Content) → HoldsOn committed old → IsLaidOutAs committed old → Touches committed (λ s. Contains (own_sectors old) s) (space_of before) (space_of after)
  pub room : SameRoom (space_of before) (space_of after)
  pub same : SameSpace (space_of before) (space_of after)
