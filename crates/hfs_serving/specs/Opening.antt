-- What a mount makes of an image before it looks into the volume.
use Rattle.std.specs.Prelude.{◌≡◌, ◌≤◌, ℕ, false, Ok}
use Rattle.volume_header.specs.Refusal.{is_locked}
use Rattle.jnl_format.specs.Recovery.{Content, Journal, recovery}
use Rattle.jnl_replay.specs.declared.plan.Plan.{Plan}
use Rattle.jnl_store.specs.Plan.{IsCapacityOf}
use Rattle.hfs_volume.specs.Content.{volume_of}
use Rattle.hfs_volume.specs.Mount.{IsOpen, HasJournal, HoldsAtMost, least_capacity}

-- The image is open, and this content is recovered of it, with a journal of which one transaction holds at most so many sectors.
pub record Recovers (image : Content) (capacity : ℕ) (recovered : Content) : Type 0 where
  pub is_open : IsOpen image
  pub journal : Journal
  pub found : HasJournal image journal
  pub holds : HoldsAtMost journal capacity
  pub recovers : recovery image ≡ Ok recovered

-- the same, and the journal is large enough
abbrev pub Opens : Content → ℕ → Content → Type 0
Opens image capacity recovered = Recovers image capacity recovered × (least_capacity ≤ capacity)

-- A volume may be served with this plan of its journal: the journal lies where the content says, software hasn't locked the volume, and a
-- transaction holds at most so many sectors, which are enough.
pub record MayServe (plan : Plan) (capacity : ℕ) (content : Content) : Type 0 where
  pub offset : (volume_of content).journal.offset ≡ plan.info.offset
  pub size : (volume_of content).journal.size ≡ plan.info.size
  pub unlocked : is_locked (volume_of content).head.attributes ≡ false
  pub blhdr : 512 ≤ plan.header.blhdr
  pub holds : IsCapacityOf plan capacity
  pub large : least_capacity ≤ capacity
