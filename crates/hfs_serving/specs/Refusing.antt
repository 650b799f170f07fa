-- Why a mount refuses an image, before it looks into the volume.
use Rattle.std.specs.Prelude.{◌≡◌, ◌<◌, ℕ, length, true, Some, None, Err}
use Rattle.volume_header.specs.Refusal.{header_refusal, is_locked}
use Rattle.jnl_format.specs.Recovery.{Content, header_of_volume, recovery, replayed}
use Rattle.jnl_replay.specs.Plan.{IsPlan, journal_of}
use Rattle.jnl_replay.specs.declared.plan.Plan.{Plan}
use Rattle.jnl_store.specs.Plan.{IsCapacityOf}
use Rattle.hfs_volume.specs.Mount.{IsOpen, least_capacity}
use Rattle.hfs_serving.specs.Opening.{Opens, Recovers}
use Rattle.hfs_serving.specs.declared.opening.OpenRefusal.{OpenRefusal}
use Rattle.hfs_serving.specs.declared.opening.OpenRefusal.TheVariants as refusal

-- The image is open with this plan of its journal, of which one transaction holds at most so many sectors, which are enough.
pub record IsOpened (image : Content) (plan : Plan) : Type 0 where
  pub plan_is : IsPlan image plan
  pub capacity : ℕ
  pub holds : IsCapacityOf plan capacity
  pub opens : Opens image capacity (replayed (journal_of plan) image)

-- The refusal stands, and none before it does.
abbrev pub RefusesImage : Content → OpenRefusal → Type 0
RefusesImage image (refusal.Header why) = header_refusal (header_of_volume image) (length image) ≡ Some why
RefusesImage image refusal.SoftwareLocked = (header_refusal (header_of_volume image) (length image) ≡ None) × (is_locked (header_of_volume image).attributes ≡ true)
RefusesImage image (refusal.Journal why) = IsOpen image × (recovery image ≡ Err why)
RefusesImage image (refusal.JournalTooSmall need has) = (recovered : Content) × Recovers image has recovered × (need ≡ least_capacity) × (has < need)

-- a transaction of the plan's journal holds too few sectors
abbrev pub RefusesPlan : Plan → OpenRefusal → Type 0
RefusesPlan plan (refusal.JournalTooSmall need has) = IsCapacityOf plan has × (need ≡ least_capacity) × (has < need)
RefusesPlan plan _ = ⊥
