-- What an adoption makes of an image, what a crash leaves of it on the way, and why one is refused.
use Rattle.std.specs.Prelude.{◌≡◌, ◌⊎◌, ◌==◌, not, true, false, length, Option, Some, None, Ok, Err}
use Rattle.volume_header.specs.Refusal.{header_refusal, is_locked}
use Rattle.jnl_format.specs.Recovery.{Content, header_of_volume, recovery, recovery_as, replayed}
use Rattle.jnl_format.specs.declared.dialect.Dialect.TheVariants.{Wide}
use Rattle.jnl_format.specs.declared.structures.JnlRefusal.{JnlRefusal}
use Rattle.jnl_replay.specs.Adopting.{IsAdopted, StandsAdopted, plain_blhdr}
use Rattle.jnl_replay.specs.Homing.{AgreesOutsideJournal}
use Rattle.jnl_replay.specs.Plan.{IsPlanAs, journal_of}
use Rattle.jnl_replay.specs.declared.plan.Plan.{Plan}
use Rattle.image_adopt.specs.declared.answers.Adopted.{Adopted}
use Rattle.image_adopt.specs.declared.answers.Adopted.TheVariants.{Already, Anew}
use Rattle.image_adopt.specs.declared.answers.Made.{Made}
use Rattle.image_adopt.specs.declared.answers.AdoptRefusal.{AdoptRefusal}
use Rattle.image_adopt.specs.declared.answers.AdoptRefusal.TheVariants.{Header, SoftwareLocked, Journal}

-- The volume header is accepted, and the volume isn't locked by software.
pub record MayChange (image : Content) : Type 0 where
  pub accepted : header_refusal (header_of_volume image) (length image) ≡ None
  pub unlocked : is_locked (header_of_volume image).attributes ≡ false

-- An adoption by this plan of the image's journal made what is told of it.
pub record IsMade (made : Made) (plan : Plan) (old new : Content) : Type 0 where
  pub plan_is : IsPlanAs Wide old plan
  pub told : made ≡ record { was = plan.header.blhdr; now = plain_blhdr plan.header.blhdr; live = not (plan.header.start == plan.header.end) }
  pub adopted : IsAdopted plan old new

-- the same by some plan
abbrev pub IsMadeSo : Content → Content → Made → Type 0
IsMadeSo old new made = (plan : Plan) × IsMade made plan old new

-- The plain dialect read the image, which is as it was; or it refused it, the wide one read it, and it is adopted.
abbrev pub IsAdoptedAs : Content → Content → Adopted → Type 0
IsAdoptedAs old new Already = MayChange old × (new ≡ old) × (stood : Content) × (recovery old ≡ Ok stood)
IsAdoptedAs old new (Anew made) = MayChange old × ((why : JnlRefusal) × (recovery old ≡ Err why)) × IsMadeSo old new made

-- the plain dialect reads the image, or it refuses it and the wide one reads it by this plan
abbrev pub IsFoundAs : Content → Option Plan → Type 0
IsFoundAs image None = MayChange image × (stood : Content) × (recovery image ≡ Ok stood)
IsFoundAs image (Some plan) = MayChange image × ((why : JnlRefusal) × (recovery image ≡ Err why)) × IsPlanAs Wide image plan

-- the image itself, or one on the way to its adoption
abbrev pub MayBeAdopted : Content → Content → Type 0
MayBeAdopted old image = (image ≡ old) ⊎ ((plan : Plan) × IsPlanAs Wide old plan × StandsAdopted plan old image)

-- What an adoption by this plan comes to: the plain dialect reads the content as what the image stood for, but in the journal header and the
-- info block.
abbrev pub EndsAs : Plan → Content → Content → Type 0
EndsAs plan old new = (stood : Content) × (recovery new ≡ Ok stood) × AgreesOutsideJournal plan (replayed (journal_of plan) old) stood

-- a refusal is the first that stands: of the header, of the lock, of the journal
abbrev pub RefusesAdoption : Content → AdoptRefusal → Type 0
RefusesAdoption image (Header why) = header_refusal (header_of_volume image) (length image) ≡ Some why
RefusesAdoption image SoftwareLocked = (header_refusal (header_of_volume image) (length image) ≡ None) × (is_locked (header_of_volume image).attributes ≡ true)
RefusesAdoption image (Journal why) = MayChange image × (recovery_as Wide image ≡ Err why)
