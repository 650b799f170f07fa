-- Where the journal of an image is looked for, and why it isn't.
use Rattle.std.specs.Prelude.{◌≡◌, ◌<◌, ◌≤◌, ℕ, length, true, false, Some, None}
use Rattle.volume_header.specs.Refusal.{header_refusal, is_locked, is_volume_size}
use Rattle.jnl_format.specs.Recovery.{Content, header_of_volume}
use Rattle.jnl_replay.specs.Plan.{IsPlace}
use Rattle.jnl_replay.specs.declared.plan.Place.{Place}
use Rattle.jnl_replay.specs.declared.finding.VolumeRefusal.{VolumeRefusal}
use Rattle.jnl_replay.specs.declared.finding.VolumeRefusal.TheVariants.{Header, SoftwareLocked}

-- The place is what the content's volume header says, which is accepted, and the volume isn't locked by software.
pub record IsFound (content : Content) (place : Place) : Type 0 where
  pub says : IsPlace content place
  pub unlocked : is_locked (header_of_volume content).attributes ≡ false

-- a disk of so many sectors has a volume's size, and the info block lies on it
pub record FitsPlace (total : ℕ) (place : Place) : Type 0 where
  pub size : is_volume_size total ≡ true
  pub sectors : total ≤ 2147483648
  pub info_sector : place.info_sector < total

-- a refusal is the first that stands: of the header, of the lock
abbrev pub RefusesVolume : Content → VolumeRefusal → Type 0
RefusesVolume content (Header why) = header_refusal (header_of_volume content) (length content) ≡ Some why
RefusesVolume content SoftwareLocked = (header_refusal (header_of_volume content) (length content) ≡ None) × (is_locked (header_of_volume content).attributes ≡ true)
