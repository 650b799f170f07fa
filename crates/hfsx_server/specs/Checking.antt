-- What a check says of an image.
use Rattle.std.specs.Prelude.{◌≡◌, ◌⊎◌, ◌↔◌, ◌<◌, ◌≤◌, ◌++◌, List, length, Contains, IsTrue, Ok, Err, None, Some}
use Rattle.sector_disk.specs.Disk.{State, content}
use Rattle.volume_header.specs.Refusal.{header_refusal}
use Rattle.jnl_format.specs.Recovery.{Content, header_of_volume, recovery}
use Rattle.hfs_volume.specs.Broken.{IsBroken}
use Rattle.hfs_volume.specs.Content.{volume_of}
use Rattle.hfs_volume.specs.Sound.{IsSound}
use Rattle.hfs_volume.specs.declared.summary.Summary.{Summary}
use Rattle.fsck_list.specs.Kept.{IsListed}
use Rattle.fsck_list.specs.declared.finding.Finding.{Finding}
use Rattle.fsck_core.specs.Rules.{EachRule}
use Rattle.fsck_core.specs.Verdicts.{HasNumbers, IsCounted, KeepsEarly, findings_in, is_clean}
use Rattle.fsck_core.specs.Wants.{as_found}
use Rattle.fsck_core.specs.declared.checking.Verdict.{Verdict}
use Rattle.hfs_serving.specs.declared.opening.OpenRefusal.{OpenRefusal}
use Rattle.hfs_serving.specs.declared.opening.OpenRefusal.TheVariants as opening
use Rattle.hfsx_server.specs.Telling.{ToldUnlessFailed, clean_text, findings_text, open_text}
use Rattle.hfsx_server.specs.declared.faults.CheckFault.{CheckFault}
use Rattle.hfsx_server.specs.declared.faults.CheckFault.TheVariants as fault

-- the volume header is accepted
abbrev pub IsAccepted : Content → Type 0
IsAccepted image = header_refusal (header_of_volume image) (length image) ≡ None

-- the header of the image is accepted, and with its journal replayed it has this content
pub record StandsFor (image recovered : Content) : Type 0 where
  pub accepted : IsAccepted image
  pub recovers : recovery image ≡ Ok recovered

-- the image stands for a sound volume
abbrev pub IsSoundImage : Content → Type 0
IsSoundImage image = (recovered : Content) × StandsFor image recovered × IsSound recovered

-- The image stands for no content, and this is why. Bit 15 and the size of the journal are looked at by a mount alone.
abbrev pub RefusesCheck : Content → OpenRefusal → Type 0
RefusesCheck image (opening.Header why) = header_refusal (header_of_volume image) (length image) ≡ Some why
RefusesCheck image (opening.Journal why) = IsAccepted image × (recovery image ≡ Err why)
RefusesCheck image opening.SoftwareLocked = ⊥
RefusesCheck image (opening.JournalTooSmall need has) = ⊥

-- a fault of a check: a refusal that stands, or a fault of the disk or of memory
abbrev pub IsCheckFault : Content → CheckFault → Type 0
IsCheckFault image (fault.Refused why) = RefusesCheck image why
IsCheckFault image fault.Disk = Unit {0}
IsCheckFault image fault.Memory = Unit {0}

-- what a verdict says of the content that an image stands for
pub record Judges (recovered : Content) (verdict : Verdict) : Type 0 where
  pub sound : IsTrue (is_clean verdict) ↔ IsSound recovered
  pub counted : IsCounted (volume_of recovered) verdict
  pub some : IsTrue (is_clean verdict) ⊎ (0 < length (findings_in verdict))
  pub broken : (f : Finding) → Contains (findings_in verdict) f → IsBroken recovered (as_found f)
  pub each_rule : EachRule recovered (findings_in verdict)
  pub listed : KeepsEarly recovered → (f : Finding) → 11 ≤ f.rule → f.rule ≤ 14 → IsBroken recovered (as_found f) → IsListed (findings_in verdict) f

-- the verdict is that on what the image stands for
abbrev pub JudgesImage : Content → Verdict → Type 0
JudgesImage image verdict = (recovered : Content) × StandsFor image recovered × Judges recovered verdict

-- The image stands for a sound volume, and the line with its numbers was told.
pub record ToldSound (old new : State) : Type 0 where
  pub recovered : Content
  pub stands : StandsFor (content old) recovered
  pub sound : IsSound recovered
  pub summary : Summary
  pub numbers : HasNumbers (volume_of recovered) summary
  pub told : new.told ≡ old.told ++ clean_text summary

-- The image stands for a content that isn't sound, and findings were told, at least one, of which each is broken there, and one of each broken rule that
-- can be judged. Where none of the first ten rules is broken, each place that breaks rules 11 to 14 is listed, or the list is full.
pub record ToldBroken (old new : State) : Type 0 where
  pub recovered : Content
  pub stands : StandsFor (content old) recovered
  pub list : List Finding
  pub some : 0 < length list
  pub broken : (f : Finding) → Contains list f → IsBroken recovered (as_found f)
  pub each_rule : EachRule recovered list
  pub listed : KeepsEarly recovered → (f : Finding) → 11 ≤ f.rule → f.rule ≤ 14 → IsBroken recovered (as_found f) → IsListed list f
  pub told : ToldUnlessFailed old new (findings_text list)

-- a refusal of a check stands, and its line was told
abbrev pub ToldCheckRefusal : State → State → Type 0
ToldCheckRefusal old new = (why : OpenRefusal) × RefusesCheck (content old) why × ToldUnlessFailed old new (open_text why)
