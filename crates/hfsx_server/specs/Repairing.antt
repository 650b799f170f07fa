-- What a repair makes of an image, what a crash in it leaves, and why it refuses one.
use Rattle.std.specs.Prelude.{◌≡◌, ◌≢◌, ◌⊎◌, ◌<◌, ◌≤◌, ◌++◌, ℕ, List, [], ◌∷◌, Contains, codes, length, Result, Ok, Err, nat_lt, if◌then◌else◌}
use Rattle.hx_bytes.specs.declared.faults.Trouble.{Trouble}
use Rattle.hx_bytes.specs.declared.faults.Trouble.TheVariants as trouble
use Rattle.sector_disk.specs.Disk.{IsImage, State, content}
use Rattle.jnl_format.specs.Recovery.{Content, replayed}
use Rattle.jnl_replay.specs.Plan.{journal_of}
use Rattle.jnl_replay.specs.declared.plan.Plan.{Plan}
use Rattle.jnl_store.specs.Plan.{IsCapacityOf}
use Rattle.hfs_language.specs.Text.{field}
use Rattle.hfs_volume.specs.Broken.{IsBroken}
use Rattle.hfs_volume.specs.Mount.{FoldsCase}
use Rattle.hfs_volume.specs.Sound.{IsSound}
use Rattle.volume_repair.specs.Differing.{differing}
use Rattle.volume_repair.specs.Repair.{IsRepair}
use Rattle.fsck_repair.specs.Renewing.{FitInto, IsSoundRepair}
use Rattle.fsck_repair.specs.declared.mend.Mend.{Mend}
use Rattle.fsck_list.specs.Kept.{IsListed}
use Rattle.fsck_list.specs.declared.finding.Finding.{Finding}
use Rattle.fsck_core.specs.Rules.{EachRule}
use Rattle.fsck_core.specs.Verdicts.{KeepsEarly}
use Rattle.fsck_core.specs.Wants.{as_found}
use Rattle.fsck_core.specs.declared.checking.Verdict.{Verdict}
use Rattle.fsck_core.specs.declared.checking.Verdict.TheVariants as verdict
use Rattle.hfs_serving.specs.Checking.{FoldsFirst}
use Rattle.hfs_serving.specs.Opening.{Opens}
use Rattle.hfs_serving.specs.Refusing.{IsOpened, RefusesImage}
use Rattle.image_repair.specs.Mending.{FindsEither, FindsRepair, IsBroughtHome, IsRepairable}
use Rattle.hfsx_server.specs.Telling.{ToldUnlessFailed, case_text, findings_text, open_text, refused_text}
use Rattle.hfsx_server.specs.declared.repairing.Judged.{Judged}
use Rattle.hfsx_server.specs.declared.repairing.Judged.TheVariants as judged
use Rattle.hfsx_server.specs.declared.repairing.Mendable.{Mendable}
use Rattle.hfsx_server.specs.declared.repairing.RepairRefusal.{RepairRefusal}
use Rattle.hfsx_server.specs.declared.repairing.RepairRefusal.TheVariants as refusal
use Rattle.hfsx_server.specs.declared.status.Status.{Status}
use Rattle.hfsx_server.specs.declared.status.Status.TheVariants as status

-- ---- what is told

-- how many sectors differed
abbrev pub repaired_text : ℕ → List ℕ
repaired_text sectors = codes "repaired" ++ field sectors ++ codes "\n"

-- why an image isn't repaired
abbrev pub repair_text : RepairRefusal → List ℕ
repair_text (refusal.Image why) = open_text why
repair_text refusal.CaseFolding = case_text
repair_text (refusal.Unsound list) = findings_text list
repair_text (refusal.TooBig sectors capacity) = refused_text (codes "TooBig") (sectors ∷ capacity ∷ [])

-- ---- what an image is to a repair

-- The repair of a content isn't sound. These were found of it, at least one, of which each is broken there, and one of each broken rule that can be judged;
-- where none of the first ten rules is broken, each place that breaks rules 11 to 14 is listed, or the list is full.
pub record StaysBroken (start : Content) (list : List Finding) : Type 0 where
  pub mended : Content
  pub repair : IsRepair start mended
  pub unsound : ¬ IsSound mended
  pub some : 0 < length list
  pub broken : (f : Finding) → Contains list f → IsBroken mended (as_found f)
  pub each_rule : EachRule mended list
  pub listed : KeepsEarly mended → (f : Finding) → 11 ≤ f.rule → f.rule ≤ 14 → IsBroken mended (as_found f) → IsListed list f

-- The content has a sound repair, which differs in so many sectors.
pub record HasSoundRepair (start : Content) (sectors : ℕ) : Type 0 where
  pub mended : Content
  pub repair : IsRepair start mended
  pub sound : IsSound mended
  pub count : sectors ≡ differing start mended

-- what the judgment of a content says of it and of its repair
abbrev pub IsJudged : Content → Judged → Type 0
IsJudged start judged.CaseFolding = FoldsCase start
IsJudged start (judged.Unsound list) = (¬ FoldsFirst start) × StaysBroken start list
IsJudged start (judged.Sound mend) = IsSoundRepair start mend.changes.items

-- the changes of a sound repair can be put where there are so many sectors
abbrev pub CanBePut : ℕ → Judged → Type 0
CanBePut sectors judged.CaseFolding = Unit {0}
CanBePut sectors (judged.Unsound list) = Unit {0}
CanBePut sectors (judged.Sound mend) = FitInto sectors mend.changes.items

-- A repair finds a volume that it makes sound: a mount opens the image, keys of the catalog aren't compared with letter case folded, and what the image
-- stands for has a sound repair, which differs in no more sectors than one transaction of the journal holds.
pub record IsMendableImage (image : Content) (capacity : ℕ) (start : Content) : Type 0 where
  pub opens : Opens image capacity start
  pub keeps_case : ¬ FoldsCase start
  pub repairable : IsRepairable capacity start

-- for some content
abbrev pub CanBeRepaired : Content → Type 0
CanBeRepaired image = (capacity : ℕ) × (start : Content) × IsMendableImage image capacity start

-- The refusal stands, and none before it does.
abbrev pub RefusesRepair : Content → RepairRefusal → Type 0
RefusesRepair image (refusal.Image why) = RefusesImage image why
RefusesRepair image refusal.CaseFolding = (capacity : ℕ) × (start : Content) × Opens image capacity start × FoldsCase start
RefusesRepair image (refusal.Unsound list) = (capacity : ℕ) × (start : Content) × Opens image capacity start × (¬ FoldsFirst start) × StaysBroken start list
RefusesRepair image (refusal.TooBig sectors capacity) = (start : Content) × Opens image capacity start × HasSoundRepair start sectors × (capacity < sectors)

-- a refusal of the repair stands, and its line was told, or what was found of the repair
abbrev pub ToldRepairRefusal : State → State → Type 0
ToldRepairRefusal old new = (why : RepairRefusal) × RefusesRepair (content old) why × ToldUnlessFailed old new (repair_text why)

-- what the verdict on a repair comes to, which has these changes
abbrev pub judged_by : Verdict → Mend → Judged
judged_by (verdict.Clean summary) mend = judged.Sound mend
judged_by (verdict.Findings list) mend = judged.Unsound list

-- what a judgment comes to, where one transaction holds so many sectors
abbrev pub found_by : Plan → ℕ → Judged → Result Mendable RepairRefusal
found_by plan capacity judged.CaseFolding = Err refusal.CaseFolding
found_by plan capacity (judged.Unsound list) = Err (refusal.Unsound list)
found_by plan capacity (judged.Sound mend) =
    if nat_lt capacity (length mend.changes.items) then Err (refusal.TooBig (length mend.changes.items) capacity) else Ok (record { plan = plan; mend = mend })

-- one transaction of its journal holds the sectors that differ
abbrev pub HasRoom : Mendable → Type 0
HasRoom found = (capacity : ℕ) × IsCapacityOf found.plan capacity × (length found.mend.changes.items ≤ capacity)

-- the status of work that was in trouble
abbrev pub trouble_status : Trouble → Status
trouble_status trouble.Disk = status.Disk
trouble_status trouble.Memory = status.Memory

-- The image was opened with this plan of its journal, and the changes are the repair of what it stands for, which is sound.
pub record IsFoundFor (image : Content) (found : Mendable) : Type 0 where
  pub opened : IsOpened image found.plan
  pub repair : IsSoundRepair (replayed (journal_of found.plan) image) found.mend.changes.items

-- ---- what it leaves

-- Each image that a crash may have left since the first moment is found to be the content or its repair, and the repair once a byte of its line was told.
-- What was told is a front of that line.
pub record KeepsImage (capacity : ℕ) (start : Content) (old new : State) : Type 0 where
  pub crash : (image : Content) (told : List ℕ) → new.clock.left old.clock.moment image (old.told ++ told) → FindsEither capacity start image × (told ≢ [] → FindsRepair capacity start image)
  pub now : (image : Content) → IsImage new.candidates image → FindsEither capacity start image

-- The line of the repair was told, with the number of sectors in which it differs. It stands on the disk, and nothing is pending.
pub record ToldRepaired (capacity : ℕ) (start : Content) (old new : State) : Type 0 where
  pub sectors : ℕ
  pub repair : HasSoundRepair start sectors
  pub told : new.told ≡ old.told ++ repaired_text sectors
  pub finds : FindsRepair capacity start (content new)
  pub home : IsBroughtHome new
