-- Lines that are told before the program ends.
use Rattle.std.specs.Prelude.{◌≡◌, ◌⊎◌, ◌≤◌, ◌++◌, ℕ, true, List, [], ◌∷◌, IsTrue, Result, OnOk, codes, decimal, length, map, nat_lt, if◌then◌else◌}
use Rattle.std.specs.List.{flat_map}
use Rattle.sector_disk.specs.Cause.{Rose, HasCause}
use Rattle.sector_disk.specs.Disk.{State, SameDisk, ToldPrefix, content}
use Rattle.hfsx_server.specs.declared.refusal.SizeRefusal.{SizeRefusal}
use Rattle.hfsx_server.specs.declared.refusal.SizeRefusal.TheVariants.{TooSmall, TooLarge}
use Rattle.volume_header.specs.declared.refusal.HeaderRefusal.{HeaderRefusal}
use Rattle.volume_header.specs.declared.refusal.HeaderRefusal.TheVariants as header
use Rattle.jnl_format.specs.declared.structures.JnlRefusal.{JnlRefusal}
use Rattle.jnl_format.specs.declared.structures.JnlRefusal.TheVariants as jnl
use Rattle.hfs_language.specs.Text.{field, fields}
use Rattle.jnl_format.specs.Recovery.{Content}
use Rattle.hfs_volume.specs.Mount.{Mounts}
use Rattle.hfs_volume.specs.TreeOf.{tree_of}
use Rattle.hfs_volume.specs.declared.summary.Summary.{Summary}
use Rattle.fsck_list.specs.declared.finding.Finding.{Finding}
use Rattle.fsck_core.specs.Wants.{as_found}
use Rattle.hfs_serving.specs.Checking.{RefusesMount}
use Rattle.hfs_serving.specs.declared.checking.MountRefusal.{MountRefusal}
use Rattle.hfs_serving.specs.declared.checking.MountRefusal.TheVariants as mount
use Rattle.hfs_serving.specs.declared.opening.OpenRefusal.{OpenRefusal}
use Rattle.hfs_serving.specs.declared.opening.OpenRefusal.TheVariants as opening
use Rattle.open_files.specs.Keeping.{is_taken}

-- how the program is called
abbrev pub usage_text : List ℕ
usage_text = codes "usage: hfsx format IMAGE SECTORS | run IMAGE | check IMAGE | gen SEED COUNT | sessions IMAGE | repair IMAGE\n"

-- the line of a refusal: its name and its numbers
abbrev pub refused_text : List ℕ → List ℕ → List ℕ
refused_text name numbers = codes "refused " ++ name ++ fields numbers ++ codes "\n"

-- a size that isn't formatted
abbrev pub refusal_text : SizeRefusal → List ℕ
refusal_text (TooSmall sectors) = refused_text (codes "TooSmall") (sectors ∷ [])
refusal_text (TooLarge sectors) = refused_text (codes "TooLarge") (sectors ∷ [])

-- a volume header that isn't accepted
abbrev pub header_text : HeaderRefusal → List ℕ
header_text (header.LimitSectors sectors) = refused_text (codes "LimitSectors") (sectors ∷ [])
header_text (header.NotHfsx signature version) = refused_text (codes "NotHfsx") (signature ∷ version ∷ [])
header_text (header.BadGeometry offset) = refused_text (codes "BadGeometry") (offset ∷ [])
header_text header.NotJournaled = refused_text (codes "NotJournaled") []
header_text header.IdsReused = refused_text (codes "IdsReused") []

-- a journal that can't be replayed
abbrev pub journal_text : JnlRefusal → List ℕ
journal_text (jnl.BadInfo offset) = refused_text (codes "BadInfo") (offset ∷ [])
journal_text jnl.OtherDevice = refused_text (codes "OtherDevice") []
journal_text (jnl.BadHeader offset) = refused_text (codes "BadHeader") (offset ∷ [])
journal_text (jnl.BadList offset) = refused_text (codes "BadList") (offset ∷ [])
journal_text (jnl.ForeignJournal version) = refused_text (codes "ForeignJournal") (version ∷ [])

-- an image that isn't opened
abbrev pub open_text : OpenRefusal → List ℕ
open_text (opening.Header why) = header_text why
open_text opening.SoftwareLocked = refused_text (codes "SoftwareLocked") []
open_text (opening.Journal why) = journal_text why
open_text (opening.JournalTooSmall need has) = refused_text (codes "JournalTooSmall") (need ∷ has ∷ [])

-- a volume that folds the case of letters
abbrev pub case_text : List ℕ
case_text = refused_text (codes "CaseFolding") []

-- a volume whose keeping folder isn't the sessions' own
abbrev pub taken_text : List ℕ
taken_text = refused_text (codes "OpenTaken") []

-- why an image of so many sectors isn't formatted
abbrev pub size_refusal : ℕ → SizeRefusal
size_refusal sectors = if nat_lt sectors 16384 then TooSmall sectors else TooLarge sectors

-- what is told of a volume that was formatted: its blocks, and those that are free
abbrev pub formatted_text : ℕ → ℕ → List ℕ
formatted_text blocks free = codes "formatted" ++ field blocks ++ (codes " blocks," ++ field free ++ codes " free\n")

-- what is told of a sound volume: its files, its folders, its blocks, and those that are free
abbrev pub clean_text : Summary → List ℕ
clean_text summary = codes "clean files" ++ field summary.files ++ (codes " folders" ++ field summary.folders) ++ (codes " blocks" ++ field summary.blocks) ++ (codes " free" ++ field summary.free ++ codes "\n")

-- a finding: its rule, its place, what is found there and what is wanted
abbrev pub finding_text : Finding → List ℕ
finding_text f = codes "S" ++ decimal f.rule ++ fields (f.place ∷ f.found ∷ f.wanted ∷ []) ++ codes "\n"

-- what is told of a volume that isn't sound: each finding, and how many there are
abbrev pub findings_text : List Finding → List ℕ
findings_text list = flat_map finding_text list ++ (codes "findings" ++ field (length list) ++ codes "\n")

-- what is told of an image that isn't served: its refusal, or what is found of its volume
abbrev pub mount_text : List Finding → MountRefusal → List ℕ
mount_text list (mount.Image why) = open_text why
mount_text list mount.CaseFolding = case_text
mount_text list mount.Unsound = findings_text list

-- the text was told, or the sink failed after a front of it
abbrev pub ToldUnlessFailed : State → State → List ℕ → Type 0
ToldUnlessFailed old new text = (new.told ≡ old.told ++ text) ⊎ (Rose old.sink_faults new.sink_faults × ToldPrefix old.told text new.told)

-- the text was told where the call answers Ok, and a front of it else, and the disk was left alone
pub record Telling {T E : Type 0} (old new : State) (text : List ℕ) (result : Result T E) : Type 0 where
  pub told : IsTrue old.tells → OnOk result (new.told ≡ old.told ++ text)
  pub unsure : IsTrue old.tells → ToldPrefix old.told text new.told
  pub candidates : new.candidates ≡ old.candidates
  pub barriers : new.barriers ≡ old.barriers
  pub faults : new.faults ≡ old.faults
  pub same : SameDisk old new
  pub cause : HasCause old.sink_faults new.sink_faults result

-- this text was told, and the disk was left alone
pub record Tells (old new : State) (text : List ℕ) : Type 0 where
  pub told : IsTrue old.tells → ToldUnlessFailed old new text
  pub candidates : new.candidates ≡ old.candidates
  pub barriers : new.barriers ≡ old.barriers
  pub faults : new.faults ≡ old.faults
  pub sink : old.sink_faults ≤ new.sink_faults
  pub same : SameDisk old new

-- a refusal of the image stands, and its line was told, or what is found of its volume
abbrev pub ToldRefusal : State → State → Type 0
ToldRefusal old new = (list : List Finding) × (why : MountRefusal) × RefusesMount (content old) (map as_found list) why × ToldUnlessFailed old new (mount_text list why)

-- the image was mounted, its keeping folder isn't the sessions' own, and the line of that was told
abbrev pub ToldTaken : State → State → Type 0
ToldTaken old new = (capacity : ℕ) × (start : Content) × Mounts (content old) capacity start × (is_taken (tree_of start) ≡ true) × ToldUnlessFailed old new taken_text
