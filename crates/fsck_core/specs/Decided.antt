-- A rule that is decided: whether it holds, and what is found where it doesn't.
use Rattle.std.specs.Prelude.{◌≡◌, ◌⊎◌, ◌↔◌, ◌<◌, ℕ, Bool, true, false, List, Contains, IsTrue}
use Rattle.fsck_list.specs.declared.finding.Finding as listed
use Rattle.fsck_list.specs.Kept.{IsListed}
use Rattle.hfs_volume.specs.Broken.{Finding, IsFailed}
use Rattle.fsck_core.specs.Wants.{as_found}

-- what was added to the findings is said so
abbrev pub Adds : (Finding → Type 0) → List listed.Finding → List listed.Finding → Type 0
Adds Says old new = (finding : listed.Finding) → Contains new finding → Contains old finding ⊎ Says (as_found finding)

-- what was listed still is
abbrev pub StaysListed : List listed.Finding → List listed.Finding → Type 0
StaysListed old new = (finding : listed.Finding) → IsListed old finding → IsListed new finding

-- a finding that is said so is listed
abbrev pub IsTold : (Finding → Type 0) → List listed.Finding → Type 0
IsTold Says list = (finding : listed.Finding) × Says (as_found finding) × IsListed list finding

-- where something of this is said, a finding of it is listed
abbrev pub TellsOf : (Finding → Type 0) → List listed.Finding → Type 0
TellsOf Says list = (finding : Finding) → Says finding → IsTold Says list

-- the same, or a finding of what is judged first is listed
abbrev pub TellsAfter : (First Says : Finding → Type 0) → List listed.Finding → Type 0
TellsAfter First Says list = IsTold First list ⊎ TellsOf Says list

-- Something was decided: it is told whether it holds, where it doesn't a finding of it is listed, and each that was added is said so.
pub record Decided (Says : Finding → Type 0) (P : Type 0) (old new : List listed.Finding) (met : Bool) : Type 0 where
  pub tells : IsTrue met ↔ P
  pub found : met ≡ false → IsTold Says new
  pub still : StaysListed old new
  pub each : Adds Says old new

-- the first so many places pass a test
abbrev pub AllPass : (ℕ → Bool) → ℕ → Type 0
AllPass test n = (k : ℕ) → k < n → test k ≡ true

-- a finding of a rule at one of the first so many places, which doesn't pass a test
abbrev pub IsMissed : ℕ → (ℕ → Bool) → (ℕ → ℕ) → ℕ → Finding → Type 0
IsMissed rule test place_of n finding = IsFailed rule finding (λ place. (k : ℕ) × (k < n) × (place_of k ≡ place) × (test k ≡ false))
