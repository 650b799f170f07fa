-- What a pass over the numbers of a rule has done to the findings.
use Rattle.std.specs.Prelude.{◌⊎◌, ◌↔◌, ℕ, Bool, List, Contains, IsTrue}
use Rattle.hfs_volume.specs.Broken.{Want, AllMet, IsUnmet}
use Rattle.fsck_list.specs.declared.finding.Finding.{Finding}
use Rattle.fsck_list.specs.Kept.{IsListed}
use Rattle.fsck_core.specs.Wants.{as_found}

-- what was added to the findings are numbers of the rule that aren't those wanted
abbrev pub AddsUnmet : ℕ → List Want → List Finding → List Finding → Type 0
AddsUnmet rule wants old new = (finding : Finding) → Contains new finding → Contains old finding ⊎ IsUnmet rule (as_found finding) wants

-- The numbers of a rule were judged: it is told whether each is the one wanted, and each that isn't is listed.
pub record Judged (rule : ℕ) (wants : List Want) (old new : List Finding) (met : Bool) : Type 0 where
  pub tells : IsTrue met ↔ AllMet wants
  pub listed : (finding : Finding) → IsUnmet rule (as_found finding) wants → IsListed new finding
  pub still : (finding : Finding) → IsListed old finding → IsListed new finding
  pub each : AddsUnmet rule wants old new
