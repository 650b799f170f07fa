-- The verdict on a volume that isn't sound.
use Rattle.std.specs.Prelude.{◌≡◌, ◌↔◌, Bool, true, false, IsTrue}
use Rattle.jnl_format.specs.Recovery.{Content}
use Rattle.hfs_serving.specs.Checking.{FoldsFirst}
use Rattle.hfs_serving.specs.declared.checking.Verdict.{Verdict}
use Rattle.hfs_serving.specs.declared.checking.Verdict.TheVariants as verdict

-- by whether it folds letter case
abbrev pub unsound : Bool → Verdict
unsound true = verdict.CaseFolding
unsound false = verdict.Unsound

-- The verdict says whether the content folds letter case, and that it isn't sound.
pub record IsJudged (content : Content) (said : Verdict) : Type 0 where
  pub folds : Bool
  pub is : said ≡ unsound folds
  pub exactly : IsTrue folds ↔ FoldsFirst content
