-- From a verdict to what a mount answers.
use Rattle.std.specs.Prelude.{List, IfOk, IfErr}
use Rattle.jnl_format.specs.Recovery.{Content, replayed}
use Rattle.jnl_replay.specs.Plan.{journal_of}
use Rattle.jnl_replay.specs.declared.plan.Plan.{Plan}
use Rattle.hfs_volume.specs.Broken.{Finding}
use Rattle.hfs_serving.specs.Checking.{IsFound, IsVerdict, RefusesMount, judged}
use Rattle.hfs_serving.specs.Refusing.{IsOpened}
use Rattle.hfs_serving.specs.declared.checking.Verdict.{Verdict}
use Rattle.hfs_serving.specs.declared.checking.Verdict.TheVariants as verdict

module _ (image : Content) (plan : Plan) (findings : List Finding) (opened : IsOpened image plan) where
  pub judged_found : (v : Verdict) → IsVerdict (replayed (journal_of plan) image) findings v → IfOk (judged plan v) (IsFound image)
  judged_found verdict.Sound is = record { opened = opened; sound = is }
  judged_found verdict.CaseFolding is = tt
  judged_found verdict.Unsound is = tt

  pub judged_refused : (v : Verdict) → IsVerdict (replayed (journal_of plan) image) findings v → IfErr (judged plan v) (RefusesMount image findings)
  judged_refused verdict.Sound is = tt
  judged_refused verdict.CaseFolding is = (opened.capacity, replayed (journal_of plan) image, opened.opens, is)
  judged_refused verdict.Unsound is = (opened.capacity, replayed (journal_of plan) image, opened.opens, is)
