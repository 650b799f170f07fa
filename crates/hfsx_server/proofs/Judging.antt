-- What is found of an image that is to be repaired.
use Rattle.std.proofs.Common.{◌≡◌, ℕ, Bool, true, false, List, length, refl, sym, subst, cond}
use Rattle.std.specs.Prelude.{◌↔◌, Contains, IfErr, IfOk, IsTrue, Ok, Err, nat_lt}
use Rattle.std.proofs.lemmas.Bool.{ltb-true}
use Rattle.jnl_format.specs.Recovery.{Content, replayed}
use Rattle.jnl_replay.specs.Plan.{journal_of}
use Rattle.jnl_replay.specs.declared.plan.Plan.{Plan}
use Rattle.volume_repair.specs.Differing.{Differs, differing}
use Rattle.volume_repair.specs.Repair.{IsRepair}
use Rattle.fsck_repair.specs.Overlay.{overlaid, places_of}
use Rattle.fsck_repair.specs.Renewing.{FitInto, IsSoundRepair}
use Rattle.fsck_repair.specs.declared.mend.Change.{Change}
use Rattle.fsck_repair.specs.declared.mend.Mend.{Mend}
use Rattle.fsck_core.specs.declared.checking.Verdict.{Verdict}
use Rattle.fsck_core.specs.declared.checking.Verdict.TheVariants as verdict
use Rattle.hfs_serving.specs.Checking.{FoldsFirst}
use Rattle.hfs_serving.specs.Opening.{Opens}
use Rattle.hfs_serving.specs.Refusing.{IsOpened}
use Rattle.hfsx_server.specs.Checking.{Judges}
use Rattle.hfsx_server.specs.Repairing.{CanBePut, HasSoundRepair, IsFoundFor, IsJudged, RefusesRepair, found_by, judged_by}
use Rattle.hfsx_server.specs.declared.repairing.Judged.{Judged}
use Rattle.hfsx_server.specs.declared.repairing.Judged.TheVariants as judged
use Rattle.hfsx_server.specs.declared.repairing.Mendable.{Mendable}
use Rattle.hfsx_server.specs.declared.repairing.RepairRefusal.{RepairRefusal}
use Rattle.hfsx_server.specs.declared.repairing.RepairRefusal.TheVariants as refusal
use Rattle.hfsx_server.proofs.Checked.{none_clean, not_clean}

-- how many sectors a sound repair differs in
pub has_sound : (start : Content) (changes : List Change) → IsSoundRepair start changes → HasSoundRepair start (length changes)
has_sound start changes is = record { mended = overlaid changes start; repair = is.repair; sound = is.sound; count = is.count }

-- the judgment, by the verdict on the repair
pub judged_is : (start : Content) (mend : Mend) (v : Verdict) → (IsTrue false ↔ FoldsFirst start) → IsRepair start (overlaid mend.changes.items start) → length mend.changes.items ≡ differing start (overlaid mend.changes.items start)
    → ((at : ℕ) → Contains (places_of mend.changes.items) at → Differs start (overlaid mend.changes.items start) at) → Judges (overlaid mend.changes.items start) v → IsJudged start (judged_by v mend)
judged_is start mend (verdict.Clean summary) folds repair counted each says = record { repair = repair; sound = says.sound.0 refl; count = counted; each = each }
judged_is start mend (verdict.Findings list) folds repair counted each says = (
  λ first. not_clean false refl (folds.1 first),
  record {
    mended = overlaid mend.changes.items start;
    repair = repair;
    unsound = λ sound. not_clean false refl (says.sound.1 sound);
    some = none_clean list says.some;
    broken = says.broken;
    each_rule = says.each_rule;
    listed = says.listed;
  },
)

pub judged_put : (sectors : ℕ) (mend : Mend) (v : Verdict) → FitInto sectors mend.changes.items → CanBePut sectors (judged_by v mend)
judged_put sectors mend (verdict.Clean summary) fit = fit
judged_put sectors mend (verdict.Findings list) fit = tt

-- ---- what a judgment comes to

module _ (image : Content) (plan : Plan) (capacity : ℕ) (opened : IsOpened image plan) (same : capacity ≡ opened.capacity) where
  pub found_is : (j : Judged) → IsJudged (replayed (journal_of plan) image) j → IfOk (found_by plan capacity j) (IsFoundFor image)
  found_is judged.CaseFolding says = tt
  found_is (judged.Unsound list) says = tt
  found_is (judged.Sound mend) says = by (nat_lt capacity (length mend.changes.items))
    where
      by : (big : Bool) → IfOk (cond big (Err (refusal.TooBig (length mend.changes.items) capacity)) (Ok (record { plan = plan; mend = mend }))) (IsFoundFor image)
      by true = tt
      by false = record { opened = opened; repair = says }

  pub refused_is : (j : Judged) → IsJudged (replayed (journal_of plan) image) j → IfErr (found_by plan capacity j) (RefusesRepair image)
  refused_is judged.CaseFolding says = (opened.capacity, replayed (journal_of plan) image, opened.opens, says)
  refused_is (judged.Unsound list) says = (opened.capacity, replayed (journal_of plan) image, opened.opens, says.0, says.1)
  refused_is (judged.Sound mend) says = by (nat_lt capacity (length mend.changes.items)) refl
    where
      by : (big : Bool) → nat_lt capacity (length mend.changes.items) ≡ big
          → IfErr {T = Mendable} {E = RepairRefusal} (cond big (Err (refusal.TooBig (length mend.changes.items) capacity)) (Ok (record { plan = plan; mend = mend }))) (RefusesRepair image)
      by true is = (
        replayed (journal_of plan) image,
        subst (λ n. Opens image n (replayed (journal_of plan) image)) (sym same) opened.opens,
        has_sound (replayed (journal_of plan) image) mend.changes.items says,
        ltb-true capacity (length mend.changes.items) is,
      )
      by false is = tt

pub found_put : (plan : Plan) (capacity sectors : ℕ) (j : Judged) → CanBePut sectors j → IfOk (found_by plan capacity j) (λ found. FitInto sectors found.mend.changes.items)
found_put plan capacity sectors judged.CaseFolding fit = tt
found_put plan capacity sectors (judged.Unsound list) fit = tt
found_put plan capacity sectors (judged.Sound mend) fit = by (nat_lt capacity (length mend.changes.items))
  where
    by : (big : Bool)
        → IfOk {T = Mendable} {E = RepairRefusal} (cond big (Err (refusal.TooBig (length mend.changes.items) capacity)) (Ok (record { plan = plan; mend = mend }))) (λ found. FitInto sectors found.mend.changes.items)
    by true = tt
    by false = fit
