-- What a check finds, and why it refuses an image.
use Rattle.std.specs.Prelude.{◌↔◌, ◌≤◌, Contains, IfOk}
use Rattle.std.proofs.Common.{◌≡◌, ◌⊎◌, ◌<◌, ◌++◌, ℕ, Bool, false, List, IsTrue, Result, Ok, Err, None, ⊎_elim, length, refl, sym, ◌∙◌, ap, subst}
use Rattle.sector_disk.specs.Disk.{State, content}
use Rattle.volume_header.specs.Refusal.{header_refusal}
use Rattle.volume_header.specs.declared.header.VolumeHeader.{VolumeHeader}
use Rattle.jnl_format.specs.Recovery.{Content, header_of_volume, recovery}
use Rattle.hfs_volume.specs.Sound.{IsSound}
use Rattle.hfs_volume.specs.declared.summary.Summary.{Summary}
use Rattle.fsck_list.specs.declared.finding.Finding.{Finding}
use Rattle.fsck_core.specs.Rules.{EachRule}
use Rattle.fsck_core.specs.Verdicts.{IsCounted, KeepsEarly, findings_in, is_clean}
use Rattle.fsck_core.specs.Wants.{as_found}
use Rattle.fsck_list.specs.Kept.{IsListed}
use Rattle.hfs_volume.specs.Broken.{IsBroken}
use Rattle.hfs_volume.specs.Content.{volume_of}
use Rattle.fsck_core.specs.declared.checking.Verdict.{Verdict}
use Rattle.fsck_core.specs.declared.checking.Verdict.TheVariants as verdict
use Rattle.hfsx_server.specs.Checking.{IsSoundImage, Judges, JudgesImage, RefusesCheck, StandsFor, ToldBroken, ToldSound}
use Rattle.hfsx_server.specs.Telling.{ToldUnlessFailed, clean_text, findings_text}
use Rattle.hfs_serving.specs.declared.opening.OpenRefusal.{OpenRefusal}
use Rattle.hfs_serving.specs.declared.opening.OpenRefusal.TheVariants as opening
use Rattle.hfsx_server.proofs.Finding.{same_recovered}
use Rattle.hfsx_server.proofs.Telling.{told_from}

-- ---- refusals

pub refused_unsound : (c : Content) (why : OpenRefusal) → RefusesCheck c why → ¬ IsSoundImage c
refused_unsound c (opening.Header why) is sound = absurd (cc (is, sound.1.accepted))
refused_unsound c (opening.Journal why) is sound = absurd (cc (is.1, sound.1.recovers))
refused_unsound c opening.SoftwareLocked is sound = is
refused_unsound c (opening.JournalTooSmall need has) is sound = is

-- ---- verdicts

pub not_clean : (b : Bool) → b ≡ false → IsTrue b → ⊥
not_clean b none is = absurd (cc (none, is))

pub broken_unsound : (c : Content) (found : Verdict) → JudgesImage c found → is_clean found ≡ false → ¬ IsSoundImage c
broken_unsound c found judged none sound =
    let same : sound.0 ≡ judged.0 = same_recovered c sound.0 judged.0 sound.1.recovers judged.1.recovers in
    not_clean (is_clean found) none (judged.2.sound.1 (subst IsSound same sound.2))

pub told_sound : (old mid new : State) (summary : Summary) → JudgesImage (content old) (verdict.Clean summary) → mid.told ≡ old.told → new.told ≡ mid.told ++ clean_text summary → ToldSound old new
told_sound old mid new summary judged same told = record {
  recovered = judged.0;
  stands = judged.1;
  sound = judged.2.sound.0 refl;
  summary = summary;
  numbers = judged.2.counted;
  told = told ∙ ap (λ (l : List ℕ). l ++ clean_text summary) same;
}

pub none_clean : (list : List Finding) → IsTrue (is_clean (verdict.Findings list)) ⊎ (0 < length list) → 0 < length list
none_clean list some = ⊎_elim (λ (clean : IsTrue (is_clean (verdict.Findings list))). absurd (not_clean false refl clean)) (λ found. found) some

pub told_broken : (old mid new : State) (list : List Finding) → JudgesImage (content old) (verdict.Findings list) → mid.told ≡ old.told → mid.sink_faults ≡ old.sink_faults → ToldUnlessFailed mid new (findings_text list) → ToldBroken old new
told_broken old mid new list judged same faults told = record {
  recovered = judged.0;
  stands = judged.1;
  list = list;
  some = none_clean list judged.2.some;
  broken = judged.2.broken;
  each_rule = judged.2.each_rule;
  listed = judged.2.listed;
  told = told_from old mid new (findings_text list) same faults told;
}

-- ---- the verdict of a check

-- what is said of each verdict clause by clause
pub judges_of : {E : Type 0} (c : Content) (r : Result Verdict E) → IfOk r (λ found. IsTrue (is_clean found) ↔ IsSound c) → IfOk r (IsCounted (volume_of c)) → IfOk r (λ found. IsTrue (is_clean found) ⊎ (0 < length (findings_in found)))
    → IfOk r (λ found. (f : Finding) → Contains (findings_in found) f → IsBroken c (as_found f)) → IfOk r (λ found. EachRule c (findings_in found))
    → (KeepsEarly c → IfOk r (λ found. (f : Finding) → 11 ≤ f.rule → f.rule ≤ 14 → IsBroken c (as_found f) → IsListed (findings_in found) f)) → IfOk r (Judges c)
judges_of c (Ok found) sound counted some broken rules listed = record { sound = sound; counted = counted; some = some; broken = broken; each_rule = rules; listed = listed }
judges_of c (Err e) sound counted some broken rules listed = tt

-- what an image stands for whose header was read, and accepted, and whose journal was found
pub stands_for : (c : Content) (head : VolumeHeader) (sectors : ℕ) (recovered : Content) → head ≡ header_of_volume c → header_refusal head sectors ≡ None → length c ≡ sectors → recovery c ≡ Ok recovered → StandsFor c recovered
stands_for c head sectors recovered is accepted size recovers = record {
  accepted = ap (λ n. header_refusal (header_of_volume c) n) size ∙ ap (λ (h : VolumeHeader). header_refusal h sectors) (sym is) ∙ accepted;
  recovers = recovers;
}
