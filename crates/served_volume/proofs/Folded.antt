-- The verdict on a volume, of what its check found and of how its catalog compares keys.
use Rattle.std.proofs.Common.{◌≡◌, ◌⊎◌, ◌↔◌, ◌<◌, ◌≤◌, ℕ, zero, suc, Bool, true, false, List, [], ◌∷◌, length, map, get_or, refl, sym, ◌∙◌, ap, subst, arith, ⊎_elim}
use Rattle.std.specs.Prelude.{Contains, IsErrOf, IsTrue, None, Some, Option, Result, Ok, Err, IfOk}
use Rattle.std.proofs.lemmas.List.{get_or-map, length-map}
use Rattle.hx_bytes.specs.declared.faults.Trouble.{Trouble}
use Rattle.hx_bytes.specs.declared.faults.Trouble.TheVariants as trouble
use Rattle.volume_header.specs.Refusal.{header_refusal}
use Rattle.volume_header.specs.declared.header.VolumeHeader.{VolumeHeader}
use Rattle.volume_header.specs.declared.refusal.HeaderRefusal.{HeaderRefusal}
use Rattle.jnl_format.specs.Recovery.{Content, header_of_volume}
use Rattle.fsck_list.specs.declared.finding.Finding.{Finding as Listed}
use Rattle.fsck_core.specs.Verdicts.{findings_in, is_clean}
use Rattle.fsck_core.specs.Wants.{as_found}
use Rattle.fsck_core.specs.declared.checking.Verdict.{Verdict as Checked}
use Rattle.fsck_core.specs.declared.checking.Verdict.TheVariants as checked
use Rattle.hfs_volume.specs.Broken.{Finding, IsBroken}
use Rattle.hfs_volume.specs.Sound.{IsSound}
use Rattle.hfs_serving.specs.Checking.{FoldsFirst, IsVerdict, catalog_begun}
use Rattle.hfs_serving.proofs.Folding.{folds}
use Rattle.served_volume.specs.Verdicts.{IsJudged, unsound}
use Rattle.hfs_serving.specs.declared.checking.Verdict.{Verdict}
use Rattle.line_source.specs.Cause.{IsCause}
use Rattle.sector_disk.specs.Cause.{Rose}

-- a header that is refused folds nothing
pub refused_folds : (content : Content) (head : VolumeHeader) (sectors : ℕ) (why : HeaderRefusal) → head ≡ header_of_volume content → sectors ≡ length content → header_refusal head sectors ≡ Some why → IsTrue false ↔ FoldsFirst content
refused_folds content head sectors why is size refused = (
  λ never. absurd (cc never),
  λ first. absurd (some_none (sym refused ∙ (λ i. header_refusal (is i) (size i)) ∙ first.0)),
)
  where
    some_none : {A : Type 0} {x : A} → Some x ≡ None → ⊥
    some_none same = absurd (cc same)

-- an accepted one does as its catalog begins
pub accepted_folds : (content : Content) (head : VolumeHeader) (sectors : ℕ) → head ≡ header_of_volume content → sectors ≡ length content → header_refusal head sectors ≡ None → (r : Result Bool Trouble) → IfOk r (λ folds. IsTrue folds ↔ ((catalog_begun content).head.compare ≡ 0xCF))
    → IfOk r (λ folds. IsTrue folds ↔ FoldsFirst content)
accepted_folds content head sectors is size accepted (Ok f) told = (λ folds. ((λ i. header_refusal (sym is i) (sym size i)) ∙ accepted, told.0 folds), λ first. told.1 first.1)
accepted_folds content head sectors is size accepted (Err e) told = told

-- an item of what a list was made to
found_of : (list : List Listed) (finding : Finding) → Contains (map as_found list) finding → (f : Listed) × Contains list f × (as_found f ≡ finding)
found_of [] finding has = absurd (omega (arith, has.1))
found_of (f ∷ list) finding (zero, low, is) = (f, (0, omega arith, refl), is)
found_of (f ∷ list) finding (suc k, low, is) =
    let rest = found_of list finding (k, omega (arith, low), is) in
    (rest.0, (suc rest.1.0, omega (arith, rest.1.1), rest.1.2), rest.2)

-- where something is found, by how keys are compared
pub unsound_verdict : (content : Content) (list : List Listed) → (IsTrue (is_clean (checked.Findings list)) ↔ IsSound content) → 0 < length list → ((f : Listed) → Contains list f → IsBroken content (as_found f)) → (f : Bool) → IsTrue f ↔ FoldsFirst content
    → IsVerdict content (map as_found list) (unsound f)
unsound_verdict content list clean some broken true first = folds content (first.0 refl)
unsound_verdict content list clean some broken false first = record {
  keeps_case = λ is. absurd (cc (first.1 is));
  unsound = λ sound. absurd (cc (clean.1 sound));
  some = omega (arith, some, length-map list as_found);
  broken = λ finding has. let there = found_of list finding has in subst (IsBroken content) there.2 (broken there.0 there.1);
}

-- all that a check found, and the verdict on it
pub found_verdict : (content later : Content) (list kept : List Listed) (r : Result Verdict Trouble) → kept ≡ list → later ≡ content → (IsTrue (is_clean (checked.Findings list)) ↔ IsSound content) → IsTrue (is_clean (checked.Findings list)) ⊎ (0 < length list) → ((f : Listed) → Contains list f → IsBroken content (as_found f)) → IfOk r (IsJudged later)
    → IfOk r (IsVerdict content (map as_found kept))
found_verdict content later list kept (Err e) same still clean some broken told = told
found_verdict content later list kept (Ok v) same still clean some broken told =
    subst (λ (k : List Listed × Verdict). IsVerdict content (map as_found k.0) k.1) {x = (list, unsound told.folds)} {y = (kept, v)} (λ i. (sym same i, sym told.is i))
    (unsound_verdict content list clean (⊎_elim (λ never. absurd (cc never)) (λ is. is) some) broken told.folds (subst (λ (c : Content). IsTrue told.folds ↔ FoldsFirst c) still told.exactly))

-- the cause of two calls in a row, of which the first only read
pub cause_both : {T : Type 0} (a b c : ℕ) (r : Result T Trouble) → a ≤ b → b ≤ c → (IsErrOf r trouble.Disk → Rose b c) → IsCause trouble.Disk a c r
cause_both a b c r first second rises = record { later = omega (arith, first, second); rose = λ is. omega (arith, first, rises is) }
