-- All rules together: what a check has found, and its verdict.
use Rattle.std.proofs.Common.{◌≡◌, ◌⊎◌, ◌↔◌, ◌<◌, ◌≤◌, ℕ, Bool, true, false, nat_lt, List, [], ◌∷◌, length, inl, inr, refl, sym, ◌∙◌, subst, arith, ⊎_elim, IsTrue, if◌then◌else◌}
use Rattle.std.specs.Prelude.{Contains, Option, None, Some, T}
use Rattle.std.proofs.lemmas.Bool.{ltb-true, lt-ltb, cases_lt, true≢false}
use Rattle.jnl_format.specs.Recovery.{Content, header_of_volume}
use Rattle.volume_header.specs.declared.header.VolumeHeader.{VolumeHeader}
use Rattle.fsck_list.specs.declared.finding.Finding.{Finding as Listed}
use Rattle.fsck_list.specs.Kept.{IsListed}
use Rattle.hfs_volume.specs.Blocks.{IsGoodHeader, AgreesWith, HasFiles}
use Rattle.hfs_volume.specs.Broken.{Finding, IsBroken, IsBrokenNode, IsBrokenEntry, IsBrokenLink, IsBrokenBlock, IsUnmet, header_wants, alternate_wants}
use Rattle.btree_node.specs.Keys.{IsCatalogKey, IsExtentKey, IsAttrKey, catalog_cmp, extent_cmp, attr_cmp, is_eight_extents, anything}
use Rattle.btree_node.specs.TreeFile.{extents_form, catalog_form, attributes_form}
use Rattle.hfs_volume.specs.Forks.{extents_id, catalog_id, attributes_id}
use Rattle.hfs_volume.specs.Content.{VolumeState, volume_of, extents_file, catalog_file, attributes_file}
use Rattle.hfs_volume.specs.Nodes.{HasTrees}
use Rattle.hfs_volume.specs.Sound.{IsSound}
use Rattle.hfs_volume.proofs.Members.{at_front}
use Rattle.hfs_volume.proofs.Whole.{sound_has_none}
use Rattle.fsck_core.specs.Lists.{IsJudged}
use Rattle.fsck_core.specs.Passed.{IsLate, ListsLate, HasEarly}
use Rattle.fsck_core.specs.Shown.{FindsEarly}
use Rattle.fsck_core.specs.Rules.{EachRule, TellsHeaders}
use Rattle.fsck_core.proofs.RuleLaws.{early_rules, later_rules}
use Rattle.fsck_core.specs.Verdicts.{IsChecked, is_clean, findings_in, IsCounted, HasNumbers, KeepsEarly, summary_in, verdict_of}
use Rattle.fsck_core.specs.Wants.{as_found}
use Rattle.fsck_core.specs.declared.checking.Verdict.{Verdict}
use Rattle.fsck_core.specs.declared.checking.Verdict.TheVariants as verdict
use Rattle.fsck_core.proofs.Joining.{lists_are_sound}
use Rattle.fsck_core.proofs.JudgingLaws.{early_of}
use Rattle.fsck_core.proofs.ShownLaws.{tree_low}
use Rattle.fsck_core.proofs.TellingLaws.{tells_more}

-- ---- what was checked

pub headers_more : (content : Content) (old new : List Listed) → old ≡ [] → TellsHeaders content old → TellsHeaders content new
headers_more content old new none tells = (
  tells_more (λ f. IsUnmet 1 f (header_wants (volume_of content).sectors (volume_of content).head)) old new none tells.0,
  tells_more (λ f. IsUnmet 2 f (alternate_wants (volume_of content).head (volume_of content).alternate)) old new none tells.1,
)

-- a rule of the first seven is broken
pub checked_early : (content : Content) (list : List Listed) → 0 < length list → FindsEarly content list → TellsHeaders content list → IsChecked content None list
checked_early content list some each headers = record {
  told = some;
  each = λ f stands. (each f stands).0;
  late = inl (early_of list some (λ f stands. let few = (each f stands).1 in omega (arith, few)));
  rules = early_rules content list some each headers;
}

-- none is, and the lists were judged
pub checked_all : (content : Content) (head : VolumeHeader) (list : List Listed) → head ≡ header_of_volume content → IsGoodHeader (length content) (header_of_volume content) → AgreesWith head (volume_of content).alternate
    → HasFiles (volume_of content) → HasTrees content → IsJudged (volume_of content) list → IsChecked content (Some head) list
unfolding volume_of
checked_all content head list is good alternate files trees judged = record {
  told = (is, λ none. record { trees = trees; volume = lists_are_sound (volume_of content) good (subst (λ (h : VolumeHeader). AgreesWith h (volume_of content).alternate) is alternate) files (judged.holds none) });
  each = λ f stands. inr (judged.each f stands);
  late = judged.late;
  rules = later_rules content list good (subst (λ (h : VolumeHeader). AgreesWith h (volume_of content).alternate) is alternate) files trees judged;
}

-- ---- the verdict

-- a finding of the trees is of one of the first ten rules
node_low : (content : Content) (f : Finding) → IsBrokenNode content f → f.rule ≤ 7
node_low content f (inl tree) = tree_low extents_form IsExtentKey is_eight_extents extent_cmp extents_id (extents_file content) f tree
node_low content f (inr (inl tree)) = tree_low catalog_form IsCatalogKey anything catalog_cmp catalog_id (catalog_file content) f tree
node_low content f (inr (inr (inl unmet))) = let is : f.rule ≡ 4 = unmet.0 in omega (arith, is)
node_low content f (inr (inr (inr (inl unmet)))) = let is : f.rule ≡ 4 = unmet.0 in omega (arith, is)
node_low content f (inr (inr (inr (inr (has, inl tree))))) = tree_low attributes_form IsAttrKey anything attr_cmp attributes_id (attributes_file content) f tree
node_low content f (inr (inr (inr (inr (has, inr unmet))))) = let is : f.rule ≡ 4 = unmet.0 in omega (arith, is)

-- a finding of one of rules 11 to 14
module _ (volume : VolumeState) (f : Finding) (low : 11 ≤ f.rule) (high : f.rule ≤ 14) where
  outside : (n : ℕ) → f.rule ≡ n → (n ≤ 10) ⊎ (15 ≤ n) → IsLate volume f
  outside n is (inl below) = absurd (omega (arith, is, below, low))
  outside n is (inr above) = absurd (omega (arith, is, above, high))

  late_entry : IsBrokenEntry volume f → IsLate volume f
  late_entry (inl fails) = outside 8 fails.0 (inl (omega arith))
  late_entry (inr (inl fails)) = outside 9 fails.0 (inl (omega arith))
  late_entry (inr (inr (inl fails))) = outside 10 fails.0 (inl (omega arith))
  late_entry (inr (inr (inr (inl unmet)))) = inl unmet
  late_entry (inr (inr (inr (inr (inl unmet))))) = inr (inl unmet)
  late_entry (inr (inr (inr (inr (inr unmet))))) = outside 15 unmet.0 (inr (omega arith))

  late_link : IsBrokenLink volume f → IsLate volume f
  late_link (inl unmet) = outside 19 unmet.0 (inr (omega arith))
  late_link (inr (inl fails)) = outside 19 fails.0 (inr (omega arith))
  late_link (inr (inr fails)) = outside 20 fails.0 (inr (omega arith))

  late_block : IsBrokenBlock volume f → IsLate volume f
  late_block (inl unmet) = outside 1 unmet.0 (inl (omega arith))
  late_block (inr (inl unmet)) = outside 2 unmet.0 (inl (omega arith))
  late_block (inr (inr (inl unmet))) = outside 3 unmet.0 (inl (omega arith))
  late_block (inr (inr (inr (inl unmet)))) = inr (inr (inl unmet))
  late_block (inr (inr (inr (inr (inl unmet))))) = inr (inr (inr unmet))
  late_block (inr (inr (inr (inr (inr (inl unmet)))))) = outside 16 unmet.0 (inr (omega arith))
  late_block (inr (inr (inr (inr (inr (inr (inl fails))))))) = outside 17 fails.0 (inr (omega arith))
  late_block (inr (inr (inr (inr (inr (inr (inr unmet))))))) = outside 18 unmet.0 (inr (omega arith))

late_rule : (content : Content) (f : Finding) → IsBroken content f → 11 ≤ f.rule → f.rule ≤ 14 → IsLate (volume_of content) f
late_rule content f (inl node) low high = absurd (let few = node_low content f node in omega (arith, few, low))
late_rule content f (inr (inl entry)) low high = late_entry (volume_of content) f low high entry
late_rule content f (inr (inr (inl link))) low high = late_link (volume_of content) f low high link
late_rule content f (inr (inr (inr block))) low high = late_block (volume_of content) f low high block

unsound : (content : Content) (list : List Listed) → 0 < length list → ((f : Listed) → Contains list f → IsBroken content (as_found f)) → IsSound content → ⊥
unsound content [] some each sound = absurd (omega (arith, some))
unsound content (f ∷ rest) some each sound = sound_has_none content sound (as_found f) (each f (at_front f rest))

-- each clause of a verdict, from what was checked
pub record Tells (content : Content) (v : Verdict) : Type 0 where
  pub sound : IsTrue (is_clean v) ↔ IsSound content
  pub counted : IsCounted (volume_of content) v
  pub some : IsTrue (is_clean v) ⊎ (0 < length (findings_in v))
  pub broken : (f : Listed) → Contains (findings_in v) f → IsBroken content (as_found f)
  pub each_rule : EachRule content (findings_in v)
  pub listed : KeepsEarly content → (f : Listed) → 11 ≤ f.rule → f.rule ≤ 14 → IsBroken content (as_found f) → IsListed (findings_in v) f

module _ (content : Content) (list : List Listed) (each : (f : Listed) → Contains list f → IsBroken content (as_found f)) (late : HasEarly list ⊎ ListsLate (volume_of content) list) (rules : EachRule content list) where
  lists_all : KeepsEarly content → (f : Listed) → 11 ≤ f.rule → f.rule ≤ 14 → IsBroken content (as_found f) → IsListed list f
  lists_all keeps f low high broken = elim late [
    | inl early ↦ absurd (keeps (as_found early.0) (each early.0 early.1) early.2)
    | inr all ↦ all f (late_rule content (as_found f) broken low high)
  ]

  tells_findings : 0 < length list → Tells content (verdict.Findings list)
  tells_findings some = record {
    sound = ((λ is. absurd (subst T (sym is) tt)), λ sound. absurd (unsound content list some each sound));
    counted = tt;
    some = inr some;
    broken = each;
    each_rule = rules;
    listed = lists_all;
  }

tells_clean : (content : Content) (head : VolumeHeader) → head ≡ header_of_volume content → IsSound content → Tells content (verdict.Clean (summary_in head))
unfolding volume_of
tells_clean content head is sound = record {
  sound = ((λ yes. sound), λ also. refl);
  counted = subst (λ (h : VolumeHeader). HasNumbers (volume_of content) (summary_in h)) (sym is) (record {
    files = sound.volume.entries.counts.files;
    folders = sound.volume.entries.counts.folders;
    blocks = refl;
    free = sound.volume.blocks.bits.free;
  });
  some = inl refl;
  broken = λ f stands. absurd (omega (arith, stands.1));
  each_rule = λ f broken judged. absurd (sound_has_none content sound f broken);
  listed = λ keeps f low high broken. absurd (sound_has_none content sound (as_found f) broken);
}

pub verdict_tells : (content : Content) (head : Option VolumeHeader) (list : List Listed) → IsChecked content head list → Tells content (verdict_of head list)
verdict_tells content None list checked = tells_findings content list checked.each checked.late checked.rules checked.told
verdict_tells content (Some head) list checked = by (nat_lt 0 (length list)) refl
  where
    by : (b : Bool) → nat_lt 0 (length list) ≡ b → Tells content (if b then verdict.Findings list else verdict.Clean (summary_in head))
    by true is = tells_findings content list checked.each checked.late checked.rules (ltb-true 0 (length list) is)
    by false is = tells_clean content head checked.told.0 (checked.told.1 (none (length list) is))
      where
        none : (n : ℕ) → nat_lt 0 n ≡ false → n ≡ 0
        none n is = ⊎_elim (λ (some : 0 < n). absurd (true≢false (sym (lt-ltb 0 n some) ∙ is))) (λ (few : n ≤ 0). omega (arith, few)) (cases_lt 0 n)
