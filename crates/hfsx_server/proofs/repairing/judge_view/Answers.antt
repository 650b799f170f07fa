use Rattle.std.proofs.Common.{◌≡◌, ◌<◌, ℕ, length, sym, ◌∙◌, subst}
use Rattle.std.specs.Prelude.{◌↔◌, All, Contains, IsTrue}
use Rattle.jnl_format.specs.Recovery.{Content}
use Rattle.hfs_volume.specs.Findings.{HasBytes}
use Rattle.volume_repair.specs.Differing.{Differs, differing}
use Rattle.volume_repair.specs.Repair.{IsRepair}
use Rattle.fsck_repair.specs.Overlay.{overlaid, places_of}
use Rattle.fsck_repair.specs.Renewing.{FitInto}
use Rattle.hfs_serving.specs.Checking.{FoldsFirst}
use Rattle.hfs_serving.proofs.Folding.{folds}
use Rattle.hfsx_server.specs.Checking.{Judges}
use Rattle.hfsx_server.specs.Repairing.{CanBePut, IsJudged}
use Rattle.hfsx_server.specs.declared.repairing.Judged.{Judged}
use Rattle.hfsx_server.proofs.Judging.{judged_is, judged_put}
use Rattle.hfsx_server.proofs.repairing.judge_view.Goals as goal

pub returns-then-branch-clause-judged : goal.returns-then-branch-clause-judged
returns-then-branch-clause-judged g c tells = folds (g.V.SectorView.space c.args.view.now).content ((c.in_ok-folds_case.ensures.folds tells).0 c.if-branch.true)

pub returns-clause-judged : goal.returns-clause-judged
returns-clause-judged g c tells =
    let c0 = (g.V.SectorView.space c.args.view.now).content in
    let c1 = (g.V.SectorView.space c.folds_case.new.view).content in
    let c2 = (g.V.SectorView.space c.new.new.view).content in
    let r1 = c.folds_case.ensures.reads in
    let r2 = c.new.ensures.reads in
    let tells1 = r1.same.tells ∙ tells in
    let tells2 = r2.same.tells ∙ tells1 in
    let same1 : c1 ≡ c0 = (r1.sectors tells).content in
    let same2 : c2 ≡ c0 = (r2.sectors tells1).content ∙ same1 in
    let bytes1 = subst HasBytes (sym same1) (c.requires.bytes tells) in
    let changes = c.in_ok-mend.mend.changes.items in
    let none = subst (λ b. IsTrue b ↔ FoldsFirst c0) c.if-branch.false (c.in_ok-folds_case.ensures.folds tells) in
    let repair = subst (λ (x : Content). IsRepair x (overlaid changes x)) same1 (c.in_ok-mend.ensures.repair tells1 bytes1) in
    let count = subst (λ (x : Content). length changes ≡ differing x (overlaid changes x)) same1 (c.in_ok-mend.ensures.differ tells1 bytes1) in
    let each = subst (λ (x : Content). (at : ℕ) → Contains (places_of changes) at → Differs x (overlaid changes x) at) same1 (c.in_ok-mend.ensures.each tells1 bytes1) in
    let says = subst (λ (x : Content). Judges (overlaid changes x) c.in_ok-verdict.verdict) same2 (c.in_ok-verdict.ensures.judged tells2) in
    subst (λ (j : Judged). IsJudged c0 j) (sym c.judged_by.ensures) (judged_is c0 c.in_ok-mend.mend c.in_ok-verdict.verdict none repair count each says)

pub returns-clause-changes : goal.returns-clause-changes
returns-clause-changes g c =
    let n0 = (g.V.SectorView.space c.args.view.now).sectors in
    let fit : FitInto n0 c.in_ok-mend.mend.changes.items = record {
      once = c.in_ok-mend.ensures.once;
      inside = subst (λ (n : ℕ). All (λ at. at < n) (places_of c.in_ok-mend.mend.changes.items)) c.folds_case.ensures.reads.same.sectors c.in_ok-mend.ensures.inside;
    } in
    subst (λ (j : Judged). CanBePut n0 j) (sym c.judged_by.ensures) (judged_put n0 c.in_ok-mend.mend c.in_ok-verdict.verdict fit)
