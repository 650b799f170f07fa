use Rattle.std.proofs.Common.{sym, ◌∙◌, ap, subst}
use Rattle.std.specs.Prelude.{is_some}
use Rattle.std.proofs.lemmas.Bool.{true≢false}
use Rattle.volume_base.specs.Room.{capacity_of}
use Rattle.volume_step.specs.Steps.{verdict_of}
use Rattle.volume_step.specs.declared.judging.Verdict.{Verdict}
use Rattle.volume_step.proofs.Judged.{not_weighed, weight_found}
use Rattle.volume_links.specs.Judging.{IsKindJudged, KindIsWeighedNow}
use Rattle.volume_links.proofs.KindJudged.{kind_judged, not_cut}
use Rattle.volume_links.proofs.WeighedNow.{weighed_now}
use Rattle.volume_links.proofs.verdicts.judge.Goals as goal

pub returns-in-Some-clause-judged : goal.returns-in-Some-clause-judged
returns-in-Some-clause-judged g c tells =
    subst (λ (v : Verdict). IsKindJudged v (capacity_of c.args.volume.now) c.args.edit.now (g.P.SectorView.space c.args.space.now).content) (sym c.verdict_of.ensures)
    (kind_judged (capacity_of c.args.volume.now) _ (g.P.SectorView.space c.args.space.now).content c.args.edit.now c.spare.result
    (λ fine. not_cut _ (λ needs. true≢false (sym (ap is_some c.in-Some.is) ∙ c.in_ok-weight.ensures.cuts tells (fine, needs))))
    c.in-Some.weight (weight_found c.in_ok-weight.field-0 c.in-Some.weight _ c.in-Some.is (c.in_ok-weight.ensures.answer tells)))

pub returns-in-None-clause-judged : goal.returns-in-None-clause-judged
returns-in-None-clause-judged g c tells = not_weighed c.in_ok-weight.field-0 c.in-None.is (c.in_ok-weight.ensures.waits tells c.requires.changes)

-- ---- by the blocks that may be taken and the room

pub returns-in-Some-clause-now : goal.returns-in-Some-clause-now
returns-in-Some-clause-now g c tells =
    subst (λ (v : Verdict). KindIsWeighedNow v c.args.volume.now (g.P.SectorView.space c.args.space.now) c.args.edit.now) (sym (c.verdict_of.ensures ∙ ap (verdict_of c.in-Some.weight) (c.spare.ensures ∙ c.in_ok-weight.ensures.looked.reads.looks.spare)))
    (weighed_now c.args.volume.now (g.P.SectorView.space c.args.space.now) c.args.edit.now c.requires.changes
    (λ fine. not_cut _ (λ needs. true≢false (sym (ap is_some c.in-Some.is) ∙ c.in_ok-weight.ensures.cuts tells (fine, needs))))
    c.in-Some.weight (weight_found c.in_ok-weight.field-0 c.in-Some.weight _ c.in-Some.is (c.in_ok-weight.ensures.answer tells)))
