use Rattle.std.proofs.Common.{sym, ◌∙◌, ap, subst, arith}
use Rattle.std.specs.Prelude.{is_some}
use Rattle.std.proofs.lemmas.Bool.{true≢false}
use Rattle.hfs_volume.specs.Content.{volume_of}
use Rattle.hfs_volume.specs.TreeOf.{tree_of}
use Rattle.volume_base.specs.Fitting.{takable_of}
use Rattle.volume_base.specs.Room.{capacity_of}
use Rattle.volume_step.specs.Steps.{GrowsTheFirst, IsCutFirst, IsDirect, IsJudged, IsTaken}
use Rattle.volume_step.specs.declared.judging.Verdict.{Verdict}
use Rattle.volume_step.proofs.AnewReady.{alike_weight}
use Rattle.volume_step.proofs.FirstGrowth.{first_weight, taken_alike}
use Rattle.volume_step.proofs.Judged.{cut_or_refused, judged_weight, not_weighed, weight_found}
use Rattle.volume_step.proofs.Ready.{no_cut, taken_weight}
use Rattle.volume_step.proofs.ReadyData.{direct_weight, uncut_now}
use Rattle.volume_step.proofs.judging.judge.Goals as goal

pub returns-in-Some-clause-judged : goal.returns-in-Some-clause-judged
returns-in-Some-clause-judged g c tells =
    subst (λ (v : Verdict). IsJudged v (capacity_of c.args.volume.now) c.args.command.now (g.P.SectorView.space c.args.space.now).content) (sym c.verdict_of.ensures)
    (judged_weight (capacity_of c.args.volume.now) _ (g.P.SectorView.space c.args.space.now).content c.args.command.now c.spare.result c.in-Some.weight (weight_found c.in_ok-weight.field-0 c.in-Some.weight _ c.in-Some.is (c.in_ok-weight.ensures.answer tells)))

pub returns-in-None-clause-judged : goal.returns-in-None-clause-judged
returns-in-None-clause-judged g c tells =
    not_weighed c.in_ok-weight.field-0 c.in-None.is (c.in_ok-weight.ensures.waits tells c.requires.changes)

pub returns-in-Some-clause-taken : goal.returns-in-Some-clause-taken
returns-in-Some-clause-taken g c tells ready =
    let now = ready.now in
    subst (λ (v : Verdict). IsTaken v now.grow) (sym c.verdict_of.ensures)
    (taken_weight (capacity_of c.args.volume.now) (takable_of c.args.volume.now) (g.P.SectorView.space c.args.space.now).content c.args.command.now c.spare.result c.requires.changes now.no_data now.load now.grow now.costs
    (omega (arith, now.within, c.spare.ensures, c.weigh.ensures.looked.reads.looks.spare)) ready.alike c.in-Some.weight (weight_found c.in_ok-weight.field-0 c.in-Some.weight _ c.in-Some.is (c.in_ok-weight.ensures.answer tells)))

pub returns-in-None-clause-taken : goal.returns-in-None-clause-taken
returns-in-None-clause-taken g c tells ready =
    absurd (true≢false (sym (not_weighed c.in_ok-weight.field-0 c.in-None.is (c.in_ok-weight.ensures.waits tells c.requires.changes)).1 ∙ no_cut (volume_of (g.P.SectorView.space c.args.space.now).content) (tree_of (g.P.SectorView.space c.args.space.now).content) c.args.command.now ready.now.no_data))

pub returns-in-Some-clause-puts : goal.returns-in-Some-clause-puts
returns-in-Some-clause-puts g c tells puts =
    subst IsDirect (sym c.verdict_of.ensures)
    (direct_weight c.args.volume.now (g.P.SectorView.space c.args.space.now) c.args.command.now puts c.in-Some.weight c.spare.result (weight_found c.in_ok-weight.field-0 c.in-Some.weight _ c.in-Some.is (c.in_ok-weight.ensures.answer tells)) (c.spare.ensures ∙ c.weigh.ensures.looked.reads.looks.spare))

pub returns-in-None-clause-puts : goal.returns-in-None-clause-puts
returns-in-None-clause-puts g c tells puts =
    absurd (true≢false (sym (not_weighed c.in_ok-weight.field-0 c.in-None.is (c.in_ok-weight.ensures.waits tells c.requires.changes)).1 ∙ uncut_now c.args.volume.now (g.P.SectorView.space c.args.space.now) c.args.command.now puts))

pub returns-in-Some-clause-alike : goal.returns-in-Some-clause-alike
returns-in-Some-clause-alike g c tells now =
    taken_alike c.verdict_of.result now.grow
    (subst (λ (v : Verdict). IsTaken v now.grow) (sym c.verdict_of.ensures)
    (alike_weight (capacity_of c.args.volume.now) (takable_of c.args.volume.now) (g.P.SectorView.space c.args.space.now).content c.args.command.now now.load now.grow now.affords now.costs c.spare.result
    (omega (arith, now.within, c.spare.ensures, c.weigh.ensures.looked.reads.looks.spare)) c.in-Some.weight (weight_found c.in_ok-weight.field-0 c.in-Some.weight _ c.in-Some.is (c.in_ok-weight.ensures.answer tells))))

pub returns-in-None-clause-alike : goal.returns-in-None-clause-alike
returns-in-None-clause-alike g c tells now = tt

pub returns-in-Some-clause-first : goal.returns-in-Some-clause-first
returns-in-Some-clause-first g c tells load grow costs =
    subst (λ (v : Verdict). GrowsTheFirst v grow) (sym c.verdict_of.ensures)
    (first_weight (capacity_of c.args.volume.now) (takable_of c.args.volume.now) (g.P.SectorView.space c.args.space.now).content c.args.command.now c.spare.result c.requires.changes load grow costs c.in-Some.weight (weight_found c.in_ok-weight.field-0 c.in-Some.weight _ c.in-Some.is (c.in_ok-weight.ensures.answer tells)))

pub returns-in-None-clause-first : goal.returns-in-None-clause-first
returns-in-None-clause-first g c tells load grow costs = tt

pub returns-in-Some-clause-cuts : goal.returns-in-Some-clause-cuts
returns-in-Some-clause-cuts g c tells needs =
    subst IsCutFirst (sym c.verdict_of.ensures)
    (cut_or_refused (capacity_of c.args.volume.now) (takable_of c.args.volume.now) (g.P.SectorView.space c.args.space.now).content c.args.command.now c.spare.result c.in-Some.weight (weight_found c.in_ok-weight.field-0 c.in-Some.weight _ c.in-Some.is (c.in_ok-weight.ensures.answer tells))
    (λ fine. true≢false (sym (ap is_some c.in-Some.is) ∙ c.in_ok-weight.ensures.cuts tells (fine, needs))))

pub returns-in-None-clause-cuts : goal.returns-in-None-clause-cuts
returns-in-None-clause-cuts g c tells needs = tt
