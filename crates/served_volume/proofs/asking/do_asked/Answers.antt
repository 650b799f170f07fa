use Rattle.std.proofs.Common.{◌≡◌, sym, ◌∙◌, ap, subst}
use Rattle.std.specs.Prelude.{IfOk, Some}
use Rattle.hfs_volume.specs.declared.asked.Asked.{Asked}
use Rattle.volume_step.specs.declared.outcome.Outcome.TheVariants as outcome
use Rattle.served_volume.specs.Wanting.{WantsCommit}
use Rattle.served_volume.proofs.asking.do_asked.Goals as goal

pub returns-in-Plain-clause-answered : goal.returns-in-Plain-clause-answered
returns-in-Plain-clause-answered g c own line wanted tells = c.do_command.ensures.answered own line (wanted ∙ ap (λ (a : Asked). Some a) c.in-Plain.is) tells

pub returns-in-Plain-clause-waits : goal.returns-in-Plain-clause-waits
returns-in-Plain-clause-waits g c tells =
    let space = g.P.SectorView.space c.args.space.now in
    subst (λ (a : Asked). IfOk c.do_command.result (λ came. came ≡ outcome.CommitFirst → WantsCommit c.args.volume.now space (Some a))) (sym c.in-Plain.is) (c.do_command.ensures.waits tells)

pub returns-in-Plain-clause-shrunk : goal.returns-in-Plain-clause-shrunk
returns-in-Plain-clause-shrunk g c own line wanted tells = c.do_command.ensures.shrunk own line (wanted ∙ ap (λ (a : Asked). Some a) c.in-Plain.is) tells

pub returns-in-Kind-clause-answered : goal.returns-in-Kind-clause-answered
returns-in-Kind-clause-answered g c own line wanted tells = c.do_kind.ensures.answered own line (wanted ∙ ap (λ (a : Asked). Some a) c.in-Kind.is) tells

pub returns-in-Kind-clause-waits : goal.returns-in-Kind-clause-waits
returns-in-Kind-clause-waits g c tells =
    let space = g.P.SectorView.space c.args.space.now in
    subst (λ (a : Asked). IfOk c.do_kind.result (λ came. came ≡ outcome.CommitFirst → WantsCommit c.args.volume.now space (Some a))) (sym c.in-Kind.is) (c.do_kind.ensures.waits tells)

pub returns-in-Kind-clause-shrunk : goal.returns-in-Kind-clause-shrunk
returns-in-Kind-clause-shrunk g c own line wanted tells = c.do_kind.ensures.shrunk own line (wanted ∙ ap (λ (a : Asked). Some a) c.in-Kind.is) tells
