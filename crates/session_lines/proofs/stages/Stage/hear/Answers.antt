use Rattle.std.proofs.Common.{sym, ◌∙◌, ap, subst}
use Rattle.session_lines.specs.declared.stages.Stage.{Stage}
use Rattle.session_lines.specs.Stages.{FitsStage, heard_at}
use Rattle.session_lines.proofs.Fitting.{heard_fits}
use Rattle.session_lines.proofs.stages.Stage.hear.Goals as goal

pub returns-clause-fits : goal.returns-clause-fits
returns-clause-fits c fits = subst FitsStage (sym c.heard.ensures) (heard_fits c.args.table.now c.replace-here.result c.args.reply (subst FitsStage (sym c.replace-here.ensures.value) fits))
