use Rattle.std.proofs.Common.{sym, ◌∙◌}
use Rattle.volume_base.proofs.Fitted.{move_fits}
use Rattle.volume_names.proofs.fitting.fits_move.Goals as goal

pub returns-clause-room : goal.returns-clause-room
returns-clause-room g c fits = move_fits c.a_load_says_enough.ensures c.a_load_is_of_parts.ensures c.args.volume.now (g.P.SectorView.space c.args.space.now) c.requires.serves.settled (λ tells. sym (c.can_edit.ensures tells) ∙ fits)

pub returns-clause-met : goal.returns-clause-met
returns-clause-met g c tells met = c.can_edit.ensures tells ∙ met
