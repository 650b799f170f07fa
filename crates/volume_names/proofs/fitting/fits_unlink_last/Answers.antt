use Rattle.std.proofs.Common.{sym, ◌∙◌, arith}
use Rattle.volume_base.proofs.Fitted.{unlink_last_fits}
use Rattle.volume_names.proofs.fitting.fits_unlink_last.Goals as goal

pub returns : goal.returns
returns g c fits = unlink_last_fits c.a_load_says_enough.ensures c.a_load_is_of_parts.ensures c.args.volume.now (g.P.SectorView.space c.args.space.now) c.requires.serves.settled (λ tells. sym (c.can_edit.ensures tells) ∙ fits) (omega (arith, c.spare.ensures, c.has_sector.ensures.fits c.if-not-has_sector.false))
