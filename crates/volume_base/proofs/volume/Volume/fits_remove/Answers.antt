use Rattle.std.proofs.Common.{◌≤◌, sym, ◌∙◌, arith}
use Rattle.std.proofs.lemmas.Bool.{true≢false}
use Rattle.hfs_volume.specs.Weight.{edits}
use Rattle.volume_base.proofs.Fitted.{remove_fits, some_pass}
use Rattle.volume_base.proofs.volume.Volume.fits_remove.Goals as goal

pub returns-clause-room : goal.returns-clause-room
returns-clause-room g c fits = remove_fits c.a_load_says_enough.ensures c.a_load_is_of_parts.ensures c.args.self.now (g.P.SectorView.space c.args.space.now) c.requires.serves.settled (λ tells. sym (c.can_edit.ensures tells) ∙ fits) (omega (arith, c.spare.ensures, c.has_sector.ensures.fits c.if-not-has_sector.false))

pub returns-clause-met : goal.returns-clause-met
returns-clause-met g c tells met = c.can_edit.ensures tells ∙ met

pub returns-then-not-has_sector-clause-met : goal.returns-then-not-has_sector-clause-met
returns-then-not-has_sector-clause-met g c tells met = absurd (true≢false (sym (c.has_sector.ensures.sure (omega (arith, c.spare.ensures, some_pass c.a_load_says_enough.ensures c.a_load_is_of_parts.ensures c.args.self.now (g.P.SectorView.space c.args.space.now) c.requires.serves.settled (edits 0 2 0 1) tells met))) ∙ c.if-not-has_sector.true))
