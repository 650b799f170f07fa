use Rattle.std.proofs.Common.{refl, sym, ◌∙◌, arith}
use Rattle.volume_base.proofs.Replaced.{node_large}
use Rattle.volume_names.proofs.EditsLeft.{left_now, to_put_most}
use Rattle.hfs_volume.specs.Weight.{edits}
use Rattle.volume_base.proofs.Fitted.{ids_pass}
use Rattle.volume_names.proofs.EditsFit.{load_fits}
use Rattle.volume_names.proofs.fitting.fits_share.Goals as goal

pub returns-clause-left : goal.returns-clause-left
returns-clause-left g c fits =
    left_now c.edits_have_room.ensures 7 _ c.args.volume.now (g.P.SectorView.space c.args.space.now) (λ tells. node_large c.args.volume.now (g.P.SectorView.space c.args.space.now) c.requires.serves.stands tells)
    (load_fits c.a_load_says_enough.ensures c.a_load_is_of_parts.ensures c.args.volume.now (g.P.SectorView.space c.args.space.now) c.requires.serves.settled (record { ids = 2; catalog = 7; attributes = 0; updates = 4 }) _ refl (λ tells. omega (arith, to_put_most (g.P.SectorView.space c.args.space.now))) (λ tells. sym (c.can_edit.ensures tells) ∙ fits))

pub returns-clause-met : goal.returns-clause-met
returns-clause-met g c tells met = c.can_edit.ensures tells ∙ met

pub returns-clause-ids : goal.returns-clause-ids
returns-clause-ids g c fits tells = omega (arith, ids_pass c.a_load_says_enough.ensures c.a_load_is_of_parts.ensures c.args.volume.now (g.P.SectorView.space c.args.space.now) c.requires.serves.settled (edits 2 7 0 4) tells (sym (c.can_edit.ensures tells) ∙ fits))

pub returns-clause-load : goal.returns-clause-load
returns-clause-load g c fits =
    load_fits c.a_load_says_enough.ensures c.a_load_is_of_parts.ensures c.args.volume.now (g.P.SectorView.space c.args.space.now) c.requires.serves.settled (record { ids = 2; catalog = 7; attributes = 0; updates = 4 }) _ refl (λ tells. omega arith) (λ tells. sym (c.can_edit.ensures tells) ∙ fits)
