use Rattle.std.proofs.Common.{refl, sym, ◌∙◌, arith}
use Rattle.std.specs.Prelude.{None}
use Rattle.volume_base.specs.Room.{capacity_of}
use Rattle.volume_base.proofs.Commanding.{touches_none}
use Rattle.volume_step.specs.declared.outcome.Outcome.TheVariants as outcome
use Rattle.volume_step.proofs.CutSteps.{dry_steps, never_dry}
use Rattle.volume_step.proofs.Done.{same_place}
use Rattle.volume_step.proofs.Unfilled.{filled_none, service_filling, settled_filling, stands_filling}
use Rattle.volume_step.proofs.cutting.cut_first.Goals as goal

pub cut_up_to-requires-clause-end : goal.cut_up_to-requires-clause-end
cut_up_to-requires-clause-end g c = sym c.data_end.ensures ∙ c.in-Some.is

pub returns-in-None-clause-answered : goal.returns-in-None-clause-answered
returns-in-None-clause-answered g c tells =
    let a = (g.P.SectorView.space c.args.space.now) in
    dry_steps (capacity_of c.args.volume.now) c.args.number c.args.command.now a.content a.content (c.requires.waits tells) (sym c.data_end.ensures ∙ c.in-None.is) outcome.CommitFirst

pub returns-in-None-clause-place : goal.returns-in-None-clause-place
returns-in-None-clause-place g c tells = same_place (g.P.SectorView.space c.args.space.now).content (g.P.SectorView.space c.args.space.now).content refl

pub returns-in-None-clause-shrunk : goal.returns-in-None-clause-shrunk
returns-in-None-clause-shrunk g c tells = refl

pub returns-in-None-clause-touches : goal.returns-in-None-clause-touches
returns-in-None-clause-touches g c committed = touches_none committed _ (g.P.SectorView.space c.args.space.now)

pub returns-in-None-clause-service : goal.returns-in-None-clause-service
returns-in-None-clause-service g c = service_filling c.args.volume.now None (g.P.SectorView.space c.args.space.now) c.requires.stands.service

pub returns-in-None-clause-stands : goal.returns-in-None-clause-stands
returns-in-None-clause-stands g c = stands_filling c.args.volume.now None (g.P.SectorView.space c.args.space.now) c.requires.stands

pub returns-in-None-clause-settled : goal.returns-in-None-clause-settled
returns-in-None-clause-settled g c tells = settled_filling c.args.volume.now None (g.P.SectorView.space c.args.space.now).content (c.requires.settled tells)

pub returns-in-None-clause-filled : goal.returns-in-None-clause-filled
returns-in-None-clause-filled g c = filled_none (record c.args.volume.now { filling = None }) (g.P.SectorView.space c.args.space.now) refl

pub returns-in-None-clause-loads : goal.returns-in-None-clause-loads
returns-in-None-clause-loads g c tells load grow is = omega arith

pub returns-in-None-clause-short : goal.returns-in-None-clause-short
returns-in-None-clause-short g c tells same = absurd (never_dry c.args.command.now (g.P.SectorView.space c.args.space.now).content (c.requires.waits tells) (sym c.data_end.ensures ∙ c.in-None.is))

pub returns-in-None-clause-never : goal.returns-in-None-clause-never
returns-in-None-clause-never g c done = done

pub returns-in-None-clause-dropped : goal.returns-in-None-clause-dropped
returns-in-None-clause-dropped g c = refl
