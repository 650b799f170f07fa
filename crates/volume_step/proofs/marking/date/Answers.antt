use Rattle.std.proofs.Common.{◌∙◌, arith, refl, ap, sym, []}
use Rattle.volume_base.specs.Room.{capacity_of}
use Rattle.volume_space.proofs.Sounding.{sound_here}
use Rattle.volume_step.proofs.Done.{at_steps, at_place}
use Rattle.volume_step.proofs.Ready.{moment_fits}
use Rattle.volume_step.proofs.Loaded.{within_none, within_now}
use Rattle.hfs_language.specs.declared.command.Command.TheVariants as command
use Rattle.volume_base.specs.Standing.{own_sectors}
use Rattle.volume_base.specs.declared.volume.Volume.{Volume}
use Rattle.volume_base.proofs.Framed.{edits_none}
use Rattle.volume_step.proofs.marking.date.Goals as goal

pub returns-clause-answered : goal.returns-clause-answered
returns-clause-answered g c tells =
    at_steps (capacity_of c.args.volume.now) c.args._number c.args.moment (g.P.SectorView.space c.args.space.now).content (g.P.SectorView.space c.at-reply.new.space).content
    (sound_here c.args.volume.now (g.P.SectorView.space c.args.space.now) (c.requires.serves.stands.stands tells) (c.requires.serves.settled tells))
    (sound_here c.at-reply.new.volume (g.P.SectorView.space c.at-reply.new.space) (c.at-reply.ensures.stands.stands ((c.at-reply.ensures.touches (g.P.SectorView.space c.args.space.now).content).same.tells ∙ tells)) (c.at-reply.ensures.settled tells))
    (c.requires.affords tells) c.at-reply.result (c.at-reply.ensures.reply tells) (c.at-reply.ensures.tree tells) (c.at-reply.ensures.lists tells) c.new.result c.new.ensures

pub returns-clause-place : goal.returns-clause-place
returns-clause-place g c tells =
    at_place (capacity_of c.args.volume.now) c.args._number c.args.moment (g.P.SectorView.space c.args.space.now).content (g.P.SectorView.space c.at-reply.new.space).content
    (sound_here c.args.volume.now (g.P.SectorView.space c.args.space.now) (c.requires.serves.stands.stands tells) (c.requires.serves.settled tells))
    (sound_here c.at-reply.new.volume (g.P.SectorView.space c.at-reply.new.space) (c.at-reply.ensures.stands.stands ((c.at-reply.ensures.touches (g.P.SectorView.space c.args.space.now).content).same.tells ∙ tells)) (c.at-reply.ensures.settled tells))
    (c.requires.affords tells) c.at-reply.result (c.at-reply.ensures.reply tells) (c.at-reply.ensures.tree tells) (c.at-reply.ensures.lists tells)

pub returns-then-spare-eq0-clause-done : goal.returns-then-spare-eq0-clause-done
returns-then-spare-eq0-clause-done g c tells met =
    absurd (omega (arith, moment_fits c.args.moment c.args.volume.now (g.P.SectorView.space c.args.space.now) met, c.spare.ensures, c.if-spare-eq0.true))

pub returns-clause-loads : goal.returns-clause-loads
returns-clause-loads g c tells = within_now (command.At c.args.moment) c.args.volume.now (g.P.SectorView.space c.args.space.now) (g.P.SectorView.space c.at-reply.new.space) refl refl refl (c.requires.affords tells) (c.at-reply.ensures.loads tells)

pub returns-then-spare-eq0-clause-loads : goal.returns-then-spare-eq0-clause-loads
returns-then-spare-eq0-clause-loads g c tells = within_none (command.At c.args.moment) c.args.volume.now (g.P.SectorView.space c.args.space.now) (g.P.SectorView.space c.args.space.now) (omega arith)

pub returns-clause-edits : goal.returns-clause-edits
returns-clause-edits g c = record {
  ran = record {
    below = c.at-reply.ensures.below;
    cause = record { later = omega (arith, c.at-reply.ensures.faults); failed = tt };
    service = c.at-reply.ensures.stands.service;
    stands = c.at-reply.ensures.stands;
    touches = c.at-reply.ensures.touches;
    spent = λ tells. omega arith;
  };
  own = ap own_sectors c.at-reply.ensures.rest;
  blocks = record { map = ap (λ (v : Volume). v.map) c.at-reply.ensures.rest; shrunk = ap (λ (v : Volume). v.shrunk) c.at-reply.ensures.rest; capacity = ap (λ (v : Volume). v.capacity) c.at-reply.ensures.rest };
}

pub returns-clause-serves : goal.returns-clause-serves
returns-clause-serves g c = record {
  stands = c.at-reply.ensures.stands;
  settled = λ told. c.at-reply.ensures.settled (sym (c.at-reply.ensures.touches []).same.tells ∙ told);
}

pub returns-then-spare-eq0-clause-edits : goal.returns-then-spare-eq0-clause-edits
returns-then-spare-eq0-clause-edits g c = edits_none _ g.met.P.SectorView.follows_refl c.requires.serves.stands
