use Rattle.std.proofs.Common.{refl, sym, ◌∙◌, ap, arith, []}
use Rattle.std.proofs.lemmas.Bool.{true≢false}
use Rattle.hfs_language.specs.declared.command.Command.TheVariants as command
use Rattle.hfs_language.specs.declared.reply.Reply.TheVariants as reply
use Rattle.hfs_volume.specs.TreeOf.{tree_of}
use Rattle.volume_runs.specs.Told.{of_made}
use Rattle.volume_base.specs.Room.{capacity_of}
use Rattle.volume_space.proofs.Sounding.{sound_here}
use Rattle.volume_step.proofs.Done.{line_ok, create_place, create_steps}
use Rattle.volume_step.proofs.Loaded.{within_none, within_now}
use Rattle.volume_step.proofs.MetNow.{replied}
use Rattle.volume_base.proofs.Framed.{edits_err, edits_none, edits_ok, edits_spent}
use Rattle.volume_step.proofs.making.make_file.Goals as goal

pub returns-clause-answered : goal.returns-clause-answered
returns-clause-answered g c tells =
    create_steps (capacity_of c.args.volume.now) c.args.number c.args.path.now (g.P.SectorView.space c.args.space.now).content (g.P.SectorView.space c.create.new.space).content
    (sound_here c.args.volume.now (g.P.SectorView.space c.args.space.now) (c.requires.serves.stands.stands tells) (c.requires.serves.settled tells))
    (sound_here c.create.new.volume (g.P.SectorView.space c.create.new.space) (c.in_ok-changes.ensures.edits.ran.stands.stands ((c.create.ensures.edits.ran.touches (g.P.SectorView.space c.args.space.now).content).same.tells ∙ tells)) (c.in_ok-changes.ensures.serves.settled ((c.create.ensures.edits.ran.touches []).same.tells ∙ tells)))
    reply.Ok (c.requires.affords tells) (sym (line_ok (tree_of (g.P.SectorView.space c.args.space.now).content) (command.Create c.args.path.now) refl (c.requires.affords tells).no_refusal)) (c.in_ok-changes.ensures.tree tells) (λ fine. c.in_ok-changes.ensures.lists tells) c.in_ok-changes.changes
    (λ not_own at is. c.in_ok-changes.ensures.told tells ∙ ap (of_made c.args.number (tree_of (g.P.SectorView.space c.args.space.now).content)) is)

pub returns-clause-place : goal.returns-clause-place
returns-clause-place g c tells =
    create_place (capacity_of c.args.volume.now) c.args.number c.args.path.now (g.P.SectorView.space c.args.space.now).content (g.P.SectorView.space c.create.new.space).content
    (sound_here c.args.volume.now (g.P.SectorView.space c.args.space.now) (c.requires.serves.stands.stands tells) (c.requires.serves.settled tells))
    (sound_here c.create.new.volume (g.P.SectorView.space c.create.new.space) (c.in_ok-changes.ensures.edits.ran.stands.stands ((c.create.ensures.edits.ran.touches (g.P.SectorView.space c.args.space.now).content).same.tells ∙ tells)) (c.in_ok-changes.ensures.serves.settled ((c.create.ensures.edits.ran.touches []).same.tells ∙ tells)))
    reply.Ok (c.requires.affords tells) (sym (line_ok (tree_of (g.P.SectorView.space c.args.space.now).content) (command.Create c.args.path.now) refl (c.requires.affords tells).no_refusal)) (c.in_ok-changes.ensures.tree tells) (λ fine. c.in_ok-changes.ensures.lists tells)

pub returns-clause-done : goal.returns-clause-done
returns-clause-done g c tells met =
    replied (capacity_of c.args.volume.now) (command.Create c.args.path.now) (g.P.SectorView.space c.args.space.now).content (g.P.SectorView.space c.args.space.now).content refl refl (c.requires.affords tells) reply.Ok c.in_ok-changes.changes (sym (line_ok (tree_of (g.P.SectorView.space c.args.space.now).content) (command.Create c.args.path.now) refl (c.requires.affords tells).no_refusal))

pub returns-then-not-fits_make-clause-done : goal.returns-then-not-fits_make-clause-done
returns-then-not-fits_make-clause-done g c tells met = absurd (true≢false (sym (c.fits_make.ensures.met tells met) ∙ c.if-not-fits_make.true))

pub returns-then-not-fits_make-clause-loads : goal.returns-then-not-fits_make-clause-loads
returns-then-not-fits_make-clause-loads g c tells = within_none (command.Create c.args.path.now) c.args.volume.now (g.P.SectorView.space c.args.space.now) (g.P.SectorView.space c.args.space.now) (omega arith)

pub returns-clause-loads : goal.returns-clause-loads
returns-clause-loads g c tells = within_now (command.Create c.args.path.now) c.args.volume.now (g.P.SectorView.space c.args.space.now) (g.P.SectorView.space c.create.new.space) refl refl refl (c.requires.affords tells) (c.create.ensures.loads tells)

pub returns-in_err-changes-clause-loads : goal.returns-in_err-changes-clause-loads
returns-in_err-changes-clause-loads g c tells = within_now (command.Create c.args.path.now) c.args.volume.now (g.P.SectorView.space c.args.space.now) (g.P.SectorView.space c.create.new.space) refl refl refl (c.requires.affords tells) (c.create.ensures.loads tells)

pub returns-clause-edits : goal.returns-clause-edits
returns-clause-edits g c = edits_ok (edits_spent c.in_ok-changes.ensures.edits (λ tells. omega arith))

pub returns-in_err-changes-clause-edits : goal.returns-in_err-changes-clause-edits
returns-in_err-changes-clause-edits g c = edits_err c.from_residual.ensures.1 (edits_spent c.in_err-changes.ensures.edits (λ tells. omega arith))

pub returns-then-not-fits_make-clause-edits : goal.returns-then-not-fits_make-clause-edits
returns-then-not-fits_make-clause-edits g c = edits_none _ g.met.P.SectorView.follows_refl c.requires.serves.stands
