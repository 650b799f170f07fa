use Rattle.std.proofs.Common.{refl, sym, ◌∙◌, ap, subst, [], arith}
use Rattle.std.proofs.lemmas.Bool.{true≢false}
use Rattle.sector_disk.specs.Lists.{Content}
use Rattle.hfs_language.specs.declared.command.Command.TheVariants as command
use Rattle.hfs_model.specs.Step.{reached}
use Rattle.hfs_volume.specs.TreeOf.{tree_of}
use Rattle.volume_base.specs.Room.{capacity_of}
use Rattle.volume_space.proofs.Sounding.{sound_here}
use Rattle.volume_step.specs.Steps.{Affords, KeepsJournal, StepsTo}
use Rattle.volume_step.specs.declared.outcome.Outcome.TheVariants as outcome
use Rattle.volume_step.proofs.Done.{chmod_place, chmod_steps, same_place}
use Rattle.volume_step.proofs.MetNow.{replied}
use Rattle.volume_step.proofs.Ready.{update_fits}
use Rattle.volume_step.proofs.Loaded.{within, within_reads}
use Rattle.volume_base.proofs.Framed.{edits_err, edits_ok, edits_spent, looked_err, looked_ok}
use Rattle.volume_base.proofs.Joined.{edits_both}
use Rattle.volume_step.proofs.marking.set_mode.Goals as goal

pub returns-clause-answered : goal.returns-clause-answered
returns-clause-answered g c tells =
    subst (λ (k : Content). StepsTo (outcome.Answered c.in_ok-reply.reply c.in_ok-changes.changes) (capacity_of c.args.volume.now) c.args.number (command.Chmod c.args.path.now c.args.rights) k (g.P.SectorView.space c.chmod.new.space).content) (c.change_at.ensures.looked.reads.looks.content tells)
    (chmod_steps (capacity_of c.args.volume.now) c.args.number c.args.path.now c.args.rights (g.P.SectorView.space c.change_at.new.space).content (g.P.SectorView.space c.chmod.new.space).content
    (sound_here c.change_at.new.self (g.P.SectorView.space c.change_at.new.space) (c.change_at.ensures.looked.stands.stands (c.change_at.ensures.looked.reads.looks.same.tells ∙ tells)) (c.change_at.ensures.serves.settled (c.change_at.ensures.looked.reads.looks.same.tells ∙ tells)))
    (sound_here c.chmod.new.volume (g.P.SectorView.space c.chmod.new.space) (c.in_ok-reply.ensures.edits.ran.stands.stands ((c.chmod.ensures.edits.ran.touches (g.P.SectorView.space c.args.space.now).content).same.tells ∙ (c.change_at.ensures.looked.reads.looks.same.tells ∙ tells))) (c.in_ok-reply.ensures.serves.settled ((c.chmod.ensures.edits.ran.touches []).same.tells ∙ (c.change_at.ensures.looked.reads.looks.same.tells ∙ tells))))
    (subst (λ (k : Content). Affords (capacity_of c.args.volume.now) (command.Chmod c.args.path.now c.args.rights) k) (sym (c.change_at.ensures.looked.reads.looks.content tells)) (c.requires.affords tells))
    c.in_ok-reply.reply (c.in_ok-reply.ensures.reply (c.change_at.ensures.looked.reads.looks.same.tells ∙ tells)) (c.in_ok-reply.ensures.tree (c.change_at.ensures.looked.reads.looks.same.tells ∙ tells)) (c.in_ok-reply.ensures.lists (c.change_at.ensures.looked.reads.looks.same.tells ∙ tells)) c.in_ok-changes.changes
    (λ not_own entry is. c.in_ok-changes.ensures.told tells not_own entry (ap (λ (k : Content). reached (tree_of k) c.args.path.now) (sym (c.change_at.ensures.looked.reads.looks.content tells)) ∙ is)))

pub returns-clause-place : goal.returns-clause-place
returns-clause-place g c tells =
    subst (λ (k : Content). KeepsJournal k (g.P.SectorView.space c.chmod.new.space).content) (c.change_at.ensures.looked.reads.looks.content tells)
    (chmod_place (capacity_of c.args.volume.now) c.args.number c.args.path.now c.args.rights (g.P.SectorView.space c.change_at.new.space).content (g.P.SectorView.space c.chmod.new.space).content
    (sound_here c.change_at.new.self (g.P.SectorView.space c.change_at.new.space) (c.change_at.ensures.looked.stands.stands (c.change_at.ensures.looked.reads.looks.same.tells ∙ tells)) (c.change_at.ensures.serves.settled (c.change_at.ensures.looked.reads.looks.same.tells ∙ tells)))
    (sound_here c.chmod.new.volume (g.P.SectorView.space c.chmod.new.space) (c.in_ok-reply.ensures.edits.ran.stands.stands ((c.chmod.ensures.edits.ran.touches (g.P.SectorView.space c.args.space.now).content).same.tells ∙ (c.change_at.ensures.looked.reads.looks.same.tells ∙ tells))) (c.in_ok-reply.ensures.serves.settled ((c.chmod.ensures.edits.ran.touches []).same.tells ∙ (c.change_at.ensures.looked.reads.looks.same.tells ∙ tells))))
    (subst (λ (k : Content). Affords (capacity_of c.args.volume.now) (command.Chmod c.args.path.now c.args.rights) k) (sym (c.change_at.ensures.looked.reads.looks.content tells)) (c.requires.affords tells))
    c.in_ok-reply.reply (c.in_ok-reply.ensures.reply (c.change_at.ensures.looked.reads.looks.same.tells ∙ tells)) (c.in_ok-reply.ensures.tree (c.change_at.ensures.looked.reads.looks.same.tells ∙ tells)) (c.in_ok-reply.ensures.lists (c.change_at.ensures.looked.reads.looks.same.tells ∙ tells)))

pub returns-clause-done : goal.returns-clause-done
returns-clause-done g c tells met =
    replied (capacity_of c.args.volume.now) (command.Chmod c.args.path.now c.args.rights) (g.P.SectorView.space c.args.space.now).content (g.P.SectorView.space c.change_at.new.space).content (c.change_at.ensures.looked.reads.looks.content tells) refl (c.requires.affords tells) c.in_ok-reply.reply c.in_ok-changes.changes (c.in_ok-reply.ensures.reply (c.change_at.ensures.looked.reads.looks.same.tells ∙ tells))

pub returns-then-not-fits_update-clause-done : goal.returns-then-not-fits_update-clause-done
returns-then-not-fits_update-clause-done g c tells met =
    absurd (true≢false (sym (c.fits_update.ensures.met (update_fits (command.Chmod c.args.path.now c.args.rights) c.args.volume.now c.change_at.new.self (g.P.SectorView.space c.args.space.now) (g.P.SectorView.space c.change_at.new.space) c.change_at.ensures.looked.reads tells (c.change_at.ensures.serves.settled (c.change_at.ensures.looked.reads.looks.same.tells ∙ tells)) refl met)) ∙ c.if-not-fits_update.true))

pub returns-clause-loads : goal.returns-clause-loads
returns-clause-loads g c tells = within (command.Chmod c.args.path.now c.args.rights) c.args.volume.now c.change_at.new.self (g.P.SectorView.space c.args.space.now) (g.P.SectorView.space c.change_at.new.space) (g.P.SectorView.space c.chmod.new.space) c.change_at.ensures.looked.reads tells refl refl refl (c.requires.affords tells) (c.chmod.ensures.loads (c.change_at.ensures.looked.reads.looks.same.tells ∙ tells))

pub returns-in_err-reply-clause-loads : goal.returns-in_err-reply-clause-loads
returns-in_err-reply-clause-loads g c tells = within (command.Chmod c.args.path.now c.args.rights) c.args.volume.now c.change_at.new.self (g.P.SectorView.space c.args.space.now) (g.P.SectorView.space c.change_at.new.space) (g.P.SectorView.space c.chmod.new.space) c.change_at.ensures.looked.reads tells refl refl refl (c.requires.affords tells) (c.chmod.ensures.loads (c.change_at.ensures.looked.reads.looks.same.tells ∙ tells))

pub returns-in_err-changes-clause-loads : goal.returns-in_err-changes-clause-loads
returns-in_err-changes-clause-loads g c tells = within_reads (command.Chmod c.args.path.now c.args.rights) c.args.volume.now c.change_at.new.self (g.P.SectorView.space c.args.space.now) (g.P.SectorView.space c.change_at.new.space) c.change_at.ensures.looked.reads

pub returns-then-not-fits_update-clause-loads : goal.returns-then-not-fits_update-clause-loads
returns-then-not-fits_update-clause-loads g c tells = within_reads (command.Chmod c.args.path.now c.args.rights) c.args.volume.now c.change_at.new.self (g.P.SectorView.space c.args.space.now) (g.P.SectorView.space c.change_at.new.space) c.change_at.ensures.looked.reads

pub returns-clause-edits : goal.returns-clause-edits
returns-clause-edits g c = edits_ok (edits_spent (edits_both g.met.P.SectorView.follows_trans c.change_at.ensures.looked.edits c.in_ok-reply.ensures.edits) (λ tells. omega arith))

pub returns-in_err-reply-clause-edits : goal.returns-in_err-reply-clause-edits
returns-in_err-reply-clause-edits g c = edits_err c.from_residual-in_err-reply.ensures.1 (edits_spent (edits_both g.met.P.SectorView.follows_trans c.change_at.ensures.looked.edits c.in_err-reply.ensures.edits) (λ tells. omega arith))

pub returns-in_err-changes-clause-edits : goal.returns-in_err-changes-clause-edits
returns-in_err-changes-clause-edits g c = looked_err _ c.from_residual.ensures.1 c.in_err-changes.ensures.looked

pub returns-then-not-fits_update-clause-edits : goal.returns-then-not-fits_update-clause-edits
returns-then-not-fits_update-clause-edits g c = looked_ok _ c.change_at.ensures.looked

pub returns-then-not-fits_update-clause-place : goal.returns-then-not-fits_update-clause-place
returns-then-not-fits_update-clause-place g c tells = same_place (g.P.SectorView.space c.args.space.now).content (g.P.SectorView.space c.change_at.new.space).content (c.change_at.ensures.looked.reads.looks.content tells)
