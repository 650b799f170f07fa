use Rattle.std.proofs.Common.{sym, ◌∙◌, ap, subst, refl, []}
use Rattle.sector_disk.specs.Lists.{Content}
use Rattle.hfs_language.specs.declared.command.Command.TheVariants as command
use Rattle.hfs_model.specs.Step.{reached}
use Rattle.hfs_volume.specs.TreeOf.{tree_of}
use Rattle.volume_base.specs.Room.{capacity_of}
use Rattle.volume_space.proofs.Sounding.{sound_here}
use Rattle.volume_step.specs.Steps.{Affords, KeepsJournal, StepsTo}
use Rattle.volume_step.specs.declared.outcome.Outcome.TheVariants as outcome
use Rattle.volume_step.proofs.Done.{remove_place, remove_steps, same_place}
use Rattle.std.proofs.lemmas.Bool.{true≢false}
use Rattle.hfs_volume.specs.Content.{VolumeState, has_attributes, volume_of}
use Rattle.hfs_volume.specs.Weight.{edits}
use Rattle.volume_header.specs.declared.header.VolumeHeader.{VolumeHeader}
use Rattle.volume_step.proofs.MetNow.{entry_met, removal_takes, replied}
use Rattle.volume_step.proofs.Valued.{valued_still}
use Rattle.volume_step.proofs.Loaded.{within, within_reads}
use Rattle.volume_base.proofs.Framed.{looked_ok}
use Rattle.volume_base.proofs.Freed.{frees_behind, frees_edits, frees_err, frees_looked, frees_ok}
use Rattle.volume_step.proofs.removing.remove_with.Goals as goal

pub returns-clause-answered : goal.returns-clause-answered
returns-clause-answered g c tells =
    subst (λ (k : Content). StepsTo (outcome.Answered c.in_ok-reply.reply c.in_ok-changes.changes) (capacity_of c.args.volume.now) c.args.number (command.Rmdir c.args.path.now) k (g.P.SectorView.space c.rmdir.new.space).content) (c.change_at.ensures.looked.reads.looks.content tells)
    (remove_steps (capacity_of c.args.volume.now) c.args.number c.args.path.now (g.P.SectorView.space c.change_at.new.space).content (g.P.SectorView.space c.rmdir.new.space).content
    (sound_here c.change_at.new.self (g.P.SectorView.space c.change_at.new.space) (c.change_at.ensures.looked.stands.stands (c.change_at.ensures.looked.reads.looks.same.tells ∙ tells)) (c.change_at.ensures.serves.settled (c.change_at.ensures.looked.reads.looks.same.tells ∙ tells)))
    (sound_here c.rmdir.new.volume (g.P.SectorView.space c.rmdir.new.space) (c.in_ok-reply.ensures.serves.stands.stands ((c.rmdir.ensures.frees.ran.touches []).same.tells ∙ (c.change_at.ensures.looked.reads.looks.same.tells ∙ tells))) (c.in_ok-reply.ensures.serves.settled ((c.rmdir.ensures.frees.ran.touches []).same.tells ∙ (c.change_at.ensures.looked.reads.looks.same.tells ∙ tells))))
    (subst (λ (k : Content). Affords (capacity_of c.args.volume.now) (command.Rmdir c.args.path.now) k) (sym (c.change_at.ensures.looked.reads.looks.content tells)) (c.requires.affords tells)) c.in_ok-reply.reply (c.in_ok-reply.ensures.reply (c.change_at.ensures.looked.reads.looks.same.tells ∙ tells)) (c.in_ok-reply.ensures.tree (c.change_at.ensures.looked.reads.looks.same.tells ∙ tells)) (c.in_ok-reply.ensures.lists (c.change_at.ensures.looked.reads.looks.same.tells ∙ tells)) c.in_ok-changes.changes
    (λ not_own entry is. c.in_ok-changes.ensures.told tells not_own entry (ap (λ (k : Content). reached (tree_of k) c.args.path.now) (sym (c.change_at.ensures.looked.reads.looks.content tells)) ∙ is)))

pub returns-clause-place : goal.returns-clause-place
returns-clause-place g c tells =
    subst (λ (k : Content). KeepsJournal k (g.P.SectorView.space c.rmdir.new.space).content) (c.change_at.ensures.looked.reads.looks.content tells)
    (remove_place (capacity_of c.args.volume.now) c.args.number c.args.path.now (g.P.SectorView.space c.change_at.new.space).content (g.P.SectorView.space c.rmdir.new.space).content
    (sound_here c.change_at.new.self (g.P.SectorView.space c.change_at.new.space) (c.change_at.ensures.looked.stands.stands (c.change_at.ensures.looked.reads.looks.same.tells ∙ tells)) (c.change_at.ensures.serves.settled (c.change_at.ensures.looked.reads.looks.same.tells ∙ tells)))
    (sound_here c.rmdir.new.volume (g.P.SectorView.space c.rmdir.new.space) (c.in_ok-reply.ensures.serves.stands.stands ((c.rmdir.ensures.frees.ran.touches []).same.tells ∙ (c.change_at.ensures.looked.reads.looks.same.tells ∙ tells))) (c.in_ok-reply.ensures.serves.settled ((c.rmdir.ensures.frees.ran.touches []).same.tells ∙ (c.change_at.ensures.looked.reads.looks.same.tells ∙ tells))))
    (subst (λ (k : Content). Affords (capacity_of c.args.volume.now) (command.Rmdir c.args.path.now) k) (sym (c.change_at.ensures.looked.reads.looks.content tells)) (c.requires.affords tells)) c.in_ok-reply.reply (c.in_ok-reply.ensures.reply (c.change_at.ensures.looked.reads.looks.same.tells ∙ tells)) (c.in_ok-reply.ensures.tree (c.change_at.ensures.looked.reads.looks.same.tells ∙ tells)) (c.in_ok-reply.ensures.lists (c.change_at.ensures.looked.reads.looks.same.tells ∙ tells)))

pub returns-clause-done : goal.returns-clause-done
returns-clause-done g c tells met none =
    replied (capacity_of c.args.volume.now) (command.Rmdir c.args.path.now) (g.P.SectorView.space c.args.space.now).content (g.P.SectorView.space c.change_at.new.space).content (c.change_at.ensures.looked.reads.looks.content tells) refl (c.requires.affords tells) c.in_ok-reply.reply c.in_ok-changes.changes (c.in_ok-reply.ensures.reply (c.change_at.ensures.looked.reads.looks.same.tells ∙ tells))

pub fits_bare-requires-clause-small : goal.fits_bare-requires-clause-small
fits_bare-requires-clause-small g c tells = c.requires.small

pub returns-then-not-fits_remove-clause-done : goal.returns-then-not-fits_remove-clause-done
returns-then-not-fits_remove-clause-done g c tells met none =
    absurd (true≢false (sym (c.fits_remove.ensures.met (c.change_at.ensures.looked.reads.looks.same.tells ∙ tells)
    (entry_met c.a_load_says_enough.ensures c.a_load_is_of_parts.ensures c.trees_grow_by_enough.ensures c.trees_hold_three.ensures c.change_at.new.self (g.P.SectorView.space c.change_at.new.space) (sound_here c.change_at.new.self (g.P.SectorView.space c.change_at.new.space) (c.change_at.ensures.looked.stands.stands (c.change_at.ensures.looked.reads.looks.same.tells ∙ tells)) (c.change_at.ensures.serves.settled (c.change_at.ensures.looked.reads.looks.same.tells ∙ tells))) c.args.owned.count c.args.owned.change
    (valued_still (edits 0 2 c.args.owned.count 1) c.args.owned.change c.args.volume.now c.change_at.new.self (g.P.SectorView.space c.args.space.now) (g.P.SectorView.space c.change_at.new.space) c.change_at.ensures.looked.reads tells met)))
    ∙ c.if-not-fits_remove.true))

pub returns-then-not-fits_bare-clause-done : goal.returns-then-not-fits_bare-clause-done
returns-then-not-fits_bare-clause-done g c tells met none =
    absurd (true≢false (sym (c.fits_bare.ensures.met (c.change_at.ensures.looked.reads.looks.same.tells ∙ tells)
    (λ lacks. none (ap (λ (l : VolumeState). has_attributes l.head) (c.requires.serves.settled tells).lists ∙ sym (ap (λ (h : VolumeHeader). has_attributes h) c.change_at.ensures.looked.reads.keeps.header) ∙ lacks))
    (valued_still (edits 0 2 c.args.owned.count 1) c.args.owned.change c.args.volume.now c.change_at.new.self (g.P.SectorView.space c.args.space.now) (g.P.SectorView.space c.change_at.new.space) c.change_at.ensures.looked.reads tells met))
    ∙ c.if-not-fits_bare.true))

pub returns-clause-loads : goal.returns-clause-loads
returns-clause-loads g c tells = within (command.Rmdir c.args.path.now) c.args.volume.now c.change_at.new.self (g.P.SectorView.space c.args.space.now) (g.P.SectorView.space c.change_at.new.space) (g.P.SectorView.space c.rmdir.new.space) c.change_at.ensures.looked.reads tells refl refl (removal_takes (volume_of (g.P.SectorView.space c.args.space.now).content) (tree_of (g.P.SectorView.space c.args.space.now).content) c.args.path.now) (c.requires.affords tells) (c.rmdir.ensures.loads (c.change_at.ensures.looked.reads.looks.same.tells ∙ tells))

pub returns-in_err-reply-clause-loads : goal.returns-in_err-reply-clause-loads
returns-in_err-reply-clause-loads g c tells = within (command.Rmdir c.args.path.now) c.args.volume.now c.change_at.new.self (g.P.SectorView.space c.args.space.now) (g.P.SectorView.space c.change_at.new.space) (g.P.SectorView.space c.rmdir.new.space) c.change_at.ensures.looked.reads tells refl refl (removal_takes (volume_of (g.P.SectorView.space c.args.space.now).content) (tree_of (g.P.SectorView.space c.args.space.now).content) c.args.path.now) (c.requires.affords tells) (c.rmdir.ensures.loads (c.change_at.ensures.looked.reads.looks.same.tells ∙ tells))

pub returns-in_err-changes-clause-loads : goal.returns-in_err-changes-clause-loads
returns-in_err-changes-clause-loads g c tells = within_reads (command.Rmdir c.args.path.now) c.args.volume.now c.change_at.new.self (g.P.SectorView.space c.args.space.now) (g.P.SectorView.space c.change_at.new.space) c.change_at.ensures.looked.reads

pub returns-then-not-fits_remove-clause-loads : goal.returns-then-not-fits_remove-clause-loads
returns-then-not-fits_remove-clause-loads g c tells = within_reads (command.Rmdir c.args.path.now) c.args.volume.now c.change_at.new.self (g.P.SectorView.space c.args.space.now) (g.P.SectorView.space c.change_at.new.space) c.change_at.ensures.looked.reads

pub returns-then-not-fits_bare-clause-loads : goal.returns-then-not-fits_bare-clause-loads
returns-then-not-fits_bare-clause-loads g c tells = within_reads (command.Rmdir c.args.path.now) c.args.volume.now c.change_at.new.self (g.P.SectorView.space c.args.space.now) (g.P.SectorView.space c.change_at.new.space) c.change_at.ensures.looked.reads

pub returns-clause-frees : goal.returns-clause-frees
returns-clause-frees g c = frees_ok (frees_behind g.met.P.SectorView.follows_trans c.change_at.ensures.looked c.in_ok-reply.ensures.frees)

pub returns-in_err-reply-clause-frees : goal.returns-in_err-reply-clause-frees
returns-in_err-reply-clause-frees g c = frees_err c.from_residual-in_err-reply.ensures.1 (frees_behind g.met.P.SectorView.follows_trans c.change_at.ensures.looked c.in_err-reply.ensures.frees)

pub returns-in_err-changes-clause-frees : goal.returns-in_err-changes-clause-frees
returns-in_err-changes-clause-frees g c = frees_err c.from_residual.ensures.1 (frees_looked c.in_err-changes.ensures.looked)

pub returns-then-not-fits_remove-clause-frees : goal.returns-then-not-fits_remove-clause-frees
returns-then-not-fits_remove-clause-frees g c = frees_edits (looked_ok 0 c.change_at.ensures.looked)

pub returns-then-not-fits_bare-clause-frees : goal.returns-then-not-fits_bare-clause-frees
returns-then-not-fits_bare-clause-frees g c = frees_edits (looked_ok 0 c.change_at.ensures.looked)

pub returns-then-not-fits_remove-clause-place : goal.returns-then-not-fits_remove-clause-place
returns-then-not-fits_remove-clause-place g c tells = same_place (g.P.SectorView.space c.args.space.now).content (g.P.SectorView.space c.change_at.new.space).content (c.change_at.ensures.looked.reads.looks.content tells)

pub returns-then-not-fits_bare-clause-place : goal.returns-then-not-fits_bare-clause-place
returns-then-not-fits_bare-clause-place g c tells = same_place (g.P.SectorView.space c.args.space.now).content (g.P.SectorView.space c.change_at.new.space).content (c.change_at.ensures.looked.reads.looks.content tells)
