use Rattle.std.proofs.Common.{sym, ◌∙◌, ap, subst, refl, []}
use Rattle.std.specs.Prelude.{Some}
use Rattle.sector_disk.specs.Lists.{Content}
use Rattle.hfs_language.specs.declared.command.Command.TheVariants as command
use Rattle.hfs_model.specs.Step.{reached}
use Rattle.hfs_volume.specs.TreeOf.{tree_of}
use Rattle.volume_base.specs.Room.{capacity_of}
use Rattle.volume_space.proofs.Sounding.{sound_here}
use Rattle.volume_step.specs.Steps.{Affords, KeepsJournal, StepsTo}
use Rattle.volume_step.specs.declared.outcome.Outcome.TheVariants as outcome
use Rattle.volume_step.proofs.Done.{delete_place, delete_steps, same_place}
use Rattle.volume_step.proofs.MetNow.{replied}
use Rattle.volume_step.proofs.Loaded.{within_behind, within_reads}
use Rattle.volume_base.proofs.Freed.{frees_behind, frees_err, frees_looked, frees_ok}
use Rattle.volume_step.proofs.Valued.{command_still, if_none, if_some}
use Rattle.volume_step.proofs.owning.delete_attribute.Goals as goal

pub returns-in-Some-clause-answered : goal.returns-in-Some-clause-answered
returns-in-Some-clause-answered g c tells =
    subst (λ (k : Content). StepsTo (outcome.Answered c.in-Some.reply c.in_ok-changes.changes) (capacity_of c.args.volume.now) c.args.number (command.DelAttr c.args.path.now c.args.name.now) k (g.P.SectorView.space c.delattr.new.space).content) (c.change_at.ensures.looked.reads.looks.content tells)
    (delete_steps (capacity_of c.args.volume.now) c.args.number c.args.path.now c.args.name.now (g.P.SectorView.space c.change_at.new.space).content (g.P.SectorView.space c.delattr.new.space).content
    (sound_here c.change_at.new.self (g.P.SectorView.space c.change_at.new.space) (c.change_at.ensures.looked.stands.stands (c.change_at.ensures.looked.reads.looks.same.tells ∙ tells)) (c.change_at.ensures.serves.settled (c.change_at.ensures.looked.reads.looks.same.tells ∙ tells)))
    (sound_here c.delattr.new.volume (g.P.SectorView.space c.delattr.new.space) (c.in_ok-reply.ensures.serves.stands.stands ((c.delattr.ensures.frees.ran.touches []).same.tells ∙ (c.change_at.ensures.looked.reads.looks.same.tells ∙ tells))) (c.in_ok-reply.ensures.serves.settled ((c.delattr.ensures.frees.ran.touches []).same.tells ∙ (c.change_at.ensures.looked.reads.looks.same.tells ∙ tells))))
    (subst (λ (k : Content). Affords (capacity_of c.args.volume.now) (command.DelAttr c.args.path.now c.args.name.now) k) (sym (c.change_at.ensures.looked.reads.looks.content tells)) (c.requires.affords tells)) c.in-Some.reply (if_some _ c.in_ok-reply.field-0 c.in-Some.reply c.in-Some.is (c.in_ok-reply.ensures.reply (c.change_at.ensures.looked.reads.looks.same.tells ∙ tells)))
    (if_some _ c.in_ok-reply.field-0 c.in-Some.reply c.in-Some.is (c.in_ok-reply.ensures.tree (c.change_at.ensures.looked.reads.looks.same.tells ∙ tells)))
    (λ ok. c.in_ok-reply.ensures.lists (c.change_at.ensures.looked.reads.looks.same.tells ∙ tells) (c.in-Some.is ∙ ap Some ok)) c.in_ok-changes.changes
    (λ not_own entry is. c.in_ok-changes.ensures.told tells not_own entry (ap (λ (k : Content). reached (tree_of k) c.args.path.now) (sym (c.change_at.ensures.looked.reads.looks.content tells)) ∙ is)))

pub returns-in-None-clause-answered : goal.returns-in-None-clause-answered
returns-in-None-clause-answered g c tells =
    if_none _ c.in_ok-reply.field-0 c.in-None.is (c.in_ok-reply.ensures.waits (c.change_at.ensures.looked.reads.looks.same.tells ∙ tells)) ∙ c.change_at.ensures.looked.reads.looks.content tells

pub returns-in-Some-clause-place : goal.returns-in-Some-clause-place
returns-in-Some-clause-place g c tells =
    subst (λ (k : Content). KeepsJournal k (g.P.SectorView.space c.delattr.new.space).content) (c.change_at.ensures.looked.reads.looks.content tells)
    (delete_place (capacity_of c.args.volume.now) c.args.number c.args.path.now c.args.name.now (g.P.SectorView.space c.change_at.new.space).content (g.P.SectorView.space c.delattr.new.space).content
    (sound_here c.change_at.new.self (g.P.SectorView.space c.change_at.new.space) (c.change_at.ensures.looked.stands.stands (c.change_at.ensures.looked.reads.looks.same.tells ∙ tells)) (c.change_at.ensures.serves.settled (c.change_at.ensures.looked.reads.looks.same.tells ∙ tells)))
    (sound_here c.delattr.new.volume (g.P.SectorView.space c.delattr.new.space) (c.in_ok-reply.ensures.serves.stands.stands ((c.delattr.ensures.frees.ran.touches []).same.tells ∙ (c.change_at.ensures.looked.reads.looks.same.tells ∙ tells))) (c.in_ok-reply.ensures.serves.settled ((c.delattr.ensures.frees.ran.touches []).same.tells ∙ (c.change_at.ensures.looked.reads.looks.same.tells ∙ tells))))
    (subst (λ (k : Content). Affords (capacity_of c.args.volume.now) (command.DelAttr c.args.path.now c.args.name.now) k) (sym (c.change_at.ensures.looked.reads.looks.content tells)) (c.requires.affords tells)) c.in-Some.reply (if_some _ c.in_ok-reply.field-0 c.in-Some.reply c.in-Some.is (c.in_ok-reply.ensures.reply (c.change_at.ensures.looked.reads.looks.same.tells ∙ tells)))
    (if_some _ c.in_ok-reply.field-0 c.in-Some.reply c.in-Some.is (c.in_ok-reply.ensures.tree (c.change_at.ensures.looked.reads.looks.same.tells ∙ tells)))
    (λ ok. c.in_ok-reply.ensures.lists (c.change_at.ensures.looked.reads.looks.same.tells ∙ tells) (c.in-Some.is ∙ ap Some ok)))

pub returns-in-None-clause-place : goal.returns-in-None-clause-place
returns-in-None-clause-place g c tells =
    same_place (g.P.SectorView.space c.args.space.now).content (g.P.SectorView.space c.delattr.new.space).content (if_none _ c.in_ok-reply.field-0 c.in-None.is (c.in_ok-reply.ensures.waits (c.change_at.ensures.looked.reads.looks.same.tells ∙ tells)) ∙ c.change_at.ensures.looked.reads.looks.content tells)

pub returns-in-Some-clause-done : goal.returns-in-Some-clause-done
returns-in-Some-clause-done g c tells met =
    replied (capacity_of c.args.volume.now) (command.DelAttr c.args.path.now c.args.name.now) (g.P.SectorView.space c.args.space.now).content (g.P.SectorView.space c.change_at.new.space).content (c.change_at.ensures.looked.reads.looks.content tells) refl (c.requires.affords tells) c.in-Some.reply c.in_ok-changes.changes (if_some _ c.in_ok-reply.field-0 c.in-Some.reply c.in-Some.is (c.in_ok-reply.ensures.reply (c.change_at.ensures.looked.reads.looks.same.tells ∙ tells)))

pub returns-in-None-clause-done : goal.returns-in-None-clause-done
returns-in-None-clause-done g c tells met =
    if_none _ c.in_ok-reply.field-0 c.in-None.is (c.in_ok-reply.ensures.unmet (c.change_at.ensures.looked.reads.looks.same.tells ∙ tells))
    (command_still (command.DelAttr c.args.path.now c.args.name.now) c.args.volume.now c.change_at.new.self (g.P.SectorView.space c.args.space.now) (g.P.SectorView.space c.change_at.new.space) c.change_at.ensures.looked.reads tells met)

pub returns-in-Some-clause-loads : goal.returns-in-Some-clause-loads
returns-in-Some-clause-loads g c tells =
    within_behind (command.DelAttr c.args.path.now c.args.name.now) c.args.volume.now c.change_at.new.self (g.P.SectorView.space c.args.space.now) (g.P.SectorView.space c.change_at.new.space) (g.P.SectorView.space c.delattr.new.space) c.change_at.ensures.looked.reads tells (λ load grow is. c.delattr.ensures.loads (c.change_at.ensures.looked.reads.looks.same.tells ∙ tells) load grow is)

pub returns-in-None-clause-loads : goal.returns-in-None-clause-loads
returns-in-None-clause-loads g c tells =
    within_behind (command.DelAttr c.args.path.now c.args.name.now) c.args.volume.now c.change_at.new.self (g.P.SectorView.space c.args.space.now) (g.P.SectorView.space c.change_at.new.space) (g.P.SectorView.space c.delattr.new.space) c.change_at.ensures.looked.reads tells (λ load grow is. c.delattr.ensures.loads (c.change_at.ensures.looked.reads.looks.same.tells ∙ tells) load grow is)

pub returns-in_err-reply-clause-loads : goal.returns-in_err-reply-clause-loads
returns-in_err-reply-clause-loads g c tells =
    within_behind (command.DelAttr c.args.path.now c.args.name.now) c.args.volume.now c.change_at.new.self (g.P.SectorView.space c.args.space.now) (g.P.SectorView.space c.change_at.new.space) (g.P.SectorView.space c.delattr.new.space) c.change_at.ensures.looked.reads tells (λ load grow is. c.delattr.ensures.loads (c.change_at.ensures.looked.reads.looks.same.tells ∙ tells) load grow is)

pub returns-in_err-changes-clause-loads : goal.returns-in_err-changes-clause-loads
returns-in_err-changes-clause-loads g c tells =
    within_reads (command.DelAttr c.args.path.now c.args.name.now) c.args.volume.now c.change_at.new.self (g.P.SectorView.space c.args.space.now) (g.P.SectorView.space c.change_at.new.space) c.change_at.ensures.looked.reads

pub returns-in-Some-clause-frees : goal.returns-in-Some-clause-frees
returns-in-Some-clause-frees g c =
    frees_ok (frees_behind g.met.P.SectorView.follows_trans c.change_at.ensures.looked c.in_ok-reply.ensures.frees)

pub returns-in-None-clause-frees : goal.returns-in-None-clause-frees
returns-in-None-clause-frees g c =
    frees_ok (frees_behind g.met.P.SectorView.follows_trans c.change_at.ensures.looked c.in_ok-reply.ensures.frees)

pub returns-in_err-reply-clause-frees : goal.returns-in_err-reply-clause-frees
returns-in_err-reply-clause-frees g c =
    frees_err c.from_residual-in_err-reply.ensures.1 (frees_behind g.met.P.SectorView.follows_trans c.change_at.ensures.looked c.in_err-reply.ensures.frees)

pub returns-in_err-changes-clause-frees : goal.returns-in_err-changes-clause-frees
returns-in_err-changes-clause-frees g c =
    frees_err c.from_residual.ensures.1 (frees_looked c.in_err-changes.ensures.looked)
