use Rattle.std.proofs.Common.{sym, ◌∙◌, ap, subst}
use Rattle.std.specs.Prelude.{Some}
use Rattle.sector_disk.specs.Lists.{Content}
use Rattle.hfs_language.specs.declared.command.Command.TheVariants as command
use Rattle.hfs_model.specs.Step.{reached}
use Rattle.hfs_volume.specs.Aside.{IsJournalSector}
use Rattle.hfs_volume.specs.TreeOf.{tree_of}
use Rattle.volume_base.specs.Room.{capacity_of}
use Rattle.volume_space.proofs.Sounding.{sound_here}
use Rattle.volume_step.specs.Steps.{Affords, KeepsJournal, StepsTo}
use Rattle.volume_step.specs.declared.outcome.Outcome.TheVariants as outcome
use Rattle.volume_step.proofs.Done.{same_place, set_place, set_steps}
use Rattle.volume_step.proofs.MetNow.{done_ok, set_fine}
use Rattle.volume_step.proofs.Loaded.{within_behind, within_reads}
use Rattle.volume_step.proofs.Valued.{command_still, if_none, if_some, spills_behind, spills_err, spills_looked, spills_ok}
use Rattle.volume_step.proofs.owning.set_attribute.Goals as goal

pub setattr-requires-clause-closed : goal.setattr-requires-clause-closed
setattr-requires-clause-closed g c told at shut =
    let tells = sym c.change_at.ensures.looked.reads.looks.same.tells ∙ told in
    subst (λ (k : Content). IsJournalSector k at) (sym (c.change_at.ensures.looked.reads.looks.content tells)) (c.requires.closed tells at ((c.change_at.ensures.looked.reads.looks.closed tells at).0 shut))

pub returns-in-Some-clause-answered : goal.returns-in-Some-clause-answered
returns-in-Some-clause-answered g c tells =
    subst (λ (k : Content). StepsTo (outcome.Answered c.in-Some.reply c.in_ok-changes.changes) (capacity_of c.args.volume.now) c.args.number (command.SetAttr c.args.path.now c.args.name.now c.args.value.now) k (g.P.SectorView.space c.setattr.new.space).content) (c.change_at.ensures.looked.reads.looks.content tells)
    (set_steps (capacity_of c.args.volume.now) c.args.number c.args.path.now c.args.name.now c.args.value.now c.change_at.new.self (g.P.SectorView.space c.change_at.new.space).content (g.P.SectorView.space c.setattr.new.space).content (c.change_at.ensures.serves.settled (c.change_at.ensures.looked.reads.looks.same.tells ∙ tells))
    (sound_here c.change_at.new.self (g.P.SectorView.space c.change_at.new.space) (c.change_at.ensures.looked.stands.stands (c.change_at.ensures.looked.reads.looks.same.tells ∙ tells)) (c.change_at.ensures.serves.settled (c.change_at.ensures.looked.reads.looks.same.tells ∙ tells)))
    (sound_here c.setattr.new.volume (g.P.SectorView.space c.setattr.new.space) (c.in_ok-reply.ensures.serves.stands.stands (c.setattr.ensures.spills.same.tells ∙ (c.change_at.ensures.looked.reads.looks.same.tells ∙ tells))) (c.in_ok-reply.ensures.serves.settled (c.setattr.ensures.spills.same.tells ∙ (c.change_at.ensures.looked.reads.looks.same.tells ∙ tells))))
    (subst (λ (k : Content). Affords (capacity_of c.args.volume.now) (command.SetAttr c.args.path.now c.args.name.now c.args.value.now) k) (sym (c.change_at.ensures.looked.reads.looks.content tells)) (c.requires.affords tells)) c.in-Some.reply (if_some _ c.in_ok-reply.field-0 c.in-Some.reply c.in-Some.is (c.in_ok-reply.ensures.reply (c.change_at.ensures.looked.reads.looks.same.tells ∙ tells)))
    (λ has. (if_some _ c.in_ok-reply.field-0 c.in-Some.reply c.in-Some.is (c.in_ok-reply.ensures.tree (c.change_at.ensures.looked.reads.looks.same.tells ∙ tells) has)))
    (λ ok. c.in_ok-reply.ensures.lists (c.change_at.ensures.looked.reads.looks.same.tells ∙ tells) (c.in-Some.is ∙ ap Some ok)) c.in_ok-changes.changes
    (λ not_own entry is. c.in_ok-changes.ensures.told tells not_own entry (ap (λ (k : Content). reached (tree_of k) c.args.path.now) (sym (c.change_at.ensures.looked.reads.looks.content tells)) ∙ is)))

pub returns-in-None-clause-answered : goal.returns-in-None-clause-answered
returns-in-None-clause-answered g c tells =
    if_none _ c.in_ok-reply.field-0 c.in-None.is (c.in_ok-reply.ensures.waits (c.change_at.ensures.looked.reads.looks.same.tells ∙ tells)) ∙ c.change_at.ensures.looked.reads.looks.content tells

pub returns-in-Some-clause-place : goal.returns-in-Some-clause-place
returns-in-Some-clause-place g c tells =
    subst (λ (k : Content). KeepsJournal k (g.P.SectorView.space c.setattr.new.space).content) (c.change_at.ensures.looked.reads.looks.content tells)
    (set_place (capacity_of c.args.volume.now) c.args.number c.args.path.now c.args.name.now c.args.value.now c.change_at.new.self (g.P.SectorView.space c.change_at.new.space).content (g.P.SectorView.space c.setattr.new.space).content (c.change_at.ensures.serves.settled (c.change_at.ensures.looked.reads.looks.same.tells ∙ tells))
    (sound_here c.change_at.new.self (g.P.SectorView.space c.change_at.new.space) (c.change_at.ensures.looked.stands.stands (c.change_at.ensures.looked.reads.looks.same.tells ∙ tells)) (c.change_at.ensures.serves.settled (c.change_at.ensures.looked.reads.looks.same.tells ∙ tells)))
    (sound_here c.setattr.new.volume (g.P.SectorView.space c.setattr.new.space) (c.in_ok-reply.ensures.serves.stands.stands (c.setattr.ensures.spills.same.tells ∙ (c.change_at.ensures.looked.reads.looks.same.tells ∙ tells))) (c.in_ok-reply.ensures.serves.settled (c.setattr.ensures.spills.same.tells ∙ (c.change_at.ensures.looked.reads.looks.same.tells ∙ tells))))
    (subst (λ (k : Content). Affords (capacity_of c.args.volume.now) (command.SetAttr c.args.path.now c.args.name.now c.args.value.now) k) (sym (c.change_at.ensures.looked.reads.looks.content tells)) (c.requires.affords tells)) c.in-Some.reply (if_some _ c.in_ok-reply.field-0 c.in-Some.reply c.in-Some.is (c.in_ok-reply.ensures.reply (c.change_at.ensures.looked.reads.looks.same.tells ∙ tells)))
    (λ has. (if_some _ c.in_ok-reply.field-0 c.in-Some.reply c.in-Some.is (c.in_ok-reply.ensures.tree (c.change_at.ensures.looked.reads.looks.same.tells ∙ tells) has)))
    (λ ok. c.in_ok-reply.ensures.lists (c.change_at.ensures.looked.reads.looks.same.tells ∙ tells) (c.in-Some.is ∙ ap Some ok)))

pub returns-in-None-clause-place : goal.returns-in-None-clause-place
returns-in-None-clause-place g c tells =
    same_place (g.P.SectorView.space c.args.space.now).content (g.P.SectorView.space c.setattr.new.space).content (if_none _ c.in_ok-reply.field-0 c.in-None.is (c.in_ok-reply.ensures.waits (c.change_at.ensures.looked.reads.looks.same.tells ∙ tells)) ∙ c.change_at.ensures.looked.reads.looks.content tells)

pub returns-in-Some-clause-done : goal.returns-in-Some-clause-done
returns-in-Some-clause-done g c tells met =
    done_ok c.in-Some.reply c.in_ok-changes.changes
    (set_fine (capacity_of c.args.volume.now) c.args.path.now c.args.name.now c.args.value.now c.change_at.new.self (g.P.SectorView.space c.change_at.new.space).content (c.change_at.ensures.serves.settled (c.change_at.ensures.looked.reads.looks.same.tells ∙ tells))
    (subst (λ (k : Content). Affords (capacity_of c.args.volume.now) (command.SetAttr c.args.path.now c.args.name.now c.args.value.now) k) (sym (c.change_at.ensures.looked.reads.looks.content tells)) (c.requires.affords tells)) c.in-Some.reply (if_some _ c.in_ok-reply.field-0 c.in-Some.reply c.in-Some.is (c.in_ok-reply.ensures.reply (c.change_at.ensures.looked.reads.looks.same.tells ∙ tells))))

pub returns-in-None-clause-done : goal.returns-in-None-clause-done
returns-in-None-clause-done g c tells met =
    if_none _ c.in_ok-reply.field-0 c.in-None.is (c.in_ok-reply.ensures.unmet (c.change_at.ensures.looked.reads.looks.same.tells ∙ tells))
    (command_still (command.SetAttr c.args.path.now c.args.name.now c.args.value.now) c.args.volume.now c.change_at.new.self (g.P.SectorView.space c.args.space.now) (g.P.SectorView.space c.change_at.new.space) c.change_at.ensures.looked.reads tells met)

pub returns-in-Some-clause-loads : goal.returns-in-Some-clause-loads
returns-in-Some-clause-loads g c tells =
    within_behind (command.SetAttr c.args.path.now c.args.name.now c.args.value.now) c.args.volume.now c.change_at.new.self (g.P.SectorView.space c.args.space.now) (g.P.SectorView.space c.change_at.new.space) (g.P.SectorView.space c.setattr.new.space) c.change_at.ensures.looked.reads tells (λ load grow is. c.setattr.ensures.loads (c.change_at.ensures.looked.reads.looks.same.tells ∙ tells) load grow is)

pub returns-in-None-clause-loads : goal.returns-in-None-clause-loads
returns-in-None-clause-loads g c tells =
    within_behind (command.SetAttr c.args.path.now c.args.name.now c.args.value.now) c.args.volume.now c.change_at.new.self (g.P.SectorView.space c.args.space.now) (g.P.SectorView.space c.change_at.new.space) (g.P.SectorView.space c.setattr.new.space) c.change_at.ensures.looked.reads tells (λ load grow is. c.setattr.ensures.loads (c.change_at.ensures.looked.reads.looks.same.tells ∙ tells) load grow is)

pub returns-in_err-reply-clause-loads : goal.returns-in_err-reply-clause-loads
returns-in_err-reply-clause-loads g c tells =
    within_behind (command.SetAttr c.args.path.now c.args.name.now c.args.value.now) c.args.volume.now c.change_at.new.self (g.P.SectorView.space c.args.space.now) (g.P.SectorView.space c.change_at.new.space) (g.P.SectorView.space c.setattr.new.space) c.change_at.ensures.looked.reads tells (λ load grow is. c.setattr.ensures.loads (c.change_at.ensures.looked.reads.looks.same.tells ∙ tells) load grow is)

pub returns-in_err-changes-clause-loads : goal.returns-in_err-changes-clause-loads
returns-in_err-changes-clause-loads g c tells =
    within_reads (command.SetAttr c.args.path.now c.args.name.now c.args.value.now) c.args.volume.now c.change_at.new.self (g.P.SectorView.space c.args.space.now) (g.P.SectorView.space c.change_at.new.space) c.change_at.ensures.looked.reads

pub returns-in-Some-clause-spills : goal.returns-in-Some-clause-spills
returns-in-Some-clause-spills g c =
    spills_ok (spills_behind g.met.P.SectorView.follows_trans c.change_at.ensures.looked c.in_ok-reply.ensures.spills)

pub returns-in-None-clause-spills : goal.returns-in-None-clause-spills
returns-in-None-clause-spills g c =
    spills_ok (spills_behind g.met.P.SectorView.follows_trans c.change_at.ensures.looked c.in_ok-reply.ensures.spills)

pub returns-in_err-reply-clause-spills : goal.returns-in_err-reply-clause-spills
returns-in_err-reply-clause-spills g c =
    spills_err c.from_residual-in_err-reply.ensures.1 (spills_behind g.met.P.SectorView.follows_trans c.change_at.ensures.looked c.in_err-reply.ensures.spills)

pub returns-in_err-changes-clause-spills : goal.returns-in_err-changes-clause-spills
returns-in_err-changes-clause-spills g c =
    spills_err c.from_residual.ensures.1 (spills_looked (g.P.SectorView.space c.args.space.now).spare c.in_err-changes.ensures.looked)
