use Rattle.std.proofs.Common.{◌≡◌, sym, ◌∙◌, ap, subst}
use Rattle.std.specs.Prelude.{IfNone, IfSome, Option, Some, Ok}
use Rattle.sector_disk.specs.Lists.{Content}
use Rattle.hfs_language.specs.declared.command.Command.TheVariants as command
use Rattle.hfs_language.specs.declared.reply.Reply.{Reply}
use Rattle.hfs_model.specs.Step.{reached, step_line}
use Rattle.hfs_volume.specs.Aside.{IsJournalSector}
use Rattle.hfs_volume.specs.TreeOf.{tree_of}
use Rattle.volume_base.specs.Room.{capacity_of}
use Rattle.volume_space.proofs.Sounding.{sound_here}
use Rattle.volume_step.specs.Steps.{Affords, KeepsJournal, StepsTo}
use Rattle.volume_step.specs.declared.outcome.Outcome.TheVariants as outcome
use Rattle.volume_step.proofs.Done.{same_place}
use Rattle.volume_step.proofs.Putting.{size_place, size_steps}
use Rattle.volume_step.proofs.ReadyData.{data_still, put_none}
use Rattle.volume_step.proofs.Loaded.{within_behind, within_reads}
use Rattle.volume_step.proofs.Unfilled.{filled_still}
use Rattle.volume_step.proofs.Performed.{performs_done, performs_err, performs_failed, performs_looked, performs_then}
use Rattle.volume_step.proofs.resizing.lengthen.Goals as goal

pub lengthen-requires-clause-closed : goal.lengthen-requires-clause-closed
lengthen-requires-clause-closed g c told at shut =
    let tells = sym c.change_at.ensures.looked.reads.looks.same.tells ∙ told in
    subst (λ (k : Content). IsJournalSector k at) (sym (c.change_at.ensures.looked.reads.looks.content tells)) (c.requires.closed tells at ((c.change_at.ensures.looked.reads.looks.closed tells at).0 shut))

pub returns-in-Some-clause-answered : goal.returns-in-Some-clause-answered
returns-in-Some-clause-answered g c tells =
    subst (λ (k : Content). StepsTo (outcome.Answered c.in-Some.reply c.in_ok-changes.changes) (capacity_of c.args.volume.now) c.args.number (command.Trunc c.args.path.now c.args.size) k (g.P.SectorView.space c.lengthen.new.space).content) (c.change_at.ensures.looked.reads.looks.content tells)
    (size_steps (capacity_of c.args.volume.now) c.args.number c.args.path.now c.args.size (g.P.SectorView.space c.change_at.new.space).content (g.P.SectorView.space c.lengthen.new.space).content
    (sound_here c.change_at.new.self (g.P.SectorView.space c.change_at.new.space) (c.change_at.ensures.looked.stands.stands (c.change_at.ensures.looked.reads.looks.same.tells ∙ tells)) (c.change_at.ensures.serves.settled (c.change_at.ensures.looked.reads.looks.same.tells ∙ tells)))
    (sound_here c.lengthen.new.volume (g.P.SectorView.space c.lengthen.new.space) (c.in_ok-reply.ensures.stands.stands (c.lengthen.ensures.same.tells ∙ (c.change_at.ensures.looked.reads.looks.same.tells ∙ tells))) (c.in_ok-reply.ensures.settled (c.change_at.ensures.looked.reads.looks.same.tells ∙ tells)))
    (subst (λ (k : Content). Affords (capacity_of c.args.volume.now) (command.Trunc c.args.path.now c.args.size) k) (sym (c.change_at.ensures.looked.reads.looks.content tells)) (c.requires.affords tells))
    c.in-Some.reply (subst (λ (o : Option Reply). IfSome o (λ reply. reply ≡ (step_line (tree_of (g.P.SectorView.space c.change_at.new.space).content) (Ok (command.Trunc c.args.path.now c.args.size))).0)) c.in-Some.is (c.in_ok-reply.ensures.reply (c.change_at.ensures.looked.reads.looks.same.tells ∙ tells)))
    (subst (λ (o : Option Reply). IfSome o (λ reply. tree_of (g.P.SectorView.space c.lengthen.new.space).content ≡ (step_line (tree_of (g.P.SectorView.space c.change_at.new.space).content) (Ok (command.Trunc c.args.path.now c.args.size))).1)) c.in-Some.is (c.in_ok-reply.ensures.tree (c.change_at.ensures.looked.reads.looks.same.tells ∙ tells)))
    (λ ok. c.in_ok-reply.ensures.lists (c.change_at.ensures.looked.reads.looks.same.tells ∙ tells) (c.in-Some.is ∙ ap Some ok)) c.in_ok-changes.changes
    (λ not_own entry is. c.in_ok-changes.ensures.told tells not_own entry (ap (λ (k : Content). reached (tree_of k) c.args.path.now) (sym (c.change_at.ensures.looked.reads.looks.content tells)) ∙ is)))

pub returns-in-Some-clause-place : goal.returns-in-Some-clause-place
returns-in-Some-clause-place g c tells =
    subst (λ (k : Content). KeepsJournal k (g.P.SectorView.space c.lengthen.new.space).content) (c.change_at.ensures.looked.reads.looks.content tells)
    (size_place (capacity_of c.args.volume.now) c.args.number c.args.path.now c.args.size (g.P.SectorView.space c.change_at.new.space).content (g.P.SectorView.space c.lengthen.new.space).content
    (sound_here c.change_at.new.self (g.P.SectorView.space c.change_at.new.space) (c.change_at.ensures.looked.stands.stands (c.change_at.ensures.looked.reads.looks.same.tells ∙ tells)) (c.change_at.ensures.serves.settled (c.change_at.ensures.looked.reads.looks.same.tells ∙ tells)))
    (sound_here c.lengthen.new.volume (g.P.SectorView.space c.lengthen.new.space) (c.in_ok-reply.ensures.stands.stands (c.lengthen.ensures.same.tells ∙ (c.change_at.ensures.looked.reads.looks.same.tells ∙ tells))) (c.in_ok-reply.ensures.settled (c.change_at.ensures.looked.reads.looks.same.tells ∙ tells)))
    (subst (λ (k : Content). Affords (capacity_of c.args.volume.now) (command.Trunc c.args.path.now c.args.size) k) (sym (c.change_at.ensures.looked.reads.looks.content tells)) (c.requires.affords tells))
    c.in-Some.reply (subst (λ (o : Option Reply). IfSome o (λ reply. reply ≡ (step_line (tree_of (g.P.SectorView.space c.change_at.new.space).content) (Ok (command.Trunc c.args.path.now c.args.size))).0)) c.in-Some.is (c.in_ok-reply.ensures.reply (c.change_at.ensures.looked.reads.looks.same.tells ∙ tells)))
    (subst (λ (o : Option Reply). IfSome o (λ reply. tree_of (g.P.SectorView.space c.lengthen.new.space).content ≡ (step_line (tree_of (g.P.SectorView.space c.change_at.new.space).content) (Ok (command.Trunc c.args.path.now c.args.size))).1)) c.in-Some.is (c.in_ok-reply.ensures.tree (c.change_at.ensures.looked.reads.looks.same.tells ∙ tells)))
    (λ ok. c.in_ok-reply.ensures.lists (c.change_at.ensures.looked.reads.looks.same.tells ∙ tells) (c.in-Some.is ∙ ap Some ok)))

pub returns-in-None-clause-answered : goal.returns-in-None-clause-answered
returns-in-None-clause-answered g c tells = (subst (λ (o : Option Reply). IfNone o ((g.P.SectorView.space c.lengthen.new.space).content ≡ (g.P.SectorView.space c.change_at.new.space).content)) c.in-None.is (c.in_ok-reply.ensures.waits (c.change_at.ensures.looked.reads.looks.same.tells ∙ tells))) ∙ c.change_at.ensures.looked.reads.looks.content tells

pub returns-in-None-clause-place : goal.returns-in-None-clause-place
returns-in-None-clause-place g c tells = same_place (g.P.SectorView.space c.args.space.now).content (g.P.SectorView.space c.lengthen.new.space).content ((subst (λ (o : Option Reply). IfNone o ((g.P.SectorView.space c.lengthen.new.space).content ≡ (g.P.SectorView.space c.change_at.new.space).content)) c.in-None.is (c.in_ok-reply.ensures.waits (c.change_at.ensures.looked.reads.looks.same.tells ∙ tells))) ∙ c.change_at.ensures.looked.reads.looks.content tells)

pub returns-in-None-clause-puts : goal.returns-in-None-clause-puts
returns-in-None-clause-puts g c tells met =
    absurd (put_none c.in_ok-reply.field-0 _ c.in-None.is (c.in_ok-reply.ensures.met (c.change_at.ensures.looked.reads.looks.same.tells ∙ tells))
    (data_still (command.Trunc c.args.path.now c.args.size) c.args.volume.now c.change_at.new.self (g.P.SectorView.space c.args.space.now) (g.P.SectorView.space c.change_at.new.space) c.change_at.ensures.looked.reads tells met))

pub returns-in-Some-clause-loads : goal.returns-in-Some-clause-loads
returns-in-Some-clause-loads g c tells =
    within_behind (command.Trunc c.args.path.now c.args.size) c.args.volume.now c.change_at.new.self (g.P.SectorView.space c.args.space.now) (g.P.SectorView.space c.change_at.new.space) (g.P.SectorView.space c.lengthen.new.space) c.change_at.ensures.looked.reads tells
    (λ load grow is. c.lengthen.ensures.loads (c.change_at.ensures.looked.reads.looks.same.tells ∙ tells) load grow is)

pub returns-in-None-clause-loads : goal.returns-in-None-clause-loads
returns-in-None-clause-loads g c tells =
    within_behind (command.Trunc c.args.path.now c.args.size) c.args.volume.now c.change_at.new.self (g.P.SectorView.space c.args.space.now) (g.P.SectorView.space c.change_at.new.space) (g.P.SectorView.space c.lengthen.new.space) c.change_at.ensures.looked.reads tells
    (λ load grow is. c.lengthen.ensures.loads (c.change_at.ensures.looked.reads.looks.same.tells ∙ tells) load grow is)

pub returns-in_err-reply-clause-loads : goal.returns-in_err-reply-clause-loads
returns-in_err-reply-clause-loads g c tells =
    within_behind (command.Trunc c.args.path.now c.args.size) c.args.volume.now c.change_at.new.self (g.P.SectorView.space c.args.space.now) (g.P.SectorView.space c.change_at.new.space) (g.P.SectorView.space c.lengthen.new.space) c.change_at.ensures.looked.reads tells
    (λ load grow is. c.lengthen.ensures.loads (c.change_at.ensures.looked.reads.looks.same.tells ∙ tells) load grow is)

pub returns-in_err-changes-clause-loads : goal.returns-in_err-changes-clause-loads
returns-in_err-changes-clause-loads g c tells = within_reads (command.Trunc c.args.path.now c.args.size) c.args.volume.now c.change_at.new.self (g.P.SectorView.space c.args.space.now) (g.P.SectorView.space c.change_at.new.space) c.change_at.ensures.looked.reads

pub lengthen-requires-clause-filled : goal.lengthen-requires-clause-filled
lengthen-requires-clause-filled g c = filled_still c.args.volume.now c.change_at.new.self (g.P.SectorView.space c.args.space.now) (g.P.SectorView.space c.change_at.new.space) c.change_at.ensures.looked.reads c.requires.filled

pub returns-in-Some-clause-frame : goal.returns-in-Some-clause-frame
returns-in-Some-clause-frame g c = performs_then g.met.P.SectorView.follows_trans c.change_at.ensures.looked (performs_done c.lengthen.ensures.below c.in_ok-reply.ensures.cause.later c.in_ok-reply.ensures.stands c.in_ok-reply.ensures.settled c.in_ok-reply.ensures.holds c.lengthen.ensures.capacity c.lengthen.ensures.touches c.lengthen.ensures.same)

pub returns-in-None-clause-frame : goal.returns-in-None-clause-frame
returns-in-None-clause-frame g c = performs_then g.met.P.SectorView.follows_trans c.change_at.ensures.looked (performs_done c.lengthen.ensures.below c.in_ok-reply.ensures.cause.later c.in_ok-reply.ensures.stands c.in_ok-reply.ensures.settled c.in_ok-reply.ensures.holds c.lengthen.ensures.capacity c.lengthen.ensures.touches c.lengthen.ensures.same)

pub returns-in_err-reply-clause-frame : goal.returns-in_err-reply-clause-frame
returns-in_err-reply-clause-frame g c = performs_err c.from_residual-in_err-reply.ensures.1 (performs_then g.met.P.SectorView.follows_trans c.change_at.ensures.looked (performs_failed c.lengthen.ensures.below c.in_err-reply.ensures.cause c.lengthen.ensures.service c.lengthen.ensures.capacity c.lengthen.ensures.touches c.lengthen.ensures.same))

pub returns-in_err-changes-clause-frame : goal.returns-in_err-changes-clause-frame
returns-in_err-changes-clause-frame g c = performs_err c.from_residual.ensures.1 (performs_looked c.in_err-changes.ensures.looked c.change_at.ensures.serves)
